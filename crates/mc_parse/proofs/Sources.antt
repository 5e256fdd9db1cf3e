-- The ways through FROM, WHERE and GROUP BY.
use Rattle.std.proofs.Common.{◌≡◌, refl, sym, ap, ◌∙◌, subst, ℕ, Bool, true, false, List, [], ◌∷◌}
use Rattle.std.proofs.Common.{IsTrue}
use Rattle.std.proofs.Common.{Option, Some, None, codes, length, map, arith}
use Rattle.std.specs.Option.{option_map}
use Rattle.mc_base.specs.declared.span.Span.{Span}
use Rattle.mc_token.specs.Keywords.{keyword_of}
use Rattle.mc_token.specs.declared.lexeme.Lexeme.TheVariants.{Word}
use Rattle.mc_token.specs.declared.lexeme.Token.{Token}
use Rattle.mc_grammar.proofs.Inside.{enter}
use Rattle.mc_grammar.proofs.Seeing.{sees_next}
use Rattle.mc_grammar.proofs.Ways.{choose, take_token, read_rule}
use Rattle.mc_sql.specs.Classes.{word, name, is_intro, is_called, is_lexeme_of}
use Rattle.mc_sql.specs.Nest.{nest_limit}
use Rattle.mc_sql.specs.Rules.{where_option, no_where, or, source as a_source, source_option}
use Rattle.mc_sql.specs.Rules.{no_source, group_option}
use Rattle.mc_ast.specs.declared.expr.Expr.{Expr}
use Rattle.mc_ast.specs.declared.statement.Statement.{Statement}
use Rattle.mc_ast.specs.Values.{Operand, Source, lexeme_text, operands, maybe_operand, source}
use Rattle.mc_parse.specs.declared.fault.Fault.{Fault}
use Rattle.mc_parse.specs.declared.fault.Fault.TheVariants.{NoReading}
use Rattle.mc_parse.specs.declared.operand.Operand.{Operand as Found}
use Rattle.mc_parse.specs.Clauses.{IsClause, IsClauseFault, HasMore, HasFilter, HasSource}
use Rattle.mc_parse.specs.Clauses.{with_source}
use Rattle.mc_parse.specs.Language.{language, behind, behind_at}
use Rattle.mc_parse.specs.Place.{is_missing, IsNext, IsTextOf}
use Rattle.mc_parse.specs.Read.{IsFault, IsOperandAt, as_operand}
use Rattle.mc_parse.proofs.NameWays.{only_next}
use Rattle.mc_parse.proofs.Ways.{sound, sees_missing, is_fault, is_missed}
use Rattle.mc_parse.proofs.ClauseSteps.{the_token, clause_read, option_left, one_missing}

-- WHERE
where_here : (s : Span) (v w : List Token) (x : Found)
    → IsOperandAt false or nest_limit v w x
    → IsClause where_option (the_token s (Word (codes "where")) ∷ v) w
    (maybe_operand (Some (as_operand x)))
unfolding behind behind_at keyword_of is_intro is_called
where_here s v w x o =
    clause_read (read_rule language sound (take_token language sound
    (choose language sound (sees_next language sound (the_token s (Word (codes "where")) ∷ v)))
    refl) o.done refl refl (omega arith)) (omega arith)

pub where_read : (tokens v w : List Token) (x : Found) → IsNext (Word (codes "where")) tokens v
    → IsOperandAt false or nest_limit v w x → HasFilter tokens w (Some x.expr)
where_read tokens v w x n o = record {
  operand = Some (as_operand x);
  clause = subst (λ (ts : List Token). IsClause where_option ts w
      (maybe_operand (Some (as_operand x)))) (sym n.same) (where_here n.span v w x o);
  same = refl;
}

pub where_left : (tokens : List Token) → IsTrue (is_missing (word (codes "where")) tokens)
    → HasFilter tokens tokens None
unfolding behind keyword_of is_intro is_called
where_left tokens h = record {
  operand = None;
  clause = option_left where_option no_where (word (codes "where") ∷ []) tokens
      (one_missing (word (codes "where")) tokens h) refl;
  same = refl;
}

where_fault_here : (s : Span) (v : List Token) (fault : Fault)
    → IsFault (behind_at false or) or nest_limit v fault
    → IsClauseFault where_option (the_token s (Word (codes "where")) ∷ v) fault
unfolding behind behind_at keyword_of is_intro is_called
where_fault_here s v fault o =
    is_fault (take_token language sound
    (choose language sound (sees_next language sound (the_token s (Word (codes "where")) ∷ v)))
    refl) o refl refl (omega arith)

pub where_fault : (tokens v : List Token) (fault : Fault) → IsNext (Word (codes "where")) tokens v
    → IsFault (behind_at false or) or nest_limit v fault → IsClauseFault where_option tokens fault
where_fault tokens v fault n o =
    subst (λ (ts : List Token). IsClauseFault where_option ts fault) (sym n.same)
    (where_fault_here n.span v fault o)

-- FROM and a name are next.
record AreNamed (tokens rest : List Token) (text : List ℕ) : Type 0 where
  span : Span
  token : Token
  same : tokens ≡ the_token span (Word (codes "from")) ∷ token ∷ rest
  of_class : IsTrue (is_lexeme_of name token.kind)
  says : text ≡ lexeme_text token.kind

are_named : (tokens from rest : List Token) (text : List ℕ)
    → IsNext (Word (codes "from")) tokens from → IsTextOf name from rest text
    → AreNamed tokens rest text
are_named tokens from rest text n m = record {
  span = n.span;
  token = m.token;
  same = n.same ∙ ap (λ (ts : List Token). the_token n.span (Word (codes "from")) ∷ ts) m.same;
  of_class = m.of_class;
  says = m.says;
}

source_here : (s : Span) (t : Token) (v w u : List Token) (filter : Option Operand)
    (groups : List Operand) → IsTrue (is_lexeme_of name t.kind)
    → IsClause where_option v w (maybe_operand filter)
    → IsClause group_option w u (operands groups)
    → IsClause a_source (the_token s (Word (codes "from")) ∷ t ∷ v) u (source (Some (record {
      table = lexeme_text t.kind;
      filter = option_map (λ x. x.expr) filter;
      groups = map (λ x. x.expr) groups;
    })))
unfolding behind keyword_of is_intro is_called
source_here s t v w u filter groups h o e =
    clause_read (read_rule language sound (read_rule language sound (take_token language sound
    (take_token language sound (enter language _ _ _) refl)
    (only_next (is_lexeme_of name t.kind) h)) o.done refl refl (omega arith))
    e.done refl refl (omega arith)) (omega arith)

pub source_read : (tokens from v w u : List Token) (text : List ℕ) (before now : Statement)
    (filter : Option Expr) (groups : List Expr)
    → IsNext (Word (codes "from")) tokens from → IsTextOf name from v text
    → HasFilter v w filter
    → HasMore group_option (λ xs. operands xs) (λ x. x.expr) w u before.groups groups
    → now ≡ record before { table = Some text; filter = filter; groups = groups }
    → HasSource a_source tokens u before now
source_read tokens from v w u text before now filter groups n m o e same =
    let named : AreNamed tokens v text = are_named tokens from v text n m in
    record {
      from = Some (record {
        table = lexeme_text named.token.kind;
        filter = option_map (λ x. x.expr) o.operand;
        groups = map (λ x. x.expr) e.members;
      });
      clause = subst (λ (ts : List Token). IsClause a_source ts u (source (Some (record {
        table = lexeme_text named.token.kind;
        filter = option_map (λ x. x.expr) o.operand;
        groups = map (λ x. x.expr) e.members;
      })))) (sym named.same)
          (source_here named.span named.token v w u o.operand e.members named.of_class o.clause
          e.clause);
      same = same
          ∙ ap (λ (x : List ℕ). record before { table = Some x; filter = filter; groups = groups })
          named.says
          ∙ ap (λ (x : Option Expr). record before {
            table = Some (lexeme_text named.token.kind);
            filter = x;
            groups = groups;
          }) o.same
          ∙ ap (λ (x : List Expr). record before {
            table = Some (lexeme_text named.token.kind);
            filter = option_map (λ y. y.expr) o.operand;
            groups = x;
          }) e.same;
    }

pub source_missed : (tokens : List Token) (left : ℕ)
    → IsTrue (is_missing (word (codes "from")) tokens) → left ≡ length tokens
    → IsClauseFault a_source tokens (NoReading left)
unfolding behind keyword_of is_intro is_called
source_missed tokens left h e =
    subst (λ (m : ℕ). IsClauseFault a_source tokens (NoReading m)) (sym e)
    (is_missed (enter language _ _ _) (sees_missing (word (codes "from") ∷ []) tokens
    (one_missing (word (codes "from")) tokens h)) refl (omega arith))

name_missed_here : (s : Span) (v : List Token) → IsTrue (is_missing name v)
    → IsClauseFault a_source (the_token s (Word (codes "from")) ∷ v) (NoReading (length v))
unfolding behind keyword_of is_intro is_called
name_missed_here s v h =
    is_missed (take_token language sound (enter language _ _ _) refl)
    (sees_missing (name ∷ []) v (one_missing name v h)) refl (omega arith)

pub table_missed : (tokens from : List Token) (left : ℕ)
    → IsNext (Word (codes "from")) tokens from → IsTrue (is_missing name from)
    → left ≡ length from → IsClauseFault a_source tokens (NoReading left)
table_missed tokens from left n h e =
    subst (λ (m : ℕ). IsClauseFault a_source tokens (NoReading m)) (sym e)
    (subst (λ (ts : List Token). IsClauseFault a_source ts (NoReading (length from))) (sym n.same)
    (name_missed_here n.span from h))

filter_fault_here : (s : Span) (t : Token) (v : List Token) (fault : Fault)
    → IsTrue (is_lexeme_of name t.kind) → IsClauseFault where_option v fault
    → IsClauseFault a_source (the_token s (Word (codes "from")) ∷ t ∷ v) fault
unfolding behind keyword_of is_intro is_called
filter_fault_here s t v fault h o =
    is_fault (take_token language sound
    (take_token language sound (enter language _ _ _) refl)
    (only_next (is_lexeme_of name t.kind) h)) o refl refl (omega arith)

pub filter_fault : (tokens from v : List Token) (text : List ℕ) (fault : Fault)
    → IsNext (Word (codes "from")) tokens from → IsTextOf name from v text
    → IsClauseFault where_option v fault → IsClauseFault a_source tokens fault
filter_fault tokens from v text fault n m o =
    let named : AreNamed tokens v text = are_named tokens from v text n m in
    subst (λ (ts : List Token). IsClauseFault a_source ts fault) (sym named.same)
    (filter_fault_here named.span named.token v fault named.of_class o)

groups_fault_here : (s : Span) (t : Token) (v w : List Token) (filter : Option Operand)
    (fault : Fault) → IsTrue (is_lexeme_of name t.kind)
    → IsClause where_option v w (maybe_operand filter) → IsClauseFault group_option w fault
    → IsClauseFault a_source (the_token s (Word (codes "from")) ∷ t ∷ v) fault
unfolding behind keyword_of is_intro is_called
groups_fault_here s t v w filter fault h o e =
    is_fault (read_rule language sound (take_token language sound
    (take_token language sound (enter language _ _ _) refl)
    (only_next (is_lexeme_of name t.kind) h)) o.done refl refl (omega arith))
    e refl refl (omega arith)

pub groups_fault : (tokens from v w : List Token) (text : List ℕ) (filter : Option Expr)
    (fault : Fault) → IsNext (Word (codes "from")) tokens from → IsTextOf name from v text
    → HasFilter v w filter → IsClauseFault group_option w fault
    → IsClauseFault a_source tokens fault
groups_fault tokens from v w text filter fault n m o e =
    let named : AreNamed tokens v text = are_named tokens from v text n m in
    subst (λ (ts : List Token). IsClauseFault a_source ts fault) (sym named.same)
    (groups_fault_here named.span named.token v w o.operand fault named.of_class o.clause e)

-- FROM that may be left out
given_here : (s : Span) (v w : List Token) (from : Option Source)
    → IsClause a_source (the_token s (Word (codes "from")) ∷ v) w (source from)
    → IsClause source_option (the_token s (Word (codes "from")) ∷ v) w (source from)
unfolding behind keyword_of is_intro is_called
given_here s v w from o =
    clause_read (read_rule language sound
    (choose language sound (sees_next language sound (the_token s (Word (codes "from")) ∷ v)))
    o.done refl refl (omega arith)) (omega arith)

pub source_given : (tokens v w : List Token) (before now : Statement)
    → IsNext (Word (codes "from")) tokens v → HasSource a_source tokens w before now
    → HasSource source_option tokens w before now
source_given tokens v w before now n o = record {
  from = o.from;
  clause = subst (λ (ts : List Token). IsClause source_option ts w (source o.from)) (sym n.same)
      (given_here n.span v w o.from
      (subst (λ (ts : List Token). IsClause a_source ts w (source o.from)) n.same o.clause));
  same = o.same;
}

pub source_left : (tokens : List Token) (tree : Statement)
    → IsTrue (is_missing (word (codes "from")) tokens)
    → HasSource source_option tokens tokens tree tree
unfolding behind keyword_of is_intro is_called
source_left tokens tree h = record {
  from = None;
  clause = option_left source_option no_source (word (codes "from") ∷ []) tokens
      (one_missing (word (codes "from")) tokens h) refl;
  same = refl;
}

given_fault_here : (s : Span) (v : List Token) (fault : Fault)
    → IsClauseFault a_source (the_token s (Word (codes "from")) ∷ v) fault
    → IsClauseFault source_option (the_token s (Word (codes "from")) ∷ v) fault
unfolding behind keyword_of is_intro is_called
given_fault_here s v fault o =
    is_fault (choose language sound
    (sees_next language sound (the_token s (Word (codes "from")) ∷ v))) o refl refl (omega arith)

pub given_fault : (tokens v : List Token) (fault : Fault) → IsNext (Word (codes "from")) tokens v
    → IsClauseFault a_source tokens fault → IsClauseFault source_option tokens fault
given_fault tokens v fault n o =
    subst (λ (ts : List Token). IsClauseFault source_option ts fault) (sym n.same)
    (given_fault_here n.span v fault
    (subst (λ (ts : List Token). IsClauseFault a_source ts fault) n.same o))

-- The ways through each function, by its name.
pub ruleset where_option_ways = (where_read, where_left, where_fault)

pub ruleset source_ways = (source_read, source_missed, table_missed, filter_fault, groups_fault)

pub ruleset source_option_ways = (source_given, source_left, given_fault)
