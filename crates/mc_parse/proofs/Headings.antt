-- The ways through lists with two words before them: ORDER BY and GROUP BY.
use Rattle.std.proofs.Common.{◌≡◌, refl, sym, ap, ◌∙◌, subst, ℕ, ◌<◌, ◌≤◌, List, [], ◌∷◌, ◌++◌, map}
use Rattle.std.proofs.Common.{true, false, IsTrue, codes, length, length-append, append_assoc}
use Rattle.std.proofs.Common.{append-nil, arith}
use Rattle.std.proofs.lemmas.List.{map-append}
use Rattle.mc_base.specs.declared.span.Span.{Span}
use Rattle.mc_token.specs.Keywords.{keyword_of}
use Rattle.mc_token.specs.declared.lexeme.Lexeme.TheVariants.{Word, Sym}
use Rattle.mc_token.specs.declared.lexeme.Symbol.TheVariants.{Comma}
use Rattle.mc_token.specs.declared.lexeme.Token.{Token}
use Rattle.mc_grammar.specs.Grammar.{Symbol, one, rule}
use Rattle.mc_grammar.specs.Ahead.{Ahead, every}
use Rattle.mc_grammar.specs.Places.{Place, Inside, Done, kept, entries, is_met, is_next, all_pass}
use Rattle.mc_grammar.specs.Places.{all_out}
use Rattle.mc_grammar.specs.Chains.{Chain}
use Rattle.mc_grammar.specs.Room.{Roomed, Admitted}
use Rattle.mc_grammar.proofs.Links.{chain_start, chain_widen}
use Rattle.mc_grammar.proofs.Seeing.{sees_next}
use Rattle.mc_grammar.proofs.Ways.{choose, take_token, read_rule, one_link, last_link}
use Rattle.mc_sql.specs.Classes.{Class, word, mark, is_intro, is_called}
use Rattle.mc_sql.specs.Nest.{nest_limit}
use Rattle.mc_sql.specs.Rules.{Rule, Alternative, more_items, item, no_more_items, one_more_item}
use Rattle.mc_sql.specs.Rules.{more_orders, order, no_more_orders, one_more_order}
use Rattle.mc_sql.specs.Rules.{more_ors, or, no_more_ors, one_more_or, order_option, no_order}
use Rattle.mc_sql.specs.Rules.{order_by, group_option, no_group, group_by}
use Rattle.mc_ast.specs.declared.expr.Expr.{Expr}
use Rattle.mc_ast.specs.declared.statement.Item.{Item}
use Rattle.mc_ast.specs.declared.statement.OrderItem.{OrderItem}
use Rattle.mc_ast.specs.Meaning.{meaning}
use Rattle.mc_ast.specs.Spans.{span_of}
use Rattle.mc_ast.specs.Values.{Value, Operand, operand, operands, item as an_item, items}
use Rattle.mc_ast.specs.Values.{order_item, order_items}
use Rattle.mc_parse.specs.declared.fault.Fault.{Fault}
use Rattle.mc_parse.specs.declared.fault.Fault.TheVariants.{NoReading}
use Rattle.mc_parse.specs.Calls.{IsPushed, HasOrs}
use Rattle.mc_parse.specs.Clauses.{IsClause, IsClauseFault, HasMore, HasOne}
use Rattle.mc_parse.specs.Language.{language, at, behind, behind_at}
use Rattle.mc_parse.specs.Place.{is_missing, IsNext}
use Rattle.mc_parse.specs.Read.{IsFault}
use Rattle.mc_parse.proofs.Ways.{sound, sees_missing, is_fault, is_missed, is_link_fault}
use Rattle.mc_parse.proofs.ClauseSteps.{the_token, none_of, clause_read, option_left, one_missing}
use Rattle.mc_parse.proofs.ClauseSteps.{ThePlace, the_place, a_class, a_rule, starting}
use Rattle.mc_parse.proofs.CommaLists.{CommaList, more_order, more_or}

-- Two words and a list: ORDER BY and GROUP BY.
pub record Heading (X Y : Type 0) : Type 0 where
  pub list : CommaList X Y
  pub option : Rule
  pub without : Alternative
  pub with_list : Alternative
  pub first_word : List ℕ
  pub chosen : (s : Span) (v : List Token)
      → kept language (λ k. is_met language k (the_token s (Word first_word) ∷ v)) (behind option)
      (starting option)
      ≡ the_place with_list (a_class (word first_word) ∷ a_class (word (codes "by"))
      ∷ a_rule list.member ∷ a_rule list.more ∷ [])
  pub takes : (s : Span) → IsTrue (every
      (λ p. is_next language (language.bound (the_token s (Word first_word))) p.left)
      (the_place with_list (a_class (word first_word) ∷ a_class (word (codes "by"))
      ∷ a_rule list.member ∷ a_rule list.more ∷ [])))
  pub left_out : kept language (λ k. none_of (word first_word ∷ []) k) (behind option)
      (starting option) ≡ the_place without []
  pub out : IsTrue (all_out language (λ k. none_of (word (codes "by") ∷ []) k) (behind option)
      (the_place with_list (a_class (word (codes "by")) ∷ a_rule list.member
      ∷ a_rule list.more ∷ [])))
  pub passes : IsTrue (all_pass language (behind option)
      (the_place with_list (a_rule list.more ∷ [])) list.after)
  pub passes_more : IsTrue (all_pass language (behind option) (the_place with_list [])
      (behind list.more))
  pub value_of_none : meaning without (span_of []) [] ≡ list.value []
  pub value_of_more : (span : Span) (s t : Value) (x : X) (others : List X)
      → meaning with_list span (s ∷ t ∷ list.member_value x ∷ list.value others ∷ [])
      ≡ list.value (x ∷ others)

module _ {X Y : Type 0} (h : Heading X Y) where
  at_word : (s : Span) (v : List Token)
      → Inside language (behind h.option) 0 (at nest_limit h.option)
      (the_place h.with_list (a_class (word (codes "by")) ∷ a_rule h.list.member
      ∷ a_rule h.list.more ∷ []))
      (language.token_value (the_token s (Word h.first_word)) ∷ [])
      (the_token s (Word h.first_word) ∷ v) (the_token s (Word h.first_word) ∷ []) v
  at_word s v =
      take_token language sound
      (subst (λ (ps : List ThePlace). Inside language (behind h.option) 1
      (at nest_limit h.option) ps
      [] (the_token s (Word h.first_word) ∷ v) [] (the_token s (Word h.first_word) ∷ v))
      (h.chosen s v)
      (choose language sound (sees_next language sound (the_token s (Word h.first_word) ∷ v))))
      (h.takes s)

  at_by : (s u : Span) (v : List Token)
      → Inside language (behind h.option) 0 (at nest_limit h.option)
      (the_place h.with_list (a_rule h.list.member ∷ a_rule h.list.more ∷ []))
      (language.token_value (the_token s (Word h.first_word))
      ∷ language.token_value (the_token u (Word (codes "by"))) ∷ [])
      (the_token s (Word h.first_word) ∷ the_token u (Word (codes "by")) ∷ v)
      (the_token s (Word h.first_word) ∷ the_token u (Word (codes "by")) ∷ []) v
  at_by s u v =
      take_token language sound (at_word s (the_token u (Word (codes "by")) ∷ v)) refl

  -- Both words are next.
  pub record AreNext (tokens rest : List Token) : Type 0 where
    pub first : Span
    pub second : Span
    pub same : tokens
        ≡ the_token first (Word h.first_word) ∷ the_token second (Word (codes "by")) ∷ rest

  pub are_next : (tokens by rest : List Token) → IsNext (Word h.first_word) tokens by
      → IsNext (Word (codes "by")) by rest → AreNext tokens rest
  are_next tokens by rest n m = record {
    first = n.span;
    second = m.span;
    same = n.same ∙ ap (λ (ts : List Token). the_token n.span (Word h.first_word) ∷ ts) m.same;
  }

  pub heading_left : (tokens : List Token) (before : List Y)
      → IsTrue (is_missing (word h.first_word) tokens)
      → HasMore h.option h.list.value h.list.shown tokens tokens before before
  heading_left tokens before e = record {
    members = [];
    clause = subst (λ (x : Value). IsClause h.option tokens tokens x) h.value_of_none
        (option_left h.option h.without (word h.first_word ∷ []) tokens
        (one_missing (word h.first_word) tokens e) h.left_out);
    same = sym (append-nil before);
  }

  pub heading_missed : (tokens by : List Token) (left : ℕ) → IsNext (Word h.first_word) tokens by
      → IsTrue (is_missing (word (codes "by")) by) → left ≡ length by
      → IsClauseFault h.option tokens (NoReading left)
  heading_missed tokens by left n e place =
      subst (λ (m : ℕ). IsClauseFault h.option tokens (NoReading m)) (sym place)
      (subst (λ (ts : List Token). IsClauseFault h.option ts (NoReading (length by))) (sym n.same)
      (is_missed (at_word n.span by)
      (sees_missing (word (codes "by") ∷ []) by (one_missing (word (codes "by")) by e)) h.out
      (omega arith)))

  pub heading_fault : (tokens by rest : List Token) (fault : Fault)
      → IsNext (Word h.first_word) tokens by → IsNext (Word (codes "by")) by rest
      → IsFault h.list.after h.list.member nest_limit rest fault
      → IsClauseFault h.option tokens fault
  heading_fault tokens by rest fault n m o =
      let both : AreNext tokens rest = are_next tokens by rest n m in
      subst (λ (ts : List Token). IsClauseFault h.option ts fault) (sym both.same)
      (is_fault (at_by both.first both.second rest) o refl h.passes (omega arith))

  pub heading_more_fault : (tokens by rest v : List Token) (before now : List Y) (fault : Fault)
      → IsNext (Word h.first_word) tokens by → IsNext (Word (codes "by")) by rest
      → HasOne h.list.after h.list.member h.list.member_value h.list.shown rest v before now
      → IsClauseFault h.list.more v fault → IsClauseFault h.option tokens fault
  heading_more_fault tokens by rest v before now fault n m o e =
      let both : AreNext tokens rest = are_next tokens by rest n m in
      subst (λ (ts : List Token). IsClauseFault h.option ts fault) (sym both.same)
      (is_fault (read_rule language sound (at_by both.first both.second rest) o.done refl h.passes
      (omega arith)) e refl h.passes_more (omega arith))

  pub heading_read : (tokens by rest v w : List Token) (before now next : List Y)
      → IsNext (Word h.first_word) tokens by → IsNext (Word (codes "by")) by rest
      → HasOne h.list.after h.list.member h.list.member_value h.list.shown rest v before now
      → HasMore h.list.more h.list.value h.list.shown v w now next
      → HasMore h.option h.list.value h.list.shown tokens w before next
  heading_read tokens by rest v w before now next n m o e =
      let both : AreNext tokens rest = are_next tokens by rest n m in
      record {
        members = o.member ∷ e.members;
        clause = subst (λ (ts : List Token). IsClause h.option ts w
            (h.list.value (o.member ∷ e.members))) (sym both.same)
            (subst (λ (x : Value). IsClause h.option
            (the_token both.first (Word h.first_word)
            ∷ the_token both.second (Word (codes "by")) ∷ rest) w x)
            (h.value_of_more _ _ _ o.member e.members)
            (clause_read (read_rule language sound (read_rule language sound
            (at_by both.first both.second rest) o.done refl h.passes (omega arith))
            e.clause.done refl h.passes_more (omega arith)) (omega arith)));
        same = e.same ∙ ap (λ (ys : List Y). ys ++ map h.list.shown e.members) o.same
            ∙ append_assoc before (h.list.shown o.member ∷ []) (map h.list.shown e.members);
      }

unfoldable pub ordering : Heading OrderItem OrderItem
unfolding more_order behind keyword_of is_intro is_called
ordering = record {
  list = more_order;
  option = order_option;
  without = no_order;
  with_list = order_by;
  first_word = codes "order";
  chosen = λ s v. refl;
  takes = λ s. refl;
  left_out = refl;
  out = refl;
  passes = refl;
  passes_more = refl;
  value_of_none = refl;
  value_of_more = λ span s t x others. refl;
}

unfoldable pub grouping : Heading Operand Expr
unfolding more_or behind behind_at keyword_of is_intro is_called
grouping = record {
  list = more_or;
  option = group_option;
  without = no_group;
  with_list = group_by;
  first_word = codes "group";
  chosen = λ s v. refl;
  takes = λ s. refl;
  left_out = refl;
  out = refl;
  passes = refl;
  passes_more = refl;
  value_of_none = refl;
  value_of_more = λ span s t x others. refl;
}

pub orders_left : (tokens : List Token) (before : List OrderItem)
    → IsTrue (is_missing (word (codes "order")) tokens)
    → HasMore order_option (λ xs. order_items xs) (λ x. x) tokens tokens before before
unfolding ordering more_order
orders_left tokens before e = heading_left ordering tokens before e

pub orders_missed : (tokens by : List Token) (left : ℕ)
    → IsNext (Word (codes "order")) tokens by → IsTrue (is_missing (word (codes "by")) by)
    → left ≡ length by → IsClauseFault order_option tokens (NoReading left)
unfolding ordering more_order
orders_missed tokens by left n e place = heading_missed ordering tokens by left n e place

pub orders_fault : (tokens by rest : List Token) (fault : Fault)
    → IsNext (Word (codes "order")) tokens by → IsNext (Word (codes "by")) by rest
    → IsFault (behind order) order nest_limit rest fault → IsClauseFault order_option tokens fault
unfolding ordering more_order
orders_fault tokens by rest fault n m o = heading_fault ordering tokens by rest fault n m o

pub more_orders_fault : (tokens by rest v : List Token) (before now : List OrderItem)
    (fault : Fault)
    → IsNext (Word (codes "order")) tokens by → IsNext (Word (codes "by")) by rest
    → HasOne (behind order) order (λ x. order_item x) (λ x. x) rest v before now
    → IsClauseFault more_orders v fault → IsClauseFault order_option tokens fault
unfolding ordering more_order
more_orders_fault tokens by rest v before now fault n m o e =
    heading_more_fault ordering tokens by rest v before now fault n m o e

pub orders_read : (tokens by rest v w : List Token) (before now next : List OrderItem)
    → IsNext (Word (codes "order")) tokens by → IsNext (Word (codes "by")) by rest
    → HasOne (behind order) order (λ x. order_item x) (λ x. x) rest v before now
    → HasMore more_orders (λ xs. order_items xs) (λ x. x) v w now next
    → HasMore order_option (λ xs. order_items xs) (λ x. x) tokens w before next
unfolding ordering more_order
orders_read tokens by rest v w before now next n m o e =
    heading_read ordering tokens by rest v w before now next n m o e

pub groups_left : (tokens : List Token) (before : List Expr)
    → IsTrue (is_missing (word (codes "group")) tokens)
    → HasMore group_option (λ xs. operands xs) (λ x. x.expr) tokens tokens before before
unfolding grouping more_or
groups_left tokens before e = heading_left grouping tokens before e

pub groups_missed : (tokens by : List Token) (left : ℕ)
    → IsNext (Word (codes "group")) tokens by → IsTrue (is_missing (word (codes "by")) by)
    → left ≡ length by → IsClauseFault group_option tokens (NoReading left)
unfolding grouping more_or
groups_missed tokens by left n e place = heading_missed grouping tokens by left n e place

pub groups_fault : (tokens by rest : List Token) (fault : Fault)
    → IsNext (Word (codes "group")) tokens by → IsNext (Word (codes "by")) by rest
    → IsFault (behind_at false or) or nest_limit rest fault
    → IsClauseFault group_option tokens fault
unfolding grouping more_or
groups_fault tokens by rest fault n m o = heading_fault grouping tokens by rest fault n m o

-- An expression that is put to a list is one member of GROUP BY.
one_pushed : (tokens rest : List Token) (before now : List Expr)
    → IsPushed nest_limit tokens rest before now
    → HasOne (behind_at false or) or (λ x. operand x) (λ x. x.expr) tokens rest before now
one_pushed tokens rest before now o =
    record { member = o.member; done = o.read.done; same = o.listed }

pub more_groups_fault : (tokens by rest v : List Token) (before now : List Expr) (fault : Fault)
    → IsNext (Word (codes "group")) tokens by → IsNext (Word (codes "by")) by rest
    → IsPushed nest_limit rest v before now
    → IsFault (behind more_ors) more_ors nest_limit v fault
    → IsClauseFault group_option tokens fault
unfolding grouping more_or
more_groups_fault tokens by rest v before now fault n m o e =
    heading_more_fault grouping tokens by rest v before now fault n m
    (one_pushed rest v before now o) e

pub groups_read : (tokens by rest v w : List Token) (before now next : List Expr)
    → IsNext (Word (codes "group")) tokens by → IsNext (Word (codes "by")) by rest
    → IsPushed nest_limit rest v before now → HasOrs nest_limit v w now next
    → HasMore group_option (λ xs. operands xs) (λ x. x.expr) tokens w before next
unfolding grouping more_or
groups_read tokens by rest v w before now next n m o e =
    heading_read grouping tokens by rest v w before now next n m (one_pushed rest v before now o)
    (record {
      members = e.members;
      clause = record { done = e.done };
      same = e.listed;
    })

-- The ways through each function, by its name.
pub ruleset group_option_ways =
    (groups_left, groups_missed, groups_fault, more_groups_fault, groups_read)

pub ruleset order_option_ways =
    (orders_left, orders_missed, orders_fault, more_orders_fault, orders_read)
