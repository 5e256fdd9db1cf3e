-- The ways through an item and its alias, and through a place of ORDER BY.
use Rattle.std.proofs.Common.{◌≡◌, refl, sym, ap, ◌∙◌, subst, ℕ, ◌≤◌, ◌+◌, Bool, true, false, not}
use Rattle.std.proofs.Common.{List, [], ◌∷◌}
use Rattle.std.proofs.Common.{◌++◌, IsTrue, Option, Some, None, codes, length, arith}
use Rattle.std.proofs.lemmas.Slice.Eq.{bytes_eq-Decides}
use Rattle.mc_base.specs.declared.span.Span.{Span}
use Rattle.mc_token.specs.Keywords.{keyword_of}
use Rattle.mc_token.specs.declared.lexeme.Lexeme.{Lexeme}
use Rattle.mc_token.specs.declared.lexeme.Lexeme.TheVariants.{Word}
use Rattle.mc_token.specs.declared.lexeme.Token.{Token}
use Rattle.mc_grammar.specs.Places.{Inside}
use Rattle.mc_grammar.proofs.Inside.{enter}
use Rattle.mc_grammar.proofs.Seeing.{sees_next}
use Rattle.mc_grammar.proofs.Ways.{choose, take_token, read_rule, read_rule_far}
use Rattle.mc_sql.specs.Classes.{word, name, is_intro, is_called, is_lexeme_of}
use Rattle.mc_sql.specs.Nest.{nest_limit}
use Rattle.mc_sql.specs.Rules.{item, alias_option, no_alias, bare_alias, order, or}
use Rattle.mc_sql.specs.Rules.{direction_option}
use Rattle.mc_ast.specs.declared.expr.Expr.{Expr}
use Rattle.mc_ast.specs.declared.statement.Item.{Item}
use Rattle.mc_ast.specs.declared.statement.OrderItem.{OrderItem}
use Rattle.mc_ast.specs.Values.{lexeme_text, maybe_text, item as an_item, order_item, flag, operand}
use Rattle.mc_ast.specs.Values.{a_token}
use Rattle.mc_parse.specs.declared.fault.Fault.{Fault}
use Rattle.mc_parse.specs.declared.fault.Fault.TheVariants.{NoReading, TooDeep, NoMemory}
use Rattle.mc_parse.specs.declared.operand.Operand.{Operand as Found}
use Rattle.mc_parse.specs.Clauses.{IsClause, IsClauseFault, HasOne, HasAlias, HasNoName, HasItem}
use Rattle.mc_parse.specs.Clauses.{IsAliasFault}
use Rattle.mc_parse.specs.Language.{language, at, behind, behind_at, look_at}
use Rattle.mc_parse.specs.Place.{is_missing, IsNext, IsTextOf}
use Rattle.mc_parse.specs.Read.{IsFault, IsOperandAt, as_operand}
use Rattle.mc_parse.proofs.NameWays.{sees_name, only_next}
use Rattle.mc_parse.proofs.Ways.{sound, sees_missing, is_fault, is_missed}
use Rattle.mc_parse.proofs.ClauseSteps.{the_token, clause_read, clause_front, option_left}
use Rattle.mc_parse.proofs.ClauseSteps.{one_missing, two_missing}

-- How many tokens are looked at behind an expression with an alias
escape_named : (x : Lexeme) → IsTrue (is_lexeme_of (word (codes "escape")) x)
    → IsTrue (is_lexeme_of name x)
unfolding keyword_of
escape_named (Word w) h =
    subst (λ (y : List ℕ). IsTrue (is_lexeme_of name (Word y)))
    (sym ((bytes_eq-Decides w (codes "escape")).0 h)) refl
escape_named _ h = cc

by_test : (b : Bool) → (IsTrue b → ⊥) → elim b [ true ↦ 2 | false ↦ 1 ] ≤ 1
by_test true h = absurd (h refl)
by_test false h = omega arith

not_both : (b : Bool) → IsTrue (not b) → IsTrue b → ⊥
not_both true h g = cc
not_both false h g = cc

near_missing : (ts : List Token) → IsTrue (is_missing name ts) → look_at true ts ≤ 1
near_missing [] h = omega arith
near_missing (t ∷ ts) h =
    by_test (is_lexeme_of (word (codes "escape")) t.kind)
    (λ e. not_both (is_lexeme_of name t.kind) h (escape_named t.kind e))

at_most_two : (ts : List Token) → look_at true ts ≤ 2
at_most_two [] = omega arith
at_most_two (t ∷ ts) = by (is_lexeme_of (word (codes "escape")) t.kind)
  where
    by : (b : Bool) → elim b [ true ↦ 2 | false ↦ 1 ] ≤ 2
    by true = omega arith
    by false = omega arith

-- Alias: AS and a name
as_here : (s : Span) (t : Token) (v : List Token) → IsTrue (is_lexeme_of name t.kind)
    → HasAlias (the_token s (Word (codes "as")) ∷ t ∷ v) v (Some (lexeme_text t.kind))
unfolding behind keyword_of is_intro is_called
as_here s t v h = record {
  clause = clause_read (take_token language sound (take_token language sound
      (choose language sound (sees_next language sound (the_token s (Word (codes "as")) ∷ t ∷ v)))
      refl) (only_next (is_lexeme_of name t.kind) h)) (omega arith);
  far = omega arith;
}

pub as_read : (tokens from rest : List Token) (text : List ℕ)
    → IsNext (Word (codes "as")) tokens from → IsTextOf name from rest text
    → HasAlias tokens rest (Some text)
as_read tokens from rest text n m =
    subst (λ (x : List ℕ). HasAlias tokens rest (Some x)) (sym m.says)
    (subst (λ (ts : List Token). HasAlias ts rest (Some (lexeme_text m.token.kind)))
    (sym (n.same ∙ ap (λ (ts : List Token). the_token n.span (Word (codes "as")) ∷ ts) m.same))
    (as_here n.span m.token rest m.of_class))

-- Alias: a name alone
bare_taken : {n : ℕ} (t : Token) (v : List Token)
    → Inside language (behind alias_option) n (at nest_limit alias_option)
    (record { alternative = record { what = bare_alias; room = 65 }; left = [] } ∷ [])
    (a_token t ∷ []) (t ∷ v) (t ∷ []) v
    → n ≤ 1 → HasAlias (t ∷ v) v (Some (lexeme_text t.kind))
bare_taken t v p lt = record {
  clause = clause_read p lt;
  far = omega (arith, at_most_two (t ∷ v), ap (λ (f : List Token). length f) (clause_front p lt));
}

bare_here : (t : Token) (v : List Token) → IsTrue (is_lexeme_of name t.kind)
    → HasAlias (t ∷ v) v (Some (lexeme_text t.kind))
unfolding behind keyword_of is_intro is_called
bare_here t v h =
    bare_taken t v (take_token language sound
    (choose language sound (sees_name t v h)) (only_next (is_lexeme_of name t.kind) h))
    (omega arith)

pub bare_read : (tokens rest : List Token) (text : List ℕ) → IsTextOf name tokens rest text
    → HasAlias tokens rest (Some text)
bare_read tokens rest text m =
    subst (λ (x : List ℕ). HasAlias tokens rest (Some x)) (sym m.says)
    (subst (λ (ts : List Token). HasAlias ts rest (Some (lexeme_text m.token.kind))) (sym m.same)
    (bare_here m.token rest m.of_class))

-- Alias: none
pub alias_left : (tokens : List Token) → IsTrue (is_missing (word (codes "as")) tokens)
    → IsTrue (is_missing name tokens) → HasAlias tokens tokens None
unfolding behind keyword_of is_intro is_called
alias_left tokens h g = record {
  clause = option_left alias_option no_alias (word (codes "as") ∷ name ∷ []) tokens
      (two_missing (word (codes "as")) name tokens h g) refl;
  far = omega (arith, near_missing tokens g);
}

-- Alias: no name behind AS
missed_here : (s : Span) (v : List Token) → IsTrue (is_missing name v)
    → HasNoName (the_token s (Word (codes "as")) ∷ v) (length v)
unfolding behind keyword_of is_intro is_called
missed_here s v h = record {
  is_fault = is_missed (take_token language sound
      (choose language sound (sees_next language sound (the_token s (Word (codes "as")) ∷ v)))
      refl) (sees_missing (name ∷ []) v (one_missing name v h)) refl (omega arith);
  near = omega arith;
}

pub alias_missed : (tokens from : List Token) (left : ℕ) → IsNext (Word (codes "as")) tokens from
    → IsTrue (is_missing name from) → left ≡ length from
    → IsAliasFault tokens (NoReading left)
alias_missed tokens from left n h e =
    subst (λ (m : ℕ). HasNoName tokens m) (sym e)
    (subst (λ (ts : List Token). HasNoName ts (length from)) (sym n.same)
    (missed_here n.span from h))

-- An item
pub item_read : (tokens v w : List Token) (x : Found) (alias : Option (List ℕ)) (i : Item)
    → IsOperandAt true or nest_limit tokens v x → HasAlias v w alias
    → i ≡ record { expr = x.expr; alias = alias; span = x.extent }
    → IsClause item tokens w (an_item i)
unfolding behind behind_at keyword_of is_intro is_called
item_read tokens v w x alias i o a e =
    subst (λ (y : Item). IsClause item tokens w (an_item y)) (sym e)
    (clause_read (read_rule_far language sound (read_rule language sound (enter language _ _ _)
    o.done refl refl (omega arith)) a.clause.done refl refl a.far) (omega arith))

pub item_fault : (tokens : List Token) (fault : Fault)
    → IsFault (behind_at true or) or nest_limit tokens fault → IsClauseFault item tokens fault
unfolding behind behind_at keyword_of is_intro is_called
item_fault tokens fault o = is_fault (enter language _ _ _) o refl refl (omega arith)

no_name_fault : (tokens v : List Token) (x : Found) (left : ℕ)
    → IsOperandAt true or nest_limit tokens v x → HasNoName v left
    → IsClauseFault item tokens (NoReading left)
unfolding behind behind_at keyword_of is_intro is_called
no_name_fault tokens v x left o a =
    is_fault (read_rule language sound (enter language _ _ _) o.done refl refl (omega arith))
    a.is_fault refl refl a.near

pub alias_fault : (tokens v : List Token) (x : Found) (fault : Fault)
    → IsOperandAt true or nest_limit tokens v x → IsAliasFault v fault
    → IsClauseFault item tokens fault
alias_fault tokens v x (NoReading left) o a = no_name_fault tokens v x left o a
alias_fault tokens v x (TooDeep left) o a = absurd a
alias_fault tokens v x NoMemory o a = record { cause = tt }

pub item_put : (tokens v w : List Token) (x : Found) (i : Item) (before now : List Item)
    → IsOperandAt true or nest_limit tokens v x → HasItem x v w i → now ≡ before ++ (i ∷ [])
    → HasOne (behind item) item (λ y. an_item y) (λ y. y) tokens w before now
item_put tokens v w x i before now o a e = record {
  member = i;
  done = (item_read tokens v w x a.alias i o a.has a.same).done;
  same = e;
}

-- A place of ORDER BY
pub order_read : (tokens v w : List Token) (x : Found) (desc : Bool) (before now : List OrderItem)
    → IsOperandAt false or nest_limit tokens v x → IsClause direction_option v w (flag desc)
    → now ≡ before ++ (record { expr = x.expr; desc = desc } ∷ [])
    → HasOne (behind order) order (λ y. order_item y) (λ y. y) tokens w before now
unfolding behind behind_at keyword_of is_intro is_called
order_read tokens v w x desc before now o d e = record {
  member = record { expr = x.expr; desc = desc };
  done = (clause_read (read_rule language sound (read_rule language sound (enter language _ _ _)
      o.done refl refl (omega arith)) d.done refl refl (omega arith)) (omega arith)).done;
  same = e;
}

pub order_fault : (tokens : List Token) (fault : Fault)
    → IsFault (behind_at false or) or nest_limit tokens fault → IsClauseFault order tokens fault
unfolding behind behind_at keyword_of is_intro is_called
order_fault tokens fault o = is_fault (enter language _ _ _) o refl refl (omega arith)

-- The ways through each function, by its name.
pub ruleset alias_option_ways = (as_read, bare_read, alias_left, alias_missed)

pub ruleset push_item_ways = (item_put, item_fault, alias_fault)
