-- Rules that read an operand and the rest of a chain.
use Rattle.std.proofs.Common.{◌≡◌, refl, sym, ap, ◌∙◌, subst, ℕ, suc, ◌+◌, ◌≤◌, Bool, not, List, []}
use Rattle.std.proofs.Common.{◌∷◌, ◌++◌, length, IsTrue, arith}
use Rattle.mc_base.specs.declared.span.Span.{Span}
use Rattle.mc_token.specs.declared.lexeme.Token.{Token}
use Rattle.mc_grammar.specs.Grammar.{Symbol, rule}
use Rattle.mc_grammar.specs.Ahead.{Ahead}
use Rattle.mc_grammar.specs.Places.{Place, entries, all_pass, Inside}
use Rattle.mc_grammar.specs.Room.{Roomed, Admitted}
use Rattle.mc_grammar.proofs.Inside.{enter}
use Rattle.mc_grammar.proofs.Ways.{read_rule, read_rule_far}
use Rattle.mc_sql.specs.Classes.{Class}
use Rattle.mc_sql.specs.Rules.{Rule, Alternative}
use Rattle.mc_sql.specs.Tables.{tables}
use Rattle.mc_ast.specs.Meaning.{meaning}
use Rattle.mc_ast.specs.Spans.{span_of, span_from}
use Rattle.mc_ast.specs.Values.{Value, Operand, operand}
use Rattle.mc_parse.specs.Language.{language, at}
use Rattle.mc_parse.specs.Read.{IsRead, IsFolded}
use Rattle.mc_parse.proofs.Spans.{span_of-append}
use Rattle.mc_parse.proofs.Ways.{sound, is_read, read_takes}

-- Rules as symbols.
abbrev pub rules_at : ℕ → List Rule → List (Symbol (Admitted Class) (Roomed Rule))
rules_at below [] = []
rules_at below (r ∷ rs) = rule (at below r) ∷ rules_at below rs

-- The place at which an alternative has these rules left.
abbrev pub left_of : ℕ → Alternative → List Rule
    → Place (Admitted Class) (Roomed Rule) (Roomed Alternative)
left_of below a rs =
    record { alternative = record { what = a; room = suc below }; left = rules_at below rs }

-- An operand and what is put to it are read.
pub group_read : {X : Type 0} (r q more : Rule) (a : Alternative)
    {after after' after'' : Ahead (Admitted Class)} {n m : ℕ} {value : List X → Value}
    {fold : Operand → List X → Operand} {below : ℕ} {tokens v w : List Token} {x y : Operand}
    → IsRead after' n q below tokens v (operand x) x.extent
    → (f : IsFolded after'' m more value fold below v w x y) → n ≤ length f.done.front + m
    → entries language (language.grammar.alternatives (at below r)) ≡ left_of below a
    (q ∷ more ∷ []) ∷ []
    → IsTrue (all_pass language after (left_of below a (more ∷ []) ∷ []) after')
    → IsTrue (all_pass language after (left_of below a [] ∷ []) after'')
    → IsTrue (not (tables.may_be_empty q))
    → ((span : Span) (links : List X) → y ≡ fold x links → y.extent ≡ span
    → meaning a span (operand x ∷ value links ∷ []) ≡ operand y)
    → IsRead after m r below tokens w (operand y) y.extent
group_read r q more a {after = after} {m = m} {value = value} {below = below} {tokens = tokens}
    {w = w} {x = x} {y = y} p f lt e h k takes means =
    subst (λ (z : Value). IsRead after m r below tokens w z y.extent)
    (means (span_of (p.done.front ++ f.done.front)) f.links f.folded stands)
    (is_read inside stands)
  where
    entered : Inside language after 0 (at below r) (left_of below a (q ∷ more ∷ []) ∷ []) [] tokens
        [] tokens
    entered = subst (λ (ps : List (Place (Admitted Class) (Roomed Rule) (Roomed Alternative))).
        Inside language after 0 (at below r) ps [] tokens [] tokens) e
        (enter language after (at below r) tokens)

    inside : Inside language after m (at below r) (left_of below a [] ∷ [])
        (operand x ∷ value f.links ∷ []) tokens (p.done.front ++ f.done.front) w
    inside = read_rule_far language sound
        (read_rule language sound entered p.done refl h (omega arith)) f.done refl k lt

    stands : y.extent ≡ span_of (p.done.front ++ f.done.front)
    stands = f.whole ∙ ap (λ (s : Span). span_from s f.done.front) p.whole
        ∙ sym (span_of-append p.done.front f.done.front (read_takes p takes))
