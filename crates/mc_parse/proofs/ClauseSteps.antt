-- Steps of the ways through a function that reads a clause.
use Rattle.std.proofs.Common.{◌≡◌, refl, subst, ℕ, ◌≤◌, Bool, true, false, not, ◌&&◌, List, [], ◌∷◌}
use Rattle.std.proofs.Common.{IsTrue, Option, arith}
use Rattle.std.specs.List.{list_any}
use Rattle.mc_base.specs.declared.span.Span.{Span}
use Rattle.mc_token.specs.declared.lexeme.Lexeme.{Lexeme}
use Rattle.mc_token.specs.declared.lexeme.Token.{Token}
use Rattle.mc_grammar.specs.Ahead.{is_within_next}
use Rattle.mc_grammar.specs.Grammar.{Symbol, one, rule}
use Rattle.mc_grammar.specs.Places.{Place, Inside, kept, entries}
use Rattle.mc_grammar.specs.Room.{Roomed, Admitted}
use Rattle.mc_grammar.proofs.Inside.{leave, leave_front}
use Rattle.mc_grammar.proofs.Ways.{choose, widen}
use Rattle.mc_sql.specs.Classes.{Class}
use Rattle.mc_sql.specs.Nest.{nest_limit}
use Rattle.mc_sql.specs.Rules.{Rule, Alternative}
use Rattle.mc_ast.specs.Meaning.{meaning}
use Rattle.mc_ast.specs.Spans.{span_of}
use Rattle.mc_ast.specs.Values.{Value}
use Rattle.mc_parse.specs.Clauses.{IsClause}
use Rattle.mc_parse.specs.Language.{language, at, behind}
use Rattle.mc_parse.specs.Place.{is_missing, are_missing}
use Rattle.mc_parse.proofs.Ways.{sound, sees_missing, let_in}

abbrev pub the_token : Span → Lexeme → Token
the_token span kind = record { span = span; kind = kind }

-- Nothing is left of the alternative.
pub clause_read : {r : Rule} {n : ℕ} {a : Roomed Alternative} {vs : List Value}
    {tokens front rest : List Token}
    → Inside language (behind r) n (at nest_limit r) (record { alternative = a; left = [] } ∷ [])
    vs tokens front rest
    → n ≤ 1 → IsClause r tokens rest (meaning a.what (span_of front) vs)
clause_read p lt = record {
  done = leave language sound _ _ _ _ _ _ _ _
      (widen language sound p lt);
}

-- The same, with a value that does not depend on where its tokens stand.
pub clause_valued : {r : Rule} {n : ℕ} {a : Roomed Alternative} {vs : List Value}
    {tokens front rest : List Token} {value : Value}
    → Inside language (behind r) n (at nest_limit r) (record { alternative = a; left = [] } ∷ [])
    vs tokens front rest
    → n ≤ 1 → ((span : Span) → meaning a.what span vs ≡ value) → IsClause r tokens rest value
clause_valued {r = r} {tokens = tokens} {front = front} {rest = rest} p lt same =
    subst (λ (x : Value). IsClause r tokens rest x) (same (span_of front)) (clause_read p lt)

pub clause_front : {r : Rule} {n : ℕ} {a : Roomed Alternative} {vs : List Value}
    {tokens front rest : List Token}
    → (p : Inside language (behind r) n (at nest_limit r)
    (record { alternative = a; left = [] } ∷ []) vs tokens front rest)
    → (lt : n ≤ 1) → (clause_read p lt).done.front ≡ front
unfolding clause_read
clause_front p lt = leave_front language sound _ _ _ _ _ _ _ _ (widen language sound p lt)

-- What the absence of classes lets through.
abbrev pub none_of : List Class → Option (Admitted Class) → Bool
none_of ks k = not (list_any (λ o. is_within_next language.tables.is_within k o) (let_in ks))

-- An alternative that reads nothing is left where the next token is none of these.
pub option_left : (r : Rule) (a : Alternative) (ks : List Class) (tokens : List Token)
    → IsTrue (are_missing ks tokens)
    → kept language (λ k. none_of ks k) (behind r)
    (entries language (language.grammar.alternatives (at nest_limit r)))
    ≡ record { alternative = record { what = a; room = 65 }; left = [] } ∷ []
    → IsClause r tokens tokens (meaning a (span_of []) [])
option_left r a ks tokens h e =
    clause_read (subst
    (λ (ps : List (Place (Admitted Class) (Roomed Rule) (Roomed Alternative))).
    Inside language (behind r) 1 (at nest_limit r) ps [] tokens [] tokens) e
    (choose language sound (sees_missing ks tokens h))) (omega arith)

also : (a b : Bool) → IsTrue a → IsTrue b → IsTrue (a && b)
also true b g h = h
also false b g h = cc

pub one_missing : (k : Class) (tokens : List Token) → IsTrue (is_missing k tokens)
    → IsTrue (are_missing (k ∷ []) tokens)
one_missing k tokens h = also (is_missing k tokens) true h refl

pub two_missing : (k l : Class) (tokens : List Token) → IsTrue (is_missing k tokens)
    → IsTrue (is_missing l tokens) → IsTrue (are_missing (k ∷ l ∷ []) tokens)
two_missing k l tokens h g =
    also (is_missing k tokens) (are_missing (l ∷ []) tokens) h (one_missing l tokens g)

abbrev pub ThePlace : Type 0
ThePlace = Place (Admitted Class) (Roomed Rule) (Roomed Alternative)

-- The one place in an alternative, where these symbols are left.
abbrev pub the_place : Alternative → List (Symbol (Admitted Class) (Roomed Rule)) → List ThePlace
the_place a left = record { alternative = record { what = a; room = 65 }; left = left } ∷ []

abbrev pub a_class : Class → Symbol (Admitted Class) (Roomed Rule)
a_class k = one (record { class = k; has_room = true })

abbrev pub a_rule : Rule → Symbol (Admitted Class) (Roomed Rule)
a_rule r = rule (at nest_limit r)

abbrev pub starting : Rule → List ThePlace
starting r = entries language (language.grammar.alternatives (at nest_limit r))
