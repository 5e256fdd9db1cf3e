-- The ways through words that may be left out.
use Rattle.std.proofs.Common.{refl, sym, subst, true, false, List, [], ◌∷◌, IsTrue, codes, arith}
use Rattle.mc_base.specs.declared.span.Span.{Span}
use Rattle.mc_token.specs.Keywords.{keyword_of}
use Rattle.mc_token.specs.declared.lexeme.Lexeme.TheVariants.{Word}
use Rattle.mc_token.specs.declared.lexeme.Token.{Token}
use Rattle.mc_grammar.proofs.Seeing.{sees_next}
use Rattle.mc_grammar.proofs.Ways.{choose, take_token}
use Rattle.mc_sql.specs.Classes.{word, is_intro, is_called}
use Rattle.mc_sql.specs.Rules.{explain_option, distinct_option, direction_option}
use Rattle.mc_sql.specs.Rules.{no_explain, no_distinct, no_direction}
use Rattle.mc_ast.specs.Values.{flag}
use Rattle.mc_parse.specs.Clauses.{IsClause}
use Rattle.mc_parse.specs.Language.{language, behind}
use Rattle.mc_parse.specs.Place.{is_missing, IsNext}
use Rattle.mc_parse.proofs.Ways.{sound}
use Rattle.mc_parse.proofs.ClauseSteps.{the_token, clause_read, option_left, one_missing}
use Rattle.mc_parse.proofs.ClauseSteps.{two_missing}

explain_here : (s : Span) (v : List Token)
    → IsClause explain_option (the_token s (Word (codes "explain")) ∷ v) v (flag true)
unfolding behind keyword_of is_intro is_called
explain_here s v =
    clause_read (take_token language sound
    (choose language sound (sees_next language sound (the_token s (Word (codes "explain")) ∷ v)))
    refl) (omega arith)

pub explain_read : (tokens rest : List Token) → IsNext (Word (codes "explain")) tokens rest
    → IsClause explain_option tokens rest (flag true)
explain_read tokens rest p =
    subst (λ (ts : List Token). IsClause explain_option ts rest (flag true)) (sym p.same)
    (explain_here p.span rest)

pub explain_left : (tokens : List Token) → IsTrue (is_missing (word (codes "explain")) tokens)
    → IsClause explain_option tokens tokens (flag false)
unfolding behind keyword_of is_intro is_called
explain_left tokens h =
    option_left explain_option no_explain (word (codes "explain") ∷ []) tokens
    (one_missing (word (codes "explain")) tokens h) refl

distinct_here : (s : Span) (v : List Token)
    → IsClause distinct_option (the_token s (Word (codes "distinct")) ∷ v) v (flag true)
unfolding behind keyword_of is_intro is_called
distinct_here s v =
    clause_read (take_token language sound
    (choose language sound (sees_next language sound (the_token s (Word (codes "distinct")) ∷ v)))
    refl) (omega arith)

pub distinct_read : (tokens rest : List Token) → IsNext (Word (codes "distinct")) tokens rest
    → IsClause distinct_option tokens rest (flag true)
distinct_read tokens rest p =
    subst (λ (ts : List Token). IsClause distinct_option ts rest (flag true)) (sym p.same)
    (distinct_here p.span rest)

pub distinct_left : (tokens : List Token) → IsTrue (is_missing (word (codes "distinct")) tokens)
    → IsClause distinct_option tokens tokens (flag false)
unfolding behind keyword_of is_intro is_called
distinct_left tokens h =
    option_left distinct_option no_distinct (word (codes "distinct") ∷ []) tokens
    (one_missing (word (codes "distinct")) tokens h) refl

descending_here : (s : Span) (v : List Token)
    → IsClause direction_option (the_token s (Word (codes "desc")) ∷ v) v (flag true)
unfolding behind keyword_of is_intro is_called
descending_here s v =
    clause_read (take_token language sound
    (choose language sound (sees_next language sound (the_token s (Word (codes "desc")) ∷ v)))
    refl) (omega arith)

pub descending_read : (tokens rest : List Token) → IsNext (Word (codes "desc")) tokens rest
    → IsClause direction_option tokens rest (flag true)
descending_read tokens rest p =
    subst (λ (ts : List Token). IsClause direction_option ts rest (flag true)) (sym p.same)
    (descending_here p.span rest)

ascending_here : (s : Span) (v : List Token)
    → IsClause direction_option (the_token s (Word (codes "asc")) ∷ v) v (flag false)
unfolding behind keyword_of is_intro is_called
ascending_here s v =
    clause_read (take_token language sound
    (choose language sound (sees_next language sound (the_token s (Word (codes "asc")) ∷ v)))
    refl) (omega arith)

pub ascending_read : (tokens rest : List Token) → IsNext (Word (codes "asc")) tokens rest
    → IsClause direction_option tokens rest (flag false)
ascending_read tokens rest p =
    subst (λ (ts : List Token). IsClause direction_option ts rest (flag false)) (sym p.same)
    (ascending_here p.span rest)

pub direction_left : (tokens : List Token) → IsTrue (is_missing (word (codes "desc")) tokens)
    → IsTrue (is_missing (word (codes "asc")) tokens)
    → IsClause direction_option tokens tokens (flag false)
unfolding behind keyword_of is_intro is_called
direction_left tokens h g =
    option_left direction_option no_direction
    (word (codes "desc") ∷ word (codes "asc") ∷ []) tokens
    (two_missing (word (codes "desc")) (word (codes "asc")) tokens h g) refl

-- The ways through each function, by its name.
pub ruleset direction_option_ways = (descending_read, ascending_read, direction_left)
