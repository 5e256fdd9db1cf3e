-- The weights of one element more.
use Rattle.std.proofs.Common.{◌≡◌, ◌==◌, ℕ, false, not, List, ◌∷◌, ◌++◌, map, filter, refl, ap, ◌∙◌, arith}
use Rattle.std.proofs.lemmas.List.{map-append}
use Rattle.std.proofs.lemmas.List.Elements.{filter-append}
use Rattle.std.proofs.lemmas.Bool.Decides.{nat_tests}
use Rattle.mc_allkeys.specs.Levels.{weight_on, level_weights}
use Rattle.mc_allkeys.specs.declared.element.Element.{Element}

skip : (weight : ℕ) (weights : List ℕ) → weight ≡ 0 →
    filter (λ w. not (w == 0)) (weight ∷ weights) ≡ filter (λ w. not (w == 0)) weights
skip weight weights h = rw h refl

keep : (weight : ℕ) (weights : List ℕ) → (weight ≡ 0 → ⊥) →
    filter (λ w. not (w == 0)) (weight ∷ weights) ≡ weight ∷ filter (λ w. not (w == 0)) weights
keep weight weights h =
    let e : (weight == 0) ≡ false = grind (arith, nat_tests) in rw e refl

-- A weight of 0 is dropped, and any other one stands.
pub level_weights-skip : (level : ℕ) (element : Element) (elements : List Element) →
    weight_on level element ≡ 0 →
    level_weights level (element ∷ elements) ≡ level_weights level elements
level_weights-skip level element elements h =
    skip (weight_on level element) (map (weight_on level) elements) h

pub level_weights-keep : (level : ℕ) (element : Element) (elements : List Element) →
    (weight_on level element ≡ 0 → ⊥) →
    level_weights level (element ∷ elements)
    ≡ weight_on level element ∷ level_weights level elements
level_weights-keep level element elements h =
    keep (weight_on level element) (map (weight_on level) elements) h

-- The weights of joined elements are joined.
pub level_weights-append : (level : ℕ) (elements others : List Element) →
    level_weights level (elements ++ others)
    ≡ level_weights level elements ++ level_weights level others
level_weights-append level elements others =
    ap (filter (λ w. not (w == 0))) (map-append (weight_on level) elements others)
    ∙ filter-append (λ w. not (w == 0)) (map (weight_on level) elements)
    (map (weight_on level) others)

-- The weights of a piece, and those of what is behind it.
pub piece_weights : (level : ℕ) (all piece behind : List Element) → all ≡ piece ++ behind →
    level_weights level all ≡ level_weights level piece ++ level_weights level behind
piece_weights level all piece behind e =
    ap (level_weights level) e ∙ level_weights-append level piece behind

pub ruleset steps = (level_weights-skip, level_weights-keep)
