-- Lists of a text that is cut where no contraction reaches over, and their weights.
use Rattle.std.proofs.Common.{◌≡◌, ℕ, ◌<◌, ◌≤◌, List, [], ◌∷◌, ◌++◌, length, take, drop, refl, sym, ap, subst, ◌∙◌, arith}
use Rattle.std.specs.List.{All}
use Rattle.std.proofs.lemmas.List.{take_at}
use Rattle.mc_charset.specs.Chars.{code_points}
use Rattle.mc_allkeys.specs.Fronts.{IsFresh}
use Rattle.mc_allkeys.specs.Levels.{level_list}
use Rattle.mc_allkeys.specs.Sound.{HasWeights}
use Rattle.mc_allkeys.specs.declared.element.Element.{Element}
use Rattle.mc_uca.proofs.FlatOrder.{AreWeights}

dropped : (front rest : List ℕ) → drop (length front) (front ++ rest) ≡ rest
dropped [] rest = refl
dropped (f ∷ fs) rest = dropped fs rest

pub split_by : (T : List (List ℕ)) (E : List ℕ → List Element) →
    ((contractions : List (List ℕ)) (elements : List ℕ → List Element) (level k : ℕ)
    (codes : List ℕ) → IsFresh contractions (drop k codes) →
    level_list contractions elements level codes
    ≡ level_list contractions elements level (take k codes)
    ++ level_list contractions elements level (drop k codes)) →
    (codes front rest : List ℕ) → codes ≡ front ++ rest → IsFresh T rest →
    (level : ℕ) → level_list T E level codes ≡ level_list T E level front ++ level_list T E level rest
split_by T E law codes front rest e fresh level =
    let n = length front in
    ap (level_list T E level) e
    ∙ law T E level n (front ++ rest) (subst (IsFresh T) (sym (dropped front rest)) fresh)
    ∙ ap (λ f. level_list T E level f ++ level_list T E level (drop n (front ++ rest)))
    (take_at front rest n refl)
    ∙ ap (λ r. level_list T E level front ++ level_list T E level r) (dropped front rest)

pub code_points_by : (codes : List ℕ) → All (λ (code : ℕ). code < code_points) codes →
    All (λ (code : ℕ). code ≤ 0x10FFFF) codes
code_points_by codes h = λ k d lt. let below = h k d lt in omega arith

pub weights_by : (T : List (List ℕ)) (E : List ℕ → List Element) →
    ((contractions : List (List ℕ)) (elements : List ℕ → List Element) (level : ℕ)
    (codes : List ℕ) →
    ((piece : List ℕ) → All (λ (code : ℕ). code ≤ 0x10FFFF) piece → All HasWeights (elements piece)) →
    All (λ (code : ℕ). code ≤ 0x10FFFF) codes →
    All (λ weight. (1 ≤ weight) × (weight ≤ 0xFFFF)) (level_list contractions elements level codes)) →
    ((piece : List ℕ) → All (λ (code : ℕ). code ≤ 0x10FFFF) piece → All HasWeights (E piece)) →
    (codes : List ℕ) → All (λ (code : ℕ). code ≤ 0x10FFFF) codes →
    AreWeights (λ level. level_list T E level codes)
weights_by T E law each codes points level = λ k d lt.
    let some = (law T E level codes each points k d lt).0 in omega arith
