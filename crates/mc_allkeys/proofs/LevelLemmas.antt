-- Weight lists of joined pieces, and their weights.
use Rattle.std.proofs.Common.{◌≡◌, ◌==◌, ◌≤◌, ℕ, zero, suc, ◌-◌, Bool, true, false, not, List, [], ◌∷◌, ◌++◌, take, drop, map, filter, if◌then◌else◌, ◌⊎◌, append-nil, sym, ap, ◌∙◌, arith}
use Rattle.std.specs.List.{All, flat_map}
use Rattle.std.proofs.lemmas.Grind.{flat_map-append}
use Rattle.std.proofs.lemmas.List.{map-append}
use Rattle.std.proofs.lemmas.List.Elements.{filter-append, filter_passes, All-append, All-map, All-filter, All-take}
use Rattle.mc_allkeys.specs.Fronts.{IsHead, IsFresh}
use Rattle.mc_allkeys.specs.Levels.{weight_on, level_weights, level_list, IsFrontList}
use Rattle.mc_allkeys.specs.Pieces.{piece_len, pieces_behind, pieces}
use Rattle.mc_allkeys.specs.Sound.{HasWeights}
use Rattle.mc_allkeys.specs.declared.element.Element.{Element}
use Rattle.mc_allkeys.proofs.PieceLemmas.{pieces-step}
use Rattle.mc_allkeys.proofs.FrontLemmas.{cut-front, cut-fresh, cut-alone, pieces-one}

-- the weights of pieces on a level
abbrev piece_weights : (List ℕ → List Element) → ℕ → List (List ℕ) → List ℕ
piece_weights elements level ps = level_weights level (flat_map elements ps)

piece_weights-append : (elements : List ℕ → List Element) (level : ℕ) (ps qs : List (List ℕ)) →
    piece_weights elements level (ps ++ qs)
    ≡ piece_weights elements level ps ++ piece_weights elements level qs
piece_weights-append elements level ps qs =
    ap (level_weights level) (flat_map-append elements ps qs)
    ∙ ap (filter (λ weight. not (weight == 0)))
    (map-append (weight_on level) (flat_map elements ps) (flat_map elements qs))
    ∙ filter-append (λ weight. not (weight == 0)) (map (weight_on level) (flat_map elements ps))
    (map (weight_on level) (flat_map elements qs))

-- The list of a text: the weights of the piece that begins it, and the list of what follows it.
pub list-step : (contractions : List (List ℕ)) (elements : List ℕ → List Element) (level code : ℕ)
    (rest : List ℕ) → level_list contractions elements level (code ∷ rest)
    ≡ level_weights level (elements (take (piece_len contractions (code ∷ rest)) (code ∷ rest)))
    ++ level_list contractions elements level (drop (piece_len contractions (code ∷ rest)) (code ∷ rest))
list-step contractions elements level code rest =
    let len = piece_len contractions (code ∷ rest) in
    let piece = take len (code ∷ rest) in
    let behind = drop len (code ∷ rest) in
    ap (piece_weights elements level) (pieces-step contractions code rest)
    ∙ piece_weights-append elements level (piece ∷ []) (pieces contractions behind)
    ∙ ap (λ es. level_weights level es ++ level_list contractions elements level behind)
    (append-nil (elements piece))

pub list-front : (contractions : List (List ℕ)) (elements : List ℕ → List Element) (level k : ℕ)
    (codes : List ℕ) → IsFrontList contractions elements level k codes
list-front contractions elements level k codes =
    let h = cut-front contractions k codes in
    record {
      kept = piece_weights elements level h.kept;
      last = h.last;
      front = ap (piece_weights elements level) h.front
          ∙ piece_weights-append elements level h.kept (pieces contractions h.last);
      whole = ap (piece_weights elements level) h.whole
          ∙ piece_weights-append elements level h.kept (pieces contractions (h.last ++ drop k codes));
      none_or_across = h.none_or_across;
    }

pub list-fresh : (contractions : List (List ℕ)) (elements : List ℕ → List Element) (level k : ℕ)
    (codes : List ℕ) → IsFresh contractions (drop k codes) →
    level_list contractions elements level codes
    ≡ level_list contractions elements level (take k codes)
    ++ level_list contractions elements level (drop k codes)
list-fresh contractions elements level k codes fresh =
    ap (piece_weights elements level) (cut-fresh contractions k codes fresh)
    ∙ piece_weights-append elements level (pieces contractions (take k codes))
    (pieces contractions (drop k codes))

pub list-alone : (contractions : List (List ℕ)) (elements : List ℕ → List Element) (level code : ℕ)
    (rest : List ℕ) → (IsHead contractions code → ⊥) ⊎ IsFresh contractions rest →
    level_list contractions elements level (code ∷ rest)
    ≡ level_list contractions elements level (code ∷ [])
    ++ level_list contractions elements level rest
list-alone contractions elements level code rest h =
    ap (piece_weights elements level) (cut-alone contractions code rest h)
    ∙ piece_weights-append elements level ((code ∷ []) ∷ []) (pieces contractions rest)
    ∙ ap (λ ps. piece_weights elements level ps ++ level_list contractions elements level rest)
    (sym (pieces-one contractions code))

-- Each code is a code point.
abbrev AreCodes : List ℕ → Type 0
AreCodes codes = All (λ (code : ℕ). code ≤ 0x10FFFF) codes

-- Each element of pieces has weights of two bytes where each piece's have.
each_piece : (contractions : List (List ℕ)) (elements : List ℕ → List Element) (skipped : ℕ)
    (codes : List ℕ) → ((piece : List ℕ) → AreCodes piece → All HasWeights (elements piece)) →
    AreCodes codes → All HasWeights (flat_map elements (pieces_behind contractions skipped codes))
each_piece contractions elements skipped [] h all = λ k d lt. absurd (omega arith)
each_piece contractions elements zero (c ∷ cs) h all =
    All-append HasWeights (elements (take (piece_len contractions (c ∷ cs)) (c ∷ cs))) _
    (h _ (All-take (λ (code : ℕ). code ≤ 0x10FFFF) (piece_len contractions (c ∷ cs)) (c ∷ cs) all))
    (each_piece contractions elements (piece_len contractions (c ∷ cs) - 1) cs h
    (λ k d lt. all (suc k) d (omega arith)))
each_piece contractions elements (suc skipped) (c ∷ cs) h all =
    each_piece contractions elements skipped cs h (λ k d lt. all (suc k) d (omega arith))

choose : (a b : Bool) (x y z n : ℕ) → x ≤ n → y ≤ n → z ≤ n →
    (if a then x else if b then y else z) ≤ n
choose true b x y z n hx hy hz = hx
choose false true x y z n hx hy hz = hy
choose false false x y z n hx hy hz = hz

small_weight : (level : ℕ) (element : Element) → HasWeights element → weight_on level element ≤ 0xFFFF
small_weight level element h =
    choose (level == 1) (level == 2) element.p element.s element.t 0xFFFF h.primary h.secondary h.tertiary

some_weight : (weight : ℕ) → not (weight == 0) ≡ true → 1 ≤ weight
some_weight zero h = absurd cc
some_weight (suc n) h = omega arith

-- The weights of a list are from 1 to FFFF.
pub list-weights : (contractions : List (List ℕ)) (elements : List ℕ → List Element) (level : ℕ)
    (codes : List ℕ) → ((piece : List ℕ) → AreCodes piece → All HasWeights (elements piece)) →
    AreCodes codes →
    All (λ weight. (1 ≤ weight) × (weight ≤ 0xFFFF)) (level_list contractions elements level codes)
list-weights contractions elements level codes h points =
    let all : All HasWeights (flat_map elements (pieces contractions codes)) =
    each_piece contractions elements 0 codes h points in
    let each = map (weight_on level) (flat_map elements (pieces contractions codes)) in
    let pass = filter_passes (λ (weight : ℕ). not (weight == 0)) each in
    let small = All-filter (λ (weight : ℕ). not (weight == 0)) (λ (weight : ℕ). weight ≤ 0xFFFF) each
    (All-map (λ (weight : ℕ). weight ≤ 0xFFFF) (weight_on level)
    (flat_map elements (pieces contractions codes))
    (λ k d lt. small_weight level _ (all k d lt))) in
    λ k d lt. (some_weight _ (pass k d lt), small k d lt)
