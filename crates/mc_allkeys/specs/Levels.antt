-- The weights of a text level by level: UTS #10, S3, where every weight of 0 is dropped.
use Rattle.std.specs.Prelude.{◌≡◌, ◌⊎◌, ℕ, ◌==◌, not, List, [], ◌++◌, map, filter, take, drop}
use Rattle.std.specs.Prelude.{if◌then◌else◌}
use Rattle.std.specs.List.{flat_map}
use Rattle.mc_allkeys.specs.Fronts.{IsAcross}
use Rattle.mc_allkeys.specs.Pieces.{pieces}
use Rattle.mc_allkeys.specs.declared.element.Element.{Element}

-- the weight of an element on a level: primary on the first, secondary on the second, tertiary on
-- any other
abbrev pub weight_on : ℕ → Element → ℕ
weight_on level element =
    if level == 1 then element.p else if level == 2 then element.s else element.t

-- the elements of a text: those of its pieces, each piece's by the given function
abbrev pub text_elements : List (List ℕ) → (List ℕ → List Element) → List ℕ → List Element
text_elements contractions elements codes = flat_map elements (pieces contractions codes)

-- the nonzero weights of elements on a level
abbrev pub level_weights : ℕ → List Element → List ℕ
level_weights level elements = filter (λ weight. not (weight == 0)) (map (weight_on level) elements)

-- the list of a text on a level
abbrev pub level_list : List (List ℕ) → (List ℕ → List Element) → ℕ → List ℕ → List ℕ
level_list contractions elements level codes =
    level_weights level (text_elements contractions elements codes)

-- The lists of the first k codes and of the text begin with the same weights; what is left of the
-- first k codes is nothing, or the front of a contraction that goes on behind them.
pub record IsFrontList (contractions : List (List ℕ)) (elements : List ℕ → List Element)
    (level k : ℕ) (codes : List ℕ) : Type 0 where
  -- the weights of both
  pub kept : List ℕ
  -- what is left of the first k codes
  pub last : List ℕ
  pub front : level_list contractions elements level (take k codes)
      ≡ kept ++ level_list contractions elements level last
  pub whole : level_list contractions elements level codes
      ≡ kept ++ level_list contractions elements level (last ++ drop k codes)
  pub none_or_across : (last ≡ []) ⊎ IsAcross contractions last (drop k codes)
