-- What streams of elements and of weights still give.
use Rattle.std.specs.Prelude.{◌≡◌, ℕ, ◌+◌, ◌<◌, List, [], ◌∷◌, ◌++◌, length, Option, Some, None}
use Rattle.std.specs.List.{flat_map}
use Rattle.std.specs.Option.{option_to_list}
use Rattle.mc_order.specs.Meaning.{separator}
use Rattle.mc_allkeys.specs.Table.{Entries}
use Rattle.mc_allkeys.specs.declared.element.Element.{Element}
use Rattle.mc_rules.specs.Outside.{jamo_elements}
use Rattle.mc_uca.specs.declared.pending.Pending.{Pending}

-- the elements of up to two jamo
abbrev pub jamo_left : Entries → Option ℕ → Option ℕ → List Element
jamo_left entries vowel trailing =
    flat_map (jamo_elements entries) (option_to_list vowel ++ option_to_list trailing)

-- the elements that a piece still gives
abbrev pub pending_left : Pending → List Element
pending_left p =
    p.listed.now ++ option_to_list p.first ++ option_to_list p.second
    ++ jamo_left p.keys.now.entries p.vowel p.trailing

-- how many jamo it has before it
abbrev pub jamo_count : Pending → ℕ
jamo_count p = length (option_to_list p.vowel) + length (option_to_list p.trailing)

-- the weights of what may be behind a separator, and of what may be behind that
abbrev pub behind_by : {X : Type 0} → (X → List ℕ) → Option X → Option X → List ℕ
behind_by weights None third = []
behind_by weights (Some second) None = separator ∷ weights second
behind_by weights (Some second) (Some third) =
    separator ∷ weights second ++ separator ∷ weights third

-- A piece begins codes: these elements are its, and the other codes are behind it.
pub record IsFirstPiece (elements_of : List ℕ → List Element) (codes : List ℕ)
    (piece : List Element) (behind : List ℕ) : Type 0 where
  pub elements : elements_of codes ≡ piece ++ elements_of behind
  pub shorter : length behind < length codes
