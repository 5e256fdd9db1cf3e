-- The characters before which no contraction of others reaches: UTS #10, 3.3, Contractions.
use Rattle.std.specs.Prelude.{ℕ, Bool, false, not, List, [], ◌∷◌, Option}
use Rattle.std.specs.List.{list_any, take_while}
use Rattle.std.specs.Str.{bytes_eq}
use Rattle.mc_order.specs.Meaning.{Meaning, flat_list, first_chars}
use Rattle.mc_like.specs.declared.item.PatternItem.{PatternItem}
use Rattle.mc_like.specs.Items.{literal_front}

-- whether the contraction begins with a character that has the weights of this one
abbrev pub begins_like : Meaning → ℕ → List ℕ → Bool
begins_like m code [] = false
begins_like m code (head ∷ rest) = bytes_eq (flat_list m (code ∷ [])) (flat_list m (head ∷ []))

-- whether no contraction begins with a character that has the weights of this one
abbrev pub is_safe : Meaning → ℕ → Bool
is_safe m code = not (list_any (begins_like m code) m.contractions)

-- the first list of the longest front of a pattern's literal prefix that is safe throughout and
-- has no more characters than the index
abbrev pub literal_list : Meaning → Option ℕ → List PatternItem → List ℕ
literal_list m prefix items =
    m.level_list 1 (take_while (is_safe m) (first_chars prefix (literal_front items)))
