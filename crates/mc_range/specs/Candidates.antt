-- The lists that the first characters of a text may have which is equal to a constant, for an index
-- of first characters alone: MySQL 8.0 manual, 8.3.5, Column Indexes, "Index Prefixes".
use Rattle.std.specs.Prelude.{ℕ, zero, suc, ◌-◌, ◌==◌, ◌&&◌, Bool, true, false, List, [], ◌∷◌, ◌++◌}
use Rattle.std.specs.Prelude.{Option, Some, None, if◌then◌else◌, map, length, min, take}
use Rattle.std.specs.List.{flat_map, best_of}
use Rattle.std.specs.Ordering.{is_lt, is_gt}
use Rattle.std.specs.declared.cmp.Ordering.{Ordering}
use Rattle.mc_order.specs.declared.pad.Pad.{Pad}
use Rattle.mc_order.specs.declared.pad.Pad.TheVariants.{PadSpace, NoPad}
use Rattle.mc_order.specs.Meaning.{Meaning, separator, flat_list}
use Rattle.mc_order.specs.Order.{list_order}
use Rattle.mc_order.specs.Tails.{has_members}
use Rattle.mc_key.specs.Keys.{top}

-- so many numbers, rising by one from the first
unfoldable pub numbers_from : (first count : ℕ) → List ℕ
numbers_from first zero = []
numbers_from first (suc count) = first ∷ numbers_from (suc first) count

-- a list, and that list followed by each tail
abbrev pub with_tails : List (List ℕ) → List ℕ → List (List ℕ)
with_tails tails front = front ∷ map (λ tail. front ++ tail) tails

-- the candidates of a constant's first list: each front of `floor` weights or more, or the whole
-- list where it has no more than those, shorter ones first; alone and followed by each tail
unfoldable pub candidates : (floor : ℕ) → List (List ℕ) → List ℕ → List (List ℕ)
candidates floor tails weights =
    let least = min floor (length weights) in
    flat_map (λ size. with_tails tails (take size weights))
    (numbers_from least (suc (length weights - least)))

-- whether texts are padded
abbrev pub is_padded : Pad → Bool
is_padded PadSpace = true
is_padded NoPad = false

-- whether the first characters may go on with spaces and a tail where the constant has ended
abbrev pub may_pass : Meaning → Bool
may_pass m = is_padded m.pad && has_members m.tails

-- between these two lies each list that goes on with weights where the constant's list ends
abbrev pub passing_ends : Meaning → List ℕ → List (List ℕ)
passing_ends m weights =
    if may_pass m then (weights ++ separator ∷ []) ∷ (weights ++ top ∷ []) ∷ [] else []

-- what is behind a candidate at the lower end of its interval: with lists of further levels behind
-- it, the separator, and else nothing
abbrev pub behind_low : Meaning → List ℕ
behind_low m = if m.levels == 1 then [] else separator ∷ []

-- and at the upper end: the separator and what is above each further list, or nothing
abbrev pub behind_high : Meaning → List ℕ
behind_high m = if m.levels == 1 then [] else separator ∷ top ∷ []

-- the list that wins against the others, of equal ones the first
abbrev pub extreme : (Ordering → Bool) → Pad → ℕ → List (List ℕ) → List ℕ
extreme wins pad space [] = []
extreme wins pad space (list ∷ lists) =
    best_of (λ one best. wins (list_order pad space one best)) list lists

-- the least and the greatest list, of equal ones the first
abbrev pub least : Pad → ℕ → List (List ℕ) → List ℕ
least = extreme is_lt

abbrev pub greatest : Pad → ℕ → List (List ℕ) → List ℕ
greatest = extreme is_gt

-- the candidates, each with these numbers behind it, and the ends of what goes on
abbrev pub ends : Meaning → ℕ → List ℕ → List ℕ → List (List ℕ)
ends m k weights behind =
    map (λ list. list ++ behind) (candidates (m.floor k) m.tails weights)
    ++ passing_ends m weights

-- where the index lists begin of texts that are not below the characters: in an index of whole
-- texts, and of the first k characters
abbrev pub lower_end : Meaning → Option ℕ → List ℕ → List ℕ
lower_end m None codes = flat_list m codes
lower_end m (Some k) codes =
    least m.pad m.space (ends m k (m.level_list 1 codes) (behind_low m))

-- where the index lists end of texts that are not above the characters
abbrev pub upper_end : Meaning → Option ℕ → List ℕ → List ℕ
upper_end m None codes = flat_list m codes
upper_end m (Some k) codes =
    greatest m.pad m.space (ends m k (m.level_list 1 codes) (behind_high m))
