-- Whether a prefix of k characters keeps k weights: decided by a search over the code points.
use Rattle.std.specs.Prelude.{ℕ, zero, suc, Bool, true, ◌&&◌, ◌||◌, not, List, []}
use Rattle.std.specs.Prelude.{◌∷◌}
use Rattle.std.specs.Prelude.{if◌then◌else◌}
use Rattle.std.specs.Option.{is_some}
use Rattle.mc_charset.specs.declared.charset.Charset.{Charset}
use Rattle.mc_charset.specs.Chars.{spell, code_points}
use Rattle.mc_order.specs.Meaning.{Meaning}
use Rattle.mc_order.specs.Tails.{has_members}

-- Each number below n passes the test.
unfoldable pub each_below : ℕ → (ℕ → Bool) → Bool
each_below zero test = true
each_below (suc n) test = test n && each_below n test

-- The code point is no character of the set, or has a first weight.
abbrev pub weighs_if_char : Charset → (List ℕ → List ℕ) → ℕ → Bool
weighs_if_char set first_list code =
    not (is_some (spell set code)) || has_members (first_list (code ∷ []))

-- There are no contractions, and each character of the set has a first weight.
unfoldable pub weighs : Charset → (List ℕ → List ℕ) → List (List ℕ) → Bool
weighs set first_list contractions =
    not (has_members contractions) && each_below code_points (weighs_if_char set first_list)

-- How many weights the first k characters keep at least: k where each has one of its own, else 0.
abbrev pub floor_of : Meaning → ℕ → ℕ
floor_of m k = if weighs m.charset (m.level_list 1) m.contractions then k else 0
