-- An index finds each text that meets a condition in one of the condition's intervals.
use Rattle.std.specs.Prelude.{◌≡◌, ◌≢◌, ◌↔◌, ℕ, IsTrue, List, Option, Some, None, ⊤}
use Rattle.std.specs.List.{Contains}
use Rattle.std.specs.declared.cmp.Ordering.TheVariants.{Less, Greater}
use Rattle.mc_charset.specs.Chars.{chars, IsWellFormed}
use Rattle.mc_order.specs.Meaning.{Meaning, flat_list, first_chars, IsSafe}
use Rattle.mc_order.specs.Order.{list_order}
use Rattle.mc_range.specs.declared.condition.Cond.{Cond}
use Rattle.mc_range.specs.declared.interval.Interval.{Interval}
use Rattle.mc_range.specs.Condition.{IsCondOf, Meets}
use Rattle.mc_range.specs.Intervals.{intervals_of}
use Rattle.mc_range.specs.Safe.{is_safe}

-- what an index keeps of a text's characters: their flat list, or that of the first ones
abbrev pub index_list : Meaning → Option ℕ → List ℕ → List ℕ
index_list m prefix codes = flat_list m (first_chars prefix codes)

-- The list is not below the end, which may be open.
abbrev pub IsFrom : Meaning → List ℕ → Option (List ℕ) → Type 0
IsFrom m list None = ⊤
IsFrom m list (Some low) = list_order m.pad m.space list low ≢ Less

-- The list is not above the end, which may be open.
abbrev pub IsUpTo : Meaning → List ℕ → Option (List ℕ) → Type 0
IsUpTo m list None = ⊤
IsUpTo m list (Some high) = list_order m.pad m.space list high ≢ Greater

-- The list lies in the interval, whose ends count.
abbrev pub IsIn : Meaning → List ℕ → Interval → Type 0
IsIn m list interval = IsFrom m list interval.lo × IsUpTo m list interval.hi

-- The list lies in one of the intervals.
abbrev pub IsInOne : Meaning → List ℕ → List Interval → Type 0
IsInOne m list intervals =
    (interval : Interval) × Contains intervals interval × IsIn m list interval

-- A text that meets the condition has its index list in one of the intervals, if they are named.
abbrev pub Finds : Meaning → Option ℕ → Cond → Type 0
Finds m prefix cond =
    (text : List ℕ) (intervals : List Interval) → IsWellFormed m.charset text →
    Meets m (chars m.charset text) cond → intervals_of m prefix cond ≡ Some intervals →
    IsInOne m (index_list m prefix (chars m.charset text)) intervals

-- So it is for each condition on texts of the set, whatever part of them the index keeps.
abbrev pub FindsAll : Meaning → Type 0
FindsAll m =
    (prefix : Option ℕ) (cond : Cond) → IsCondOf m.charset cond → Finds m prefix cond

-- A character is safe where no character that begins a contraction has its weights.
abbrev pub SafeIsDecided : Meaning → Type 0
SafeIsDecided m = (code : ℕ) → IsTrue (is_safe m code) ↔ IsSafe m code
