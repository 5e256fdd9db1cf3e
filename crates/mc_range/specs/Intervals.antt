-- The intervals of a condition: MySQL 8.0 manual, 8.2.1.2, Range Optimization.
use Rattle.std.specs.Prelude.{ℕ, nat_le, List, [], ◌∷◌, ◌++◌, Option, Some, None}
use Rattle.std.specs.Prelude.{if◌then◌else◌, map, length}
use Rattle.std.specs.List.{flat_map}
use Rattle.mc_charset.specs.Chars.{chars}
use Rattle.mc_order.specs.declared.pad.Pad.{Pad}
use Rattle.mc_order.specs.declared.pad.Pad.TheVariants.{PadSpace, NoPad}
use Rattle.mc_order.specs.Meaning.{Meaning, separator, flat_list}
use Rattle.mc_order.specs.Tails.{has_members}
use Rattle.mc_key.specs.Keys.{top}
use Rattle.mc_like.specs.Items.{items_of}
use Rattle.mc_range.specs.declared.condition.Cell.{Cell}
use Rattle.mc_range.specs.declared.condition.Cell.TheVariants.{Null, Str}
use Rattle.mc_range.specs.declared.condition.Cond.{Cond}
use Rattle.mc_range.specs.declared.condition.Cond.TheVariants.{Eq, AtMost, AtLeast, Between, In}
use Rattle.mc_range.specs.declared.condition.Cond.TheVariants.{Like}
use Rattle.mc_range.specs.declared.interval.Interval.{Interval}
use Rattle.mc_range.specs.Candidates.{candidates, may_pass, behind_low, behind_high}
use Rattle.mc_range.specs.Candidates.{lower_end, upper_end}
use Rattle.mc_range.specs.Safe.{literal_list}

-- the most intervals that are made: this engine's own limit
abbrev pub most_intervals : ℕ
most_intervals = 4096

-- the interval from one list to another, both included
abbrev pub from_to : List ℕ → List ℕ → Interval
from_to low high = record { lo = Some low; hi = Some high }

-- the interval of the index lists whose first list is this one
abbrev pub around : Meaning → List ℕ → Interval
around m list = from_to (list ++ behind_low m) (list ++ behind_high m)

-- the interval of the lists that go on where the constant's list has ended, if there may be some
abbrev pub passing : Meaning → List ℕ → List Interval
passing m weights =
    if may_pass m
    then from_to (weights ++ separator ∷ []) (weights ++ top ∷ []) ∷ []
    else []

-- the intervals of an index of the first k characters for texts equal to one of this first list
abbrev pub equal_front : Meaning → ℕ → List ℕ → List Interval
equal_front m k weights =
    map (around m) (candidates (m.floor k) m.tails weights) ++ passing m weights

-- the intervals of texts equal to these characters
abbrev pub equal_chars : Meaning → Option ℕ → List ℕ → List Interval
equal_chars m None codes = from_to (flat_list m codes) (flat_list m codes) ∷ []
equal_chars m (Some k) codes = equal_front m k (m.level_list 1 codes)

-- the intervals of texts equal to a constant: none for NULL
abbrev pub equal_cell : Meaning → Option ℕ → Cell → List Interval
equal_cell m prefix Null = []
equal_cell m prefix (Str text) = equal_chars m prefix (chars m.charset text)

-- the interval up to a constant, open below
abbrev pub at_most : Meaning → Option ℕ → Cell → List Interval
at_most m prefix Null = []
at_most m prefix (Str text) =
    record { lo = None; hi = Some (upper_end m prefix (chars m.charset text)) } ∷ []

-- the interval from a constant on, open above
abbrev pub at_least : Meaning → Option ℕ → Cell → List Interval
at_least m prefix Null = []
at_least m prefix (Str text) =
    record { lo = Some (lower_end m prefix (chars m.charset text)); hi = None } ∷ []

-- the interval from one constant to another
abbrev pub between : Meaning → Option ℕ → Cell → Cell → List Interval
between m prefix Null high = []
between m prefix (Str low) Null = []
between m prefix (Str low) (Str high) =
    from_to (lower_end m prefix (chars m.charset low)) (upper_end m prefix (chars m.charset high))
    ∷ []

-- the interval of the lists that begin with this one: padded texts that end there may stand
-- before it, by spaces that count for more than what follows
abbrev pub begins_with : Pad → List ℕ → Interval
begins_with NoPad list = from_to list (list ++ top ∷ [])
begins_with PadSpace list = from_to (list ++ separator ∷ []) (list ++ top ∷ [])

-- the intervals of texts that match a pattern, if its literal prefix has weights
abbrev pub like_list : Pad → List ℕ → Option (List Interval)
like_list pad list = if has_members list then Some (begins_with pad list ∷ []) else None

abbrev pub like_cell : Meaning → Option ℕ → Cell → Option ℕ → Option (List Interval)
like_cell m prefix Null escape = Some []
like_cell m prefix (Str pattern) escape =
    like_list m.pad (literal_list m prefix (items_of escape (chars m.charset pattern)))

-- the intervals, if they are no more than the most
abbrev pub within_most : List Interval → Option (List Interval)
within_most list = if nat_le (length list) most_intervals then Some list else None

-- the intervals of a condition, in an index of whole texts or of first characters; none are named
-- where LIKE has no weights to begin with, or where they would be more than the most
abbrev pub intervals_of : Meaning → Option ℕ → Cond → Option (List Interval)
intervals_of m prefix (Eq cell) = within_most (equal_cell m prefix cell)
intervals_of m prefix (AtMost cell) = Some (at_most m prefix cell)
intervals_of m prefix (AtLeast cell) = Some (at_least m prefix cell)
intervals_of m prefix (Between low high) = Some (between m prefix low high)
intervals_of m prefix (In cells) = within_most (flat_map (equal_cell m prefix) cells)
intervals_of m prefix (Like pattern escape) = like_cell m prefix pattern escape
