-- An index finds each text that meets a condition in one of its intervals.
use Rattle.std.proofs.Common.{◌≡◌, ℕ, Bool, true, false, List, [], ◌∷◌, Option, Some, None}
use Rattle.std.proofs.Common.{sym}
use Rattle.std.proofs.Common.{ap, ◌∙◌, subst, take, length, nat_le, if◌then◌else◌, is_gt, is_lt}
use Rattle.std.specs.List.{All as Each, Contains, flat_map}
use Rattle.std.specs.declared.cmp.Ordering.TheVariants.{Equal}
use Rattle.std.proofs.lemmas.List.Elements.{All-contains}
use Rattle.mc_charset.specs.Chars.{chars}
use Rattle.mc_order.specs.Meaning.{Meaning, flat_list, AreCharsOf}
use Rattle.mc_order.specs.Order.{list_order}
use Rattle.mc_like.specs.Items.{items_of, literal_front}
use Rattle.mc_range.specs.declared.condition.Cell.{Cell}
use Rattle.mc_range.specs.declared.condition.Cell.TheVariants.{Null, Str}
use Rattle.mc_range.specs.declared.condition.Cond.TheVariants.{Eq, AtMost, AtLeast, Between, In}
use Rattle.mc_range.specs.declared.condition.Cond.TheVariants.{Like}
use Rattle.mc_range.specs.declared.interval.Interval.{Interval}
use Rattle.mc_range.specs.Candidates.{ends, behind_low, behind_high, lower_end, upper_end}
use Rattle.mc_range.specs.Condition.{IsCellOf, IsEqualTo, IsAtMost, IsAtLeast, IsLike}
use Rattle.mc_range.specs.Finds.{IsIn, IsInOne, index_list, FindsAll}
use Rattle.mc_range.specs.Intervals.{from_to, equal_cell, at_most, at_least, between, like_cell}
use Rattle.mc_range.specs.Intervals.{most_intervals, within_most}
use Rattle.mc_range.proofs.Candidates.{Contains-first, Contains-flat_map}
use Rattle.mc_range.proofs.Compare.{NotAbove, not_above-trans, not_above-back, not_above-forth}
use Rattle.mc_range.proofs.Compare.{not_above-greatest, least-not_above, lt_false, gt_false}
use Rattle.mc_range.proofs.Compare.{gt_from}
use Rattle.mc_range.proofs.Compare.{lt_from, then_gt_back, then_lt_back, then_equal_back}
use Rattle.mc_range.proofs.Fronts.{in_between, beside, low_end, high_end, equal_found}
use Rattle.mc_range.proofs.LikeFinds.{like_found}
use Rattle.mc_range.proofs.Lifts.{Known, flat_order, weights_of}
use Rattle.mc_range.proofs.Literals.{literals_of_set}

alone_in : (m : Meaning) (list : List ℕ) (interval : Interval) → IsIn m list interval →
    IsInOne m list (interval ∷ [])
alone_in m list interval h = (interval, Contains-first interval [], h)

-- The order of the flat lists tells that of the first lists.
first_equal : (m : Meaning) → Known m → (codes other : List ℕ) → AreCharsOf m.charset codes →
    AreCharsOf m.charset other →
    list_order m.pad m.space (flat_list m codes) (flat_list m other) ≡ Equal →
    list_order m.pad m.space (m.level_list 1 codes) (m.level_list 1 other) ≡ Equal
first_equal m known codes other a b h =
    let flat = flat_order m known codes other a b in
    then_equal_back (list_order m.pad m.space (m.level_list 1 codes) (m.level_list 1 other)) flat.0
    (sym flat.1 ∙ h)

first_not_gt : (m : Meaning) → Known m → (codes other : List ℕ) → AreCharsOf m.charset codes →
    AreCharsOf m.charset other →
    is_gt (list_order m.pad m.space (flat_list m codes) (flat_list m other)) ≡ false →
    is_gt (list_order m.pad m.space (m.level_list 1 codes) (m.level_list 1 other)) ≡ false
first_not_gt m known codes other a b h =
    let flat = flat_order m known codes other a b in
    then_gt_back (list_order m.pad m.space (m.level_list 1 codes) (m.level_list 1 other)) flat.0
    (ap is_gt (sym flat.1) ∙ h)

first_not_lt : (m : Meaning) → Known m → (codes other : List ℕ) → AreCharsOf m.charset codes →
    AreCharsOf m.charset other →
    is_lt (list_order m.pad m.space (flat_list m codes) (flat_list m other)) ≡ false →
    is_lt (list_order m.pad m.space (m.level_list 1 codes) (m.level_list 1 other)) ≡ false
first_not_lt m known codes other a b h =
    let flat = flat_order m known codes other a b in
    then_lt_back (list_order m.pad m.space (m.level_list 1 codes) (m.level_list 1 other)) flat.0
    (ap is_lt (sym flat.1) ∙ h)

-- Equal to a constant.
equal_cell_found : (m : Meaning) → Known m → (prefix : Option ℕ) (codes : List ℕ) (cell : Cell) →
    AreCharsOf m.charset codes → IsCellOf m.charset cell → IsEqualTo m codes cell →
    IsInOne m (index_list m prefix codes) (equal_cell m prefix cell)
equal_cell_found m known prefix codes Null a of_set h = absurd h
equal_cell_found m known None codes (Str text) a of_set h =
    let other = flat_list m (chars m.charset text) in
    alone_in m (flat_list m codes) (from_to other other)
    (in_between m known other (flat_list m codes) other
    (not_above-back known.given.total m.pad m.space other (flat_list m codes) (ap is_lt h))
    (ap is_gt h))
equal_cell_found m known (Some k) codes (Str text) a of_set h =
    let b = known.of_text text of_set in
    let u = m.level_list 1 (chars m.charset text) in
    equal_found m known k codes u
    (beside m known k codes u a (weights_of m known.lawful (chars m.charset text) b))
    (first_equal m known codes (chars m.charset text) a b h)

-- Not above a constant: not above its upper end.
up_to : (m : Meaning) → Known m → (prefix : Option ℕ) (codes other : List ℕ) →
    AreCharsOf m.charset codes → AreCharsOf m.charset other →
    is_gt (list_order m.pad m.space (flat_list m codes) (flat_list m other)) ≡ false →
    NotAbove m.pad m.space (index_list m prefix codes) (upper_end m prefix other)
up_to m known None codes other a b h = h
up_to m known (Some k) codes other a b h =
    let u = m.level_list 1 other in
    let weights = weights_of m known.lawful other b in
    let end = high_end m known k codes u (beside m known k codes u a weights)
    (first_not_gt m known codes other a b h) in
    not_above-trans known.given.total m.pad m.space (flat_list m (take k codes)) end.0
    (upper_end m (Some k) other) end.2
    (not_above-greatest known.given.total m.pad m.space (ends m k u (behind_high m)) end.0 end.1)

-- Not below a constant: not below its lower end.
from_on : (m : Meaning) → Known m → (prefix : Option ℕ) (codes other : List ℕ) →
    AreCharsOf m.charset codes → AreCharsOf m.charset other →
    is_lt (list_order m.pad m.space (flat_list m codes) (flat_list m other)) ≡ false →
    NotAbove m.pad m.space (lower_end m prefix other) (index_list m prefix codes)
from_on m known None codes other a b h =
    not_above-back known.given.total m.pad m.space (flat_list m other) (flat_list m codes) h
from_on m known (Some k) codes other a b h =
    let u = m.level_list 1 other in
    let weights = weights_of m known.lawful other b in
    let end = low_end m known k codes u (beside m known k codes u a weights)
    (first_not_lt m known codes other a b h) in
    not_above-trans known.given.total m.pad m.space (lower_end m (Some k) other) end.0
    (flat_list m (take k codes))
    (least-not_above known.given.total m.pad m.space (ends m k u (behind_low m)) end.0 end.1) end.2

at_most_found : (m : Meaning) → Known m → (prefix : Option ℕ) (codes : List ℕ) (cell : Cell) →
    AreCharsOf m.charset codes → IsCellOf m.charset cell → IsAtMost m codes cell →
    IsInOne m (index_list m prefix codes) (at_most m prefix cell)
at_most_found m known prefix codes Null a of_set h = absurd h
at_most_found m known prefix codes (Str text) a of_set h =
    let other = chars m.charset text in
    alone_in m (index_list m prefix codes)
    (record { lo = None; hi = Some (upper_end m prefix other) }) (
      tt,
      gt_false (list_order m.pad m.space (index_list m prefix codes) (upper_end m prefix other))
          (up_to m known prefix codes other a (known.of_text text of_set)
          (gt_from (list_order m.pad m.space (flat_list m codes) (flat_list m other)) h)),
    )

at_least_found : (m : Meaning) → Known m → (prefix : Option ℕ) (codes : List ℕ) (cell : Cell) →
    AreCharsOf m.charset codes → IsCellOf m.charset cell → IsAtLeast m codes cell →
    IsInOne m (index_list m prefix codes) (at_least m prefix cell)
at_least_found m known prefix codes Null a of_set h = absurd h
at_least_found m known prefix codes (Str text) a of_set h =
    let other = chars m.charset text in
    alone_in m (index_list m prefix codes)
    (record { lo = Some (lower_end m prefix other); hi = None }) (
      lt_false (list_order m.pad m.space (index_list m prefix codes) (lower_end m prefix other))
          (not_above-forth known.given.total m.pad m.space (lower_end m prefix other)
          (index_list m prefix codes) (from_on m known prefix codes other a
          (known.of_text text of_set)
          (lt_from (list_order m.pad m.space (flat_list m codes) (flat_list m other)) h))),
      tt,
    )

between_found : (m : Meaning) → Known m → (prefix : Option ℕ) (codes : List ℕ)
    (low high : Cell) → AreCharsOf m.charset codes → IsCellOf m.charset low →
    IsCellOf m.charset high → IsAtLeast m codes low → IsAtMost m codes high →
    IsInOne m (index_list m prefix codes) (between m prefix low high)
between_found m known prefix codes Null high a of_low of_high h k = absurd h
between_found m known prefix codes (Str low) Null a of_low of_high h k = absurd k
between_found m known prefix codes (Str low) (Str high) a of_low of_high h k =
    let first = chars m.charset low in
    let last = chars m.charset high in
    alone_in m (index_list m prefix codes)
    (from_to (lower_end m prefix first) (upper_end m prefix last))
    (in_between m known (lower_end m prefix first) (index_list m prefix codes)
    (upper_end m prefix last)
    (from_on m known prefix codes first a (known.of_text low of_low)
    (lt_from (list_order m.pad m.space (flat_list m codes) (flat_list m first)) h))
    (up_to m known prefix codes last a (known.of_text high of_high)
    (gt_from (list_order m.pad m.space (flat_list m codes) (flat_list m last)) k)))

in_found : (m : Meaning) → Known m → (prefix : Option ℕ) (codes : List ℕ) (cells : List Cell) →
    AreCharsOf m.charset codes → Each (IsCellOf m.charset) cells → (cell : Cell) →
    Contains cells cell → IsEqualTo m codes cell →
    IsInOne m (index_list m prefix codes) (flat_map (equal_cell m prefix) cells)
in_found m known prefix codes cells a of_set cell among h =
    let one = equal_cell_found m known prefix codes cell a
    (All-contains (IsCellOf m.charset) cells cell of_set among) h in (
      one.0,
      Contains-flat_map (equal_cell m prefix) cells cell one.0 among one.1,
      one.2,
    )

like_cell_found : (m : Meaning) → Known m → (prefix : Option ℕ) (codes : List ℕ) (cell : Cell)
    (escape : Option ℕ) (intervals : List Interval) → AreCharsOf m.charset codes →
    IsCellOf m.charset cell → IsLike m codes cell escape →
    like_cell m prefix cell escape ≡ Some intervals →
    IsInOne m (index_list m prefix codes) intervals
like_cell_found m known prefix codes Null escape intervals a of_set h named = absurd h
like_cell_found m known prefix codes (Str pattern) escape intervals a of_set h named =
    let items = items_of escape (chars m.charset pattern) in
    like_found m known prefix (literal_front items) codes intervals
    (literals_of_set m.charset escape (chars m.charset pattern) (known.of_text pattern of_set)) a
    (known.like_front items codes h) named

within_by : (few : Bool) (list intervals : List Interval) →
    (if few then Some list else None) ≡ Some intervals → list ≡ intervals
within_by true list intervals h = cc
within_by false list intervals h = absurd (let never : ⊥ = cc in never)

-- The intervals that are named where they are no more than the most, and where they are few.
pub within_is : (list intervals : List Interval) → within_most list ≡ Some intervals →
    list ≡ intervals
within_is list intervals h = within_by (nat_le (length list) most_intervals) list intervals h

pub some_is : (list intervals : List Interval) → Some list ≡ Some intervals → list ≡ intervals
some_is list intervals h = cc

moved : (m : Meaning) (list : List ℕ) (one other : List Interval) → one ≡ other →
    IsInOne m list one → IsInOne m list other
moved m list one other e h = subst (IsInOne m list) e h

pub finds_all : (m : Meaning) → Known m → FindsAll m
finds_all m known prefix (Eq cell) of_set text intervals formed h named =
    let codes = chars m.charset text in
    moved m (index_list m prefix codes) (equal_cell m prefix cell) intervals
    (within_is (equal_cell m prefix cell) intervals named)
    (equal_cell_found m known prefix codes cell (known.of_text text formed) of_set h)
finds_all m known prefix (AtMost cell) of_set text intervals formed h named =
    let codes = chars m.charset text in
    moved m (index_list m prefix codes) (at_most m prefix cell) intervals
    (some_is (at_most m prefix cell) intervals named)
    (at_most_found m known prefix codes cell (known.of_text text formed) of_set h)
finds_all m known prefix (AtLeast cell) of_set text intervals formed h named =
    let codes = chars m.charset text in
    moved m (index_list m prefix codes) (at_least m prefix cell) intervals
    (some_is (at_least m prefix cell) intervals named)
    (at_least_found m known prefix codes cell (known.of_text text formed) of_set h)
finds_all m known prefix (Between low high) of_set text intervals formed h named =
    let codes = chars m.charset text in
    moved m (index_list m prefix codes) (between m prefix low high) intervals
    (some_is (between m prefix low high) intervals named)
    (between_found m known prefix codes low high (known.of_text text formed) of_set.0 of_set.1
    h.0 h.1)
finds_all m known prefix (In cells) of_set text intervals formed h named =
    let codes = chars m.charset text in
    moved m (index_list m prefix codes) (flat_map (equal_cell m prefix) cells) intervals
    (within_is (flat_map (equal_cell m prefix) cells) intervals named)
    (in_found m known prefix codes cells (known.of_text text formed) of_set h.0 h.1 h.2)
finds_all m known prefix (Like pattern escape) of_set text intervals formed h named =
    like_cell_found m known prefix (chars m.charset text) pattern escape intervals
    (known.of_text text formed) of_set h named
