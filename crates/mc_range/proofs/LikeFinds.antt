-- An index finds what matches a pattern: it begins with the list of the safe literals.
use Rattle.std.proofs.Common.{◌≡◌, ℕ, zero, suc, ◌<◌, ◌≤◌, min, List, [], ◌∷◌}
use Rattle.std.proofs.Common.{◌++◌}
use Rattle.std.proofs.Common.{append_assoc, append-nil, length, get_or, take, drop, take-take}
use Rattle.std.proofs.Common.{take-append-drop, length-take, refl, sym, ap, ◌∙◌, subst, arith}
use Rattle.std.proofs.Common.{Option, Some, None, is_gt}
use Rattle.std.specs.List.{All, AllZip, Contains, prefix_len, take_while}
use Rattle.std.proofs.lemmas.List.Elements.{All-contains, Contains-append_right, All-from_get_or}
use Rattle.std.proofs.lemmas.List.Sums.{prefix_len-le-length, prefix_len_passes}
use Rattle.std.proofs.lemmas.List.{get_or-take}
use Rattle.mc_charset.specs.declared.charset.Charset.{Charset}
use Rattle.mc_order.specs.declared.pad.Pad.{Pad}
use Rattle.mc_order.specs.declared.pad.Pad.TheVariants.{PadSpace, NoPad}
use Rattle.mc_order.specs.Consequences.{CharsAreCut, IsSameChar}
use Rattle.mc_order.specs.Laws.{greatest_weight, IsWeight}
use Rattle.mc_order.specs.Meaning.{Meaning, separator, flat_list, first_chars, AreCharsOf, IsSafe}
use Rattle.mc_order.specs.Order.{list_order}
use Rattle.mc_key.specs.Keys.{top}
use Rattle.mc_range.specs.declared.interval.Interval.{Interval}
use Rattle.mc_range.specs.Finds.{IsIn, IsInOne, index_list}
use Rattle.mc_range.specs.Intervals.{begins_with, like_list}
use Rattle.mc_range.specs.Safe.{is_safe}
use Rattle.mc_range.proofs.Candidates.{Contains-first}
use Rattle.mc_range.proofs.Compare.{NotAbove, gt_from, below_weight, separator_below}
use Rattle.mc_range.proofs.Fronts.{in_between}
use Rattle.mc_range.proofs.Lifts.{Known, padded_single, flat_single, flat_begins}
use Rattle.mc_range.proofs.Lifts.{weights_of, space_bound}

-- A list that begins with some weights is not above these with the number above every weight.
begins_high : (m : Meaning) → Known m → (front more : List ℕ) →
    All (λ number. number ≤ greatest_weight) (front ++ more) → m.space ≤ greatest_weight →
    NotAbove m.pad m.space (front ++ more) (front ++ top ∷ [])
begins_high m known front [] all space =
    ap (λ l. is_gt (list_order m.pad m.space l (front ++ top ∷ []))) (append-nil front)
    ∙ ap is_gt (known.top_end m.pad m.space front [] space)
begins_high m known front (w ∷ more) all space =
    ap is_gt (known.given.top_above m.pad m.space w front more [] (All-contains
    (λ number. number ≤ greatest_weight) (front ++ w ∷ more) w all
    (Contains-append_right front (w ∷ more) w (Contains-first w more))))

-- Padded, a list that goes on with weights or with spaces is above these and a separator.
begins_low : (m : Meaning) → Known m → (front more : List ℕ) → m.pad ≡ PadSpace →
    All (IsWeight m) (front ++ more) →
    NotAbove m.pad m.space (front ++ separator ∷ []) (front ++ more)
begins_low m known front [] padded all =
    let space = known.space padded in
    ap (λ l. is_gt (list_order m.pad m.space (front ++ separator ∷ []) l)) (append-nil front)
    ∙ ap (λ pad. is_gt (list_order pad m.space (front ++ separator ∷ []) front)) padded
    ∙ ap is_gt (separator_below known.given.fronts m.space front (let s = space.0 in omega arith))
begins_low m known front (w ∷ more) padded all =
    let weight = All-contains (IsWeight m) (front ++ w ∷ more) w all
    (Contains-append_right front (w ∷ more) w (Contains-first w more)) in
    ap is_gt (below_weight known.given.fronts m.pad m.space front separator w [] more
    (let p = weight.0 in omega arith))

begins_by : (m : Meaning) → Known m → (codes front rest : List ℕ) → AreCharsOf m.charset codes →
    m.level_list 1 codes ≡ front ++ rest → (more : List ℕ) →
    flat_list m codes ≡ m.level_list 1 codes ++ more → (pad : Pad) → m.pad ≡ pad →
    IsIn m (flat_list m codes) (begins_with pad front)
begins_by m known codes front rest chars begins more flat NoPad bare =
    let whole : flat_list m codes ≡ front ++ (rest ++ more) =
    flat ∙ ap (λ l. l ++ more) begins ∙ append_assoc front rest more in
    let space : m.space ≤ greatest_weight = space_bound m known bare in
    in_between m known front (flat_list m codes) (front ++ top ∷ [])
    (ap (λ l. is_gt (list_order m.pad m.space front l)) whole
    ∙ ap (λ pad. is_gt (list_order pad m.space front (front ++ (rest ++ more)))) bare
    ∙ gt_from (list_order NoPad m.space front (front ++ (rest ++ more)))
    (known.prolonged m.space front (rest ++ more)))
    (ap (λ l. is_gt (list_order m.pad m.space l (front ++ top ∷ []))) whole
    ∙ begins_high m known front (rest ++ more)
    (subst (All (λ number. number ≤ greatest_weight)) whole (known.bounded codes chars)) space)
begins_by m known codes front rest chars begins more flat PadSpace padded =
    let first = flat_single m (padded_single m known padded) codes in
    let whole : flat_list m codes ≡ front ++ rest = first ∙ begins in
    let weights = subst (All (IsWeight m)) begins (weights_of m known.lawful codes chars) in
    in_between m known (front ++ separator ∷ []) (flat_list m codes) (front ++ top ∷ [])
    (ap (λ l. is_gt (list_order m.pad m.space (front ++ separator ∷ []) l)) whole
    ∙ begins_low m known front rest padded weights)
    (ap (λ l. is_gt (list_order m.pad m.space l (front ++ top ∷ []))) whole
    ∙ begins_high m known front rest
    (subst (All (λ number. number ≤ greatest_weight)) whole (known.bounded codes chars))
    (known.space padded).1)

-- A text whose first list begins with these weights lies in their interval.
begins_found : (m : Meaning) → Known m → (codes front rest : List ℕ) →
    AreCharsOf m.charset codes → m.level_list 1 codes ≡ front ++ rest →
    IsIn m (flat_list m codes) (begins_with m.pad front)
begins_found m known codes front rest chars begins =
    let flat = flat_begins m known codes in
    begins_by m known codes front rest chars begins flat.0 flat.1 m.pad refl

-- Places of two lists that fit, up to some place.
zip_take : (R : ℕ → ℕ → Type 0) (n : ℕ) (xs ys : List ℕ) → AllZip R xs ys →
    AllZip R (take n xs) (take n ys)
zip_take R zero xs ys h = tt
zip_take R (suc n) [] [] h = tt
zip_take R (suc n) [] (y ∷ ys) h = absurd h
zip_take R (suc n) (x ∷ xs) [] h = absurd h
zip_take R (suc n) (x ∷ xs) (y ∷ ys) h = (h.0, zip_take R n xs ys h.1)

-- A front of the first k, or of all.
kept_front : (prefix : Option ℕ) (literals : List ℕ) (n : ℕ) →
    n ≤ length (first_chars prefix literals) →
    (take n (first_chars prefix literals) ≡ take n literals)
    × ((codes : List ℕ) → take n (first_chars prefix codes) ≡ take n codes)
    × (n ≤ length literals)
kept_front None literals n within = (refl, (λ codes. refl), within)
kept_front (Some k) literals n within =
    let size : length (take k literals) ≡ min k (length literals) = length-take k literals in
    let less : n ≤ k = omega arith in (
      take-take n k literals less,
      (λ codes. take-take n k codes less),
      omega arith,
    )

safe_taken : (m : Meaning) → Known m → (codes : List ℕ) →
    All (IsSafe m) (take_while (is_safe m) codes)
safe_taken m known codes =
    All-from_get_or (IsSafe m) (take (prefix_len (is_safe m) codes) codes) 0
    (λ i within. let size = length-take (prefix_len (is_safe m) codes) codes in
    let below : i < prefix_len (is_safe m) codes = omega arith in
    subst (IsSafe m) (sym (get_or-take (prefix_len (is_safe m) codes) codes i 0 below))
    ((known.safe (get_or codes i 0)).0 (prefix_len_passes (is_safe m) codes i 0 below)))

-- What an index keeps of characters of a set are such characters.
pub chars_kept : (set : Charset) → CharsAreCut set → (prefix : Option ℕ) (codes : List ℕ) →
    AreCharsOf set codes → AreCharsOf set (first_chars prefix codes)
chars_kept set cut None codes chars = chars
chars_kept set cut (Some k) codes chars = (cut k codes chars).0

-- What matches the literals in front begins with the list of the safe ones.
literals_begin : (m : Meaning) → Known m → (prefix : Option ℕ) (literals codes : List ℕ) →
    AreCharsOf m.charset literals → AreCharsOf m.charset codes →
    AllZip (IsSameChar m) literals (take (length literals) codes) →
    (rest : List ℕ) × (m.level_list 1 (first_chars prefix codes)
    ≡ m.level_list 1 (take_while (is_safe m) (first_chars prefix literals)) ++ rest)
literals_begin m known prefix literals codes of_set chars zip =
    let kept = first_chars prefix literals in
    let n = prefix_len (is_safe m) kept in
    let within : n ≤ length kept = prefix_len-le-length (is_safe m) kept in
    let fronts = kept_front prefix literals n within in
    let front = first_chars prefix codes in
    let split : take n front ++ drop n front ≡ front = take-append-drop n front in
    let same : take n (take (length literals) codes) ≡ take n front =
    take-take n (length literals) codes fronts.2 ∙ sym (fronts.1 codes) in
    let pairs : AllZip (IsSameChar m) (take n kept) (take n front) =
    subst (λ (l : List ℕ). AllZip (IsSameChar m) l (take n front)) (sym fronts.0)
    (subst (AllZip (IsSameChar m) (take n literals)) same
    (zip_take (IsSameChar m) n literals (take (length literals) codes) zip)) in
    let safe : All (IsSafe m) (take n kept) = safe_taken m known kept in
    let literal_chars : AreCharsOf m.charset (take n kept) =
    (known.cut n kept (chars_kept m.charset known.cut prefix literals of_set)).0 in
    let code_chars : AreCharsOf m.charset (take n front ++ drop n front) =
    subst (AreCharsOf m.charset) (sym split)
    (chars_kept m.charset known.cut prefix codes chars) in (
      m.level_list 1 (drop n front),
      ap (m.level_list 1) (sym split) ∙ known.safe_front (take n kept) (take n front)
          (drop n front) literal_chars code_chars safe pairs,
    )

-- The interval that is named of a list.
pub list_named : (pad : Pad) (list : List ℕ) (intervals : List Interval) →
    like_list pad list ≡ Some intervals → intervals ≡ begins_with pad list ∷ []
list_named pad [] intervals h = absurd (let never : ⊥ = cc in never)
list_named pad (w ∷ list) intervals h = cc

-- What matches lies in the one interval that is named.
pub like_found : (m : Meaning) → Known m → (prefix : Option ℕ) (literals codes : List ℕ)
    (intervals : List Interval) → AreCharsOf m.charset literals → AreCharsOf m.charset codes →
    AllZip (IsSameChar m) literals (take (length literals) codes) →
    like_list m.pad (m.level_list 1 (take_while (is_safe m) (first_chars prefix literals)))
    ≡ Some intervals →
    IsInOne m (index_list m prefix codes) intervals
like_found m known prefix literals codes intervals of_set chars zip named =
    let front = m.level_list 1 (take_while (is_safe m) (first_chars prefix literals)) in
    let begins = literals_begin m known prefix literals codes of_set chars zip in
    let one = begins_with m.pad front in (
      one,
      subst (λ (list : List Interval). Contains list one)
          (sym (list_named m.pad front intervals named)) (Contains-first one []),
      begins_found m known (first_chars prefix codes) front begins.0
          (chars_kept m.charset known.cut prefix codes chars) begins.1,
    )
