-- An index of first characters finds what compares with a constant.
use Rattle.std.proofs.Common.{◌≡◌, ℕ, true, false, List, [], ◌∷◌, ◌++◌, map, take}
use Rattle.std.proofs.Common.{refl, sym, ap, ◌∙◌, subst, inl, inr, is_gt, is_lt}
use Rattle.std.proofs.Common.{if◌then◌else◌}
use Rattle.std.specs.List.{All, Contains}
use Rattle.std.specs.declared.cmp.Ordering.TheVariants.{Equal}
use Rattle.std.proofs.lemmas.List.Elements.{Contains-append_left, Contains-append_right}
use Rattle.mc_order.specs.Laws.{IsWeight}
use Rattle.mc_order.specs.Meaning.{Meaning, separator, flat_list, AreCharsOf}
use Rattle.mc_order.specs.Order.{list_order}
use Rattle.mc_key.specs.Keys.{top}
use Rattle.mc_range.specs.declared.interval.Interval.{Interval}
use Rattle.mc_range.specs.Candidates.{candidates, passing_ends, behind_low, behind_high, ends}
use Rattle.mc_range.specs.Candidates.{may_pass}
use Rattle.mc_range.specs.Finds.{IsIn, IsInOne}
use Rattle.mc_range.specs.Intervals.{from_to, around, passing, equal_front}
use Rattle.mc_range.proofs.Candidates.{own_candidate, Contains-first, Contains-behind, Contains-map}
use Rattle.mc_range.proofs.Compare.{NotAbove, not_above-itself, not_above-back, not_above-forth}
use Rattle.mc_range.proofs.Compare.{lt_false, gt_false}
use Rattle.mc_range.proofs.Lifts.{Known, padded_single, weights_of, flat_single, lift_low}
use Rattle.mc_range.proofs.Lifts.{lift_high}
use Rattle.mc_range.proofs.Outcome.{Outcome, Follows, Passes, outcome}

-- A list between two others lies in their interval.
pub in_between : (m : Meaning) → Known m → (low list high : List ℕ) →
    NotAbove m.pad m.space low list → NotAbove m.pad m.space list high →
    IsIn m list (from_to low high)
in_between m known low list high h k = (
  lt_false (list_order m.pad m.space list low)
      (not_above-forth known.given.total m.pad m.space low list h),
  gt_false (list_order m.pad m.space list high) k,
)

-- The first characters, their list, and what is known of it beside a constant's first list.
pub record Beside (m : Meaning) (k : ℕ) (codes u : List ℕ) : Type 0 where
  pub chars : AreCharsOf m.charset (take k codes)
  pub weights : All (IsWeight m) u
  pub out : Outcome m k (m.level_list 1 (take k codes)) (m.level_list 1 codes) u

pub beside : (m : Meaning) → Known m → (k : ℕ) (codes u : List ℕ) →
    AreCharsOf m.charset codes → All (IsWeight m) u → Beside m k codes u
beside m known k codes u chars weights =
    let front = (known.cut k codes chars).0 in
    record {
      chars = front;
      weights = weights;
      out = outcome m k known.given codes u (known.lawful.cut k codes chars)
          (weights_of m known.lawful (take k codes) front);
    }

passing_list : (m : Meaning) (u : List ℕ) → may_pass m ≡ true →
    passing_ends m u ≡ (u ++ separator ∷ []) ∷ (u ++ top ∷ []) ∷ []
passing_list m u may =
    ap (λ b. if b then (u ++ separator ∷ []) ∷ (u ++ top ∷ []) ∷ [] else []) may

low_passing : (m : Meaning) (u : List ℕ) → may_pass m ≡ true →
    Contains (passing_ends m u) (u ++ separator ∷ [])
low_passing m u may =
    subst (λ (lists : List (List ℕ)). Contains lists (u ++ separator ∷ []))
    (sym (passing_list m u may))
    (Contains-first (u ++ separator ∷ []) ((u ++ top ∷ []) ∷ []))

high_passing : (m : Meaning) (u : List ℕ) → may_pass m ≡ true →
    Contains (passing_ends m u) (u ++ top ∷ [])
high_passing m u may =
    subst (λ (lists : List (List ℕ)). Contains lists (u ++ top ∷ []))
    (sym (passing_list m u may))
    (Contains-behind (u ++ separator ∷ []) ((u ++ top ∷ []) ∷ []) (u ++ top ∷ [])
    (Contains-first (u ++ top ∷ []) []))

-- A candidate, with what is behind it, is among the ends.
candidate_end : (m : Meaning) (k : ℕ) (u behind c : List ℕ) →
    Contains (candidates (m.floor k) m.tails u) c → Contains (ends m k u behind) (c ++ behind)
candidate_end m k u behind c among =
    Contains-append_left (map (λ list. list ++ behind) (candidates (m.floor k) m.tails u))
    (passing_ends m u) (c ++ behind)
    (Contains-map (λ list. list ++ behind) (candidates (m.floor k) m.tails u) c among)

passing_end : (m : Meaning) (k : ℕ) (u behind e : List ℕ) → Contains (passing_ends m u) e →
    Contains (ends m k u behind) e
passing_end m k u behind e among =
    Contains-append_right (map (λ list. list ++ behind) (candidates (m.floor k) m.tails u))
    (passing_ends m u) e among

-- Where the index keeps the first list alone.
kept_first : (m : Meaning) → Known m → (codes u v : List ℕ) → Passes m v u →
    v ≡ m.level_list 1 codes → flat_list m codes ≡ v
kept_first m known codes u v passes e =
    flat_single m (padded_single m known passes.padded) codes ∙ sym e

follows_low : (m : Meaning) → Known m → (v y u : List ℕ) → Follows m v y u →
    is_lt (list_order m.pad m.space y u) ≡ false → NotAbove m.pad m.space u v
follows_low m known v y u (inl same) h =
    not_above-back known.given.total m.pad m.space u v (ap is_lt same ∙ h)
follows_low m known v y u (inr equal) h =
    not_above-back known.given.total m.pad m.space u v (ap is_lt equal)

follows_high : (m : Meaning) (v y u : List ℕ) → Follows m v y u →
    is_gt (list_order m.pad m.space y u) ≡ false → NotAbove m.pad m.space v u
follows_high m v y u (inl same) h = ap is_gt same ∙ h
follows_high m v y u (inr equal) h = ap is_gt equal

low_end_by : (m : Meaning) → Known m → (k : ℕ) (codes u : List ℕ) →
    AreCharsOf m.charset (take k codes) → All (IsWeight m) u →
    is_lt (list_order m.pad m.space (m.level_list 1 codes) u) ≡ false →
    Outcome m k (m.level_list 1 (take k codes)) (m.level_list 1 codes) u →
    (e : List ℕ) × Contains (ends m k u (behind_low m)) e
    × NotAbove m.pad m.space e (flat_list m (take k codes))
low_end_by m known k codes u chars weights h (inl among) =
    let v = m.level_list 1 (take k codes) in (
      v ++ behind_low m,
      candidate_end m k u (behind_low m) v among,
      lift_low m known v (take k codes) (weights_of m known.lawful (take k codes) chars) chars
          (not_above-itself known.given.total m.pad m.space v),
    )
low_end_by m known k codes u chars weights h (inr (inl follows)) = (
  u ++ behind_low m,
  candidate_end m k u (behind_low m) u (own_candidate (m.floor k) m.tails u),
  lift_low m known u (take k codes) weights chars
      (follows_low m known (m.level_list 1 (take k codes)) (m.level_list 1 codes) u follows h),
)
low_end_by m known k codes u chars weights h (inr (inr passes)) = (
  u ++ separator ∷ [],
  passing_end m k u (behind_low m) (u ++ separator ∷ []) (low_passing m u passes.may),
  subst (NotAbove m.pad m.space (u ++ separator ∷ []))
      (sym (kept_first m known (take k codes) u (m.level_list 1 (take k codes)) passes refl))
      passes.low,
)

-- One of the lower ends is not above what the index keeps.
pub low_end : (m : Meaning) → Known m → (k : ℕ) (codes u : List ℕ) → Beside m k codes u →
    is_lt (list_order m.pad m.space (m.level_list 1 codes) u) ≡ false →
    (e : List ℕ) × Contains (ends m k u (behind_low m)) e
    × NotAbove m.pad m.space e (flat_list m (take k codes))
low_end m known k codes u at h = low_end_by m known k codes u at.chars at.weights h at.out

high_end_by : (m : Meaning) → Known m → (k : ℕ) (codes u : List ℕ) →
    AreCharsOf m.charset (take k codes) → All (IsWeight m) u →
    is_gt (list_order m.pad m.space (m.level_list 1 codes) u) ≡ false →
    Outcome m k (m.level_list 1 (take k codes)) (m.level_list 1 codes) u →
    (e : List ℕ) × Contains (ends m k u (behind_high m)) e
    × NotAbove m.pad m.space (flat_list m (take k codes)) e
high_end_by m known k codes u chars weights h (inl among) =
    let v = m.level_list 1 (take k codes) in (
      v ++ behind_high m,
      candidate_end m k u (behind_high m) v among,
      lift_high m known v (take k codes) (weights_of m known.lawful (take k codes) chars) chars
          (not_above-itself known.given.total m.pad m.space v),
    )
high_end_by m known k codes u chars weights h (inr (inl follows)) = (
  u ++ behind_high m,
  candidate_end m k u (behind_high m) u (own_candidate (m.floor k) m.tails u),
  lift_high m known u (take k codes) weights chars
      (follows_high m (m.level_list 1 (take k codes)) (m.level_list 1 codes) u follows h),
)
high_end_by m known k codes u chars weights h (inr (inr passes)) = (
  u ++ top ∷ [],
  passing_end m k u (behind_high m) (u ++ top ∷ []) (high_passing m u passes.may),
  subst (λ (list : List ℕ). NotAbove m.pad m.space list (u ++ top ∷ []))
      (sym (kept_first m known (take k codes) u (m.level_list 1 (take k codes)) passes refl))
      passes.high,
)

-- One of the upper ends is not below what the index keeps.
pub high_end : (m : Meaning) → Known m → (k : ℕ) (codes u : List ℕ) → Beside m k codes u →
    is_gt (list_order m.pad m.space (m.level_list 1 codes) u) ≡ false →
    (e : List ℕ) × Contains (ends m k u (behind_high m)) e
    × NotAbove m.pad m.space (flat_list m (take k codes)) e
high_end m known k codes u at h = high_end_by m known k codes u at.chars at.weights h at.out

candidate_interval : (m : Meaning) (k : ℕ) (u c : List ℕ) →
    Contains (candidates (m.floor k) m.tails u) c → Contains (equal_front m k u) (around m c)
candidate_interval m k u c among =
    Contains-append_left (map (around m) (candidates (m.floor k) m.tails u)) (passing m u)
    (around m c) (Contains-map (around m) (candidates (m.floor k) m.tails u) c among)

passing_interval : (m : Meaning) (k : ℕ) (u : List ℕ) → may_pass m ≡ true →
    Contains (equal_front m k u) (from_to (u ++ separator ∷ []) (u ++ top ∷ []))
passing_interval m k u may =
    let one = from_to (u ++ separator ∷ []) (u ++ top ∷ []) in
    let list : passing m u ≡ one ∷ [] = ap (λ b. if b then one ∷ [] else []) may in
    Contains-append_right (map (around m) (candidates (m.floor k) m.tails u)) (passing m u) one
    (subst (λ (l : List Interval). Contains l one) (sym list) (Contains-first one []))

equal_by : (m : Meaning) → Known m → (k : ℕ) (codes u : List ℕ) →
    AreCharsOf m.charset (take k codes) → All (IsWeight m) u →
    list_order m.pad m.space (m.level_list 1 codes) u ≡ Equal →
    Outcome m k (m.level_list 1 (take k codes)) (m.level_list 1 codes) u →
    IsInOne m (flat_list m (take k codes)) (equal_front m k u)
equal_by m known k codes u chars weights h (inl among) =
    let v = m.level_list 1 (take k codes) in
    let same = not_above-itself known.given.total m.pad m.space v in
    let own = weights_of m known.lawful (take k codes) chars in (
      around m v,
      candidate_interval m k u v among,
      in_between m known (v ++ behind_low m) (flat_list m (take k codes)) (v ++ behind_high m)
          (lift_low m known v (take k codes) own chars same)
          (lift_high m known v (take k codes) own chars same),
    )
equal_by m known k codes u chars weights h (inr (inl follows)) =
    let v = m.level_list 1 (take k codes) in (
      around m u,
      candidate_interval m k u u (own_candidate (m.floor k) m.tails u),
      in_between m known (u ++ behind_low m) (flat_list m (take k codes)) (u ++ behind_high m)
          (lift_low m known u (take k codes) weights chars
          (follows_low m known v (m.level_list 1 codes) u follows (ap is_lt h)))
          (lift_high m known u (take k codes) weights chars
          (follows_high m v (m.level_list 1 codes) u follows (ap is_gt h))),
    )
equal_by m known k codes u chars weights h (inr (inr passes)) =
    let v = m.level_list 1 (take k codes) in
    let kept = sym (kept_first m known (take k codes) u v passes refl) in (
      from_to (u ++ separator ∷ []) (u ++ top ∷ []),
      passing_interval m k u passes.may,
      in_between m known (u ++ separator ∷ []) (flat_list m (take k codes)) (u ++ top ∷ [])
          (subst (NotAbove m.pad m.space (u ++ separator ∷ [])) kept passes.low)
          (subst (λ (list : List ℕ). NotAbove m.pad m.space list (u ++ top ∷ [])) kept
          passes.high),
    )

-- What is equal to the constant lies in one of the intervals.
pub equal_found : (m : Meaning) → Known m → (k : ℕ) (codes u : List ℕ) → Beside m k codes u →
    list_order m.pad m.space (m.level_list 1 codes) u ≡ Equal →
    IsInOne m (flat_list m (take k codes)) (equal_front m k u)
equal_found m known k codes u at h = equal_by m known k codes u at.chars at.weights h at.out
