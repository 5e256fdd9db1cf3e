-- What halving of sorted entries keeps.
use Rattle.std.proofs.Common.{◌≡◌, ℕ, ◌+◌, ◌-◌, ◌/◌, ◌<◌, ◌≤◌, Bool, true, false, List}
use Rattle.std.proofs.Common.{length, get_or, map, sym, ap, ◌∙◌, subst, arith}
use Rattle.std.specs.List.{AllWithin, count_by}
use Rattle.std.specs.List.Sorted.{IsPartitionedBy}
use Rattle.std.proofs.lemmas.List.{get_or-map, get_or_read, length-map}
use Rattle.mc_order.specs.declared.pad.Pad.{Pad}
use Rattle.mc_order.specs.Order.{list_order}
use Rattle.std.specs.Cmp.{IsTotalOrder}
use Rattle.mc_key.specs.Keys.{SeenBound}
use Rattle.mc_index.specs.declared.entry.Entry.{Entry}
use Rattle.mc_index.specs.declared.side.Side.{Side}
use Rattle.mc_index.specs.Digits.{binary_digits}
use Rattle.mc_index.specs.Entries.{AreOrdered, SeenEntry, SeenIndex}
use Rattle.mc_index.specs.Held.{AreKeyed, holds_before, seen, seen_index}
use Rattle.mc_index.specs.Places.{IsBoundOf, is_before, place_of}
use Rattle.mc_index.proofs.Between.{parted}
use Rattle.mc_index.proofs.Counts.{count_by-map, count_split, not_true, not_both}
use Rattle.mc_index.proofs.Digits.{digits_rise, half_digits}

-- All members in front of a part pass the test, none behind it, the ticks have not fallen, and
-- those that are left are enough for the part.
pub record IsHalved {X : Type 0} (p : X → Bool) (xs : List X) (from size start used most : ℕ) :
    Type 0 where
  pub within : from + size ≤ length xs
  pub yes : AllWithin (λ x. p x ≡ true) xs 0 from
  pub no : AllWithin (λ x. p x ≡ false) xs (from + size) (length xs)
  pub later : start ≤ used
  pub ticks : used + binary_digits size ≤ most

pub whole : {X : Type 0} (p : X → Bool) (xs : List X) (used : ℕ) →
    IsHalved p xs 0 (length xs) used used (used + binary_digits (length xs))
whole p xs used = record {
  within = omega arith;
  yes = λ k d low high. absurd (omega arith);
  no = λ k d low high. absurd (omega arith);
  later = omega arith;
  ticks = omega arith;
}

fewer_ticks : (size less used now most : ℕ) → 0 < size → less ≤ size / 2 → now ≤ used + 1 →
    used + binary_digits size ≤ most → now + binary_digits less ≤ most
fewer_ticks size less used now most some half one ticks =
    let e = half_digits size some in
    let h = digits_rise less (size / 2) half in
    omega arith

module _ {X : Type 0} (p : X → Bool) (xs : List X) (parted : IsPartitionedBy p xs) where
  pub upper_half : (from size start used now most : ℕ) (x : X) → 0 < size → used ≤ now →
      now ≤ used + 1 → x ≡ get_or xs (from + size / 2) x → p x ≡ true →
      IsHalved p xs from size start used most →
      IsHalved p xs (from + (size / 2 + 1)) (size - (size / 2 + 1)) start now most
  upper_half from size start used now most x some rises one read passes h =
      let within = h.within in
      record {
        within = omega arith;
        yes = λ k d low high. parted k (from + size / 2) d (omega arith) (omega arith)
            (ap p (sym (get_or_read xs (from + size / 2) x (omega arith) read d)) ∙ passes);
        no = λ k d low high. h.no k d (omega arith) high;
        later = omega (arith, rises, h.later);
        ticks = fewer_ticks size (size - (size / 2 + 1)) used now most some (omega arith) one
            h.ticks;
      }

  pub lower_half : (from size start used now most : ℕ) (x : X) → 0 < size → used ≤ now →
      now ≤ used + 1 → x ≡ get_or xs (from + size / 2) x → p x ≡ false →
      IsHalved p xs from size start used most → IsHalved p xs from (size / 2) start now most
  lower_half from size start used now most x some rises one read fails h =
      let within = h.within in
      record {
        within = omega arith;
        yes = h.yes;
        no = λ k d low high. not_true (p (get_or xs k d)) (λ e.
            not_both (p (get_or xs (from + size / 2) d)) (parted (from + size / 2) k d low high e)
            (ap p (sym (get_or_read xs (from + size / 2) x (omega arith) read d)) ∙ fails));
        later = omega (arith, rises, h.later);
        ticks = fewer_ticks size (size / 2) used now most some (omega arith) one h.ticks;
      }

-- What is parted after a mapping is parted before it.
pub parted_seen : (p : SeenEntry → Bool) (entries : List Entry) →
    IsPartitionedBy p (map seen entries) → IsPartitionedBy (λ e. p (seen e)) entries
parted_seen p entries parted i j d less within e =
    let len = length-map entries seen in
    let a = get_or-map seen entries i d (seen d) (omega arith) in
    let b = get_or-map seen entries j d (seen d) within in
    ap p (sym a) ∙ parted i j (seen d) less (omega (arith, len, within)) (ap p b ∙ e)

-- Keys of an index have the padding and space of its bounds.
pub keyed_by_bound : (pad : Pad) (space : ℕ) (entries : List Entry) (now : SeenIndex)
    (bound : SeenBound) → seen_index pad space entries ≡ now → IsBoundOf now bound →
    AreKeyed pad space entries → AreKeyed bound.pad bound.space entries
keyed_by_bound pad space entries now bound view of keyed k d within =
    let it = keyed k d within in (
      it.0 ∙ ap (λ (n : SeenIndex). n.pad) view ∙ sym of.0,
      it.1 ∙ ap (λ (n : SeenIndex). n.space) view ∙ sym of.1,
    )

-- Entries of an index are parted by each side of a bound.
pub parted_held : ((pad : Pad) (space : ℕ) → IsTotalOrder (list_order pad space)) → (pad : Pad)
    (space : ℕ) (entries held : List Entry) (now : SeenIndex) (bound : SeenBound) (side : Side) →
    seen_index pad space entries ≡ now → IsBoundOf now bound →
    AreOrdered (seen_index pad space entries) → held ≡ entries →
    IsPartitionedBy (holds_before bound side) held
parted_held lists pad space entries held now bound side view of ordered is =
    let is_pad : pad ≡ bound.pad = ap (λ (n : SeenIndex). n.pad) view ∙ sym of.0 in
    let is_space : space ≡ bound.space = ap (λ (n : SeenIndex). n.space) view ∙ sym of.1 in
    subst (λ (list : List Entry). IsPartitionedBy (holds_before bound side) list) (sym is)
    (subst (λ (s : ℕ). IsPartitionedBy (λ (e : Entry). is_before side
    (list_order bound.pad s e.key.weights bound.numbers)) entries) is_space
    (subst (λ (p : Pad). IsPartitionedBy (λ (e : Entry). is_before side
    (list_order p space e.key.weights bound.numbers)) entries) is_pad
    (parted_seen (λ (e : SeenEntry). is_before side
    (list_order pad space e.weights bound.numbers)) entries
    (parted lists (seen_index pad space entries) ordered side bound.numbers))))

-- What is counted of them is where the bound stands.
pub counted_place : (pad : Pad) (space : ℕ) (entries held : List Entry) (now : SeenIndex)
    (bound : SeenBound) (side : Side) → seen_index pad space entries ≡ now → IsBoundOf now bound →
    held ≡ entries → count_by (holds_before bound side) held ≡ place_of now bound.numbers side
counted_place pad space entries held now bound side view of is =
    ap (count_by (holds_before bound side)) is
    ∙ sym (count_by-map (λ (e : SeenEntry). is_before side
    (list_order bound.pad bound.space e.weights bound.numbers)) seen entries)
    ∙ ap (λ (p : Pad). place_of (seen_index p bound.space entries) bound.numbers side) of.0
    ∙ ap (λ (s : ℕ). place_of (seen_index now.pad s entries) bound.numbers side) of.1
    ∙ ap (λ (l : List SeenEntry). place_of (record now { entries = l }) bound.numbers side)
    (ap (λ (n : SeenIndex). n.entries) view)

-- Where nothing is left all that pass are found.
pub all_found : {X : Type 0} (p : X → Bool) (xs : List X) (from size start used most : ℕ) →
    size ≤ 0 → IsHalved p xs from size start used most → from ≡ count_by p xs
all_found p xs from size start used most none h =
    let within = h.within in
    count_split p xs from (omega arith) h.yes (λ k d low high. h.no k d (omega arith) high)
