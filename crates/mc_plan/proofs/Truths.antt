-- Truth values that accept no row.
use Rattle.std.proofs.Common.{◌≡◌, Bool, true, false, List, [], ◌∷◌, refl, map}
use Rattle.std.specs.List.{AllByRecursion}
use Rattle.std.specs.Ordering.{is_eq, is_ge, is_gt, is_le, is_lt}
use Rattle.std.specs.declared.cmp.Ordering.{Ordering}
use Rattle.std.specs.declared.cmp.Ordering.TheVariants.{Less, Equal, Greater}
use Rattle.mc_eval.specs.Acceptance.{firm}
use Rattle.mc_eval.specs.Truths.{all_of, any_of, known, least, opposite, told, truth}
use Rattle.mc_eval.specs.declared.truth.Truth.{Truth}
use Rattle.mc_eval.specs.declared.truth.Truth.TheVariants.{No, Faulty, Unknown, Yes}

-- It is no or NULL.
abbrev pub Rejects : Truth → Type 0
Rejects t = firm t ≡ No

pub truth_told : (t : Truth) → truth (told t) ≡ t
truth_told No = refl
truth_told Faulty = refl
truth_told Unknown = refl
truth_told Yes = refl

pub not_true : (b : Bool) → (b ≡ true → ⊥) → Rejects (known b)
not_true true h = absurd (h refl)
not_true false h = refl

pub not_eq : (o : Ordering) → (o ≡ Equal → ⊥) → Rejects (known (is_eq o))
not_eq Less h = refl
not_eq Equal h = absurd (h refl)
not_eq Greater h = refl

pub not_lt : (o : Ordering) → ((o ≡ Greater → ⊥) → ⊥) → Rejects (known (is_lt o))
not_lt Less h = absurd (h (λ e. cc))
not_lt Equal h = refl
not_lt Greater h = refl

pub not_le : (o : Ordering) → ((o ≡ Greater → ⊥) → ⊥) → Rejects (known (is_le o))
not_le Less h = absurd (h (λ e. cc))
not_le Equal h = absurd (h (λ e. cc))
not_le Greater h = refl

pub not_gt : (o : Ordering) → ((o ≡ Less → ⊥) → ⊥) → Rejects (known (is_gt o))
not_gt Less h = refl
not_gt Equal h = refl
not_gt Greater h = absurd (h (λ e. cc))

pub not_ge : (o : Ordering) → ((o ≡ Less → ⊥) → ⊥) → Rejects (known (is_ge o))
not_ge Less h = refl
not_ge Equal h = absurd (h (λ e. cc))
not_ge Greater h = absurd (h (λ e. cc))

-- AND of two

pub left_unknown : (b : Bool) → Rejects (all_of (Unknown ∷ known b ∷ []))
left_unknown true = refl
left_unknown false = refl

pub right_unknown : (b : Bool) → Rejects (all_of (known b ∷ Unknown ∷ []))
right_unknown true = refl
right_unknown false = refl

pub not_within : (o p : Ordering) → ((o ≡ Less → ⊥) × (p ≡ Greater → ⊥) → ⊥)
    → Rejects (all_of (known (is_ge o) ∷ known (is_le p) ∷ []))
not_within Less Less h = refl
not_within Less Equal h = refl
not_within Less Greater h = refl
not_within Equal Less h = absurd (h (λ e. cc, λ e. cc))
not_within Equal Equal h = absurd (h (λ e. cc, λ e. cc))
not_within Equal Greater h = refl
not_within Greater Less h = absurd (h (λ e. cc, λ e. cc))
not_within Greater Equal h = absurd (h (λ e. cc, λ e. cc))
not_within Greater Greater h = refl

-- OR of several

step : (t a : Truth) → Rejects t → Rejects (opposite a) → Rejects (opposite (least (opposite t) a))
step No No h k = absurd (cc)
step No Faulty h k = absurd (cc)
step No Unknown h k = refl
step No Yes h k = refl
step Faulty a h k = absurd (cc)
step Unknown No h k = absurd (cc)
step Unknown Faulty h k = absurd (cc)
step Unknown Unknown h k = refl
step Unknown Yes h k = refl
step Yes a h k = absurd (cc)

pub none_of : (ts : List Truth) → AllByRecursion Rejects ts → Rejects (any_of ts)
none_of [] h = refl
none_of (t ∷ ts) h = step t (all_of (map opposite ts)) h.0 (none_of ts h.1)

-- AND of several, of which one is no

least_no : (t : Truth) → least t No ≡ No
least_no No = refl
least_no Faulty = refl
least_no Unknown = refl
least_no Yes = refl
