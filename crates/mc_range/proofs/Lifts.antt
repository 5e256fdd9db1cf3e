-- Flat lists lie where their first lists do.
use Rattle.std.proofs.Common.{◌≡◌, ◌≢◌, ℕ, zero, suc, ◌<◌, ◌≤◌, ◌==◌, ◌⊎◌, false}
use Rattle.std.proofs.Common.{List, []}
use Rattle.std.proofs.Common.{◌∷◌, ◌++◌, append_assoc, append-nil, refl, sym, ap, ◌∙◌, subst, inl}
use Rattle.std.proofs.Common.{inr}
use Rattle.std.proofs.Common.{arith, is_gt, ne_eqb, if◌then◌else◌}
use Rattle.std.specs.List.{All}
use Rattle.std.specs.declared.cmp.Ordering.{Ordering}
use Rattle.std.specs.declared.cmp.Ordering.TheVariants.{Less, Equal, Greater}
use Rattle.std.specs.Ordering.{ordering_then}
use Rattle.std.proofs.lemmas.Bool.{cases_lt}
use Rattle.std.proofs.lemmas.List.Elements.{All-weaker, All-contains, Contains-append_right}
use Rattle.mc_order.specs.declared.pad.Pad.{Pad}
use Rattle.mc_order.specs.declared.pad.Pad.TheVariants.{PadSpace, NoPad}
use Rattle.mc_order.specs.Consequences.{FlatListsAreBounded, SpaceIsWeight, SafeFrontStands}
use Rattle.mc_order.specs.Consequences.{CharsAreCut, TextsAreChars}
use Rattle.mc_order.specs.Laws.{greatest_weight, IsWeight, KeepsSpace, IsLawful}
use Rattle.mc_order.specs.Meaning.{Meaning, separator, joined_levels, flat_list, AreCharsOf}
use Rattle.mc_order.specs.Order.{list_order}
use Rattle.mc_key.specs.Keys.{top}
use Rattle.mc_key.specs.Laws.{TopIsAboveEnd}
use Rattle.mc_like.specs.Laws.{BeginsLikeFront}
use Rattle.mc_range.specs.Candidates.{behind_low, behind_high}
use Rattle.mc_range.specs.Finds.{SafeIsDecided}
use Rattle.mc_range.proofs.Candidates.{Contains-first, Contains-behind}
use Rattle.mc_range.proofs.Compare.{NotAbove, gt_from, then_not_gt}
use Rattle.mc_range.proofs.Outcome.{Given}

-- What is used of a collation, of orders, texts and patterns.
pub record Known (m : Meaning) : Type 0 where
  pub given : Given m
  pub lawful : IsLawful m
  pub bounded : FlatListsAreBounded m
  pub space : SpaceIsWeight m
  pub safe_front : SafeFrontStands m
  pub safe : SafeIsDecided m
  pub like_front : BeginsLikeFront m
  pub top_end : TopIsAboveEnd
  pub cut : CharsAreCut m.charset
  pub of_text : TextsAreChars m.charset
  pub prolonged : (space : ℕ) (list more : List ℕ) →
      list_order NoPad space list (list ++ more) ≢ Greater
  pub levels : (space : ℕ) (a b more other : List ℕ) → All (λ weight. separator < weight) a →
      All (λ weight. separator < weight) b →
      list_order NoPad space (a ++ separator ∷ more) (b ++ separator ∷ other)
      ≡ ordering_then (list_order NoPad space a b) (list_order NoPad space more other)

pub one_or_more : (m : Meaning) → Known m → (m.levels ≡ 1) ⊎ (1 < m.levels)
one_or_more m known =
    elim (cases_lt 1 m.levels) [
      | inl more ↦ inr more
      | inr one ↦ inl (let some = known.lawful.settings.some_level in omega arith)
    ]

pub padded_single : (m : Meaning) → Known m → m.pad ≡ PadSpace → m.levels ≡ 1
padded_single m known padded =
    elim (one_or_more m known) [
      | inl one ↦ one
      | inr more ↦ absurd (let bare = known.lawful.settings.levels_unpadded more in
          let never : PadSpace ≡ NoPad = sym padded ∙ bare in cc)
    ]

-- The first list of characters has weights alone.
pub weights_of : (m : Meaning) → IsLawful m → (codes : List ℕ) → AreCharsOf m.charset codes →
    All (IsWeight m) (m.level_list 1 codes)
weights_of m lawful codes chars =
    lawful.bounds 1 codes (omega arith) lawful.settings.some_level chars

positive : (m : Meaning) (list : List ℕ) → All (IsWeight m) list →
    All (λ weight. separator < weight) list
positive m list all =
    All-weaker (IsWeight m) (λ weight. separator < weight) (λ w h. let p = h.0 in omega arith) list
    all

pub flat_single : (m : Meaning) → m.levels ≡ 1 → (codes : List ℕ) →
    flat_list m codes ≡ m.level_list 1 codes
flat_single m one codes = ap (λ n. joined_levels n (λ level. m.level_list level codes)) one

many_levels : (levels : ℕ) (list : ℕ → List ℕ) → 1 < levels →
    (rest : List ℕ) × (joined_levels levels list ≡ list 1 ++ separator ∷ rest)
many_levels zero list more = absurd (omega arith)
many_levels (suc zero) list more = absurd (omega arith)
many_levels (suc (suc zero)) list more = (list 2, refl)
many_levels (suc (suc (suc n))) list more =
    (list 2 ++ separator ∷ list 3, append_assoc (list 1) (separator ∷ list 2) (separator ∷ list 3))

flat_many : (m : Meaning) → 1 < m.levels → (codes : List ℕ) →
    (rest : List ℕ) × (flat_list m codes ≡ m.level_list 1 codes ++ separator ∷ rest)
flat_many m more codes = many_levels m.levels (λ level. m.level_list level codes) more

low_single : (m : Meaning) → m.levels ≡ 1 → behind_low m ≡ []
low_single m one = ap (λ n. if n == 1 then [] else separator ∷ []) one

high_single : (m : Meaning) → m.levels ≡ 1 → behind_high m ≡ []
high_single m one = ap (λ n. if n == 1 then [] else separator ∷ top ∷ []) one

many_test : (levels : ℕ) → 1 < levels → (levels == 1) ≡ false
many_test levels more = ne_eqb levels 1 (λ e. let h : ⊥ = omega arith in h)

low_many : (m : Meaning) → 1 < m.levels → behind_low m ≡ separator ∷ []
low_many m more = ap (λ b. if b then [] else separator ∷ []) (many_test m.levels more)

high_many : (m : Meaning) → 1 < m.levels → behind_high m ≡ separator ∷ top ∷ []
high_many m more = ap (λ b. if b then [] else separator ∷ top ∷ []) (many_test m.levels more)

-- At more levels the first lists decide, else the others.
then_many : (m : Meaning) → Known m → 1 < m.levels → (a b more other : List ℕ) →
    All (IsWeight m) a → All (IsWeight m) b →
    list_order m.pad m.space (a ++ separator ∷ more) (b ++ separator ∷ other)
    ≡ ordering_then (list_order m.pad m.space a b) (list_order NoPad m.space more other)
then_many m known many a b more other pa pb =
    let bare = known.lawful.settings.levels_unpadded many in
    ap (λ pad. list_order pad m.space (a ++ separator ∷ more) (b ++ separator ∷ other)) bare
    ∙ known.levels m.space a b more other (positive m a pa) (positive m b pb)
    ∙ ap (λ pad. ordering_then (list_order pad m.space a b) (list_order NoPad m.space more other))
    (sym bare)

low_by : (m : Meaning) → Known m → (c codes : List ℕ) → All (IsWeight m) c →
    AreCharsOf m.charset codes → NotAbove m.pad m.space c (m.level_list 1 codes) →
    (m.levels ≡ 1) ⊎ (1 < m.levels) →
    NotAbove m.pad m.space (c ++ behind_low m) (flat_list m codes)
low_by m known c codes weights chars h (inl one) =
    ap (λ l. is_gt (list_order m.pad m.space (c ++ l) (flat_list m codes))) (low_single m one)
    ∙ ap (λ l. is_gt (list_order m.pad m.space l (flat_list m codes))) (append-nil c)
    ∙ ap (λ l. is_gt (list_order m.pad m.space c l)) (flat_single m one codes)
    ∙ h
low_by m known c codes weights chars h (inr more) =
    let flat = flat_many m more codes in
    ap (λ l. is_gt (list_order m.pad m.space (c ++ l) (flat_list m codes))) (low_many m more)
    ∙ ap (λ l. is_gt (list_order m.pad m.space (c ++ separator ∷ []) l)) flat.1
    ∙ ap is_gt (then_many m known more c (m.level_list 1 codes) [] flat.0 weights
    (weights_of m known.lawful codes chars))
    ∙ then_not_gt (list_order m.pad m.space c (m.level_list 1 codes))
    (list_order NoPad m.space [] flat.0) h
    (gt_from (list_order NoPad m.space [] flat.0) (known.prolonged m.space [] flat.0))

-- What is not above the first list has the flat list above its lower end.
pub lift_low : (m : Meaning) → Known m → (c codes : List ℕ) → All (IsWeight m) c →
    AreCharsOf m.charset codes → NotAbove m.pad m.space c (m.level_list 1 codes) →
    NotAbove m.pad m.space (c ++ behind_low m) (flat_list m codes)
lift_low m known c codes weights chars h =
    low_by m known c codes weights chars h (one_or_more m known)

below_top : (m : Meaning) → Known m → (front rest : List ℕ) →
    All (λ number. number ≤ greatest_weight) (front ++ separator ∷ rest) →
    is_gt (list_order NoPad m.space rest (top ∷ [])) ≡ false
below_top m known front [] all =
    gt_from (list_order NoPad m.space [] (top ∷ [])) (known.prolonged m.space [] (top ∷ []))
below_top m known front (w ∷ rest) all =
    ap is_gt (known.given.top_above NoPad m.space w [] rest [] (All-contains
    (λ number. number ≤ greatest_weight) (front ++ separator ∷ w ∷ rest) w all
    (Contains-append_right front (separator ∷ w ∷ rest) w
    (Contains-behind separator (w ∷ rest) w (Contains-first w rest)))))

high_by : (m : Meaning) → Known m → (c codes : List ℕ) → All (IsWeight m) c →
    AreCharsOf m.charset codes → NotAbove m.pad m.space (m.level_list 1 codes) c →
    (m.levels ≡ 1) ⊎ (1 < m.levels) →
    NotAbove m.pad m.space (flat_list m codes) (c ++ behind_high m)
high_by m known c codes weights chars h (inl one) =
    ap (λ l. is_gt (list_order m.pad m.space (flat_list m codes) (c ++ l))) (high_single m one)
    ∙ ap (λ l. is_gt (list_order m.pad m.space (flat_list m codes) l)) (append-nil c)
    ∙ ap (λ l. is_gt (list_order m.pad m.space l c)) (flat_single m one codes)
    ∙ h
high_by m known c codes weights chars h (inr more) =
    let flat = flat_many m more codes in
    let bound = subst (All (λ number. number ≤ greatest_weight)) flat.1
    (known.bounded codes chars) in
    ap (λ l. is_gt (list_order m.pad m.space (flat_list m codes) (c ++ l))) (high_many m more)
    ∙ ap (λ l. is_gt (list_order m.pad m.space l (c ++ separator ∷ top ∷ []))) flat.1
    ∙ ap is_gt (then_many m known more (m.level_list 1 codes) c flat.0 (top ∷ [])
    (weights_of m known.lawful codes chars) weights)
    ∙ then_not_gt (list_order m.pad m.space (m.level_list 1 codes) c)
    (list_order NoPad m.space flat.0 (top ∷ [])) h
    (below_top m known (m.level_list 1 codes) flat.0 bound)

pub lift_high : (m : Meaning) → Known m → (c codes : List ℕ) → All (IsWeight m) c →
    AreCharsOf m.charset codes → NotAbove m.pad m.space (m.level_list 1 codes) c →
    NotAbove m.pad m.space (flat_list m codes) (c ++ behind_high m)
lift_high m known c codes weights chars h =
    high_by m known c codes weights chars h (one_or_more m known)

then_equal : (o : Ordering) → o ≡ ordering_then o Equal
then_equal Less = refl
then_equal Equal = refl
then_equal Greater = refl

order_by : (m : Meaning) → Known m → (codes other : List ℕ) → AreCharsOf m.charset codes →
    AreCharsOf m.charset other → (m.levels ≡ 1) ⊎ (1 < m.levels) →
    (r : Ordering) × (list_order m.pad m.space (flat_list m codes) (flat_list m other)
    ≡ ordering_then (list_order m.pad m.space (m.level_list 1 codes) (m.level_list 1 other)) r)
order_by m known codes other chars others (inl one) = (
  Equal,
  ap (λ l. list_order m.pad m.space l (flat_list m other)) (flat_single m one codes)
      ∙ ap (list_order m.pad m.space (m.level_list 1 codes)) (flat_single m one other)
      ∙ then_equal (list_order m.pad m.space (m.level_list 1 codes) (m.level_list 1 other)),
)
order_by m known codes other chars others (inr more) =
    let flat = flat_many m more codes in
    let next = flat_many m more other in (
      list_order NoPad m.space flat.0 next.0,
      ap (λ l. list_order m.pad m.space l (flat_list m other)) flat.1
          ∙ ap (list_order m.pad m.space (m.level_list 1 codes ++ separator ∷ flat.0)) next.1
          ∙ then_many m known more (m.level_list 1 codes) (m.level_list 1 other) flat.0 next.0
          (weights_of m known.lawful codes chars) (weights_of m known.lawful other others),
    )

-- The order of two flat lists is that of the first lists, and where these are equal another one.
pub flat_order : (m : Meaning) → Known m → (codes other : List ℕ) → AreCharsOf m.charset codes →
    AreCharsOf m.charset other →
    (r : Ordering) × (list_order m.pad m.space (flat_list m codes) (flat_list m other)
    ≡ ordering_then (list_order m.pad m.space (m.level_list 1 codes) (m.level_list 1 other)) r)
flat_order m known codes other chars others =
    order_by m known codes other chars others (one_or_more m known)

begins_in : (m : Meaning) (codes : List ℕ) → (m.levels ≡ 1) ⊎ (1 < m.levels) →
    (more : List ℕ) × (flat_list m codes ≡ m.level_list 1 codes ++ more)
begins_in m codes (inl one) =
    ([], flat_single m one codes ∙ sym (append-nil (m.level_list 1 codes)))
begins_in m codes (inr many) =
    let flat = flat_many m many codes in (separator ∷ flat.0, flat.1)

-- A flat list begins with the first list.
pub flat_begins : (m : Meaning) → Known m → (codes : List ℕ) →
    (more : List ℕ) × (flat_list m codes ≡ m.level_list 1 codes ++ more)
flat_begins m known codes = begins_in m codes (one_or_more m known)

-- Unpadded the space is 0.
pub space_bound : (m : Meaning) → Known m → m.pad ≡ NoPad → m.space ≤ greatest_weight
space_bound m known bare =
    let none : m.space ≡ 0 =
    subst (λ (pad : Pad). KeepsSpace pad m) bare known.lawful.settings.space_weight in omega arith
