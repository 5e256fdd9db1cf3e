-- What follows from the laws of a collation.
use Rattle.std.proofs.Common.{◌≡◌, ℕ, zero, suc, ◌≤◌, Bool, true, false, List, [], ◌∷◌, ◌++◌, append_assoc, length, take, drop, refl, sym, ap, ◌∙◌, subst, inl, inr, arith}
use Rattle.std.specs.List.{All}
use Rattle.std.proofs.lemmas.Bool.Decides.{nat_tests}
use Rattle.std.proofs.lemmas.List.{take-append-drop}
use Rattle.std.proofs.lemmas.List.Elements.{All-cons, All-head, All-tail, All-append, All-weaker, All-contains}
use Rattle.mc_charset.specs.declared.charset.Charset.{Charset}
use Rattle.mc_charset.specs.declared.charset.Charset.TheVariants.{Latin1, Ascii, Utf8mb3, Utf8mb4, Ucs2, Utf16, Utf32, Binary}
use Rattle.mc_charset.specs.Chars.{spell, chars}
use Rattle.mc_order.specs.declared.pad.Pad.{Pad}
use Rattle.mc_order.specs.Ascending.{IsAscending-unique}
use Rattle.mc_order.specs.Characters.{AreCharsOf-parts, AreCharsOf-one, AreCharsOf-join, AreCharsOf-split}
use Rattle.mc_order.specs.Consequences.{before_separator, FirstListBegins, FlatListsAreBounded, SpaceIsWeight, IsSameChar, SafeFrontStands, TailsAreComputed, TailsAreWeights, FloorIsAllOrNone, NoFloorBesideTails, HeadsAreChars, EmptyHasNoWeights, CharsAreCut, CharsAreJoined}
use Rattle.mc_order.specs.Floor.{weighs}
use Rattle.mc_order.specs.FloorLaw.{weighs_decides}
use Rattle.mc_order.specs.Laws.{greatest_weight, IsWeight, HasWeightPerChar, KeepsSpace, IsLawful}
use Rattle.mc_order.specs.Meaning.{Meaning, separator, joined_levels, flat_list, IsCharOf, AreCharsOf, IsSafe}
use Rattle.mc_order.specs.Tails.{tails_of}
use Rattle.mc_order.specs.TailsLaw.{tails_of-ascends, tails_of-each, tails_of-none}

abbrev IsPositive : ℕ → Type 0
IsPositive n = 1 ≤ n

positive_first : (w : ℕ) (ws : List ℕ) → 1 ≤ w →
    before_separator (w ∷ ws) ≡ w ∷ before_separator ws
positive_first w ws some = grind (arith, nat_tests)

-- Weights alone have no separator before their end.
before_nothing : (a : List ℕ) → All IsPositive a → before_separator a ≡ a
before_nothing [] p = refl
before_nothing (w ∷ a) p =
    positive_first w a (All-head IsPositive w a p)
    ∙ ap (λ t. w ∷ t) (before_nothing a (All-tail IsPositive w a p))

before_more : (a x : List ℕ) → All IsPositive a → before_separator (a ++ separator ∷ x) ≡ a
before_more [] x p = refl
before_more (w ∷ a) x p =
    positive_first w (a ++ separator ∷ x) (All-head IsPositive w a p)
    ∙ ap (λ t. w ∷ t) (before_more a x (All-tail IsPositive w a p))

first_of_joined : (levels : ℕ) (list : ℕ → List ℕ) → All IsPositive (list 1) →
    before_separator (joined_levels levels list) ≡ list 1
first_of_joined zero list p = before_nothing (list 1) p
first_of_joined (suc zero) list p = before_nothing (list 1) p
first_of_joined (suc (suc zero)) list p = before_more (list 1) (list 2) p
first_of_joined (suc (suc (suc more))) list p =
    ap before_separator (append_assoc (list 1) (separator ∷ list 2) (separator ∷ list 3))
    ∙ before_more (list 1) (list 2 ++ separator ∷ list 3) p

pub first_list_begins : (m : Meaning) → IsLawful m → FirstListBegins m
first_list_begins m laws codes chars =
    first_of_joined m.levels (λ level. m.level_list level codes)
    (All-weaker (IsWeight m) IsPositive (λ w h. h.0) (m.level_list 1 codes)
    (laws.bounds 1 codes (omega arith) laws.settings.some_level chars))

same_first_lists : (m : Meaning) → IsLawful m → (a b : List ℕ) → AreCharsOf m.charset a →
    AreCharsOf m.charset b → flat_list m a ≡ flat_list m b → m.level_list 1 a ≡ m.level_list 1 b
same_first_lists m laws a b ca cb e =
    sym (first_list_begins m laws a ca) ∙ ap before_separator e ∙ first_list_begins m laws b cb

abbrev IsBounded : ℕ → Type 0
IsBounded number = number ≤ greatest_weight

joined_bounded : (levels : ℕ) (list : ℕ → List ℕ) →
    ((level : ℕ) → 1 ≤ level → level ≤ levels → All IsBounded (list level)) → 1 ≤ levels →
    All IsBounded (joined_levels levels list)
joined_bounded zero list h some = absurd (omega arith)
joined_bounded (suc zero) list h some = h 1 (omega arith) (omega arith)
joined_bounded (suc (suc zero)) list h some =
    All-append IsBounded (list 1) (separator ∷ list 2) (h 1 (omega arith) (omega arith))
    (All-cons IsBounded 0 (list 2) (omega arith) (h 2 (omega arith) (omega arith)))
joined_bounded (suc (suc (suc more))) list h some =
    All-append IsBounded (list 1 ++ separator ∷ list 2) (separator ∷ list 3)
    (All-append IsBounded (list 1) (separator ∷ list 2) (h 1 (omega arith) (omega arith))
    (All-cons IsBounded 0 (list 2) (omega arith) (h 2 (omega arith) (omega arith))))
    (All-cons IsBounded 0 (list 3) (omega arith) (h 3 (omega arith) (omega arith)))

pub flat_lists_are_bounded : (m : Meaning) → IsLawful m → FlatListsAreBounded m
flat_lists_are_bounded m laws codes chars =
    joined_bounded m.levels (λ level. m.level_list level codes)
    (λ level some within. All-weaker (IsWeight m) IsBounded (λ w h. h.1) (m.level_list level codes)
    (laws.bounds level codes some within chars)) laws.settings.some_level

space_spelled : (set : Charset) → IsCharOf set 0x20
unfolding spell
space_spelled Latin1 = (_, refl)
space_spelled Ascii = (_, refl)
space_spelled Utf8mb3 = (_, refl)
space_spelled Utf8mb4 = (_, refl)
space_spelled Ucs2 = (_, refl)
space_spelled Utf16 = (_, refl)
space_spelled Utf32 = (_, refl)
space_spelled Binary = (_, refl)

pub space_is_weight : (m : Meaning) → IsLawful m → SpaceIsWeight m
space_is_weight m laws padded =
    let one : m.level_list 1 (0x20 ∷ []) ≡ m.space ∷ [] =
    subst (λ (pad : Pad). KeepsSpace pad m) padded laws.settings.space_weight in
    let each = laws.bounds 1 (0x20 ∷ []) (omega arith) laws.settings.some_level
    (AreCharsOf-one m.charset 0x20 (space_spelled m.charset)) in
    let h = All-head (IsWeight m) m.space [] (subst (All (IsWeight m)) one each) in (h.0, h.1)

-- A character like a safe one stands for itself.
like_safe : (m : Meaning) → IsLawful m → (literal code : ℕ) (rest : List ℕ) →
    IsCharOf m.charset literal → AreCharsOf m.charset (code ∷ rest) → IsSafe m literal →
    IsSameChar m literal code →
    m.level_list 1 (code ∷ rest) ≡ m.level_list 1 (literal ∷ []) ++ m.level_list 1 rest
like_safe m laws literal code rest cl cc' safe same =
    let parts = AreCharsOf-parts m.charset code rest cc' in
    let one = AreCharsOf-one m.charset code parts.0 in
    let lists = same_first_lists m laws (literal ∷ []) (code ∷ [])
    (AreCharsOf-one m.charset literal cl) one same in
    laws.head 1 code rest (omega arith) laws.settings.some_level cc'
    (λ head. safe code head same) ∙ ap (λ w. w ++ m.level_list 1 rest) (sym lists)

pub safe_front_stands : (m : Meaning) → IsLawful m → SafeFrontStands m
safe_front_stands m laws [] [] rest cl cc' safe same =
    ap (λ none. none ++ m.level_list 1 rest)
    (sym (laws.empty 1 (omega arith) laws.settings.some_level))
safe_front_stands m laws [] (c ∷ cs) rest cl cc' safe same = absurd same
safe_front_stands m laws (l ∷ ls) [] rest cl cc' safe same = absurd same
safe_front_stands m laws (l ∷ ls) (c ∷ cs) rest cl cc' safe same =
    let literals = AreCharsOf-parts m.charset l ls cl in
    let codes = AreCharsOf-parts m.charset c (cs ++ rest) cc' in
    let is_safe = All-head (IsSafe m) l ls safe in
    let first = like_safe m laws l c (cs ++ rest) literals.0 cc' is_safe same.0 in
    let itself = like_safe m laws l l ls literals.0 cl is_safe refl in
    let more = safe_front_stands m laws ls cs rest literals.1 codes.1
    (All-tail (IsSafe m) l ls safe) same.1 in
    first
    ∙ ap (λ w. m.level_list 1 (l ∷ []) ++ w) more
    ∙ sym (append_assoc (m.level_list 1 (l ∷ [])) (m.level_list 1 ls) (m.level_list 1 rest))
    ∙ ap (λ w. w ++ m.level_list 1 rest) (sym itself)

pub tails_are_computed : (m : Meaning) → IsLawful m → TailsAreComputed m
tails_are_computed m laws =
    IsAscending-unique m.tails (tails_of (m.level_list 1) m.contractions) laws.tails_of.ordered
    (tails_of-ascends (m.level_list 1) m.contractions)
    (λ weights. (
      λ h. (tails_of-each m weights).1 ((laws.tails_of.each weights).0 h),
      λ h. (laws.tails_of.each weights).1 ((tails_of-each m weights).0 h),
    ))

-- The characters of a tail's prefix have weights.
pub tails_are_weights : (m : Meaning) → IsLawful m → TailsAreWeights m
tails_are_weights m laws tail among =
    let is = (laws.tails_of.each tail).0 among in
    let whole = All-contains (λ codes. (2 ≤ length codes) × AreCharsOf m.charset codes)
    m.contractions (is.front ++ is.rest) laws.contractions_of is.joined in
    let chars = (AreCharsOf-split m.charset is.front is.rest whole.1).0 in (
      is.some_weights,
      subst (All (IsWeight m)) is.first_list
          (laws.bounds 1 is.front (omega arith) laws.settings.some_level chars),
    )

-- The search over the code points decides which of the two it is.
floor_by : (m : Meaning) → IsLawful m → (all : Bool) →
    weighs m.charset (m.level_list 1) m.contractions ≡ all → FloorIsAllOrNone m
floor_by m laws true e =
    let all = (weighs_decides m).0 e in inl (all, λ k. (laws.floor_of k).0 all)
floor_by m laws false e =
    let none : HasWeightPerChar m → ⊥ =
    λ h. let t : true ≡ false = sym ((weighs_decides m).1 h) ∙ e in cc in
    inr (none, λ k. (laws.floor_of k).1 none)

pub floor_is_all_or_none : (m : Meaning) → IsLawful m → FloorIsAllOrNone m
floor_is_all_or_none m laws = floor_by m laws (weighs m.charset (m.level_list 1) m.contractions) refl

none_beside : (m : Meaning) → IsLawful m → m.contractions ≡ [] → m.tails ≡ []
none_beside m laws none =
    tails_are_computed m laws ∙ ap (tails_of (m.level_list 1)) none ∙ tails_of-none (m.level_list 1)

pub no_floor_beside_tails : (m : Meaning) → IsLawful m → NoFloorBesideTails m
no_floor_beside_tails m laws some k = (laws.floor_of k).1 (λ h. some (none_beside m laws h.0))

pub heads_are_chars : (m : Meaning) → IsLawful m → HeadsAreChars m
heads_are_chars m laws code head =
    (AreCharsOf-parts m.charset code head.0 (All-contains (λ codes.
    (2 ≤ length codes) × AreCharsOf m.charset codes) m.contractions
    (code ∷ head.0) laws.contractions_of head.1).1).0

empty_joined : (levels : ℕ) (list : ℕ → List ℕ) → ((level : ℕ) → 1 ≤ level → level ≤ levels →
    list level ≡ []) → 1 ≤ levels → joined_levels levels list ≡ joined_levels levels (λ level. [])
empty_joined zero list none some = absurd (omega arith)
empty_joined (suc zero) list none some = none 1 (omega arith) (omega arith)
empty_joined (suc (suc zero)) list none some =
    rw (none 1 (omega arith) (omega arith), none 2 (omega arith) (omega arith)) refl
empty_joined (suc (suc (suc more))) list none some =
    rw (
      none 1 (omega arith) (omega arith),
      none 2 (omega arith) (omega arith),
      none 3
          (omega arith) (omega arith),
    ) refl

pub empty_has_no_weights : (m : Meaning) → IsLawful m → EmptyHasNoWeights m
empty_has_no_weights m laws =
    empty_joined m.levels (λ level. m.level_list level []) laws.empty laws.settings.some_level

pub chars_are_cut : (set : Charset) → CharsAreCut set
chars_are_cut set k codes h =
    AreCharsOf-split set (take k codes) (drop k codes)
    (subst (AreCharsOf set) (sym (take-append-drop k codes)) h)

pub chars_are_joined : (set : Charset) → CharsAreJoined set
chars_are_joined set codes more =
    (AreCharsOf-split set codes more, λ h. AreCharsOf-join set codes more h.0 h.1)
