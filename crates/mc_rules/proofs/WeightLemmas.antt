-- The weights of a piece's elements have two bytes.
use Rattle.std.proofs.Common.{◌≡◌, ℕ, zero, suc, ◌+◌, ◌-◌, ◌/◌, ◌%◌, ◌==◌, ◌≤◌, ◌<◌, Bool, true, false, cond, if◌then◌else◌, List, [], ◌∷◌, ◌++◌, length, Option, Some, None, option_map, refl, subst, arith, nat_lt}
use Rattle.std.specs.FinMap as map
use Rattle.std.specs.List.{All, find, flat_map}
use Rattle.std.specs.Option.{option_map_or}
use Rattle.std.proofs.lemmas.List.Elements.{All-append, All-cons}
use Rattle.mc_allkeys.specs.Sound.{HasWeights, IsSound}
use Rattle.mc_allkeys.specs.Table.{ElementTable, Entries, covers, start_of, implicit_of}
use Rattle.mc_allkeys.specs.declared.element.Element.{Element}
use Rattle.mc_allkeys.specs.declared.range.Range.{Range}
use Rattle.mc_rules.specs.Bases.{old_base, new_base, is_from, is_ideograph, is_extension}
use Rattle.mc_rules.specs.Elements.{unlisted_elements, elements_of}
use Rattle.mc_rules.specs.Jamo.{is_syllable, jamo_of, trailing_of}
use Rattle.mc_rules.specs.Outside.{pair, implicit, jamo_elements, uncovered, outside_new, outside_old, outside_of}
use Rattle.mc_rules.specs.declared.family.UcaFamily.{UcaFamily}
use Rattle.mc_rules.specs.declared.family.UcaFamily.TheVariants.{Uca4, Uca520, Uca9}

-- No elements.
small_none : All HasWeights []
small_none = λ k d lt. absurd (omega arith)

-- One element.
small_one : (element : Element) → HasWeights element → All HasWeights (element ∷ [])
small_one element h = All-cons HasWeights element [] h small_none

small_pair : (first second : ℕ) → first ≤ 0xFFFF → second ≤ 0xFFFF → All HasWeights (pair first second)
small_pair first second a b =
    All-cons HasWeights (record { p = first; s = 0x20; t = 2 })
    (record { p = second; s = 0; t = 0 } ∷ [])
    (record { primary = a; secondary = omega arith; tertiary = omega arith })
    (small_one (record { p = second; s = 0; t = 0 })
    (record { primary = b; secondary = omega arith; tertiary = omega arith }))

small_implicit : (base number : ℕ) → base ≤ 0xFBC0 → number ≤ 0x10FFFF →
    All HasWeights (implicit base number)
small_implicit base number b n =
    small_pair (base + number / 0x8000) (number % 0x8000 + 0x8000) (omega arith) (omega arith)

chosen : (a b : Bool) (x y z n : ℕ) → x ≤ n → y ≤ n → z ≤ n →
    (if a then x else if b then y else z) ≤ n
chosen true b x y z n hx hy hz = hx
chosen false true x y z n hx hy hz = hy
chosen false false x y z n hx hy hz = hz

small_old : (code : ℕ) → old_base code ≤ 0xFBC0
small_old code =
    chosen (is_from 0x3400 0x4DB5 code) (is_from 0x4E00 0x9FA5 code) 0xFB80 0xFB40 0xFBC0 0xFBC0
    (omega arith) (omega arith) (omega arith)

small_new : (code : ℕ) → new_base code ≤ 0xFBC0
small_new code =
    chosen (is_ideograph code) (is_extension code) 0xFB40 0xFB80 0xFBC0 0xFBC0
    (omega arith) (omega arith) (omega arith)

-- An entry's elements, or others.
small_or : (found : Option (List Element)) (other : List Element) →
    ((elements : List Element) → found ≡ Some elements → All HasWeights elements) →
    All HasWeights other → All HasWeights (option_map_or (λ elements. elements) found other)
small_or None other h g = g
small_or (Some elements) other h g = h elements refl

-- The elements of jamo.
small_jamo : (table : ElementTable) → IsSound table → (jamo : ℕ) → jamo ≤ 0x10FFFF →
    All HasWeights (jamo_elements table.entries jamo)
small_jamo table sound jamo h =
    small_or (map.get table.entries (jamo ∷ [])) (implicit 0xFBC0 jamo) (sound.weights (jamo ∷ []))
    (small_implicit 0xFBC0 jamo (omega arith) h)

small_trailing : (table : ElementTable) → IsSound table → (number : ℕ) (none : Bool) →
    All HasWeights (flat_map (jamo_elements table.entries)
    (cond none [] ((0x11A7 + number % 28) ∷ [])))
small_trailing table sound number true = small_none
small_trailing table sound number false =
    All-append HasWeights (jamo_elements table.entries (0x11A7 + number % 28)) []
    (small_jamo table sound (0x11A7 + number % 28) (omega arith)) small_none

small_syllable : (table : ElementTable) → IsSound table → (number : ℕ) → number ≤ 0x10FFFF →
    All HasWeights (flat_map (jamo_elements table.entries) (jamo_of number))
small_syllable table sound number h =
    All-append HasWeights (jamo_elements table.entries (0x1100 + number / 588)) _
    (small_jamo table sound (0x1100 + number / 588) (omega arith))
    (All-append HasWeights (jamo_elements table.entries (0x1161 + number % 588 / 28)) _
    (small_jamo table sound (0x1161 + number % 588 / 28) (omega arith))
    (small_trailing table sound number (number % 28 == 0)))

either : (b : Bool) (xs ys : List Element) → All HasWeights xs → All HasWeights ys →
    All HasWeights (cond b xs ys)
either true xs ys hx hy = hx
either false xs ys hx hy = hy

small_uncovered : (table : ElementTable) → IsSound table → (code : ℕ) → code ≤ 0x10FFFF →
    All HasWeights (uncovered table.entries code)
small_uncovered table sound code h =
    either (is_syllable code) _ _ (small_syllable table sound (code - 0xAC00) (omega arith))
    (small_implicit (new_base code) code (small_new code) h)

-- A range that is found is one of them.
found_step : (first range : Range) (rest : Option Range) (b : Bool) → first.base ≤ 0xFFFF →
    (rest ≡ Some range → range.base ≤ 0xFFFF) → cond b (Some first) rest ≡ Some range →
    range.base ≤ 0xFFFF
found_step first range rest true h g e =
    let same : first ≡ range = cc in subst (λ (r : Range). r.base ≤ 0xFFFF) same h
found_step first range rest false h g e = g e

found_by : (test : Range → Bool) (ranges : List Range) →
    All (λ (range : Range). range.base ≤ 0xFFFF) ranges → (range : Range) →
    find test ranges ≡ Some range → range.base ≤ 0xFFFF
found_by test [] h range e = absurd cc
found_by test (first ∷ ranges) h range e =
    found_step first range (find test ranges) (test first) (h 0 first (omega arith))
    (found_by test ranges (λ k d lt. h (suc k) d (omega arith)) range) e

small_covered : (ranges : List Range) (found : Option Range) (other : List Element) →
    ((range : Range) → found ≡ Some range → range.base ≤ 0xFFFF) → (number : Range → ℕ) →
    All HasWeights other →
    All HasWeights (option_map_or (λ (covered : ℕ × ℕ). pair covered.0 (covered.1 % 0x8000 + 0x8000))
    (option_map (λ (range : Range). (range.base, number range)) found) other)
small_covered ranges None other h number g = g
small_covered ranges (Some range) other h number g =
    small_pair range.base (number range % 0x8000 + 0x8000) (h range refl) (omega arith)

-- The elements of a code point without an entry.
small_outside : (table : ElementTable) → IsSound table → (kind : UcaFamily) (code : ℕ) →
    code ≤ 0x10FFFF → All HasWeights (outside_of table kind code)
unfolding outside_of
small_outside table sound Uca4 code h =
    either (nat_lt 0xFFFF code) _ _
    (small_one (record { p = 0xFFFD; s = 0x20; t = 2 })
    (record { primary = omega arith; secondary = omega arith; tertiary = omega arith }))
    (small_implicit (old_base code) code (small_old code) h)
small_outside table sound Uca520 code h = small_implicit (old_base code) code (small_old code) h
small_outside table sound Uca9 code h =
    small_covered table.ranges (find (covers code) table.ranges) (uncovered table.entries code)
    (found_by (covers code) table.ranges sound.bases)
    (λ range. code - start_of table.ranges range.base range.first)
    (small_uncovered table sound code h)

small_unlisted : (table : ElementTable) → IsSound table → (kind : UcaFamily) (piece : List ℕ) →
    All (λ code. code ≤ 0x10FFFF) piece → All HasWeights (unlisted_elements table kind piece)
small_unlisted table sound kind [] h = small_none
small_unlisted table sound kind (code ∷ []) h =
    small_outside table sound kind code (h 0 code (omega arith))
small_unlisted table sound kind (code ∷ next ∷ rest) h = small_none

-- The elements of a piece.
pub small_elements : (table : ElementTable) → IsSound table → (kind : UcaFamily) (piece : List ℕ) →
    All (λ code. code ≤ 0x10FFFF) piece → All HasWeights (elements_of table kind piece)
small_elements table sound kind piece h =
    small_or (map.get table.entries piece) (unlisted_elements table kind piece) (sound.weights piece)
    (small_unlisted table sound kind piece h)
