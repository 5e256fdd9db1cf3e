-- The fields of a record of a UTF-8 text are UTF-8, and so is what stands behind it.
use Rattle.std.proofs.Common.{◌≡◌, ℕ, suc, ◌+◌, ◌<◌, ◌≤◌, ◌==◌, ◌||◌, ◌^◌, Bool, true, false, List, [], ◌∷◌, ◌++◌, drop, length, get_or, Option, Some, None, IsUtf8, refl, sym, subst, append_assoc, arith, if◌then◌else◌}
use Rattle.std.proofs.Math.Seq.{take-append_seam}
use Rattle.std.proofs.lemmas.Bool.{false≢true}
use Rattle.std.proofs.lemmas.Bool.Decides.{nat_tests}
use Rattle.std.proofs.lemmas.List.{length-append, append-nil}
use Rattle.std.proofs.lemmas.Option.{none-some, same_Some}
use Rattle.std.proofs.lemmas.Str.{IsUtf8-append, IsUtf8-take, IsUtf8-drop, IsUtf8-nil, IsUtf8-past_char, IsCharBoundary-before_ascii, IsCharBoundary-after_ascii}
use Rattle.std.specs.Str.{IsCharBoundary}
use lib.Utf8.{encode}
use Rattle.csv.specs.Machine.{Read, step, in_field, start_field, start_record, after_end, is_end, ends_at_end, fields_after, field_after, next_record}
use Rattle.csv.specs.Reading.{default_config, is_bom, strip_bom}
use Rattle.csv.specs.declared.parser.Action.{Action}
use Rattle.csv.specs.declared.parser.Action.TheVariants as act
use Rattle.csv.specs.declared.parser.State.{State}
use Rattle.csv.specs.declared.parser.State.TheVariants as st
use Rattle.csv.specs.declared.parser.Terminator.TheVariants as term
use Rattle.mc_rows.specs.Records.{Record}
use Rattle.mc_rows.specs.Told.{AreTexts}

-- UTF-8 of fewer than 4 GiB
abbrev pub IsText : List ℕ → Type 0
IsText bytes = IsUtf8 bytes × (length bytes < 2 ^ 32)

-- A text that is parted at an ASCII byte

at_seam : (front rest : List ℕ) (c : ℕ) → get_or (front ++ c ∷ rest) (length front) 0 ≡ c
at_seam [] rest c = refl
at_seam (b ∷ front) rest c = at_seam front rest c

past_seam : (front rest : List ℕ) (c : ℕ) → drop (suc (length front)) (front ++ c ∷ rest) ≡ rest
past_seam [] rest c = refl
past_seam (b ∷ front) rest c = past_seam front rest c

within : (front rest : List ℕ) (c : ℕ) → length front < length (front ++ c ∷ rest)
within front rest c = omega (arith, length-append front (c ∷ rest))

low_at : (front rest : List ℕ) (c : ℕ) → c < 128 → get_or (front ++ c ∷ rest) (length front) 0 < 128
low_at front rest c h = subst (λ b. b < 128) (sym (at_seam front rest c)) h

front_utf8 : (front rest : List ℕ) (c : ℕ) → c < 128 → IsUtf8 (front ++ c ∷ rest) → IsUtf8 front
front_utf8 front rest c h u =
    let bytes = front ++ c ∷ rest in
    let here = IsCharBoundary-before_ascii bytes (length front) (within front rest c) (low_at front rest c h) in
    subst IsUtf8 (take-append_seam front (c ∷ rest)) (IsUtf8-take bytes (length front) u here)

rest_utf8 : (front rest : List ℕ) (c : ℕ) → c < 128 → IsUtf8 (front ++ c ∷ rest) → IsUtf8 rest
rest_utf8 front rest c h u =
    let bytes = front ++ c ∷ rest in
    let here = IsCharBoundary-after_ascii bytes (length front) u (within front rest c) (low_at front rest c h) in
    let next : length front + 1 ≡ suc (length front) = omega arith in
    let there : IsCharBoundary bytes (suc (length front)) = subst (IsCharBoundary bytes) next here in
    subst IsUtf8 (past_seam front rest c) (IsUtf8-drop bytes (suc (length front)) u there)

front_text : (front rest : List ℕ) (c : ℕ) → c < 128 → IsText (front ++ c ∷ rest) → IsText front
front_text front rest c h t = (front_utf8 front rest c h t.0, omega (arith, t.1, length-append front (c ∷ rest)))

rest_text : (front rest : List ℕ) (c : ℕ) → c < 128 → IsText (front ++ c ∷ rest) → IsText rest
rest_text front rest c h t = (rest_utf8 front rest c h t.0, omega (arith, t.1, length-append front (c ∷ rest)))

closed_text : (front rest : List ℕ) (c : ℕ) → c < 128 → IsText (front ++ c ∷ rest) → IsText (front ++ rest)
closed_text front rest c h t = (
  IsUtf8-append front rest (front_utf8 front rest c h t.0) (rest_utf8 front rest c h t.0),
  omega (arith, t.1, length-append front (c ∷ rest), length-append front rest),
)

pub texts-more : (fields : Record) (field : List ℕ) → AreTexts fields → IsText field → AreTexts (fields ++ field ∷ [])
texts-more [] field texts text = (text.0, text.1, tt)
texts-more (first ∷ fields) field texts text = (texts.0, texts.1, texts-more fields field texts.2 text)

-- What a byte does

-- the machine is in no comment and behind no escape
abbrev pub IsCalm : State → Type 0
IsCalm st.StartRecord = Unit
IsCalm st.StartField = Unit
IsCalm st.InField = Unit
IsCalm st.InQuoted = Unit
IsCalm st.AfterQuote = Unit
IsCalm st.InEscape = ⊥
IsCalm st.InComment = ⊥
IsCalm st.AfterCr = Unit

-- a byte that isn't copied is ASCII
abbrev Suits : Action → ℕ → Type 0
Suits act.Copy c = Unit
Suits act.Skip c = c < 128
Suits act.EndField c = c < 128
Suits act.EndRecord c = c < 128

abbrev Goes : ℕ → State × Action → Type 0
Goes c r = IsCalm r.0 × Suits r.1 c

choose : (b : Bool) (c : ℕ) (x y : State × Action) → (b ≡ true → Goes c x) → Goes c y → Goes c (if b then x else y)
choose true c x y h k = h refl
choose false c x y h k = k

is_low : (c n : ℕ) → n < 128 → (c == n) ≡ true → c < 128
is_low c n h e = grind (arith, nat_tests)

is_low_end : (c : ℕ) → ((c == 13) || (c == 10)) ≡ true → c < 128
is_low_end c e = grind (arith, nat_tests)

calm_end : (b : Bool) → IsCalm (if b then st.AfterCr else st.StartRecord)
calm_end true = tt
calm_end false = tt

in_field_goes : (c : ℕ) → Goes c (in_field default_config c)
in_field_goes c =
    choose (c == 44) c (st.StartField, act.EndField) _ (λ e. (tt, is_low c 44 (omega arith) e))
    (choose ((c == 13) || (c == 10)) c (after_end term.CRLF c, act.EndRecord) (st.InField, act.Copy)
    (λ e. (calm_end (c == 13), is_low_end c e)) (tt, tt))

start_field_goes : (c : ℕ) → Goes c (start_field default_config c)
start_field_goes c =
    choose (c == 34) c (st.InQuoted, act.Skip) _ (λ e. (tt, is_low c 34 (omega arith) e)) (in_field_goes c)

start_record_goes : (c : ℕ) → Goes c (start_record default_config c)
start_record_goes c =
    choose ((c == 13) || (c == 10)) c (st.StartRecord, act.Skip) _ (λ e. (tt, is_low_end c e)) (start_field_goes c)

step_goes : (s : State) (c : ℕ) → IsCalm s → Goes c (step default_config s c)
step_goes st.StartRecord c calm = start_record_goes c
step_goes st.StartField c calm = start_field_goes c
step_goes st.InField c calm = in_field_goes c
step_goes st.InQuoted c calm =
    choose (c == 34) c (st.AfterQuote, act.Skip) (st.InQuoted, act.Copy) (λ e. (tt, is_low c 34 (omega arith) e)) (tt, tt)
step_goes st.AfterQuote c calm = choose (c == 34) c (st.InQuoted, act.Copy) _ (λ e. (tt, tt)) (in_field_goes c)
step_goes st.InEscape c calm = absurd calm
step_goes st.InComment c calm = absurd calm
step_goes st.AfterCr c calm =
    choose (c == 10) c (st.StartRecord, act.Skip) _ (λ e. (tt, is_low c 10 (omega arith) e)) (start_record_goes c)

texts_after : (a : Action) (c : ℕ) (fields : Record) (field rest : List ℕ) → Suits a c → AreTexts fields → IsText (field ++ c ∷ rest)
    → AreTexts (fields_after a fields field)
texts_after act.Copy c fields field rest suits texts text = texts
texts_after act.Skip c fields field rest suits texts text = texts
texts_after act.EndField c fields field rest suits texts text = texts-more fields field texts (front_text field rest c suits text)
texts_after act.EndRecord c fields field rest suits texts text = texts-more fields field texts (front_text field rest c suits text)

text_after : (a : Action) (c : ℕ) (field rest : List ℕ) → Suits a c → IsText (field ++ c ∷ rest) → IsText (field_after a c field ++ rest)
text_after act.Copy c field rest suits text = subst IsText (sym (append_assoc field (c ∷ []) rest)) text
text_after act.Skip c field rest suits text = closed_text field rest c suits text
text_after act.EndField c field rest suits text = rest_text field rest c suits text
text_after act.EndRecord c field rest suits text = rest_text field rest c suits text

-- behind the end of a record no field is begun
text_ended : (a : Action) (c : ℕ) (field rest : List ℕ) → is_end a ≡ true → IsText (field_after a c field ++ rest) → IsText rest
text_ended act.Copy c field rest e text = absurd (false≢true e)
text_ended act.Skip c field rest e text = absurd (false≢true e)
text_ended act.EndField c field rest e text = absurd (false≢true e)
text_ended act.EndRecord c field rest e text = text

-- A record

choose_next : {Goal : Type 0} (b : Bool) (x y : Option Read) (q : Read) → (b ≡ true → x ≡ Some q → Goal) → (b ≡ false → y ≡ Some q → Goal)
    → (if b then x else y) ≡ Some q → Goal
choose_next true x y q h k e = h refl e
choose_next false x y q h k e = k refl e

-- what a read gives of a text
abbrev pub GivesTexts : Read → Type 0
GivesTexts q = AreTexts q.0 × IsText q.2 × IsCalm q.1

nil_text : IsText []
nil_text = (IsUtf8-nil, omega arith)

pub record_texts : (s : State) (fields : Record) (field bytes : List ℕ) (q : Read) → IsCalm s → AreTexts fields → IsText (field ++ bytes)
    → next_record default_config s fields field bytes ≡ Some q → GivesTexts q
unfolding next_record
record_texts s fields field [] q calm texts text e =
    choose_next (ends_at_end s) (Some (fields ++ (field ∷ []), st.StartRecord, [])) None q
    (λ b f. subst GivesTexts (same_Some _ _ f) (texts-more fields field texts (subst IsText (append-nil field) text), nil_text, tt))
    (λ b f. absurd (none-some q f)) e
record_texts s fields field (c ∷ rest) q calm texts text e =
    let r = step default_config s c in
    let goes = step_goes s c calm in
    let texts2 = texts_after r.1 c fields field rest goes.1 texts text in
    let text2 = text_after r.1 c field rest goes.1 text in
    choose_next (is_end r.1) (Some (fields_after r.1 fields field, r.0, rest)) (next_record default_config r.0 (fields_after r.1 fields field) (field_after r.1 c field) rest) q
    (λ b f. subst GivesTexts (same_Some _ _ f) (texts2, text_ended r.1 c field rest b text2, goes.0))
    (λ b f. record_texts r.0 (fields_after r.1 fields field) (field_after r.1 c field) rest q goes.0 texts2 text2 f) e

-- What is left is no longer than the text, and shorter than a text that has a byte.
pub record_left : (s : State) (fields : Record) (field bytes : List ℕ) (q : Read)
    → next_record default_config s fields field bytes ≡ Some q → length q.2 ≤ length bytes
unfolding next_record
record_left s fields field [] q e =
    choose_next (ends_at_end s) (Some (fields ++ (field ∷ []), st.StartRecord, [])) None q
    (λ b f. subst (λ (p : Read). length p.2 ≤ 0) (same_Some _ _ f) (omega arith))
    (λ b f. absurd (none-some q f)) e
record_left s fields field (c ∷ rest) q e =
    let r = step default_config s c in
    choose_next (is_end r.1) (Some (fields_after r.1 fields field, r.0, rest)) (next_record default_config r.0 (fields_after r.1 fields field) (field_after r.1 c field) rest) q
    (λ b f. subst (λ (p : Read). length p.2 ≤ suc (length rest)) (same_Some _ _ f) (omega arith))
    (λ b f. let less = record_left r.0 (fields_after r.1 fields field) (field_after r.1 c field) rest q f in omega (arith, less)) e

pub record_shorter : (s : State) (fields : Record) (field rest : List ℕ) (c : ℕ) (q : Read)
    → next_record default_config s fields field (c ∷ rest) ≡ Some q → length q.2 ≤ length rest
unfolding next_record
record_shorter s fields field rest c q e =
    let r = step default_config s c in
    choose_next (is_end r.1) (Some (fields_after r.1 fields field, r.0, rest)) (next_record default_config r.0 (fields_after r.1 fields field) (field_after r.1 c field) rest) q
    (λ b f. subst (λ (p : Read). length p.2 ≤ length rest) (same_Some _ _ f) (omega arith))
    (λ b f. record_left r.0 (fields_after r.1 fields field) (field_after r.1 c field) rest q f) e

-- Behind a record that the end of the text ends there is none.
pub none_behind : (s : State) (fields : Record) (field : List ℕ) (q : Read)
    → next_record default_config s fields field [] ≡ Some q → next_record default_config q.1 [] [] q.2 ≡ None
unfolding next_record
none_behind s fields field q e =
    choose_next (ends_at_end s) (Some (fields ++ (field ∷ []), st.StartRecord, [])) None q
    (λ b f. subst (λ (p : Read). next_record default_config p.1 [] [] p.2 ≡ None) (same_Some _ _ f) refl)
    (λ b f. absurd (none-some q f)) e

-- A text behind a byte order mark

choose_text : (b : Bool) (x y : List ℕ) → (b ≡ true → IsText x) → IsText y → IsText (if b then x else y)
choose_text true x y h k = h refl
choose_text false x y h k = k

behind_mark : (a b c : ℕ) (rest : List ℕ) → IsText (a ∷ b ∷ c ∷ rest) → is_bom a b c ≡ true → IsText rest
unfolding encode
behind_mark a b c rest t e =
    let first_is : a ≡ 0xEF = grind (arith, nat_tests) in
    let second_is : b ≡ 0xBB = grind (arith, nat_tests) in
    let third_is : c ≡ 0xBF = grind (arith, nat_tests) in
    (IsUtf8-past_char (a ∷ b ∷ c ∷ rest) rest 0xFEFF t.0 (rw (first_is, second_is, third_is) refl), omega (arith, t.1))

pub unmarked_text : (text : List ℕ) → IsText text → IsText (strip_bom text)
unfolding strip_bom
unmarked_text [] t = t
unmarked_text (a ∷ []) t = t
unmarked_text (a ∷ b ∷ []) t = t
unmarked_text (a ∷ b ∷ c ∷ rest) t = choose_text (is_bom a b c) rest (a ∷ b ∷ c ∷ rest) (λ e. behind_mark a b c rest t e) t
