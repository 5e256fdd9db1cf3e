-- The fields of a text behind its leading blanks.
use Rattle.std.proofs.Common.{◌≡◌, ℕ, ◌+◌, ◌<◌, ◌≤◌, Bool, true, false, cond, ◌==◌, List, [], ◌∷◌, length, take, drop, get_or, filter, ◌⊎◌, inl, inr, refl, ap, ◌∙◌, arith}
use Rattle.std.specs.List.{position_or_len, slice_split, All}
use Rattle.std.proofs.lemmas.List.{drop_more}
use Rattle.std.proofs.lemmas.List.Splits.{slice_split_first, slice_split_none}
use Rattle.std.proofs.lemmas.List.Sums.{fails_before_first, passes_at_first}
use Rattle.std.proofs.lemmas.Bool.{cases_lt}
use Rattle.std.proofs.lemmas.Bool.Decides.{nat_tests}
use Rattle.std.proofs.lemmas.Grind.{common_steps}
use Rattle.mc_base.specs.Blanks.{is_blank, without_leading}
use Rattle.mc_base.specs.Fields.{is_field, fields_of}

-- A blank at the front is no part of a field.
fields_behind_blank : (byte : ℕ) (text : List ℕ) → is_blank byte ≡ true → fields_of (byte ∷ text) ≡ fields_of text
fields_behind_blank byte text h = rw h refl

-- one byte more in front of a text whose leading blanks are gone
behind_one : (byte : ℕ) (text : List ℕ) (b : Bool) → is_blank byte ≡ b → fields_of text ≡ fields_of (without_leading text) → fields_of (byte ∷ text) ≡ fields_of (cond b (without_leading text) (byte ∷ text))
behind_one byte text true h rest = fields_behind_blank byte text h ∙ rest
behind_one byte text false h rest = refl

-- the same for all leading blanks
pub fields_behind_blanks : (text : List ℕ) → fields_of text ≡ fields_of (without_leading text)
fields_behind_blanks [] = refl
fields_behind_blanks (byte ∷ text) = behind_one byte text (is_blank byte) refl (fields_behind_blanks text)

-- one byte more in front of a text that begins with no blank once they are gone
no_blank_one : (byte : ℕ) (text : List ℕ) (b : Bool) → is_blank byte ≡ b → (0 < length (without_leading text) → 0 < position_or_len is_blank (without_leading text)) → 0 < length (cond b (without_leading text) (byte ∷ text)) → 0 < position_or_len is_blank (cond b (without_leading text) (byte ∷ text))
no_blank_one byte text true e rest h = rest h
no_blank_one byte text false e rest h = rw e (omega arith)

-- Behind its leading blanks a text begins with another byte.
pub first_is_no_blank : (text : List ℕ) → 0 < length (without_leading text) → 0 < position_or_len is_blank (without_leading text)
first_is_no_blank [] h = absurd (omega arith)
first_is_no_blank (byte ∷ text) h = no_blank_one byte text (is_blank byte) refl (first_is_no_blank text) h

-- a part that has a byte is a field
kept : (part : List ℕ) (parts : List (List ℕ)) → 0 < length part → filter is_field (part ∷ parts) ≡ part ∷ filter is_field parts
kept part parts h =
    let some : (length part == 0) ≡ false = grind (arith, nat_tests) in
    rw some refl

-- The first field of a text with a blank in it.
first_before_blank : (text : List ℕ) → 0 < position_or_len is_blank text → position_or_len is_blank text < length text → fields_of text ≡ take (position_or_len is_blank text) text ∷ fields_of (drop (position_or_len is_blank text) text)
first_before_blank text some within =
    let end = position_or_len is_blank text in
    let split = ap (filter is_field) (slice_split_first is_blank text 0 within) in
    let full : 0 < length (take end text) = grind (arith, common_steps) in
    let rest = drop_more text end 0 within in
    let skipped = fields_behind_blank (get_or text end 0) (drop (end + 1) text) (passes_at_first is_blank text 0 within) in
    rw (rest, skipped) (split ∙ kept (take end text) (slice_split is_blank (drop (end + 1) text)) full)

-- The only field of a text without a blank.
only_field : (text : List ℕ) (end : ℕ) → end ≡ position_or_len is_blank text → length text ≤ end → 0 < length text → fields_of text ≡ take end text ∷ fields_of (drop end text)
only_field text end e past full =
    let none : All (λ x. is_blank x ≡ false) text = λ k d lt. fails_before_first is_blank text k d (omega arith) in
    let gone : drop end text ≡ [] = grind (arith, common_steps) in
    let whole : take end text ≡ text = grind (arith, common_steps) in
    rw (gone, whole) (ap (filter is_field) (slice_split_none is_blank text none) ∙ kept text [] full)

-- The bytes before the first blank are the first field.
pub fields_first : (text : List ℕ) (end : ℕ) → end ≡ position_or_len is_blank text → 0 < end → 0 < length text → fields_of text ≡ take end text ∷ fields_of (drop end text)
fields_first text end e some full = either (cases_lt end (length text))
  where
    either : (end < length text) ⊎ (length text ≤ end) → fields_of text ≡ take end text ∷ fields_of (drop end text)
    either (inl within) = rw e (first_before_blank text (omega arith) (omega arith))
    either (inr past) = only_field text end e past full
