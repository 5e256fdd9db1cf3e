-- The first field stands behind the leading blanks and ends at the next blank.
use Rattle.std.proofs.Common.{◌≡◌, ◌<◌, ℕ, List, [], ◌∷◌, length, refl, ap, ◌∙◌, arith}
use Rattle.mc_base.specs.Blanks.{without_leading}
use Rattle.mc_base.specs.Fields.{fields_of}
use Rattle.mc_base.proofs.FieldLemmas.{fields_behind_blanks, first_is_no_blank, fields_first}
use Rattle.mc_base.proofs.fields.next_field.Goals as goal

no_bytes : (text : List ℕ) → length text ≡ 0 → text ≡ []
no_bytes [] h = refl
no_bytes (byte ∷ text) h = absurd (omega arith)

pub returns-then-is_empty-clause-field : goal.returns-then-is_empty-clause-field
returns-then-is_empty-clause-field c =
    let body = c.args.body.now in
    let text = c.trim_start-text.result.now in
    let none : length text ≡ 0 = grind arith in
    let empty = no_bytes (without_leading body) (rw c.trim_start-text.ensures at none) in
    fields_behind_blanks body ∙ ap fields_of empty

pub returns-clause-field : goal.returns-clause-field
returns-clause-field c =
    let body = c.args.body.now in
    let text = c.trim_start-text.result.now in
    let full : 0 < length text = grind arith in
    let starts : 0 < length (without_leading body) = rw c.trim_start-text.ensures at full in
    let no_blank = first_is_no_blank body starts in
    let some : 0 < c.end_of_field.result = rw (c.end_of_field.ensures.end, c.trim_start-text.ensures) no_blank in
    let behind : fields_of body ≡ fields_of text = rw c.trim_start-text.ensures (fields_behind_blanks body) in
    let first = fields_first text c.end_of_field.result c.end_of_field.ensures.end some full in
    rw (c.split_at.ensures.front, c.split_at.ensures.back) (behind ∙ first)
