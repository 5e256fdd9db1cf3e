-- The first line of a text, and the lines behind it.
use Rattle.std.proofs.Common.{◌≡◌, ℕ, ◌+◌, ◌<◌, ◌≤◌, Bool, true, false, ◌==◌, List, [], ◌∷◌, length, take, drop, refl, ap, ◌∙◌, arith}
use Rattle.std.specs.List.{position_or_len, slice_split, before_first, after_first, All}
use Rattle.std.specs.Str.Lines.{lines, lines_of_parts, strip_carriage_return}
use Rattle.std.proofs.lemmas.List.Splits.{slice_split_first, slice_split_none, length-slice_split}
use Rattle.std.proofs.lemmas.List.Sums.{fails_before_first}
use Rattle.std.proofs.lemmas.Bool.Decides.{nat_tests}
use Rattle.std.proofs.lemmas.Grind.{common_steps}
use Rattle.mc_base.specs.Lines.{bodies_from, body_of}

abbrev is_line_feed : ℕ → Bool
is_line_feed byte = byte == 10

-- A part before another one loses its carriage return.
part_before : (part : List ℕ) (parts : List (List ℕ)) → 0 < length parts → lines_of_parts (part ∷ parts) ≡ strip_carriage_return part ∷ lines_of_parts parts
part_before part [] h = absurd (omega arith)
part_before part (next ∷ parts) h = refl

-- The line before a line feed.
pub lines_ended : (text : List ℕ) (end : ℕ) → end ≡ position_or_len (λ byte. byte == 10) text → end < length text → lines text ≡ strip_carriage_return (take end text) ∷ lines (drop (end + 1) text)
lines_ended text end e h =
    let within : position_or_len is_line_feed text < length text = omega arith in
    let split = slice_split_first is_line_feed text 0 within in
    let more = slice_split is_line_feed (after_first is_line_feed text) in
    let some : 0 < length more = omega (arith, length-slice_split is_line_feed (after_first is_line_feed text)) in
    rw e (ap lines_of_parts split ∙ part_before (before_first is_line_feed text) more some)

-- The only part of a text that is not empty.
only_part : (text : List ℕ) → 0 < length text → lines_of_parts (text ∷ []) ≡ text ∷ []
only_part [] h = absurd (omega arith)
only_part (byte ∷ text) h = grind (arith, nat_tests)

-- The line that the text's end ends.
pub lines_last : (text : List ℕ) (end : ℕ) → end ≡ position_or_len (λ byte. byte == 10) text → length text ≤ end → 0 < length text → lines text ≡ text ∷ lines (drop end text)
lines_last text end e h some =
    let none : All (λ x. is_line_feed x ≡ false) text = λ k d lt. fails_before_first is_line_feed text k d (omega arith) in
    let gone : drop end text ≡ [] = grind (arith, common_steps) in
    rw gone (ap lines_of_parts (slice_split_none is_line_feed text none) ∙ only_part text some)

-- A line that says something is the next one.
pub bodies_said : (number : ℕ) (line : List ℕ) (more : List (List ℕ)) → 0 < length (body_of line) → bodies_from number (line ∷ more) ≡ (number, body_of line) ∷ bodies_from (number + 1) more
bodies_said number line more h =
    let says : (length (body_of line) == 0) ≡ false = grind (arith, nat_tests) in
    rw says refl

-- A line that says nothing is skipped.
pub bodies_skipped : (number : ℕ) (line : List ℕ) (more : List (List ℕ)) → length (body_of line) ≡ 0 → bodies_from number (line ∷ more) ≡ bodies_from (number + 1) more
bodies_skipped number line more h =
    let silent : (length (body_of line) == 0) ≡ true = grind (arith, nat_tests) in
    rw silent refl
