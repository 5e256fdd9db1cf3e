-- What the readers say line by line is what the outcome of the text says.
use Rattle.std.proofs.Common.{◌≡◌, ℕ, ◌<◌, ◌≤◌, ◌≢◌, Bool, true, false, List, length, get_or, Option, Some, None, Result, Ok, Err, MatchResult, is_none, position, option_map, refl, sym, ap, ◌∙◌, arith, nat_lt, cond}
use Rattle.std.specs.List.{range_with_len, position_or_len}
use Rattle.std.specs.Option.{option_or}
use Rattle.std.proofs.lemmas.List.FromFn.{length-range_with_len, get_or-range_with_len, fill_by_all}
use Rattle.std.proofs.lemmas.Bool.Decides.{nat_tests}
use Rattle.std.proofs.lemmas.List.Sums.{position_or_len_is}
use Rattle.mc_base.proofs.FirstFaultLemmas.{first_fault-none, first_fault-some}
use Rattle.mc_base.specs.FirstFault.{HasNoFault, IsFirstFault}
use Rattle.mc_base.specs.Lines.{lines_of}
use Rattle.mc_table8.specs.General.{CodeTable, code_weight}
use Rattle.mc_table8.specs.GeneralFile.{IsGeneralOf, IsGeneralFault, weight_by}
use Rattle.mc_table8.specs.LineFaults.{said_by, fault_of}
use Rattle.mc_table8.specs.Listing.{weights_of}
use Rattle.mc_table8.specs.Outcome.{least_without, entry_by, all_entries, all_weights, unless_fault, table8_fault, table8_outcome, general_outcome, HasFault}
use Rattle.mc_table8.specs.Table8.{ByteTable, byte_entry}
use Rattle.mc_table8.specs.Table8File.{IsTable8Of, IsLeastWithout, IsTable8Fault}
use Rattle.mc_table8.specs.declared.fault.TableFault.{TableFault}
use Rattle.mc_table8.specs.declared.fault.TableFault.TheVariants.{BadLine, Repeated, Missing, NoMemory}
use Rattle.mc_table8.specs.declared.format.Format.TheVariants.{Bytes, Codes}
use Rattle.mc_table8.specs.declared.weight_line.WeightLine.{WeightLine}

without : (said : List WeightLine) → ℕ → Bool
without said byte = is_none (weights_of said byte)

is_none-some : {T : Type 0} (o : Option T) (x : T) → o ≡ Some x → is_none o ≡ false
is_none-some o x e = ap is_none e

is_none-there : {T : Type 0} (o : Option T) → o ≢ None → is_none o ≡ false
is_none-there None h = absurd (h refl)
is_none-there (Some x) h = refl

at_place : (said : List WeightLine) (n k : ℕ) (b : Bool) → k < n → without said k ≡ b → without said (get_or (range_with_len 0 n) k 0) ≡ b
at_place said n k b h e =
    let place : get_or (range_with_len 0 n) k 0 ≡ k = omega (arith, get_or-range_with_len 0 n k 0 h) in
    ap (without said) place ∙ e

first_place : (said : List WeightLine) (n k : ℕ) → k ≤ n → ((j : ℕ) → j < k → without said j ≡ false) → (k < n → without said k ≡ true) →
    position_or_len (without said) (range_with_len 0 n) ≡ k
first_place said n k h fails passes =
    let long = length-range_with_len 0 n in
    position_or_len_is (without said) (range_with_len 0 n) k 0 (omega (arith, long))
    (λ j l. at_place said n j false (omega arith) (fails j l))
    (λ l. at_place said n k true (omega (arith, long)) (passes (omega (arith, long))))

placed : (long place k : ℕ) (r : Option ℕ) → place ≡ k → (k < long → r ≡ Some k) → (long ≤ k → r ≡ None) →
    cond (nat_lt place long) (Some place) None ≡ r
placed long place k r e inside outside = grind arith

-- Each byte has weights.
least-none : (said : List WeightLine) (n : ℕ) → ((byte : ℕ) → byte < n → without said byte ≡ false) → position (without said) (range_with_len 0 n) ≡ None
least-none said n h =
    let long = length-range_with_len 0 n in
    placed (length (range_with_len 0 n)) (position_or_len (without said) (range_with_len 0 n)) n None
    (first_place said n n (omega arith) h (λ l. absurd (omega arith))) (λ l. absurd (omega (arith, long))) (λ l. refl)

-- A byte is the least one without weights.
least-some : (said : List WeightLine) (n byte : ℕ) → byte < n → ((k : ℕ) → k < byte → without said k ≡ false) → without said byte ≡ true →
    position (without said) (range_with_len 0 n) ≡ Some byte
least-some said n byte within h here =
    let long = length-range_with_len 0 n in
    placed (length (range_with_len 0 n)) (position_or_len (without said) (range_with_len 0 n)) byte (Some byte)
    (first_place said n byte (omega arith) h (λ _. here)) (λ l. refl) (λ l. absurd (omega (arith, long)))

entry_is : (said : List WeightLine) (byte : ℕ) (entry : ℕ × Option ℕ) → weights_of said byte ≡ Some entry → entry ≡ entry_by said byte
entry_is said byte entry e = grind arith

no_least : (said : List WeightLine) (entries : List (ℕ × Option ℕ)) →
    ((byte : ℕ) → byte < 256 → weights_of said byte ≡ Some (byte_entry entries byte)) → least_without said ≡ None
unfolding least_without without
no_least said entries h = least-none said 256 (λ byte l. is_none-some _ _ (h byte l))

entries_are : (said : List WeightLine) (entries : List (ℕ × Option ℕ)) → length entries ≡ 256 →
    ((byte : ℕ) → byte < 256 → weights_of said byte ≡ Some (byte_entry entries byte)) → entries ≡ all_entries said
unfolding all_entries
entries_are said entries long h =
    fill_by_all (entry_by said) entries 256 (0, None) long (λ byte l. entry_is said byte (byte_entry entries byte) (h byte l))

by_table : (lines : List (ℕ × List ℕ)) (entries : List (ℕ × Option ℕ)) → IsTable8Of lines entries → table8_fault lines ≡ None
by_table lines entries h =
    ap (λ o. option_or o (option_map Missing (least_without (said_by Bytes lines)))) (first_fault-none (fault_of Bytes) lines h.no_fault)
    ∙ ap (option_map Missing) (no_least (said_by Bytes lines) entries h.each_byte)

-- The table that the lines say is the outcome of the text.
pub table8_outcome-ok : (text : List ℕ) (entries : List (ℕ × Option ℕ)) → length entries ≡ 256 → IsTable8Of (lines_of text) entries →
    table8_outcome text ≡ Ok entries
unfolding table8_outcome
table8_outcome-ok text entries long h =
    ap (unless_fault (all_entries (said_by Bytes (lines_of text)))) (by_table (lines_of text) entries h)
    ∙ ap (λ all. Ok all) (sym (entries_are (said_by Bytes (lines_of text)) entries long h.each_byte))

by_line : (lines : List (ℕ × List ℕ)) (fault : TableFault) → IsFirstFault (fault_of Bytes) lines fault → table8_fault lines ≡ Some fault
by_line lines fault h =
    ap (λ o. option_or o (option_map Missing (least_without (said_by Bytes lines)))) (first_fault-some (fault_of Bytes) lines fault h)

by_byte : (said : List WeightLine) (byte : ℕ) → IsLeastWithout said byte → least_without said ≡ Some byte
unfolding least_without without
by_byte said byte h = least-some said 256 byte h.is_byte (λ k l. is_none-there (weights_of said k) (h.least k l)) (ap is_none h.without)

by_least : (lines : List (ℕ × List ℕ)) (byte : ℕ) → HasNoFault (fault_of Bytes) lines → IsLeastWithout (said_by Bytes lines) byte →
    table8_fault lines ≡ Some (Missing byte)
by_least lines byte none h =
    ap (λ o. option_or o (option_map Missing (least_without (said_by Bytes lines)))) (first_fault-none (fault_of Bytes) lines none)
    ∙ ap (option_map Missing) (by_byte (said_by Bytes lines) byte h)

table8_err : (text : List ℕ) (fault : TableFault) → table8_fault (lines_of text) ≡ Some fault → table8_outcome text ≡ Err fault
unfolding table8_outcome
table8_err text fault e = ap (unless_fault (all_entries (said_by Bytes (lines_of text)))) e

-- The fault that the lines have is the outcome of the text.
pub table8_outcome-err : (text : List ℕ) (fault : TableFault) → IsTable8Fault (lines_of text) fault → HasFault (table8_outcome text) fault
table8_outcome-err text (BadLine line) h = table8_err text (BadLine line) (by_line (lines_of text) (BadLine line) h)
table8_outcome-err text (Repeated line) h = table8_err text (Repeated line) (by_line (lines_of text) (Repeated line) h)
table8_outcome-err text (Missing byte) h = table8_err text (Missing byte) (by_least (lines_of text) byte h.0 h.1)
table8_outcome-err text NoMemory h = tt

same_code : (weights : List ℕ) (code n : ℕ) → code < n → n ≡ 0x10000 → code_weight weights code ≡ get_or weights code 0
same_code weights code n h e = grind (arith, nat_tests)

weights_are : (said : List WeightLine) (weights : List ℕ) → length weights ≡ 0x10000 →
    ((code : ℕ) → code ≤ 0xFFFF → code_weight weights code ≡ weight_by said code) → weights ≡ all_weights said
unfolding all_weights
weights_are said weights long h =
    fill_by_all (weight_by said) weights 0x10000 0 long (λ code l. sym (same_code weights code 0x10000 l refl) ∙ h code (omega arith))

-- The weights that the lines say are the outcome of the text.
pub general_outcome-ok : (text weights : List ℕ) → length weights ≡ 0x10000 → IsGeneralOf (lines_of text) weights → general_outcome text ≡ Ok weights
unfolding general_outcome
general_outcome-ok text weights long h =
    ap (unless_fault (all_weights (said_by Codes (lines_of text)))) (first_fault-none (fault_of Codes) (lines_of text) h.no_fault)
    ∙ ap (λ all. Ok all) (sym (weights_are (said_by Codes (lines_of text)) weights long h.each_code))

general_err : (text : List ℕ) (fault : TableFault) → IsFirstFault (fault_of Codes) (lines_of text) fault → general_outcome text ≡ Err fault
unfolding general_outcome
general_err text fault h =
    ap (unless_fault (all_weights (said_by Codes (lines_of text)))) (first_fault-some (fault_of Codes) (lines_of text) fault h)

-- The fault that the lines have is the outcome of the text.
pub general_outcome-err : (text : List ℕ) (fault : TableFault) → IsGeneralFault (lines_of text) fault → HasFault (general_outcome text) fault
general_outcome-err text (BadLine line) h = general_err text (BadLine line) h
general_outcome-err text (Repeated line) h = general_err text (Repeated line) h
general_outcome-err text (Missing byte) h = absurd h
general_outcome-err text NoMemory h = tt

-- What a reader of bytes says by lines it says by the outcome.
pub table8_says : (text : List ℕ) (r : Result ByteTable TableFault) →
    MatchResult r (λ table. IsTable8Of (lines_of text) table.entries) (λ fault. IsTable8Fault (lines_of text) fault) →
    MatchResult r (λ table. table8_outcome text ≡ Ok table.entries) (λ fault. HasFault (table8_outcome text) fault)
table8_says text (Ok table) h = table8_outcome-ok text table.entries table.all_bytes h
table8_says text (Err fault) h = table8_outcome-err text fault h

-- What a reader of code points says by lines it says by the outcome.
pub general_says : (text : List ℕ) (r : Result CodeTable TableFault) →
    MatchResult r (λ table. IsGeneralOf (lines_of text) table.weights) (λ fault. IsGeneralFault (lines_of text) fault) →
    MatchResult r (λ table. general_outcome text ≡ Ok table.weights) (λ fault. HasFault (general_outcome text) fault)
general_says text (Ok table) h = general_outcome-ok text table.weights table.all_codes h
general_says text (Err fault) h = general_outcome-err text fault h
