-- A file read up to some line: what the lines before it say, and that none of them has a fault.
use Rattle.std.proofs.Common.{◌≡◌, ℕ, Bool, true, false, not, Some, None, Option, List, [], ◌∷◌, ◌++◌, if◌then◌else◌, arith, refl, sym, ◌∙◌, append_assoc, append-nil}
use Rattle.std.specs.List.{list_any}
use Rattle.std.proofs.lemmas.List.Elements.{filter_map-append}
use Rattle.mc_base.specs.FirstFault.{HasNoFault, IsFirstFault}
use Rattle.mc_base.specs.Lines.{lines_of}
use Rattle.mc_base.proofs.FirstFaultLemmas.{no_fault-none, no_fault-more, first_fault-behind}
use Rattle.mc_table8.specs.Cells.{IsListing}
use Rattle.mc_table8.specs.Formats.{greatest_of}
use Rattle.mc_table8.specs.Listing.{Cell, repeats}
use Rattle.mc_table8.specs.LineFaults.{said_by, fault_by, fault_of, IsLineFault}
use Rattle.mc_table8.specs.WeightLines.{line_of}
use Rattle.mc_table8.specs.declared.format.Format.{Format}
use Rattle.mc_table8.specs.declared.fault.TableFault.{TableFault}
use Rattle.mc_table8.specs.declared.fault.TableFault.TheVariants.{BadLine, Repeated, Missing, NoMemory}
use Rattle.mc_table8.specs.declared.weight_line.WeightLine.{WeightLine}

one_more : (format : Format) (before : List (ℕ × List ℕ)) (number : ℕ) (body : List ℕ)
    (line : WeightLine) →
    line_of format body ≡ Some line →
    said_by format before ++ said_by format
    ((number, body) ∷ []) ≡ said_by format before ++ line ∷ []
one_more format before number body line e = rw e refl

-- What lines and one more say.
pub said_by-push : (format : Format) (before : List (ℕ × List ℕ)) (number : ℕ) (body : List ℕ)
    (line : WeightLine) →
    line_of format body ≡ Some line →
    said_by format (before ++ (number, body) ∷ []) ≡ said_by format before ++ line ∷ []
said_by-push format before number body line e =
    filter_map-append (λ line. line_of format line.1) before ((number, body) ∷ []) ∙
    one_more format before number body line e

new_is_no_fault : (line : WeightLine) (earlier : List WeightLine) (number : ℕ) →
    true ≡ not (list_any (repeats line) earlier) → fault_by (Some line) earlier number ≡ None
new_is_no_fault line earlier number is_new = grind arith

no_fault : (format : Format) (before : List (ℕ × List ℕ)) (number : ℕ) (body : List ℕ)
    (line : WeightLine) →
    line_of format body ≡ Some line → true ≡ not (list_any (repeats line) (said_by format before)) →
    fault_of format before (number, body) ≡ None
no_fault format before number body line e is_new =
    rw e (new_is_no_fault line (said_by format before) number is_new)

-- A line that repeats nothing has no fault, and is among what is said.
pub taken_line : (format : Format) (before : List (ℕ × List ℕ)) (number : ℕ) (body : List ℕ)
    (line : WeightLine)
    (cells : List Cell) (rest : Bool) → line_of format body ≡ Some line →
    true ≡ not (list_any (repeats line) (said_by format before)) →
    IsListing (greatest_of format) cells rest (said_by format before ++ line ∷ []) →
    (fault_of format before (number, body) ≡ None) ×
    IsListing (greatest_of format) cells rest (said_by format (before ++ (number, body) ∷ []))
taken_line format before number body line cells rest e is_new listing =
    (no_fault format before number body line e is_new, rw (said_by-push format before number body line e) listing)

-- The lines so far have no fault, and the cells list them; the other lines are left.
pub record IsRead (format : Format) (text : List ℕ) (cells : List Cell) (rest : Bool)
    (lines : List (ℕ × List ℕ)) : Type 0 where
  pub before : List (ℕ × List ℕ)
  pub parts : before ++ lines ≡ lines_of text
  pub sound : HasNoFault (fault_of format) before
  pub listing : IsListing (greatest_of format) cells rest (said_by format before)

-- Before the first line.
pub read_none : (format : Format) (text : List ℕ) (cells : List Cell) (rest : Bool) →
    IsListing (greatest_of format) cells rest [] → IsRead format text cells rest (lines_of text)
read_none format text cells rest h = record {
  before = [];
  parts = refl;
  sound = no_fault-none (fault_of format);
  listing = h;
}

-- Behind one more line.
pub read_more : (format : Format) (text : List ℕ) (cells : List Cell) (rest : Bool) (number : ℕ)
    (body : List ℕ)
    (lines : List (ℕ × List ℕ)) (more : List Cell) (more_rest : Bool)
    (h : IsRead format text cells rest ((number, body) ∷ lines)) →
    (fault_of format h.before (number, body) ≡ None) ×
    IsListing (greatest_of format) more more_rest
    (said_by format (h.before ++ (number, body) ∷ [])) →
    IsRead format text more more_rest lines
read_more format text cells rest number body lines more more_rest h step = record {
  before = h.before ++ (number, body) ∷ [];
  parts = append_assoc h.before ((number, body) ∷ []) lines ∙ h.parts;
  sound = no_fault-more (fault_of format) h.before (number, body) h.sound step.0;
  listing = step.1;
}

-- Behind the last line.
pub read_all : (format : Format) (text : List ℕ) (cells : List Cell) (rest : Bool) →
    IsRead format text cells rest [] →
    HasNoFault (fault_of format) (lines_of text) ×
    IsListing (greatest_of format) cells rest (said_by format (lines_of text))
read_all format text cells rest h =
    let all : h.before ≡ lines_of text = sym (append-nil h.before) ∙ h.parts in
    (rw (← all) h.sound, rw (← all) h.listing)

-- At a line with a fault.
pub read_fault : (format : Format) (text : List ℕ) (cells : List Cell) (rest : Bool) (number : ℕ)
    (body : List ℕ)
    (lines : List (ℕ × List ℕ)) (fault : TableFault)
    (h : IsRead format text cells rest ((number, body) ∷ lines)) →
    fault_of format h.before (number, body) ≡ Some fault →
    IsFirstFault (fault_of format) (lines_of text) fault
read_fault format text cells rest number body lines fault h e =
    let first = first_fault-behind (fault_of format) h.before
    (number, body) lines fault h.sound e in
    rw (← h.parts) first

repeated_is_not_missing : (again : Bool) (number byte : ℕ) →
    (if again then Some (Repeated number) else None) ≡ Some (Missing byte) → ⊥
repeated_is_not_missing true number byte e = cc
repeated_is_not_missing false number byte e = cc

no_missing : (line : Option WeightLine) (earlier : List WeightLine) (number byte : ℕ) →
    fault_by line earlier number ≡ Some (Missing byte) → ⊥
no_missing None earlier number byte e = cc
no_missing (Some line) earlier number byte e =
    repeated_is_not_missing (list_any (repeats line) earlier) number byte e

-- The first fault of a line is a bad line or a repetition.
pub line_fault : (format : Format) (text : List ℕ) (before : List (ℕ × List ℕ)) (number : ℕ)
    (body : List ℕ) (fault : TableFault) →
    fault_of format before (number, body) ≡ Some fault →
    IsFirstFault (fault_of format) (lines_of text) fault →
    IsLineFault format (lines_of text) fault
line_fault format text before number body (BadLine line) e first = first
line_fault format text before number body (Repeated line) e first = first
line_fault format text before number body (Missing byte) e first =
    no_missing (line_of format body) (said_by format before) number byte e
line_fault format text before number body NoMemory e first = tt
