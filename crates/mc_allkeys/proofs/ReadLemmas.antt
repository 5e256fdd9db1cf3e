-- A file read up to some line: the table of the lines before it, none of which has a fault.
use Rattle.std.proofs.Common.{◌≡◌, ℕ, Bool, true, false, ◌&&◌, nat_le, nat_lt, length, List, [], ◌∷◌, ◌++◌, Option, Some, None, is_some, Ok, Err, if◌then◌else◌, refl, sym, ap, ◌∙◌, append_assoc, append-nil}
use Rattle.std.specs.Cmp.Lexicographic.{nat_list_cmp_total}
use Rattle.std.specs.FinMap as fin
use Rattle.std.specs.FinMap.{get-from_entries, from_entries_push, slice_cmp-IsAntisymmetric, nat_cmp-IsAntisymmetric}
use Rattle.std.specs.List.{filter_map}
use Rattle.std.proofs.lemmas.List.{map-append}
use Rattle.std.proofs.lemmas.List.Elements.{filter_map-append}
use Rattle.mc_base.specs.FirstFault.{HasNoFault, IsFirstFault}
use Rattle.mc_base.specs.Lines.{lines_of}
use Rattle.mc_base.proofs.FirstFaultLemmas.{no_fault-none, no_fault-more, first_fault-behind, first_fault-none, first_fault-some}
use Rattle.mc_allkeys.specs.Faults.{said_lines, entry_said, range_said, table_by, fault_by, fault_of, HasLineFault, with_line, greatest_count}
use Rattle.mc_allkeys.specs.KeysFile.{IsKeysOf, IsKeysFault, keys_outcome, unless_fault, HasFault}
use Rattle.mc_allkeys.specs.Said.{Said, said_of}
use Rattle.mc_allkeys.specs.Said.Said.{Bad, Skipped, Surrogate, Ranged, Listed}
use Rattle.mc_allkeys.specs.Table.{ElementTable, is_long, contractions_of}
use Rattle.mc_allkeys.specs.Texts.{text_cmp}
use Rattle.mc_allkeys.specs.declared.element.Element.{Element}
use Rattle.mc_allkeys.specs.declared.fault.KeysFault.{KeysFault}
use Rattle.mc_allkeys.specs.declared.fault.KeysFault.TheVariants.{BadLine, TooLongContraction, TooManyElements, Repeated, TooManyContractions, NoMemory}

-- Tables of equal parts are one.
same_table : (one other : ElementTable) → one.entries ≡ other.entries → one.ranges ≡ other.ranges →
    one ≡ other
same_table one other e r = λ i. record { entries = e i; ranges = r i }

-- What one more line lists, and the range that it says.
listed-push : (said : List Said) (s : Said) →
    filter_map entry_said (said ++ s ∷ [])
    ≡ filter_map entry_said said ++ filter_map entry_said (s ∷ [])
listed-push said s = filter_map-append entry_said said (s ∷ [])

ranged-push : (said : List Said) (s : Said) →
    filter_map range_said (said ++ s ∷ [])
    ≡ filter_map range_said said ++ filter_map range_said (s ∷ [])
ranged-push said s = filter_map-append range_said said (s ∷ [])

-- Without a fault a text isn't listed.
third_false : (a b again : Bool) (x y z : KeysFault) (rest : Option KeysFault) →
    (if a then Some x else if b then Some y else if again then Some z else rest) ≡ None → again ≡ false
third_false true b again x y z rest e = absurd cc
third_false false true again x y z rest e = absurd cc
third_false false false true x y z rest e = absurd cc
third_false false false false x y z rest e = refl

none_of : (o : Option (List Element)) → is_some o ≡ false → o ≡ None
none_of None e = refl
none_of (Some v) e = absurd cc

-- The table of what is said, with one more line that has no fault.
pub with_line_is : (said : List Said) (s : Said) (number : ℕ) →
    fault_by s (table_by said) number ≡ None → with_line (table_by said) s ≡ table_by (said ++ s ∷ [])
with_line_is said Bad number e = absurd cc
with_line_is said Skipped number e =
    same_table _ _
    (ap fin.from_entries (sym (append-nil (filter_map entry_said said)) ∙ sym (listed-push said Skipped)))
    (sym (append-nil (filter_map range_said said)) ∙ sym (ranged-push said Skipped))
with_line_is said Surrogate number e =
    same_table _ _
    (ap fin.from_entries (sym (append-nil (filter_map entry_said said)) ∙ sym (listed-push said Surrogate)))
    (sym (append-nil (filter_map range_said said)) ∙ sym (ranged-push said Surrogate))
with_line_is said (Ranged range) number e =
    same_table _ _
    (ap fin.from_entries (sym (append-nil (filter_map entry_said said)) ∙ sym (listed-push said (Ranged range))))
    (sym (ranged-push said (Ranged range)))
with_line_is said (Listed codes elements) number e =
    let xs = filter_map entry_said said in
    let absent : is_some (fin.get (fin.from_entries {R = text_cmp} xs) codes) ≡ false =
    third_false (nat_lt 6 (length codes)) (nat_lt 32 (length elements))
    (fin.contains_key (fin.from_entries {R = text_cmp} xs) codes) (TooLongContraction number)
    (TooManyElements number) (Repeated number)
    (if is_long codes && nat_le greatest_count (length (contractions_of (fin.from_entries xs))) then
    Some (TooManyContractions number)
    else None) e in
    let free = sym (get-from_entries nat_list_cmp_total xs codes) ∙ none_of _ absent in
    same_table _ _
    (sym (from_entries_push nat_list_cmp_total (slice_cmp-IsAntisymmetric nat_cmp-IsAntisymmetric) xs
    codes elements free)
    ∙ ap fin.from_entries (sym (listed-push said (Listed codes elements))))
    (sym (append-nil (filter_map range_said said)) ∙ sym (ranged-push said (Listed codes elements)))

-- The lines so far have no fault, and this is their table; the other lines are left.
pub record IsRead (text : List ℕ) (table : ElementTable) (lines : List (ℕ × List ℕ)) : Type 0 where
  pub before : List (ℕ × List ℕ)
  pub parts : before ++ lines ≡ lines_of text
  pub sound : HasNoFault fault_of before
  pub table_is : table ≡ table_by (said_lines before)

-- Before the first line.
pub read_none : (text : List ℕ) (table : ElementTable) → table.entries ≡ fin.empty →
    table.ranges ≡ [] → IsRead text table (lines_of text)
read_none text table e r = record {
  before = [];
  parts = refl;
  sound = no_fault-none fault_of;
  table_is = same_table table (table_by []) e r;
}

-- Behind one more line.
pub read_more : (text : List ℕ) (table next : ElementTable) (number : ℕ) (body : List ℕ)
    (lines : List (ℕ × List ℕ)) → IsRead text table ((number, body) ∷ lines) →
    fault_by (said_of body) table number ≡ None → next ≡ with_line table (said_of body) →
    IsRead text next lines
read_more text table next number body lines h none is =
    let here : fault_of h.before (number, body) ≡ None =
    sym (ap (λ (t : ElementTable). fault_by (said_of body) t number) h.table_is) ∙ none in
    record {
      before = h.before ++ (number, body) ∷ [];
      parts = append_assoc h.before ((number, body) ∷ []) lines ∙ h.parts;
      sound = no_fault-more fault_of h.before (number, body) h.sound here;
      table_is = is ∙ ap (λ (t : ElementTable). with_line t (said_of body)) h.table_is
          ∙ with_line_is (said_lines h.before) (said_of body) number here
          ∙ ap table_by (sym (map-append (λ (line : ℕ × List ℕ). said_of line.1) h.before
          ((number, body) ∷ [])));
    }

-- The first fault of the lines, by the fault of the next one.
fault_here : (text : List ℕ) (table : ElementTable) (number : ℕ) (body : List ℕ)
    (lines : List (ℕ × List ℕ)) (fault : KeysFault) → IsRead text table ((number, body) ∷ lines) →
    fault_by (said_of body) table number ≡ Some fault → IsFirstFault fault_of (lines_of text) fault
fault_here text table number body lines fault h e =
    let here : fault_of h.before (number, body) ≡ Some fault =
    sym (ap (λ (t : ElementTable). fault_by (said_of body) t number) h.table_is) ∙ e in
    let first = first_fault-behind fault_of h.before (number, body) lines fault h.sound here in
    rw (← h.parts) first

err_is : (text : List ℕ) (fault : KeysFault) → IsFirstFault fault_of (lines_of text) fault →
    keys_outcome text ≡ Err fault
unfolding keys_outcome
err_is text fault h =
    ap (unless_fault (table_by (said_lines (lines_of text)))) (first_fault-some fault_of (lines_of text) fault h)

-- At a line with a fault.
pub read_fault : (text : List ℕ) (table : ElementTable) (number : ℕ) (body : List ℕ)
    (lines : List (ℕ × List ℕ)) (fault : KeysFault) → IsRead text table ((number, body) ∷ lines) →
    HasLineFault (said_of body) table number fault →
    IsKeysFault (lines_of text) fault × HasFault (keys_outcome text) fault
read_fault text table number body lines (BadLine n) h e =
    let f = fault_here text table number body lines (BadLine n) h e in (f, err_is text (BadLine n) f)
read_fault text table number body lines (TooLongContraction n) h e =
    let f = fault_here text table number body lines (TooLongContraction n) h e in
    (f, err_is text (TooLongContraction n) f)
read_fault text table number body lines (TooManyElements n) h e =
    let f = fault_here text table number body lines (TooManyElements n) h e in
    (f, err_is text (TooManyElements n) f)
read_fault text table number body lines (Repeated n) h e =
    let f = fault_here text table number body lines (Repeated n) h e in (f, err_is text (Repeated n) f)
read_fault text table number body lines (TooManyContractions n) h e =
    let f = fault_here text table number body lines (TooManyContractions n) h e in
    (f, err_is text (TooManyContractions n) f)
read_fault text table number body lines NoMemory h e = (tt, tt)

-- Behind the last line.
pub read_all : (text : List ℕ) (table : ElementTable) → IsRead text table [] →
    IsKeysOf (lines_of text) table × (keys_outcome text ≡ Ok table)
unfolding keys_outcome
read_all whole table h =
    let all : h.before ≡ lines_of whole = sym (append-nil h.before) ∙ h.parts in
    let none : HasNoFault fault_of (lines_of whole) = rw (← all) h.sound in
    let is : table ≡ table_by (said_lines (lines_of whole)) =
    h.table_is ∙ ap (λ (lines : List (ℕ × List ℕ)). table_by (said_lines lines)) all in (
      record {
        no_fault = none;
        each_text = λ text. ap (λ (t : ElementTable). fin.get t.entries text) is
            ∙ get-from_entries nat_list_cmp_total (filter_map entry_said (said_lines (lines_of whole))) text;
        ranges = ap (λ (t : ElementTable). t.ranges) is;
      },
      ap (unless_fault (table_by (said_lines (lines_of whole)))) (first_fault-none fault_of (lines_of whole) none)
          ∙ ap Ok (sym is),
    )
