-- The first fault of a file that is read line by line, or record by record. What a line says is
-- judged beside the lines before it: `fault_of` gives the fault of a line behind some lines, if it
-- has one.
use Rattle.std.specs.Prelude.{◌≡◌, ℕ, List, [], ◌∷◌, take, Option, Some, None}
use Rattle.std.specs.List.{slice_get}
use Rattle.std.specs.Option.{option_or}

-- No line has a fault beside the lines before it.
abbrev pub HasNoFault : {L F : Type 0} → (List L → L → Option F) → List L → Type 0
HasNoFault {L} fault_of lines =
    (k : ℕ) (line : L) → slice_get lines k ≡ Some line → fault_of (take k lines) line ≡ None

-- The first line that has a fault beside the lines before it has this one.
abbrev pub IsFirstFault : {L F : Type 0} → (List L → L → Option F) → List L → F → Type 0
IsFirstFault {L} fault_of lines fault =
    (k : ℕ) × (line : L) × (slice_get lines k ≡ Some line) × HasNoFault fault_of (take k lines) ×
    (fault_of (take k lines) line ≡ Some fault)

-- the first fault of lines, each of them judged beside the lines before it
abbrev pub first_fault : {L F : Type 0} → (List L → L → Option F) → List L → Option F
first_fault fault_of [] = None
first_fault fault_of (line ∷ lines) =
    option_or (fault_of [] line) (first_fault (λ before. fault_of (line ∷ before)) lines)
