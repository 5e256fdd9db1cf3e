-- A file is accepted or refused, and refused in one way.
use Rattle.std.proofs.Common.{◌≡◌, ◌≢◌, ℕ, zero, suc, ◌<◌, ◌≤◌, List, [], ◌∷◌, take, None, ◌⊎◌, inl, inr, refl, sym, ap, ◌∙◌, arith}
use Rattle.std.specs.List.{slice_get}
use Rattle.std.proofs.lemmas.Bool.{cases_lt}
use Rattle.std.proofs.lemmas.Option.{same_Some, none-some}
use Rattle.mc_base.specs.FirstFault.{HasNoFault, IsFirstFault}
use Rattle.mc_catalog.specs.declared.fault.CatalogFault.{CatalogFault}
use Rattle.mc_catalog.specs.declared.fault.CatalogFaultKind.{CatalogFaultKind}
use Rattle.mc_catalog.specs.declared.fault.CatalogFaultKind.TheVariants.{BadLine, UnknownCharset, UnknownKind, WrongCharset, UnknownCollation, UnknownColumn, BadLength, Repeated, TooMany, NoColumn, NoMemory}
use Rattle.mc_catalog.specs.Progress.{said_by}
use Rattle.mc_catalog.specs.CatalogFaults.{fault_of, IsBareLine, IsAccepted, IsRefused}

-- lines of a catalog: number and body
abbrev Lines : Type 0
Lines = List (ℕ × List ℕ)

-- a member of a front is that of the whole
taken_get : {L : Type 0} (xs : List L) (j k : ℕ) → k < j → slice_get (take j xs) k ≡ slice_get xs k
taken_get xs zero k h = absurd (omega arith)
taken_get [] (suc j) k h = refl
taken_get (x ∷ xs) (suc j) zero h = refl
taken_get (x ∷ xs) (suc j) (suc k) h = taken_get xs j k (omega arith)

-- a front of a front is that of the whole
taken_twice : {L : Type 0} (xs : List L) (j k : ℕ) → k ≤ j → take k (take j xs) ≡ take k xs
taken_twice xs j zero h = refl
taken_twice xs zero (suc k) h = absurd (omega arith)
taken_twice [] (suc j) (suc k) h = refl
taken_twice (x ∷ xs) (suc j) (suc k) h = ap (λ rest. x ∷ rest) (taken_twice xs j k (omega arith))

-- lines without a fault have none
faultless : (lines : Lines) (fault : CatalogFault) → HasNoFault fault_of lines → IsFirstFault fault_of lines fault → ⊥
faultless lines fault none first = none-some fault (sym (none first.0 first.1 first.2) ∙ first.4)

-- a first fault doesn't stand behind a fault
not_behind : (lines : Lines) (fault other : CatalogFault) (first : IsFirstFault fault_of lines fault) (second : IsFirstFault fault_of lines other) → first.0 < second.0 → ⊥
not_behind lines fault other first second lt =
    let here = second.3 first.0 first.1 (taken_get lines second.0 first.0 lt ∙ first.2) in
    let le : first.0 ≤ second.0 = omega arith in
    let none : fault_of (take first.0 lines) first.1 ≡ None = rw (taken_twice lines second.0 first.0 le) at here in
    none-some fault (sym none ∙ first.4)

-- The first fault is one.
one_fault : (lines : Lines) (fault other : CatalogFault) → IsFirstFault fault_of lines fault → IsFirstFault fault_of lines other → fault ≡ other
one_fault lines fault other first second = of (cases_lt first.0 second.0) (cases_lt second.0 first.0)
  where
    of : (first.0 < second.0) ⊎ (second.0 ≤ first.0) → (second.0 < first.0) ⊎ (first.0 ≤ second.0) → fault ≡ other
    of (inl lt) more = absurd (not_behind lines fault other first second lt)
    of (inr le) (inl lt) = absurd (not_behind lines other fault second first lt)
    of (inr le) (inr ge) =
        let place : first.0 ≡ second.0 = omega arith in
        let line = same_Some first.1 second.1 (sym first.2 ∙ ap (slice_get lines) place ∙ second.2) in
        same_Some fault other (sym first.4 ∙ ap (λ (k : ℕ). fault_of (take k lines) first.1) place ∙ ap (fault_of (take second.0 lines)) line ∙ second.4)

-- the three ways to be refused: want of memory, a table without a column, a line
ways : (lines : Lines) (kind : CatalogFaultKind) (number : ℕ) → IsRefused lines kind number → (kind ≡ NoMemory) ⊎ (((kind ≡ NoColumn) × HasNoFault fault_of lines × IsBareLine (said_by lines) number) ⊎ IsFirstFault fault_of lines (record { kind = kind; line = number }))
ways lines NoMemory number h = inl refl
ways lines NoColumn number h = inr (inl (refl, h.0, h.1))
ways lines BadLine number h = inr (inr h)
ways lines UnknownCharset number h = inr (inr h)
ways lines UnknownKind number h = inr (inr h)
ways lines WrongCharset number h = inr (inr h)
ways lines UnknownCollation number h = inr (inr h)
ways lines UnknownColumn number h = inr (inr h)
ways lines BadLength number h = inr (inr h)
ways lines Repeated number h = inr (inr h)
ways lines TooMany number h = inr (inr h)

-- An accepted file is refused for want of memory alone.
pub accepted_alone : (lines : Lines) (kind : CatalogFaultKind) (number : ℕ) → IsAccepted lines → IsRefused lines kind number → kind ≡ NoMemory
accepted_alone lines kind number accepted refused = of (ways lines kind number refused)
  where
    of : (kind ≡ NoMemory) ⊎ (((kind ≡ NoColumn) × HasNoFault fault_of lines × IsBareLine (said_by lines) number) ⊎ IsFirstFault fault_of lines (record { kind = kind; line = number })) → kind ≡ NoMemory
    of (inl e) = e
    of (inr (inl bare)) = absurd (none-some bare.2.0 (sym accepted.1 ∙ bare.2.1))
    of (inr (inr first)) = absurd (faultless lines (record { kind = kind; line = number }) accepted.0 first)

-- the first table without a column is one, and so is its line
one_bare : (lines : Lines) (number second : ℕ) → IsBareLine (said_by lines) number → IsBareLine (said_by lines) second → number ≡ second
one_bare lines number second a b =
    let place = same_Some a.0 b.0 (sym a.1 ∙ b.1) in
    same_Some number second (sym a.2 ∙ ap (slice_get (said_by lines).table_lines) place ∙ b.2)

-- Want of memory aside, a file is refused in one way.
pub refused_once : (lines : Lines) (kind other : CatalogFaultKind) (number second : ℕ) → IsRefused lines kind number → IsRefused lines other second → kind ≢ NoMemory → other ≢ NoMemory → (kind ≡ other) × (number ≡ second)
refused_once lines kind other number second first next some more = of (ways lines kind number first) (ways lines other second next)
  where
    of : (kind ≡ NoMemory) ⊎ (((kind ≡ NoColumn) × HasNoFault fault_of lines × IsBareLine (said_by lines) number) ⊎ IsFirstFault fault_of lines (record { kind = kind; line = number }))
        → (other ≡ NoMemory) ⊎ (((other ≡ NoColumn) × HasNoFault fault_of lines × IsBareLine (said_by lines) second) ⊎ IsFirstFault fault_of lines (record { kind = other; line = second }))
        → (kind ≡ other) × (number ≡ second)
    of (inl e) way = absurd (some e)
    of (inr way) (inl e) = absurd (more e)
    of (inr (inl a)) (inr (inl b)) = (a.0 ∙ sym b.0, one_bare lines number second a.2 b.2)
    of (inr (inl a)) (inr (inr g)) = absurd (faultless lines (record { kind = other; line = second }) a.1 g)
    of (inr (inr f)) (inr (inl b)) = absurd (faultless lines (record { kind = kind; line = number }) b.1 f)
    of (inr (inr f)) (inr (inr g)) =
        let same = one_fault lines (record { kind = kind; line = number }) (record { kind = other; line = second }) f g in
        (ap (λ (fault : CatalogFault). fault.kind) same, ap (λ (fault : CatalogFault). fault.line) same)
