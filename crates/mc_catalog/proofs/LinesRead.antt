-- The lines of a catalog, read one after the other.
use Rattle.std.proofs.Common.{◌≡◌, ℕ, List, [], ◌∷◌, ◌++◌, None, Some, option_map, refl, sym, ap, subst, ◌∙◌, append_assoc}
use Rattle.std.proofs.lemmas.List.{append-nil}
use Rattle.std.proofs.lemmas.List.Sums.{fold-append}
use Rattle.mc_base.specs.FirstFault.{HasNoFault, IsFirstFault}
use Rattle.mc_base.proofs.FirstFaultLemmas.{no_fault-none, no_fault-more, first_fault-behind}
use Rattle.mc_catalog.specs.declared.fault.CatalogFaultKind.{CatalogFaultKind}
use Rattle.mc_catalog.specs.declared.fault.CatalogFaultKind.TheVariants.{BadLine, UnknownCharset, UnknownKind, WrongCharset, UnknownCollation, UnknownColumn, BadLength, Repeated, TooMany, NoColumn, NoMemory}
use Rattle.mc_catalog.specs.Lawful.{IsLawfulSoFar}
use Rattle.mc_catalog.specs.Entries.{entry_of}
use Rattle.mc_catalog.specs.Progress.{Progress, nothing_said, with_line, said_by, catalog_of}
use Rattle.mc_catalog.specs.CatalogFaults.{kind_of_fault, fault_of, line_told, IsRefused, IsCausedBy, IsEndFault}
use Rattle.mc_catalog.proofs.PlainLawful.{plain_so_far}

-- lines of a catalog: number and body
abbrev pub Lines : Type 0
Lines = List (ℕ × List ℕ)

-- Of all lines these are left, and what those before them say is this.
pub record HasRead (all rest : Lines) (said : Progress) : Type 0 where
  pub taken : Lines
  pub split : all ≡ taken ++ rest
  pub no_fault : HasNoFault fault_of taken
  pub value : said ≡ said_by taken
  pub lawful : IsLawfulSoFar (catalog_of said)

pub none_read : (all : Lines) → HasRead all all nothing_said
none_read all = record { taken = []; split = refl; no_fault = no_fault-none fault_of; value = refl; lawful = plain_so_far }

-- a line without a fault has none beside the lines before it
without_fault : (before : Lines) (line : ℕ × List ℕ) → kind_of_fault (said_by before) (entry_of line.1) ≡ None → fault_of before line ≡ None
without_fault before line e = ap (option_map (λ kind. record { kind = kind; line = line.0 })) e

pub one_read : (all before after : Lines) (line : ℕ × List ℕ) (said new : Progress) → HasRead all before said → before ≡ line ∷ after → kind_of_fault said (entry_of line.1) ≡ None → new ≡ with_line said line → IsLawfulSoFar (catalog_of new) → HasRead all after new
one_read all before after line said new read split clear added lawful = record {
  taken = read.taken ++ line ∷ [];
  split = read.split ∙ ap (λ rest. read.taken ++ rest) split ∙ sym (append_assoc read.taken (line ∷ []) after);
  no_fault = no_fault-more fault_of read.taken line read.no_fault (without_fault read.taken line (rw read.value at clear));
  value = added ∙ ap (λ so_far. with_line so_far line) read.value ∙ sym (fold-append with_line nothing_said read.taken (line ∷ []));
  lawful = lawful;
}

-- the fault of a line is the first one, behind lines without a fault
faulty : (taken after : Lines) (line : ℕ × List ℕ) (kind : CatalogFaultKind) → HasNoFault fault_of taken → kind_of_fault (said_by taken) (entry_of line.1) ≡ Some kind → IsFirstFault fault_of (taken ++ line ∷ after) (record { kind = kind; line = line.0 })
faulty taken after line kind h e =
    first_fault-behind fault_of taken line after (record { kind = kind; line = line.0 }) h (ap (option_map (λ kind. record { kind = kind; line = line.0 })) e)

refused_behind : (taken after : Lines) (line : ℕ × List ℕ) (kind : CatalogFaultKind) → HasNoFault fault_of taken → IsCausedBy kind (kind_of_fault (said_by taken) (entry_of line.1)) → IsRefused (taken ++ line ∷ after) kind (line_told kind line.0)
refused_behind taken after line BadLine h cause = faulty taken after line BadLine h cause
refused_behind taken after line UnknownCharset h cause = faulty taken after line UnknownCharset h cause
refused_behind taken after line UnknownKind h cause = faulty taken after line UnknownKind h cause
refused_behind taken after line WrongCharset h cause = faulty taken after line WrongCharset h cause
refused_behind taken after line UnknownCollation h cause = faulty taken after line UnknownCollation h cause
refused_behind taken after line UnknownColumn h cause = faulty taken after line UnknownColumn h cause
refused_behind taken after line BadLength h cause = faulty taken after line BadLength h cause
refused_behind taken after line Repeated h cause = faulty taken after line Repeated h cause
refused_behind taken after line TooMany h cause = faulty taken after line TooMany h cause
refused_behind taken after line NoColumn h cause = absurd cause
refused_behind taken after line NoMemory h cause = refl

-- A line that is refused, behind lines that were read.
pub refused_read : (all before after : Lines) (line : ℕ × List ℕ) (said : Progress) (kind : CatalogFaultKind) → HasRead all before said → before ≡ line ∷ after → IsCausedBy kind (kind_of_fault said (entry_of line.1)) → IsRefused all kind (line_told kind line.0)
refused_read all before after line said kind read split cause =
    let whole : read.taken ++ line ∷ after ≡ all = ap (λ rest. read.taken ++ rest) (sym split) ∙ sym read.split in
    let here = rw read.value at cause in
    subst (λ all. IsRefused all kind (line_told kind line.0)) whole (refused_behind read.taken after line kind read.no_fault here)

-- All lines are read.
pub all_taken : (all rest : Lines) (said : Progress) (read : HasRead all rest said) → rest ≡ [] → read.taken ≡ all
all_taken all rest said read e = sym (read.split ∙ ap (λ rest. read.taken ++ rest) e ∙ append-nil read.taken)

pub all_no_fault : (all rest : Lines) (said : Progress) → HasRead all rest said → rest ≡ [] → HasNoFault fault_of all
all_no_fault all rest said read e = subst (HasNoFault fault_of) (all_taken all rest said read e) read.no_fault

pub all_said : (all rest : Lines) (said : Progress) → HasRead all rest said → rest ≡ [] → said ≡ said_by all
all_said all rest said read e = read.value ∙ ap said_by (all_taken all rest said read e)

-- The fault behind all lines, where no line has one.
pub end_refused : (all : Lines) (said : Progress) (kind : CatalogFaultKind) (number : ℕ) → HasNoFault fault_of all → said ≡ said_by all → IsEndFault said kind number → IsRefused all kind number
end_refused all said NoMemory number h value fault = fault
end_refused all said NoColumn number h value fault = (h, rw (← value) fault)
end_refused all said _ number h value fault = absurd fault
