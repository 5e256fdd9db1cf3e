use Rattle.std.proofs.Common.{◌≡◌, Some, None, sym, ◌∙◌}
use Rattle.mc_base.proofs.FirstFaultLemmas.{first_fault-none, first_fault-some}
use Rattle.mc_allkeys.specs.Faults.{fault_of}
use Rattle.mc_allkeys.specs.declared.fault.KeysFault.{KeysFault}
use Rattle.mc_allkeys.proofs.laws.keys_file_law.Goals as goal

one : (fault other : KeysFault) → Some fault ≡ Some other → fault ≡ other
one fault other e = cc

not_none : (fault : KeysFault) → None ≡ Some fault → ⊥
not_none fault e = cc

pub returns-clause-one_fault : goal.returns-clause-one_fault
returns-clause-one_fault c = λ lines fault other h g.
    one fault other (sym (first_fault-some fault_of lines fault h) ∙ first_fault-some fault_of lines other g)

pub returns-clause-no_fault : goal.returns-clause-no_fault
returns-clause-no_fault c = λ lines fault h g.
    not_none fault (sym (first_fault-none fault_of lines h) ∙ first_fault-some fault_of lines fault g)
