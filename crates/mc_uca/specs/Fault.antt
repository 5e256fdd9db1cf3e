-- Why a table of elements makes no collation.
use Rattle.std.specs.Prelude.{◌≡◌, Bool, false, ⊤}
use Rattle.mc_uca.specs.declared.fault.UcaFault.{UcaFault}
use Rattle.mc_uca.specs.declared.fault.UcaFault.TheVariants.{SpaceWeight, NoMemory}

-- The space's weight doesn't fit; for want of memory any table may be refused.
abbrev pub HasUcaFault : Bool → UcaFault → Type 0
HasUcaFault fits SpaceWeight = fits ≡ false
HasUcaFault fits NoMemory = ⊤
