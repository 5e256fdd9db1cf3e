-- The kinds of Unicode collations: MySQL 8.0 manual, 10.10.1, "Unicode Collation Names".
use Rattle.std.specs.Prelude.{ℕ}
use Rattle.mc_order.specs.declared.pad.Pad.{Pad}
use Rattle.mc_order.specs.declared.pad.Pad.TheVariants.{PadSpace, NoPad}
use Rattle.mc_rules.specs.declared.family.UcaFamily.{UcaFamily}
use Rattle.mc_rules.specs.declared.family.UcaFamily.TheVariants as family
use Rattle.mc_uca.specs.declared.kind.UcaKind.{UcaKind}
use Rattle.mc_uca.specs.declared.kind.UcaKind.TheVariants.{Uca4, Uca520, Uca9}

-- the version after which a kind is named
abbrev pub family_of : UcaKind → UcaFamily
family_of Uca4 = family.Uca4
family_of Uca520 = family.Uca520
family_of (Uca9 levels) = family.Uca9

-- whether texts are padded: only from version 9.0.0 on they aren't
abbrev pub pad_of : UcaKind → Pad
pad_of Uca4 = PadSpace
pad_of Uca520 = PadSpace
pad_of (Uca9 levels) = NoPad

-- how many weight levels a kind compares
abbrev pub levels_of : UcaKind → ℕ
levels_of Uca4 = 1
levels_of Uca520 = 1
levels_of (Uca9 levels) = levels
