-- What a Unicode collation means, by the set, the kind and the table that it was made of.
use Rattle.mc_order.specs.Laws.{IsLawful}
use Rattle.mc_order.specs.Meaning.{Meaning}
use Rattle.mc_uca.specs.UcaLaws.{uca_lawful}
use Rattle.mc_uca.specs.UcaMeaning.{uca_meaning}
use Rattle.mc_uca.specs.declared.collation.UcaCollation.{UcaCollation}

-- what it means
abbrev pub meaning_of : UcaCollation → Meaning
meaning_of uca = uca_meaning uca.weigher.charset uca.weigher.kind uca.weigher.keys

-- It keeps the laws.
pub lawful_of : (uca : UcaCollation) → IsLawful (meaning_of uca)
lawful_of uca =
    uca_lawful uca.weigher.charset uca.weigher.kind uca.weigher.keys uca.weigher.some_level
    uca.weigher.few_levels uca.sound uca.fits
