-- What a collation of any kind means: MySQL 8.0 manual, 10.10 and 10.14.
use Rattle.mc_order.specs.Meaning.{Meaning}
use Rattle.mc_order.specs.Laws.{IsLawful}
use Rattle.mc_order.specs.Bin.{bin_meaning}
use Rattle.mc_order.specs.BinLaws.{bin_lawful}
use Rattle.mc_table8.specs.Table8Meaning.{table8_meaning}
use Rattle.mc_table8.specs.Table8Laws.{table8_lawful}
use Rattle.mc_table8.specs.GeneralMeaning.{general_meaning}
use Rattle.mc_table8.specs.GeneralLaws.{general_lawful}
use Rattle.mc_book.specs.declared.any_collation.AnyCollation.{AnyCollation}
use Rattle.mc_uca.specs.Collated.{meaning_of, lawful_of}
use Rattle.mc_book.specs.declared.any_collation.AnyCollation.TheVariants.{Bin, Table8, General, Uca}

-- A collation means what its kind says.
abbrev pub any_meaning : AnyCollation → Meaning
any_meaning (Bin bin) = bin_meaning bin
any_meaning (Table8 table8) = table8_meaning table8.charset table8.table
any_meaning (General general) = general_meaning general.charset general.table
any_meaning (Uca uca) = meaning_of uca

-- It keeps the laws as its kind does.
pub any_lawful : (collation : AnyCollation) → IsLawful (any_meaning collation)
any_lawful (Bin bin) = bin_lawful bin
any_lawful (Table8 table8) = table8_lawful table8
any_lawful (General general) = general_lawful general
any_lawful (Uca uca) = lawful_of uca
