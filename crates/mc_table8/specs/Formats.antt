-- The two formats of weight files: MySQL 8.0 manual, 10.14.3 and 10.10.1.
use Rattle.std.specs.Prelude.{ℕ}
use Rattle.mc_table8.specs.declared.format.Format.{Format}
use Rattle.mc_table8.specs.declared.format.Format.TheVariants.{Bytes, Codes}

-- how many digits a number of the format has at most
abbrev pub digits_of : Format → ℕ
digits_of Bytes = 2
digits_of Codes = 6

-- the greatest code and weight of the format
abbrev pub greatest_of : Format → ℕ
greatest_of Bytes = 0xFF
greatest_of Codes = 0xFFFF
