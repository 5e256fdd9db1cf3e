-- Conversion that refuses to lose a character.
use Rattle.std.specs.Prelude.{ℕ, List, Result, Ok, Err, ⊤}
use Rattle.mc_charset.specs.declared.charset.Charset.{Charset}
use Rattle.mc_convert.specs.declared.exact.ConvertFault.{ConvertFault}
use Rattle.mc_convert.specs.declared.exact.ConvertFault.TheVariants.{Lossy, NoMemory}
use Rattle.mc_convert.specs.Conversion.{IsConverted, IsLossless, IsFirstLost}

-- The converted text exactly where no character is lost, else the place of the first lost one.
-- Want of memory may come before either is known.
abbrev pub IsExactly : Charset → Charset → List ℕ → Result (List ℕ) ConvertFault
    → Type 0
IsExactly from to text (Ok converted) =
    IsConverted from to text converted × IsLossless from to text
IsExactly from to text (Err (Lossy place)) = IsFirstLost from to text place
IsExactly from to text (Err NoMemory) = ⊤
