-- The bytes of a spelling.
use Rattle.std.specs.Prelude.{ℕ, List}
use Rattle.mc_charset.specs.declared.spelling.Spelling.{Spelling}
use Rattle.mc_charset.specs.declared.spelling.Spelling.TheVariants.{One, Two, Three, Four}

-- the bytes of a spelling in order
abbrev pub bytes_of : Spelling → List ℕ
bytes_of (One bytes) = bytes
bytes_of (Two bytes) = bytes
bytes_of (Three bytes) = bytes
bytes_of (Four bytes) = bytes
