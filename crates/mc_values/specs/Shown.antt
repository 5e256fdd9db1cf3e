-- What a value shows, apart from the bytes that spell it.
use Rattle.std.specs.Prelude.{◌≡◌, ℕ, ℤ, List}
use Rattle.mc_charset.specs.Chars.{Spells, chars}
use Rattle.mc_charset.specs.declared.charset.Charset.{Charset}
use Rattle.mc_values.specs.declared.value.Value.{Value}
use Rattle.mc_values.specs.declared.value.Value.TheVariants.{Null, Int, Str}

-- what is shown: NULL, a number, or the characters of a text of a set
pub data Shown : Type 0 where
  null : Shown
  int : ℤ → Shown
  text : Charset → List ℕ → Shown

-- The value shows this: a string, the characters that spell it in its set.
abbrev pub Shows : Value → Shown → Type 0
Shows Null null = Unit
Shows (Int number) (int it) = number ≡ it
Shows (Str set bytes) (text it codes) = (set ≡ it) × Spells set codes bytes
Shows value it = ⊥

-- what a value shows, if its string is a text of its set
abbrev pub shown : Value → Shown
shown Null = null
shown (Int number) = int number
shown (Str set bytes) = text set (chars set bytes)
