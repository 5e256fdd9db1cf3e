-- What a type says of a value, and what an operation asks of an operand's type.
use Rattle.std.specs.Prelude.{◌≡◌, ℕ, List, IsSomeAnd, slice_get, Some}
use Rattle.mc_charset.specs.Chars.{IsWellFormed}
use Rattle.mc_charset.specs.declared.charset.Charset.{Charset}
use Rattle.mc_values.specs.declared.value.Value.{Value}
use Rattle.mc_values.specs.declared.value.Value.TheVariants as value
use Rattle.mc_typing.specs.declared.typed.Ty.{Ty}
use Rattle.mc_typing.specs.declared.typed.Ty.TheVariants.{Null, Int, Str}

-- A value of the type, or NULL: a number, or a text of the type's set.
abbrev pub IsOfType : Ty → Value → Type 0
IsOfType ty value.Null = Unit {0}
IsOfType Int (value.Int number) = Unit {0}
IsOfType (Str a) (value.Str set text) = (set ≡ a.charset) × IsWellFormed set text
IsOfType ty v = ⊥

-- At the place of each of the types the row has a value of it.
abbrev pub IsRowOf : List Ty → List Value → Type 0
IsRowOf types row = (place : ℕ) (ty : Ty) → slice_get types place ≡ Some ty
    → IsSomeAnd (slice_get row place) (IsOfType ty)

-- The type is that of numbers, or of NULL.
abbrev pub IsNumeric : Ty → Type 0
IsNumeric (Str a) = ⊥
IsNumeric ty = Unit {0}

-- The type is that of texts, or of NULL.
abbrev pub IsTextual : Ty → Type 0
IsTextual Int = ⊥
IsTextual ty = Unit {0}

-- The type is that of texts.
abbrev pub IsTextTy : Ty → Type 0
IsTextTy (Str a) = Unit {0}
IsTextTy ty = ⊥

-- The type is that of texts of the set.
abbrev pub IsTextIn : Charset → Ty → Type 0
IsTextIn set (Str a) = a.charset ≡ set
IsTextIn set ty = ⊥

-- The second type is that of texts; of those of the first one's set, if that is one of texts.
abbrev pub KeepsSet : Ty → Ty → Type 0
KeepsSet Null (Str b) = Unit {0}
KeepsSet (Str a) (Str b) = b.charset ≡ a.charset
KeepsSet ty other = ⊥
