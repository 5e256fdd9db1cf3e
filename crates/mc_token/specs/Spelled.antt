-- How each kind of token is spelled: MySQL 8.0 manual, 9.1.1, 9.1.4, 9.2 and 10.3.7.
use Rattle.std.specs.Prelude.{◌≡◌, ◌≢◌, ℕ, ℤ, ◌%◌, ◌≤◌, Bool, true, false}
use Rattle.std.specs.Prelude.{◌||◌, List, [], ◌∷◌}
use Rattle.std.specs.Prelude.{◌++◌, Some, length}
use Rattle.std.specs.Char.{is_ascii_digit, is_ascii_hexdigit}
use Rattle.std.specs.List.{AllByRecursion}
use Rattle.mc_token.specs.Bytes.{begins_word, continues_word, is_letter_n, is_letter_x, small_x}
use Rattle.mc_token.specs.Bytes.{digit_zero, single_quote, backquote}
use Rattle.mc_token.specs.Comments.{EndOr}
use Rattle.mc_token.specs.Marks.{IsMark}
use Rattle.mc_token.specs.Numbers.{int_of}
use Rattle.mc_token.specs.Strings.{IsString}
use Rattle.mc_token.specs.declared.spelling.Shape.{Shape}
use Rattle.mc_token.specs.declared.spelling.Shape.TheVariants.{Word, Name, Int, Str, National}
use Rattle.mc_token.specs.declared.spelling.Shape.TheVariants.{HexString, HexNumber, Sym}

-- Each byte is such a one.
abbrev pub AreAll : (ℕ → Bool) → List ℕ → Type 0
AreAll is_such bytes = AllByRecursion (λ byte. is_such byte ≡ true) bytes

-- There are no bytes, or the first is no such one.
abbrev pub EndOrNo : (ℕ → Bool) → List ℕ → Type 0
EndOrNo is_such bytes = EndOr (λ byte. is_such byte ≡ false) bytes

-- The bytes begin with `N` or `X`, upper or lower case, directly before a single quote.
abbrev pub OpensPrefixed : List ℕ → Type 0
OpensPrefixed bytes =
    (letter : ℕ) × (rest : List ℕ) × (bytes ≡ letter ∷ single_quote ∷ rest)
    × ((is_letter_n letter || is_letter_x letter) ≡ true)

-- A word: a letter or `_` that opens no literal, and all letters, digits, `_` and `$` behind it.
abbrev pub IsWord : (taken behind : List ℕ) → Type 0
IsWord taken behind =
    (first : ℕ) × (others : List ℕ) × (taken ≡ first ∷ others)
    × (begins_word first ≡ true)
    × AreAll continues_word others × EndOrNo continues_word behind
    × (OpensPrefixed (taken ++ behind) → ⊥)

-- A name has so many bytes at most.
abbrev pub name_limit : ℕ
name_limit = 64

-- A name between backquotes: 1 to 64 letters, digits, `_` and `$`, the first of which is no digit.
abbrev pub IsName : (taken : List ℕ) → Type 0
IsName taken =
    (first : ℕ) × (others : List ℕ)
    × (taken ≡ backquote ∷ first ∷ others ++ backquote ∷ [])
    × (is_ascii_digit first ≡ false)
    × AreAll continues_word (first ∷ others) × (length (first ∷ others) ≤ name_limit)

-- A whole number: digits that write it, and no letter, digit, `_` or `$` is directly behind them.
abbrev pub IsInt : (number : ℤ) → (taken behind : List ℕ) → Type 0
IsInt number taken behind =
    (taken ≢ []) × AreAll is_ascii_digit taken × (int_of taken ≡ Some number)
    × EndOrNo continues_word behind

-- A national string: `N` and a string in single quotes.
abbrev pub IsNational : (taken behind : List ℕ) → Type 0
IsNational taken behind =
    (letter : ℕ) × (rest : List ℕ) × (taken ≡ letter ∷ single_quote ∷ rest)
    × (is_letter_n letter ≡ true) × IsString (single_quote ∷ rest) behind

-- `X` and an even number of hexadecimal digits in single quotes.
abbrev pub IsHexString : (taken : List ℕ) → Type 0
IsHexString taken =
    (letter : ℕ) × (digits : List ℕ)
    × (taken ≡ letter ∷ single_quote ∷ digits ++ single_quote ∷ [])
    × (is_letter_x letter ≡ true) × AreAll is_ascii_hexdigit digits × (length digits % 2 ≡ 0)

-- `0x` and hexadecimal digits, one or more; no letter, digit, `_` or `$` is directly behind them.
abbrev pub IsHexNumber : (taken behind : List ℕ) → Type 0
IsHexNumber taken behind =
    (digits : List ℕ) × (taken ≡ digit_zero ∷ small_x ∷ digits) × (digits ≢ [])
    × AreAll is_ascii_hexdigit digits × EndOrNo continues_word behind

-- The bytes taken spell a token of this shape, where these are behind them.
abbrev pub IsSpelled : Shape → (taken behind : List ℕ) → Type 0
IsSpelled Word taken behind = IsWord taken behind
IsSpelled Name taken behind = IsName taken
IsSpelled (Int number) taken behind = IsInt number taken behind
IsSpelled Str taken behind = IsString taken behind
IsSpelled National taken behind = IsNational taken behind
IsSpelled HexString taken behind = IsHexString taken
IsSpelled HexNumber taken behind = IsHexNumber taken behind
IsSpelled (Sym symbol) taken behind = IsMark symbol taken behind
