-- The marks: their spellings, and the longest one that begins some bytes. MySQL 8.0 manual, 9.2,
-- 12.4.2 and 12.6.1.
use Rattle.std.specs.Prelude.{◌≡◌, ℕ, ◌==◌, ◌≤◌, List, ◌++◌, Option, Some}
use Rattle.std.specs.Prelude.{None, codes, length}
use Rattle.std.specs.Prelude.{drop, slice_index, if◌then◌else◌}
use Rattle.mc_token.specs.Bytes.{exclamation, percent, left_paren, right_paren, star, plus, comma}
use Rattle.mc_token.specs.Bytes.{dash, dot, less, equals, greater}
use Rattle.mc_token.specs.declared.lexeme.Symbol.{Symbol}
use Rattle.mc_token.specs.declared.lexeme.Symbol.TheVariants.{LeftParen, RightParen, Comma, Dot}
use Rattle.mc_token.specs.declared.lexeme.Symbol.TheVariants.{Star, Plus, Minus, Percent, Eq, Ne}
use Rattle.mc_token.specs.declared.lexeme.Symbol.TheVariants.{NeBang, Lt, Le, Gt, Ge, NullEq}

-- The spelling of a mark.
abbrev pub mark_text : Symbol → List ℕ
mark_text LeftParen = codes "("
mark_text RightParen = codes ")"
mark_text Comma = codes ","
mark_text Dot = codes "."
mark_text Star = codes "*"
mark_text Plus = codes "+"
mark_text Minus = codes "-"
mark_text Percent = codes "%"
mark_text Eq = codes "="
mark_text Ne = codes "<>"
mark_text NeBang = codes "!="
mark_text Lt = codes "<"
mark_text Le = codes "<="
mark_text Gt = codes ">"
mark_text Ge = codes ">="
mark_text NullEq = codes "<=>"

-- The bytes taken are the spelling of this mark, and no longer mark begins them and what is behind.
pub record IsMark (symbol : Symbol) (taken behind : List ℕ) : Type 0 where
  pub taken_is : taken ≡ mark_text symbol
  pub longest : (other : Symbol) (rest : List ℕ) → taken ++ behind ≡ mark_text other ++ rest
      → length (mark_text other) ≤ length (mark_text symbol)

-- The mark that `<` begins before these bytes.
abbrev pub less_mark : List ℕ → Symbol
less_mark behind =
    if slice_index behind 0 == equals
    then (if slice_index (drop 1 behind) 0 == greater then NullEq else Le)
    else (if slice_index behind 0 == greater then Ne else Lt)

-- The mark that `>` begins.
abbrev pub greater_mark : List ℕ → Symbol
greater_mark behind = if slice_index behind 0 == equals then Ge else Gt

-- The mark that `!` begins, where it begins one.
abbrev pub bang_mark : List ℕ → Option Symbol
bang_mark behind = if slice_index behind 0 == equals then Some NeBang else None

-- The mark that this byte is, where no longer one begins with it.
abbrev pub byte_mark : ℕ → Option Symbol
byte_mark byte =
    if byte == left_paren then Some LeftParen
    else (if byte == right_paren then Some RightParen
    else (if byte == comma then Some Comma
    else (if byte == dot then Some Dot
    else (if byte == star then Some Star
    else (if byte == plus then Some Plus
    else (if byte == dash then Some Minus
    else (if byte == percent then Some Percent
    else (if byte == equals then Some Eq
    else None))))))))

-- The mark that a byte begins, beside the bytes behind it, where one does.
unfoldable pub mark_of : ℕ → List ℕ → Option Symbol
mark_of first behind =
    if first == less then Some (less_mark behind)
    else (if first == greater then Some (greater_mark behind)
    else (if first == exclamation then bang_mark behind
    else byte_mark first))
