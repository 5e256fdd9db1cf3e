-- The spellings of the tokens, the longest one at a place: MySQL 8.0 manual, 9.1.1, 9.1.4, 9.2 and
-- 10.3.7.
use Rattle.std.specs.Prelude.{ℕ, ◌+◌, ◌%◌, Bool, ◌||◌, ◌&&◌, not, ◌==◌}
use Rattle.std.specs.Prelude.{nat_lt, nat_le, List, ◌∷◌}
use Rattle.std.specs.Prelude.{Option, Some, None, unwrap_or, length, take, drop, slice_index}
use Rattle.std.specs.Prelude.{position, if◌then◌else◌, option_map}
use Rattle.std.specs.Char.{is_ascii_digit}
use Rattle.mc_token.specs.Bytes.{begins_word, continues_word, is_letter_n, is_letter_x, small_x}
use Rattle.mc_token.specs.Bytes.{digit_zero, single_quote, double_quote, backquote}
use Rattle.mc_token.specs.Elements.{quote_end}
use Rattle.mc_token.specs.Hexadecimal.{digits_len}
use Rattle.mc_token.specs.Marks.{mark_text, mark_of}
use Rattle.mc_token.specs.Numbers.{decimals_len, int_of}
use Rattle.mc_token.specs.Spelled.{name_limit}
use Rattle.mc_token.specs.declared.spelling.Spelling.{Spelling}
use Rattle.mc_token.specs.declared.spelling.Shape.{Shape}
use Rattle.mc_token.specs.declared.spelling.Shape.TheVariants.{Word, Name, Int, Str, National}
use Rattle.mc_token.specs.declared.spelling.Shape.TheVariants.{HexString, HexNumber, Sym}

-- The fewest bytes that spell such a token.
abbrev pub least_len : Shape → ℕ
least_len Word = 1
least_len Name = 3
least_len (Int number) = 1
least_len Str = 2
least_len National = 3
least_len HexString = 3
least_len HexNumber = 3
least_len (Sym symbol) = 1

-- How many bytes go on with a word.
abbrev pub word_len : List ℕ → ℕ
word_len bytes = unwrap_or (position (λ byte. not (continues_word byte)) bytes) (length bytes)

-- The bytes begin with a single quote.
abbrev pub opens_single : List ℕ → Bool
opens_single bytes = slice_index bytes 0 == single_quote

-- The spelling of a string whose first quote ends behind so many bytes, and that ends at this place
-- behind it, where it is closed.
abbrev pub string_spelling : Shape → ℕ → Option ℕ → Option Spelling
string_spelling shape before (Some end) = Some (record { shape = shape; len = before + end })
string_spelling shape before None = None

-- The spelling of `X'..'`, by the bytes behind its first quote: an even number of digits, a quote.
abbrev pub hex_string_spelling : List ℕ → Option Spelling
hex_string_spelling bytes =
    if digits_len bytes % 2 == 0 && slice_index bytes (digits_len bytes) == single_quote
    then Some (record { shape = HexString; len = 3 + digits_len bytes })
    else None

-- The spelling of `0x..`, by the bytes behind the x: a digit or more, and nothing directly behind
-- them that goes on with a word.
abbrev pub hex_number_spelling : List ℕ → Option Spelling
hex_number_spelling bytes =
    if nat_lt 0 (digits_len bytes) && not (continues_word (slice_index bytes (digits_len bytes)))
    then Some (record { shape = HexNumber; len = 2 + digits_len bytes })
    else None

-- The bytes begin with an `x`.
abbrev pub opens_hex : List ℕ → Bool
opens_hex bytes = slice_index bytes 0 == small_x

-- The spelling of a whole number, by its first digit and the bytes behind it: all the digits, and
-- nothing directly behind them that goes on with a word.
abbrev pub int_spelling : ℕ → List ℕ → Option Spelling
int_spelling first behind =
    if continues_word (slice_index behind (decimals_len behind)) then None
    else option_map (λ number. record { shape = Int number; len = 1 + decimals_len behind })
    (int_of (first ∷ take (decimals_len behind) behind))

-- The spelling of a number, by its first digit and the bytes behind it.
abbrev pub number_spelling : ℕ → List ℕ → Option Spelling
number_spelling first behind =
    if first == digit_zero && opens_hex behind then hex_number_spelling (drop 1 behind)
    else int_spelling first behind

-- So many bytes behind a backquote are a name, and a backquote is behind them.
abbrev pub closes_name : ℕ → List ℕ → Bool
closes_name len behind =
    nat_lt 0 len && nat_le len name_limit && not (is_ascii_digit (slice_index behind 0))
    && slice_index behind len == backquote

-- The spelling of a name between backquotes, by the bytes behind the first.
abbrev pub name_spelling : List ℕ → Option Spelling
name_spelling behind =
    if closes_name (word_len behind) behind
    then Some (record { shape = Name; len = 2 + word_len behind })
    else None

-- The spelling of the mark that a byte begins, beside the bytes behind it.
abbrev pub mark_spelling : ℕ → List ℕ → Option Spelling
mark_spelling first behind =
    option_map (λ symbol. record { shape = Sym symbol; len = length (mark_text symbol) })
    (mark_of first behind)

-- The spelling that begins neither a word nor a string: a number, a name or a mark.
abbrev pub other_spelling : ℕ → List ℕ → Option Spelling
other_spelling first behind =
    if is_ascii_digit first then number_spelling first behind
    else (if first == backquote then name_spelling behind
    else mark_spelling first behind)

-- The spelling that a letter or `_` begins: a literal that `N` or `X` opens, or a word.
abbrev pub letter_spelling : ℕ → List ℕ → Option Spelling
letter_spelling first behind =
    if is_letter_n first && opens_single behind
    then string_spelling National 2 (quote_end single_quote 0 (drop 1 behind))
    else (if is_letter_x first && opens_single behind then hex_string_spelling (drop 1 behind)
    else Some (record { shape = Word; len = 1 + word_len behind }))

-- The spelling that a byte begins, beside the bytes behind it, where one does.
unfoldable pub spelling_of : ℕ → List ℕ → Option Spelling
spelling_of first behind =
    if begins_word first then letter_spelling first behind
    else (if first == single_quote || first == double_quote
    then string_spelling Str 1 (quote_end first 0 behind)
    else other_spelling first behind)
