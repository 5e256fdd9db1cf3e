-- What a token says, by the bytes that spell it: MySQL 8.0 manual, 9.1.1 (table 9.1), 9.1.2, 9.1.4,
-- 9.2 and 10.3.7.
use Rattle.std.specs.Prelude.{ℕ, ◌-◌, ◌||◌, ◌&&◌, ◌==◌, List, [], ◌∷◌}
use Rattle.std.specs.Prelude.{◌++◌, map, drop, length}
use Rattle.std.specs.Prelude.{slice_index, slice_range, if◌then◌else◌}
use Rattle.std.specs.Char.{to_ascii_lowercase}
use Rattle.mc_token.specs.Bytes.{nul, backspace, tab, line_feed, carriage_return, substitute}
use Rattle.mc_token.specs.Bytes.{percent, single_quote, backslash, underscore, digit_zero, small_b}
use Rattle.mc_token.specs.Bytes.{small_n, small_r, small_t, capital_z}
use Rattle.mc_token.specs.Hexadecimal.{bytes_of_digits}
use Rattle.mc_token.specs.declared.lexeme.Lexeme.{Lexeme}
use Rattle.mc_token.specs.declared.lexeme.Lexeme.TheVariants as lexeme
use Rattle.mc_token.specs.declared.spelling.Shape.{Shape}
use Rattle.mc_token.specs.declared.spelling.Shape.TheVariants.{Word, Name, Int, Str, National}
use Rattle.mc_token.specs.declared.spelling.Shape.TheVariants.{HexString, HexNumber, Sym}

-- What a backslash and the byte behind it stand for. Before `%` and `_` the backslash stays.
abbrev pub escaped : ℕ → List ℕ
escaped byte =
    if byte == digit_zero then nul ∷ []
    else (if byte == small_b then backspace ∷ []
    else (if byte == small_n then line_feed ∷ []
    else (if byte == small_r then carriage_return ∷ []
    else (if byte == small_t then tab ∷ []
    else (if byte == capital_z then substitute ∷ []
    else (if byte == percent || byte == underscore then backslash ∷ byte ∷ []
    else byte ∷ []))))))

-- What a backslash or a quote inside a string stands for, with the byte behind it.
unfoldable pub pair : ℕ → ℕ → List ℕ
pair byte next = if byte == backslash then escaped next else byte ∷ []

-- The text of a string, by the bytes between its quotes: an escape and a doubled quote are pairs of
-- bytes, and any other byte stands for itself.
unfoldable pub content : ℕ → List ℕ → List ℕ
content quote [] = []
content quote (byte ∷ []) = byte ∷ []
content quote (byte ∷ next ∷ behind) =
    if byte == backslash || (byte == quote && next == quote)
    then pair byte next ++ content quote behind
    else byte ∷ content quote (next ∷ behind)

-- The bytes between so many first ones and the last.
abbrev pub inside : ℕ → List ℕ → List ℕ
inside first bytes = slice_range bytes first (length bytes - 1)

-- The lexeme that these bytes spell.
unfoldable pub lexeme_of : Shape → List ℕ → Lexeme
lexeme_of Word bytes = lexeme.Word (map to_ascii_lowercase bytes)
lexeme_of Name bytes = lexeme.Name (map to_ascii_lowercase (inside 1 bytes))
lexeme_of (Int number) bytes = lexeme.Int number
lexeme_of Str bytes = lexeme.Str (content (slice_index bytes 0) (inside 1 bytes))
lexeme_of National bytes = lexeme.National (content single_quote (inside 2 bytes))
lexeme_of HexString bytes = lexeme.Hex (bytes_of_digits (inside 2 bytes))
lexeme_of HexNumber bytes = lexeme.Hex (bytes_of_digits (drop 2 bytes))
lexeme_of (Sym symbol) bytes = lexeme.Sym symbol
