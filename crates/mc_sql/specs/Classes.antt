-- What a token may be in the grammar of the statements: MySQL 8.0 manual, 9.2 and 9.3.
use Rattle.std.specs.Prelude.{Bool, true, false, not, ◌&&◌, ◌||◌, ℕ, nat_eq, List, []}
use Rattle.std.specs.Prelude.{◌∷◌, codes}
use Rattle.std.specs.Prelude.{Some, None}
use Rattle.std.specs.List.{list_any}
use Rattle.std.specs.Str.{bytes_eq}
use Rattle.mc_charset.specs.Names.{set_names}
use Rattle.mc_token.specs.declared.lexeme.Lexeme.{Lexeme}
use Rattle.mc_token.specs.declared.lexeme.Lexeme.TheVariants.{Word, Name, Int, Str, National}
use Rattle.mc_token.specs.declared.lexeme.Lexeme.TheVariants.{Hex, Sym}
use Rattle.mc_token.specs.declared.lexeme.Symbol.{Symbol}
use Rattle.mc_token.specs.Keywords.{keyword_of, is_reserved as is_reserved_keyword}
use Rattle.mc_token.specs.Marks.{mark_text}

-- The word is a keyword that is a name only between backquotes.
abbrev pub is_reserved : List ℕ → Bool
is_reserved text =
    elim (keyword_of text) [ Some keyword ↦ is_reserved_keyword keyword | None ↦ false ]

-- The word is `_S`, where S names a set.
unfoldable pub is_intro : List ℕ → Bool
is_intro [] = false
is_intro (c ∷ text) = nat_eq c 95 && list_any (λ name. bytes_eq text name) set_names

-- The word may begin a call with its arguments alone: it is not reserved and not `cast`, or it is
-- `mod`, which in a primary's place is the word of a call.
unfoldable pub is_called : List ℕ → Bool
is_called text = bytes_eq text (codes "mod") ||
    (not (is_reserved text) && not (bytes_eq text (codes "cast")))

-- The classes of tokens that the grammar asks for: a word, a mark, NAME, the word of a call with
-- its arguments alone, the same without `weight_string`, INTRO, and the literals.
pub data Class : Type 0 where
  word : List ℕ → Class
  mark : Symbol → Class
  name : Class
  called : Class
  called_otherwise : Class
  intro : Class
  int : Class
  str : Class
  national : Class
  hex : Class

-- The lexeme is of the class.
abbrev pub is_lexeme_of : Class → Lexeme → Bool
is_lexeme_of (word text) (Word w) = bytes_eq w text
is_lexeme_of (mark symbol) (Sym other) = bytes_eq (mark_text other) (mark_text symbol)
is_lexeme_of name (Word w) = not (is_reserved w)
is_lexeme_of name (Name w) = true
is_lexeme_of called (Word w) = is_called w
is_lexeme_of called_otherwise (Word w) = is_called w && not (bytes_eq w (codes "weight_string"))
is_lexeme_of intro (Word w) = is_intro w
is_lexeme_of int (Int number) = true
is_lexeme_of str (Str text) = true
is_lexeme_of national (National text) = true
is_lexeme_of hex (Hex text) = true
is_lexeme_of _ _ = false
