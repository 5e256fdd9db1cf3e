-- What completes a statement from any place inside a rule: a lexeme of each class, and lexemes of
-- each rule.
use Rattle.std.specs.Prelude.{List, [], ◌∷◌, map, pos, codes}
use Rattle.mc_token.specs.declared.lexeme.Lexeme.{Lexeme}
use Rattle.mc_token.specs.declared.lexeme.Lexeme.TheVariants.{Word, Int, Str, National, Hex, Sym}
use Rattle.mc_token.specs.declared.lexeme.Symbol.TheVariants.{LeftParen, RightParen, Eq}
use Rattle.mc_token.specs.declared.lexeme.Token.{Token}
use Rattle.mc_grammar.specs.Completions.{Completions}
use Rattle.mc_sql.specs.Classes.{Class, word, mark, name, called, called_otherwise}
use Rattle.mc_sql.specs.Classes.{intro, int, str, national, hex}
use Rattle.mc_sql.specs.Rules.{Rule, statement, source, item, order, or, xor, and}
use Rattle.mc_sql.specs.Rules.{not, pred, cmp, sum, prod, neg, coll, name_or_binary}
use Rattle.mc_sql.specs.Rules.{prim, string, call, side}

-- A lexeme of each class.
abbrev pub lexeme_of : Class → Lexeme
lexeme_of (word text) = Word text
lexeme_of (mark symbol) = Sym symbol
lexeme_of name = Word (codes "a")
lexeme_of called = Word (codes "f")
lexeme_of called_otherwise = Word (codes "f")
lexeme_of intro = Word (codes "_binary")
lexeme_of int = Int (pos 1)
lexeme_of str = Str []
lexeme_of national = National []
lexeme_of hex = Hex []

-- The lexemes that an operand is completed by.
abbrev one_number : List Lexeme
one_number = Int (pos 1) ∷ []

-- Lexemes of each rule. What may be left out is left out.
abbrev pub lexemes_of_rule : Rule → List Lexeme
lexemes_of_rule statement = Word (codes "select") ∷ Int (pos 1) ∷ []
lexemes_of_rule source = Word (codes "from") ∷ Word (codes "a") ∷ []
lexemes_of_rule item = one_number
lexemes_of_rule order = one_number
lexemes_of_rule or = one_number
lexemes_of_rule xor = one_number
lexemes_of_rule and = one_number
lexemes_of_rule not = one_number
lexemes_of_rule pred = one_number
lexemes_of_rule cmp = Sym Eq ∷ []
lexemes_of_rule sum = one_number
lexemes_of_rule prod = one_number
lexemes_of_rule neg = one_number
lexemes_of_rule coll = one_number
lexemes_of_rule name_or_binary = Word (codes "binary") ∷ []
lexemes_of_rule prim = one_number
lexemes_of_rule string = Str [] ∷ []
lexemes_of_rule call = Word (codes "f") ∷ Sym LeftParen ∷ Sym RightParen ∷ []
lexemes_of_rule side = Word (codes "both") ∷ []
lexemes_of_rule _ = []

-- A token that stands nowhere.
abbrev pub a_token : Lexeme → Token
a_token lexeme = record { span = record { start = 0; end = 0 }; kind = lexeme }

-- The completions of the grammar.
abbrev pub completions : Completions Class Rule Token
completions = record {
  token_of = λ k. a_token (lexeme_of k);
  tokens_of_rule = λ r. map (λ x. a_token x) (lexemes_of_rule r);
}
