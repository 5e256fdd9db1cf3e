-- How deep a token stands in a statement, and how deep it may: MySQL 8.0 manual, 12.4.1.
use Rattle.std.specs.Prelude.{ℕ, suc, ◌+◌, ◌-◌, Bool, true, false, List, [], ◌∷◌}
use Rattle.std.specs.Prelude.{◌++◌}
use Rattle.mc_grammar.specs.Grammar.{Symbol, one}
use Rattle.mc_grammar.specs.Reading.{Forest, bare, leaf, node, tokens_of}
use Rattle.mc_grammar.specs.Nest.{level_at}
use Rattle.mc_token.specs.declared.lexeme.Lexeme.{Lexeme}
use Rattle.mc_token.specs.declared.lexeme.Lexeme.TheVariants.{Sym}
use Rattle.mc_token.specs.declared.lexeme.Symbol.TheVariants.{LeftParen, RightParen}
use Rattle.mc_token.specs.declared.lexeme.Token.{Token}
use Rattle.mc_sql.specs.Classes.{Class, mark}
use Rattle.mc_sql.specs.Rules.{Rule, Alternative, negated, minus}
use Rattle.mc_sql.specs.Statements.{symbols}

-- The deepest level that a token may stand at.
abbrev pub nest_limit : ℕ
nest_limit = 64

-- A parenthesis that opens stands deeper, and all behind it up to the one that closes.
abbrev pub in_parentheses : Bool → List (Symbol Class Rule) → List Bool
in_parentheses deeper [] = []
in_parentheses deeper (one (mark LeftParen) ∷ ss) = true ∷ in_parentheses true ss
in_parentheses deeper (one (mark RightParen) ∷ ss) = false ∷ in_parentheses false ss
in_parentheses deeper (_ ∷ ss) = deeper ∷ in_parentheses deeper ss

-- Which symbols of an alternative stand one level deeper than it: those in parentheses, and NOT and
-- unary minus with their operands.
abbrev pub deeper : Alternative → List Bool
deeper negated = true ∷ true ∷ []
deeper minus = true ∷ true ∷ []
deeper a = in_parentheses false (symbols a)

-- How many parentheses are open behind a lexeme, where so many are before it.
abbrev pub open_behind : ℕ → Lexeme → ℕ
open_behind before (Sym LeftParen) = suc before
open_behind before (Sym RightParen) = before - 1
open_behind before _ = before

-- How many parentheses are open at each token, that token included.
abbrev pub open_parentheses : ℕ → List Token → List ℕ
open_parentheses before [] = []
open_parentheses before (token ∷ tokens) =
    open_behind before token.kind ∷ open_parentheses (open_behind before token.kind) tokens

-- NOT or unary minus, with its operand.
abbrev pub is_prefixed : Alternative → Bool
is_prefixed negated = true
is_prefixed minus = true
is_prefixed _ = false

-- How many NOT and unary minus there are at each token whose operands have not ended before it.
abbrev pub prefixes : ℕ → Forest Alternative Token → List ℕ
prefixes around bare = []
prefixes around (leaf token others) = around ∷ prefixes around others
prefixes around (node a inner others) =
    prefixes (level_at (is_prefixed a) around) inner ++ prefixes around others

-- The sums of two lists, place by place.
abbrev pub sums : List ℕ → List ℕ → List ℕ
sums (m ∷ ms) (n ∷ ns) = (m + n) ∷ sums ms ns
sums _ _ = []

-- The nest at each token of a reading: the parentheses open there, that token included, and the NOT
-- and unary minus whose operands have not ended.
abbrev pub nests : Forest Alternative Token → List ℕ
nests reading = sums (open_parentheses 0 (tokens_of reading)) (prefixes 0 reading)
