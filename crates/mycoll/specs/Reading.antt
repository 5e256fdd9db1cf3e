-- How a statement reads: as a tree, or with the refusal of its syntax. First its tokens are
-- refused, then what they read.
use Rattle.std.specs.Prelude.{◌≡◌, ℕ, List, Option, Some, None, Result, Ok, Err}
use Rattle.mc_ast.specs.declared.statement.Statement.{Statement}
use Rattle.mc_base.specs.declared.refusal.Refusal.{Refusal}
use Rattle.mc_base.specs.declared.span.Span.{Span}
use Rattle.mc_parse.specs.Outcome.{IsParsed}
use Rattle.mc_parse.specs.declared.fault.ParseFault.{ParseFault}
use Rattle.mc_parse.specs.declared.fault.ParseFault.TheVariants as parsing
use Rattle.mc_token.specs.Tokens.{tokens_of}
use Rattle.mc_token.specs.declared.lexeme.LexFault.{LexFault}
use Rattle.mc_token.specs.declared.lexeme.LexFault.TheVariants as lexing
use Rattle.mc_token.specs.declared.lexeme.Token.{Token}
use Rattle.mycoll.specs.Messages.{no_reading, too_deep, too_many_tokens}
use Rattle.mycoll.specs.declared.unanswered.Unanswered.{Unanswered}
use Rattle.mycoll.specs.declared.unanswered.Unanswered.TheVariants.{Refused, NoMemory}

-- The refusal of a statement whose tokens have this fault. Want of memory is none.
abbrev pub token_refusal : LexFault → Option Refusal
token_refusal (lexing.NoToken place) = Some (no_reading place)
token_refusal lexing.TooManyTokens = Some too_many_tokens
token_refusal lexing.NoMemory = None

-- The refusal of a statement whose reading has this fault. Want of memory is none.
abbrev pub parse_refusal : ParseFault → Option Refusal
parse_refusal (parsing.NoReading place) = Some (no_reading place)
parse_refusal (parsing.TooDeep place) = Some (too_deep place)
parse_refusal parsing.NoMemory = None

-- The tokens of a statement that ends at this byte read so.
abbrev pub TokensRead : ℕ → Result (List Token) LexFault → Result Statement Refusal → Type 0
TokensRead end (Ok tokens) (Ok tree) = IsParsed tokens end (Ok tree)
TokensRead end (Ok tokens) (Err refusal) =
    (fault : ParseFault) × IsParsed tokens end (Err fault) × (parse_refusal fault ≡ Some refusal)
TokensRead end (Err fault) (Ok tree) = ⊥
TokensRead end (Err fault) (Err refusal) = token_refusal fault ≡ Some refusal

-- The statement of the script reads so.
abbrev pub Reads : List ℕ → Span → Result Statement Refusal → Type 0
Reads script statement read = TokensRead statement.end (tokens_of script statement) read

-- The statement was read so. Want of memory takes the place of any reading.
abbrev pub HasRead : List ℕ → Span → Result Statement Unanswered → Type 0
HasRead script statement (Ok tree) = Reads script statement (Ok tree)
HasRead script statement (Err (Refused refusal)) = Reads script statement (Err refusal)
HasRead script statement (Err NoMemory) = Unit {0}
