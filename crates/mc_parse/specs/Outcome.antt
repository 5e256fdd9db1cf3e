-- What comes of the tokens of a statement that ends at a byte.
use Rattle.std.specs.Prelude.{ℕ, List, Result, Ok, Err}
use Rattle.mc_token.specs.declared.lexeme.Token.{Token}
use Rattle.mc_ast.specs.declared.statement.Statement.{Statement}
use Rattle.mc_ast.specs.Parsed.{IsTreeWithin, IsStuckAt, IsTooDeepAt}
use Rattle.mc_parse.specs.declared.fault.ParseFault.{ParseFault}
use Rattle.mc_parse.specs.declared.fault.ParseFault.TheVariants.{NoReading, TooDeep, NoMemory}

-- The tokens have this tree, or this fault, or memory ran out.
abbrev pub IsParsed : List Token → ℕ → Result Statement ParseFault → Type 0
IsParsed tokens end (Ok tree) = IsTreeWithin tokens tree
IsParsed tokens end (Err (NoReading n)) = IsStuckAt tokens end n
IsParsed tokens end (Err (TooDeep n)) = IsTooDeepAt tokens n
IsParsed tokens end (Err NoMemory) = Unit {0}

-- Memory did not run out.
abbrev pub IsTold : Result Statement ParseFault → Type 0
IsTold (Ok tree) = Unit {0}
IsTold (Err (NoReading n)) = Unit {0}
IsTold (Err (TooDeep n)) = Unit {0}
IsTold (Err NoMemory) = ⊥
