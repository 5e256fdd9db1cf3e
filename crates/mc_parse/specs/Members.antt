-- Expressions in parentheses, with commas between them, behind the parenthesis that opens.
use Rattle.std.specs.Prelude.{◌≡◌, ◌⊎◌, ℕ, false, List, ◌∷◌, IsTrue, length}
use Rattle.mc_base.specs.declared.span.Span.{Span}
use Rattle.mc_token.specs.declared.lexeme.Lexeme.TheVariants.{Sym}
use Rattle.mc_token.specs.declared.lexeme.Symbol.TheVariants.{RightParen}
use Rattle.mc_token.specs.declared.lexeme.Token.{Token}
use Rattle.mc_grammar.specs.Places.{Done}
use Rattle.mc_sql.specs.Classes.{mark}
use Rattle.mc_sql.specs.Rules.{or, more_ors}
use Rattle.mc_ast.specs.declared.expr.Expr.{Expr}
use Rattle.mc_ast.specs.Values.{Operand, exprs, operand, operands}
use Rattle.mc_parse.specs.declared.fault.Fault.{Fault}
use Rattle.mc_parse.specs.declared.fault.Fault.TheVariants.{NoReading}
use Rattle.mc_parse.specs.Language.{language, at, behind, behind_at}
use Rattle.mc_parse.specs.Place.{is_missing, IsNext}
use Rattle.mc_parse.specs.Read.{IsRead, IsFault}

-- They are read, all of them in this list, and the parenthesis that closes stands at `end`.
pub record IsMembers (below : ℕ) (tokens rest : List Token) (list : List Expr)
    (end : Span) : Type 0 where
  pub x : Operand
  pub xs : List Operand
  pub behind_first : List Token
  pub behind_all : List Token
  pub first : IsRead (behind_at false or) 1 or below tokens behind_first (operand x) x.extent
  pub more : Done language (behind more_ors) 1 (at below more_ors) behind_first behind_all
      (operands xs)
  pub close : IsNext (Sym RightParen) behind_all rest
  pub listed : list ≡ exprs (x ∷ xs)
  pub ends : end ≡ close.span

-- Some of them are read, and no more.
pub record HasSome (below : ℕ) (tokens rest : List Token) : Type 0 where
  pub x : Operand
  pub first : IsRead (behind_at false or) 1 or below tokens rest (operand x) x.extent

pub record HasAll (below : ℕ) (tokens rest : List Token) : Type 0 where
  pub behind_first : List Token
  pub some : HasSome below tokens behind_first
  pub xs : List Operand
  pub more : Done language (behind more_ors) 1 (at below more_ors) behind_first rest (operands xs)

-- Why they are not read: the first of them, one more of them, or the parenthesis that closes.
abbrev pub IsNoMembers : ℕ → List Token → Fault → Type 0
IsNoMembers below tokens fault =
    IsFault (behind_at false or) or below tokens fault
    ⊎ (((rest : List Token) × (HasSome below tokens rest
    × IsFault (behind more_ors) more_ors below rest fault))
    ⊎ ((rest : List Token) × (HasAll below tokens rest
    × (IsTrue (is_missing (mark RightParen) rest) × (fault ≡ NoReading (length rest))))))
