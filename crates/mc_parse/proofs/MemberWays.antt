-- The ways through the functions that read expressions in parentheses.
use Rattle.std.proofs.Common.{◌≡◌, ap, ◌∙◌, inl, inr, ℕ, false, List, [], ◌∷◌, ◌++◌, IsTrue, length}
use Rattle.mc_base.specs.declared.span.Span.{Span}
use Rattle.mc_token.specs.declared.lexeme.Lexeme.TheVariants as lexeme
use Rattle.mc_token.specs.declared.lexeme.Symbol.TheVariants.{RightParen}
use Rattle.mc_token.specs.declared.lexeme.Token.{Token}
use Rattle.mc_sql.specs.Classes.{mark}
use Rattle.mc_sql.specs.Rules as rule
use Rattle.mc_ast.specs.declared.expr.Expr.{Expr}
use Rattle.mc_ast.specs.Values.{exprs}
use Rattle.mc_parse.specs.declared.fault.Fault.{Fault}
use Rattle.mc_parse.specs.declared.fault.Fault.TheVariants.{NoReading}
use Rattle.mc_parse.specs.Calls.{IsPushed, HasOrs}
use Rattle.mc_parse.specs.Language.{behind, behind_at}
use Rattle.mc_parse.specs.Members.{IsMembers, IsNoMembers}
use Rattle.mc_parse.specs.Place.{is_missing, span_at, IsNext}
use Rattle.mc_parse.specs.Read.{IsFault}

-- The first of them, the others, and the parenthesis that closes.
pub members_read : {below : ℕ} {tokens v w u : List Token} {old first new : List Expr} {end : Span}
    → IsPushed below tokens v old first → HasOrs below v w first new → old ≡ []
    → IsNext (lexeme.Sym RightParen) w u → end ≡ span_at w → IsMembers below tokens u new end
members_read {v = v} {w = w} o p e n at_end = record {
  x = o.member;
  xs = p.members;
  behind_first = v;
  behind_all = w;
  first = o.read;
  more = p.done;
  close = n;
  listed = p.listed ∙ ap (λ (es : List Expr). es ++ exprs p.members)
      (o.listed ∙ ap (λ (es : List Expr). es ++ (o.member.expr ∷ [])) e);
  ends = at_end ∙ ap span_at n.same;
}

pub members_first_missed : {below : ℕ} {tokens : List Token} {fault : Fault}
    → IsFault (behind_at false rule.or) rule.or below tokens fault → IsNoMembers below tokens fault
members_first_missed o = inl o

pub members_more_missed : {below : ℕ} {tokens v : List Token} {old first : List Expr}
    {fault : Fault}
    → IsPushed below tokens v old first → IsFault (behind rule.more_ors) rule.more_ors below v fault
    → IsNoMembers below tokens fault
members_more_missed {v = v} o p = inr (inl (v, (record { x = o.member; first = o.read }, p)))

pub members_close_missed : {below : ℕ} {tokens v w : List Token} {old first new : List Expr}
    {left : ℕ} → IsPushed below tokens v old first → HasOrs below v w first new
    → IsTrue (is_missing (mark RightParen) w) → left ≡ length w
    → IsNoMembers below tokens (NoReading left)
members_close_missed {v = v} {w = w} o p h e =
    inr (inr (
      w,
      (
        record {
          behind_first = v;
          some = record { x = o.member; first = o.read };
          xs = p.members;
          more = p.done;
        },
        (h, ap (λ (n : ℕ). NoReading n) e),
      ),
    ))
