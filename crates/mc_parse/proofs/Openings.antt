-- What begins a call, told by the parenthesis behind its word.
use Rattle.std.proofs.Common.{◌≡◌, refl, ap, ◌∙◌, Bool, true, false, not, ◌&&◌, List, [], ◌∷◌}
use Rattle.mc_token.specs.declared.lexeme.Symbol.TheVariants.{LeftParen}
use Rattle.mc_token.specs.declared.lexeme.Token.{Token}
use Rattle.std.specs.Prelude.{drop}
use Rattle.mc_sql.specs.Classes.{mark}
use Rattle.mc_parse.specs.Place.{is_missing}
use Rattle.mc_parse.specs.Primary.{is_caller, sees_caller, begins_call}

and_true : (b c : Bool) → c ≡ true → b ≡ (b && c)
and_true true true e = refl
and_true true false e = cc
and_true false c e = refl

and_false : (b c : Bool) → c ≡ false → false ≡ (b && c)
and_false true true e = cc
and_false true false e = refl
and_false false c e = refl

-- It is open: the word decides.
pub open_behind : (tokens : List Token)
    → not (is_missing (mark LeftParen) (drop 1 tokens)) ≡ true
    → sees_caller tokens ≡ begins_call tokens
open_behind [] e = refl
open_behind (t ∷ ts) e = and_true (is_caller t.kind) (not (is_missing (mark LeftParen) ts)) e

-- It is not: no call begins.
pub shut_behind : (tokens : List Token)
    → not (is_missing (mark LeftParen) (drop 1 tokens)) ≡ false → false ≡ begins_call tokens
shut_behind [] e = refl
shut_behind (t ∷ ts) e = and_false (is_caller t.kind) (not (is_missing (mark LeftParen) ts)) e
