-- The signs between the operands of a chain: MySQL 8.0 manual, 12.6.1.
use Rattle.std.specs.Prelude.{◌≡◌, ◌⊎◌, List, [], ◌∷◌, codes}
use Rattle.mc_token.specs.declared.lexeme.Lexeme.TheVariants.{Word, Sym}
use Rattle.mc_token.specs.declared.lexeme.Symbol.TheVariants.{Star, Percent, Plus, Minus}
use Rattle.mc_token.specs.declared.lexeme.Token.{Token}
use Rattle.mc_sql.specs.Classes.{Class, word, mark}
use Rattle.mc_ast.specs.declared.operators.ArithOp.{ArithOp}
use Rattle.mc_ast.specs.declared.operators.ArithOp.TheVariants.{Add, Sub, Mul, Div, Mod}
use Rattle.mc_parse.specs.Place.{IsNext}

-- * | DIV | % | MOD
abbrev pub factor_signs : List Class
factor_signs = mark Star ∷ word (codes "div") ∷ mark Percent ∷ word (codes "mod") ∷ []

abbrev pub IsFactorSign : ArithOp → List Token → List Token → Type 0
IsFactorSign op tokens rest =
    (IsNext (Sym Star) tokens rest × (op ≡ Mul))
    ⊎ ((IsNext (Word (codes "div")) tokens rest × (op ≡ Div))
    ⊎ ((IsNext (Sym Percent) tokens rest × (op ≡ Mod))
    ⊎ (IsNext (Word (codes "mod")) tokens rest × (op ≡ Mod))))

-- + | -
abbrev pub summand_signs : List Class
summand_signs = mark Plus ∷ mark Minus ∷ []

abbrev pub IsSummandSign : ArithOp → List Token → List Token → Type 0
IsSummandSign op tokens rest =
    (IsNext (Sym Plus) tokens rest × (op ≡ Add))
    ⊎ (IsNext (Sym Minus) tokens rest × (op ≡ Sub))
