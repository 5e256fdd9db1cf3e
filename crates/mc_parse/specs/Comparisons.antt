-- The signs of comparisons: MySQL 8.0 manual, 12.4.2.
use Rattle.std.specs.Prelude.{◌≡◌, ◌⊎◌, List, [], ◌∷◌, codes}
use Rattle.mc_token.specs.declared.lexeme.Lexeme.TheVariants.{Sym}
use Rattle.mc_token.specs.declared.lexeme.Symbol.TheVariants as sign
use Rattle.mc_token.specs.declared.lexeme.Token.{Token}
use Rattle.mc_sql.specs.Classes.{Class, word, mark}
use Rattle.mc_ast.specs.declared.operators.CmpOp.{CmpOp}
use Rattle.mc_ast.specs.declared.operators.CmpOp.TheVariants as cmp
use Rattle.mc_parse.specs.Place.{IsNext}

-- = | <=> | <> | != | < | <= | > | >=
abbrev pub comparison_signs : List Class
comparison_signs =
    mark sign.Eq ∷ mark sign.NullEq ∷ mark sign.Ne ∷ mark sign.NeBang ∷ mark sign.Lt ∷
    mark sign.Le ∷ mark sign.Gt ∷ mark sign.Ge ∷ []

abbrev pub IsComparison : CmpOp → List Token → List Token → Type 0
IsComparison op tokens rest =
    (IsNext (Sym sign.Eq) tokens rest × (op ≡ cmp.Eq))
    ⊎ ((IsNext (Sym sign.NullEq) tokens rest × (op ≡ cmp.NullEq))
    ⊎ ((IsNext (Sym sign.Ne) tokens rest × (op ≡ cmp.Ne))
    ⊎ ((IsNext (Sym sign.NeBang) tokens rest × (op ≡ cmp.Ne))
    ⊎ ((IsNext (Sym sign.Lt) tokens rest × (op ≡ cmp.Lt))
    ⊎ ((IsNext (Sym sign.Le) tokens rest × (op ≡ cmp.Le))
    ⊎ ((IsNext (Sym sign.Gt) tokens rest × (op ≡ cmp.Gt))
    ⊎ (IsNext (Sym sign.Ge) tokens rest × (op ≡ cmp.Ge))))))))

-- The tokens by which something other than LIKE, IN or BETWEEN is said of a sum, or NOT before it.
abbrev pub said_signs : List Class
said_signs =
    mark sign.Eq ∷ mark sign.NullEq ∷ mark sign.Ne ∷ mark sign.NeBang ∷ mark sign.Lt ∷
    mark sign.Le ∷ mark sign.Gt ∷ mark sign.Ge ∷ word (codes "is") ∷ word (codes "not") ∷ []
