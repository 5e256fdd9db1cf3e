-- Examples of literals and names: tokens and their tree.
use Rattle.std.specs.Prelude.{[], ◌∷◌, codes}
use Rattle.mc_token.specs.declared.lexeme.Lexeme.TheVariants.{National as NationalToken, Hex, Sym}
use Rattle.mc_token.specs.declared.lexeme.Symbol.TheVariants.{Dot}
use Rattle.mc_ast.specs.declared.expr.Form.TheVariants.{True, Str, National, IntroStr, IntroHex}
use Rattle.mc_ast.specs.declared.expr.Form.TheVariants.{Qualified}
use Rattle.mc_ast.specs.Written.{word, string, at, column, ReadsExpr}

-- 'a' 'b'
abbrev pub StringsSideBySide : Type 0
StringsSideBySide =
    ReadsExpr (string "a" ∷ string "b" ∷ [])
    (at 1 3 (Str (codes "ab")))

-- N'a' 'b'
abbrev pub NationalString : Type 0
NationalString =
    ReadsExpr (NationalToken (codes "a") ∷ string "b" ∷ [])
    (at 1 3 (National (codes "ab")))

-- _latin1'a' 'b'
abbrev pub StringWithItsSet : Type 0
StringWithItsSet =
    ReadsExpr (word "_latin1" ∷ string "a" ∷ string "b" ∷ [])
    (at 1 4 (IntroStr (codes "latin1") (codes "ab")))

-- _binary X'61'
abbrev pub BytesWithTheirSet : Type 0
BytesWithTheirSet =
    ReadsExpr (word "_binary" ∷ Hex (codes "a") ∷ [])
    (at 1 3 (IntroHex (codes "binary") (codes "a")))

-- _latin1
abbrev pub SuchAWordAlone : Type 0
SuchAWordAlone =
    ReadsExpr (word "_latin1" ∷ [])
    (column 1 "_latin1")

-- t.a
abbrev pub ColumnOfATable : Type 0
ColumnOfATable =
    ReadsExpr (word "t" ∷ Sym Dot ∷ word "a" ∷ [])
    (at 1 4 (Qualified (codes "t") (codes "a")))

-- TRUE
abbrev pub TrueIsTrue : Type 0
TrueIsTrue =
    ReadsExpr (word "true" ∷ [])
    (at 1 2 True)
