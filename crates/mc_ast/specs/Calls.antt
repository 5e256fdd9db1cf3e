-- Examples of calls: tokens and their tree.
use Rattle.std.specs.Prelude.{pos, [], ◌∷◌, Some, None, codes}
use Rattle.mc_token.specs.declared.lexeme.Lexeme.TheVariants.{Sym}
use Rattle.mc_token.specs.declared.lexeme.Symbol.TheVariants.{Comma, LeftParen, RightParen, Star}
use Rattle.mc_ast.specs.declared.expr.Form.TheVariants.{Str, Convert, CastChar, CastBinary}
use Rattle.mc_ast.specs.declared.expr.Form.TheVariants.{CountAll, CountDistinct, Trim}
use Rattle.mc_ast.specs.declared.expr.Form.TheVariants.{SubstringFrom, WeightString, Call}
use Rattle.mc_ast.specs.declared.operators.Cut.TheVariants.{Chars}
use Rattle.mc_ast.specs.declared.operators.TrimSide.TheVariants.{Both, Leading}
use Rattle.mc_ast.specs.Written.{word, string, number, at, column, whole_number, ReadsExpr}

-- MOD(a, b)
abbrev pub ModIsACall : Type 0
ModIsACall =
    ReadsExpr (word "mod" ∷ Sym LeftParen ∷ word "a" ∷ Sym Comma ∷ word "b" ∷ Sym RightParen ∷ [])
    (at 1 7 (Call (codes "mod") (column 3 "a" ∷ column 5 "b" ∷ [])))

-- f()
abbrev pub CallOfNothing : Type 0
CallOfNothing =
    ReadsExpr (word "f" ∷ Sym LeftParen ∷ Sym RightParen ∷ [])
    (at 1 4 (Call (codes "f") []))

-- COUNT(*)
abbrev pub CountOfAll : Type 0
CountOfAll =
    ReadsExpr (word "count" ∷ Sym LeftParen ∷ Sym Star ∷ Sym RightParen ∷ [])
    (at 1 5 CountAll)

-- COUNT(DISTINCT a)
abbrev pub CountOfDistinct : Type 0
CountOfDistinct =
    ReadsExpr (word "count" ∷ Sym LeftParen ∷ word "distinct" ∷ word "a" ∷ Sym RightParen ∷ [])
    (at 1 6 (CountDistinct (column 4 "a")))

-- COUNT(a)
abbrev pub PlainCount : Type 0
PlainCount =
    ReadsExpr (word "count" ∷ Sym LeftParen ∷ word "a" ∷ Sym RightParen ∷ [])
    (at 1 5 (Call (codes "count") (column 3 "a" ∷ [])))

-- TRIM('x' FROM a)
abbrev pub TrimFrom : Type 0
TrimFrom =
    ReadsExpr (word "trim" ∷ Sym LeftParen ∷ string "x" ∷ word "from" ∷ word "a" ∷ Sym RightParen ∷
    [])
    (at 1 7 (Trim Both (Some (at 3 4 (Str (codes "x")))) (column 5 "a")))

-- TRIM(LEADING FROM a)
abbrev pub TrimLeading : Type 0
TrimLeading =
    ReadsExpr (word "trim" ∷ Sym LeftParen ∷ word "leading" ∷ word "from" ∷ word "a" ∷
    Sym RightParen ∷ [])
    (at 1 7 (Trim Leading None (column 5 "a")))

-- TRIM(a)
abbrev pub PlainTrim : Type 0
PlainTrim =
    ReadsExpr (word "trim" ∷ Sym LeftParen ∷ word "a" ∷ Sym RightParen ∷ [])
    (at 1 5 (Call (codes "trim") (column 3 "a" ∷ [])))

-- SUBSTRING(a FROM 1 FOR 2)
abbrev pub SubstringFromFor : Type 0
SubstringFromFor =
    ReadsExpr (word "substring" ∷ Sym LeftParen ∷ word "a" ∷ word "from" ∷ number 1 ∷ word "for" ∷
    number 2 ∷ Sym RightParen ∷ [])
    (at 1 9 (SubstringFrom (column 3 "a") (whole_number 5 1) (Some (whole_number 7 2))))

-- WEIGHT_STRING(a)
abbrev pub WeightStringOfOne : Type 0
WeightStringOfOne =
    ReadsExpr (word "weight_string" ∷ Sym LeftParen ∷ word "a" ∷ Sym RightParen ∷ [])
    (at 1 5 (WeightString (column 3 "a") None))

-- WEIGHT_STRING(a AS CHAR(3))
abbrev pub WeightStringCut : Type 0
WeightStringCut =
    ReadsExpr (word "weight_string" ∷ Sym LeftParen ∷ word "a" ∷ word "as" ∷ word "char" ∷
    Sym LeftParen ∷ number 3 ∷ Sym RightParen ∷ Sym RightParen ∷ [])
    (at 1 10 (WeightString (column 3 "a") (Some (Chars (pos 3)))))

-- WEIGHT_STRING(a, b)
abbrev pub WeightStringOfTwo : Type 0
WeightStringOfTwo =
    ReadsExpr (word "weight_string" ∷ Sym LeftParen ∷ word "a" ∷ Sym Comma ∷ word "b" ∷
    Sym RightParen ∷ [])
    (at 1 7 (Call (codes "weight_string") (column 3 "a" ∷ column 5 "b" ∷ [])))

-- CONVERT(a USING binary)
abbrev pub ConvertUsing : Type 0
ConvertUsing =
    ReadsExpr (word "convert" ∷ Sym LeftParen ∷ word "a" ∷ word "using" ∷ word "binary" ∷
    Sym RightParen ∷ [])
    (at 1 7 (Convert (column 3 "a") (codes "binary")))

-- CAST(a AS CHAR CHARACTER SET ascii)
abbrev pub CastAsChar : Type 0
CastAsChar =
    ReadsExpr (word "cast" ∷ Sym LeftParen ∷ word "a" ∷ word "as" ∷ word "char" ∷
    word "character" ∷ word "set" ∷ word "ascii" ∷ Sym RightParen ∷ [])
    (at 1 10 (CastChar (column 3 "a") (Some (codes "ascii"))))

-- CAST(a AS BINARY)
abbrev pub CastAsBinary : Type 0
CastAsBinary =
    ReadsExpr (word "cast" ∷ Sym LeftParen ∷ word "a" ∷ word "as" ∷ word "binary" ∷
    Sym RightParen ∷ [])
    (at 1 7 (CastBinary (column 3 "a")))

-- cast
abbrev pub CastAlone : Type 0
CastAlone =
    ReadsExpr (word "cast" ∷ [])
    (column 1 "cast")
