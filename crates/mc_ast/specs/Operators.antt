-- Examples of operators and their grouping: tokens and their tree.
use Rattle.std.specs.Prelude.{[], ◌∷◌, true, false, Some, None, codes}
use Rattle.mc_token.specs.declared.lexeme.Lexeme.TheVariants.{Sym}
use Rattle.mc_token.specs.declared.lexeme.Symbol.TheVariants.{Comma, Eq as EqSign, LeftParen}
use Rattle.mc_token.specs.declared.lexeme.Symbol.TheVariants.{Lt as LtSign, Minus, NeBang}
use Rattle.mc_token.specs.declared.lexeme.Symbol.TheVariants.{NullEq as NullEqSign, Plus}
use Rattle.mc_token.specs.declared.lexeme.Symbol.TheVariants.{RightParen, Star}
use Rattle.mc_ast.specs.declared.expr.Form.TheVariants.{Or, And, Xor, Not, Compare, IsNull, Like}
use Rattle.mc_ast.specs.declared.expr.Form.TheVariants.{In, Between, Arith, Neg, Collate}
use Rattle.mc_ast.specs.declared.operators.ArithOp.TheVariants.{Add, Sub, Mul, Div, Mod}
use Rattle.mc_ast.specs.declared.operators.CmpOp.TheVariants.{Eq, NullEq, Ne, Lt}
use Rattle.mc_ast.specs.Written.{word, string, number, at, column, whole_number, ReadsExpr}

-- a OR b OR c
abbrev pub OrIsOneList : Type 0
OrIsOneList =
    ReadsExpr (word "a" ∷ word "or" ∷ word "b" ∷ word "or" ∷ word "c" ∷ [])
    (at 1 6 (Or (column 1 "a" ∷ column 3 "b" ∷ column 5 "c" ∷ [])))

-- a AND b AND c
abbrev pub AndIsOneList : Type 0
AndIsOneList =
    ReadsExpr (word "a" ∷ word "and" ∷ word "b" ∷ word "and" ∷ word "c" ∷ [])
    (at 1 6 (And (column 1 "a" ∷ column 3 "b" ∷ column 5 "c" ∷ [])))

-- a XOR b XOR c
abbrev pub XorGroupsLeft : Type 0
XorGroupsLeft =
    ReadsExpr (word "a" ∷ word "xor" ∷ word "b" ∷ word "xor" ∷ word "c" ∷ [])
    (at 1 6 (Xor (at 1 4 (Xor (column 1 "a") (column 3 "b"))) (column 5 "c")))

-- a OR b XOR c
abbrev pub XorBeforeOr : Type 0
XorBeforeOr =
    ReadsExpr (word "a" ∷ word "or" ∷ word "b" ∷ word "xor" ∷ word "c" ∷ [])
    (at 1 6 (Or (column 1 "a" ∷ at 3 6 (Xor (column 3 "b") (column 5 "c")) ∷ [])))

-- a AND b XOR c
abbrev pub AndBeforeXor : Type 0
AndBeforeXor =
    ReadsExpr (word "a" ∷ word "and" ∷ word "b" ∷ word "xor" ∷ word "c" ∷ [])
    (at 1 6 (Xor (at 1 4 (And (column 1 "a" ∷ column 3 "b" ∷ []))) (column 5 "c")))

-- NOT a AND b
abbrev pub NotBeforeAnd : Type 0
NotBeforeAnd =
    ReadsExpr (word "not" ∷ word "a" ∷ word "and" ∷ word "b" ∷ [])
    (at 1 5 (And (at 1 3 (Not (column 2 "a")) ∷ column 4 "b" ∷ [])))

-- NOT a = b
abbrev pub ComparisonBeforeNot : Type 0
ComparisonBeforeNot =
    ReadsExpr (word "not" ∷ word "a" ∷ Sym EqSign ∷ word "b" ∷ [])
    (at 1 5 (Not (at 2 5 (Compare Eq (column 2 "a") (column 4 "b")))))

-- a != b
abbrev pub BangIsUnequal : Type 0
BangIsUnequal =
    ReadsExpr (word "a" ∷ Sym NeBang ∷ word "b" ∷ [])
    (at 1 4 (Compare Ne (column 1 "a") (column 3 "b")))

-- a <=> b
abbrev pub NullEqual : Type 0
NullEqual =
    ReadsExpr (word "a" ∷ Sym NullEqSign ∷ word "b" ∷ [])
    (at 1 4 (Compare NullEq (column 1 "a") (column 3 "b")))

-- a < b + 1
abbrev pub SumBeforeComparison : Type 0
SumBeforeComparison =
    ReadsExpr (word "a" ∷ Sym LtSign ∷ word "b" ∷ Sym Plus ∷ number 1 ∷ [])
    (at 1 6 (Compare Lt (column 1 "a") (at 3 6 (Arith Add (column 3 "b") (whole_number 5 1)))))

-- a IS NOT NULL
abbrev pub IsNotNull : Type 0
IsNotNull =
    ReadsExpr (word "a" ∷ word "is" ∷ word "not" ∷ word "null" ∷ [])
    (at 1 5 (IsNull (column 1 "a") true))

-- a LIKE b ESCAPE '!'
abbrev pub LikeWithEscape : Type 0
LikeWithEscape =
    ReadsExpr (word "a" ∷ word "like" ∷ word "b" ∷ word "escape" ∷ string "!" ∷ [])
    (at 1 6 (Like (column 1 "a") (column 3 "b") (Some (codes "!")) false))

-- a NOT LIKE b
abbrev pub NotLike : Type 0
NotLike =
    ReadsExpr (word "a" ∷ word "not" ∷ word "like" ∷ word "b" ∷ [])
    (at 1 5 (Like (column 1 "a") (column 4 "b") None true))

-- a NOT IN (b, 1)
abbrev pub NotIn : Type 0
NotIn =
    ReadsExpr (word "a" ∷ word "not" ∷ word "in" ∷ Sym LeftParen ∷ word "b" ∷ Sym Comma ∷
    number 1 ∷ Sym RightParen ∷ [])
    (at 1 9 (In (column 1 "a") (column 5 "b" ∷ whole_number 7 1 ∷ []) true))

-- a BETWEEN b AND c AND d
abbrev pub BetweenTakesItsAnd : Type 0
BetweenTakesItsAnd =
    ReadsExpr (word "a" ∷ word "between" ∷ word "b" ∷ word "and" ∷ word "c" ∷ word "and" ∷
    word "d" ∷ [])
    (at 1 8 (And (at 1 6 (Between (column 1 "a") (column 3 "b") (column 5 "c") false) ∷ column 7
    "d" ∷ [])))

-- 1 - 2 + 3
abbrev pub SumGroupsLeft : Type 0
SumGroupsLeft =
    ReadsExpr (number 1 ∷ Sym Minus ∷ number 2 ∷ Sym Plus ∷ number 3 ∷ [])
    (at 1 6 (Arith Add (at 1 4 (Arith Sub (whole_number 1 1) (whole_number 3 2))) (whole_number 5
    3)))

-- a + b * c
abbrev pub ProductBeforeSum : Type 0
ProductBeforeSum =
    ReadsExpr (word "a" ∷ Sym Plus ∷ word "b" ∷ Sym Star ∷ word "c" ∷ [])
    (at 1 6 (Arith Add (column 1 "a") (at 3 6 (Arith Mul (column 3 "b") (column 5 "c")))))

-- (a + b) * c
abbrev pub ParenthesesMakeNoNode : Type 0
ParenthesesMakeNoNode =
    ReadsExpr (Sym LeftParen ∷ word "a" ∷ Sym Plus ∷ word "b" ∷ Sym RightParen ∷ Sym Star ∷
    word "c" ∷ [])
    (at 1 8 (Arith Mul (at 2 5 (Arith Add (column 2 "a") (column 4 "b"))) (column 7 "c")))

-- 1 MOD 2 DIV 3
abbrev pub ModIsAnOperator : Type 0
ModIsAnOperator =
    ReadsExpr (number 1 ∷ word "mod" ∷ number 2 ∷ word "div" ∷ number 3 ∷ [])
    (at 1 6 (Arith Div (at 1 4 (Arith Mod (whole_number 1 1) (whole_number 3 2))) (whole_number 5
    3)))

-- - a * b
abbrev pub MinusBeforeProduct : Type 0
MinusBeforeProduct =
    ReadsExpr (Sym Minus ∷ word "a" ∷ Sym Star ∷ word "b" ∷ [])
    (at 1 5 (Arith Mul (at 1 3 (Neg (column 2 "a"))) (column 4 "b")))

-- - - 1
abbrev pub MinusOfMinus : Type 0
MinusOfMinus =
    ReadsExpr (Sym Minus ∷ Sym Minus ∷ number 1 ∷ [])
    (at 1 4 (Neg (at 2 4 (Neg (whole_number 3 1)))))

-- - a COLLATE b
abbrev pub CollateBeforeMinus : Type 0
CollateBeforeMinus =
    ReadsExpr (Sym Minus ∷ word "a" ∷ word "collate" ∷ word "b" ∷ [])
    (at 1 5 (Neg (at 2 5 (Collate (column 2 "a") (codes "b")))))

-- a COLLATE BINARY
abbrev pub CollateBinary : Type 0
CollateBinary =
    ReadsExpr (word "a" ∷ word "collate" ∷ word "binary" ∷ [])
    (at 1 4 (Collate (column 1 "a") (codes "binary")))
