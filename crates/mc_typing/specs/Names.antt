-- How operations are named in refusals.
use Rattle.std.specs.Prelude.{ℕ, List, codes}
use Rattle.mc_ast.specs.declared.operators.ArithOp.{ArithOp}
use Rattle.mc_ast.specs.declared.operators.ArithOp.TheVariants.{Add, Sub, Mul, Div, Mod}
use Rattle.mc_ast.specs.declared.operators.CmpOp.{CmpOp}
use Rattle.mc_ast.specs.declared.operators.CmpOp.TheVariants.{Eq, NullEq, Ne, Lt, Le, Gt, Ge}

-- The name of a comparison.
abbrev pub cmp_name : CmpOp → List ℕ
cmp_name Eq = codes "="
cmp_name NullEq = codes "<=>"
cmp_name Ne = codes "<>"
cmp_name Lt = codes "<"
cmp_name Le = codes "<="
cmp_name Gt = codes ">"
cmp_name Ge = codes ">="

-- The name of an operator on numbers.
abbrev pub arith_name : ArithOp → List ℕ
arith_name Add = codes "+"
arith_name Sub = codes "-"
arith_name Mul = codes "*"
arith_name Div = codes "div"
arith_name Mod = codes "%"
