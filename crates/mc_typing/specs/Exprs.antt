-- The typed expression of a tree, or its refusal: that of the first refused node, operands before
-- their operation and from left to right.
use Rattle.std.specs.Prelude.{ℕ, ◌+◌, pos, Bool, true, false, List, [], ◌∷◌, Option, Some, None}
use Rattle.std.specs.Prelude.{Result, Ok, codes}
use Rattle.mc_base.specs.Results.{result_and_then}
use Rattle.mc_base.specs.declared.refusal.Refusal.{Refusal}
use Rattle.mc_charset.specs.declared.charset.Charset.{Charset}
use Rattle.mc_charset.specs.declared.charset.Charset.TheVariants.{Binary as SetBinary}
use Rattle.mc_charset.specs.declared.collation_id.CollId.{CollId}
use Rattle.mc_ast.specs.declared.expr.Expr.{Expr, para-Expr}
use Rattle.mc_ast.specs.declared.expr.Form.{Form-F}
use Rattle.mc_catalog.specs.declared.catalog.Catalog.{Catalog}
use Rattle.mc_typing.specs.declared.callee.Callee.{Callee}
use Rattle.mc_typing.specs.declared.callee.Callee.TheVariants.{Of}
use Rattle.mc_typing.specs.declared.place.Place.{Place}
use Rattle.mc_typing.specs.declared.place.Place.TheVariants.{Row}
use Rattle.mc_typing.specs.declared.scope.Scope.{Scope}
use Rattle.mc_typing.specs.declared.typed.AggName.TheVariants.{Count}
use Rattle.mc_typing.specs.declared.typed.Func.TheVariants.{Concat, Substring}
use Rattle.mc_typing.specs.declared.typed.Node.TheVariants as node
use Rattle.mc_typing.specs.declared.typed.TypedExpr.{TypedExpr}
use Rattle.mc_typing.specs.Aggregates.{aggregate_count, aggregate_of, count_all, from_number, total}
use Rattle.mc_typing.specs.Calls.{call, function_call, weights}
use Rattle.mc_typing.specs.Columns.{column, column_of_table}
use Rattle.mc_typing.specs.Forms.{parts}
use Rattle.mc_typing.specs.Functions.{callee_of, trim_of, turns_to_text}
use Rattle.mc_typing.specs.Literals.{hex_string, int_const, introduced, national_string, null_const}
use Rattle.mc_typing.specs.Literals.{plain_string}
use Rattle.mc_typing.specs.Names.{arith_name, cmp_name}
use Rattle.mc_typing.specs.Operands.{usual}
use Rattle.mc_typing.specs.Places.{column_in, place_at, place_below}
use Rattle.mc_typing.specs.Operators.{as_text, collated, compared, converted, converted_by_name}
use Rattle.mc_typing.specs.Operators.{like}
use Rattle.mc_typing.specs.Operators.{number_expr, of_numbers, of_one_number}
use Rattle.mc_typing.specs.Scope.{connection_set}

-- What comes of typing an expression.
abbrev pub Typing : Type 0
Typing = Result TypedExpr Refusal

-- An operand that is taken for a text, if it is one of those.
abbrev pub turned : Catalog → Scope → Bool → TypedExpr → TypedExpr
turned c s true x = as_text c s x
turned c s false x = x

-- A typed operand before others.
abbrev pub before : TypedExpr → Result (List TypedExpr) Refusal → Result (List TypedExpr) Refusal
before x others = result_and_then (λ xs. Ok (x ∷ xs)) others

-- Operands from a place on, all typed, or the refusal of the first that is refused. Those at the
-- places of a function's texts are texts.
abbrev pub operands_from : Catalog → Scope → Option Callee → ℕ → List Typing
    → Result (List TypedExpr) Refusal
operands_from c s callee n [] = Ok []
operands_from c s callee n (t ∷ ts) = result_and_then (λ x.
    before (turned c s (turns_to_text callee n) x) (operands_from c s callee (n + 1) ts)) t

abbrev pub operands : Catalog → Scope → Option Callee → List Typing
    → Result (List TypedExpr) Refusal
operands c s callee ts = operands_from c s callee 0 ts

-- Operands as they are, and operands that are all texts.
abbrev pub plain : Option Callee
plain = None

abbrev pub texts : Option Callee
texts = Some (Of Concat)

-- The numbers of the usual collations, and that of the connection.
abbrev pub usual_id : Catalog → Charset → CollId
usual_id c set = record { 0 = usual c set }

-- What takes the operands of a form: it tells at which places numbers are taken for texts.
abbrev pub taker_of : {X A : Type 0} → Form-F X A → Option Callee
taker_of (Form-F.Like l r escape negated) = texts
taker_of (Form-F.Trim side removed t) = texts
taker_of (Form-F.SubstringFrom t start len) = Some (Of Substring)
taker_of (Form-F.Call name ts) = callee_of name
taker_of form = plain

-- A node with one operand.
abbrev pub of_one : (TypedExpr → Typing) → List TypedExpr → Typing
of_one next [] = Ok null_const
of_one next (x ∷ xs) = next x

-- A node of a form over its typed operands, at its place; an aggregate has the number.
abbrev pub typed_node : {X A : Type 0} → Catalog → Scope → Place → ℕ → Form-F X A
    → List TypedExpr → Typing
typed_node c s place number (Form-F.Or ts) xs = of_numbers (codes "or") (node.Or xs) xs
typed_node c s place number (Form-F.And ts) xs = of_numbers (codes "and") (node.And xs) xs
typed_node c s place number (Form-F.Xor l r) xs = of_numbers (codes "xor") (node.Xor xs) xs
typed_node c s place number (Form-F.Not t) xs =
    of_one (λ x. of_one_number (codes "not") (node.Not x) x) xs
typed_node c s place number (Form-F.Compare op l r) xs =
    compared c (cmp_name op) (λ coll. node.Compare op coll xs) xs
typed_node c s place number (Form-F.IsNull t negated) xs =
    of_one (λ x. Ok (number_expr (node.IsNull x negated))) xs
typed_node c s place number (Form-F.Like l r escape negated) xs = like c escape negated xs
typed_node c s place number (Form-F.In t ts negated) xs =
    compared c (codes "in") (λ coll. node.In coll xs negated) xs
typed_node c s place number (Form-F.Between t low high negated) xs =
    compared c (codes "between") (λ coll. node.Between coll xs negated) xs
typed_node c s place number (Form-F.Arith op l r) xs =
    of_numbers (arith_name op) (node.Arith op xs) xs
typed_node c s place number (Form-F.Neg t) xs =
    of_one (λ x. of_one_number (codes "-") (node.Neg x) x) xs
typed_node c s place number (Form-F.Collate t name) xs =
    of_one (λ x. collated c name (as_text c s x)) xs
typed_node c s place number (Form-F.Int value) xs = Ok (int_const value)
typed_node c s place number Form-F.True xs = Ok (int_const (pos 1))
typed_node c s place number Form-F.False xs = Ok (int_const (pos 0))
typed_node c s place number Form-F.Null xs = Ok null_const
typed_node c s place number (Form-F.Str text) xs = Ok (plain_string c s text)
typed_node c s place number (Form-F.National text) xs = Ok (national_string c text)
typed_node c s place number (Form-F.Hex bytes) xs = Ok (hex_string bytes)
typed_node c s place number (Form-F.IntroStr set bytes) xs = introduced c set bytes
typed_node c s place number (Form-F.IntroHex set bytes) xs = introduced c set bytes
typed_node c s place number (Form-F.Name name) xs = column_in place name (column c s name)
typed_node c s place number (Form-F.Qualified table name) xs =
    column_in place name (column_of_table c s table name)
typed_node c s place number (Form-F.Convert t set) xs =
    of_one (λ x. converted_by_name c (usual_id c) set (as_text c s x)) xs
typed_node c s place number (Form-F.CastChar t (Some set)) xs =
    of_one (λ x. converted_by_name c (usual_id c) set (as_text c s x)) xs
typed_node c s place number (Form-F.CastChar t None) xs =
    of_one (λ x. Ok (converted (connection_set c s) s.connection (as_text c s x))) xs
typed_node c s place number (Form-F.CastBinary t) xs =
    of_one (λ x. Ok (converted SetBinary (record { 0 = 0 }) (as_text c s x))) xs
typed_node c s place number Form-F.CountAll xs = count_all place number
typed_node c s place number (Form-F.CountDistinct t) xs =
    of_one (aggregate_of place number (codes "count") Count true) xs
typed_node c s place number (Form-F.Trim side removed t) xs =
    function_call c s (trim_of side) (codes "trim") xs
typed_node c s place number (Form-F.SubstringFrom t start len) xs =
    function_call c s Substring (codes "substring") xs
typed_node c s place number (Form-F.WeightString t cut) xs = of_one (weights cut) xs
typed_node c s place number (Form-F.Call name ts) xs =
    call c s place number name (callee_of name) xs

-- What comes of an expression at a place, the aggregates in it numbered from a number on.
abbrev pub Placed : Type 0
Placed = Place → ℕ → Typing

-- A form over its operands: the first of them that is refused decides, else the node.
abbrev pub typed_form : {X : Type 0} → Catalog → Scope → Form-F X (Expr × Placed) → Placed
typed_form c s form place number = result_and_then
    (typed_node c s place (number + total (λ e. aggregate_count e.0) (parts form)) form)
    (operands c s (taker_of form) (from_number (λ e. aggregate_count e.0)
    (λ n e. e.1 (place_below place form) n) number (parts form)))

-- The typed expression of a tree in a statement with such GROUP BY expressions, or its refusal.
unfoldable pub typing : Catalog → Scope → List Expr → Place → ℕ → Expr → Typing
typing c s groups place number expr = para-Expr Placed Placed (typed_form c s)
    (λ e at n. e.form.1 (place_at groups at (record { span = e.span; form = e.form.0 })) n)
    expr place number

-- Of expressions one behind the other, each numbered on.
abbrev pub typings : Catalog → Scope → List Expr → Place → ℕ → List Expr → List Typing
typings c s groups place number exprs =
    from_number aggregate_count (λ n e. typing c s groups place n e) number exprs

-- Of an expression that stands in a row.
abbrev pub in_row : Catalog → Scope → Expr → Typing
in_row c s expr = typing c s [] Row 0 expr
