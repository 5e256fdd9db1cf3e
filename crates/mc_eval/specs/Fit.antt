-- Expressions that can be evaluated with a book of collations, and those without LIKE.
use Rattle.std.specs.Prelude.{ℕ, nat_le, nat_lt, Bool, true, false, ◌&&◌, ◌||◌, Option}
use Rattle.std.specs.Prelude.{length}
use Rattle.std.specs.List.{list_all, list_any}
use Rattle.std.specs.Option.{option_map_or}
use Rattle.mc_charset.specs.Chars.{is_spelled}
use Rattle.mc_charset.specs.declared.collation_id.CollId.{CollId}
use Rattle.mc_coerce.specs.declared.operand.Operand.{Operand}
use Rattle.mc_typing.specs.declared.typed.Node.{Node-F}
use Rattle.mc_typing.specs.declared.typed.Ty.{Ty}
use Rattle.mc_typing.specs.declared.typed.Ty.TheVariants as ty
use Rattle.mc_typing.specs.declared.typed.TypedExpr.{TypedExpr, fold-TypedExpr}
use Rattle.mc_values.specs.Values.{greatest_string}
use Rattle.mc_values.specs.declared.value.Value.{Value}
use Rattle.mc_values.specs.declared.value.Value.TheVariants as value
use Rattle.mc_eval.specs.Layers.{operands}

-- The string of a constant is a text of its set, no longer than a string may be.
abbrev pub is_kept : Value → Bool
is_kept value.Null = true
is_kept (value.Int number) = true
is_kept (value.Str set text) = is_spelled set text && nat_le (length text) greatest_string

-- The collation, if there is one, is one of so many.
abbrev pub is_in_book : ℕ → Option CollId → Bool
is_in_book count coll = option_map_or (λ id. nat_lt id.0 count) coll true

abbrev pub type_fits : ℕ → Ty → Bool
type_fits count (ty.Str operand) = nat_lt operand.collation.0 count
type_fits count type = true

abbrev pub uses_fit : ℕ → Option Operand → Bool
uses_fit count uses = option_map_or (λ operand. nat_lt operand.collation.0 count) uses true

-- The node itself, apart from its operands.
abbrev pub itself_fits : {X A : Type 0} → ℕ → Node-F X A → Bool
itself_fits count (Node-F.Const it) = is_kept it
itself_fits count (Node-F.Compare op coll xs) = is_in_book count coll
itself_fits count (Node-F.Like coll xs escape negated) = is_in_book count coll
itself_fits count (Node-F.In coll xs negated) = is_in_book count coll
itself_fits count (Node-F.Between coll xs negated) = is_in_book count coll
itself_fits count (Node-F.Call function uses xs) = uses_fit count uses
itself_fits count node = true

-- The collations of the expression are among the first so many, and its constants are texts.
unfoldable pub fits : ℕ → TypedExpr → Bool
fits count e = fold-TypedExpr Bool Bool
    (λ node. itself_fits count node && list_all (λ x. x) (operands node))
    (λ x. type_fits count x.ty && x.node) e

abbrev pub is_like : {X A : Type 0} → Node-F X A → Bool
is_like (Node-F.Like coll xs escape negated) = true
is_like node = false

-- LIKE stands in the expression.
unfoldable pub has_like : TypedExpr → Bool
has_like e = fold-TypedExpr Bool Bool
    (λ node. is_like node || list_any (λ x. x) (operands node)) (λ x. x.node) e
