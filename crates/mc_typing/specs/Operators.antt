-- Operators over typed operands: MySQL 8.0 manual, 12.4, 12.6.1, 12.8.1 and 10.8.1.
use Rattle.std.specs.Prelude.{ℕ, Bool, ◌||◌, List, [], ◌∷◌, Option, Some}
use Rattle.std.specs.Prelude.{None, Result, Ok, Err, codes, if◌then◌else◌}
use Rattle.std.specs.List.{list_any}
use Rattle.std.specs.Option.{option_map_or}
use Rattle.mc_base.specs.Results.{result_and_then}
use Rattle.mc_base.specs.declared.refusal.Refusal.{Refusal}
use Rattle.mc_charset.specs.Chars.{chars}
use Rattle.mc_charset.specs.Names.{same_set, set_named}
use Rattle.mc_charset.specs.declared.charset.Charset.{Charset}
use Rattle.mc_charset.specs.declared.charset.Charset.TheVariants.{Utf8mb4}
use Rattle.mc_charset.specs.declared.collation_id.CollId.{CollId}
use Rattle.mc_convert.specs.Classes.{cap_of}
use Rattle.mc_convert.specs.Conversion.{is_binary}
use Rattle.mc_convert.specs.declared.repertoire.Repertoire.{Repertoire}
use Rattle.mc_convert.specs.declared.repertoire.Repertoire.TheVariants.{Ascii}
use Rattle.mc_coerce.specs.Aggregate.{aggregate}
use Rattle.mc_coerce.specs.Levels.{explicit, implicit}
use Rattle.mc_coerce.specs.declared.operand.Agg.{Agg}
use Rattle.mc_coerce.specs.declared.operand.Agg.TheVariants.{Uses, Mix}
use Rattle.mc_coerce.specs.declared.operand.Operand.{Operand}
use Rattle.mc_coerce.specs.declared.operand.Purpose.{Purpose}
use Rattle.mc_coerce.specs.declared.operand.Purpose.TheVariants.{Compare as ToCompare}
use Rattle.mc_catalog.specs.LookUp.{collation_set, number_of}
use Rattle.mc_catalog.specs.declared.catalog.Catalog.{Catalog}
use Rattle.mc_typing.specs.declared.scope.Scope.{Scope}
use Rattle.mc_typing.specs.declared.typed.Node.{Node}
use Rattle.mc_typing.specs.declared.typed.Node.TheVariants.{NumberText, Convert, Collate, Like}
use Rattle.mc_typing.specs.declared.typed.Ty.TheVariants.{Int, Str}
use Rattle.mc_typing.specs.declared.typed.TypedExpr.{TypedExpr}
use Rattle.mc_typing.specs.Messages.{mix, no_collation, no_set, other_set, wrong_argument}
use Rattle.mc_typing.specs.Operands.{is_null, is_number, is_text, lesser, of_collation, of_number}
use Rattle.mc_typing.specs.Operands.{text_operand, text_operands}
use Rattle.mc_typing.specs.Scope.{connection_set}

-- An expression that is a number.
abbrev pub number_expr : Node → TypedExpr
number_expr node = record { node = node; ty = Int }

-- One of the operands is a text, or a number.
abbrev pub some_text : List TypedExpr → Bool
some_text xs = list_any (λ x. is_text x.ty) xs

abbrev pub some_number : List TypedExpr → Bool
some_number xs = list_any (λ x. is_number x.ty) xs

-- The operands are numbers, NULL among them; else the operation is refused.
abbrev pub need_numbers : List ℕ → List TypedExpr → Result Unit Refusal
need_numbers op xs = if some_text xs then Err (wrong_argument op) else Ok tt

abbrev pub need_number : List ℕ → TypedExpr → Result Unit Refusal
need_number op x = if is_text x.ty then Err (wrong_argument op) else Ok tt

-- An operation on numbers.
abbrev pub of_numbers : List ℕ → Node → List TypedExpr → Result TypedExpr Refusal
of_numbers op node xs = result_and_then (λ _. Ok (number_expr node)) (need_numbers op xs)

-- An operation on one number.
abbrev pub of_one_number : List ℕ → Node → TypedExpr → Result TypedExpr Refusal
of_one_number op node x = result_and_then (λ _. Ok (number_expr node)) (need_number op x)

-- What operands have together, or the refusal of their mix.
abbrev pub used : Refusal → Agg → Result Operand Refusal
used refusal (Uses together) = Ok together
used refusal Mix = Err refusal

-- What the texts among the operands of an operation have together.
abbrev pub together : Catalog → List ℕ → Purpose → List TypedExpr → Result Operand Refusal
together c op purpose xs =
    used (mix c op (text_operands xs)) (aggregate (text_operands xs) purpose)

-- The collation that operands are compared by.
abbrev pub compared_by : Catalog → List ℕ → List TypedExpr → Result CollId Refusal
compared_by c op xs = result_and_then (λ a. Ok a.collation) (together c op ToCompare xs)

-- How operands are compared: all of them texts, by a collation, or all of them numbers.
abbrev pub comparison : Catalog → List ℕ → List TypedExpr → Result (Option CollId) Refusal
comparison c op xs =
    if some_text xs then (if some_number xs then Err (wrong_argument op)
    else result_and_then (λ coll. Ok (Some coll)) (compared_by c op xs)) else Ok None

-- A comparison of operands.
abbrev pub compared : Catalog → List ℕ → (Option CollId → Node) → List TypedExpr
    → Result TypedExpr Refusal
compared c op node xs =
    result_and_then (λ coll. Ok (number_expr (node coll))) (comparison c op xs)

-- The backslash, which is the escape where none is given.
abbrev pub backslash : ℕ
backslash = 0x5C

-- The escape of these characters.
abbrev pub escape_in : List ℕ → Result (Option ℕ) Refusal
escape_in [] = Ok None
escape_in (code ∷ []) = Ok (Some code)
escape_in (code ∷ other ∷ codes') = Err (wrong_argument (codes "escape"))

-- The escape of LIKE, the one character of a text of the script.
abbrev pub escape_of : Option (List ℕ) → Result (Option ℕ) Refusal
escape_of None = Ok (Some backslash)
escape_of (Some text) = escape_in (chars Utf8mb4 text)

-- LIKE.
abbrev pub like : Catalog → Option (List ℕ) → Bool → List TypedExpr → Result TypedExpr Refusal
like c escape negated xs = result_and_then (λ e. result_and_then (λ coll.
    Ok (number_expr (Like (Some coll) xs e negated))) (compared_by c (codes "like") xs))
    (escape_of escape)

-- An operand that is a text: of a number, its digits.
abbrev pub as_text : Catalog → Scope → TypedExpr → TypedExpr
as_text c s x = if is_number x.ty then
    (record { node = NumberText (connection_set c s) x; ty = Str (of_number c s) }) else x

-- The repertoire of a text that was converted to the set.
abbrev pub class_after : Charset → Operand → Repertoire
class_after set a =
    if is_binary a.charset || is_binary set then cap_of set else lesser a.repertoire (cap_of set)

-- A conversion to a set.
abbrev pub converted : Charset → CollId → TypedExpr → TypedExpr
converted set id x = record {
  node = Convert set x;
  ty = Str (of_collation set id implicit (class_after set (text_operand x.ty)));
}

-- CONVERT and CAST to the set of a name.
abbrev pub converted_by_name : Catalog → (Charset → CollId) → List ℕ → TypedExpr
    → Result TypedExpr Refusal
converted_by_name c id name x =
    option_map_or (λ set. Ok (converted set (id set) x)) (set_named name) (Err (no_set name))

-- COLLATE of the number of a collation.
abbrev pub collated_as : Charset → CollId → Repertoire → TypedExpr → TypedExpr
collated_as set id class x =
    record { node = Collate x; ty = Str (of_collation set id explicit class) }

abbrev pub collated_if : Catalog → List ℕ → CollId → Operand → TypedExpr
    → Result TypedExpr Refusal
collated_if c name id a x =
    if same_set (collation_set c.collations id.0) a.charset
    then Ok (collated_as a.charset id a.repertoire x) else Err (other_set name a.charset)

abbrev pub collated_by : Catalog → List ℕ → CollId → TypedExpr → Result TypedExpr Refusal
collated_by c name id x = if is_null x.ty
    then Ok (collated_as (collation_set c.collations id.0) id Ascii x)
    else collated_if c name id (text_operand x.ty) x

-- COLLATE.
abbrev pub collated : Catalog → List ℕ → TypedExpr → Result TypedExpr Refusal
collated c name x =
    option_map_or (λ number. collated_by c name (record { 0 = number }) x)
    (number_of c.collations name) (Err (no_collation name))
