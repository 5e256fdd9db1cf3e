-- Calls over typed arguments: MySQL 8.0 manual, 12.8, 12.15 and 10.8.4.
use Rattle.std.specs.Prelude.{ℕ, ℤ, pos, Bool, true, false, not, ◌&&◌, ◌||◌, List, [], ◌∷◌, Option}
use Rattle.std.specs.Prelude.{Some, None, Result, Ok, Err, codes, length, drop, take, nat_eq}
use Rattle.std.specs.Prelude.{int_le}
use Rattle.std.specs.Prelude.{if◌then◌else◌}
use Rattle.mc_base.specs.Results.{result_and_then}
use Rattle.mc_base.specs.declared.refusal.Refusal.{Refusal}
use Rattle.mc_charset.specs.Names.{name_of}
use Rattle.mc_charset.specs.declared.charset.Charset.TheVariants.{Utf8mb3, Binary as SetBinary}
use Rattle.mc_convert.specs.declared.repertoire.Repertoire.TheVariants.{Ascii, Bytes}
use Rattle.mc_coerce.specs.Levels.{coercible, numeric, system_constant}
use Rattle.mc_coerce.specs.declared.operand.Operand.{Operand}
use Rattle.mc_coerce.specs.declared.operand.Purpose.TheVariants.{Compare as ToCompare}
use Rattle.mc_coerce.specs.declared.operand.Purpose.TheVariants.{Text as ToText}
use Rattle.mc_ast.specs.declared.operators.Cut.{Cut}
use Rattle.mc_ast.specs.declared.operators.Cut.TheVariants.{Chars, Bytes as CutBytes}
use Rattle.mc_catalog.specs.declared.catalog.Catalog.{Catalog}
use Rattle.mc_values.specs.Values.{greatest_string}
use Rattle.mc_values.specs.declared.value.Value.TheVariants as value
use Rattle.mc_typing.specs.declared.callee.Callee.{Callee}
use Rattle.mc_typing.specs.declared.callee.Callee.TheVariants.{Of, Charset, Collation}
use Rattle.mc_typing.specs.declared.callee.Callee.TheVariants.{Version, Aggregate}
use Rattle.mc_typing.specs.declared.place.Place.{Place}
use Rattle.mc_typing.specs.declared.scope.Scope.{Scope}
use Rattle.mc_typing.specs.declared.typed.Func.{Func}
use Rattle.mc_typing.specs.declared.typed.Func.TheVariants.{CharLength, Length}
use Rattle.mc_typing.specs.declared.typed.Func.TheVariants.{Hex, Substring, Left, Right}
use Rattle.mc_typing.specs.declared.typed.Func.TheVariants.{Lpad, Rpad}
use Rattle.mc_typing.specs.declared.typed.Func.TheVariants.{Repeat, Strcmp, Mod}
use Rattle.mc_typing.specs.declared.typed.Node.TheVariants.{Call, Const, WeightString}
use Rattle.mc_typing.specs.declared.typed.Ty.{Ty}
use Rattle.mc_typing.specs.declared.typed.Ty.TheVariants.{Int, Str}
use Rattle.mc_typing.specs.declared.typed.TypedExpr.{TypedExpr}
use Rattle.mc_typing.specs.Aggregates.{aggregate_call}
use Rattle.mc_typing.specs.Functions.{takes}
use Rattle.mc_typing.specs.Literals.{int_const}
use Rattle.mc_typing.specs.Messages.{collation_name, no_function, wrong_argument, wrong_count}
use Rattle.mc_typing.specs.Operands.{is_number, of_collation, of_connection, of_usual}
use Rattle.mc_typing.specs.Operands.{operand_of}
use Rattle.mc_typing.specs.Operators.{number_expr, some_text, together}

-- A text stands where a number belongs.
abbrev pub misfits : Func → List TypedExpr → Bool
misfits Substring xs = some_text (drop 1 xs)
misfits Left xs = some_text (drop 1 xs)
misfits Right xs = some_text (drop 1 xs)
misfits Repeat xs = some_text (drop 1 xs)
misfits Lpad xs = some_text (take 1 (drop 1 xs))
misfits Rpad xs = some_text (take 1 (drop 1 xs))
misfits Mod xs = some_text xs
misfits function xs = false

-- What texts have together, as the type of a text that is made of them: what was made of numbers
-- alone is a literal.
abbrev pub made_of : Operand → Operand
made_of a = if nat_eq a.level numeric then (record a { level = coercible }) else a

-- A function that makes a text of its texts.
abbrev pub text_call : Catalog → Func → List ℕ → List TypedExpr → Result TypedExpr Refusal
text_call c function name xs = result_and_then (λ a.
    Ok (record { node = Call function (Some a) xs; ty = Str (made_of a) })) (together c name ToText xs)

-- STRCMP.
abbrev pub strcmp : Catalog → List ℕ → List TypedExpr → Result TypedExpr Refusal
strcmp c name xs = result_and_then (λ a. Ok (number_expr (Call Strcmp (Some a) xs)))
    (together c name ToCompare xs)

-- A call without an aggregate of its texts.
abbrev pub plain_call : Func → Ty → List TypedExpr → TypedExpr
plain_call function ty xs = record { node = Call function None xs; ty = ty }

-- The type of HEX.
abbrev pub digits_ty : Catalog → Scope → Ty
digits_ty c s = Str (of_connection c s coercible Ascii)

-- A call whose arguments have kinds that it takes.
abbrev pub fitted : Catalog → Scope → Func → List ℕ → List TypedExpr → Result TypedExpr Refusal
fitted c s Strcmp name xs = strcmp c name xs
fitted c s CharLength name xs = Ok (plain_call CharLength Int xs)
fitted c s Length name xs = Ok (plain_call Length Int xs)
fitted c s Mod name xs = Ok (plain_call Mod Int xs)
fitted c s Hex name xs = Ok (plain_call Hex (digits_ty c s) xs)
fitted c s function name xs = text_call c function name xs

-- A call of a function of values.
abbrev pub function_call : Catalog → Scope → Func → List ℕ → List TypedExpr
    → Result TypedExpr Refusal
function_call c s function name xs =
    if misfits function xs then Err (wrong_argument name) else fitted c s function name xs

-- A text of the system, of so low a level.
abbrev pub system_text : Catalog → ℕ → List ℕ → TypedExpr
system_text c level text =
    record { node = Const (value.Str Utf8mb3 text); ty = Str (of_usual c Utf8mb3 level Ascii) }

abbrev pub version_text : List ℕ
version_text = codes "8.0-profile"

-- What a function of types shows of an operand.
abbrev pub shown : Catalog → Callee → Operand → TypedExpr
shown c Charset a = system_text c coercible (name_of a.charset)
shown c Collation a = system_text c coercible (collation_name c a.collation.0)
shown c callee a = int_const (pos a.level)

-- The first of the arguments.
abbrev pub first_operand : Catalog → Scope → List TypedExpr → Operand
first_operand c s [] = operand_of c s Int
first_operand c s (x ∷ xs) = operand_of c s x.ty

-- A call with a number of arguments that the function takes; an aggregate has a number, too.
abbrev pub called : Catalog → Scope → Place → ℕ → List ℕ → Callee → List TypedExpr
    → Result TypedExpr Refusal
called c s place number name (Of function) xs = function_call c s function name xs
called c s place number name Version xs = Ok (system_text c system_constant version_text)
called c s place number name (Aggregate which) xs = aggregate_call place number name which xs
called c s place number name callee xs = Ok (shown c callee (first_operand c s xs))

-- A call of a function.
abbrev pub counted_call : Catalog → Scope → Place → ℕ → List ℕ → Callee → List TypedExpr
    → Result TypedExpr Refusal
counted_call c s place number name callee xs = if takes callee (length xs)
    then called c s place number name callee xs else Err (wrong_count name)

-- A call of what a name stands for.
abbrev pub call : Catalog → Scope → Place → ℕ → List ℕ → Option Callee → List TypedExpr
    → Result TypedExpr Refusal
call c s place number name None xs = Err (no_function name)
call c s place number name (Some callee) xs = counted_call c s place number name callee xs

-- A length of WEIGHT_STRING within its limits.
abbrev pub is_length : ℤ → Bool
is_length n = int_le (pos 1) n && int_le n (pos greatest_string)

abbrev pub is_cut : Option Cut → Bool
is_cut None = true
is_cut (Some (Chars n)) = is_length n
is_cut (Some (CutBytes n)) = is_length n

-- WEIGHT_STRING.
abbrev pub weights : Option Cut → TypedExpr → Result TypedExpr Refusal
weights cut x =
    if is_number x.ty || not (is_cut cut) then Err (wrong_argument (codes "weight_string"))
    else Ok (record {
      node = WeightString cut x;
      ty = Str (of_collation SetBinary (record { 0 = 0 }) coercible Bytes);
    })
