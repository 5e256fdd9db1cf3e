-- The values and types of literals: MySQL 8.0 manual, 9.1, 10.3.6 and 10.3.8.
use Rattle.std.specs.Prelude.{ℕ, List, Option, Some, None, Result, Ok, Err, IsTrue}
use Rattle.std.specs.Prelude.{if◌then◌else◌}
use Rattle.std.specs.Option.{option_map_or}
use Rattle.mc_base.specs.declared.refusal.Refusal.{Refusal}
use Rattle.mc_charset.specs.Chars.{is_spelled}
use Rattle.mc_charset.specs.Names.{set_named}
use Rattle.mc_charset.specs.declared.charset.Charset.{Charset}
use Rattle.mc_charset.specs.declared.charset.Charset.TheVariants.{Utf8mb3, Utf8mb4, Binary}
use Rattle.mc_charset.specs.declared.collation_id.CollId.{CollId}
use Rattle.mc_convert.specs.Conversion.{converted_text, taken_for}
use Rattle.mc_coerce.specs.Levels.{coercible}
use Rattle.mc_catalog.specs.declared.catalog.Catalog.{Catalog}
use Rattle.mc_values.specs.Values.{within_limit}
use Rattle.mc_values.specs.declared.value.Value.{Value}
use Rattle.mc_values.specs.declared.value.Value.TheVariants as value
use Rattle.mc_typing.specs.declared.scope.Scope.{Scope}
use Rattle.mc_typing.specs.declared.typed.Node.TheVariants.{Const}
use Rattle.mc_typing.specs.declared.typed.Ty.TheVariants.{Null, Int, Str}
use Rattle.mc_typing.specs.declared.typed.TypedExpr.{TypedExpr}
use Rattle.mc_typing.specs.Messages.{bad_string, no_set}
use Rattle.mc_typing.specs.Operands.{of_collation, repertoire_in, usual}
use Rattle.mc_typing.specs.Scope.{connection_set}

-- A number.
abbrev pub int_const : Rattle.std.specs.Prelude.ℤ → TypedExpr
int_const number = record { node = Const (value.Int number); ty = Int }

-- NULL.
abbrev pub null_const : TypedExpr
null_const = record { node = Const value.Null; ty = Null }

-- The text that a string has: none where it would be too long, or is no text of its set.
abbrev pub kept_text : Charset → List ℕ → Option (List ℕ)
kept_text set text = if is_spelled set text then within_limit text else None

-- The value of a string: NULL where it has no text.
abbrev pub text_value : Charset → List ℕ → Value
text_value set text = option_map_or (λ kept. value.Str set kept) (kept_text set text) value.Null

-- A string of a collation: its repertoire is that of its content.
abbrev pub string_of : Charset → CollId → List ℕ → TypedExpr
string_of set id text = record {
  node = Const (text_value set text);
  ty = Str (of_collation set id coercible (repertoire_in set text));
}

-- A string of a set's usual collation.
abbrev pub usual_string : Catalog → Charset → List ℕ → TypedExpr
usual_string c set text = string_of set (record { 0 = usual c set }) text

-- A string with nothing before its quotes.
abbrev pub plain_string : Catalog → Scope → List ℕ → TypedExpr
plain_string c s text = string_of (connection_set c s) s.connection
    (converted_text Utf8mb4 (connection_set c s) text)

-- A string behind N.
abbrev pub national_string : Catalog → List ℕ → TypedExpr
national_string c text = usual_string c Utf8mb3 (converted_text Utf8mb4 Utf8mb3 text)

-- A hexadecimal literal.
abbrev pub hex_string : List ℕ → TypedExpr
hex_string bytes = string_of Binary (record { 0 = 0 }) bytes

-- Bytes behind an introducer of a set.
abbrev pub introduced_in : Catalog → Charset → Result TypedExpr Refusal → List ℕ
    → Result TypedExpr Refusal
introduced_in c set none bytes =
    option_map_or (λ text. Ok (usual_string c set text)) (taken_for set bytes) none

-- Bytes behind an introducer. What names no set is no introducer.
abbrev pub introduced : Catalog → List ℕ → List ℕ → Result TypedExpr Refusal
introduced c name bytes =
    option_map_or (λ set. introduced_in c set (Err (bad_string set)) bytes) (set_named name)
    (Err (no_set name))
