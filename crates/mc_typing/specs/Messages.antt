-- The refusals of typing, each a number and a text: MySQL 8.0 error reference. The numbers from 9000
-- on, and the texts of 1054, 1055, 1146, 1300 and 1305, are this engine's own.
use Rattle.std.specs.Prelude.{ℕ, List, [], ◌∷◌, ◌++◌, codes, option_map, slice_get}
use Rattle.std.specs.Prelude.{unwrap_or}
use Prim.Native.String.{String}
use Rattle.mc_base.specs.declared.refusal.Refusal.{Refusal}
use Rattle.mc_charset.specs.declared.charset.Charset.{Charset}
use Rattle.mc_charset.specs.Names.{name_of}
use Rattle.mc_coerce.specs.Aggregate.{counted}
use Rattle.mc_coerce.specs.declared.operand.Operand.{Operand}
use Rattle.mc_catalog.specs.declared.catalog.Catalog.{Catalog}

-- A number, and a name between two parts of a text.
abbrev pub naming : ℕ → String → List ℕ → String → Refusal
naming number before name behind =
    record { number = number; text = codes before ++ (name ++ codes behind) }

-- No table has this name.
abbrev pub no_table : List ℕ → Refusal
no_table name = naming 1146 "Table '" name "' doesn't exist"

-- No column has this name, or its table isn't the statement's.
abbrev pub no_column : List ℕ → Refusal
no_column name = naming 1054 "Unknown column '" name "'"

-- No expression that rows are grouped by is the column of this name, or has it.
abbrev pub not_grouped : List ℕ → Refusal
not_grouped name = naming 1055 "Column '" name "' is not grouped"

-- No set has this name.
abbrev pub no_set : List ℕ → Refusal
no_set name = naming 1115 "Unknown character set: '" name "'"

-- No collation has this name.
abbrev pub no_collation : List ℕ → Refusal
no_collation name = naming 1273 "Unknown collation: '" name "'"

-- The collation of this name has another set than the text, by that set's name.
abbrev pub other_set_named : List ℕ → List ℕ → Refusal
other_set_named name set = record {
  number = 1253;
  text = codes "COLLATION '" ++ (name ++ (codes "' is not valid for CHARACTER SET '"
      ++ (set ++ codes "'")));
}

abbrev pub other_set : List ℕ → Charset → Refusal
other_set name set = other_set_named name (name_of set)

-- The bytes behind an introducer are no text of its set.
abbrev pub bad_string : Charset → Refusal
bad_string set = naming 1300 "Invalid " (name_of set) " character string"

-- No function has this name.
abbrev pub no_function : List ℕ → Refusal
no_function name = naming 1305 "FUNCTION " name " does not exist"

-- The function of this name takes another number of arguments.
abbrev pub wrong_count : List ℕ → Refusal
wrong_count name =
    naming 1582 "Incorrect parameter count in the call to native function '" name "'"

-- An argument of this operation has a kind that it doesn't take.
abbrev pub wrong_argument : List ℕ → Refusal
wrong_argument op = naming 9002 "wrong argument for '" op "'"

-- The words for the levels of coercibility, from 0 on.
abbrev pub level_words : List (List ℕ)
level_words = codes "EXPLICIT" ∷ codes "NONE" ∷ codes "IMPLICIT" ∷ codes "SYSCONST"
    ∷ codes "COERCIBLE" ∷ codes "NUMERIC" ∷ []

-- The word for a level.
abbrev pub level_word : ℕ → List ℕ
level_word level = unwrap_or (slice_get level_words level) []

-- The name of a collation by its number.
abbrev pub collation_name : Catalog → ℕ → List ℕ
collation_name c number =
    unwrap_or (option_map (λ collation. collation.name) (slice_get c.collations number)) []

-- An operand in a message: its collation, and the word for its level.
abbrev pub shown_operand : Catalog → Operand → List ℕ
shown_operand c a = codes "(" ++ (collation_name c a.collation.0 ++ (codes ","
    ++ (level_word a.level ++ codes ")")))

-- The operation at the end of such a message.
abbrev pub operation_end : List ℕ → List ℕ
operation_end op = codes " for operation '" ++ (op ++ codes "'")

-- Operands that take part have no collation together in this operation.
abbrev pub mix_of : Catalog → List ℕ → List Operand → Refusal
mix_of c op (a ∷ b ∷ []) = record {
  number = 1267;
  text = codes "Illegal mix of collations " ++ (shown_operand c a ++ (codes " and "
      ++ (shown_operand c b ++ operation_end op)));
}
mix_of c op (a ∷ b ∷ d ∷ []) = record {
  number = 1270;
  text = codes "Illegal mix of collations " ++ (shown_operand c a ++ (codes ", "
      ++ (shown_operand c b ++ (codes ", " ++ (shown_operand c d
      ++ operation_end op)))));
}
mix_of c op operands = naming 1271 "Illegal mix of collations for operation '" op "'"

-- The operands have no collation together in this operation. Those of NULLs are left out.
abbrev pub mix : Catalog → List ℕ → List Operand → Refusal
mix c op operands = mix_of c op (counted operands)
