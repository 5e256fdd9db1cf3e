-- Collations looked up by their names: MySQL 8.0 manual, 10.2.
use Rattle.std.specs.Prelude.{◌≡◌, ◌≢◌, ℕ, List, Option, Some, codes, position, slice_get}
use Rattle.std.specs.Prelude.{option_map, unwrap_or, MatchOption}
use Rattle.std.specs.Str.{bytes_eq}
use Rattle.mc_charset.specs.Names.{built_in_names, bin_name}
use Rattle.mc_charset.specs.declared.charset.Charset.{Charset}
use Rattle.mc_charset.specs.declared.charset.Charset.TheVariants.{Latin1, Ascii, Utf8mb3, Utf8mb4}
use Rattle.mc_charset.specs.declared.charset.Charset.TheVariants.{Ucs2, Utf16, Utf32, Binary}
use Rattle.mc_catalog.specs.declared.catalog.CollDecl.{CollDecl}

-- The number of the first collation of a name.
abbrev pub number_of : List CollDecl → List ℕ → Option ℕ
number_of collations name = position (λ collation. bytes_eq collation.name name) collations

-- The name of a set's usual collation.
abbrev pub usual_name : Charset → List ℕ
usual_name Latin1 = codes "latin1_swedish_ci"
usual_name Ascii = codes "ascii_general_ci"
usual_name Utf8mb3 = codes "utf8mb3_general_ci"
usual_name Utf8mb4 = codes "utf8mb4_0900_ai_ci"
usual_name Ucs2 = codes "ucs2_general_ci"
usual_name Utf16 = codes "utf16_general_ci"
usual_name Utf32 = codes "utf32_general_ci"
usual_name Binary = codes "binary"

-- A number is that of a set's binary collation.
abbrev pub IsBinOf : Charset → ℕ → Type 0
IsBinOf set number = slice_get built_in_names number ≡ Some (bin_name set)

-- The set of the collation at a place.
abbrev pub set_at : List CollDecl → ℕ → Option Charset
set_at collations place = option_map (λ collation. collation.charset) (slice_get collations place)

-- The set of the collation of a number; behind the last one binary.
abbrev pub collation_set : List CollDecl → ℕ → Charset
collation_set collations number = unwrap_or (set_at collations number) Binary

-- A number is that of the usual collation of a set: of the one with the usual name, where it has
-- that set, else of the binary one.
abbrev pub IsUsual : List CollDecl → Charset → ℕ → Type 0
IsUsual collations set number =
    MatchOption (number_of collations (usual_name set)) (IsBinOf set number)
    (λ place. (set_at collations place ≡ Some set → number ≡ place)
    × (set_at collations place ≢ Some set → IsBinOf set number))
