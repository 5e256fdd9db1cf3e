-- The built-in collations: MySQL 8.0 manual, 10.8.5 and 10.10.1.
use Rattle.std.specs.Prelude.{ℕ, List, [], ◌∷◌, None, map}
use Rattle.std.specs.List.{zip}
use Rattle.mc_charset.specs.Names.{built_in_names}
use Rattle.mc_charset.specs.declared.charset.Charset.{Charset}
use Rattle.mc_charset.specs.declared.charset.Charset.TheVariants.{Latin1, Ascii, Utf8mb3, Utf8mb4}
use Rattle.mc_charset.specs.declared.charset.Charset.TheVariants.{Ucs2, Utf16, Utf32, Binary}
use Rattle.mc_charset.specs.declared.collation_id.CollId.{CollId}
use Rattle.mc_catalog.specs.declared.catalog.CollDecl.{CollDecl}
use Rattle.mc_catalog.specs.declared.catalog.Catalog.{Catalog}
use Rattle.mc_catalog.specs.declared.catalog.Kind.TheVariants.{Bin}

-- The sets of the built-in collations, in the order of their numbers.
abbrev pub built_in_sets : List Charset
built_in_sets = Binary ∷ Latin1 ∷ Ascii ∷ Utf8mb3 ∷ Utf8mb4 ∷ Ucs2 ∷ Utf16 ∷ Utf32 ∷ Utf8mb4 ∷ []

-- The binary collation of a name and a set, of no file.
abbrev pub built_in_collation : List ℕ → Charset → CollDecl
built_in_collation name set =
    record { name = name; charset = set; kind = Bin; file = []; rules = None }

-- The built-in collations, in the order of their numbers.
abbrev pub built_in_collations : List CollDecl
built_in_collations =
    map (λ declared. built_in_collation declared.0 declared.1) (zip built_in_names built_in_sets)

-- The number of utf8mb4_bin.
abbrev pub utf8mb4_bin : CollId
utf8mb4_bin = record { 0 = 4 }

-- The catalog of the built-in collations alone, whose connection collation is utf8mb4_bin.
abbrev pub plain : Catalog
plain = record { collations = built_in_collations; tables = []; connection = utf8mb4_bin }
