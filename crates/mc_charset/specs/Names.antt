-- The names of the sets and of their binary collations: MySQL 8.0 manual, 10.2 and 10.8.5.
use Rattle.std.specs.Prelude.{◌≡◌, ◌⊎◌, ℕ, Bool, true, false, List, [], ◌∷◌}
use Rattle.std.specs.Prelude.{◌++◌, Option, codes}
use Rattle.std.specs.Prelude.{map, option_map}
use Rattle.std.specs.Char.{to_ascii_lowercase}
use Rattle.std.specs.List.{find}
use Rattle.std.specs.Str.{bytes_eq}
use Rattle.mc_charset.specs.declared.charset.Charset.{Charset}
use Rattle.mc_charset.specs.declared.charset.Charset.TheVariants.{Latin1, Ascii, Utf8mb3, Utf8mb4}
use Rattle.mc_charset.specs.declared.charset.Charset.TheVariants.{Ucs2, Utf16, Utf32, Binary}

-- the name of a set
abbrev pub name_of : Charset → List ℕ
name_of Latin1 = codes "latin1"
name_of Ascii = codes "ascii"
name_of Utf8mb3 = codes "utf8mb3"
name_of Utf8mb4 = codes "utf8mb4"
name_of Ucs2 = codes "ucs2"
name_of Utf16 = codes "utf16"
name_of Utf32 = codes "utf32"
name_of Binary = codes "binary"

-- The text names the set, the case of A to Z ignored: it is the set's name, or `utf8` for utf8mb3.
abbrev pub Names : List ℕ → Charset → Type 0
Names text set =
    (map to_ascii_lowercase text ≡ name_of set)
    ⊎ ((map to_ascii_lowercase text ≡ codes "utf8") × (set ≡ Utf8mb3))

-- the names of the sets, in lower case, each with its set; `utf8` is another one of utf8mb3
abbrev pub named_sets : List (List ℕ × Charset)
named_sets =
    (name_of Latin1, Latin1) ∷ (name_of Ascii, Ascii) ∷ (name_of Utf8mb3, Utf8mb3)
    ∷ (name_of Utf8mb4, Utf8mb4) ∷ (name_of Ucs2, Ucs2) ∷ (name_of Utf16, Utf16)
    ∷ (name_of Utf32, Utf32) ∷ (name_of Binary, Binary) ∷ (codes "utf8", Utf8mb3) ∷ []

-- the names of the sets, in lower case
abbrev pub set_names : List (List ℕ)
set_names = map (λ named. named.0) named_sets

-- the set of a name, the case of A to Z ignored
unfoldable pub set_named : List ℕ → Option Charset
set_named name =
    option_map (λ named. named.1)
    (find (λ named. bytes_eq (map to_ascii_lowercase name) named.0) named_sets)

-- The two sets are one: they have one name.
unfoldable pub same_set : Charset → Charset → Bool
same_set set other = bytes_eq (name_of set) (name_of other)

-- The set has Unicode's characters and no others.
abbrev pub is_unicode_set : Charset → Bool
is_unicode_set Latin1 = false
is_unicode_set Ascii = false
is_unicode_set Binary = false
is_unicode_set Utf8mb3 = true
is_unicode_set Utf8mb4 = true
is_unicode_set Ucs2 = true
is_unicode_set Utf16 = true
is_unicode_set Utf32 = true

-- the names of the built-in collations, in the order of their numbers from 0 on
abbrev pub built_in_names : List (List ℕ)
built_in_names = codes "binary" ∷ codes "latin1_bin" ∷ codes "ascii_bin" ∷ codes "utf8mb3_bin"
    ∷ codes "utf8mb4_bin"
    ∷ codes "ucs2_bin" ∷ codes "utf16_bin"
    ∷ codes "utf32_bin" ∷ codes "utf8mb4_0900_bin" ∷ []

-- how many collations are built in
abbrev pub built_in_count : ℕ
built_in_count = 9

-- the name of a set's binary collation: `binary` for binary, else the set's name with `_bin`
abbrev pub bin_name : Charset → List ℕ
bin_name Binary = codes "binary"
bin_name set = name_of set ++ codes "_bin"

-- the number of a set's binary collation, its place among the built-in ones
abbrev pub bin_number : Charset → ℕ
bin_number Binary = 0
bin_number Latin1 = 1
bin_number Ascii = 2
bin_number Utf8mb3 = 3
bin_number Utf8mb4 = 4
bin_number Ucs2 = 5
bin_number Utf16 = 6
bin_number Utf32 = 7
