-- The fields of a line: what stands between blanks.
use Rattle.std.specs.Prelude.{ℕ, Bool, ◌==◌, not, List, length, filter}
use Rattle.std.specs.List.{slice_split}
use Rattle.mc_base.specs.Blanks.{is_blank}

-- whether a part between blanks has a byte
abbrev pub is_field : List ℕ → Bool
is_field part = not (length part == 0)

-- the fields of a text, in order
abbrev pub fields_of : List ℕ → List (List ℕ)
fields_of text = filter is_field (slice_split is_blank text)
