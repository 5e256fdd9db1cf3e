-- The kinds of lines, as the reader tells them apart.
use Rattle.std.specs.Prelude.{ℕ, ◌≤◌, ◌||◌, ◌==◌, ⊤, List, length, slice_index, if◌then◌else◌}
use Rattle.std.specs.List.{list_any}
use Rattle.mc_allkeys.specs.Said.{is_surrogate}
use Rattle.mc_allkeys.specs.declared.element.Element.{Element}
use Rattle.mc_allkeys.specs.declared.line.Kind.{Kind}
use Rattle.mc_allkeys.specs.declared.line.Kind.TheVariants.{Bad, Skipped, Surrogate, Ranged, Listed}

-- A listed text has a code point or more, each at most 10FFFF.
abbrev pub IsSound : Kind → List ℕ → Type 0
IsSound Bad codes = ⊤
IsSound Skipped codes = ⊤
IsSound Surrogate codes = ⊤
IsSound (Ranged range) codes = ⊤
IsSound Listed codes = (1 ≤ length codes) × ((k : ℕ) → slice_index codes k ≤ 0x10FFFF)

-- the kind of a line with this text and these elements
abbrev pub listed_kind : List ℕ → List Element → Kind
listed_kind codes elements =
    if (length codes == 0) || (length elements == 0) then Bad
    else if list_any is_surrogate codes then Surrogate
    else Listed
