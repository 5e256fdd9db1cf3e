-- Where the numbering of each base of implicit weights starts: UTS #10, 9.2.
use Rattle.std.specs.Prelude.{◌≡◌, ℕ, ◌==◌, List, Option, None, option_map, slice_index_or}
use Rattle.std.specs.List.{find}
use Rattle.mc_allkeys.specs.declared.range.Range.{Range}

-- the start that is noted for a base, if one is
abbrev pub start_at : List (Option ℕ) → ℕ → Option ℕ
start_at starts base = slice_index_or starts base None

-- The starts of the bases are noted: the first code points of their first ranges.
abbrev pub AreStartsOf : List Range → List (Option ℕ) → Type 0
AreStartsOf ranges starts = (base : ℕ) →
    start_at starts base
    ≡ option_map (λ range. range.first) (find (λ range. range.base == base) ranges)
