-- Entries that stand side by side, and their rows; no public clause cites it.
use Rattle.std.specs.Prelude.{◌≡◌, ℕ, ◌-◌, List, [], ◌∷◌, ◌++◌, map, max, slice_index}
use Rattle.std.specs.List.{range_with_len}
use Rattle.std.specs.List.Sorted.{IsNonDecreasingBy, IsPermutation}
use Rattle.mc_index.specs.Entries.{SeenIndex, rows_of}
use Rattle.mc_index.specs.Places.{end_place, first_place}
use Rattle.mc_range.specs.declared.interval.Interval.{Interval}
use Rattle.mc_gather.specs.declared.gather.Run.{Run}

-- Where the entries of an interval stand.
abbrev pub run_of : SeenIndex → Interval → Run
run_of index interval =
    record { first = first_place index interval.lo; end = end_place index interval.hi }

-- The places of runs, none below `done`, and each once where the runs ascend.
unfoldable pub places_from : (done : ℕ) → List Run → List ℕ
places_from done [] = []
places_from done (run ∷ runs) =
    range_with_len (max run.first done) (run.end - max run.first done)
    ++ places_from (max done run.end) runs

-- The rows of the entries at these places.
abbrev pub rows_at : SeenIndex → List ℕ → List ℕ
rows_at index places = map (λ place. slice_index (rows_of index.entries) place) places

-- These are the rows of the intervals' runs, in the order of sorted runs.
pub record HasRunRows (index : SeenIndex) (intervals : List Interval) (rows : List ℕ) : Type 0 where
  pub runs : List Run
  pub permutation : IsPermutation (map (run_of index) intervals) runs
  pub sorted : IsNonDecreasingBy (λ run. run.first) runs
  pub are : rows ≡ rows_at index (places_from 0 runs)
