-- The rows of entries that stand side by side, one run after the other.
use Rattle.std.proofs.Common.{◌≡◌, ℕ, ◌+◌, ◌-◌, ◌<◌, ◌≤◌, List, [], ◌∷◌, ◌++◌}
use Rattle.std.proofs.Common.{length, get_or, drop, max, sym, ap, ◌∙◌}
use Rattle.std.proofs.Common.{arith}
use Rattle.std.proofs.lemmas.List.{append-nil, append_assoc, drop_all, drop_more, map-append}
use Rattle.std.proofs.lemmas.List.FromFn.{map-range_with_len_more}
use Rattle.std.specs.List.{range_with_len}
use Rattle.std.specs.Prelude.{slice_index}
use Rattle.mc_index.specs.Entries.{SeenIndex, rows_of}
use Rattle.mc_gather.specs.declared.gather.Run.{Run}
use Rattle.mc_gather.specs.Runs.{places_from, rows_at}

row : SeenIndex → ℕ → ℕ
row index place = slice_index (rows_of index.entries) place

-- One more place.
pub one_more : (index : SeenIndex) (start old new : List ℕ) (from place it : ℕ) → from ≤ place
    → old ≡ start ++ rows_at index (range_with_len from (place - from))
    → it ≡ slice_index (rows_of index.entries) place → new ≡ old ++ it ∷ []
    → new ≡ start ++ rows_at index (range_with_len from (place + 1 - from))
one_more index start old new from place it low e f g =
    g ∙ ap (λ l. l ++ it ∷ []) e
    ∙ append_assoc start (rows_at index (range_with_len from (place - from))) (it ∷ [])
    ∙ ap (λ (x : ℕ). start ++ (rows_at index (range_with_len from (place - from)) ++ x ∷ [])) f
    ∙ ap (λ l. start ++ l) (sym (map-range_with_len_more
    (λ p. slice_index (rows_of index.entries) p) from (place - from) place (omega arith)))
    ∙ ap (λ n. start ++ rows_at index (range_with_len from n)) (omega arith)

pub all_places : (index : SeenIndex) (start rows : List ℕ) (from place end : ℕ) → from ≤ place
    → place ≤ max from end → end ≤ place
    → rows ≡ start ++ rows_at index (range_with_len from (place - from))
    → rows ≡ start ++ rows_at index (range_with_len from (end - from))
all_places index start rows from place end low high past h =
    h ∙ ap (λ n. start ++ rows_at index (range_with_len from n)) (omega (arith, low, high, past))

opened : (index : SeenIndex) (done : ℕ) (run : Run) (runs : List Run)
    → rows_at index (places_from done (run ∷ runs))
    ≡ rows_at index (range_with_len (max run.first done) (run.end - max run.first done))
    ++ rows_at index (places_from (max done run.end) runs)
unfolding places_from
opened index done run runs =
    map-append (λ p. slice_index (rows_of index.entries) p)
    (range_with_len (max run.first done) (run.end - max run.first done))
    (places_from (max done run.end) runs)

-- One more run.
pub run_more : (index : SeenIndex) (runs : List Run) (i : ℕ) (d : Run)
    (old new all : List ℕ) (done from next : ℕ) → i < length runs
    → from ≡ max (get_or runs i d).first done → next ≡ max done (get_or runs i d).end
    → new ≡ old ++ rows_at index (range_with_len from ((get_or runs i d).end - from))
    → old ++ rows_at index (places_from done (drop i runs)) ≡ all
    → new ++ rows_at index (places_from next (drop (i + 1) runs)) ≡ all
run_more index runs i d old new all done from next within f n e h =
    let run = get_or runs i d in
    let more = rows_at index (places_from next (drop (i + 1) runs)) in
    let one = rows_at index (range_with_len from (run.end - from)) in
    ap (λ l. l ++ more) e ∙ append_assoc old one more
    ∙ ap (λ m. old ++ (rows_at index (range_with_len m (run.end - m)) ++ more)) f
    ∙ ap (λ m. old ++ (rows_at index
    (range_with_len (max run.first done) (run.end - max run.first done))
    ++ rows_at index (places_from m (drop (i + 1) runs)))) n
    ∙ ap (λ l. old ++ l) (sym (opened index done run (drop (i + 1) runs)))
    ∙ ap (λ l. old ++ rows_at index (places_from done l)) (sym (drop_more runs i d within))
    ∙ h

pub runs_end : (index : SeenIndex) (runs : List Run) (i done : ℕ) (rows all : List ℕ)
    → length runs ≤ i → rows ++ rows_at index (places_from done (drop i runs)) ≡ all → rows ≡ all
unfolding places_from
runs_end index runs i done rows all past h =
    sym (append-nil rows)
    ∙ ap (λ l. rows ++ rows_at index (places_from done l)) (sym (drop_all i runs past)) ∙ h
