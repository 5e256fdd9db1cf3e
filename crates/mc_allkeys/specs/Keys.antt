-- The entries that are held: those of single code points, and the contractions.
use Rattle.std.specs.Prelude.{ℕ, ◌*◌, List, [], ◌∷◌, ◌++◌, length, Option, option_map}
use Rattle.std.specs.FinMap as map
use Rattle.std.specs.List.{filter_map, range_with_len}
use Rattle.mc_allkeys.specs.Singles.{Store, single_in}
use Rattle.mc_allkeys.specs.Table.{Entries}
use Rattle.mc_allkeys.specs.declared.element.Element.{Element}

-- the entries of these code points, where they have one
abbrev pub numbered : (ℕ → Option (List Element)) → List ℕ → List (List ℕ × List Element)
numbered single codes =
    filter_map (λ code. option_map (λ elements. (code ∷ [], elements)) (single code)) codes

-- all entries
unfoldable pub entries_in : Store → Entries → Entries
entries_in store contractions =
    map.from_entries
    (numbered (single_in store) (range_with_len 0 (256 * length store.pages))
    ++ map.entries contractions)
