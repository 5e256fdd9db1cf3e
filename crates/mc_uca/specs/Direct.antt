-- Characters that have one weight on a level.
use Rattle.std.specs.Prelude.{◌≡◌, ◌≢◌, ◌⊎◌, ℕ, ◌==◌, true, false, List, [], ◌∷◌, slice_index_or}
use Rattle.std.specs.Prelude.{if◌then◌else◌}
use Rattle.mc_charset.specs.declared.charset.Charset.{Charset}
use Rattle.mc_allkeys.specs.Fronts.{IsFresh}
use Rattle.mc_allkeys.specs.Table.{ElementTable}
use Rattle.mc_uca.specs.Weighing.{set_contractions, uca_list}
use Rattle.mc_uca.specs.declared.direct.DirectWeight.{DirectWeight}
use Rattle.mc_uca.specs.declared.direct.DirectWeights.{DirectWeights}
use Rattle.mc_uca.specs.declared.kind.UcaKind.{UcaKind}

-- what is noted of a code point: no weight where the list ends
abbrev pub direct_at : List DirectWeight → ℕ → DirectWeight
direct_at direct code = slice_index_or direct code (record { weight = 0; is_head = true })

-- what is noted for a level
abbrev pub direct_on : DirectWeights → ℕ → List DirectWeight
direct_on direct level =
    if level == 1 then direct.first.items
    else if level == 2 then direct.second.items
    else if level == 3 then direct.third.items
    else []

-- A noted weight is the code point's only one on the level, before the weights of what follows it:
-- wherever it begins no contraction, or no contraction reaches into what follows.
abbrev pub IsDirect : Charset → UcaKind → ElementTable → ℕ → ℕ → DirectWeight → Type 0
IsDirect set kind table level code direct =
    (rest : List ℕ) → direct.weight ≢ 0 →
    (direct.is_head ≡ false) ⊎ IsFresh (set_contractions set table.entries) rest →
    uca_list set kind table level (code ∷ rest) ≡ direct.weight ∷ uca_list set kind table level rest

-- So it is for each code point on each level.
abbrev pub AreDirect : Charset → UcaKind → ElementTable → DirectWeights → Type 0
AreDirect set kind table direct =
    (level code : ℕ) → IsDirect set kind table level code (direct_at (direct_on direct level) code)
