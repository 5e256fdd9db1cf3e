-- The comments of a script: MySQL 8.0 manual, 9.7.
use Rattle.std.specs.Prelude.{◌≡◌, ◌≢◌, ◌⊎◌, ℕ, true, List, [], ◌∷◌}
use Rattle.std.specs.Prelude.{◌++◌}
use Rattle.std.specs.List.{AllByRecursion}
use Rattle.mc_token.specs.Bytes.{is_space, line_feed, exclamation, number_sign, star, dash, slash}

-- There are no bytes, or the first is such a byte.
abbrev pub EndOr : (ℕ → Type 0) → List ℕ → Type 0
EndOr IsSuch [] = Unit {0}
EndOr IsSuch (byte ∷ bytes) = IsSuch byte

-- The bytes begin with `#`, or with `--` and behind it a space or the end.
abbrev pub OpensLine : List ℕ → Type 0
OpensLine bytes =
    ((rest : List ℕ) × (bytes ≡ number_sign ∷ rest))
    ⊎ ((rest : List ℕ) × (bytes ≡ dash ∷ dash ∷ rest)
    × EndOr (λ byte. is_space byte ≡ true) rest)

-- The bytes begin with `/*`, and no `!` is directly behind it.
abbrev pub OpensBlock : List ℕ → Type 0
OpensBlock bytes =
    (rest : List ℕ) × (bytes ≡ slash ∷ star ∷ rest)
    × EndOr (λ byte. byte ≢ exclamation) rest

-- A comment to the end of its line: what opens one, up to the next line feed or the end.
abbrev pub IsLineComment : (taken behind : List ℕ) → Type 0
IsLineComment taken behind =
    OpensLine (taken ++ behind) × AllByRecursion (λ byte. byte ≢ line_feed) taken
    × EndOr (λ byte. byte ≡ line_feed) behind

-- A closed comment: what opens one, up to the first `*/` behind its `/*`.
abbrev pub IsBlockComment : (taken behind : List ℕ) → Type 0
IsBlockComment taken behind =
    (between : List ℕ) × (taken ≡ slash ∷ star ∷ between ++ star ∷ slash ∷ [])
    × OpensBlock (taken ++ behind)
    × ((before after : List ℕ) → between ≢ before ++ star ∷ slash ∷ after)
