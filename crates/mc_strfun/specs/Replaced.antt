-- Copies among characters replaced: MySQL 8.0 manual, 12.8, REPLACE.
use Rattle.std.specs.Prelude.{ℕ, zero, suc, ◌-◌, Bool}
use Rattle.std.specs.Prelude.{List, [], ◌∷◌, ◌++◌, length, take}
use Rattle.std.specs.Prelude.{if◌then◌else◌}
use Rattle.std.specs.Str.{bytes_eq}

-- The characters begin with these.
abbrev pub begins : List ℕ → List ℕ → Bool
begins front codes = bytes_eq front (take (length front) codes)

-- behind the first `passed` characters, which belong to a copy, each copy replaced, from the left
-- and without overlap
unfoldable pub replaced_behind : ℕ → List ℕ → List ℕ → List ℕ → List ℕ
replaced_behind passed from to [] = []
replaced_behind (suc passed) from to (code ∷ codes) = replaced_behind passed from to codes
replaced_behind zero from to (code ∷ codes) =
    if begins from (code ∷ codes) then to ++ replaced_behind (length from - 1) from to codes
    else code ∷ replaced_behind zero from to codes

-- each copy of some characters replaced; of none, nothing is
abbrev pub replaced : List ℕ → List ℕ → List ℕ → List ℕ
replaced [] to codes = codes
replaced (first ∷ others) to codes = replaced_behind zero (first ∷ others) to codes
