-- A list of characters padded to a number of them: MySQL 8.0 manual, 12.8, LPAD and RPAD.
use Rattle.std.specs.Prelude.{ℕ, zero, suc, ◌-◌, ℤ}
use Rattle.std.specs.Prelude.{pos, negsuc, List, [], ◌∷◌, ◌++◌}
use Rattle.std.specs.Prelude.{Option, Some, None, length, option_map, take}
use Rattle.std.specs.List.{repeat}

-- so many characters of copies of the pad, the last copy cut; nothing has none for any other number
abbrev pub filling : ℕ → List ℕ → Option (List ℕ)
filling zero pad = Some []
filling (suc n) [] = None
filling (suc n) (code ∷ codes) = Some (take (suc n) (repeat (suc n) (code ∷ codes)))

-- the characters cut to n, or behind a filling; none where n is negative
unfoldable pub left_padded : ℤ → List ℕ → List ℕ → Option (List ℕ)
left_padded (negsuc n) pad codes = None
left_padded (pos n) pad codes =
    option_map (λ fill. fill ++ take n codes) (filling (n - length codes) pad)

-- the characters cut to n, or before a filling; none where n is negative
unfoldable pub right_padded : ℤ → List ℕ → List ℕ → Option (List ℕ)
right_padded (negsuc n) pad codes = None
right_padded (pos n) pad codes =
    option_map (λ fill. take n codes ++ fill) (filling (n - length codes) pad)
