-- Blanks in a line: the space and the TAB, as in POSIX.1's class blank.
use Rattle.std.specs.Prelude.{ℕ, Bool, ◌==◌, ◌||◌, List, [], ◌∷◌, reverse, if◌then◌else◌}

-- a space or a TAB
abbrev pub is_blank : ℕ → Bool
is_blank byte = (byte == 32) || (byte == 9)

-- the bytes without the blanks at their front
abbrev pub without_leading : List ℕ → List ℕ
without_leading [] = []
without_leading (byte ∷ bytes) = if is_blank byte then without_leading bytes else (byte ∷ bytes)

-- the bytes without the blanks at their end
abbrev pub without_trailing : List ℕ → List ℕ
without_trailing bytes = reverse (without_leading (reverse bytes))

-- the bytes without the blanks at both ends
abbrev pub trimmed : List ℕ → List ℕ
trimmed bytes = without_trailing (without_leading bytes)
