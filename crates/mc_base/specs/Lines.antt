-- The lines of a file of settings: numbered from 1, ended by LF, CR LF or the file's end.
use Rattle.std.specs.Prelude.{ℕ, Bool, ◌==◌, not, List, length, filter, map}
use Rattle.std.specs.List.{before_first, enumerate_from}
use Rattle.std.specs.Str.Lines.{lines}
use Rattle.mc_base.specs.Blanks.{trimmed}

-- what a line says: what stands before its comment, which `#` begins, without blanks at both ends
abbrev pub body_of : List ℕ → List ℕ
body_of line = trimmed (before_first (λ byte. byte == 35) line)

-- whether a numbered body says something
abbrev pub says_something : ℕ × List ℕ → Bool
says_something line = not (length line.1 == 0)

-- the bodies that say something, each with its line's number, the first line having this one
abbrev pub bodies_from : ℕ → List (List ℕ) → List (ℕ × List ℕ)
bodies_from number raw =
    filter says_something (map (λ line. (line.0, body_of line.1)) (enumerate_from number raw))

-- the lines of a text that say something: number and body
abbrev pub lines_of : List ℕ → List (ℕ × List ℕ)
lines_of text = bodies_from 1 (lines text)
