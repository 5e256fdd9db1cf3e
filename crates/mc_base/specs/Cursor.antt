-- A place in one file of a list.
use Rattle.std.specs.Prelude.{◌<◌, ◌≤◌, ℕ, List, [], length, drop, Option, None, Some, unwrap_or}
use Rattle.std.specs.Prelude.{slice_get, ⊤}
use Rattle.mc_base.specs.declared.mem_files.Cursor.{Cursor}

-- the bytes of the file at an index
abbrev pub bytes_at : List (List ℕ × List ℕ) → ℕ → List ℕ
bytes_at files i = (unwrap_or (slice_get files i) ([], [])).1

-- the bytes from a place on, where there is one
abbrev pub rest_at : List (List ℕ × List ℕ) → Option Cursor → Option (List ℕ)
rest_at files None = None
rest_at files (Some cursor) = Some (drop cursor.offset (bytes_at files cursor.file))

-- A place lies within its file, which is one of the list.
abbrev pub IsWithin : List (List ℕ × List ℕ) → Option Cursor → Type 0
IsWithin files None = ⊤
IsWithin files (Some cursor) =
    (cursor.file < length files) × (cursor.offset ≤ length (bytes_at files cursor.file))
