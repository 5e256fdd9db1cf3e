-- Headers and texts with the escapes under which they are written: this engine's own convention,
-- with the escapes of the MySQL 8.0 manual, 9.1.1.
use Rattle.std.specs.Prelude.{ℕ, Bool, ◌||◌, List, [], ◌∷◌, ◌==◌, codes}
use Rattle.std.specs.Prelude.{if◌then◌else◌}
use Rattle.std.specs.List.{flat_map}

-- the bytes NUL, TAB, LF and the backslash
abbrev pub nul : ℕ
nul = 0x00

abbrev pub tab : ℕ
tab = 0x09

abbrev pub line_feed : ℕ
line_feed = 0x0A

abbrev pub backslash : ℕ
backslash = 0x5C

-- a byte as it is written: NUL, TAB, LF and the backslash by an escape
abbrev pub escaped_byte : ℕ → List ℕ
escaped_byte b =
    if b == nul then codes "\\0"
    else if b == tab then codes "\\t"
    else if b == line_feed then codes "\\n"
    else if b == backslash then codes "\\\\"
    else b ∷ []

-- The byte is written by an escape.
abbrev pub is_escaped : ℕ → Bool
is_escaped b = (b == nul) || (b == tab) || (b == line_feed) || (b == backslash)

-- a header or a text as it is written
unfoldable pub as_written : List ℕ → List ℕ
as_written text = flat_map escaped_byte text

-- The byte is NUL, TAB or LF.
abbrev pub is_separator : ℕ → Bool
is_separator b = (b == nul) || (b == tab) || (b == line_feed)

-- the byte that is meant by a backslash and this byte
abbrev pub meant : ℕ → ℕ
meant b =
    if b == 0x30 then nul
    else if b == 0x74 then tab
    else if b == 0x6E then line_feed
    else b

-- what a written text is read as: a backslash and the byte behind it are one byte
abbrev pub read_back : List ℕ → List ℕ
read_back [] = []
read_back (b ∷ []) = b ∷ []
read_back (b ∷ c ∷ bytes) =
    if b == backslash then meant c ∷ read_back bytes else b ∷ read_back (c ∷ bytes)
