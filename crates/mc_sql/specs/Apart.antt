-- Which classes have no token in common, and which are one.
use Rattle.std.specs.Prelude.{Bool, true, false, not, ◌&&◌, ◌||◌, codes}
use Rattle.std.specs.Str.{bytes_eq}
use Rattle.mc_sql.specs.Classes.{Class, word, mark, name, called, called_otherwise, intro, int, str}
use Rattle.mc_sql.specs.Classes.{national, hex, is_reserved, is_intro, is_called}
use Rattle.mc_token.specs.Marks.{mark_text}

-- No lexeme is of both classes. A name has no string behind it, and ESCAPE nothing else.
abbrev pub are_apart : Class → Class → Bool
are_apart (word text) (word other) = not (bytes_eq text other)
are_apart (word text) name = is_reserved text || bytes_eq text (codes "escape")
are_apart (word text) called = not (is_called text)
are_apart (word text) called_otherwise =
    not (is_called text && not (bytes_eq text (codes "weight_string")))
are_apart (word text) intro = not (is_intro text)
are_apart name (word text) = is_reserved text || bytes_eq text (codes "escape")
are_apart called (word text) = not (is_called text)
are_apart called_otherwise (word text) =
    not (is_called text && not (bytes_eq text (codes "weight_string")))
are_apart intro (word text) = not (is_intro text)
are_apart (mark symbol) (mark other) = not (bytes_eq (mark_text symbol) (mark_text other))
are_apart name name = false
are_apart name called = false
are_apart name called_otherwise = false
are_apart name intro = false
are_apart called name = false
are_apart called called = false
are_apart called called_otherwise = false
are_apart called intro = false
are_apart called_otherwise name = false
are_apart called_otherwise called = false
are_apart called_otherwise called_otherwise = false
are_apart called_otherwise intro = false
are_apart intro name = false
are_apart intro called = false
are_apart intro called_otherwise = false
are_apart intro intro = false
are_apart int int = false
are_apart str str = false
are_apart national national = false
are_apart hex hex = false
are_apart _ _ = true

-- The classes are one.
abbrev pub is_within : Class → Class → Bool
is_within (word text) (word other) = bytes_eq text other
is_within (mark symbol) (mark other) = bytes_eq (mark_text symbol) (mark_text other)
is_within name name = true
is_within called called = true
is_within called_otherwise called_otherwise = true
is_within intro intro = true
is_within int int = true
is_within str str = true
is_within national national = true
is_within hex hex = true
is_within _ _ = false
