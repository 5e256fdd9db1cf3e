-- The pair table of coercibility: MySQL 8.0 manual, 10.8.4, completed for operands of other sets.
use Rattle.std.specs.Prelude.{Bool, false, not, ◌&&◌, ◌||◌, nat_eq, nat_lt, nat_le}
use Rattle.std.specs.Prelude.{if◌then◌else◌}
use Rattle.mc_charset.specs.Names.{same_set}
use Rattle.mc_convert.specs.Classes.{rank, cap_of}
use Rattle.mc_convert.specs.Conversion.{is_binary}
use Rattle.mc_convert.specs.declared.repertoire.Repertoire.TheVariants.{Ascii}
use Rattle.mc_coerce.specs.declared.operand.Operand.{Operand}
use Rattle.mc_coerce.specs.Levels.{explicit}
use Rattle.mc_coerce.specs.Sets.{extends, is_unicode_beside_other, are_unicode_apart}

-- The operands have one collation.
abbrev pub same_collation : Operand → Operand → Bool
same_collation a b = nat_eq a.collation.0 b.collation.0

-- Each character is below U+0080.
abbrev pub is_ascii : Operand → Bool
is_ascii a = nat_eq (rank a.repertoire) (rank Ascii)

-- Case 1, of one collation: its level isn't higher.
abbrev pub beats_in_collation : Operand → Operand → Bool
beats_in_collation a b = nat_le a.level b.level

-- Case 2, of two collations: both are explicit, so neither beats.
abbrev pub are_explicit : Operand → Operand → Bool
are_explicit a b = nat_eq a.level explicit && nat_eq b.level explicit

-- Its level is lower, or the levels are equal and it is preferred.
abbrev pub is_lower_or : Operand → Operand → Bool → Bool
is_lower_or a b preferred = nat_lt a.level b.level || (nat_eq a.level b.level && preferred)

-- Case 3, of one set: a lower level, or a binary collation against one that isn't.
abbrev pub beats_in_set : Operand → Operand → Bool
beats_in_set a b = is_lower_or a b (a.bin && not b.bin)

-- Of equal levels and two sets, the first one's set is the one to convert to.
abbrev pub has_precedence : Operand → Operand → Bool
has_precedence a b =
    (is_binary a.charset || is_unicode_beside_other a.charset b.charset)
    || (extends a.charset b.charset
    || (are_unicode_apart a.charset b.charset && (is_ascii b && not (is_ascii a))))

-- Each character of the second one is in the set of the first.
abbrev pub holds : Operand → Operand → Bool
holds a b = nat_le (rank b.repertoire) (rank (cap_of a.charset))

-- Case 4, of two sets: no character is lost, and its level is lower or its set has precedence.
abbrev pub beats_across_sets : Operand → Operand → Bool
beats_across_sets a b = holds a b && is_lower_or a b (has_precedence a b)

-- The first operand's collation may stand for both.
abbrev pub beats : Operand → Operand → Bool
beats a b =
    if same_collation a b then beats_in_collation a b
    else if are_explicit a b then false
    else if same_set a.charset b.charset then beats_in_set a b
    else beats_across_sets a b
