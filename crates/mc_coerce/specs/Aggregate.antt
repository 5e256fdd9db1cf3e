-- What operands have together: MySQL 8.0 manual, 10.8.4.
use Rattle.std.specs.Prelude.{◌≡◌, ℕ, Bool, true, ◌&&◌, ◌||◌, nat_eq, nat_lt, nat_le, Option, Some}
use Rattle.std.specs.Prelude.{None, List, [], ◌∷◌, length, if◌then◌else◌}
use Rattle.std.specs.List.{Any, filter, find, list_all}
use Rattle.std.specs.Option.{option_map, option_or, option_and_then}
use Rattle.mc_charset.specs.Names.{same_set}
use Rattle.mc_charset.specs.declared.charset.Charset.{Charset}
use Rattle.mc_charset.specs.declared.charset.Charset.TheVariants.{Binary}
use Rattle.mc_convert.specs.Classes.{rank}
use Rattle.mc_convert.specs.declared.repertoire.Repertoire.{Repertoire}
use Rattle.mc_convert.specs.declared.repertoire.Repertoire.TheVariants.{Ascii, Bytes}
use Rattle.mc_coerce.specs.declared.operand.Operand.{Operand}
use Rattle.mc_coerce.specs.declared.operand.Purpose.{Purpose}
use Rattle.mc_coerce.specs.declared.operand.Purpose.TheVariants.{Compare, Text}
use Rattle.mc_coerce.specs.declared.operand.Agg.{Agg}
use Rattle.mc_coerce.specs.declared.operand.Agg.TheVariants.{Uses, Mix}
use Rattle.mc_coerce.specs.Levels.{explicit, no_collation, ignorable}
use Rattle.mc_coerce.specs.Sets.{bin_collation_of}
use Rattle.mc_coerce.specs.Pair.{beats}

-- The operand isn't ignorable.
abbrev pub takes_part : Operand → Bool
takes_part operand = nat_lt operand.level ignorable

-- The operands that take part.
abbrev pub counted : List Operand → List Operand
counted list = filter takes_part list

-- It beats each of these.
abbrev pub beats_each : List Operand → Operand → Bool
beats_each operands a = list_all (beats a) operands

-- The operands have one set and one level.
abbrev pub same_set_and_level : Operand → Operand → Bool
same_set_and_level a b = same_set a.charset b.charset && nat_eq a.level b.level

-- It isn't explicit, and it beats the other one or has its set and level.
abbrev pub shares : Operand → Operand → Bool
shares a b = nat_lt explicit a.level && (beats a b || same_set_and_level a b)

-- It shares with each of these.
abbrev pub shares_with_each : List Operand → Operand → Bool
shares_with_each operands a = list_all (shares a) operands

-- One of the operands beats each of them.
abbrev pub HasWinner : List Operand → Type 0
HasWinner operands = Any (λ a. beats_each operands a ≡ true) operands

-- One of the operands shares with each of them.
abbrev pub HasSharer : List Operand → Type 0
HasSharer operands = Any (λ a. shares_with_each operands a ≡ true) operands

-- The later class of two in the chain.
abbrev pub later : Repertoire → Repertoire → Repertoire
later class other = if nat_le (rank class) (rank other) then other else class

-- The greatest repertoire of operands.
abbrev pub greatest : List Operand → Repertoire
greatest [] = Ascii
greatest (operand ∷ others) = later operand.repertoire (greatest others)

-- The class of a text of the set whose characters are of this class: of bytes, Ascii or Bytes.
abbrev pub class_in_set : Charset → Repertoire → Repertoire
class_in_set Binary Ascii = Ascii
class_in_set Binary class = Bytes
class_in_set set class = class

-- An operand of a set's binary collation.
abbrev pub of_bin : Charset → ℕ → Repertoire → Operand
of_bin set level class = record {
  charset = set;
  collation = record { 0 = bin_collation_of set };
  bin = true;
  level = level;
  repertoire = class;
}

-- What operands have where this one beats each: its set, collation and level.
-- The repertoire is the greatest one.
abbrev pub won_by : List Operand → Operand → Operand
won_by operands a = record a { repertoire = class_in_set a.charset (greatest operands) }

-- What operands have where this one shares with each: its set, with no collation.
abbrev pub shared_by : List Operand → Operand → Operand
shared_by operands a =
    of_bin a.charset no_collation (class_in_set a.charset (greatest operands))

-- What they have through one of them that beats each.
abbrev pub through_winner : List Operand → Option Operand
through_winner operands = option_map (won_by operands) (find (beats_each operands) operands)

-- What they have through one of them that shares with each.
abbrev pub through_sharer : List Operand → Option Operand
through_sharer operands =
    option_map (shared_by operands) (find (shares_with_each operands) operands)

-- Two operands or more can't be compared at that level.
abbrev pub is_refused : List Operand → Operand → Bool
is_refused operands result = nat_lt 1 (length operands) && nat_eq result.level no_collation

-- What they have together for a purpose, if anything.
abbrev pub result_for : Purpose → List Operand → Option Operand
result_for Compare operands =
    option_and_then (λ result. if is_refused operands result then None else Some result)
    (through_winner operands)
result_for Text operands = option_or (through_winner operands) (through_sharer operands)

-- The answer for what they have, if anything.
abbrev pub uses_or_mix : Option Operand → Agg
uses_or_mix None = Mix
uses_or_mix (Some result) = Uses result

-- The aggregate of operands that all take part.
abbrev pub aggregate_counted : List Operand → Purpose → Agg
aggregate_counted [] purpose = Uses (of_bin Binary ignorable Ascii)
aggregate_counted (operand ∷ others) purpose = uses_or_mix (result_for purpose (operand ∷ others))

-- The aggregate of operands.
unfoldable pub aggregate : List Operand → Purpose → Agg
aggregate list purpose = aggregate_counted (counted list) purpose
