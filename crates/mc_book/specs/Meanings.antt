-- A book as the meanings of its collations, by their numbers from 0 on.
use Rattle.std.specs.Prelude.{ℕ, List, map, slice_index_or}
use Rattle.mc_charset.specs.declared.charset.Charset.{Charset}
use Rattle.mc_charset.specs.declared.charset.Charset.TheVariants.{Binary}
use Rattle.mc_order.specs.Bin.{bin_meaning}
use Rattle.mc_order.specs.Meaning.{Meaning}
use Rattle.mc_order.specs.declared.pad.Pad.TheVariants.{NoPad}
use Rattle.mc_book.specs.Any.{any_meaning}
use Rattle.mc_book.specs.declared.any_collation.AnyCollation.{AnyCollation}

-- The set of a collation.
abbrev pub any_set : AnyCollation → Charset
any_set collation = (any_meaning collation).charset

-- What the collations of a book mean, in the order of their numbers.
abbrev pub meanings : List AnyCollation → List Meaning
meanings collations = map any_meaning collations

-- What the collation of a number means, by the meanings of all; behind the last one `binary`.
abbrev pub meaning_at : List Meaning → ℕ → Meaning
meaning_at all id = slice_index_or all id (bin_meaning (Binary, NoPad))
