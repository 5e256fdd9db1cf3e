-- The entries of an index: MySQL 8.0 manual, 8.3.1, How MySQL Uses Indexes.
use Rattle.std.specs.Prelude.{◌≡◌, ℕ, List, map, nat_eq}
use Rattle.std.specs.List.{IsDistinct}
use Rattle.std.specs.List.Sorted.{IsPermutation, IsStrictlySortedBy}
use Rattle.std.specs.Ordering.{nat_cmp, on, then_cmp}
use Rattle.std.specs.declared.cmp.Ordering.{Ordering}
use Rattle.mc_order.specs.declared.pad.Pad.{Pad}
use Rattle.mc_order.specs.Order.{list_order}

-- an entry: what the key of a row keeps, and the row's number
pub record SeenEntry : Type 0 where
  pub weights : List ℕ
  pub row : ℕ

-- an index: the padding and the space of its keys, and its entries
pub record SeenIndex : Type 0 where
  pub pad : Pad
  pub space : ℕ
  pub entries : List SeenEntry

-- the rows of entries
abbrev pub rows_of : List SeenEntry → List ℕ
rows_of entries = map (λ entry. entry.row) entries

-- No row has two entries.
abbrev pub AreApart : List SeenEntry → Type 0
AreApart entries = IsDistinct nat_eq (rows_of entries)

-- the order of two entries: that of their keys, and of their rows where those are equal
abbrev pub entry_order : Pad → ℕ → SeenEntry → SeenEntry → Ordering
entry_order pad space =
    then_cmp (on (λ entry. entry.weights) (list_order pad space)) (on (λ entry. entry.row) nat_cmp)

-- Each entry stands before all behind it.
abbrev pub AreOrdered : SeenIndex → Type 0
AreOrdered index = IsStrictlySortedBy (entry_order index.pad index.space) index.entries

-- The index has all entries that were added, each once, in order.
pub record IsSealed (added index : SeenIndex) : Type 0 where
  pub pad : index.pad ≡ added.pad
  pub space : index.space ≡ added.space
  pub all : IsPermutation added.entries index.entries
  pub ordered : AreOrdered index

-- Entries that were added make one list in order.
abbrev pub OneIsSealed : Type 0
OneIsSealed =
    (added index other : SeenIndex) → IsSealed added index → IsSealed added other →
    index.entries ≡ other.entries
