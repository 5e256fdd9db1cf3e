-- When collations that are numbered from 0 fit a catalog: MySQL 8.0 manual, 10.14.
use Rattle.std.specs.Prelude.{◌≡◌, ℕ, ◌<◌, length}
use Rattle.mc_charset.specs.declared.charset.Charset.{Charset}
use Rattle.mc_catalog.specs.declared.catalog.Catalog.{Catalog}
use Rattle.mc_catalog.specs.LookUp.{collation_set}

-- So many collations, of these sets by their numbers, fit a catalog: as many as it has, each of the
-- set that it declares.
pub record FitsCatalog (catalog : Catalog) (count : ℕ) (set : ℕ → Charset) : Type 0 where
  pub counted : count ≡ length catalog.collations
  pub sets : (id : ℕ) → id < count → set id ≡ collation_set catalog.collations id
