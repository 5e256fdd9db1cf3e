-- The files as they were opened.
use Rattle.std.specs.Prelude.{◌≤◌, IsUtf8, List, length}
use Rattle.mc_base.specs.FileOutcome.{greatest_file}
use Rattle.mc_book.specs.Meanings.{meanings, meaning_at}
use Rattle.mc_catalog.specs.Fits.{FitsCatalog}
use Rattle.mc_catalog.specs.Lawful.{IsLawful}
use Rattle.mycoll.specs.Outcome.{Accepted, Opening, accepted_with}
use Rattle.mycoll.specs.World.{Rows}
use Rattle.mycoll.specs.declared.opening.Opened.{Opened}

-- What was opened, as its files say it.
abbrev pub opening_of : Opened → Opening
opening_of opened = record {
  catalog = opened.catalog;
  script = opened.script;
  meanings = meanings opened.book;
}

-- What was opened and the rows of the tables, as they are accepted.
abbrev pub accepted_of : Opened × List Rows → Accepted
accepted_of all = accepted_with (opening_of all.0) all.1

-- The catalog is lawful and its book fits it, and the script is UTF-8 and short enough.
pub record IsSound (opened : Opened) : Type 0 where
  pub lawful : IsLawful opened.catalog
  pub fits : FitsCatalog opened.catalog (length opened.book)
      (λ id. (meaning_at (meanings opened.book) id).charset)
  pub utf8 : IsUtf8 opened.script
  pub short : length opened.script ≤ greatest_file
