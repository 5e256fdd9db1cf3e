-- What statements are answered by: a world, which no statement changes, and a state, which each one
-- leaves to the next.
use Rattle.std.specs.Prelude.{ℕ, ◌<◌, List, length}
use Rattle.mc_catalog.specs.Fits.{FitsCatalog}
use Rattle.mc_catalog.specs.Lawful.{IsLawful}
use Rattle.mc_catalog.specs.declared.catalog.Catalog.{Catalog}
use Rattle.mc_charset.specs.declared.collation_id.CollId.{CollId}
use Rattle.mc_order.specs.Meaning.{Meaning}
use Rattle.mc_typing.specs.declared.session.Session.{Session}
use Rattle.mc_values.specs.declared.value.Value.{Value}

-- The rows of a table, in its order.
abbrev pub Rows : Type 0
Rows = List (List Value)

-- A catalog, and what the collation of a number means.
pub record World : Type 0 where
  pub catalog : Catalog
  pub meaning : ℕ → Meaning

-- What statements may change: the collation of the connection, and the rows of the tables.
pub record State : Type 0 where
  pub connection : CollId
  pub rows : List Rows

-- A catalog as a world, by what its collations mean.
abbrev pub world_of : Catalog → (ℕ → Meaning) → World
world_of catalog meaning = record { catalog = catalog; meaning = meaning }

-- A session as a state, with the rows of the tables.
abbrev pub state_of : Session → List Rows → State
state_of session rows = record { connection = session.connection; rows = rows }

-- The session in which a statement is typed.
abbrev pub session_of : State → Session
session_of s = record { connection = s.connection }

-- The catalog is lawful, so many collations fit it, and the connection's is one of them.
pub record AreSound (w : World) (count : ℕ) (s : State) : Type 0 where
  pub lawful : IsLawful w.catalog
  pub fits : FitsCatalog w.catalog count (λ id. (w.meaning id).charset)
  pub connected : s.connection.0 < length w.catalog.collations
