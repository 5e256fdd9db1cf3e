-- What the form of a line alone makes sure of: lengths within the limits, names in ASCII, rules
-- where they may be.
use Rattle.std.specs.Prelude.{◌≤◌, ⊤, IsTrue, IfSome}
use Rattle.mc_catalog.specs.Limits.{longest_char, longest_varchar}
use Rattle.mc_catalog.specs.Entries.{may_have_rules}
use Rattle.mc_catalog.specs.Lawful.{IsLawfulName}
use Rattle.mc_catalog.specs.declared.catalog.ColumnType.{ColumnType}
use Rattle.mc_catalog.specs.declared.catalog.ColumnType.TheVariants.{BigInt, Binary, VarBinary}
use Rattle.mc_catalog.specs.declared.catalog.ColumnType.TheVariants.{Char as TypeChar}
use Rattle.mc_catalog.specs.declared.catalog.ColumnType.TheVariants.{VarChar as TypeVarChar}
use Rattle.mc_catalog.specs.declared.entry.ColumnForm.{ColumnForm}
use Rattle.mc_catalog.specs.declared.entry.ColumnForm.TheVariants.{Plain, Char, VarChar}
use Rattle.mc_catalog.specs.declared.entry.Entry.{Entry}
use Rattle.mc_catalog.specs.declared.entry.Entry.TheVariants.{Collation, Column, Index}

-- A type without a collation has a length within its limit.
abbrev pub IsFormedType : ColumnType → Type 0
IsFormedType BigInt = ⊤
IsFormedType (Binary n) = (1 ≤ n) × (n ≤ longest_char)
IsFormedType (VarBinary n) = (1 ≤ n) × (n ≤ longest_varchar)
IsFormedType (TypeChar n coll) = ⊥
IsFormedType (TypeVarChar n coll) = ⊥

-- The type of a column has a length within its limit.
abbrev pub IsFormedColumn : ColumnForm → Type 0
IsFormedColumn (Plain type) = IsFormedType type
IsFormedColumn (Char n collation) = (1 ≤ n) × (n ≤ longest_char)
IsFormedColumn (VarChar n collation) = (1 ≤ n) × (n ≤ longest_varchar)

-- An entry has a length within its limit, an index or a collation a name, and rules stand only where
-- the kind takes them.
abbrev pub IsFormed : Entry → Type 0
IsFormed (Collation name set kind file rules) =
    IsLawfulName name × IfSome rules (λ _. IsTrue (may_have_rules kind))
IsFormed (Column name form) = IsFormedColumn form
IsFormed (Index name column prefix) = IsLawfulName name
IsFormed _ = ⊤
