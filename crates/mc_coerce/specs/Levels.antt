-- The levels of coercibility, the lowest counting most: MySQL 8.0 manual, 10.8.4.
use Rattle.std.specs.Prelude.{ℕ}

-- The level of COLLATE.
abbrev pub explicit : ℕ
explicit = 0

-- The level of a text whose operands have a set, but no collation together.
abbrev pub no_collation : ℕ
no_collation = 1

-- The level of a column.
abbrev pub implicit : ℕ
implicit = 2

-- The level of a system constant, as VERSION().
abbrev pub system_constant : ℕ
system_constant = 3

-- The level of a literal.
abbrev pub coercible : ℕ
coercible = 4

-- The level of a number that stands as a text.
abbrev pub numeric : ℕ
numeric = 5

-- The level of what takes no part, as NULL: the highest one.
abbrev pub ignorable : ℕ
ignorable = 6
