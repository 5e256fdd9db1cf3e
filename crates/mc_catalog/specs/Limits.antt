-- How much a catalog may have: this engine's own limits, and MySQL 8.0 manual, 11.3.2 and 11.3.3.
use Rattle.std.specs.Prelude.{ℕ}

-- How many collations are built in.
abbrev pub built_in_count : ℕ
built_in_count = 9

-- How many collations a catalog has at most: 64 beside the built-in ones.
abbrev pub most_collations : ℕ
most_collations = 73

-- How many tables a catalog has at most.
abbrev pub most_tables : ℕ
most_tables = 16

-- How many columns a table has at most.
abbrev pub most_columns : ℕ
most_columns = 32

-- How many indexes a table has at most.
abbrev pub most_indexes : ℕ
most_indexes = 8

-- How long a char may be, in characters, and a binary, in bytes.
abbrev pub longest_char : ℕ
longest_char = 255

-- How long a varchar may be, in characters, and a varbinary, in bytes.
abbrev pub longest_varchar : ℕ
longest_varchar = 4096

-- How long a name may be, in bytes.
abbrev pub longest_name : ℕ
longest_name = 64

-- The greatest number that is told apart: each length is smaller.
abbrev pub greatest_number : ℕ
greatest_number = 65535
