-- Operands of an operation on texts: MySQL 8.0 manual, 10.8.4.
use Rattle.std.specs.Prelude.{◌≡◌, ℕ, ◌<◌, ◌≤◌, ◌↔◌, List, IsTrue}
use Rattle.std.specs.List.{All}
use Rattle.mc_coerce.specs.declared.operand.Operand.{Operand}
use Rattle.mc_coerce.specs.Levels.{ignorable}

-- How many collations are built in; their numbers begin at 0.
abbrev pub built_in_count : ℕ
built_in_count = 9

-- The level is one of 0 to 6, and `bin` marks the built-in collations.
pub record IsOperand (operand : Operand) : Type 0 where
  pub level : operand.level ≤ ignorable
  pub bin : IsTrue operand.bin ↔ (operand.collation.0 < built_in_count)

-- If both have one collation, they have one set.
abbrev pub AgreeOnSet : Operand → Operand → Type 0
AgreeOnSet a b = a.collation ≡ b.collation → a.charset ≡ b.charset

-- The operands of one operation: each collation has one set.
pub record AreOperands (list : List Operand) : Type 0 where
  pub each : All IsOperand list
  pub one_set : All (λ a. All (AgreeOnSet a) list) list
