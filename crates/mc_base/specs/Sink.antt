-- The answers of a sink of bytes: POSIX.1, write, with the answers named.
use Rattle.std.specs.Prelude.{◌≡◌, ℕ, List, ◌++◌, take, Option, None, Some, ⊤}
use Rattle.mc_base.specs.Faults.{Rose}
use Rattle.mc_base.specs.declared.outside.PutAnswer.{PutAnswer}
use Rattle.mc_base.specs.declared.outside.PutAnswer.TheVariants.{Done, Failed, NoMemory}

-- what was written, where it is told, with more behind it
abbrev pub appended : Option (List ℕ) → List ℕ → Option (List ℕ)
appended None more = None
appended (Some written) more = Some (written ++ more)

-- `put` answered this: all bytes were appended, or a prefix of them, or none.
abbrev pub PutTells : PutAnswer → List ℕ → Option (List ℕ) → Option (List ℕ) → Type 0
PutTells Done bytes before after = after ≡ appended before bytes
PutTells Failed bytes before after = (n : ℕ) × (after ≡ appended before (take n bytes))
PutTells NoMemory bytes before after = after ≡ before

-- `put` fails only where the count of faults rose.
abbrev pub PutCause : PutAnswer → ℕ → ℕ → Type 0
PutCause Done before after = ⊤
PutCause Failed before after = Rose before after
PutCause NoMemory before after = ⊤
