-- The laws of the crates below that the soundness of typing rests on.
use Rattle.std.proofs.Common.{◌≡◌, ◌⊎◌, ◌↔◌, ℕ, List}
use Rattle.std.specs.Prelude.{All, IsTrue}
use Rattle.std.specs.List.{Any}
use Rattle.mc_charset.specs.Chars.{IsWellFormed, is_spelled}
use Rattle.mc_charset.specs.declared.charset.Charset.{Charset}
use Rattle.mc_coerce.specs.Aggregate.{aggregate, counted}
use Rattle.mc_coerce.specs.Operand.{AreOperands, IsOperand}
use Rattle.mc_coerce.specs.Sets.{bin_collation_of}
use Rattle.mc_coerce.specs.declared.operand.Agg.TheVariants.{Uses}
use Rattle.mc_coerce.specs.declared.operand.Operand.{Operand}
use Rattle.mc_coerce.specs.declared.operand.Purpose.{Purpose}
use Rattle.mc_typing.proofs.Usual.{AreNamed}

pub record Known : Type 0 where
  pub named : AreNamed
  pub tells : (set : Charset) (text : List ℕ) → IsTrue (is_spelled set text) ↔ IsWellFormed set text
  pub by_sets : (list : List Operand) (set_of : ℕ → Charset) → All IsOperand list
      → All (λ a. a.charset ≡ set_of a.collation.0) list → AreOperands list
  pub operand : (list : List Operand) (purpose : Purpose) (together : Operand)
      → AreOperands list → aggregate list purpose ≡ Uses together → IsOperand together
  pub collation : (list : List Operand) (purpose : Purpose) (together : Operand)
      → aggregate list purpose ≡ Uses together
      → Any (λ a. (a.charset ≡ together.charset) × (a.collation ≡ together.collation))
      (counted list)
      ⊎ (together.collation.0 ≡ bin_collation_of together.charset)
