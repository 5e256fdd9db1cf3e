-- A result is an operand again, of a collation that an operand has or of its set's binary one.
use Rattle.std.proofs.Common.{◌≡◌, ◌<◌, ◌⊎◌, ltb, List, refl, sym, subst, arith, inl, inr}
use Rattle.std.specs.List.{Any, Contains}
use Rattle.std.proofs.lemmas.Bool.{ltb-true}
use Rattle.std.proofs.lemmas.List.Elements.{All-contains}
use Rattle.mc_charset.specs.declared.charset.Charset.{Charset}
use Rattle.mc_charset.specs.declared.charset.Charset.TheVariants.{Binary}
use Rattle.mc_convert.specs.declared.repertoire.Repertoire.TheVariants.{Ascii}
use Rattle.mc_coerce.specs.declared.operand.Operand.{Operand}
use Rattle.mc_coerce.specs.declared.operand.Purpose.{Purpose}
use Rattle.mc_coerce.specs.declared.operand.Agg.TheVariants.{Uses}
use Rattle.mc_coerce.specs.declared.demand.Demand.{Demand}
use Rattle.mc_coerce.specs.declared.demand.Demand.TheVariants.{Beat, Share}
use Rattle.mc_coerce.specs.Levels.{ignorable}
use Rattle.mc_coerce.specs.Operand.{built_in_count, IsOperand, AreOperands}
use Rattle.mc_coerce.specs.Sets.{bin_collation_of}
use Rattle.mc_coerce.specs.Aggregate.{counted, of_bin, aggregate}
use Rattle.mc_coerce.specs.Demand.{result_of}
use Rattle.mc_coerce.proofs.SetTests.{each_set}
use Rattle.mc_coerce.proofs.Origins.{AreOperands-counted, aggregate-from}

is_built_in : (set : Charset) → bin_collation_of set < built_in_count
is_built_in set =
    ltb-true (bin_collation_of set) built_in_count
    (each_set (λ (s : Charset). ltb (bin_collation_of s) built_in_count) refl set)

result_of-operand : (demand : Demand) (operands : List Operand) (a : Operand) → IsOperand a
    → IsOperand (result_of demand operands a)
result_of-operand Beat operands a h = record { level = h.level; bin = h.bin }
result_of-operand Share operands a h = record {
  level = omega arith;
  bin = ((λ e. is_built_in a.charset), (λ e. refl));
}

none-operand : IsOperand (of_bin Binary ignorable Ascii)
none-operand = record { level = omega arith; bin = ((λ e. is_built_in Binary), (λ e. refl)) }

pub result_operand : (list : List Operand) (purpose : Purpose) (together : Operand)
    → AreOperands list → aggregate list purpose ≡ Uses together → IsOperand together
result_operand list purpose together ops h =
    elim (aggregate-from list purpose together h) [
      | inl k ↦ subst IsOperand (sym k.1) none-operand
      | inr k ↦ subst IsOperand (sym k.2.is)
          (result_of-operand k.0 (counted list) k.1
          (All-contains IsOperand (counted list) k.1
          (AreOperands-counted list ops).each k.2.within))
    ]

-- The set and the collation of an operand, or the set's binary collation.
abbrev Known : List Operand → Operand → Type 0
Known operands r =
    Any (λ (a : Operand). (a.charset ≡ r.charset) × (a.collation ≡ r.collation)) operands
    ⊎ (r.collation.0 ≡ bin_collation_of r.charset)

result_of-known : (demand : Demand) (operands : List Operand) (a : Operand) → Contains operands a
    → Known operands (result_of demand operands a)
result_of-known Beat operands a c = inl (c.0, a, c.1, c.2, (refl, refl))
result_of-known Share operands a c = inr refl

pub result_known : (list : List Operand) (purpose : Purpose) (together : Operand)
    → aggregate list purpose ≡ Uses together
    → Any (λ (a : Operand). (a.charset ≡ together.charset) × (a.collation ≡ together.collation))
    (counted list)
    ⊎ (together.collation.0 ≡ bin_collation_of together.charset)
result_known list purpose together h =
    elim (aggregate-from list purpose together h) [
      | inl k ↦ subst (Known (counted list)) (sym k.1) (inr refl)
      | inr k ↦ subst (Known (counted list)) (sym k.2.is)
          (result_of-known k.0 (counted list) k.1 k.2.within)
    ]
