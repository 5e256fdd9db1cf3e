-- A text of an operand loses no character to the set of the result.
use Rattle.std.proofs.Common.{◌≡◌, ℕ, ◌≤◌, List, [], ◌∷◌, inl, inr, arith, subst, refl}
use Rattle.std.specs.Prelude.{Some, None, Option, IsSome, option_and_then, ◌++◌}
use Rattle.std.specs.List.{Contains}
use Rattle.mc_charset.specs.declared.charset.Charset.{Charset}
use Rattle.mc_charset.specs.Chars.{spell, spell_all, chars, Spells, IsWellFormed}
use Rattle.mc_convert.specs.Classes.{rank, HasIn, HasAll, IsRepertoire, cap_of}
use Rattle.mc_convert.specs.Conversion.{IsLossless}
use Rattle.mc_convert.specs.declared.repertoire.Repertoire.{Repertoire}
use Rattle.mc_coerce.specs.declared.operand.Operand.{Operand}
use Rattle.mc_coerce.specs.declared.operand.Purpose.{Purpose}
use Rattle.mc_coerce.specs.declared.operand.Agg.TheVariants.{Uses}
use Rattle.mc_coerce.specs.Operand.{AreOperands}
use Rattle.mc_coerce.specs.Aggregate.{counted, aggregate}
use Rattle.mc_coerce.proofs.Repertoires.{aggregate-keeps}

-- What the laws of the layers below say.

abbrev pub Encodes : Type 0
Encodes = (set : Charset) (text : List ℕ) → IsWellFormed set text → Spells set (chars set text) text

abbrev pub CapHasAll : Type 0
CapHasAll = (set : Charset) (code : ℕ) → IsSome (spell set code) → HasIn set (cap_of set) code

abbrev pub WithinCap : Type 0
WithinCap = (from to : Charset) (text : List ℕ) (class : Repertoire)
    → IsWellFormed from text → IsRepertoire from text class → rank class ≤ rank (cap_of to)
    → IsLossless from to text

-- The cap of a set has the characters of its texts.

parts : (front all : Option (List ℕ)) (text : List ℕ)
    → option_and_then (λ x. option_and_then (λ rest. Some (x ++ rest)) all) front ≡ Some text
    → IsSome front × ((rest : List ℕ) × (all ≡ Some rest))
parts None all text h = absurd (cc)
parts (Some x) None text h = absurd (cc)
parts (Some x) (Some rest) text h = (refl, (rest, refl))

cap_has : CapHasAll → (set : Charset) (codes text : List ℕ) → Spells set codes text
    → HasAll set (cap_of set) codes
unfolding spell_all
cap_has f set [] text s = tt
cap_has f set (code ∷ codes) text s =
    let p = parts (spell set code) (spell_all set codes) text s in
    (f set code p.0, cap_has f set codes p.1.0 p.1.1)

pub none_lost : Encodes → CapHasAll → WithinCap → (list : List Operand) (purpose : Purpose)
    (together a : Operand) (text : List ℕ) (class : Repertoire) → AreOperands list
    → aggregate list purpose ≡ Uses together → Contains (counted list) a
    → IsWellFormed a.charset text → IsRepertoire a.charset text class
    → rank class ≤ rank a.repertoire → IsLossless a.charset together.charset text
none_lost e f g list purpose together a text class ops h c w i r =
    g a.charset together.charset text class w i
    (elim (aggregate-keeps list purpose together a ops h c) [
      | inl k ↦ subst (λ (s : Charset). rank class ≤ rank (cap_of s)) k
          (i.least (cap_of a.charset)
          (cap_has f a.charset (chars a.charset text) text (e a.charset text w)))
      | inr k ↦ omega arith
    ])
