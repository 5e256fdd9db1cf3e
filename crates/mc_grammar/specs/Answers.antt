-- The three answers of a parser of whole token lists, each with its place: as much is before it as
-- goes on. Aho, Lam, Sethi and Ullman, Compilers, 4.1.3.
use Rattle.std.specs.Prelude.{◌≡◌, ℕ, Bool, List, [], ◌∷◌, ◌++◌, map}
use Rattle.mc_grammar.specs.Grammar.{Grammar}
use Rattle.mc_grammar.specs.Reading.{Forest, IsReading}
use Rattle.mc_grammar.specs.Nest.{bound, nested, AreWithin}
use Rattle.mc_grammar.specs.Goes.{GoesOn, GoesOnWithin}

module _ {K R A T : Type 0} (g : Grammar K R A T) (deeper : A → List Bool) (limit : ℕ)
    (r : R) where
  -- The tokens have a reading by the rule, none of them deeper than the limit.
  pub record HasReading (tokens : List T) : Type 0 where
    pub reading : Forest A T
    pub reads : IsReading g r tokens reading
    pub within : AreWithin limit (nested deeper 0 [] reading) (map (λ x. bound x) tokens)

  -- Together with the next token the front does not go on; at the end it has no reading.
  abbrev pub GoesNoFurther : List T → List T → Type 0
  GoesNoFurther front [] = (reading : Forest A T) → IsReading g r front reading → ⊥
  GoesNoFurther front (next ∷ behind) = GoesOn g r (front ++ (next ∷ [])) → ⊥

  -- Together with the next token the front goes on, but not within the limit.
  abbrev pub GoesDeeper : List T → List T → Type 0
  GoesDeeper front [] = ⊥
  GoesDeeper front (next ∷ behind) =
      GoesOn g r (front ++ (next ∷ []))
      × (GoesOnWithin g deeper limit r (front ++ (next ∷ [])) → ⊥)

  -- The tokens have no reading from this place on, and none that is too deep before it.
  pub record HasNoReading (tokens front rest : List T) : Type 0 where
    pub split : tokens ≡ front ++ rest
    pub goes : GoesOnWithin g deeper limit r front
    pub stops : GoesNoFurther front rest

  -- The tokens are too deep at this place, and have readings up to it.
  pub record HasDeepReading (tokens front rest : List T) : Type 0 where
    pub split : tokens ≡ front ++ rest
    pub goes : GoesOnWithin g deeper limit r front
    pub deeper_on : GoesDeeper front rest
