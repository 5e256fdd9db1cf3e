-- Tokens that a reading goes on from: the viable prefixes of Aho, Lam, Sethi and Ullman, Compilers,
-- 4.1.3, where a parser finds an error as soon as one can be seen.
use Rattle.std.specs.Prelude.{◌≡◌, ℕ, Bool, List, [], ◌∷◌, ◌++◌, map}
use Rattle.mc_grammar.specs.Grammar.{Grammar}
use Rattle.mc_grammar.specs.Reading.{Forest, IsReading}
use Rattle.mc_grammar.specs.Nest.{bound, free, nested, AreWithin}

module _ {K R A T : Type 0} (g : Grammar K R A T) where
  -- Some tokens behind these make a reading by the rule.
  pub record GoesOn (r : R) (tokens : List T) : Type 0 where
    pub later : List T
    pub reading : Forest A T
    pub reads : IsReading g r (tokens ++ later) reading

  -- Some tokens behind these make one in which none of these stands deeper than the limit.
  pub record GoesOnWithin (deeper : A → List Bool) (limit : ℕ) (r : R)
      (tokens : List T) : Type 0 where
    pub later : List T
    pub reading : Forest A T
    pub reads : IsReading g r (tokens ++ later) reading
    pub within : AreWithin limit (nested deeper 0 [] reading)
        (map (λ x. bound x) tokens ++ map (λ x. free x) later)

  -- A reading of all the tokens by the rule, none of them deeper than the limit, and its value,
  -- where `view` gives the values of the trees of a forest.
  pub record Whole {V : Type 0} (deeper : A → List Bool) (limit : ℕ) (r : R)
      (view : Forest A T → List V) (tokens : List T) (value : V) : Type 0 where
    pub reading : Forest A T
    pub reads : IsReading g r tokens reading
    pub within : AreWithin limit (nested deeper 0 [] reading) (map (λ x. bound x) tokens)
    pub means : view reading ≡ value ∷ []
