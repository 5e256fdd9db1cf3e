-- Chains `X {sep X}`: a rule that begins again at the end of its alternatives.
use Rattle.std.specs.Prelude.{◌≡◌, ℕ, List, [], ◌∷◌, ◌++◌}
use Rattle.mc_grammar.specs.Grammar.{rule}
use Rattle.mc_grammar.specs.Ahead.{Ahead}
use Rattle.mc_grammar.specs.Language.{Language, Means}
use Rattle.mc_grammar.specs.Descent.{Leads}

module _ {K R A S T V : Type 0} (l : Language K R A S T V) where
  -- Links of the chain `more` are read: what its value is of, they come before what the rest of the
  -- chain has.
  pub record Chain {X : Type 0} (after : Ahead K) (look : ℕ) (more : R) (value : List X → V)
      (links : List X) (tokens front rest : List S) : Type 0 where
    pub split : tokens ≡ front ++ rest
    pub leads : Leads l after look (rule more ∷ []) (rule more ∷ []) front rest
    pub collects : (later : List S) (others : List X)
        → Means l (rule more ∷ []) later (value others ∷ [])
        → Means l (rule more ∷ []) (front ++ later) (value (links ++ others) ∷ [])
