-- What completes a reading: a token of each class, and a list of tokens for each rule.
use Rattle.std.specs.Prelude.{List, [], ◌∷◌, ◌++◌, IsTrue}
use Rattle.mc_grammar.specs.Grammar.{Symbol, one, rule}
use Rattle.mc_grammar.specs.Language.{Language, Reads}

-- A token of each class, and tokens of each rule.
pub record Completions (K R T : Type 0) : Type 0 where
  pub token_of : K → T
  pub tokens_of_rule : R → List T

-- The completions of symbols side by side.
abbrev pub completion : {K R T : Type 0} → Completions K R T → List (Symbol K R) → List T
completion c [] = []
completion c (one k ∷ symbols) = c.token_of k ∷ completion c symbols
completion c (rule r ∷ symbols) = c.tokens_of_rule r ++ completion c symbols

-- The completions are read.
pub record Complete {K R A S T V : Type 0} (l : Language K R A S T V)
    (c : Completions K R T) : Type 0 where
  pub each_class : (k : K) → IsTrue (l.grammar.is_of k (c.token_of k))
  pub each_rule : (r : R) → Reads l (rule r ∷ []) (c.tokens_of_rule r)
