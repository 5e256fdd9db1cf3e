-- Readings: forests of parse trees, Hopcroft, Motwani and Ullman, 5.2.
use Rattle.std.specs.Prelude.{◌≡◌, ◌⊎◌, List, [], ◌∷◌, ◌++◌, IsTrue}
use Rattle.mc_grammar.specs.Grammar.{Grammar, Symbol, one, rule}

-- Trees side by side. A leaf is a token; a node is an alternative and the trees of its symbols.
pub data Forest (A T : Type 0) : Type 0 where
  bare : Forest A T
  leaf : T → Forest A T → Forest A T
  node : A → Forest A T → Forest A T → Forest A T

-- The tokens of a forest, from left to right.
abbrev pub tokens_of : {A T : Type 0} → Forest A T → List T
tokens_of bare = []
tokens_of (leaf token others) = token ∷ tokens_of others
tokens_of (node alternative inner others) = tokens_of inner ++ tokens_of others

-- It is one of the list.
abbrev pub IsOneOf : {A : Type 0} → A → List A → Type 0
IsOneOf a [] = ⊥
IsOneOf a (b ∷ bs) = (a ≡ b) ⊎ IsOneOf a bs

-- The forest has one tree for each of the symbols: for a class a token of it, for a rule a node of
-- one of its alternatives.
abbrev pub Fits : {K R A T : Type 0} → Grammar K R A T → List (Symbol K R) → Forest A T
    → Type 0
Fits g [] bare = Unit
Fits g (one class ∷ symbols) (leaf token others) =
    IsTrue (g.is_of class token) × Fits g symbols others
Fits g (rule r ∷ symbols) (node a inner others) =
    IsOneOf a (g.alternatives r) × Fits g (g.symbols a) inner × Fits g symbols others
Fits g _ _ = ⊥

-- The forest is a reading of the tokens by a rule.
pub record IsReading {K R A T : Type 0} (g : Grammar K R A T) (r : R) (tokens : List T)
    (forest : Forest A T) : Type 0 where
  pub fits : Fits g (rule r ∷ []) forest
  pub same_tokens : tokens_of forest ≡ tokens
