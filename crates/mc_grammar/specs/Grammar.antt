-- Context-free grammars as data: Hopcroft, Motwani and Ullman, Introduction to Automata Theory,
-- 5.1.
use Rattle.std.specs.Prelude.{Bool, List}

-- What an alternative has at a place: one token of a class, or what a rule reads.
pub data Symbol (K R : Type 0) : Type 0 where
  one : K → Symbol K R
  rule : R → Symbol K R

-- A grammar: the alternatives of each rule, the symbols of each alternative in their order, and
-- which tokens are of a class.
pub record Grammar (K R A T : Type 0) : Type 0 where
  pub alternatives : R → List A
  pub symbols : A → List (Symbol K R)
  pub is_of : K → T → Bool
