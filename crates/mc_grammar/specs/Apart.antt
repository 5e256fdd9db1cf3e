-- Grammars whose alternatives are told apart: no two of one rule read one whole list of tokens. The
-- comparison goes in lock step; where FIRST and FOLLOW exclude each other it ends, as in Aho, Lam,
-- Sethi and Ullman, Compilers, 4.4.
use Rattle.std.specs.Prelude.{◌≡◌, ◌&&◌, ◌||◌, ℕ, zero, suc, Bool, true, false}
use Rattle.std.specs.Prelude.{IsTrue}
use Rattle.std.specs.Prelude.{List, [], ◌∷◌, ◌++◌}
use Rattle.mc_grammar.specs.Grammar.{Grammar, Symbol, one, rule}
use Rattle.mc_grammar.specs.Ahead.{Ahead, Tables, every, exclude, starts, is_followed, Covers}

module _ {K R A T : Type 0} (g : Grammar K R A T) (t : Tables K R) where
  -- One step of the comparison below: tokens of two classes are taken for the same token, a rule
  -- that both lists begin with for the same tree, and another rule is replaced by its alternatives.
  abbrev pub step : (List (Symbol K R) → Ahead K → List (Symbol K R) → Ahead K → Bool)
      → List (Symbol K R) → Ahead K → List (Symbol K R) → Ahead K → Bool
  step apart (one k ∷ ss) after (one l ∷ zz) after' = apart ss after zz after'
  step apart (rule r ∷ ss) after (rule q ∷ zz) after' =
      elim (t.are_same r q && (is_followed t (rule r ∷ ss) after && is_followed t
      (rule q ∷ zz) after')) [
        | true ↦ apart ss after zz after'
        | false ↦ every
            (λ a. apart (g.symbols a ++ ss) after (rule q ∷ zz) after') (g.alternatives r)
      ]
  step apart (rule r ∷ ss) after zz after' =
      every (λ a. apart (g.symbols a ++ ss) after zz after') (g.alternatives r)
  step apart ss after (rule q ∷ zz) after' =
      every (λ b. apart ss after (g.symbols b ++ zz) after') (g.alternatives q)
  step apart ss after zz after' = false

  -- The two lists of symbols, each with what may stand after it, read no tokens in common.
  abbrev pub are_distinct : ℕ → List (Symbol K R) → Ahead K → List (Symbol K R) → Ahead K
      → Bool
  are_distinct zero ss after zz after' = false
  are_distinct (suc depth) ss after zz after' =
      (exclude t (starts t ss after) (starts t zz after')
      && (is_followed t ss after && is_followed t zz after'))
      || step (are_distinct depth) ss after zz after'

  -- No two of the alternatives read tokens in common.
  abbrev pub all_distinct : ℕ → Ahead K → List A → Bool
  all_distinct depth after [] = true
  all_distinct depth after (a ∷ as') =
      every (λ b. are_distinct depth (g.symbols a) after (g.symbols b) after) as' && all_distinct
      depth after as'

  -- The alternatives of each rule are told apart, with tables that say what is so.
  pub record ToldApart (depth : ℕ) : Type 0 where
    pub covers : Covers g t
    pub same_rules : (r q : R) → IsTrue (t.are_same r q) → r ≡ q
    pub each_rule : (r : R) → IsTrue (all_distinct depth (t.follows r) (g.alternatives r))
