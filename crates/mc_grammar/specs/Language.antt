-- A grammar with what a reader of it rests on: tables of what may stand next, marks, and values.
use Rattle.std.specs.Prelude.{◌≡◌, List, [], ◌∷◌, map, IsTrue}
use Rattle.mc_grammar.specs.Grammar.{Grammar, Symbol}
use Rattle.mc_grammar.specs.Reading.{Forest, bare, leaf, node, tokens_of, Fits}
use Rattle.mc_grammar.specs.Ahead.{Tables, Covers}

-- A language over the tokens S. Its grammar reads marked tokens, T: a bound one is under the limits
-- that the grammar has, a free one is not. A token has a value, and so has a node, by its
-- alternative, its tokens and the values of its trees.
pub record Language (K R A S T V : Type 0) : Type 0 where
  pub grammar : Grammar K R A T
  pub tables : Tables K R
  pub bound : S → T
  pub free : S → T
  pub plain : T → S
  pub token_value : S → V
  pub node_value : A → List S → List V → V

module _ {K R A S T V : Type 0} (l : Language K R A S T V) where
  -- The values of the trees of a forest, from left to right.
  abbrev pub values_of : Forest A T → List V
  values_of bare = []
  values_of (leaf token others) = l.token_value (l.plain token) ∷ values_of others
  values_of (node a inner others) =
      l.node_value a (map l.plain (tokens_of inner)) (values_of inner) ∷ values_of others

  -- The symbols read the marked tokens.
  pub record Reads (symbols : List (Symbol K R)) (tokens : List T) : Type 0 where
    pub forest : Forest A T
    pub fits : Fits l.grammar symbols forest
    pub same_tokens : tokens_of forest ≡ tokens

  -- The symbols read the tokens, all of them bound, with these values.
  pub record Means (symbols : List (Symbol K R)) (tokens : List S) (values : List V) : Type 0 where
    pub forest : Forest A T
    pub fits : Fits l.grammar symbols forest
    pub same_tokens : tokens_of forest ≡ map l.bound tokens
    pub same_values : values_of forest ≡ values

  -- The tables are right, a mark changes no token, and a free token is of each class of the bound
  -- one.
  pub record IsSound : Type 0 where
    pub covers : Covers l.grammar l.tables
    pub plain_bound : (token : S) → l.plain (l.bound token) ≡ token
    pub looser : (k : K) (token : S) → IsTrue (l.grammar.is_of k (l.bound token))
        → IsTrue (l.grammar.is_of k (l.free token))
