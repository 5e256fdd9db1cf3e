-- What a descent by looking ahead may say of the tokens that it took: Aho, Lam, Sethi and Ullman,
-- Compilers, 4.4. A list of symbols is what is still to be read, as on the stack of a predictive
-- parser.
use Rattle.std.specs.Prelude.{◌≡◌, ◌⊎◌, ℕ, zero, suc, List, [], ◌∷◌, ◌++◌}
use Rattle.std.specs.Prelude.{map}
use Rattle.mc_grammar.specs.Grammar.{Symbol}
use Rattle.mc_grammar.specs.Ahead.{Ahead, BeginsWhole}
use Rattle.mc_grammar.specs.Language.{Language, Reads}

module _ {K R A S T V : Type 0} (l : Language K R A S T V) where
  -- What the symbols read begins as FOLLOW says.
  pub record Allows (after : Ahead K) (symbols : List (Symbol K R)) : Type 0 where
    pub begins : (tokens : List T) → Reads l symbols tokens
        → BeginsWhole l.grammar l.tables after tokens

  -- The token, with either mark.
  abbrev pub Stands : S → T → Type 0
  Stands token marked = (marked ≡ l.free token) ⊎ (marked ≡ l.bound token)

  -- The marked tokens are the tokens as far as the first `look` of them; the end is one to look at.
  abbrev pub Alike : ℕ → List T → List S → Type 0
  Alike zero marked tokens = Unit
  Alike (suc look) [] [] = Unit
  Alike (suc look) [] (token ∷ tokens) = ⊥
  Alike (suc look) (x ∷ marked) [] = ⊥
  Alike (suc look) (x ∷ marked) (token ∷ tokens) = Stands token x × Alike look marked tokens

  -- The front of the tokens leads from symbols to those that are left, where the first `look` of
  -- the rest were looked at: who reads on from there reads by the latter, and the other way round.
  pub record Leads (after : Ahead K) (look : ℕ) (symbols left : List (Symbol K R))
      (front rest : List S) : Type 0 where
    pub takes : (later : List (Symbol K R)) (w : List T) → Allows after later
        → Alike look w rest → Reads l (symbols ++ later) (map l.free front ++ w)
        → Reads l (left ++ later) w
    pub gives : (later : List (Symbol K R)) (w : List T) → Reads l (left ++ later) w
        → Reads l (symbols ++ later) (map l.bound front ++ w)

  -- The front can be read on, but not with the next token, or not to the end.
  pub record Stuck (after : Ahead K) (symbols : List (Symbol K R))
      (front rest : List S) : Type 0 where
    pub stops : (later : List (Symbol K R)) (w : List T) → Allows after later → Alike 1 w rest
        → Reads l (symbols ++ later) (map l.free front ++ w) → ⊥
    pub goes : (w : List T) × Reads l symbols (map l.bound front ++ w)

  -- The front can be read on, and with the next token only where that is free.
  pub record Deep (after : Ahead K) (symbols : List (Symbol K R)) (front : List S)
      (token : S) : Type 0 where
    pub stops : (later : List (Symbol K R)) (w : List T) → Allows after later
        → Reads l (symbols ++ later) (map l.bound front ++ (l.bound token ∷ w)) → ⊥
    pub goes : (w : List T) × Reads l symbols (map l.bound front ++ w)
    pub goes_free : (w : List T) × Reads l symbols (map l.free front ++ (l.free token ∷ w))
