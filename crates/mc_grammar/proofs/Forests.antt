-- Forests side by side, and how many trees and tokens they have.
use Rattle.std.proofs.Common.{◌≡◌, ℕ, ◌+◌, List, [], ◌∷◌, ◌++◌, refl, sym, ap, ◌∙◌, append_assoc}
use Rattle.std.proofs.Common.{arith}
use Rattle.mc_grammar.specs.Grammar.{Grammar, Symbol, one, rule}
use Rattle.mc_grammar.specs.Reading.{Forest, bare, leaf, node, tokens_of, Fits}

-- How many leaves and nodes a forest has.
abbrev pub size : {A T : Type 0} → Forest A T → ℕ
size bare = 0
size (leaf token others) = 1 + size others
size (node a inner others) = 1 + size inner + size others

-- Two forests side by side.
abbrev pub beside : {A T : Type 0} → Forest A T → Forest A T → Forest A T
beside bare h = h
beside (leaf token others) h = leaf token (beside others h)
beside (node a inner others) h = node a inner (beside others h)

pub size-beside : {A T : Type 0} (f h : Forest A T) → size (beside f h) ≡ size f + size h
size-beside bare h = omega arith
size-beside (leaf token others) h = omega (arith, size-beside others h)
size-beside (node a inner others) h = omega (arith, size-beside others h)

pub tokens_of-beside : {A T : Type 0} (f h : Forest A T)
    → tokens_of (beside f h) ≡ tokens_of f ++ tokens_of h
tokens_of-beside bare h = refl
tokens_of-beside (leaf token others) h = ap (λ ts. token ∷ ts) (tokens_of-beside others h)
tokens_of-beside (node a inner others) h =
    ap (λ ts. tokens_of inner ++ ts) (tokens_of-beside others h)
    ∙ sym (append_assoc (tokens_of inner) (tokens_of others) (tokens_of h))

module _ {K R A T : Type 0} (g : Grammar K R A T) where
  pub Fits-beside : (ss zz : List (Symbol K R)) (f h : Forest A T) → Fits g ss f → Fits g zz h
      → Fits g (ss ++ zz) (beside f h)
  Fits-beside [] zz bare h p q = q
  Fits-beside [] zz (leaf token others) h p q = absurd p
  Fits-beside [] zz (node a inner others) h p q = absurd p
  Fits-beside (one k ∷ ss) zz bare h p q = absurd p
  Fits-beside (one k ∷ ss) zz (leaf token others) h p q = (p.0, Fits-beside ss zz others h p.1 q)
  Fits-beside (one k ∷ ss) zz (node a inner others) h p q = absurd p
  Fits-beside (rule r ∷ ss) zz bare h p q = absurd p
  Fits-beside (rule r ∷ ss) zz (leaf token others) h p q = absurd p
  Fits-beside (rule r ∷ ss) zz (node a inner others) h p q =
      (p.0, p.1, Fits-beside ss zz others h p.2 q)
