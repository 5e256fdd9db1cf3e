-- Marks of tokens: a free token does what a bound one does.
use Rattle.std.proofs.Common.{◌≡◌, inl, inr, ℕ, zero, suc, ◌+◌, ◌≤◌, List, [], ◌∷◌, ◌++◌, length}
use Rattle.std.proofs.Common.{refl, sym, ap, ◌∙◌, map, IsTrue, subst, arith}
use Rattle.mc_grammar.specs.Grammar.{Symbol, one, rule}
use Rattle.mc_grammar.specs.Reading.{Forest, bare, leaf, node, tokens_of, Fits}
use Rattle.mc_grammar.specs.Language.{Language, Reads, IsSound}
use Rattle.mc_grammar.specs.Descent.{Alike}

module _ {K R A S T V : Type 0} (l : Language K R A S T V) where
  pub alike_shorter : (n m : ℕ) (w : List T) (v : List S) → n ≤ m → Alike l m w v → Alike l n w v
  alike_shorter zero m w v lt h = tt
  alike_shorter (suc n) zero w v lt h = absurd (omega arith)
  alike_shorter (suc n) (suc m) [] [] lt h = tt
  alike_shorter (suc n) (suc m) [] (s ∷ v) lt h = h
  alike_shorter (suc n) (suc m) (x ∷ w) [] lt h = h
  alike_shorter (suc n) (suc m) (x ∷ w) (s ∷ v) lt h =
      (h.0, alike_shorter n m w v (omega arith) h.1)

  -- Behind a front that is known one looks further by its length.
  pub alike_free : (n m : ℕ) (front : List S) (w : List T) (v : List S)
      → n ≤ length front + m → Alike l m w v → Alike l n (map l.free front ++ w) (front ++ v)
  alike_free n m [] w v lt h = alike_shorter n m w v (omega arith) h
  alike_free zero m (s ∷ front) w v lt h = tt
  alike_free (suc n) m (s ∷ front) w v lt h =
      (inl refl, alike_free n m front w v (omega arith) h)

  pub alike_bound : (n m : ℕ) (front : List S) (w : List T) (v : List S)
      → n ≤ length front + m → Alike l m w v → Alike l n (map l.bound front ++ w) (front ++ v)
  alike_bound n m [] w v lt h = alike_shorter n m w v (omega arith) h
  alike_bound zero m (s ∷ front) w v lt h = tt
  alike_bound (suc n) m (s ∷ front) w v lt h =
      (inr refl, alike_bound n m front w v (omega arith) h)

  -- The latter tokens are of each class of the former.
  abbrev IsLooser : List T → List T → Type 0
  IsLooser [] [] = Unit
  IsLooser [] (y ∷ ys) = ⊥
  IsLooser (x ∷ xs) [] = ⊥
  IsLooser (x ∷ xs) (y ∷ ys) =
      ((k : K) → IsTrue (l.grammar.is_of k x) → IsTrue (l.grammar.is_of k y)) × IsLooser xs ys

  looser_itself : (ts : List T) → IsLooser ts ts
  looser_itself [] = tt
  looser_itself (x ∷ xs) = (λ k h. h, looser_itself xs)

  looser_front : (d : IsSound l) (front : List S) (w : List T)
      → IsLooser (map l.bound front ++ w) (map l.free front ++ w)
  looser_front d [] w = looser_itself w
  looser_front d (s ∷ front) w = (λ k h. d.looser k s h, looser_front d front w)

  record Loosened (xs ys us : List T) : Type 0 where
    front : List T
    behind : List T
    split : us ≡ front ++ behind
    looser_front : IsLooser xs front
    looser_behind : IsLooser ys behind

  loosened : (xs ys us : List T) → IsLooser (xs ++ ys) us → Loosened xs ys us
  loosened [] ys us h = record {
    front = [];
    behind = us;
    split = refl;
    looser_front = tt;
    looser_behind = h;
  }
  loosened (x ∷ xs) ys [] h = absurd h
  loosened (x ∷ xs) ys (u ∷ us) h =
      let q : Loosened xs ys us = loosened xs ys us h.1 in
      record {
        front = u ∷ q.front;
        behind = q.behind;
        split = ap (λ (z : List T). u ∷ z) q.split;
        looser_front = (h.0, q.looser_front);
        looser_behind = q.looser_behind;
      }

  reads_looser_of : (ss : List (Symbol K R)) (f : Forest A T) (us : List T) → Fits l.grammar ss f
      → IsLooser (tokens_of f) us → Reads l ss us
  reads_looser_of [] bare [] p h = record { forest = bare; fits = tt; same_tokens = refl }
  reads_looser_of [] bare (u ∷ us) p h = absurd h
  reads_looser_of [] (leaf x f) us p h = absurd p
  reads_looser_of [] (node a x f) us p h = absurd p
  reads_looser_of (one k ∷ ss) bare us p h = absurd p
  reads_looser_of (one k ∷ ss) (node a x f) us p h = absurd p
  reads_looser_of (one k ∷ ss) (leaf x f) [] p h = absurd h
  reads_looser_of (one k ∷ ss) (leaf x f) (u ∷ us) p h =
      let rest : Reads l ss us = reads_looser_of ss f us p.1 h.1 in
      record {
        forest = leaf u rest.forest;
        fits = (h.0 k p.0, rest.fits);
        same_tokens = ap (λ (z : List T). u ∷ z) rest.same_tokens;
      }
  reads_looser_of (rule r ∷ ss) bare us p h = absurd p
  reads_looser_of (rule r ∷ ss) (leaf x f) us p h = absurd p
  reads_looser_of (rule r ∷ ss) (node a x f) us p h =
      let q : Loosened (tokens_of x) (tokens_of f) us =
      loosened (tokens_of x) (tokens_of f) us h in
      let inner : Reads l (l.grammar.symbols a) q.front =
      reads_looser_of (l.grammar.symbols a) x q.front p.1 q.looser_front in
      let rest : Reads l ss q.behind = reads_looser_of ss f q.behind p.2 q.looser_behind in
      record {
        forest = node a inner.forest rest.forest;
        fits = (p.0, inner.fits, rest.fits);
        same_tokens = ap (λ (z : List T). z ++ tokens_of rest.forest) inner.same_tokens
            ∙ ap (λ (z : List T). q.front ++ z) rest.same_tokens ∙ sym q.split;
      }

  -- What is read with a bound front is read with a free one.
  pub reads_freed : (d : IsSound l) (ss : List (Symbol K R)) (front : List S) (w : List T)
      → Reads l ss (map l.bound front ++ w) → Reads l ss (map l.free front ++ w)
  reads_freed d ss front w p =
      reads_looser_of ss p.forest (map l.free front ++ w) p.fits
      (subst (λ (z : List T). IsLooser z (map l.free front ++ w)) (sym p.same_tokens)
      (looser_front d front w))
