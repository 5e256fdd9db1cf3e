-- Where the alternatives are told apart, a list of tokens has at most one reading.
use Rattle.std.proofs.Common.{◌≡◌, ◌⊎◌, inl, inr, ◌&&◌, ℕ, zero, suc, ◌+◌, ◌<◌, ◌≤◌, Bool, true}
use Rattle.std.proofs.Common.{false, List, [], ◌∷◌, ◌++◌, refl, sym, ap, ◌∙◌, append_assoc, arith}
use Rattle.std.proofs.Common.{IsTrue, subst}
use Rattle.mc_grammar.specs.Grammar.{Grammar, Symbol, one, rule}
use Rattle.mc_grammar.specs.Reading.{Forest, bare, leaf, node, tokens_of, IsOneOf, Fits, IsReading}
use Rattle.mc_grammar.specs.Ahead.{Ahead, Tables, BeginsWhole, is_behind, is_followed, every}
use Rattle.mc_grammar.specs.Ahead.{exclude, is_part, starts}
use Rattle.mc_grammar.specs.Apart.{step, are_distinct, all_distinct, ToldApart}
use Rattle.mc_grammar.proofs.Forests.{size, beside, size-beside, tokens_of-beside, Fits-beside}
use Rattle.mc_grammar.proofs.Ahead.{both, either, every_one, begins_part, excludes, begins_as}
use Rattle.mc_grammar.proofs.Ahead.{followed}

branch : (c a b : Bool) → IsTrue (elim c [ true ↦ a | false ↦ b ])
    → (IsTrue c × IsTrue a) ⊎ IsTrue b
branch true a b h = inl (refl, h)
branch false a b h = inr h

module _ {K R A T : Type 0} (g : Grammar K R A T) (t : Tables K R) (depth : ℕ)
    (d : ToldApart g t depth) where
  -- Two nodes of one rule that read the same tokens, and have fewer than `n` leaves and nodes
  -- inside, are the same.
  abbrev SameNodes : ℕ → Type 0
  SameNodes n = (r : R) (a b : A) (x y : Forest A T) (u v : List T) → size x + size y < n
      → IsOneOf a (g.alternatives r) → IsOneOf b (g.alternatives r) → Fits g (g.symbols a) x
      → Fits g (g.symbols b) y
      → tokens_of x ++ u ≡ tokens_of y ++ v → BeginsWhole g t (t.follows r) u
      → BeginsWhole g t (t.follows r) v
      → (a ≡ b) × (x ≡ y) × (u ≡ v)

  same_forests : (n : ℕ) → SameNodes n
      → (ss : List (Symbol K R)) (after : Ahead K) (f h : Forest A T) (u v : List T)
      → size f + size h ≤ n → Fits g ss f → Fits g ss h → IsTrue (is_followed t ss after)
      → tokens_of f ++ u ≡ tokens_of h ++ v → BeginsWhole g t after u → BeginsWhole g t after v
      → (f ≡ h) × (u ≡ v)
  same_forests n H [] after bare bare u v lt p q w e bu bv = (refl, e)
  same_forests n H [] after bare (leaf token h) u v lt p q w e bu bv = absurd q
  same_forests n H [] after bare (node b y h) u v lt p q w e bu bv = absurd q
  same_forests n H [] after (leaf token f) h u v lt p q w e bu bv = absurd p
  same_forests n H [] after (node a x f) h u v lt p q w e bu bv = absurd p
  same_forests n H (one k ∷ ss) after bare h u v lt p q w e bu bv = absurd p
  same_forests n H (one k ∷ ss) after (node a x f) h u v lt p q w e bu bv = absurd p
  same_forests n H (one k ∷ ss) after (leaf token f) bare u v lt p q w e bu bv = absurd q
  same_forests n H (one k ∷ ss) after (leaf token f) (node b y h) u v lt p q w e bu bv = absurd q
  same_forests n H (one k ∷ ss) after (leaf token f) (leaf token' h) u v lt p q w e bu bv =
      let tails : tokens_of f ++ u ≡ tokens_of h ++ v = cc in
      let heads : token ≡ token' = cc in
      let w' : IsTrue (is_behind t (starts t ss after) (t.behind k))
      × IsTrue (is_followed t ss after) =
      both (is_behind t (starts t ss after) (t.behind k)) (is_followed t ss after) w in
      let rest : (f ≡ h) × (u ≡ v) =
      same_forests n H ss after f h u v (omega arith) p.1 q.1 w'.1 tails bu bv in
      let others : f ≡ h = rest.0 in
      ((cc), rest.1)
  same_forests n H (rule r ∷ ss) after bare h u v lt p q w e bu bv = absurd p
  same_forests n H (rule r ∷ ss) after (leaf token f) h u v lt p q w e bu bv = absurd p
  same_forests n H (rule r ∷ ss) after (node a x f) bare u v lt p q w e bu bv = absurd q
  same_forests n H (rule r ∷ ss) after (node a x f) (leaf token' h) u v lt p q w e bu bv = absurd q
  same_forests n H (rule r ∷ ss) after (node a x f) (node b y h) u v lt p q w e bu bv =
      let w' : IsTrue (is_part t (starts t ss after) (t.follows r))
      × IsTrue (is_followed t ss after) =
      both (is_part t (starts t ss after) (t.follows r)) (is_followed t ss after) w in
      let e' : tokens_of x ++ (tokens_of f ++ u) ≡ tokens_of y ++ (tokens_of h ++ v) =
      sym (append_assoc (tokens_of x) (tokens_of f) u) ∙ e
      ∙ append_assoc (tokens_of y) (tokens_of h) v in
      let cu : BeginsWhole g t (t.follows r) (tokens_of f ++ u) =
      begins_part g t d.covers (starts t ss after) (t.follows r) _ w'.0
      (begins_as g t d.covers ss after f u p.2 w'.1 bu) in
      let cv : BeginsWhole g t (t.follows r) (tokens_of h ++ v) =
      begins_part g t d.covers (starts t ss after) (t.follows r) _ w'.0
      (begins_as g t d.covers ss after h v q.2 w'.1 bv) in
      let nodes : (a ≡ b) × (x ≡ y) × (tokens_of f ++ u ≡ tokens_of h ++ v) =
      H r a b x y (tokens_of f ++ u) (tokens_of h ++ v) (omega arith) p.0 q.0 p.1 q.1 e' cu cv in
      let rest : (f ≡ h) × (u ≡ v) =
      same_forests n H ss after f h u v (omega arith) p.2 q.2 w'.1 nodes.2 bu bv in
      let alternatives : a ≡ b = nodes.0 in
      let inner : x ≡ y = nodes.1 in
      let others : f ≡ h = rest.0 in
      ((cc), rest.1)

  -- What a comparison of symbols promises of forests with at most `n` leaves and nodes.
  abbrev NoneInCommon : ℕ → (List (Symbol K R) → Ahead K → List (Symbol K R) → Ahead K → Bool)
      → Type 0
  NoneInCommon n apart = (ss : List (Symbol K R)) (after : Ahead K) (zz : List (Symbol K R))
      (after' : Ahead K) (f h : Forest A T) (u v : List T)
      → size f + size h ≤ n → Fits g ss f → Fits g zz h → tokens_of f ++ u ≡ tokens_of h ++ v
      → BeginsWhole g t after u → BeginsWhole g t after' v
      → IsTrue (apart ss after zz after') → ⊥

  module _ (n : ℕ) (H : SameNodes n)
      (apart : List (Symbol K R) → Ahead K → List (Symbol K R) → Ahead K → Bool)
      (N : NoneInCommon n apart) where
    opened_left : (r : R) (ss : List (Symbol K R)) (after : Ahead K) (zz : List (Symbol K R))
        (after' : Ahead K) (f h : Forest A T) (u v : List T)
        → size f + size h ≤ n → Fits g (rule r ∷ ss) f → Fits g zz h
        → tokens_of f ++ u ≡ tokens_of h ++ v → BeginsWhole g t after u
        → BeginsWhole g t after' v
        → IsTrue (every (λ a. apart (g.symbols a ++ ss) after zz after') (g.alternatives r)) → ⊥
    opened_left r ss after zz after' bare h u v lt p q e bu bv c = p
    opened_left r ss after zz after' (leaf token f) h u v lt p q e bu bv c = p
    opened_left r ss after zz after' (node a x f) h u v lt p q e bu bv c =
        N (g.symbols a ++ ss) after zz after' (beside x f) h u v (omega (arith, size-beside x f))
        (Fits-beside g (g.symbols a) ss x f p.1 p.2) q
        (ap (λ ts. ts ++ u) (tokens_of-beside x f) ∙ e) bu bv
        (every_one (λ a. apart (g.symbols a ++ ss) after zz after') a (g.alternatives r) c p.0)

    opened_right : (r : R) (ss : List (Symbol K R)) (after : Ahead K) (zz : List (Symbol K R))
        (after' : Ahead K) (f h : Forest A T) (u v : List T)
        → size f + size h ≤ n → Fits g ss f → Fits g (rule r ∷ zz) h
        → tokens_of f ++ u ≡ tokens_of h ++ v → BeginsWhole g t after u
        → BeginsWhole g t after' v
        → IsTrue (every (λ a. apart ss after (g.symbols a ++ zz) after') (g.alternatives r)) → ⊥
    opened_right r ss after zz after' f bare u v lt p q e bu bv c = q
    opened_right r ss after zz after' f (leaf token h) u v lt p q e bu bv c = q
    opened_right r ss after zz after' f (node a y h) u v lt p q e bu bv c =
        N ss after (g.symbols a ++ zz) after' f (beside y h) u v (omega (arith, size-beside y h)) p
        (Fits-beside g (g.symbols a) zz y h q.1 q.2)
        (e ∙ sym (ap (λ ts. ts ++ v) (tokens_of-beside y h))) bu bv
        (every_one (λ a. apart ss after (g.symbols a ++ zz) after') a (g.alternatives r) c q.0)

    same_token : (k l : K) (ss : List (Symbol K R)) (after : Ahead K) (zz : List (Symbol K R))
        (after' : Ahead K) (f h : Forest A T) (u v : List T)
        → size f + size h ≤ n → Fits g (one k ∷ ss) f → Fits g (one l ∷ zz) h
        → tokens_of f ++ u ≡ tokens_of h ++ v → BeginsWhole g t after u
        → BeginsWhole g t after' v
        → IsTrue (apart ss after zz after') → ⊥
    same_token k l ss after zz after' bare h u v lt p q e bu bv c = p
    same_token k l ss after zz after' (node a x f) h u v lt p q e bu bv c = p
    same_token k l ss after zz after' (leaf token f) bare u v lt p q e bu bv c = q
    same_token k l ss after zz after' (leaf token f) (node b y h) u v lt p q e bu bv c = q
    same_token k l ss after zz after' (leaf token f) (leaf token' h) u v lt p q e bu bv c =
        let tails : tokens_of f ++ u ≡ tokens_of h ++ v = cc in
        N ss after zz after' f h u v (omega arith) p.1 q.1 tails bu bv c

    same_rule : (r q : R) (ss : List (Symbol K R)) (after : Ahead K) (zz : List (Symbol K R))
        (after' : Ahead K) (f h : Forest A T) (u v : List T)
        → size f + size h ≤ n → Fits g (rule r ∷ ss) f → Fits g (rule q ∷ zz) h
        → tokens_of f ++ u ≡ tokens_of h ++ v → BeginsWhole g t after u
        → BeginsWhole g t after' v
        → r ≡ q → IsTrue (is_followed t (rule r ∷ ss) after)
        → IsTrue (is_followed t (rule q ∷ zz) after')
        → IsTrue (apart ss after zz after') → ⊥
    same_rule r r' ss after zz after' bare h u v lt p q e bu bv same cf ch c = p
    same_rule r r' ss after zz after' (leaf token f) h u v lt p q e bu bv same cf ch c = p
    same_rule r r' ss after zz after' (node a x f) bare u v lt p q e bu bv same cf ch c = q
    same_rule r r' ss after zz after' (node a x f)
        (leaf token' h) u v lt p q e bu bv same cf ch c = q
    same_rule r r' ss after zz after' (node a x f) (node b y h) u v lt p q e bu bv same cf ch c =
        let wf : IsTrue (is_part t (starts t ss after) (t.follows r))
        × IsTrue (is_followed t ss after) =
        both (is_part t (starts t ss after) (t.follows r)) (is_followed t ss after) cf in
        let wh : IsTrue (is_part t (starts t zz after') (t.follows r'))
        × IsTrue (is_followed t zz after') =
        both (is_part t (starts t zz after') (t.follows r')) (is_followed t zz after') ch in
        let e' : tokens_of x ++ (tokens_of f ++ u) ≡ tokens_of y ++ (tokens_of h ++ v) =
        sym (append_assoc (tokens_of x) (tokens_of f) u) ∙ e
        ∙ append_assoc (tokens_of y) (tokens_of h) v in
        let cu : BeginsWhole g t (t.follows r) (tokens_of f ++ u) =
        begins_part g t d.covers (starts t ss after) (t.follows r) _ wf.0
        (begins_as g t d.covers ss after f u p.2 wf.1 bu) in
        let cv' : BeginsWhole g t (t.follows r') (tokens_of h ++ v) =
        begins_part g t d.covers (starts t zz after') (t.follows r') _ wh.0
        (begins_as g t d.covers zz after' h v q.2 wh.1 bv) in
        let cv : BeginsWhole g t (t.follows r) (tokens_of h ++ v) =
        subst (λ (s : R). BeginsWhole g t (t.follows s) (tokens_of h ++ v)) (sym same) cv' in
        let j : IsOneOf b (g.alternatives r) =
        subst (λ (s : R). IsOneOf b (g.alternatives s)) (sym same) q.0 in
        let nodes : (a ≡ b) × (x ≡ y) × (tokens_of f ++ u ≡ tokens_of h ++ v) =
        H r a b x y (tokens_of f ++ u) (tokens_of h ++ v) (omega arith) p.0 j p.1 q.1 e' cu cv in
        N ss after zz after' f h u v (omega arith) p.2 q.2 nodes.2 bu bv c

    stepped : NoneInCommon n (step g t apart)
    stepped [] after [] after' f h u v lt p q e bu bv c = absurd (cc)
    stepped [] after (one l ∷ zz) after' f h u v lt p q e bu bv c = absurd (cc)
    stepped [] after (rule r' ∷ zz) after' f h u v lt p q e bu bv c =
        opened_right r' [] after zz after' f h u v lt p q e bu bv c
    stepped (one k ∷ ss) after [] after' f h u v lt p q e bu bv c = absurd (cc)
    stepped (one k ∷ ss) after (one l ∷ zz) after' f h u v lt p q e bu bv c =
        same_token k l ss after zz after' f h u v lt p q e bu bv c
    stepped (one k ∷ ss) after (rule r' ∷ zz) after' f h u v lt p q e bu bv c =
        opened_right r' (one k ∷ ss) after zz after' f h u v lt p q e bu bv c
    stepped (rule r ∷ ss) after [] after' f h u v lt p q e bu bv c =
        opened_left r ss after [] after' f h u v lt p q e bu bv c
    stepped (rule r ∷ ss) after (one l ∷ zz) after' f h u v lt p q e bu bv c =
        opened_left r ss after (one l ∷ zz) after' f h u v lt p q e bu bv c
    stepped (rule r ∷ ss) after (rule r' ∷ zz) after' f h u v lt p q e bu bv c =
        elim (branch (t.are_same r r' &&
        (is_followed t (rule r ∷ ss) after && is_followed t (rule r' ∷ zz) after'))
        (apart ss after zz after') (every
        (λ a. apart (g.symbols a ++ ss) after (rule r' ∷ zz) after') (g.alternatives r)) c) [
          | inl w ↦ by_rule w.0 w.1
          | inr w ↦ opened_left r ss after (rule r' ∷ zz) after' f h u v lt p q e bu bv w
        ]
      where
        by_rule : IsTrue (t.are_same r r' &&
            (is_followed t (rule r ∷ ss) after && is_followed t (rule r' ∷ zz) after'))
            → IsTrue (apart ss after zz after') → ⊥
        by_rule w c' =
            let w' : IsTrue (t.are_same r r')
            × IsTrue (is_followed t (rule r ∷ ss) after && is_followed t (rule r' ∷ zz) after')
            =
            both (t.are_same r r') (is_followed t (rule r ∷ ss) after && is_followed t
            (rule r' ∷ zz) after') w in
            let parts : IsTrue (is_followed t (rule r ∷ ss) after)
            × IsTrue (is_followed t (rule r' ∷ zz) after') =
            both (is_followed t (rule r ∷ ss) after) (is_followed t (rule r' ∷ zz) after') w'.1 in
            same_rule r r' ss after zz after' f h u v lt p q e bu bv
            (d.same_rules r r' w'.0) parts.0 parts.1 c'

  distinct : (n : ℕ) → SameNodes n → (m : ℕ) → NoneInCommon n (are_distinct g t m)
  distinct n H zero ss after zz after' f h u v lt p q e bu bv c = absurd (cc)
  distinct n H (suc m) ss after zz after' f h u v lt p q e bu bv c =
      elim (either (exclude t (starts t ss after) (starts t zz after') &&
      (is_followed t ss after && is_followed t zz after'))
      (step g t (are_distinct g t m) ss after zz after') c) [
        | inl w ↦ by_start w
        | inr w ↦ stepped n H (are_distinct g t m)
            (distinct n H m) ss after zz after' f h u v lt p q e bu bv w
      ]
    where
      by_start : IsTrue (exclude t (starts t ss after) (starts t zz after') &&
          (is_followed t ss after && is_followed t zz after')) → ⊥
      by_start w =
          let w' : IsTrue (exclude t (starts t ss after) (starts t zz after'))
          × IsTrue (is_followed t ss after && is_followed t zz after') =
          both (exclude t (starts t ss after) (starts t zz after'))
          (is_followed t ss after && is_followed t zz after') w in
          let parts : IsTrue (is_followed t ss after) × IsTrue (is_followed t zz after') =
          both (is_followed t ss after) (is_followed t zz after') w'.1 in
          excludes g t d.covers (starts t ss after) (starts t zz after') (tokens_of f ++ u) w'.0
          (begins_as g t d.covers ss after f u p parts.0 bu)
          (subst (λ (ts : List T). BeginsWhole g t (starts t zz after') ts) (sym e)
          (begins_as g t d.covers zz after' h v q parts.1 bv))

  -- Of two alternatives of a list that passed the comparison, either both are one, or they read no
  -- tokens in common.
  abbrev OneOrDistinct : Ahead K → A → A → Type 0
  OneOrDistinct after a b = (a ≡ b)
      ⊎ (IsTrue (are_distinct g t depth (g.symbols a) after (g.symbols b) after)
      ⊎ IsTrue (are_distinct g t depth (g.symbols b) after (g.symbols a) after))

  compare : (after : Ahead K) (o : A) (os : List A) (a b : A)
      → IsTrue (every (λ x. are_distinct g t depth (g.symbols o) after (g.symbols x) after) os)
      → (IsOneOf a os → IsOneOf b os → OneOrDistinct after a b)
      → IsOneOf a (o ∷ os) → IsOneOf b (o ∷ os) → OneOrDistinct after a b
  compare after o os a b w later (inl x) (inl y) = inl (x ∙ sym y)
  compare after o os a b w later (inl x) (inr y) =
      inr
      (inl (subst (λ (z : A). IsTrue
      (are_distinct g t depth (g.symbols z) after (g.symbols b) after)) (sym x)
      (every_one (λ z. are_distinct g t depth (g.symbols o) after (g.symbols z) after) b os w y)))
  compare after o os a b w later (inr x) (inl y) =
      inr
      (inr (subst (λ (z : A). IsTrue
      (are_distinct g t depth (g.symbols z) after (g.symbols a) after)) (sym y)
      (every_one (λ z. are_distinct g t depth (g.symbols o) after (g.symbols z) after) a os w x)))
  compare after o os a b w later (inr x) (inr y) = later x y

  pairs : (after : Ahead K) (as' : List A) (a b : A) → IsTrue (all_distinct g t depth after as')
      → IsOneOf a as' → IsOneOf b as'
      → OneOrDistinct after a b
  pairs after [] a b c i j = absurd i
  pairs after (o ∷ os) a b c i j =
      let w : IsTrue (every (λ x. are_distinct g t depth (g.symbols o) after (g.symbols x) after)
      os) × IsTrue (all_distinct g t depth after os) =
      both (every (λ x. are_distinct g t depth (g.symbols o) after (g.symbols x) after) os)
      (all_distinct g t depth after os) c in
      compare after o os a b w.0 (λ x y. pairs after os a b w.1 x y) i j

  of_one : (n : ℕ) → SameNodes n → (r : R) (a b : A) (x y : Forest A T) (u v : List T)
      → size x + size y ≤ n
      → IsOneOf a (g.alternatives r) → Fits g (g.symbols a) x → Fits g (g.symbols b) y
      → tokens_of x ++ u ≡ tokens_of y ++ v → BeginsWhole g t (t.follows r) u
      → BeginsWhole g t (t.follows r) v
      → a ≡ b → (a ≡ b) × (x ≡ y) × (u ≡ v)
  of_one n H r a b x y u v lt i p q e bu bv same =
      let q' : Fits g (g.symbols a) y = subst (λ (z : A). Fits g (g.symbols z) y) (sym same) q in
      let rest : (x ≡ y) × (u ≡ v) =
      same_forests n H (g.symbols a) (t.follows r) x y u v lt p q'
      (followed g t d.covers r a i) e bu bv in
      (same, rest.0, rest.1)

  pub same_nodes : (n : ℕ) → SameNodes n
  same_nodes zero r a b x y u v lt i j p q e bu bv = absurd (omega arith)
  same_nodes (suc n) r a b x y u v lt i j p q e bu bv =
      elim (pairs (t.follows r) (g.alternatives r) a b (d.each_rule r) i j) [
        | inl same ↦ of_one n (same_nodes n) r a b x y u v (omega arith) i p q e bu bv same
        | inr (inl c) ↦ absurd (distinct n (same_nodes n) depth (g.symbols a) (t.follows r)
            (g.symbols b) (t.follows r) x y u v (omega arith) p q e bu bv c)
        | inr (inr c) ↦ absurd (distinct n (same_nodes n) depth (g.symbols b) (t.follows r)
            (g.symbols a) (t.follows r) y x v u (omega arith) q p (sym e) bv bu c)
      ]

  -- Two readings by a rule, each before what may follow the rule, of the same tokens are the same,
  -- and what follows is the same.
  pub same_trees : (r : R) (f h : Forest A T) (u v : List T) → Fits g (rule r ∷ []) f
      → Fits g (rule r ∷ []) h
      → tokens_of f ++ u ≡ tokens_of h ++ v → BeginsWhole g t (t.follows r) u
      → BeginsWhole g t (t.follows r) v → (f ≡ h) × (u ≡ v)
  same_trees r bare h u v p q e bu bv = absurd p
  same_trees r (leaf token f) h u v p q e bu bv = absurd p
  same_trees r (node a x f) bare u v p q e bu bv = absurd q
  same_trees r (node a x f) (leaf token h) u v p q e bu bv = absurd q
  same_trees r (node a x (leaf token f)) (node b y h) u v p q e bu bv = absurd p.2
  same_trees r (node a x (node c z f)) (node b y h) u v p q e bu bv = absurd p.2
  same_trees r (node a x bare) (node b y (leaf token h)) u v p q e bu bv = absurd q.2
  same_trees r (node a x bare) (node b y (node c z h)) u v p q e bu bv = absurd q.2
  same_trees r (node a x bare) (node b y bare) u v p q e bu bv =
      let e' : tokens_of x ++ u ≡ tokens_of y ++ v =
      sym (append_assoc (tokens_of x) [] u) ∙ e ∙ append_assoc (tokens_of y) [] v in
      let nodes : (a ≡ b) × (x ≡ y) × (u ≡ v) =
      same_nodes (1 + (size x + size y)) r a b x y u v (omega arith) p.0 q.0 p.1 q.1 e' bu bv in
      let alternatives : a ≡ b = nodes.0 in
      let inner : x ≡ y = nodes.1 in
      ((cc), nodes.2)

  -- A list of tokens has at most one reading by a rule that the end of the tokens may follow.
  pub same_readings : (r : R) (tokens : List T) (f h : Forest A T)
      → BeginsWhole g t (t.follows r) []
      → IsReading g r tokens f → IsReading g r tokens h → f ≡ h
  same_readings r tokens f h ends p q =
      (same_trees r f h [] [] p.fits q.fits
      (ap (λ ts. ts ++ []) (p.same_tokens ∙ sym q.same_tokens)) ends ends).0
