-- A search for the readings of given tokens, for examples: what it finds is a reading, and where it
-- finds nothing to go on with there is none.
use Rattle.std.proofs.Common.{◌≡◌, inl, inr, ℕ, zero, suc, Bool, ◌||◌, true, false, List, [], ◌∷◌}
use Rattle.std.proofs.Common.{◌++◌, refl, sym, ap, ◌∙◌, subst, append_assoc, append-nil, IsTrue}
use Rattle.std.proofs.Common.{Option, Some, None}
use Rattle.std.specs.Option.{option_map}
use Rattle.mc_grammar.specs.Grammar.{Grammar, Symbol, one, rule}
use Rattle.mc_grammar.specs.Reading.{Forest, bare, leaf, node, tokens_of, IsOneOf, Fits, IsReading}
use Rattle.std.specs.List.{list_any}
use Rattle.mc_grammar.proofs.Forests.{beside, tokens_of-beside, Fits-beside}

-- Each of the list is so.
abbrev Each : {A : Type 0} → (A → Type 0) → List A → Type 0
Each P [] = Unit
Each P (x ∷ xs) = P x × Each P xs

Each-append : {A : Type 0} (P : A → Type 0) (xs ys : List A) → Each P xs → Each P ys
    → Each P (xs ++ ys)
Each-append P [] ys p q = q
Each-append P (x ∷ xs) ys p q = (p.0, Each-append P xs ys p.1 q)

-- The lists of each, joined.
abbrev join_each : {A B : Type 0} → (A → List B) → List A → List B
join_each f [] = []
join_each f (x ∷ xs) = f x ++ join_each f xs

join_each-each : {A B : Type 0} (P : A → Type 0) (Q : B → Type 0) (f : A → List B)
    → ((x : A) → P x → Each Q (f x))
    → (xs : List A) → Each P xs → Each Q (join_each f xs)
join_each-each P Q f h [] p = tt
join_each-each P Q f h (x ∷ xs) p =
    Each-append Q (f x) (join_each f xs) (h x p.0) (join_each-each P Q f h xs p.1)

one_of_itself : {A : Type 0} (xs : List A) → Each (λ x. IsOneOf x xs) xs
one_of_itself [] = tt
one_of_itself (x ∷ xs) = (inl refl, later xs (one_of_itself xs))
  where
    later : (ys : List _) → Each (λ y. IsOneOf y xs) ys → Each (λ y. IsOneOf y (x ∷ xs)) ys
    later [] p = tt
    later (y ∷ ys) p = (inr p.0, later ys p.1)

-- A forest that was found, and the tokens that it leaves.
pub record Found (A T : Type 0) : Type 0 where
  pub forest : Forest A T
  pub rest : List T

-- The first forest that leaves no tokens.
abbrev pub whole_forest : {A T : Type 0} → List (Found A T) → Option (Forest A T)
whole_forest [] = None
whole_forest (found ∷ others) =
    elim found.rest [ [] ↦ Some found.forest | token ∷ tokens ↦ whole_forest others ]

module _ {K R A T : Type 0} (g : Grammar K R A T) where
  -- The forests of the symbols that begin the tokens, `depth` steps deep.
  abbrev pub search_readings : ℕ → List (Symbol K R) → List T → List (Found A T)
  search_readings zero ss tokens = []
  search_readings (suc depth) [] tokens = record { forest = bare; rest = tokens } ∷ []
  search_readings (suc depth) (one k ∷ ss) [] = []
  search_readings (suc depth) (one k ∷ ss) (token ∷ tokens) =
      elim (g.is_of k token) [
        | true ↦ join_each (λ found. record { forest = leaf token found.forest; rest = found.rest }
            ∷ []) (search_readings depth ss tokens)
        | false ↦ []
      ]
  search_readings (suc depth) (rule r ∷ ss) tokens =
      join_each (λ a. join_each (λ inner. join_each
      (λ found. record { forest = node a inner.forest found.forest; rest = found.rest } ∷ [])
      (search_readings depth ss inner.rest))
      (search_readings depth (g.symbols a) tokens))
      (g.alternatives r)

  -- What is found fits and begins the tokens.
  pub record IsFound (ss : List (Symbol K R)) (tokens : List T) (found : Found A T) : Type 0 where
    pub fits : Fits g ss found.forest
    pub begins : tokens_of found.forest ++ found.rest ≡ tokens

  leaf_found : (k : K) (ss : List (Symbol K R)) (token : T) (tokens : List T)
      → IsTrue (g.is_of k token) → (found : Found A T)
      → IsFound ss tokens found → IsFound (one k ∷ ss) (token ∷ tokens)
      (record { forest = leaf token found.forest; rest = found.rest })
  leaf_found k ss token tokens h found p =
      record { fits = (h, p.fits); begins = ap (λ ts. token ∷ ts) p.begins }

  node_found : (r : R) (ss : List (Symbol K R)) (tokens : List T) (a : A) (inner found : Found A T)
      → IsOneOf a (g.alternatives r)
      → IsFound (g.symbols a) tokens inner → IsFound ss inner.rest found
      → IsFound (rule r ∷ ss) tokens
      (record { forest = node a inner.forest found.forest; rest = found.rest })
  node_found r ss tokens a inner found i p q = record {
    fits = (i, p.fits, q.fits);
    begins = append_assoc (tokens_of inner.forest) (tokens_of found.forest) found.rest
        ∙ ap (λ ts. tokens_of inner.forest ++ ts) q.begins ∙ p.begins;
  }

  guarded : (b : Bool) (P : Found A T → Type 0) (xs : List (Found A T)) → (IsTrue b → Each P xs)
      → Each P (elim b [ true ↦ xs | false ↦ [] ])
  guarded true P xs h = h refl
  guarded false P xs h = tt

  pub each_found : (depth : ℕ) (ss : List (Symbol K R)) (tokens : List T)
      → Each (IsFound ss tokens) (search_readings depth ss tokens)
  each_found zero ss tokens = tt
  each_found (suc depth) [] tokens = (record { fits = tt; begins = refl }, tt)
  each_found (suc depth) (one k ∷ ss) [] = tt
  each_found (suc depth) (one k ∷ ss) (token ∷ tokens) =
      guarded (g.is_of k token) (IsFound (one k ∷ ss) (token ∷ tokens))
      (join_each (λ found. record { forest = leaf token found.forest; rest = found.rest } ∷ [])
      (search_readings depth ss tokens))
      (λ h. join_each-each (IsFound ss tokens) (IsFound (one k ∷ ss) (token ∷ tokens))
      (λ found. record { forest = leaf token found.forest; rest = found.rest } ∷ [])
      (λ found p. (leaf_found k ss token tokens h found p, tt)) (search_readings depth ss tokens)
      (each_found depth ss tokens))
  each_found (suc depth) (rule r ∷ ss) tokens =
      join_each-each (λ a. IsOneOf a (g.alternatives r)) (IsFound (rule r ∷ ss) tokens)
      (λ a. join_each (λ inner. join_each
      (λ found. record { forest = node a inner.forest found.forest; rest = found.rest } ∷ [])
      (search_readings depth ss inner.rest)) (search_readings depth (g.symbols a) tokens))
      (λ a i. join_each-each (IsFound (g.symbols a) tokens) (IsFound (rule r ∷ ss) tokens)
      (λ inner. join_each (λ found. record
      { forest = node a inner.forest found.forest; rest = found.rest } ∷ [])
      (search_readings depth ss inner.rest))
      (λ inner p. join_each-each (IsFound ss inner.rest) (IsFound (rule r ∷ ss) tokens)
      (λ found. record { forest = node a inner.forest found.forest; rest = found.rest } ∷ [])
      (λ found q. (node_found r ss tokens a inner found i p q, tt))
      (search_readings depth ss inner.rest) (each_found depth ss inner.rest))
      (search_readings depth (g.symbols a) tokens) (each_found depth (g.symbols a) tokens))
      (g.alternatives r) (one_of_itself (g.alternatives r))

  -- The forest that leaves no tokens is a reading, and what is computed of it is so.
  pub record Shows {B : Type 0} (r : R) (tokens : List T) (view : Forest A T → B)
      (b : B) : Type 0 where
    pub forest : Forest A T
    pub reads : IsReading g r tokens forest
    pub shows : view forest ≡ b

  same_some : {B : Type 0} (a b : B) → Some a ≡ Some b → a ≡ b
  same_some a b e = cc

  of_first : {B : Type 0} (r : R) (tokens : List T) (view : Forest A T → B) (b : B) (x : Found A T)
      → IsFound (rule r ∷ []) tokens x
      → x.rest ≡ [] → Some (view x.forest) ≡ Some b → Shows r tokens view b
  of_first r tokens view b x p e s = record {
    forest = x.forest;
    reads = record {
      fits = p.fits;
      same_tokens = sym (append-nil (tokens_of x.forest))
          ∙ ap (λ ts. tokens_of x.forest ++ ts) (sym e) ∙ p.begins;
    };
    shows = same_some (view x.forest) b s;
  }

  by_rest : {B : Type 0} (r : R) (tokens : List T) (view : Forest A T → B) (b : B) (x : Found A T)
      → IsFound (rule r ∷ []) tokens x
      → (others : Option (Forest A T)) → (option_map view others ≡ Some b → Shows r tokens view b)
      → (rest : List T) → x.rest ≡ rest
      → option_map view (elim rest [ [] ↦ Some x.forest | token ∷ ts ↦ others ]) ≡ Some b
      → Shows r tokens view b
  by_rest r tokens view b x p others later [] e s = of_first r tokens view b x p e s
  by_rest r tokens view b x p others later (token ∷ ts) e s = later s

  pub whole_found : {B : Type 0} (r : R) (tokens : List T) (view : Forest A T → B) (b : B)
      (xs : List (Found A T))
      → Each (IsFound (rule r ∷ []) tokens) xs → option_map view (whole_forest xs) ≡ Some b
      → Shows r tokens view b
  whole_found r tokens view b [] p e = absurd (different e)
    where
      different : None ≡ Some b → ⊥
      different h = cc
  whole_found r tokens view b (x ∷ xs) p e =
      by_rest r tokens view b x p.0 (whole_forest xs)
      (λ s. whole_found r tokens view b xs p.1 s) x.rest refl e

  -- A search that finds a whole reading shows it.
  pub shown : {B : Type 0} (depth : ℕ) (r : R) (tokens : List T) (view : Forest A T → B) (b : B)
      → option_map view (whole_forest (search_readings depth (rule r ∷ []) tokens)) ≡ Some b
      → Shows r tokens view b
  shown depth r tokens view b e =
      whole_found r tokens view b (search_readings depth (rule r ∷ []) tokens)
      (each_found depth (rule r ∷ []) tokens) e

  -- Nothing shows that the symbols do not read just these tokens, `depth` steps deep.
  abbrev pub may_read : ℕ → List (Symbol K R) → List T → Bool
  may_read zero ss tokens = true
  may_read (suc depth) [] [] = true
  may_read (suc depth) [] (token ∷ tokens) = false
  may_read (suc depth) (one k ∷ ss) [] = false
  may_read (suc depth) (one k ∷ ss) (token ∷ tokens) =
      elim (g.is_of k token) [ true ↦ may_read depth ss tokens | false ↦ false ]
  may_read (suc depth) (rule r ∷ ss) tokens =
      list_any (λ a. may_read depth (g.symbols a ++ ss) tokens) (g.alternatives r)

  any_here : (test : A → Bool) (a : A) (as' : List A) → IsOneOf a as' → IsTrue (test a)
      → IsTrue (list_any test as')
  any_here test a [] i h = absurd i
  any_here test a (b ∷ bs) (inl e) h = first (test b) (subst (λ (x : A). IsTrue (test x)) e h)
    where
      first : (c : Bool) → IsTrue c → IsTrue (c || list_any test bs)
      first true k = refl
      first false k = cc
  any_here test a (b ∷ bs) (inr j) h = second (test b) (any_here test a bs j h)
    where
      second : (c : Bool) → IsTrue (list_any test bs) → IsTrue (c || list_any test bs)
      second true k = refl
      second false k = k

  guard : (a b : Bool) → IsTrue a → IsTrue b → IsTrue (elim a [ true ↦ b | false ↦ false ])
  guard true b h k = k
  guard false b h k = cc

  readable : (depth : ℕ) (ss : List (Symbol K R)) (f : Forest A T) → Fits g ss f
      → IsTrue (may_read depth ss (tokens_of f))
  readable zero ss f p = refl
  readable (suc depth) [] bare p = refl
  readable (suc depth) [] (leaf token h) p = absurd p
  readable (suc depth) [] (node a x h) p = absurd p
  readable (suc depth) (one k ∷ ss) bare p = absurd p
  readable (suc depth) (one k ∷ ss) (leaf token h) p =
      guard (g.is_of k token) (may_read depth ss (tokens_of h)) p.0 (readable depth ss h p.1)
  readable (suc depth) (one k ∷ ss) (node a x h) p = absurd p
  readable (suc depth) (rule r ∷ ss) bare p = absurd p
  readable (suc depth) (rule r ∷ ss) (leaf token h) p = absurd p
  readable (suc depth) (rule r ∷ ss) (node a x h) p =
      any_here (λ b. may_read depth (g.symbols b ++ ss) (tokens_of x ++ tokens_of h)) a
      (g.alternatives r) p.0
      (subst (λ (ts : List T). IsTrue (may_read depth (g.symbols a ++ ss) ts))
      (tokens_of-beside x h)
      (readable depth (g.symbols a ++ ss) (beside x h)
      (Fits-beside g (g.symbols a) ss x h p.1 p.2)))

  -- Tokens that a search finds no way through have no reading.
  pub none : (depth : ℕ) (r : R) (tokens : List T) (f : Forest A T)
      → may_read depth (rule r ∷ []) tokens ≡ false → IsReading g r tokens f → ⊥
  none depth r tokens f e p =
      impossible (may_read depth (rule r ∷ []) tokens) e
      (subst (λ (ts : List T). IsTrue (may_read depth (rule r ∷ []) ts)) p.same_tokens
      (readable depth (rule r ∷ []) f p.fits))
    where
      impossible : (b : Bool) → b ≡ false → IsTrue b → ⊥
      impossible true h k = cc
      impossible false h k = cc
