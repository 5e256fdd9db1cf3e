-- A grammar with room reads exactly what the grammar reads with no bound token too deep.
use Rattle.std.proofs.Common.{◌≡◌, inl, inr, ℕ, zero, suc, ◌-◌, ◌≤◌, Bool, true, false, ◌&&◌, List}
use Rattle.std.proofs.Common.{[], ◌∷◌, ◌++◌, refl, sym, ap, ◌∙◌, map, IsTrue, subst, arith}
use Rattle.std.proofs.lemmas.List.{map-append}
use Rattle.mc_grammar.specs.Grammar.{Grammar, Symbol, one, rule}
use Rattle.mc_grammar.specs.Reading.{Forest, bare, leaf, node, tokens_of, IsOneOf, Fits, IsReading}
use Rattle.mc_grammar.specs.Ahead.{Tables}
use Rattle.mc_grammar.specs.Language.{Language, values_of, Reads}
use Rattle.mc_grammar.specs.Completions.{Completions, Complete}
use Rattle.mc_grammar.specs.Nest.{Marked, bound, free, unmarked, first_mark, other_marks, Nested}
use Rattle.mc_grammar.specs.Nest.{level_at, nested, AreWithin}
use Rattle.mc_grammar.specs.Room.{Roomed, Admitted, any_room, room_at, with_room, is_admitted}
use Rattle.mc_grammar.specs.Room.{room_grammar, room_language, free_completions}
use Rattle.mc_grammar.proofs.Ahead.{both}

-- Levels that are left, and the level.
room_level : (b : Bool) (room level limit : ℕ) → room ≡ suc limit - level
    → room_at b room ≡ suc limit - level_at b level
room_level false room level limit e = e
room_level true zero level limit e = omega (arith, e)
room_level true (suc room) level limit e = omega (arith, e)

room_within : (room level limit : ℕ) → room ≡ suc limit - level → IsTrue (any_room room)
    → level ≤ limit
room_within zero level limit e h = absurd (cc)
room_within (suc room) level limit e h = omega (arith, e)

within_room : (room level limit : ℕ) → room ≡ suc limit - level → level ≤ limit
    → IsTrue (any_room room)
within_room zero level limit e h = absurd (omega (arith, e, h))
within_room (suc room) level limit e h = refl

both_so : (a b : Bool) → IsTrue a → IsTrue b → IsTrue (a && b)
both_so true b h k = k
both_so false b h k = absurd (cc)

within_append : {T : Type 0} (limit : ℕ) (xs ys : List (Nested T)) (ts us : List (Marked T))
    → AreWithin limit xs ts → AreWithin limit ys us → AreWithin limit (xs ++ ys) (ts ++ us)
within_append limit [] ys [] us p q = q
within_append limit [] ys (t ∷ ts) us p q = absurd p
within_append limit (x ∷ xs) ys [] us p q = absurd p
within_append limit (x ∷ xs) ys (bound t ∷ ts) us p q =
    (p.0, p.1, within_append limit xs ys ts us p.2 q)
within_append limit (x ∷ xs) ys (free t ∷ ts) us p q =
    (p.0, within_append limit xs ys ts us p.1 q)

-- Marked tokens of two forests side by side.
record Beside (T : Type 0) (limit : ℕ) (xs ys : List (Nested T))
    (ts : List (Marked T)) : Type 0 where
  first : List (Marked T)
  second : List (Marked T)
  joined : first ++ second ≡ ts
  first_within : AreWithin limit xs first
  second_within : AreWithin limit ys second

within_parts : {T : Type 0} (limit : ℕ) (xs ys : List (Nested T)) (ts : List (Marked T))
    → AreWithin limit (xs ++ ys) ts → Beside T limit xs ys ts
within_parts limit [] ys ts p = record {
  first = [];
  second = ts;
  joined = refl;
  first_within = tt;
  second_within = p;
}
within_parts limit (x ∷ xs) ys [] p = absurd p
within_parts limit (x ∷ xs) ys (bound t ∷ ts) p =
    let q : Beside _ limit xs ys ts = within_parts limit xs ys ts p.2 in
    record {
      first = bound t ∷ q.first;
      second = q.second;
      joined = ap (λ (z : List (Marked _)). bound t ∷ z) q.joined;
      first_within = (p.0, p.1, q.first_within);
      second_within = q.second_within;
    }
within_parts limit (x ∷ xs) ys (free t ∷ ts) p =
    let q : Beside _ limit xs ys ts = within_parts limit xs ys ts p.1 in
    record {
      first = free t ∷ q.first;
      second = q.second;
      joined = ap (λ (z : List (Marked _)). free t ∷ z) q.joined;
      first_within = (p.0, q.first_within);
      second_within = q.second_within;
    }

-- Free tokens may stand at any level.
pub free_within : {A T : Type 0} (deeper : A → List Bool) (limit level : ℕ) (marks : List Bool)
    (f : Forest A T)
    → AreWithin limit (nested deeper level marks f) (map (λ x. free x) (tokens_of f))
free_within deeper limit level marks bare = tt
free_within deeper limit level marks (leaf t f) =
    (refl, free_within deeper limit level (other_marks marks) f)
free_within deeper limit level marks (node a x f) =
    subst (λ (z : List (Marked _)). AreWithin limit (nested deeper level marks (node a x f)) z)
    (sym (map-append (λ y. free y) (tokens_of x) (tokens_of f)))
    (within_append limit (nested deeper (level_at (first_mark marks) level) (deeper a) x)
    (nested deeper level (other_marks marks) f) (map (λ y. free y) (tokens_of x))
    (map (λ y. free y) (tokens_of f))
    (free_within deeper limit (level_at (first_mark marks) level) (deeper a) x)
    (free_within deeper limit level (other_marks marks) f))

module _ {K R A T : Type 0} (g : Grammar K R A T) (t : Tables K R) (deeper : A → List Bool) where
  -- A forest without marks and room.
  abbrev pub unmarked_forest : Forest (Roomed A) (Marked T) → Forest A T
  unmarked_forest bare = bare
  unmarked_forest (leaf token others) = leaf (unmarked token) (unmarked_forest others)
  unmarked_forest (node a inner others) =
      node a.what (unmarked_forest inner) (unmarked_forest others)

  pub tokens_of-unmarked : (f : Forest (Roomed A) (Marked T))
      → tokens_of (unmarked_forest f) ≡ map (λ x. unmarked x) (tokens_of f)
  tokens_of-unmarked bare = refl
  tokens_of-unmarked (leaf x f) = ap (λ (ts : List T). unmarked x ∷ ts) (tokens_of-unmarked f)
  tokens_of-unmarked (node a x f) =
      ap (λ (ts : List T). ts ++ tokens_of (unmarked_forest f)) (tokens_of-unmarked x)
      ∙ ap (λ (ts : List T). map (λ y. unmarked y) (tokens_of x) ++ ts) (tokens_of-unmarked f)
      ∙ sym (map-append (λ y. unmarked y) (tokens_of x) (tokens_of f))

  pub admitted_class : (k : Admitted K) (x : Marked T) → IsTrue (is_admitted g t deeper k x)
      → IsTrue (g.is_of k.class (unmarked x))
  admitted_class k (bound token) h = (both k.has_room (g.is_of k.class token) h).1
  admitted_class k (free token) h = h

  alternative_unmarked : (as' : List A) (n : ℕ) (a : Roomed A)
      → IsOneOf a (map (λ (x : A). record { what = x; room = n }) as')
      → (IsOneOf a.what as') × (a.room ≡ n)
  alternative_unmarked [] n a i = absurd i
  alternative_unmarked (b ∷ bs) n a (inl e) =
      (inl (ap (λ (x : Roomed A). x.what) e), ap (λ (x : Roomed A). x.room) e)
  alternative_unmarked (b ∷ bs) n a (inr j) =
      let p : (IsOneOf a.what bs) × (a.room ≡ n) = alternative_unmarked bs n a j in (inr p.0, p.1)

  roomed_at : (n : ℕ) (a b : A) → a ≡ b
      → ◌≡◌ {A = Roomed A} (record { what = a; room = n }) (record { what = b; room = n })
  roomed_at n a b e = cc

  alternative_roomed : (as' : List A) (n : ℕ) (a : A) → IsOneOf a as'
      → IsOneOf {A = Roomed A} (record { what = a; room = n })
      (map (λ (x : A). record { what = x; room = n }) as')
  alternative_roomed [] n a i = absurd i
  alternative_roomed (b ∷ bs) n a (inl e) = inl (roomed_at n a b e)
  alternative_roomed (b ∷ bs) n a (inr j) = inr (alternative_roomed bs n a j)

  -- What the grammar with room reads, the grammar reads.
  pub fits_unmarked : (ss : List (Symbol K R)) (room : ℕ) (marks : List Bool)
      (f : Forest (Roomed A) (Marked T))
      → Fits (room_grammar g t deeper) (with_room room marks ss) f
      → Fits g ss (unmarked_forest f)
  fits_unmarked [] room marks bare p = tt
  fits_unmarked [] room marks (leaf x f) p = absurd p
  fits_unmarked [] room marks (node a x f) p = absurd p
  fits_unmarked (one k ∷ ss) room marks bare p = absurd p
  fits_unmarked (one k ∷ ss) room marks (node a x f) p = absurd p
  fits_unmarked (one k ∷ ss) room marks (leaf x f) p = (
    admitted_class (record { class = k; has_room = any_room (room_at (first_mark marks) room) }) x
        p.0,
    fits_unmarked ss room (other_marks marks) f p.1,
  )
  fits_unmarked (rule r ∷ ss) room marks bare p = absurd p
  fits_unmarked (rule r ∷ ss) room marks (leaf x f) p = absurd p
  fits_unmarked (rule r ∷ ss) room marks (node a x f) p = (
    (alternative_unmarked (g.alternatives r) (room_at (first_mark marks) room) a p.0).0,
    fits_unmarked (g.symbols a.what) a.room (deeper a.what) x p.1,
    fits_unmarked ss room (other_marks marks) f p.2,
  )

  -- In it no bound token stands too deep.
  pub reads_within : (limit : ℕ) (ss : List (Symbol K R)) (room level : ℕ) (marks : List Bool)
      (f : Forest (Roomed A) (Marked T)) → room ≡ suc limit - level
      → Fits (room_grammar g t deeper) (with_room room marks ss) f
      → AreWithin limit (nested deeper level marks (unmarked_forest f)) (tokens_of f)
  reads_within limit [] room level marks bare e p = tt
  reads_within limit [] room level marks (leaf x f) e p = absurd p
  reads_within limit [] room level marks (node a x f) e p = absurd p
  reads_within limit (one k ∷ ss) room level marks bare e p = absurd p
  reads_within limit (one k ∷ ss) room level marks (node a x f) e p = absurd p
  reads_within limit (one k ∷ ss) room level marks (leaf (bound x) f) e p = (
    refl,
    room_within (room_at (first_mark marks) room) (level_at (first_mark marks) level) limit
        (room_level (first_mark marks) room level limit e)
        (both (any_room (room_at (first_mark marks) room)) (g.is_of k x) p.0).0,
    reads_within limit ss room level (other_marks marks) f e p.1,
  )
  reads_within limit (one k ∷ ss) room level marks (leaf (free x) f) e p =
      (refl, reads_within limit ss room level (other_marks marks) f e p.1)
  reads_within limit (rule r ∷ ss) room level marks bare e p = absurd p
  reads_within limit (rule r ∷ ss) room level marks (leaf x f) e p = absurd p
  reads_within limit (rule r ∷ ss) room level marks (node a x f) e p =
      within_append limit
      (nested deeper (level_at (first_mark marks) level) (deeper a.what) (unmarked_forest x))
      (nested deeper level (other_marks marks) (unmarked_forest f)) (tokens_of x) (tokens_of f)
      (reads_within limit (g.symbols a.what) a.room (level_at (first_mark marks) level)
      (deeper a.what) x
      ((alternative_unmarked (g.alternatives r) (room_at (first_mark marks) room) a p.0).1
      ∙ room_level (first_mark marks) room level limit e) p.1)
      (reads_within limit ss room level (other_marks marks) f e p.2)

  -- A forest with marks and room for a forest, with these tokens.
  pub record Given (ss : List (Symbol (Admitted K) (Roomed R))) (f : Forest A T)
      (tokens : List (Marked T)) : Type 0 where
    pub forest : Forest (Roomed A) (Marked T)
    pub fits : Fits (room_grammar g t deeper) ss forest
    pub same_tokens : tokens_of forest ≡ tokens
    pub same_forest : unmarked_forest forest ≡ f

  -- Where no bound token stands too deep, the grammar with room reads them.
  pub within_reads : (limit : ℕ) (ss : List (Symbol K R)) (room level : ℕ) (marks : List Bool)
      (f : Forest A T) (ts : List (Marked T)) → room ≡ suc limit - level → Fits g ss f
      → AreWithin limit (nested deeper level marks f) ts → Given (with_room room marks ss) f ts
  within_reads limit [] room level marks bare [] e p q =
      record { forest = bare; fits = tt; same_tokens = refl; same_forest = refl }
  within_reads limit [] room level marks bare (x ∷ ts) e p q = absurd q
  within_reads limit [] room level marks (leaf x f) ts e p q = absurd p
  within_reads limit [] room level marks (node a x f) ts e p q = absurd p
  within_reads limit (one k ∷ ss) room level marks bare ts e p q = absurd p
  within_reads limit (one k ∷ ss) room level marks (node a x f) ts e p q = absurd p
  within_reads limit (one k ∷ ss) room level marks (leaf x f) [] e p q = absurd q
  within_reads limit (one k ∷ ss) room level marks (leaf x f) (bound u ∷ ts) e p q =
      let rest : Given (with_room room (other_marks marks) ss) f ts =
      within_reads limit ss room level (other_marks marks) f ts e p.1 q.2 in
      record {
        forest = leaf (bound u) rest.forest;
        fits = (
          both_so (any_room (room_at (first_mark marks) room)) (g.is_of k u)
              (within_room (room_at (first_mark marks) room) (level_at (first_mark marks) level)
              limit (room_level (first_mark marks) room level limit e) q.1)
              (subst (λ (y : T). IsTrue (g.is_of k y)) q.0 p.0),
          rest.fits,
        );
        same_tokens = ap (λ (z : List (Marked T)). bound u ∷ z) rest.same_tokens;
        same_forest = ap (λ (y : T). leaf y (unmarked_forest rest.forest)) (sym q.0)
            ∙ ap (λ (h : Forest A T). leaf x h) rest.same_forest;
      }
  within_reads limit (one k ∷ ss) room level marks (leaf x f) (free u ∷ ts) e p q =
      let rest : Given (with_room room (other_marks marks) ss) f ts =
      within_reads limit ss room level (other_marks marks) f ts e p.1 q.1 in
      record {
        forest = leaf (free u) rest.forest;
        fits = (subst (λ (y : T). IsTrue (g.is_of k y)) q.0 p.0, rest.fits);
        same_tokens = ap (λ (z : List (Marked T)). free u ∷ z) rest.same_tokens;
        same_forest = ap (λ (y : T). leaf y (unmarked_forest rest.forest)) (sym q.0)
            ∙ ap (λ (h : Forest A T). leaf x h) rest.same_forest;
      }
  within_reads limit (rule r ∷ ss) room level marks bare ts e p q = absurd p
  within_reads limit (rule r ∷ ss) room level marks (leaf x f) ts e p q = absurd p
  within_reads limit (rule r ∷ ss) room level marks (node a x f) ts e p q =
      let parts : Beside T limit
      (nested deeper (level_at (first_mark marks) level) (deeper a) x)
      (nested deeper level (other_marks marks) f) ts =
      within_parts limit (nested deeper (level_at (first_mark marks) level) (deeper a) x)
      (nested deeper level (other_marks marks) f) ts q in
      let inner : Given (with_room (room_at (first_mark marks) room) (deeper a) (g.symbols a)) x
      parts.first =
      within_reads limit (g.symbols a) (room_at (first_mark marks) room)
      (level_at (first_mark marks) level) (deeper a) x parts.first
      (room_level (first_mark marks) room level limit e) p.1 parts.first_within in
      let rest : Given (with_room room (other_marks marks) ss) f parts.second =
      within_reads limit ss room level (other_marks marks) f parts.second e p.2
      parts.second_within in
      record {
        forest = node (record { what = a; room = room_at (first_mark marks) room }) inner.forest
            rest.forest;
        fits = (
          alternative_roomed (g.alternatives r) (room_at (first_mark marks) room) a p.0,
          inner.fits,
          rest.fits,
        );
        same_tokens = ap (λ (z : List (Marked T)). z ++ tokens_of rest.forest) inner.same_tokens
            ∙ ap (λ (z : List (Marked T)). parts.first ++ z) rest.same_tokens ∙ parts.joined;
        same_forest = ap (λ (h : Forest A T). node a h (unmarked_forest rest.forest))
            inner.same_forest
            ∙ ap (λ (h : Forest A T). node a x h) rest.same_forest;
      }

  -- What the grammar reads, the grammar with room reads of free tokens.
  pub reads_free : {V : Type 0} (token_value : T → V) (node_value : A → List T → List V → V)
      (ss : List (Symbol K R)) (room : ℕ) (marks : List Bool) (f : Forest A T) → Fits g ss f
      → Reads (room_language g t deeper token_value node_value) (with_room room marks ss)
      (map (λ x. free x) (tokens_of f))
  reads_free token_value node_value ss room marks f p =
      let q : Given (with_room room marks ss) f (map (λ x. free x) (tokens_of f)) =
      within_reads room ss room 1 marks f (map (λ x. free x) (tokens_of f)) (omega arith) p
      (free_within deeper room 1 marks f) in
      record { forest = q.forest; fits = q.fits; same_tokens = q.same_tokens }

  -- Completions are read as free tokens.
  pub free_completed : {V : Type 0} (token_value : T → V) (node_value : A → List T → List V → V)
      (c : Completions K R T) → ((k : K) → IsTrue (g.is_of k (c.token_of k)))
      → (reading : R → Forest A T) → ((r : R) → IsReading g r (c.tokens_of_rule r) (reading r))
      → Complete (room_language g t deeper token_value node_value) (free_completions c)
  free_completed token_value node_value c h reading reads = record {
    each_class = λ k. h k.class;
    each_rule = λ r. subst
        (λ (x : List T). Reads (room_language g t deeper token_value node_value)
        (rule r ∷ []) (map (λ y. free y) x)) (reads r.what).same_tokens
        (reads_free token_value node_value (rule r.what ∷ []) r.room [] (reading r.what)
        (reads r.what).fits);
  }

  -- The values of a forest with room are those without.
  pub values_of-unmarked : {V : Type 0} (token_value : T → V)
      (node_value : A → List T → List V → V) (view : Forest A T → List V)
      → view bare ≡ []
      → ((x : T) (f : Forest A T) → view (leaf x f) ≡ token_value x ∷ view f)
      → ((a : A) (x f : Forest A T)
      → view (node a x f) ≡ node_value a (tokens_of x) (view x) ∷ view f)
      → (f : Forest (Roomed A) (Marked T))
      → values_of (room_language g t deeper token_value node_value) f ≡ view (unmarked_forest f)
  values_of-unmarked token_value node_value view b s h bare = sym b
  values_of-unmarked token_value node_value view b s h (leaf x f) =
      ap (λ (vs : List _). token_value (unmarked x) ∷ vs)
      (values_of-unmarked token_value node_value view b s h f)
      ∙ sym (s (unmarked x) (unmarked_forest f))
  values_of-unmarked token_value node_value view b s h (node a x f) =
      let l : Language (Admitted K) (Roomed R) (Roomed A) T (Marked T) _ =
      room_language g t deeper token_value node_value in
      ap (λ (vs : List _). node_value a.what (map (λ y. unmarked y) (tokens_of x)) vs
      ∷ values_of (room_language g t deeper token_value node_value) f)
      (values_of-unmarked token_value node_value view b s h x)
      ∙ ap (λ (ts : List T). node_value a.what ts (view (unmarked_forest x))
      ∷ values_of (room_language g t deeper token_value node_value) f)
      (sym (tokens_of-unmarked x))
      ∙ ap (λ (vs : List _). node_value a.what (tokens_of (unmarked_forest x))
      (view (unmarked_forest x)) ∷ vs)
      (values_of-unmarked token_value node_value view b s h f)
      ∙ sym (h a.what (unmarked_forest x) (unmarked_forest f))
