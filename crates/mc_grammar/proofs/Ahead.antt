-- What may stand next.
use Rattle.std.proofs.Common.{◌≡◌, ◌⊎◌, inl, inr, ◌&&◌, ◌||◌, not, Bool, true, false, List, [], ◌∷◌}
use Rattle.std.proofs.Common.{◌++◌, refl, sym, ap, ◌∙◌, append_assoc, Option, Some, None, IsTrue}
use Rattle.std.proofs.Common.{subst}
use Rattle.mc_grammar.specs.Grammar.{Grammar, Symbol, one, rule}
use Rattle.mc_grammar.specs.Reading.{Forest, bare, leaf, node, tokens_of, IsOneOf, Fits}
use Rattle.std.specs.List.{list_any}
use Rattle.mc_grammar.specs.Ahead.{Ahead, Tables, Meets, Begins, StandsBehind, MeetsWhole}
use Rattle.mc_grammar.specs.Ahead.{BeginsWhole, is_behind, every, are_apart_next, is_within_next}
use Rattle.mc_grammar.specs.Ahead.{exclude, is_part, when, may_be_none, starts, is_followed}
use Rattle.mc_grammar.specs.Ahead.{is_covered, Covers}

pub both : (a b : Bool) → IsTrue (a && b) → IsTrue a × IsTrue b
both true b h = (refl, h)
both false b h = absurd (cc)

pub chosen : (a b : Bool) → IsTrue (elim a [ true ↦ b | false ↦ false ]) → IsTrue a × IsTrue b
chosen true b h = (refl, h)
chosen false b h = absurd (cc)

pub either : (a b : Bool) → IsTrue (a || b) → IsTrue a ⊎ IsTrue b
either true b h = inl refl
either false b h = inr h

pub every_one : {A : Type 0} (test : A → Bool) (a : A) (as' : List A) → IsTrue (every test as')
    → IsOneOf a as' → IsTrue (test a)
every_one test a [] h i = absurd i
every_one test a (b ∷ bs) h i =
    let p : IsTrue (test b) × IsTrue (every test bs) = chosen (test b) (every test bs) h in
    elim i [
      | inl e ↦ subst (λ (x : _). IsTrue (test x))
          (sym e) p.0
      | inr j ↦ every_one test a bs p.1 j
    ]

module _ {K R A T : Type 0} (g : Grammar K R A T) (t : Tables K R) where
  pub Begins-left : (ks ls : Ahead K) (tokens : List T) → BeginsWhole g t ks tokens
      → BeginsWhole g t (ks ++ ls) tokens
  Begins-left [] ls tokens b = absurd b
  Begins-left (k ∷ ks) ls tokens b =
      elim b [ inl m ↦ inl m | inr c ↦ inr (Begins-left ks ls tokens c) ]

  pub Begins-right : (ks ls : Ahead K) (tokens : List T) → BeginsWhole g t ls tokens
      → BeginsWhole g t (ks ++ ls) tokens
  Begins-right [] ls tokens b = b
  Begins-right (k ∷ ks) ls tokens b = inr (Begins-right ks ls tokens b)

  pub Begins-split : (ks ls : Ahead K) (tokens : List T) → BeginsWhole g t (ks ++ ls) tokens
      → BeginsWhole g t ks tokens ⊎ BeginsWhole g t ls tokens
  Begins-split [] ls tokens b = inr b
  Begins-split (k ∷ ks) ls tokens (inl m) = inl (inl m)
  Begins-split (k ∷ ks) ls tokens (inr c) =
      elim (Begins-split ks ls tokens c) [ inl d ↦ inl (inr d) | inr d ↦ inr d ]

  module _ (d : Covers g t) where
    pub meets_within : (k l : Option K) (tokens : List T) → IsTrue (is_within_next t.is_within k l)
        → MeetsWhole g t k tokens → MeetsWhole g t l tokens
    meets_within None None tokens h m = m
    meets_within None (Some l) tokens h m = absurd (cc)
    meets_within (Some k) None tokens h m = absurd (cc)
    meets_within (Some k) (Some l) [] h m = m
    meets_within (Some k) (Some l) (token ∷ tokens) h m = d.inner_classes k l token tokens h m

    meets_apart : (k l : Option K) (tokens : List T) → IsTrue (are_apart_next t.are_apart k l)
        → MeetsWhole g t k tokens → MeetsWhole g t l tokens → ⊥
    meets_apart None None tokens h m n = absurd (cc)
    meets_apart None (Some l) [] h m n = n
    meets_apart None (Some l) (token ∷ tokens) h m n = m
    meets_apart (Some k) None [] h m n = m
    meets_apart (Some k) None (token ∷ tokens) h m n = n
    meets_apart (Some k) (Some l) [] h m n = m
    meets_apart (Some k) (Some l) (token ∷ tokens) h m n = d.apart_classes k l token tokens h m n

    begins_any : (k : Option K) (ls : Ahead K) (tokens : List T)
        → IsTrue (list_any (λ l. is_within_next t.is_within k l) ls) → MeetsWhole g t k tokens
        → BeginsWhole g t ls tokens
    begins_any k [] tokens h m = absurd (cc)
    begins_any k (l ∷ ls) tokens h m =
        elim (either (is_within_next t.is_within k l)
        (list_any (λ l. is_within_next t.is_within k l) ls) h)
        [ inl p ↦ inl (meets_within k l tokens p m) | inr q ↦ inr (begins_any k ls tokens q m) ]

    pub begins_part : (ks ls : Ahead K) (tokens : List T) → IsTrue (is_part t ks ls)
        → BeginsWhole g t ks tokens → BeginsWhole g t ls tokens
    begins_part [] ls tokens h b = absurd b
    begins_part (k ∷ ks) ls tokens h b =
        let p : IsTrue (list_any (λ l. is_within_next t.is_within k l) ls)
        × IsTrue (is_part t ks ls) = chosen (list_any (λ l. is_within_next t.is_within k l) ls)
        (is_part t ks ls) h in
        elim b [ inl m ↦ begins_any k ls tokens p.0 m | inr c ↦ begins_part ks ls tokens p.1 c ]

    excludes_each : (k : Option K) (ls : Ahead K) (tokens : List T)
        → IsTrue (every (λ l. are_apart_next t.are_apart k l) ls) → MeetsWhole g t k tokens
        → BeginsWhole g t ls tokens → ⊥
    excludes_each k [] tokens h m b = b
    excludes_each k (l ∷ ls) tokens h m b =
        let p : IsTrue (are_apart_next t.are_apart k l)
        × IsTrue (every (λ l. are_apart_next t.are_apart k l) ls) =
        chosen (are_apart_next t.are_apart k l)
        (every (λ l. are_apart_next t.are_apart k l) ls) h in
        elim b [
          | inl n ↦ meets_apart k l tokens p.0 m n
          | inr c ↦ excludes_each k ls tokens p.1 m c
        ]

    pub excludes : (ks ls : Ahead K) (tokens : List T) → IsTrue (exclude t ks ls)
        → BeginsWhole g t ks tokens → BeginsWhole g t ls tokens → ⊥
    excludes [] ls tokens h b c = b
    excludes (k ∷ ks) ls tokens h b c =
        let p : IsTrue (every (λ l. are_apart_next t.are_apart k l) ls)
        × IsTrue (exclude t ks ls) = chosen (every (λ l. are_apart_next t.are_apart k l) ls)
        (exclude t ks ls) h in
        elim b [ inl m ↦ excludes_each k ls tokens p.0 m c | inr e ↦ excludes ks ls tokens p.1 e c ]

    when_true : (b : Bool) (ks : Ahead K) (tokens : List T) → IsTrue b → BeginsWhole g t ks tokens
        → BeginsWhole g t (when b ks) tokens
    when_true true ks tokens h c = c
    when_true false ks tokens h c = absurd (cc)

    when_holds : (b : Bool) (ks : Ahead K) (tokens : List T) → BeginsWhole g t (when b ks) tokens
        → IsTrue b × BeginsWhole g t ks tokens
    when_holds true ks tokens c = (refl, c)
    when_holds false ks tokens c = absurd c

    both_hold : (a b : Bool) → IsTrue a → IsTrue b → IsTrue (a && b)
    both_hold true b h k = k
    both_hold false b h k = absurd (cc)

    -- What begins as the symbols alone allow, or as what stands after symbols that may read
    -- nothing, begins as the symbols with what stands after them allow.
    joined : (ss : List (Symbol K R)) (after : Ahead K) (tokens : List T)
        → (IsTrue (may_be_none t ss) × BeginsWhole g t after tokens)
        ⊎ BeginsWhole g t (starts t ss []) tokens → BeginsWhole g t (starts t ss after) tokens
    joined [] after tokens (inl b) = b.1
    joined [] after tokens (inr b) = absurd b
    joined (one k ∷ ss) after tokens (inl b) = absurd (different b.0)
      where
        different : IsTrue false → ⊥
        different e = cc
    joined (one k ∷ ss) after tokens (inr b) = b
    joined (rule r ∷ ss) after tokens (inl b) =
        let e : IsTrue (t.may_be_empty r) × IsTrue (may_be_none t ss) =
        both (t.may_be_empty r) (may_be_none t ss) b.0 in
        Begins-right (t.begins r) (when (t.may_be_empty r) (starts t ss after)) tokens
        (when_true (t.may_be_empty r) (starts t ss after) tokens e.0
        (joined ss after tokens (inl (e.1, b.1))))
    joined (rule r ∷ ss) after tokens (inr b) =
        elim (Begins-split (t.begins r) (when (t.may_be_empty r) (starts t ss [])) tokens b) [
          | inl c ↦ Begins-left (t.begins r) (when (t.may_be_empty r) (starts t ss after)) tokens c
          | inr c ↦ Begins-right (t.begins r) (when (t.may_be_empty r) (starts t ss after)) tokens
              (when_true (t.may_be_empty r) (starts t ss after) tokens
              (when_holds (t.may_be_empty r) (starts t ss []) tokens c).0
              (joined ss after tokens (inr (when_holds (t.may_be_empty r)
              (starts t ss []) tokens c).1)))
        ]

    pub covered : (r : R) (a : A) → IsOneOf a (g.alternatives r) → IsTrue (is_covered g t r a)
    covered r a i =
        every_one (λ a. is_covered g t r a) a (g.alternatives r) (d.each_alternative r) i

    may_be : (a b : Bool) → IsTrue (not a || b) → IsTrue a → IsTrue b
    may_be true b h k = h
    may_be false b h k = absurd (cc)

    pub begins_within : (r : R) (a : A) → IsOneOf a (g.alternatives r)
        → IsTrue (is_part t (starts t (g.symbols a) []) (t.begins r))
    begins_within r a i = (both (is_part t (starts t (g.symbols a) []) (t.begins r))
        ((not (may_be_none t (g.symbols a)) || t.may_be_empty r) && is_followed t (g.symbols a)
        (t.follows r)) (covered r a i)).0

    pub empty_within : (r : R) (a : A) → IsOneOf a (g.alternatives r)
        → IsTrue (may_be_none t (g.symbols a)) → IsTrue (t.may_be_empty r)
    empty_within r a i = may_be (may_be_none t (g.symbols a)) (t.may_be_empty r)
        (both (not (may_be_none t (g.symbols a)) || t.may_be_empty r)
        (is_followed t (g.symbols a) (t.follows r))
        (both (is_part t (starts t (g.symbols a) []) (t.begins r))
        ((not (may_be_none t (g.symbols a)) || t.may_be_empty r) && is_followed t (g.symbols a)
        (t.follows r)) (covered r a i)).1).0

    pub followed : (r : R) (a : A) → IsOneOf a (g.alternatives r)
        → IsTrue (is_followed t (g.symbols a) (t.follows r))
    followed r a i = (both (not (may_be_none t (g.symbols a)) || t.may_be_empty r)
        (is_followed t (g.symbols a) (t.follows r))
        (both (is_part t (starts t (g.symbols a) []) (t.begins r))
        ((not (may_be_none t (g.symbols a)) || t.may_be_empty r) && is_followed t (g.symbols a)
        (t.follows r)) (covered r a i)).1).1

    plain : (k : Option K) (tokens : List T) → MeetsWhole g t k tokens → Meets g k tokens
    plain None [] m = m
    plain None (token ∷ tokens) m = m
    plain (Some k) [] m = m
    plain (Some k) (token ∷ tokens) m = m.0

    begins_plain : (ks : Ahead K) (tokens : List T) → BeginsWhole g t ks tokens → Begins g ks tokens
    begins_plain [] tokens b = b
    begins_plain (k ∷ ks) tokens b =
        elim b [ inl m ↦ inl (plain k tokens m) | inr c ↦ inr (begins_plain ks tokens c) ]

    as_said : (next : Ahead K) (said : Option (Ahead K)) (tokens : List T)
        → IsTrue (is_behind t next said) → BeginsWhole g t next tokens
        → StandsBehind g t said tokens
    as_said next None tokens h b = tt
    as_said next (Some said) tokens h b =
        begins_plain said tokens (begins_part next said tokens h b)

    -- A forest reads nothing, where its symbols may, or its tokens begin as its symbols allow.
    Front : List (Symbol K R) → Forest A T → List T → Type 0
    Front ss f rest = ((tokens_of f ≡ []) × IsTrue (may_be_none t ss))
        ⊎ BeginsWhole g t (starts t ss []) (tokens_of f ++ rest)

    of_front : (ss : List (Symbol K R)) (after : Ahead K) (f : Forest A T) (rest : List T)
        → Front ss f rest → BeginsWhole g t after rest
        → BeginsWhole g t (starts t ss after) (tokens_of f ++ rest)
    unfolding Front
    of_front ss after f rest (inl e) b =
        joined ss after (tokens_of f ++ rest)
        (inl (e.1, subst (λ (ts : List T). BeginsWhole g t after (ts ++ rest)) (sym e.0) b))
    of_front ss after f rest (inr c) b = joined ss after (tokens_of f ++ rest) (inr c)

    front_of_node : (r : R) (a : A) (x h : Forest A T) (ss : List (Symbol K R)) (rest : List T)
        → IsOneOf a (g.alternatives r)
        → Front (g.symbols a) x (tokens_of h ++ rest) → Front ss h rest
        → Front (rule r ∷ ss) (node a x h) rest
    unfolding Front
    front_of_node r a x h ss rest i (inr c) w =
        inr (subst (λ (ts : List T). BeginsWhole g t (starts t (rule r ∷ ss) []) ts)
        (sym (append_assoc (tokens_of x) (tokens_of h) rest))
        (Begins-left (t.begins r) (when (t.may_be_empty r) (starts t ss []))
        (tokens_of x ++ (tokens_of h ++ rest))
        (begins_part (starts t (g.symbols a) []) (t.begins r)
        (tokens_of x ++ (tokens_of h ++ rest)) (begins_within r a i) c)))
    front_of_node r a x h ss rest i (inl e) (inl e') =
        inl (
          ap (λ ts. ts ++ tokens_of h) e.0
              ∙ e'.0,
          both_hold (t.may_be_empty r) (may_be_none t ss) (empty_within r a i e.1) e'.1,
        )
    front_of_node r a x h ss rest i (inl e) (inr c) =
        inr (subst (λ (ts : List T). BeginsWhole g t (starts t (rule r ∷ ss) [])
        ((ts ++ tokens_of h) ++ rest)) (sym e.0)
        (Begins-right (t.begins r) (when (t.may_be_empty r) (starts t ss [])) (tokens_of h ++ rest)
        (when_true (t.may_be_empty r) (starts t ss []) (tokens_of h ++ rest)
        (empty_within r a i e.1) c)))

    front : (ss : List (Symbol K R)) (after : Ahead K) (f : Forest A T) (rest : List T)
        → Fits g ss f → IsTrue (is_followed t ss after)
        → BeginsWhole g t after rest → Front ss f rest
    unfolding Front
    front [] after bare rest p w b = inl (refl, refl)
    front [] after (leaf token h) rest p w b = absurd p
    front [] after (node a x h) rest p w b = absurd p
    front (one k ∷ ss) after bare rest p w b = absurd p
    front (one k ∷ ss) after (leaf token h) rest p w b =
        let w' : IsTrue (is_behind t (starts t ss after) (t.behind k))
        × IsTrue (is_followed t ss after) =
        both (is_behind t (starts t ss after) (t.behind k)) (is_followed t ss after) w in
        let next : BeginsWhole g t (starts t ss after) (tokens_of h ++ rest) =
        of_front ss after h rest (front ss after h rest p.1 w'.1 b) b in
        inr (inl (
          p.0,
          as_said (starts t ss after) (t.behind k)
              (tokens_of h ++ rest) w'.0 next,
        ))
    front (one k ∷ ss) after (node a x h) rest p w b = absurd p
    front (rule r ∷ ss) after bare rest p w b = absurd p
    front (rule r ∷ ss) after (leaf token h) rest p w b = absurd p
    front (rule r ∷ ss) after (node a x h) rest p w b =
        let w' : IsTrue (is_part t (starts t ss after) (t.follows r))
        × IsTrue (is_followed t ss after) =
        both (is_part t (starts t ss after) (t.follows r)) (is_followed t ss after) w in
        let tail : Front ss h rest = front ss after h rest p.2 w'.1 b in
        let next : BeginsWhole g t (t.follows r) (tokens_of h ++ rest) =
        begins_part (starts t ss after) (t.follows r) (tokens_of h ++ rest) w'.0
        (of_front ss after h rest tail b) in
        front_of_node r a x h ss rest p.0
        (front (g.symbols a) (t.follows r) x (tokens_of h ++ rest) p.1 (followed r a p.0) next)
        tail

    -- The tokens of a forest and what stands after it begin as its symbols allow.
    pub begins_as : (ss : List (Symbol K R)) (after : Ahead K) (f : Forest A T) (rest : List T)
        → Fits g ss f → IsTrue (is_followed t ss after)
        → BeginsWhole g t after rest → BeginsWhole g t (starts t ss after) (tokens_of f ++ rest)
    begins_as ss after f rest p w b = of_front ss after f rest (front ss after f rest p w b) b
