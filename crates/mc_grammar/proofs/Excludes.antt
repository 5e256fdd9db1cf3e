-- The answers of a parser exclude each other, and each has one place.
use Rattle.std.proofs.Common.{◌≡◌, ◌⊎◌, inl, inr, ℕ, Bool, List, [], ◌∷◌, ◌++◌, refl, sym, ap, ◌∙◌}
use Rattle.std.proofs.Common.{append_assoc, append-nil, map, subst}
use Rattle.std.proofs.lemmas.List.{map-append}
use Rattle.mc_grammar.specs.Grammar.{Grammar}
use Rattle.mc_grammar.specs.Nest.{Marked, bound, free, Nested, nested, AreWithin}
use Rattle.mc_grammar.specs.Goes.{GoesOn, GoesOnWithin}
use Rattle.mc_grammar.specs.Answers.{HasReading, GoesNoFurther, GoesDeeper, HasNoReading}
use Rattle.mc_grammar.specs.Answers.{HasDeepReading}

-- Of two splits of one list the second has the longer front.
record IsShorter {T : Type 0} (f v h w : List T) : Type 0 where
  next : T
  more : List T
  longer : h ≡ f ++ (next ∷ more)
  same_rest : v ≡ next ∷ (more ++ w)

compared : {T : Type 0} (f v h w : List T) → f ++ v ≡ h ++ w
    → ((f ≡ h) × (v ≡ w)) ⊎ (IsShorter f v h w ⊎ IsShorter h w f v)
compared [] v [] w e = inl (refl, e)
compared [] v (y ∷ h) w e =
    inr (inl (record { next = y; more = h; longer = refl; same_rest = e }))
compared (x ∷ f) v [] w e =
    inr (inr (record { next = x; more = f; longer = refl; same_rest = sym e }))
compared (x ∷ f) v (y ∷ h) w e =
    let first : x ≡ y = cc in
    let others : f ++ v ≡ h ++ w = cc in
    elim (compared f v h w others) [
      | inl p ↦ inl (cc, p.1)
      | inr (inl p) ↦ inr (inl (record {
        next = p.next;
        more = p.more;
        longer = ap (λ (z : List _). y ∷ z) p.longer
            ∙ ap (λ (z : _). z ∷ (f ++ (p.next ∷ p.more))) (sym first);
        same_rest = p.same_rest;
      }))
      | inr (inr p) ↦ inr (inr (record {
        next = p.next;
        more = p.more;
        longer = ap (λ (z : List _). x ∷ z) p.longer
            ∙ ap (λ (z : _). z ∷ (h ++ (p.next ∷ p.more))) first;
        same_rest = p.same_rest;
      }))
    ]

-- Bound tokens that are freed stay within the limit.
freed : {T : Type 0} (limit : ℕ) (ns : List (Nested T)) (u v : List T) (w : List (Marked T))
    → AreWithin limit ns (map (λ x. bound x) (u ++ v) ++ w)
    → AreWithin limit ns (map (λ x. bound x) u ++ (map (λ x. free x) v ++ w))
freed limit ns [] [] w p = p
freed limit [] [] (x ∷ v) w p = absurd p
freed limit (n ∷ ns) [] (x ∷ v) w p = (p.0, freed limit ns [] v w p.2)
freed limit [] (x ∷ u) v w p = absurd p
freed limit (n ∷ ns) (x ∷ u) v w p = (p.0, p.1, freed limit ns u v w p.2)

module _ {K R A T : Type 0} (g : Grammar K R A T) (deeper : A → List Bool) (limit : ℕ) (r : R) where
  -- What goes on, its fronts do.
  on_shorter : (u v : List T) → GoesOn g r (u ++ v) → GoesOn g r u
  on_shorter u v p = record {
    later = v ++ p.later;
    reading = p.reading;
    reads = record {
      fits = p.reads.fits;
      same_tokens = p.reads.same_tokens ∙ append_assoc u v p.later;
    };
  }

  within_shorter : (u v : List T) → GoesOnWithin g deeper limit r (u ++ v)
      → GoesOnWithin g deeper limit r u
  within_shorter u v p = record {
    later = v ++ p.later;
    reading = p.reading;
    reads = record {
      fits = p.reads.fits;
      same_tokens = p.reads.same_tokens ∙ append_assoc u v p.later;
    };
    within = subst (λ (z : List (Marked T)). AreWithin limit (nested deeper 0 [] p.reading)
        (map (λ x. bound x) u ++ z)) (sym (map-append (λ (x : T). free x) v p.later))
        (freed limit (nested deeper 0 [] p.reading) u v (map (λ x. free x) p.later) p.within);
  }

  on_of_within : (u : List T) → GoesOnWithin g deeper limit r u → GoesOn g r u
  on_of_within u p = record { later = p.later; reading = p.reading; reads = p.reads }

  -- Tokens with a reading go on within the limit from each of their fronts.
  whole_within : (tokens u v : List T) → tokens ≡ u ++ v
      → HasReading g deeper limit r tokens → GoesOnWithin g deeper limit r u
  whole_within tokens u v e p = record {
    later = v;
    reading = p.reading;
    reads = record { fits = p.reads.fits; same_tokens = p.reads.same_tokens ∙ e };
    within = subst (λ (z : List (Marked T)). AreWithin limit (nested deeper 0 [] p.reading)
        (map (λ x. bound x) u ++ z)) (append-nil (map (λ x. free x) v))
        (freed limit (nested deeper 0 [] p.reading) u v []
        (subst (λ (z : List (Marked T)). AreWithin limit (nested deeper 0 [] p.reading) z)
        (ap (λ (z : List T). map (λ x. bound x) z) e
        ∙ sym (append-nil (map (λ x. bound x) (u ++ v)))) p.within));
  }

  -- The tokens up to the first of those behind a front.
  one_more : (f : List T) (x : T) (m : List T) → f ++ (x ∷ m) ≡ (f ++ (x ∷ [])) ++ m
  one_more f x m = sym (append_assoc f (x ∷ []) m)

  no_further : (f v : List T) (x : T) (w : List T) → v ≡ x ∷ w → GoesNoFurther g deeper limit r f v
      → GoesOn g r (f ++ (x ∷ [])) → ⊥
  no_further f v x w e p = subst (λ (z : List T). GoesNoFurther g deeper limit r f z) e p

  not_within : (f v : List T) (x : T) (w : List T) → v ≡ x ∷ w → GoesDeeper g deeper limit r f v
      → GoesOnWithin g deeper limit r (f ++ (x ∷ [])) → ⊥
  not_within f v x w e p =
      (subst (λ (z : List T). GoesDeeper g deeper limit r f z) e p).1

  -- A longer front goes on with the token behind a shorter one.
  longer_within : (f v h w : List T) → (s : IsShorter f v h w)
      → GoesOnWithin g deeper limit r h → GoesOnWithin g deeper limit r (f ++ (s.next ∷ []))
  longer_within f v h w s p =
      within_shorter (f ++ (s.next ∷ [])) s.more
      (subst (λ (z : List T). GoesOnWithin g deeper limit r z)
      (s.longer ∙ one_more f s.next s.more) p)

  stops_before : (f v h w : List T) → IsShorter f v h w → GoesNoFurther g deeper limit r f v
      → GoesOnWithin g deeper limit r h → ⊥
  stops_before f v h w s p q =
      no_further f v s.next (s.more ++ w) s.same_rest p
      (on_of_within (f ++ (s.next ∷ [])) (longer_within f v h w s q))

  deep_before : (f v h w : List T) → IsShorter f v h w → GoesDeeper g deeper limit r f v
      → GoesOnWithin g deeper limit r h → ⊥
  deep_before f v h w s p q =
      not_within f v s.next (s.more ++ w) s.same_rest p (longer_within f v h w s q)

  pub reading_or_none : (tokens front rest : List T) → HasReading g deeper limit r tokens
      → HasNoReading g deeper limit r tokens front rest → ⊥
  reading_or_none tokens front rest p q = by_rest rest q.split q.stops
    where
      by_rest : (v : List T) → tokens ≡ front ++ v → GoesNoFurther g deeper limit r front v → ⊥
      by_rest [] e s = s p.reading (record {
        fits = p.reads.fits;
        same_tokens = p.reads.same_tokens ∙ e ∙ append-nil front;
      })
      by_rest (x ∷ v) e s =
          s (on_of_within (front ++ (x ∷ [])) (whole_within tokens (front ++ (x ∷ [])) v
          (e ∙ one_more front x v) p))

  pub reading_or_deep : (tokens front rest : List T) → HasReading g deeper limit r tokens
      → HasDeepReading g deeper limit r tokens front rest → ⊥
  reading_or_deep tokens front rest p q = by_rest rest q.split q.deeper_on
    where
      by_rest : (v : List T) → tokens ≡ front ++ v → GoesDeeper g deeper limit r front v → ⊥
      by_rest [] e s = s
      by_rest (x ∷ v) e s =
          s.1 (whole_within tokens (front ++ (x ∷ [])) v (e ∙ one_more front x v) p)

  pub none_or_deep : (tokens f v h w : List T) → HasNoReading g deeper limit r tokens f v
      → HasDeepReading g deeper limit r tokens h w → ⊥
  none_or_deep tokens f v h w p q =
      elim (compared f v h w (sym p.split ∙ q.split)) [
        | inl e ↦ same e.0 e.1
        | inr (inl s) ↦ stops_before f v h w s p.stops q.goes
        | inr (inr s) ↦ deep_before h w f v s q.deeper_on p.goes
      ]
    where
      at_one : (u z : List T) → GoesNoFurther g deeper limit r u z
          → GoesDeeper g deeper limit r u z → ⊥
      at_one u [] s t = t
      at_one u (x ∷ z) s t = s t.0

      same : f ≡ h → v ≡ w → ⊥
      same e i = at_one h w
          (subst (λ (z : List T). GoesNoFurther g deeper limit r h z) i
          (subst (λ (z : List T). GoesNoFurther g deeper limit r z v) e p.stops)) q.deeper_on

  pub one_none : (tokens f v h w : List T) → HasNoReading g deeper limit r tokens f v
      → HasNoReading g deeper limit r tokens h w → (f ≡ h) × (v ≡ w)
  one_none tokens f v h w p q =
      elim (compared f v h w (sym p.split ∙ q.split)) [
        | inl e ↦ e
        | inr (inl s) ↦ absurd (stops_before f v h w s p.stops q.goes)
        | inr (inr s) ↦ absurd (stops_before h w f v s q.stops p.goes)
      ]

  pub one_deep : (tokens f v h w : List T) → HasDeepReading g deeper limit r tokens f v
      → HasDeepReading g deeper limit r tokens h w → (f ≡ h) × (v ≡ w)
  one_deep tokens f v h w p q =
      elim (compared f v h w (sym p.split ∙ q.split)) [
        | inl e ↦ e
        | inr (inl s) ↦ absurd (deep_before f v h w s p.deeper_on q.goes)
        | inr (inr s) ↦ absurd (deep_before h w f v s q.deeper_on p.goes)
      ]
