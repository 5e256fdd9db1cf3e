-- Failing inside the alternatives of a rule: no place wants the next token, or each wants it free.
use Rattle.std.proofs.Common.{◌≡◌, inl, inr, ℕ, ◌+◌, ◌≤◌, Bool, not, List, [], ◌∷◌, ◌++◌, length}
use Rattle.std.proofs.Common.{refl, sym, ap, ◌∙◌, append_assoc, append-nil, map, IsTrue, subst}
use Rattle.std.proofs.Common.{Option}
use Rattle.mc_grammar.specs.Grammar.{Symbol, one, rule}
use Rattle.mc_grammar.specs.Reading.{leaf, IsOneOf}
use Rattle.mc_grammar.specs.Ahead.{Ahead, every}
use Rattle.mc_grammar.specs.Language.{Language, Reads, IsSound}
use Rattle.mc_grammar.specs.Descent.{Allows, Alike}
use Rattle.mc_grammar.specs.Places.{Place, before, passes, all_pass, is_out, all_out, is_barred}
use Rattle.mc_grammar.specs.Places.{Sees, ReadsOne, IsReached, EachReached, Inside, Fails}
use Rattle.mc_grammar.specs.Places.{IsTooDeep}
use Rattle.mc_grammar.specs.Completions.{Completions, completion, Complete}
use Rattle.mc_grammar.proofs.Ahead.{both, chosen}
use Rattle.mc_grammar.proofs.Steps.{reads_append, reads_closed, reads_token, means_reads}
use Rattle.mc_grammar.proofs.Marks.{alike_free, alike_bound, alike_shorter, reads_freed}
use Rattle.mc_grammar.proofs.Paths.{allows_more, reads_at, marked_twice}
use Rattle.mc_grammar.proofs.Completing.{completes}
use Rattle.mc_grammar.proofs.Inside.{negated_false, out_reads_nothing, passed}

module _ {K R A S T V : Type 0} (l : Language K R A S T V) where
  -- What is left of a place can be completed.
  goes_on : (c : Completions K R T) (f : Complete l c) (r : R) (front : List S) (vs : List V)
      (p : Place K R A) → IsReached l r front vs p → (w : List T) → Reads l p.left w
      → Reads l (rule r ∷ []) (map l.bound front ++ w)
  goes_on c f r front vs p i w q =
      reads_closed l r p.alternative [] (map l.bound front ++ w) i.is_alternative
      (reads_at l (i.done ++ p.left) (l.grammar.symbols p.alternative ++ [])
      (map l.bound front ++ w) (map l.bound front ++ w)
      (sym i.split ∙ sym (append-nil (l.grammar.symbols p.alternative))) refl
      (reads_append l i.done p.left (map l.bound front) w
      (means_reads l i.done front vs i.means) q))

  none_reads : (d : IsSound l) (after : Ahead K) (look : ℕ) (rest : List S)
      (may : Option K → Bool) (ks : List (Symbol K R)) (w : List T) → Sees l look rest may
      → Allows l after ks → Alike l look w rest → (places : List (Place K R A))
      → IsTrue (all_out l may after places) → ReadsOne l places ks w → ⊥
  none_reads d after look rest may ks w s a same [] h p = p
  none_reads d after look rest may ks w s a same (q ∷ qs) h p =
      let tests : IsTrue (is_out l may after q.left) × IsTrue (all_out l may after qs) =
      chosen (is_out l may after q.left) (all_out l may after qs) h in
      elim p [
        | inl r ↦ out_reads_nothing l d after look rest may q.left ks w s a same tests.0 r
        | inr r ↦ none_reads d after look rest may ks w s a same qs tests.1 r
      ]

  -- The next token is wanted at none of the places.
  pub stuck_here : (d : IsSound l) (c : Completions K R T) (f : Complete l c)
      (after : Ahead K) (n : ℕ) (r : R)
      (place : Place K R A) (places : List (Place K R A)) (vs : List V) (tokens front rest : List S)
      (may : Option K → Bool)
      → Inside l after n r (place ∷ places) vs tokens front rest → Sees l 1 rest may → n ≤ 1
      → IsTrue (all_out l may after (place ∷ places))
      → Fails l after r tokens rest
  stuck_here d c f after n r place places vs tokens front rest may p s lt h = record {
    front = front;
    split = p.split;
    stuck = record {
      stops = λ ks w a same q. none_reads d after 1 rest may ks w s a same (place ∷ places) h
          (p.takes ks w a (alike_shorter l n 1 w rest lt same) q);
      goes = (
        completion c place.left,
        goes_on c f r front vs place p.reached.0 (completion c place.left)
            (completes l c f place.left),
      );
    };
  }

  -- A rule that is the next symbol of each place fails.
  pub stuck_within : (d : IsSound l) (c : Completions K R T) (f : Complete l c)
      (after after' : Ahead K) (n : ℕ) (r q : R)
      (places : List (Place K R A)) (left : Place K R A) (lefts : List (Place K R A))
      (vs : List V) (tokens front rest v : List S)
      → Inside l after n r places vs tokens front rest → places ≡ before (rule q) (left ∷ lefts)
      → IsTrue (all_pass l after (left ∷ lefts) after')
      → (o : Fails l after' q rest v) → n ≤ length o.front + 1
      → Fails l after r tokens v
  stuck_within d c f after after' n r q places left lefts vs tokens front rest v p e h o lt =
      record {
        front = front ++ o.front;
        split = p.split ∙ ap (λ (x : List S). front ++ x) o.split
            ∙ sym (append_assoc front o.front v);
        stuck = record {
          stops = λ ks w a same s. no_more ks w a same
              (subst (λ (x : List (Place K R A)). ReadsOne l x ks (map l.free o.front ++ w)) e
              (p.takes ks (map l.free o.front ++ w) a
              (subst (λ (x : List S). Alike l n (map l.free o.front ++ w) x) (sym o.split)
              (alike_free l n 1 o.front w v lt same))
              (subst (λ (x : List T). Reads l (rule r ∷ ks) x)
              (marked_twice l l.free front o.front w) s)));
          goes = (
            o.stuck.goes.0 ++ completion c left.left,
            subst (λ (x : List T). Reads l (rule r ∷ []) x) joined
                (goes_on c f r front vs
                (record { alternative = left.alternative; left = rule q ∷ left.left }) reached.0
                ((map l.bound o.front ++ o.stuck.goes.0) ++ completion c left.left)
                (reads_append l (rule q ∷ []) left.left (map l.bound o.front ++ o.stuck.goes.0)
                (completion c left.left) o.stuck.goes.1 (completes l c f left.left))),
          );
        };
      }
    where
      reached : EachReached l r front vs (before (rule q) (left ∷ lefts))
      reached = subst (λ (x : List (Place K R A)). EachReached l r front vs x) e p.reached

      joined : map l.bound front
          ++ ((map l.bound o.front ++ o.stuck.goes.0) ++ completion c left.left)
          ≡ map l.bound (front ++ o.front) ++ (o.stuck.goes.0 ++ completion c left.left)
      joined = ap (λ (x : List T). map l.bound front ++ x)
          (append_assoc (map l.bound o.front) o.stuck.goes.0 (completion c left.left))
          ∙ sym (marked_twice l l.bound front o.front (o.stuck.goes.0 ++ completion c left.left))

      no_more : (ks : List (Symbol K R)) (w : List T) → Allows l after ks → Alike l 1 w v
          → ReadsOne l (before (rule q) (left ∷ lefts)) ks (map l.free o.front ++ w) → ⊥
      no_more ks w a same s =
          none (left ∷ lefts) (λ x i. passed l after after' x (left ∷ lefts) h i) s
        where
          none : (xs : List (Place K R A))
              → ((x : Place K R A) → IsOneOf x xs → IsTrue (passes l after x.left after'))
              → ReadsOne l (before (rule q) xs) ks (map l.free o.front ++ w) → ⊥
          none [] g t = t
          none (x ∷ xs) g (inl t) = o.stuck.stops (x.left ++ ks) w
              (allows_more l d after x.left after' ks (g x (inl refl)) a) same t
          none (x ∷ xs) g (inr t) = none xs (λ y i. g y (inr i)) t

  -- The same, by what is left of all the places.
  pub stuck_behind : (d : IsSound l) (c : Completions K R T) (f : Complete l c)
      (after after' : Ahead K) (n : ℕ) (r q : R) (place : Place K R A)
      (places lefts : List (Place K R A)) (vs : List V) (tokens front rest v : List S)
      → Inside l after n r (place ∷ places) vs tokens front rest
      → place ∷ places ≡ before (rule q) lefts → IsTrue (all_pass l after lefts after')
      → (o : Fails l after' q rest v) → n ≤ length o.front + 1
      → Fails l after r tokens v
  stuck_behind d c f after after' n r q place places [] vs tokens front rest v p e h o lt =
      absurd (different e)
    where
      different : ◌≡◌ {A = List (Place K R A)} (place ∷ places) [] → ⊥
      different e = cc
  stuck_behind d c f after after' n r q place places (x ∷ xs) vs tokens front rest v p e h o lt =
      stuck_within d c f after after' n r q (place ∷ places) x xs vs tokens front rest v p e h o lt

  -- The next token is wanted at each of the places, but only a free one.
  barred_reads : (s : S) (ks : List (Symbol K R)) (w : List T) (places : List (Place K R A))
      → IsTrue (every (λ p. is_barred l s p.left) places)
      → ReadsOne l places ks (l.bound s ∷ w) → ⊥
  barred_reads s ks w [] h p = p
  barred_reads s ks w (q ∷ qs) h p =
      let tests : IsTrue (is_barred l s q.left) × IsTrue (every (λ p. is_barred l s p.left) qs) =
      chosen (is_barred l s q.left) (every (λ p. is_barred l s p.left) qs) h in
      elim p [
        | inl r ↦ by_left q.left tests.0 r
        | inr r ↦ barred_reads s ks w qs tests.1 r
      ]
    where
      by_left : (left : List (Symbol K R)) → IsTrue (is_barred l s left)
          → Reads l (left ++ ks) (l.bound s ∷ w) → ⊥
      by_left [] e r = cc
      by_left (one k ∷ left) e r =
          negated_false (l.grammar.is_of k (l.bound s))
          (both (l.grammar.is_of k (l.free s)) (not (l.grammar.is_of k (l.bound s))) e).1
          (reads_token l k (left ++ ks) (l.bound s) w r).0
      by_left (rule o ∷ left) e r = cc

  free_next : (c : Completions K R T) (f : Complete l c) (s : S) (left : List (Symbol K R))
      → IsTrue (is_barred l s left) → (w : List T) × Reads l left (l.free s ∷ w)
  free_next c f s [] e = absurd (cc)
  free_next c f s (one k ∷ left) e =
      let rest : Reads l left (completion c left) = completes l c f left in (
        completion c left,
        record {
          forest = leaf (l.free s) rest.forest;
          fits = (
            (both (l.grammar.is_of k (l.free s)) (not (l.grammar.is_of k (l.bound s))) e).0,
            rest.fits,
          );
          same_tokens = ap (λ (x : List T). l.free s ∷ x) rest.same_tokens;
        },
      )
  free_next c f s (rule o ∷ left) e = absurd (cc)

  pub too_deep_here : (d : IsSound l) (c : Completions K R T) (f : Complete l c)
      (after : Ahead K) (n : ℕ) (r : R)
      (place : Place K R A) (places : List (Place K R A)) (vs : List V) (tokens front : List S)
      (s : S) (rest : List S)
      → Inside l after n r (place ∷ places) vs tokens front (s ∷ rest) → n ≤ 1
      → IsTrue (every (λ p. is_barred l s p.left) (place ∷ places))
      → IsTooDeep l after r tokens (s ∷ rest)
  too_deep_here d c f after n r place places vs tokens front s rest p lt h = record {
    front = front;
    token = s;
    behind = rest;
    split = p.split;
    next = refl;
    deep = record {
      stops = λ ks w a q. barred_reads s ks w (place ∷ places) h
          (p.takes ks (l.bound s ∷ w) a
          (alike_shorter l n 1 (l.bound s ∷ w) (s ∷ rest) lt (inr refl, tt))
          (reads_freed l d (rule r ∷ ks) front (l.bound s ∷ w) q));
      goes = (
        completion c place.left,
        goes_on c f r front vs place p.reached.0 (completion c place.left)
            (completes l c f place.left),
      );
      goes_free = (
        next.0,
        reads_freed l d (rule r ∷ []) front (l.free s ∷ next.0)
            (goes_on c f r front vs place p.reached.0 (l.free s ∷ next.0) next.1),
      );
    };
  }
    where
      next : (w : List T) × Reads l place.left (l.free s ∷ w)
      next = free_next c f s place.left (chosen (is_barred l s place.left)
          (every (λ p. is_barred l s p.left) places) h).0

  -- A rule that is the next symbol of each place is too deep.
  pub too_deep_within : (d : IsSound l) (c : Completions K R T) (f : Complete l c)
      (after after' : Ahead K) (n : ℕ) (r q : R)
      (places : List (Place K R A)) (left : Place K R A) (lefts : List (Place K R A))
      (vs : List V) (tokens front rest v : List S)
      → Inside l after n r places vs tokens front rest → places ≡ before (rule q) (left ∷ lefts)
      → IsTrue (all_pass l after (left ∷ lefts) after')
      → (o : IsTooDeep l after' q rest v) → n ≤ length o.front + 1
      → IsTooDeep l after r tokens v
  too_deep_within d c f after after' n r q places left lefts vs tokens front rest v p e h o lt =
      record {
        front = front ++ o.front;
        token = o.token;
        behind = o.behind;
        split = p.split ∙ ap (λ (x : List S). front ++ x) o.split
            ∙ sym (append_assoc front o.front v);
        next = o.next;
        deep = record {
          stops = λ ks w a s. none (left ∷ lefts) ks w a
              (λ x i. passed l after after' x (left ∷ lefts) h i)
              (subst (λ (x : List (Place K R A)). ReadsOne l x ks
              (map l.bound o.front ++ (l.bound o.token ∷ w))) e
              (p.takes ks (map l.bound o.front ++ (l.bound o.token ∷ w)) a
              (subst (λ (x : List S). Alike l n (map l.bound o.front ++ (l.bound o.token ∷ w)) x)
              (sym (o.split ∙ ap (λ (y : List S). o.front ++ y) o.next))
              (alike_bound l n 1 o.front (l.bound o.token ∷ w) (o.token ∷ o.behind) lt
              (inr refl, tt)))
              (reads_freed l d (rule r ∷ ks) front (map l.bound o.front ++ (l.bound o.token ∷ w))
              (subst (λ (x : List T). Reads l (rule r ∷ ks) x)
              (marked_twice l l.bound front o.front (l.bound o.token ∷ w)) s))));
          goes = (o.deep.goes.0 ++ completion c left.left, on_bound);
          goes_free = (o.deep.goes_free.0 ++ completion c left.left, on_free);
        };
      }
    where
      reached : EachReached l r front vs (before (rule q) (left ∷ lefts))
      reached = subst (λ (x : List (Place K R A)). EachReached l r front vs x) e p.reached

      goes : (w : List T) → Reads l (rule q ∷ []) w
          → Reads l (rule r ∷ []) (map l.bound front ++ (w ++ completion c left.left))
      goes w t = goes_on c f r front vs
          (record { alternative = left.alternative; left = rule q ∷ left.left }) reached.0
          (w ++ completion c left.left)
          (reads_append l (rule q ∷ []) left.left w (completion c left.left) t
          (completes l c f left.left))

      on_bound : Reads l (rule r ∷ [])
          (map l.bound (front ++ o.front) ++ (o.deep.goes.0 ++ completion c left.left))
      on_bound = subst (λ (x : List T). Reads l (rule r ∷ []) x)
          (ap (λ (x : List T). map l.bound front ++ x)
          (append_assoc (map l.bound o.front) o.deep.goes.0 (completion c left.left))
          ∙ sym (marked_twice l l.bound front o.front (o.deep.goes.0 ++ completion c left.left)))
          (goes (map l.bound o.front ++ o.deep.goes.0) o.deep.goes.1)

      on_free : Reads l (rule r ∷ []) (map l.free (front ++ o.front)
          ++ (l.free o.token ∷ (o.deep.goes_free.0 ++ completion c left.left)))
      on_free = subst (λ (x : List T). Reads l (rule r ∷ []) x)
          (ap (λ (x : List T). map l.free front ++ x)
          (append_assoc (map l.free o.front) (l.free o.token ∷ o.deep.goes_free.0)
          (completion c left.left))
          ∙ sym (marked_twice l l.free front o.front
          (l.free o.token ∷ (o.deep.goes_free.0 ++ completion c left.left))))
          (reads_freed l d (rule r ∷ []) front _
          (goes (map l.free o.front ++ (l.free o.token ∷ o.deep.goes_free.0)) o.deep.goes_free.1))

      none : (xs : List (Place K R A)) (ks : List (Symbol K R)) (w : List T) → Allows l after ks
          → ((x : Place K R A) → IsOneOf x xs → IsTrue (passes l after x.left after'))
          → ReadsOne l (before (rule q) xs) ks (map l.bound o.front ++ (l.bound o.token ∷ w)) → ⊥
      none [] ks w a g t = t
      none (x ∷ xs) ks w a g (inl t) = o.deep.stops (x.left ++ ks) w
          (allows_more l d after x.left after' ks (g x (inl refl)) a) t
      none (x ∷ xs) ks w a g (inr t) = none xs ks w a (λ y i. g y (inr i)) t

  -- The same, by what is left of all the places.
  pub too_deep_behind : (d : IsSound l) (c : Completions K R T) (f : Complete l c)
      (after after' : Ahead K) (n : ℕ) (r q : R) (place : Place K R A)
      (places lefts : List (Place K R A)) (vs : List V) (tokens front rest v : List S)
      → Inside l after n r (place ∷ places) vs tokens front rest
      → place ∷ places ≡ before (rule q) lefts → IsTrue (all_pass l after lefts after')
      → (o : IsTooDeep l after' q rest v) → n ≤ length o.front + 1
      → IsTooDeep l after r tokens v
  too_deep_behind d c f after after' n r q place places [] vs tokens front rest v p e h o lt =
      absurd (different e)
    where
      different : ◌≡◌ {A = List (Place K R A)} (place ∷ places) [] → ⊥
      different e = cc
  too_deep_behind d c f after after' n r q place places (x ∷ xs) vs tokens front rest v p e h o lt =
      too_deep_within d c f after after' n r q (place ∷ places) x xs vs tokens front rest v p e h o
      lt
