-- Paths of a descent: one after another, and before symbols that stay as they are.
use Rattle.std.proofs.Common.{◌≡◌, inl, inr, ℕ, ◌+◌, ◌≤◌, List, [], ◌∷◌, ◌++◌, length, refl, sym}
use Rattle.std.proofs.Common.{ap, ◌∙◌, append_assoc, append-nil, map, IsTrue, subst, None}
use Rattle.std.proofs.lemmas.List.{map-append}
use Rattle.mc_grammar.specs.Grammar.{Symbol, rule}
use Rattle.mc_grammar.specs.Ahead.{Ahead, BeginsWhole, is_part, starts, is_followed}
use Rattle.mc_grammar.specs.Language.{Language, Reads, IsSound}
use Rattle.mc_grammar.specs.Descent.{Allows, Alike, Leads, Stuck, Deep}
use Rattle.mc_grammar.specs.Places.{passes}
use Rattle.mc_grammar.proofs.Ahead.{both, begins_part, begins_as}
use Rattle.mc_grammar.proofs.Steps.{reads_append, Parts, reads_parts, reads_nothing_alone}
use Rattle.mc_grammar.proofs.Marks.{alike_free, alike_bound, reads_freed}

module _ {K R A S T V : Type 0} (l : Language K R A S T V) where
  pub reads_at : (ss zz : List (Symbol K R)) (ts us : List T) → ss ≡ zz → ts ≡ us → Reads l ss ts
      → Reads l zz us
  reads_at ss zz ts us e h p =
      subst (λ (x : List (Symbol K R)). Reads l x us) e (subst (λ (x : List T). Reads l ss x) h p)

  -- The marks of two fronts, one after the other.
  pub marked_twice : (mark : S → T) (f h : List S) (w : List T)
      → map mark (f ++ h) ++ w ≡ map mark f ++ (map mark h ++ w)
  marked_twice mark f h w =
      ap (λ (x : List T). x ++ w) (map-append mark f h) ∙ append_assoc (map mark f) (map mark h) w

  -- Where nothing is read nothing is looked at.
  pub stay : (after : Ahead K) (ss : List (Symbol K R)) (v : List S) → Leads l after 0 ss ss [] v
  stay after ss v = record { takes = λ ks w a h p. p; gives = λ ks w p. p }

  pub then_leads : (after : Ahead K) (n m : ℕ) (ss zz yy : List (Symbol K R)) (f h x : List S)
      → Leads l after n ss zz f (h ++ x) → Leads l after m zz yy h x → n ≤ length h + m
      → Leads l after m ss yy (f ++ h) x
  then_leads after n m ss zz yy f h x p q lt = record {
    takes = λ ks w a same r. q.takes ks w a same
        (p.takes ks (map l.free h ++ w) a (alike_free l n m h w x lt same)
        (subst (λ (y : List T). Reads l (ss ++ ks) y) (marked_twice l.free f h w) r));
    gives = λ ks w r. subst (λ (y : List T). Reads l (ss ++ ks) y)
        (sym (marked_twice l.bound f h w)) (p.gives ks (map l.bound h ++ w) (q.gives ks w r));
  }

  pub then_stuck : (after : Ahead K) (n : ℕ) (ss zz : List (Symbol K R)) (f h x : List S)
      → Leads l after n ss zz f (h ++ x) → Stuck l after zz h x → n ≤ length h + 1
      → Stuck l after ss (f ++ h) x
  then_stuck after n ss zz f h x p q lt = record {
    stops = λ ks w a same r. q.stops ks w a same
        (p.takes ks (map l.free h ++ w) a (alike_free l n 1 h w x lt same)
        (subst (λ (y : List T). Reads l (ss ++ ks) y) (marked_twice l.free f h w) r));
    goes = (
      q.goes.0,
      goes_on,
    );
  }
    where
      goes_on : Reads l ss (map l.bound (f ++ h) ++ q.goes.0)
      goes_on = reads_at (ss ++ []) ss (map l.bound f ++ (map l.bound h ++ q.goes.0))
          (map l.bound (f ++ h) ++ q.goes.0) (append-nil ss)
          (sym (marked_twice l.bound f h q.goes.0))
          (p.gives [] (map l.bound h ++ q.goes.0)
          (reads_at zz (zz ++ []) _ _ (sym (append-nil zz)) refl q.goes.1))

  -- What goes on in bound tokens goes on in free ones.
  gives_free : (d : IsSound l) (after : Ahead K) (n : ℕ) (ss zz : List (Symbol K R)) (f v : List S)
      → Leads l after n ss zz f v → (w : List T) → Reads l zz w
      → Reads l ss (map l.free f ++ w)
  gives_free d after n ss zz f v p w r =
      reads_freed l d ss f w (reads_at (ss ++ []) ss _ _ (append-nil ss) refl
      (p.gives [] w (reads_at zz (zz ++ []) w w (sym (append-nil zz)) refl r)))

  pub then_deep : (d : IsSound l) (after : Ahead K) (n : ℕ) (ss zz : List (Symbol K R))
      (f h : List S) (token : S) (x : List S)
      → Leads l after n ss zz f (h ++ (token ∷ x)) → Deep l after zz h token → n ≤ length h + 1
      → Deep l after ss (f ++ h) token
  then_deep d after n ss zz f h token x p q lt = record {
    stops = λ ks w a r. q.stops ks w a
        (p.takes ks (map l.bound h ++ (l.bound token ∷ w)) a
        (alike_bound l n 1 h (l.bound token ∷ w) (token ∷ x) lt (inr refl, tt))
        (reads_freed l d (ss ++ ks) f (map l.bound h ++ (l.bound token ∷ w))
        (subst (λ (y : List T). Reads l (ss ++ ks) y)
        (marked_twice l.bound f h (l.bound token ∷ w)) r)));
    goes = (q.goes.0, on_bound);
    goes_free = (q.goes_free.0, on_free);
  }
    where
      on_bound : Reads l ss (map l.bound (f ++ h) ++ q.goes.0)
      on_bound = reads_at (ss ++ []) ss (map l.bound f ++ (map l.bound h ++ q.goes.0))
          (map l.bound (f ++ h) ++ q.goes.0) (append-nil ss)
          (sym (marked_twice l.bound f h q.goes.0))
          (p.gives [] (map l.bound h ++ q.goes.0)
          (reads_at zz (zz ++ []) _ _ (sym (append-nil zz)) refl q.goes.1))

      on_free : Reads l ss (map l.free (f ++ h) ++ (l.free token ∷ q.goes_free.0))
      on_free = subst (λ (y : List T). Reads l ss y)
          (sym (marked_twice l.free f h (l.free token ∷ q.goes_free.0)))
          (gives_free d after n ss zz f (h ++ (token ∷ x)) p
          (map l.free h ++ (l.free token ∷ q.goes_free.0)) q.goes_free.1)

  -- Symbols that pass are allowed where the second FOLLOW is.
  pub allows_more : (d : IsSound l) (after : Ahead K) (yy : List (Symbol K R)) (after' : Ahead K)
      (ks : List (Symbol K R))
      → IsTrue (passes l after yy after') → Allows l after ks → Allows l after' (yy ++ ks)
  allows_more d after yy after' ks h a = record { begins = λ w p. go w (reads_parts l yy ks w p) }
    where
      tests : IsTrue (is_followed l.tables yy after)
          × IsTrue (is_part l.tables (starts l.tables yy after) after')
      tests = both (is_followed l.tables yy after)
          (is_part l.tables (starts l.tables yy after) after') h

      go : (w : List T) → Parts l yy ks w → BeginsWhole l.grammar l.tables after' w
      go w q =
          begins_part l.grammar l.tables d.covers (starts l.tables yy after) after' w tests.1
          (subst (λ (x : List T). BeginsWhole l.grammar l.tables (starts l.tables yy after) x)
          (ap (λ (x : List T). x ++ q.second) q.reads_first.same_tokens ∙ q.joined)
          (begins_as l.grammar l.tables d.covers yy after q.reads_first.forest q.second
          q.reads_first.fits tests.0 (a.begins q.second q.reads_second)))

  pub frame : (d : IsSound l) (after after' : Ahead K) (n : ℕ) (ss zz yy : List (Symbol K R))
      (f v : List S) → IsTrue (passes l after yy after') → Leads l after' n ss zz f v
      → Leads l after n (ss ++ yy) (zz ++ yy) f v
  frame d after after' n ss zz yy f v h p = record {
    takes = λ ks w a same r. reads_at (zz ++ (yy ++ ks)) ((zz ++ yy) ++ ks) w w
        (sym (append_assoc zz yy ks)) refl
        (p.takes (yy ++ ks) w (allows_more d after yy after' ks h a) same
        (reads_at ((ss ++ yy) ++ ks) (ss ++ (yy ++ ks)) _ _ (append_assoc ss yy ks) refl r));
    gives = λ ks w r. reads_at (ss ++ (yy ++ ks)) ((ss ++ yy) ++ ks) _ _
        (sym (append_assoc ss yy ks)) refl
        (p.gives (yy ++ ks) w
        (reads_at ((zz ++ yy) ++ ks) (zz ++ (yy ++ ks)) w w (append_assoc zz yy ks) refl r));
  }

  pub frame_stuck : (d : IsSound l) (after after' : Ahead K) (ss yy : List (Symbol K R))
      (f v : List S) → IsTrue (passes l after yy after') → (c : List T) → Reads l yy c
      → Stuck l after' ss f v → Stuck l after (ss ++ yy) f v
  frame_stuck d after after' ss yy f v h c r p = record {
    stops = λ ks w a same q. p.stops (yy ++ ks) w (allows_more d after yy after' ks h a) same
        (reads_at ((ss ++ yy) ++ ks) (ss ++ (yy ++ ks)) _ _ (append_assoc ss yy ks) refl q);
    goes = (
      p.goes.0 ++ c,
      subst (λ (x : List T). Reads l (ss ++ yy) x) (append_assoc (map l.bound f) p.goes.0 c)
          (reads_append l ss yy _ _ p.goes.1 r),
    );
  }

  pub frame_deep : (d : IsSound l) (after after' : Ahead K) (ss yy : List (Symbol K R))
      (f : List S) (token : S) → IsTrue (passes l after yy after') → (c : List T) → Reads l yy c
      → Deep l after' ss f token → Deep l after (ss ++ yy) f token
  frame_deep d after after' ss yy f token h c r p = record {
    stops = λ ks w a q. p.stops (yy ++ ks) w (allows_more d after yy after' ks h a)
        (reads_at ((ss ++ yy) ++ ks) (ss ++ (yy ++ ks)) _ _ (append_assoc ss yy ks) refl q);
    goes = (
      p.goes.0 ++ c,
      subst (λ (x : List T). Reads l (ss ++ yy) x) (append_assoc (map l.bound f) p.goes.0 c)
          (reads_append l ss yy _ _ p.goes.1 r),
    );
    goes_free = (
      p.goes_free.0 ++ c,
      subst (λ (x : List T). Reads l (ss ++ yy) x)
          (append_assoc (map l.free f) (l.free token ∷ p.goes_free.0) c)
          (reads_append l ss yy _ _ p.goes_free.1 r),
    );
  }

  -- The end of the tokens is allowed where nothing is read later.
  pub allows_end : (d : IsSound l) → Allows l (None ∷ []) []
  allows_end d = record {
    begins = λ w p. subst (λ (x : List T). BeginsWhole l.grammar l.tables (None ∷ []) x)
        (sym (reads_nothing_alone l w p)) (inl tt);
  }

  -- At the top a front that is stuck has no reading that goes on with the next token.
  pub stuck_stops : (d : IsSound l) (r : R) (front v : List S) (w : List T)
      → Stuck l (None ∷ []) (rule r ∷ []) front v → Alike l 1 w v
      → Reads l (rule r ∷ []) (map l.free front ++ w) → ⊥
  stuck_stops d r front v w p same q = p.stops [] w (allows_end d) same q

  -- At the top no reading goes on behind a front that leaves nothing to be read.
  pub left_over : (d : IsSound l) (n : ℕ) (r : R) (front v : List S) (x : T) (w : List T)
      → Leads l (None ∷ []) n (rule r ∷ []) [] front v → Alike l n (x ∷ w) v
      → Reads l (rule r ∷ []) (map l.free front ++ (x ∷ w)) → ⊥
  left_over d n r front v x w p same q =
      nothing (reads_nothing_alone l (x ∷ w) (p.takes [] (x ∷ w) (allows_end d) same q))
    where
      nothing : x ∷ w ≡ [] → ⊥
      nothing e = cc
