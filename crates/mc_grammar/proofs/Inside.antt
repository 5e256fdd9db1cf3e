-- Going through the alternatives of a rule: entering, looking, taking a token, reading a rule,
-- leaving.
use Rattle.std.proofs.Common.{◌≡◌, ◌⊎◌, inl, inr, ℕ, ◌+◌, ◌-◌, ◌≤◌, max, Bool, ◌||◌, true, false}
use Rattle.std.proofs.Common.{not, List, [], ◌∷◌, ◌++◌, length, refl, sym, ap, ◌∙◌, append_assoc}
use Rattle.std.proofs.Common.{append-nil, map, IsTrue, subst, arith, Option}
use Rattle.mc_grammar.specs.Grammar.{Symbol, one, rule}
use Rattle.mc_grammar.specs.Reading.{bare, IsOneOf}
use Rattle.std.specs.List.{list_any}
use Rattle.mc_grammar.specs.Ahead.{Ahead, BeginsWhole, MeetsWhole, every, starts, is_followed}
use Rattle.mc_grammar.specs.Language.{Language, Reads, Means, IsSound}
use Rattle.mc_grammar.specs.Descent.{Allows, Alike, Leads}
use Rattle.mc_grammar.specs.Places.{Place, behind_next, before, entries, passes, all_pass, is_out}
use Rattle.mc_grammar.specs.Places.{kept, is_next, Sees, ReadsOne, IsReached, EachReached, Inside}
use Rattle.mc_grammar.specs.Places.{Done}
use Rattle.mc_grammar.proofs.Ahead.{both, chosen, begins_as}
use Rattle.mc_grammar.proofs.Steps.{reads_append, Parts, reads_parts, Opened, reads_opened}
use Rattle.mc_grammar.proofs.Steps.{reads_closed, reads_token, means_reads}
use Rattle.mc_grammar.proofs.Marks.{alike_free, alike_shorter}
use Rattle.mc_grammar.proofs.Paths.{allows_more, reads_at, marked_twice}
use Rattle.mc_grammar.proofs.Values.{means_append, means_token, means_node, means_at}

pub negated_false : (b : Bool) → IsTrue (not b) → IsTrue b → ⊥
negated_false true h k = cc
negated_false false h k = cc

module _ {K R A S T V : Type 0} (l : Language K R A S T V) where
  -- Entering: no token is taken or looked at.
  one_of_entries : (a : A) (as' : List A) (later : List (Symbol K R)) (w : List T) → IsOneOf a as'
      → Reads l (l.grammar.symbols a ++ later) w → ReadsOne l (entries l as') later w
  one_of_entries a [] later w i p = absurd i
  one_of_entries a (b ∷ bs) later w (inl e) p =
      inl (subst (λ (x : A). Reads l (l.grammar.symbols x ++ later) w) e p)
  one_of_entries a (b ∷ bs) later w (inr j) p = inr (one_of_entries a bs later w j p)

  entries_reached : (r : R) (as' : List A)
      → ((a : A) → IsOneOf a as' → IsOneOf a (l.grammar.alternatives r))
      → EachReached l r [] [] (entries l as')
  entries_reached r [] h = tt
  entries_reached r (a ∷ as') h = (
    record {
      is_alternative = h a (inl refl);
      done = [];
      split = refl;
      means = record { forest = bare; fits = tt; same_tokens = refl; same_values = refl };
    },
    entries_reached r as' (λ b i. h b (inr i)),
  )

  pub enter : (after : Ahead K) (r : R) (tokens : List S)
      → Inside l after 0 r (entries l (l.grammar.alternatives r)) [] tokens [] tokens
  enter after r tokens = record {
    split = refl;
    reached = entries_reached r (l.grammar.alternatives r) (λ a i. i);
    takes = λ ks w a same p. opened ks w (reads_opened l r ks w p);
  }
    where
      opened : (ks : List (Symbol K R)) (w : List T) → Opened l r ks w
          → ReadsOne l (entries l (l.grammar.alternatives r)) ks w
      opened ks w o =
          one_of_entries o.alternative (l.grammar.alternatives r) ks w o.is_alternative o.reads

  -- Looking: places that are out are no longer there.
  any_lets : (may : Option K → Bool) (ks : Ahead K) (w : List T)
      → ((k : Option K) → MeetsWhole l.grammar l.tables k w → IsTrue (may k))
      → BeginsWhole l.grammar l.tables ks w → IsTrue (list_any may ks)
  any_lets may [] w h b = absurd b
  any_lets may (k ∷ ks) w h (inl m) = first (may k) (h k m)
    where
      first : (b : Bool) → IsTrue b → IsTrue (b || list_any may ks)
      first true e = refl
      first false e = absurd (cc)
  any_lets may (k ∷ ks) w h (inr c) = second (may k) (any_lets may ks w h c)
    where
      second : (b : Bool) → IsTrue (list_any may ks) → IsTrue (b || list_any may ks)
      second true e = refl
      second false e = e

  pub out_reads_nothing : (d : IsSound l) (after : Ahead K) (look : ℕ) (rest : List S)
      (may : Option K → Bool) (left ks : List (Symbol K R)) (w : List T)
      → Sees l look rest may → Allows l after ks → Alike l look w rest
      → IsTrue (is_out l may after left) → Reads l (left ++ ks) w → ⊥
  out_reads_nothing d after look rest may left ks w s a same h p = go (reads_parts l left ks w p)
    where
      tests : IsTrue (is_followed l.tables left after)
          × IsTrue (not (list_any may (starts l.tables left after)))
      tests = both (is_followed l.tables left after)
          (not (list_any may (starts l.tables left after))) h

      go : Parts l left ks w → ⊥
      go q =
          negated_false (list_any may (starts l.tables left after)) tests.1
          (any_lets may (starts l.tables left after) w (s.sees w same)
          (subst (λ (x : List T). BeginsWhole l.grammar l.tables (starts l.tables left after) x)
          (ap (λ (x : List T). x ++ q.second) q.reads_first.same_tokens ∙ q.joined)
          (begins_as l.grammar l.tables d.covers left after q.reads_first.forest q.second
          q.reads_first.fits tests.0 (a.begins q.second q.reads_second))))

  kept_reads : (d : IsSound l) (after : Ahead K) (look : ℕ) (rest : List S)
      (may : Option K → Bool) (ks : List (Symbol K R)) (w : List T) → Sees l look rest may
      → Allows l after ks → Alike l look w rest → (places : List (Place K R A))
      → ReadsOne l places ks w → ReadsOne l (kept l may after places) ks w
  kept_reads d after look rest may ks w s a same [] p = p
  kept_reads d after look rest may ks w s a same (q ∷ qs) p =
      by_test (λ r. kept_reads d after look rest may ks w s a same qs r)
      (is_out l may after q.left) refl p
    where
      by_test : (ReadsOne l qs ks w → ReadsOne l (kept l may after qs) ks w)
          → (b : Bool) → is_out l may after q.left ≡ b
          → Reads l (q.left ++ ks) w ⊎ ReadsOne l qs ks w
          → ReadsOne l
          (elim b [ true ↦ kept l may after qs | false ↦ q ∷ kept l may after qs ]) ks w
      by_test others true e (inl r) =
          absurd (out_reads_nothing d after look rest may q.left ks w s a same e r)
      by_test others true e (inr r) = others r
      by_test others false e (inl r) = inl r
      by_test others false e (inr r) = inr (others r)

  kept_reached : (after : Ahead K) (may : Option K → Bool) (r : R) (front : List S) (vs : List V)
      (places : List (Place K R A)) → EachReached l r front vs places
      → EachReached l r front vs (kept l may after places)
  kept_reached after may r front vs [] p = tt
  kept_reached after may r front vs (q ∷ qs) p =
      by_test (kept_reached after may r front vs qs p.1) (is_out l may after q.left)
    where
      by_test : EachReached l r front vs (kept l may after qs) → (b : Bool)
          → EachReached l r front vs
          (elim b [ true ↦ kept l may after qs | false ↦ q ∷ kept l may after qs ])
      by_test others true = others
      by_test others false = (p.0, others)

  pub narrow : (d : IsSound l) (after : Ahead K) (n m : ℕ) (r : R) (places : List (Place K R A))
      (vs : List V) (tokens front rest : List S) (may : Option K → Bool)
      → Inside l after n r places vs tokens front rest → Sees l m rest may
      → Inside l after (max n m) r (kept l may after places) vs tokens front rest
  narrow d after n m r places vs tokens front rest may p s = record {
    split = p.split;
    reached = kept_reached after may r front vs places p.reached;
    takes = λ ks w a same q. kept_reads d after m rest may ks w s a
        (alike_shorter l m (max n m) w rest (omega arith) same) places
        (p.takes ks w a (alike_shorter l n (max n m) w rest (omega arith) same) q);
  }

  -- A look at more tokens, which tells nothing new.
  pub widened : (after : Ahead K) (n m : ℕ) (r : R) (places : List (Place K R A)) (vs : List V)
      (tokens front rest : List S)
      → Inside l after n r places vs tokens front rest → n ≤ m
      → Inside l after m r places vs tokens front rest
  widened after n m r places vs tokens front rest p lt = record {
    split = p.split;
    reached = p.reached;
    takes = λ ks w a same q. p.takes ks w a (alike_shorter l n m w rest lt same) q;
  }

  -- Taking a token of which each place wants a class.
  taken_reads : (places : List (Place K R A)) (ks : List (Symbol K R)) (x y : T) (w : List T)
      → IsTrue (every (λ p. is_next l y p.left) places)
      → ReadsOne l places ks (x ∷ w) → ReadsOne l (behind_next places) ks w
  taken_reads [] ks x y w h p = p
  taken_reads (q ∷ qs) ks x y w h p =
      let tests : IsTrue (is_next l y q.left) × IsTrue (every (λ p. is_next l y p.left) qs) =
      chosen (is_next l y q.left) (every (λ p. is_next l y p.left) qs) h in
      by_left (λ r. taken_reads qs ks x y w tests.1 r) q.left tests.0 p
    where
      by_left : (ReadsOne l qs ks (x ∷ w) → ReadsOne l (behind_next qs) ks w)
          → (left : List (Symbol K R)) → IsTrue (is_next l y left)
          → Reads l (left ++ ks) (x ∷ w) ⊎ ReadsOne l qs ks (x ∷ w)
          → ReadsOne l (elim left [
            | [] ↦ behind_next qs
            | symbol ∷ left' ↦ record { alternative = q.alternative; left = left' } ∷ behind_next qs
          ]) ks w
      by_left others [] e r = absurd (cc)
      by_left others (one k ∷ left) e (inl r) = inl (reads_token l k (left ++ ks) x w r).1
      by_left others (one k ∷ left) e (inr r) = inr (others r)
      by_left others (rule o ∷ left) e r = absurd (cc)

  step_reached : (a : A) (left symbol : List (Symbol K R)) (r : R) (front more : List S)
      (vs us : List V) → IsReached l r front vs (record { alternative = a; left = symbol ++ left })
      → Means l symbol more us
      → IsReached l r (front ++ more) (vs ++ us) (record { alternative = a; left = left })
  step_reached a left symbol r front more vs us p q = record {
    is_alternative = p.is_alternative;
    done = p.done ++ symbol;
    split = p.split ∙ sym (append_assoc p.done symbol left);
    means = means_append l p.done symbol front more vs us p.means q;
  }

  taken_reached : (d : IsSound l) (r : R) (front : List S) (vs : List V) (s : S)
      (places : List (Place K R A)) → IsTrue (every (λ p. is_next l (l.bound s) p.left) places)
      → EachReached l r front vs places
      → EachReached l r (front ++ (s ∷ [])) (vs ++ (l.token_value s ∷ [])) (behind_next places)
  taken_reached d r front vs s [] h p = tt
  taken_reached d r front vs s (q ∷ qs) h p =
      let tests : IsTrue (is_next l (l.bound s) q.left)
      × IsTrue (every (λ p. is_next l (l.bound s) p.left) qs) =
      chosen (is_next l (l.bound s) q.left) (every (λ p. is_next l (l.bound s) p.left) qs) h in
      by_left (taken_reached d r front vs s qs tests.1 p.1) q.left tests.0 p.0
    where
      by_left : EachReached l r (front ++ (s ∷ [])) (vs ++ (l.token_value s ∷ [])) (behind_next qs)
          → (left : List (Symbol K R)) → IsTrue (is_next l (l.bound s) left)
          → IsReached l r front vs (record { alternative = q.alternative; left = left })
          → EachReached l r (front ++ (s ∷ [])) (vs ++ (l.token_value s ∷ [])) (elim left [
            | [] ↦ behind_next qs
            | symbol ∷ left' ↦ record { alternative = q.alternative; left = left' } ∷ behind_next qs
          ])
      by_left others [] e o = absurd (cc)
      by_left others (one k ∷ left) e o = (
        step_reached q.alternative left (one k ∷ []) r front (s ∷ []) vs (l.token_value s ∷ []) o
            (means_token l d k s e),
        others,
      )
      by_left others (rule x ∷ left) e o = absurd (cc)

  marked_next : (mark : S → T) (front : List S) (s : S) (w : List T)
      → map mark (front ++ (s ∷ [])) ++ w ≡ map mark front ++ (mark s ∷ w)
  marked_next mark front s w = marked_twice l mark front (s ∷ []) w

  pub token : (d : IsSound l) (after : Ahead K) (n : ℕ) (r : R) (places : List (Place K R A))
      (vs : List V) (tokens front : List S) (s : S) (rest : List S)
      → Inside l after n r places vs tokens front (s ∷ rest)
      → IsTrue (every (λ p. is_next l (l.bound s) p.left) places)
      → Inside l after (n - 1) r (behind_next places) (vs ++ (l.token_value s ∷ [])) tokens
      (front ++ (s ∷ [])) rest
  token d after n r places vs tokens front s rest p h = record {
    split = p.split ∙ sym (append_assoc front (s ∷ []) rest);
    reached = taken_reached d r front vs s places h p.reached;
    takes = λ ks w a same q. taken_reads places ks (l.free s) (l.bound s) w h
        (p.takes ks (l.free s ∷ w) a
        (alike_free l n (n - 1) (s ∷ []) w rest (omega arith) same)
        (subst (λ (x : List T). Reads l (rule r ∷ ks) x) (marked_next l.free front s w) q));
  }

  -- Reading a rule that is the next symbol of each place.
  reads_before : (q : R) (places : List (Place K R A)) (ks : List (Symbol K R)) (w u : List T)
      → ((p : Place K R A) → IsOneOf p places
      → Reads l (rule q ∷ (p.left ++ ks)) w → Reads l (p.left ++ ks) u)
      → ReadsOne l (before (rule q) places) ks w → ReadsOne l places ks u
  reads_before q [] ks w u h p = p
  reads_before q (x ∷ xs) ks w u h (inl r) = inl (h x (inl refl) r)
  reads_before q (x ∷ xs) ks w u h (inr r) =
      inr (reads_before q xs ks w u (λ p i s. h p (inr i) s) r)

  pub passed : (after after' : Ahead K) (p : Place K R A) (places : List (Place K R A))
      → IsTrue (all_pass l after places after') → IsOneOf p places
      → IsTrue (passes l after p.left after')
  passed after after' p [] h i = absurd i
  passed after after' p (x ∷ xs) h i =
      let tests : IsTrue (passes l after x.left after') × IsTrue (all_pass l after xs after') =
      chosen (passes l after x.left after') (all_pass l after xs after') h in
      elim i [
        | inl e ↦ subst (λ (y : Place K R A). IsTrue (passes l after y.left after')) (sym e) tests.0
        | inr j ↦ passed after after' p xs tests.1 j
      ]

  read_reached : (r q : R) (front more : List S) (vs us : List V) (places : List (Place K R A))
      → Means l (rule q ∷ []) more us → EachReached l r front vs (before (rule q) places)
      → EachReached l r (front ++ more) (vs ++ us) places
  read_reached r q front more vs us [] m p = tt
  read_reached r q front more vs us (x ∷ xs) m p = (
    step_reached x.alternative x.left (rule q ∷ []) r front more vs us p.0 m,
    read_reached r q front more vs us xs m p.1,
  )

  pub read : (d : IsSound l) (after after' : Ahead K) (n m : ℕ) (r q : R)
      (places lefts : List (Place K R A)) (vs : List V) (tokens front rest v : List S) (value : V)
      → Inside l after n r places vs tokens front rest → places ≡ before (rule q) lefts
      → IsTrue (all_pass l after lefts after')
      → (o : Done l after' m q rest v value) → n ≤ length o.front + m
      → Inside l after m r lefts (vs ++ (value ∷ [])) tokens (front ++ o.front) v
  read d after after' n m r q places lefts vs tokens front rest v value p e h o lt = record {
    split = p.split ∙ ap (λ (x : List S). front ++ x) o.split ∙ sym (append_assoc front o.front v);
    reached = read_reached r q front o.front vs (value ∷ []) lefts o.means
        (subst (λ (x : List (Place K R A)). EachReached l r front vs x) e p.reached);
    takes = λ ks w a same s. reads_before q lefts ks (map l.free o.front ++ w) w
        (λ x i t. o.leads.takes (x.left ++ ks) w
        (allows_more l d after x.left after' ks (passed after after' x lefts h i) a) same t)
        (subst (λ (x : List (Place K R A)). ReadsOne l x ks (map l.free o.front ++ w)) e
        (p.takes ks (map l.free o.front ++ w) a
        (subst (λ (x : List S). Alike l n (map l.free o.front ++ w) x) (sym o.split)
        (alike_free l n m o.front w v lt same))
        (subst (λ (x : List T). Reads l (rule r ∷ ks) x)
        (marked_twice l l.free front o.front w) s)));
  }

  -- What is left of the one alternative is what is left of the rule.
  pub leads_inside : (after : Ahead K) (n : ℕ) (r : R) (a : A) (left : List (Symbol K R))
      (vs : List V) (tokens front rest : List S)
      → Inside l after n r (record { alternative = a; left = left } ∷ []) vs tokens front rest
      → Leads l after n (rule r ∷ []) left front rest
  leads_inside after n r a left vs tokens front rest p = record {
    takes = λ ks w al same q. only ks w (p.takes ks w al same q);
    gives = λ ks w q. reads_closed l r a ks (map l.bound front ++ w) p.reached.0.is_alternative
        (reads_at l (p.reached.0.done ++ (left ++ ks)) (l.grammar.symbols a ++ ks)
        (map l.bound front ++ w) (map l.bound front ++ w)
        (sym (append_assoc p.reached.0.done left ks)
        ∙ ap (λ (x : List (Symbol K R)). x ++ ks) (sym p.reached.0.split)) refl
        (reads_append l p.reached.0.done (left ++ ks) (map l.bound front) w
        (means_reads l p.reached.0.done front vs p.reached.0.means) q));
  }
    where
      only : (ks : List (Symbol K R)) (w : List T)
          → ReadsOne l (record { alternative = a; left = left } ∷ []) ks w → Reads l (left ++ ks) w
      only ks w (inl q) = q
      only ks w (inr q) = absurd q

  -- Leaving: nothing is left of the one alternative.
  pub leave : (d : IsSound l) (after : Ahead K) (n : ℕ) (r : R) (a : A)
      (vs : List V) (tokens front rest : List S)
      → Inside l after n r (record { alternative = a; left = [] } ∷ []) vs tokens front rest
      → Done l after n r tokens rest (l.node_value a front vs)
  leave d after n r a vs tokens front rest p = record {
    front = front;
    split = p.split;
    means = means_node l d r a front vs p.reached.0.is_alternative
        (means_at l p.reached.0.done (l.grammar.symbols a) front vs
        (sym (p.reached.0.split ∙ append-nil p.reached.0.done)) p.reached.0.means);
    leads = leads_inside after n r a [] vs tokens front rest p;
  }

  -- The front that it leaves with.
  pub leave_front : (d : IsSound l) (after : Ahead K) (n : ℕ) (r : R) (a : A)
      (vs : List V) (tokens front rest : List S)
      → (p : Inside l after n r (record { alternative = a; left = [] } ∷ []) vs tokens front rest)
      → (leave d after n r a vs tokens front rest p).front ≡ front
  unfolding leave
  leave_front d after n r a vs tokens front rest p = refl
