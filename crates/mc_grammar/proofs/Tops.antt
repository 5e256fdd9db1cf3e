-- What a descent says at the top, of the grammar without room: where no reading goes on, and where
-- none goes on within the limit.
use Rattle.std.proofs.Common.{◌≡◌, inl, ℕ, suc, Bool, List, [], ◌∷◌, ◌++◌, refl, sym, ap, ◌∙◌}
use Rattle.std.proofs.Common.{append_assoc, append-nil, map, subst, arith, None}
use Rattle.std.proofs.lemmas.List.{map-append}
use Rattle.mc_grammar.specs.Grammar.{Grammar, rule}
use Rattle.mc_grammar.specs.Reading.{Forest, bare, leaf, node, tokens_of, IsReading}
use Rattle.mc_grammar.specs.Ahead.{Tables, Covers}
use Rattle.mc_grammar.specs.Language.{Reads}
use Rattle.mc_grammar.specs.Places.{Done, Fails, IsTooDeep}
use Rattle.mc_grammar.specs.Nest.{Marked, bound, free, unmarked, Nested, nested, AreWithin}
use Rattle.mc_grammar.specs.Room.{room_language, whole_rule}
use Rattle.mc_grammar.specs.Goes.{GoesOn, GoesOnWithin, Whole}
use Rattle.mc_grammar.proofs.Paths.{stuck_stops, left_over, allows_end}
use Rattle.mc_grammar.proofs.Rooms.{unmarked_forest, tokens_of-unmarked, fits_unmarked}
use Rattle.mc_grammar.proofs.Rooms.{reads_within, Given, within_reads, free_within}
use Rattle.mc_grammar.proofs.Rooms.{values_of-unmarked}
use Rattle.mc_grammar.proofs.RoomTables.{room_sound}

unmarked_bound : {T : Type 0} (u : List T) (w : List (Marked T))
    → map (λ x. unmarked x) (map (λ x. bound x) u ++ w) ≡ u ++ map (λ x. unmarked x) w
unmarked_bound [] w = refl
unmarked_bound (x ∷ u) w = ap (λ (z : List _). x ∷ z) (unmarked_bound u w)

unmarked_free : {T : Type 0} (u : List T) (w : List (Marked T))
    → map (λ x. unmarked x) (map (λ x. free x) u ++ w) ≡ u ++ map (λ x. unmarked x) w
unmarked_free [] w = refl
unmarked_free (x ∷ u) w = ap (λ (z : List _). x ∷ z) (unmarked_free u w)

-- Tokens that are freed stay within the limit.
freed_later : {T : Type 0} (limit : ℕ) (ns : List (Nested T)) (w : List (Marked T))
    → AreWithin limit ns w → AreWithin limit ns (map (λ x. free x) (map (λ x. unmarked x) w))
freed_later limit [] [] p = tt
freed_later limit [] (x ∷ w) p = absurd p
freed_later limit (n ∷ ns) [] p = absurd p
freed_later limit (n ∷ ns) (bound x ∷ w) p = (p.0, freed_later limit ns w p.2)
freed_later limit (n ∷ ns) (free x ∷ w) p = (p.0, freed_later limit ns w p.1)

freed_behind : {T : Type 0} (limit : ℕ) (ns : List (Nested T)) (u : List T) (w : List (Marked T))
    → AreWithin limit ns (map (λ x. bound x) u ++ w)
    → AreWithin limit ns
    (map (λ x. bound x) u ++ map (λ x. free x) (map (λ x. unmarked x) w))
freed_behind limit ns [] w p = freed_later limit ns w p
freed_behind limit [] (x ∷ u) w p = absurd p
freed_behind limit (n ∷ ns) (x ∷ u) w p = (p.0, p.1, freed_behind limit ns u w p.2)

module _ {K R A T V : Type 0} (g : Grammar K R A T) (t : Tables K R) (deeper : A → List Bool)
    (token_value : T → V) (node_value : A → List T → List V → V) where
  plain_reading : (limit : ℕ) (r : R) (tokens : List T) (w : List (Marked T))
      → (p : Reads (room_language g t deeper token_value node_value)
      (rule (whole_rule limit r) ∷ []) w)
      → map (λ x. unmarked x) w ≡ tokens
      → IsReading g r tokens (unmarked_forest g t deeper p.forest)
  plain_reading limit r tokens w p e = record {
    fits = fits_unmarked g t deeper (rule r ∷ []) (suc limit) [] p.forest p.fits;
    same_tokens = tokens_of-unmarked g t deeper p.forest
        ∙ ap (λ (z : List (Marked T)). map (λ x. unmarked x) z) p.same_tokens ∙ e;
  }

  pub goes_on_of : (limit : ℕ) (r : R) (u : List T) (w : List (Marked T))
      → Reads (room_language g t deeper token_value node_value)
      (rule (whole_rule limit r) ∷ []) (map (λ x. free x) u ++ w) → GoesOn g r u
  goes_on_of limit r u w p = record {
    later = map (λ x. unmarked x) w;
    reading = unmarked_forest g t deeper p.forest;
    reads = plain_reading limit r (u ++ map (λ x. unmarked x) w) (map (λ x. free x) u ++ w) p
        (unmarked_free u w);
  }

  pub goes_on_within_of : (limit : ℕ) (r : R) (u : List T) (w : List (Marked T))
      → Reads (room_language g t deeper token_value node_value)
      (rule (whole_rule limit r) ∷ []) (map (λ x. bound x) u ++ w)
      → GoesOnWithin g deeper limit r u
  goes_on_within_of limit r u w p = record {
    later = map (λ x. unmarked x) w;
    reading = unmarked_forest g t deeper p.forest;
    reads = plain_reading limit r (u ++ map (λ x. unmarked x) w) (map (λ x. bound x) u ++ w) p
        (unmarked_bound u w);
    within = freed_behind limit (nested deeper 0 [] (unmarked_forest g t deeper p.forest)) u w
        (subst (λ (z : List (Marked T)).
        AreWithin limit (nested deeper 0 [] (unmarked_forest g t deeper p.forest)) z)
        p.same_tokens
        (reads_within g t deeper limit (rule r ∷ []) (suc limit) 0 [] p.forest (omega arith)
        p.fits));
  }

  room_reads_free : (limit : ℕ) (r : R) (u : List T) → (p : GoesOn g r u)
      → Reads (room_language g t deeper token_value node_value)
      (rule (whole_rule limit r) ∷ []) (map (λ x. free x) u ++ map (λ x. free x) p.later)
  room_reads_free limit r u p =
      let q : Given g t deeper (rule (whole_rule limit r) ∷ []) p.reading
      (map (λ x. free x) (tokens_of p.reading)) =
      within_reads g t deeper limit (rule r ∷ []) (suc limit) 0 [] p.reading
      (map (λ x. free x) (tokens_of p.reading)) (omega arith) p.reads.fits
      (free_within deeper limit 0 [] p.reading) in
      record {
        forest = q.forest;
        fits = q.fits;
        same_tokens = q.same_tokens
            ∙ ap (λ (z : List T). map (λ x. free x) z) p.reads.same_tokens
            ∙ map-append (λ (x : T). free x) u p.later;
      }

  room_reads_bound : (limit : ℕ) (r : R) (u : List T) → (p : GoesOnWithin g deeper limit r u)
      → Reads (room_language g t deeper token_value node_value)
      (rule (whole_rule limit r) ∷ []) (map (λ x. bound x) u ++ map (λ x. free x) p.later)
  room_reads_bound limit r u p =
      let q : Given g t deeper (rule (whole_rule limit r) ∷ []) p.reading
      (map (λ x. bound x) u ++ map (λ x. free x) p.later) =
      within_reads g t deeper limit (rule r ∷ []) (suc limit) 0 [] p.reading
      (map (λ x. bound x) u ++ map (λ x. free x) p.later) (omega arith) p.reads.fits p.within in
      record { forest = q.forest; fits = q.fits; same_tokens = q.same_tokens }

  -- Where a descent fails, the tokens before go on within the limit, and with the next one they do
  -- not go on at all.
  pub fails_within : (limit : ℕ) (r : R) (tokens rest : List T)
      → (o : Fails (room_language g t deeper token_value node_value) (None ∷ [])
      (whole_rule limit r) tokens rest) → GoesOnWithin g deeper limit r o.front
  fails_within limit r tokens rest o =
      goes_on_within_of limit r o.front o.stuck.goes.0 o.stuck.goes.1

  pub fails_at : (d : Covers g t) (limit : ℕ) (r : R) (tokens : List T) (x : T) (v : List T)
      → (o : Fails (room_language g t deeper token_value node_value) (None ∷ [])
      (whole_rule limit r) tokens (x ∷ v)) → GoesOn g r (o.front ++ (x ∷ [])) → ⊥
  fails_at d limit r tokens x v o p =
      stuck_stops (room_language g t deeper token_value node_value)
      (room_sound g t deeper token_value node_value d) (whole_rule limit r) o.front (x ∷ v)
      (free x ∷ map (λ y. free y) p.later) o.stuck (inl refl, tt)
      (subst (λ (z : List (Marked T)). Reads (room_language g t deeper token_value node_value)
      (rule (whole_rule limit r) ∷ []) z)
      (ap (λ (z : List (Marked T)). z ++ map (λ y. free y) p.later)
      (map-append (λ (y : T). free y) o.front (x ∷ []))
      ∙ append_assoc (map (λ y. free y) o.front) (free x ∷ []) (map (λ y. free y) p.later))
      (room_reads_free limit r (o.front ++ (x ∷ [])) p))

  pub fails_at_end : (d : Covers g t) (limit : ℕ) (r : R) (tokens : List T) (f : Forest A T)
      → Fails (room_language g t deeper token_value node_value) (None ∷ [])
      (whole_rule limit r) tokens [] → IsReading g r tokens f → ⊥
  fails_at_end d limit r tokens f o p =
      stuck_stops (room_language g t deeper token_value node_value)
      (room_sound g t deeper token_value node_value d) (whole_rule limit r) o.front []
      [] o.stuck tt
      (subst (λ (z : List T). Reads (room_language g t deeper token_value node_value)
      (rule (whole_rule limit r) ∷ []) (map (λ y. free y) z ++ []))
      (o.split ∙ append-nil o.front)
      (room_reads_free limit r tokens
      (record {
        later = [];
        reading = f;
        reads = record {
          fits = p.fits;
          same_tokens = p.same_tokens ∙ sym (append-nil tokens);
        };
      })))

  -- At the end it is all the tokens that go on.
  pub fails_whole : (limit : ℕ) (r : R) (tokens : List T)
      → Fails (room_language g t deeper token_value node_value) (None ∷ [])
      (whole_rule limit r) tokens [] → GoesOnWithin g deeper limit r tokens
  fails_whole limit r tokens o =
      subst (λ (z : List T). GoesOnWithin g deeper limit r z)
      (sym (o.split ∙ append-nil o.front)) (fails_within limit r tokens [] o)

  -- Where a rule is read and tokens are left, it is the same.
  pub done_within : (after : _) (limit look : ℕ) (r : R) (tokens rest : List T) (value : V)
      → (o : Done (room_language g t deeper token_value node_value) after look
      (whole_rule limit r) tokens rest value) → GoesOnWithin g deeper limit r o.front
  done_within after limit look r tokens rest value o =
      goes_on_within_of limit r o.front []
      (record {
        forest = o.means.forest;
        fits = o.means.fits;
        same_tokens = o.means.same_tokens ∙ sym (append-nil (map (λ x. bound x) o.front));
      })

  pub left_over_at : (d : Covers g t) (limit : ℕ) (r : R) (tokens : List T) (x : T)
      (v : List T) (value : V)
      → (o : Done (room_language g t deeper token_value node_value) (None ∷ []) 1
      (whole_rule limit r) tokens (x ∷ v) value) → GoesOn g r (o.front ++ (x ∷ [])) → ⊥
  left_over_at d limit r tokens x v value o p =
      left_over (room_language g t deeper token_value node_value)
      (room_sound g t deeper token_value node_value d) 1 (whole_rule limit r) o.front (x ∷ v)
      (free x) (map (λ y. free y) p.later) o.leads (inl refl, tt)
      (subst (λ (z : List (Marked T)). Reads (room_language g t deeper token_value node_value)
      (rule (whole_rule limit r) ∷ []) z)
      (ap (λ (z : List (Marked T)). z ++ map (λ y. free y) p.later)
      (map-append (λ (y : T). free y) o.front (x ∷ []))
      ∙ append_assoc (map (λ y. free y) o.front) (free x ∷ []) (map (λ y. free y) p.later))
      (room_reads_free limit r (o.front ++ (x ∷ [])) p))

  -- Where a descent is too deep, the tokens before go on within the limit, and with the next one
  -- they go on, but not within it.
  pub too_deep_within_before : (limit : ℕ) (r : R) (tokens rest : List T)
      → (o : IsTooDeep (room_language g t deeper token_value node_value) (None ∷ [])
      (whole_rule limit r) tokens rest) → GoesOnWithin g deeper limit r o.front
  too_deep_within_before limit r tokens rest o =
      goes_on_within_of limit r o.front o.deep.goes.0 o.deep.goes.1

  pub too_deep_goes_on : (limit : ℕ) (r : R) (tokens rest : List T)
      → (o : IsTooDeep (room_language g t deeper token_value node_value) (None ∷ [])
      (whole_rule limit r) tokens rest) → GoesOn g r (o.front ++ (o.token ∷ []))
  too_deep_goes_on limit r tokens rest o =
      goes_on_of limit r (o.front ++ (o.token ∷ [])) o.deep.goes_free.0
      (subst (λ (z : List (Marked T)). Reads (room_language g t deeper token_value node_value)
      (rule (whole_rule limit r) ∷ []) z)
      (sym (ap (λ (z : List (Marked T)). z ++ o.deep.goes_free.0)
      (map-append (λ (y : T). free y) o.front (o.token ∷ []))
      ∙ append_assoc (map (λ y. free y) o.front) (free o.token ∷ []) o.deep.goes_free.0))
      o.deep.goes_free.1)

  pub too_deep_at : (d : Covers g t) (limit : ℕ) (r : R) (tokens rest : List T)
      → (o : IsTooDeep (room_language g t deeper token_value node_value) (None ∷ [])
      (whole_rule limit r) tokens rest)
      → GoesOnWithin g deeper limit r (o.front ++ (o.token ∷ [])) → ⊥
  too_deep_at d limit r tokens rest o p =
      o.deep.stops [] (map (λ y. free y) p.later)
      (allows_end (room_language g t deeper token_value node_value)
      (room_sound g t deeper token_value node_value d))
      (subst (λ (z : List (Marked T)). Reads (room_language g t deeper token_value node_value)
      (rule (whole_rule limit r) ∷ []) z)
      (ap (λ (z : List (Marked T)). z ++ map (λ y. free y) p.later)
      (map-append (λ (y : T). bound y) o.front (o.token ∷ []))
      ∙ append_assoc (map (λ y. bound y) o.front) (bound o.token ∷ [])
      (map (λ y. free y) p.later))
      (room_reads_bound limit r (o.front ++ (o.token ∷ [])) p))

  -- Where a rule has read all the tokens, they have a reading within the limit, with its value.
  pub whole_reading : (after : _) (limit look : ℕ) (r : R) (view : Forest A T → List V)
      (tokens : List T) (value : V)
      → view bare ≡ []
      → ((x : T) (f : Forest A T) → view (leaf x f) ≡ token_value x ∷ view f)
      → ((a : A) (x f : Forest A T)
      → view (node a x f) ≡ node_value a (tokens_of x) (view x) ∷ view f)
      → Done (room_language g t deeper token_value node_value) after look
      (whole_rule limit r) tokens [] value → Whole g deeper limit r view tokens value
  whole_reading after limit look r view tokens value b s h o =
      let e : o.front ≡ tokens = sym (o.split ∙ append-nil o.front) in
      record {
        reading = unmarked_forest g t deeper o.means.forest;
        reads = record {
          fits = fits_unmarked g t deeper (rule r ∷ []) (suc limit) [] o.means.forest
              o.means.fits;
          same_tokens = tokens_of-unmarked g t deeper o.means.forest
              ∙ ap (λ (z : List (Marked T)). map (λ x. unmarked x) z)
              (o.means.same_tokens ∙ sym (append-nil (map (λ x. bound x) o.front)))
              ∙ unmarked_bound o.front [] ∙ append-nil o.front ∙ e;
        };
        within = subst (λ (z : List T). AreWithin limit
            (nested deeper 0 [] (unmarked_forest g t deeper o.means.forest))
            (map (λ x. bound x) z)) e
            (subst (λ (z : List (Marked T)). AreWithin limit
            (nested deeper 0 [] (unmarked_forest g t deeper o.means.forest)) z)
            o.means.same_tokens
            (reads_within g t deeper limit (rule r ∷ []) (suc limit) 0 [] o.means.forest
            (omega arith) o.means.fits));
        means = sym (values_of-unmarked g t deeper token_value node_value view b s h
            o.means.forest) ∙ o.means.same_values;
      }
