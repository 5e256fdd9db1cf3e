-- Chains: starting, one more link, ending.
use Rattle.std.proofs.Common.{◌≡◌, ℕ, ◌+◌, ◌≤◌, List, [], ◌∷◌, ◌++◌, length, refl, sym, ap, ◌∙◌}
use Rattle.std.proofs.Common.{append_assoc, append-nil, subst, arith}
use Rattle.mc_grammar.specs.Grammar.{Symbol, rule}
use Rattle.mc_grammar.specs.Ahead.{Ahead}
use Rattle.mc_grammar.specs.Language.{Language, Means, IsSound}
use Rattle.mc_grammar.specs.Descent.{Leads}
use Rattle.mc_grammar.specs.Places.{Inside, Done, Fails, IsTooDeep}
use Rattle.mc_grammar.specs.Chains.{Chain}
use Rattle.mc_grammar.proofs.Marks.{alike_shorter}
use Rattle.mc_grammar.proofs.Paths.{stay, then_leads, then_stuck, then_deep}
use Rattle.mc_grammar.proofs.Values.{means_append, means_node, means_at}
use Rattle.mc_grammar.proofs.Inside.{leads_inside}

module _ {K R A S T V : Type 0} (l : Language K R A S T V) where
  means_with : (ss : List (Symbol K R)) (f h : List S) (vs us : List V) → f ≡ h → vs ≡ us
      → Means l ss f vs → Means l ss h us
  means_with ss f h vs us e i p =
      subst (λ (x : List V). Means l ss h x) i (subst (λ (x : List S). Means l ss x vs) e p)

module _ {K R A S T V X : Type 0} (l : Language K R A S T V) where
  pub chain_start : (after : Ahead K) (more : R) (value : List X → V) (tokens : List S)
      → Chain l after 0 more value [] tokens [] tokens
  chain_start after more value tokens = record {
    split = refl;
    leads = stay l after (rule more ∷ []) tokens;
    collects = λ later others p. p;
  }

  pub chain_widen : (after : Ahead K) (n m : ℕ) (more : R) (value : List X → V)
      (links : List X) (tokens front rest : List S)
      → Chain l after n more value links tokens front rest → n ≤ m
      → Chain l after m more value links tokens front rest
  chain_widen after n m more value links tokens front rest p lt = record {
    split = p.split;
    leads = record {
      takes = λ ks w a same q. p.leads.takes ks w a (alike_shorter l n m w rest lt same) q;
      gives = p.leads.gives;
    };
    collects = p.collects;
  }

  -- One more link: what an alternative reads before it begins again.
  pub chain_step : (d : IsSound l) (after : Ahead K) (n m : ℕ) (more : R) (value : List X → V)
      (links : List X) (tokens front rest : List S) (a : A) (vs : List V) (x : X)
      (front' v : List S)
      → Chain l after n more value links tokens front rest
      → Inside l after m more (record { alternative = a; left = rule more ∷ [] } ∷ []) vs rest
      front' v
      → ((later : List S) (others : List X)
      → l.node_value a (front' ++ later) (vs ++ (value others ∷ [])) ≡ value (x ∷ others))
      → n ≤ length front' + m
      → Chain l after m more value (links ++ (x ∷ [])) tokens (front ++ front') v
  chain_step d after n m more value links tokens front rest a vs x front' v p q h lt = record {
    split = p.split ∙ ap (λ (y : List S). front ++ y) q.split ∙ sym (append_assoc front front' v);
    leads = then_leads l after n m (rule more ∷ []) (rule more ∷ []) (rule more ∷ []) front front' v
        (subst (λ (y : List S). Leads l after n (rule more ∷ []) (rule more ∷ []) front y)
        q.split p.leads)
        (leads_inside l after m more a (rule more ∷ []) vs rest front' v q) lt;
    collects = λ later others o. means_with l (rule more ∷ [])
        (front ++ (front' ++ later)) ((front ++ front') ++ later)
        (value (links ++ (x ∷ others)) ∷ []) (value ((links ++ (x ∷ [])) ++ others) ∷ [])
        (sym (append_assoc front front' later))
        (ap (λ (y : List X). value y ∷ []) (sym (append_assoc links (x ∷ []) others)))
        (p.collects (front' ++ later) (x ∷ others) (link later others o));
  }
    where
      link : (later : List S) (others : List X) → Means l (rule more ∷ []) later (value others ∷ [])
          → Means l (rule more ∷ []) (front' ++ later) (value (x ∷ others) ∷ [])
      link later others o =
          means_with l (rule more ∷ []) (front' ++ later) (front' ++ later)
          (l.node_value a (front' ++ later) (vs ++ (value others ∷ [])) ∷ [])
          (value (x ∷ others) ∷ []) refl (ap (λ (y : V). y ∷ []) (h later others))
          (means_node l d more a (front' ++ later) (vs ++ (value others ∷ []))
          q.reached.0.is_alternative
          (means_at l (q.reached.0.done ++ (rule more ∷ [])) (l.grammar.symbols a)
          (front' ++ later) (vs ++ (value others ∷ [])) (sym q.reached.0.split)
          (means_append l q.reached.0.done (rule more ∷ []) front' later vs (value others ∷ [])
          q.reached.0.means o)))

  -- The end: the alternative that reads nothing.
  pub chain_end : (d : IsSound l) (after : Ahead K) (n m : ℕ) (more : R) (value : List X → V)
      (links : List X) (tokens front rest : List S) (a : A)
      → Chain l after n more value links tokens front rest
      → Inside l after m more (record { alternative = a; left = [] } ∷ []) [] rest [] rest
      → l.node_value a [] [] ≡ value [] → n ≤ m
      → Done l after m more tokens rest (value links)
  chain_end d after n m more value links tokens front rest a p q e lt = record {
    front = front;
    split = p.split;
    leads = subst (λ (y : List S). Leads l after m (rule more ∷ []) [] y rest) (append-nil front)
        (then_leads l after n m (rule more ∷ []) (rule more ∷ []) [] front [] rest
        p.leads (leads_inside l after m more a [] [] rest [] rest q) (omega (arith, lt)));
    means = means_with l (rule more ∷ []) (front ++ []) front
        (value (links ++ []) ∷ []) (value links ∷ []) (append-nil front)
        (ap (λ (y : List X). value y ∷ []) (append-nil links)) (p.collects [] [] none);
  }
    where
      none : Means l (rule more ∷ []) [] (value [] ∷ [])
      none = means_with l (rule more ∷ []) [] [] (l.node_value a [] [] ∷ []) (value [] ∷ []) refl
          (ap (λ (y : V). y ∷ []) e)
          (means_node l d more a [] [] q.reached.0.is_alternative
          (means_at l q.reached.0.done (l.grammar.symbols a) [] []
          (sym (q.reached.0.split ∙ append-nil q.reached.0.done)) q.reached.0.means))

  -- A link that fails.
  pub chain_fails : (after : Ahead K) (n : ℕ) (more : R) (value : List X → V)
      (links : List X) (tokens front rest v : List S)
      → Chain l after n more value links tokens front rest
      → (o : Fails l after more rest v) → n ≤ length o.front + 1
      → Fails l after more tokens v
  chain_fails after n more value links tokens front rest v p o lt = record {
    front = front ++ o.front;
    split = p.split ∙ ap (λ (y : List S). front ++ y) o.split ∙ sym (append_assoc front o.front v);
    stuck = then_stuck l after n (rule more ∷ []) (rule more ∷ []) front o.front v
        (subst (λ (y : List S). Leads l after n (rule more ∷ []) (rule more ∷ []) front y)
        o.split p.leads) o.stuck lt;
  }

  -- A link that is too deep.
  pub chain_too_deep : (d : IsSound l) (after : Ahead K) (n : ℕ) (more : R) (value : List X → V)
      (links : List X) (tokens front rest v : List S)
      → Chain l after n more value links tokens front rest
      → (o : IsTooDeep l after more rest v) → n ≤ length o.front + 1
      → IsTooDeep l after more tokens v
  chain_too_deep d after n more value links tokens front rest v p o lt = record {
    front = front ++ o.front;
    token = o.token;
    behind = o.behind;
    split = p.split ∙ ap (λ (y : List S). front ++ y) o.split ∙ sym (append_assoc front o.front v);
    next = o.next;
    deep = then_deep l d after n (rule more ∷ []) (rule more ∷ []) front o.front o.token o.behind
        (subst (λ (y : List S). Leads l after n (rule more ∷ []) (rule more ∷ []) front y)
        (o.split ∙ ap (λ (y : List S). o.front ++ y) o.next) p.leads) o.deep lt;
  }
