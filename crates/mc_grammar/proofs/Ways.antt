-- The steps of a way through a function that reads a rule, in short.
use Rattle.std.proofs.Common.{◌≡◌, ℕ, ◌+◌, ◌-◌, ◌≤◌, max, Bool, List, [], ◌∷◌, ◌++◌, length, IsTrue}
use Rattle.std.proofs.Common.{Option, arith}
use Rattle.mc_grammar.specs.Grammar.{rule}
use Rattle.mc_grammar.specs.Ahead.{Ahead, every}
use Rattle.mc_grammar.specs.Language.{Language, IsSound}
use Rattle.mc_grammar.specs.Places.{Place, behind_next, before, entries, all_pass, all_out, kept}
use Rattle.mc_grammar.specs.Places.{is_next, is_barred, Sees, Inside, Done, Fails, IsTooDeep}
use Rattle.mc_grammar.specs.Chains.{Chain}
use Rattle.mc_grammar.specs.Completions.{Completions, Complete}
use Rattle.mc_grammar.proofs.Inside.{enter, narrow, widened, token, read, leave}
use Rattle.mc_grammar.proofs.Links.{chain_step, chain_end, chain_fails, chain_too_deep}
use Rattle.mc_grammar.proofs.Failing.{stuck_here, stuck_behind, too_deep_here, too_deep_behind}

module _ {K R A S T V : Type 0} (l : Language K R A S T V) (d : IsSound l) where
  -- The alternatives of a rule that the next tokens let through.
  pub choose : {after : Ahead K} {m : ℕ} {r : R} {tokens : List S} {may : Option K → Bool}
      → Sees l m tokens may
      → Inside l after (max 0 m) r (kept l may after (entries l (l.grammar.alternatives r))) []
      tokens [] tokens
  choose s = narrow l d _ _ _ _ _ _ _ _ _ _ (enter l _ _ _) s

  -- The places that the next tokens let through.
  pub look : {after : Ahead K} {n m : ℕ} {r : R} {places : List (Place K R A)} {vs : List V}
      {tokens front rest : List S} {may : Option K → Bool}
      → Inside l after n r places vs tokens front rest → Sees l m rest may
      → Inside l after (max n m) r (kept l may after places) vs tokens front rest
  look p s = narrow l d _ _ _ _ _ _ _ _ _ _ p s

  -- A look at more tokens, which tells nothing new.
  pub widen : {after : Ahead K} {n m : ℕ} {r : R} {places : List (Place K R A)} {vs : List V}
      {tokens front rest : List S}
      → Inside l after n r places vs tokens front rest → n ≤ m
      → Inside l after m r places vs tokens front rest
  widen p lt = widened l _ _ _ _ _ _ _ _ _ p lt

  -- The next token is taken.
  pub take_token : {after : Ahead K} {n : ℕ} {r : R} {places : List (Place K R A)} {vs : List V}
      {tokens front : List S} {s : S} {rest : List S}
      → Inside l after n r places vs tokens front (s ∷ rest)
      → IsTrue (every (λ p. is_next l (l.bound s) p.left) places)
      → Inside l after (n - 1) r (behind_next places) (vs ++ (l.token_value s ∷ [])) tokens
      (front ++ (s ∷ [])) rest
  take_token p h = token l d _ _ _ _ _ _ _ _ _ p h

  -- A rule is read that all places want next.
  pub read_rule : {after after' : Ahead K} {n m : ℕ} {r q : R} {places : List (Place K R A)}
      {vs : List V} {tokens front rest v : List S} {value : V}
      → Inside l after n r places vs tokens front rest → (o : Done l after' m q rest v value)
      → places ≡ before (rule q) (behind_next places)
      → IsTrue (all_pass l after (behind_next places) after') → n ≤ m
      → Inside l after m r (behind_next places) (vs ++ (value ∷ [])) tokens (front ++ o.front) v
  read_rule p o e h lt = read l d _ _ _ _ _ _ _ _ _ _ _ _ _ _ p e h o (omega (arith, lt))

  -- The same, where the tokens that the rule took are looked at too.
  pub read_rule_far : {after after' : Ahead K} {n m : ℕ} {r q : R} {places : List (Place K R A)}
      {vs : List V} {tokens front rest v : List S} {value : V}
      → Inside l after n r places vs tokens front rest → (o : Done l after' m q rest v value)
      → places ≡ before (rule q) (behind_next places)
      → IsTrue (all_pass l after (behind_next places) after') → n ≤ length o.front + m
      → Inside l after m r (behind_next places) (vs ++ (value ∷ [])) tokens (front ++ o.front) v
  read_rule_far p o e h lt = read l d _ _ _ _ _ _ _ _ _ _ _ _ _ _ p e h o lt

  -- Nothing is left of the alternative.
  pub finish : {after : Ahead K} {n : ℕ} {r : R} {a : A} {vs : List V}
      {tokens front rest : List S}
      → Inside l after n r (record { alternative = a; left = [] } ∷ []) vs tokens front rest
      → Done l after n r tokens rest (l.node_value a front vs)
  finish p = leave l d _ _ _ _ _ _ _ _ p

  -- A chain has one more link, which an alternative read before it begins again.
  pub one_link : {X : Type 0} {after : Ahead K} {n m : ℕ} {more : R} {value : List X → V}
      {links : List X} {tokens front rest : List S} {a : A} {vs : List V} {front' v : List S}
      (x : X) → Chain l after n more value links tokens front rest
      → Inside l after m more (record { alternative = a; left = rule more ∷ [] } ∷ []) vs rest
      front' v
      → ((later : List S) (others : List X)
      → l.node_value a (front' ++ later) (vs ++ (value others ∷ [])) ≡ value (x ∷ others))
      → n ≤ m → Chain l after m more value (links ++ (x ∷ [])) tokens (front ++ front') v
  one_link x p q h lt = chain_step l d _ _ _ _ _ _ _ _ _ _ _ x _ _ p q h (omega (arith, lt))

  -- A chain has no more links.
  pub last_link : {X : Type 0} {after : Ahead K} {n m : ℕ} {more : R} {value : List X → V}
      {links : List X} {tokens front rest : List S} {a : A}
      → Chain l after n more value links tokens front rest
      → Inside l after m more (record { alternative = a; left = [] } ∷ []) [] rest [] rest
      → l.node_value a [] [] ≡ value [] → n ≤ m
      → Done l after m more tokens rest (value links)
  last_link p q e lt = chain_end l d _ _ _ _ _ _ _ _ _ _ p q e lt

  -- A link of a chain fails, or is too deep.
  pub link_fails : {X : Type 0} {after : Ahead K} {n : ℕ} {more : R} {value : List X → V}
      {links : List X} {tokens front rest v : List S}
      → Chain l after n more value links tokens front rest → Fails l after more rest v → n ≤ 1
      → Fails l after more tokens v
  link_fails p o lt = chain_fails l _ _ _ _ _ _ _ _ _ p o (omega (arith, lt))

  pub link_too_deep : {X : Type 0} {after : Ahead K} {n : ℕ} {more : R} {value : List X → V}
      {links : List X} {tokens front rest v : List S}
      → Chain l after n more value links tokens front rest → IsTooDeep l after more rest v → n ≤ 1
      → IsTooDeep l after more tokens v
  link_too_deep p o lt = chain_too_deep l d _ _ _ _ _ _ _ _ _ p o (omega (arith, lt))

  -- The same, where the tokens that the link took are looked at too.
  pub link_fails_far : {X : Type 0} {after : Ahead K} {n : ℕ} {more : R} {value : List X → V}
      {links : List X} {tokens front rest v : List S}
      → Chain l after n more value links tokens front rest → (o : Fails l after more rest v)
      → n ≤ length o.front + 1 → Fails l after more tokens v
  link_fails_far p o lt = chain_fails l _ _ _ _ _ _ _ _ _ p o lt

  pub link_too_deep_far : {X : Type 0} {after : Ahead K} {n : ℕ} {more : R} {value : List X → V}
      {links : List X} {tokens front rest v : List S}
      → Chain l after n more value links tokens front rest → (o : IsTooDeep l after more rest v)
      → n ≤ length o.front + 1 → IsTooDeep l after more tokens v
  link_too_deep_far p o lt = chain_too_deep l d _ _ _ _ _ _ _ _ _ p o lt

  module _ (c : Completions K R T) (f : Complete l c) where
    -- No place wants the next token.
    pub no_place : {after : Ahead K} {n : ℕ} {r : R} {place : Place K R A}
        {places : List (Place K R A)} {vs : List V} {tokens front rest : List S}
        {may : Option K → Bool}
        → Inside l after n r (place ∷ places) vs tokens front rest → Sees l 1 rest may
        → IsTrue (all_out l may after (place ∷ places)) → n ≤ 1
        → Fails l after r tokens rest
    no_place p s h lt = stuck_here l d c f _ _ _ _ _ _ _ _ _ _ p s lt h

    -- A rule fails that all places want next.
    pub rule_fails : {after after' : Ahead K} {n : ℕ} {r q : R} {place : Place K R A}
        {places : List (Place K R A)} {vs : List V} {tokens front rest v : List S}
        → Inside l after n r (place ∷ places) vs tokens front rest → Fails l after' q rest v
        → place ∷ places ≡ before (rule q) (behind_next (place ∷ places))
        → IsTrue (all_pass l after (behind_next (place ∷ places)) after') → n ≤ 1
        → Fails l after r tokens v
    rule_fails p o e h lt =
        stuck_behind l d c f _ _ _ _ _ _ _ _ _ _ _ _ _ p e h o (omega (arith, lt))

    -- The same, where the tokens that the rule took are looked at too.
    pub rule_fails_far : {after after' : Ahead K} {n : ℕ} {r q : R} {place : Place K R A}
        {places : List (Place K R A)} {vs : List V} {tokens front rest v : List S}
        → Inside l after n r (place ∷ places) vs tokens front rest
        → (o : Fails l after' q rest v)
        → place ∷ places ≡ before (rule q) (behind_next (place ∷ places))
        → IsTrue (all_pass l after (behind_next (place ∷ places)) after')
        → n ≤ length o.front + 1 → Fails l after r tokens v
    rule_fails_far p o e h lt = stuck_behind l d c f _ _ _ _ _ _ _ _ _ _ _ _ _ p e h o lt

    -- All places want the next token, and none has a level for it.
    pub no_room : {after : Ahead K} {n : ℕ} {r : R} {place : Place K R A}
        {places : List (Place K R A)} {vs : List V} {tokens front : List S} {s : S}
        {rest : List S}
        → Inside l after n r (place ∷ places) vs tokens front (s ∷ rest)
        → IsTrue (every (λ p. is_barred l s p.left) (place ∷ places)) → n ≤ 1
        → IsTooDeep l after r tokens (s ∷ rest)
    no_room p h lt = too_deep_here l d c f _ _ _ _ _ _ _ _ _ _ p lt h

    -- A rule is too deep that all places want next.
    pub rule_too_deep : {after after' : Ahead K} {n : ℕ} {r q : R} {place : Place K R A}
        {places : List (Place K R A)} {vs : List V} {tokens front rest v : List S}
        → Inside l after n r (place ∷ places) vs tokens front rest → IsTooDeep l after' q rest v
        → place ∷ places ≡ before (rule q) (behind_next (place ∷ places))
        → IsTrue (all_pass l after (behind_next (place ∷ places)) after') → n ≤ 1
        → IsTooDeep l after r tokens v
    rule_too_deep p o e h lt =
        too_deep_behind l d c f _ _ _ _ _ _ _ _ _ _ _ _ _ p e h o (omega (arith, lt))

    -- The same, where the tokens that the rule took are looked at too.
    pub rule_too_deep_far : {after after' : Ahead K} {n : ℕ} {r q : R} {place : Place K R A}
        {places : List (Place K R A)} {vs : List V} {tokens front rest v : List S}
        → Inside l after n r (place ∷ places) vs tokens front rest
        → (o : IsTooDeep l after' q rest v)
        → place ∷ places ≡ before (rule q) (behind_next (place ∷ places))
        → IsTrue (all_pass l after (behind_next (place ∷ places)) after')
        → n ≤ length o.front + 1 → IsTooDeep l after r tokens v
    rule_too_deep_far p o e h lt = too_deep_behind l d c f _ _ _ _ _ _ _ _ _ _ _ _ _ p e h o lt
