-- Values of what symbols read, side by side and in a node.
use Rattle.std.proofs.Common.{◌≡◌, ℕ, ◌≤◌, Bool, true, false, not, List, [], ◌∷◌, ◌++◌, length}
use Rattle.std.proofs.Common.{refl, sym, ap, ◌∙◌, append-nil, map, IsTrue, ◌&&◌, subst, arith}
use Rattle.std.proofs.lemmas.List.{map-append}
use Rattle.mc_grammar.specs.Grammar.{Symbol, one, rule}
use Rattle.mc_grammar.specs.Reading.{Forest, bare, leaf, node, tokens_of, IsOneOf, Fits}
use Rattle.mc_grammar.specs.Ahead.{Ahead, may_be_none}
use Rattle.mc_grammar.specs.Language.{Language, values_of, Means, IsSound}
use Rattle.mc_grammar.specs.Places.{Done}
use Rattle.mc_grammar.proofs.Ahead.{empty_within}
use Rattle.mc_grammar.proofs.Forests.{beside, tokens_of-beside, Fits-beside}

module _ {K R A S T V : Type 0} (l : Language K R A S T V) where
  -- Values side by side.
  values_of-beside : (f h : Forest A T)
      → values_of l (beside f h) ≡ values_of l f ++ values_of l h
  values_of-beside bare h = refl
  values_of-beside (leaf x f) h =
      ap (λ (vs : List V). l.token_value (l.plain x) ∷ vs) (values_of-beside f h)
  values_of-beside (node a x f) h =
      ap (λ (vs : List V). l.node_value a (map l.plain (tokens_of x)) (values_of l x) ∷ vs)
      (values_of-beside f h)

  pub means_append : (ss zz : List (Symbol K R)) (front rest : List S) (vs us : List V)
      → Means l ss front vs → Means l zz rest us → Means l (ss ++ zz) (front ++ rest) (vs ++ us)
  means_append ss zz front rest vs us p q = record {
    forest = beside p.forest q.forest;
    fits = Fits-beside l.grammar ss zz p.forest q.forest p.fits q.fits;
    same_tokens = tokens_of-beside p.forest q.forest
        ∙ ap (λ (x : List T). x ++ tokens_of q.forest) p.same_tokens
        ∙ ap (λ (x : List T). map l.bound front ++ x) q.same_tokens
        ∙ sym (map-append l.bound front rest);
    same_values = values_of-beside p.forest q.forest
        ∙ ap (λ (x : List V). x ++ values_of l q.forest) p.same_values
        ∙ ap (λ (x : List V). vs ++ x) q.same_values;
  }

  plain_again : (d : IsSound l) (front : List S) → map l.plain (map l.bound front) ≡ front
  plain_again d [] = refl
  plain_again d (s ∷ front) =
      ap (λ (x : S). x ∷ map l.plain (map l.bound front)) (d.plain_bound s)
      ∙ ap (λ (x : List S). s ∷ x) (plain_again d front)

  pub means_token : (d : IsSound l) (k : K) (s : S) → IsTrue (l.grammar.is_of k (l.bound s))
      → Means l (one k ∷ []) (s ∷ []) (l.token_value s ∷ [])
  means_token d k s h = record {
    forest = leaf (l.bound s) bare;
    fits = (h, tt);
    same_tokens = refl;
    same_values = ap (λ (x : S). l.token_value x ∷ []) (d.plain_bound s);
  }

  -- A node of an alternative whose symbols read the tokens, with their values.
  pub means_node : (d : IsSound l) (r : R) (a : A) (front : List S) (vs : List V)
      → IsOneOf a (l.grammar.alternatives r)
      → Means l (l.grammar.symbols a) front vs
      → Means l (rule r ∷ []) front (l.node_value a front vs ∷ [])
  means_node d r a front vs i p = record {
    forest = node a p.forest bare;
    fits = (i, p.fits, tt);
    same_tokens = append-nil (tokens_of p.forest) ∙ p.same_tokens;
    same_values = ap (λ (x : List T). l.node_value a (map l.plain x) (values_of l p.forest) ∷ [])
        p.same_tokens
        ∙ ap (λ (x : List S). l.node_value a x (values_of l p.forest) ∷ []) (plain_again d front)
        ∙ ap (λ (x : List V). l.node_value a front x ∷ []) p.same_values;
  }

  pub means_at : (ss zz : List (Symbol K R)) (front : List S) (vs : List V) → ss ≡ zz
      → Means l ss front vs → Means l zz front vs
  means_at ss zz front vs e p = subst (λ (x : List (Symbol K R)). Means l x front vs) e p

  -- Symbols that read no token may read none.
  no_tokens : (d : IsSound l) (ss : List (Symbol K R)) (f : Forest A T) → Fits l.grammar ss f
      → tokens_of f ≡ [] → IsTrue (may_be_none l.tables ss)
  no_tokens d [] f p e = refl
  no_tokens d (one k ∷ ss) bare p e = absurd p
  no_tokens d (one k ∷ ss) (node a x f) p e = absurd p
  no_tokens d (one k ∷ ss) (leaf x f) p e = absurd (different e)
    where
      different : x ∷ tokens_of f ≡ [] → ⊥
      different h = cc
  no_tokens d (rule r ∷ ss) bare p e = absurd p
  no_tokens d (rule r ∷ ss) (leaf x f) p e = absurd p
  no_tokens d (rule r ∷ ss) (node a x f) p e =
      both_hold (l.tables.may_be_empty r) (may_be_none l.tables ss)
      (empty_within l.grammar l.tables d.covers r a p.0
      (no_tokens d (l.grammar.symbols a) x p.1 (no_first (tokens_of x) (tokens_of f) e)))
      (no_tokens d ss f p.2 (no_second (tokens_of x) (tokens_of f) e))
    where
      both_hold : (a b : Bool) → IsTrue a → IsTrue b → IsTrue (a && b)
      both_hold true b h k = k
      both_hold false b h k = absurd (cc)

      no_first : (ts us : List T) → ts ++ us ≡ [] → ts ≡ []
      no_first [] us h = refl
      no_first (y ∷ ts) us h = absurd (cc)

      no_second : (ts us : List T) → ts ++ us ≡ [] → us ≡ []
      no_second [] us h = h
      no_second (y ∷ ts) us h = absurd (cc)

  -- A rule that is read and may not be empty takes a token.
  pub done_takes : (d : IsSound l) (after : Ahead K) (look : ℕ) (r : R) (tokens rest : List S)
      (value : V) → IsTrue (not (l.tables.may_be_empty r))
      → (o : Done l after look r tokens rest value) → 1 ≤ length o.front
  done_takes d after look r tokens rest value h o = by_front o.front refl
    where
      empty : (b : Bool) → IsTrue (not b) → IsTrue (b && true) → ⊥
      empty true h k = cc
      empty false h k = cc

      by_front : (front : List S) → o.front ≡ front → 1 ≤ length o.front
      by_front [] e =
          absurd (empty (l.tables.may_be_empty r) h (no_tokens d (rule r ∷ []) o.means.forest
          o.means.fits (o.means.same_tokens ∙ ap (λ (x : List S). map l.bound x) e)))
      by_front (s ∷ front) e = subst (λ (x : List S). 1 ≤ length x) (sym e) (omega arith)
