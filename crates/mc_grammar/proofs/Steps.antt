-- Reading symbols side by side, opening a rule, taking a token.
use Rattle.std.proofs.Common.{◌≡◌, List, [], ◌∷◌, ◌++◌, refl, sym, ap, ◌∙◌, append_assoc, map}
use Rattle.std.proofs.Common.{IsTrue, subst}
use Rattle.mc_grammar.specs.Grammar.{Symbol, one, rule}
use Rattle.mc_grammar.specs.Reading.{Forest, bare, leaf, node, tokens_of, IsOneOf, Fits}
use Rattle.mc_grammar.specs.Language.{Language, Reads, Means}
use Rattle.mc_grammar.proofs.Forests.{beside, tokens_of-beside, Fits-beside}

module _ {K R A S T V : Type 0} (l : Language K R A S T V) where
  pub reads_nothing : Reads l [] []
  reads_nothing = record { forest = bare; fits = tt; same_tokens = refl }

  pub reads_append : (ss zz : List (Symbol K R)) (ts us : List T) → Reads l ss ts → Reads l zz us
      → Reads l (ss ++ zz) (ts ++ us)
  reads_append ss zz ts us p q = record {
    forest = beside p.forest q.forest;
    fits = Fits-beside l.grammar ss zz p.forest q.forest p.fits q.fits;
    same_tokens = tokens_of-beside p.forest q.forest
        ∙ ap (λ (x : List T). x ++ tokens_of q.forest) p.same_tokens
        ∙ ap (λ (x : List T). ts ++ x) q.same_tokens;
  }

  -- Tokens that two lists of symbols read, the one after the other.
  pub record Parts (ss zz : List (Symbol K R)) (tokens : List T) : Type 0 where
    pub first : List T
    pub second : List T
    pub reads_first : Reads l ss first
    pub reads_second : Reads l zz second
    pub joined : first ++ second ≡ tokens

  parts_of : (ss zz : List (Symbol K R)) (f : Forest A T) → Fits l.grammar (ss ++ zz) f
      → Parts ss zz (tokens_of f)
  parts_of [] zz f p = record {
    first = [];
    second = tokens_of f;
    reads_first = reads_nothing;
    reads_second = record { forest = f; fits = p; same_tokens = refl };
    joined = refl;
  }
  parts_of (one k ∷ ss) zz bare p = absurd p
  parts_of (one k ∷ ss) zz (node a x f) p = absurd p
  parts_of (one k ∷ ss) zz (leaf token f) p =
      let rest : Parts ss zz (tokens_of f) = parts_of ss zz f p.1 in
      record {
        first = token ∷ rest.first;
        second = rest.second;
        reads_first = record {
          forest = leaf token rest.reads_first.forest;
          fits = (p.0, rest.reads_first.fits);
          same_tokens = ap (λ (x : List T). token ∷ x) rest.reads_first.same_tokens;
        };
        reads_second = rest.reads_second;
        joined = ap (λ (x : List T). token ∷ x) rest.joined;
      }
  parts_of (rule r ∷ ss) zz bare p = absurd p
  parts_of (rule r ∷ ss) zz (leaf token f) p = absurd p
  parts_of (rule r ∷ ss) zz (node a x f) p =
      let rest : Parts ss zz (tokens_of f) = parts_of ss zz f p.2 in
      record {
        first = tokens_of x ++ rest.first;
        second = rest.second;
        reads_first = record {
          forest = node a x rest.reads_first.forest;
          fits = (p.0, p.1, rest.reads_first.fits);
          same_tokens = ap (λ (y : List T). tokens_of x ++ y) rest.reads_first.same_tokens;
        };
        reads_second = rest.reads_second;
        joined = append_assoc (tokens_of x) rest.first rest.second
            ∙ ap (λ (y : List T). tokens_of x ++ y) rest.joined;
      }

  pub reads_parts : (ss zz : List (Symbol K R)) (tokens : List T) → Reads l (ss ++ zz) tokens
      → Parts ss zz tokens
  reads_parts ss zz tokens p =
      let q : Parts ss zz (tokens_of p.forest) = parts_of ss zz p.forest p.fits in
      record {
        first = q.first;
        second = q.second;
        reads_first = q.reads_first;
        reads_second = q.reads_second;
        joined = q.joined ∙ p.same_tokens;
      }

  -- An alternative of the rule that reads the tokens, with what is read later.
  pub record Opened (r : R) (later : List (Symbol K R)) (tokens : List T) : Type 0 where
    pub alternative : A
    pub is_alternative : IsOneOf alternative (l.grammar.alternatives r)
    pub reads : Reads l (l.grammar.symbols alternative ++ later) tokens

  opened_of : (r : R) (later : List (Symbol K R)) (f : Forest A T) (tokens : List T)
      → Fits l.grammar (rule r ∷ later) f → tokens_of f ≡ tokens → Opened r later tokens
  opened_of r later bare tokens p e = absurd p
  opened_of r later (leaf token f) tokens p e = absurd p
  opened_of r later (node a x f) tokens p e = record {
    alternative = a;
    is_alternative = p.0;
    reads = record {
      forest = beside x f;
      fits = Fits-beside l.grammar (l.grammar.symbols a) later x f p.1 p.2;
      same_tokens = tokens_of-beside x f ∙ e;
    };
  }

  pub reads_opened : (r : R) (later : List (Symbol K R)) (tokens : List T)
      → Reads l (rule r ∷ later) tokens → Opened r later tokens
  reads_opened r later tokens p = opened_of r later p.forest tokens p.fits p.same_tokens

  pub reads_closed : (r : R) (a : A) (later : List (Symbol K R)) (tokens : List T)
      → IsOneOf a (l.grammar.alternatives r) → Reads l (l.grammar.symbols a ++ later) tokens
      → Reads l (rule r ∷ later) tokens
  reads_closed r a later tokens i p =
      let q : Parts (l.grammar.symbols a) later tokens =
      reads_parts (l.grammar.symbols a) later tokens p in
      record {
        forest = node a q.reads_first.forest q.reads_second.forest;
        fits = (i, q.reads_first.fits, q.reads_second.fits);
        same_tokens = ap (λ (x : List T). x ++ tokens_of q.reads_second.forest)
            q.reads_first.same_tokens
            ∙ ap (λ (x : List T). q.first ++ x) q.reads_second.same_tokens ∙ q.joined;
      }

  -- The tokens begin with one of the class, and the symbols read the others.
  pub record Taken (k : K) (later : List (Symbol K R)) (tokens : List T) : Type 0 where
    pub token : T
    pub others : List T
    pub split : tokens ≡ token ∷ others
    pub is_of_class : IsTrue (l.grammar.is_of k token)
    pub reads : Reads l later others

  taken_of : (k : K) (later : List (Symbol K R)) (f : Forest A T) (tokens : List T)
      → Fits l.grammar (one k ∷ later) f → tokens_of f ≡ tokens → Taken k later tokens
  taken_of k later bare tokens p e = absurd p
  taken_of k later (node a x f) tokens p e = absurd p
  taken_of k later (leaf token f) tokens p e = record {
    token = token;
    others = tokens_of f;
    split = sym e;
    is_of_class = p.0;
    reads = record { forest = f; fits = p.1; same_tokens = refl };
  }

  pub reads_taken : (k : K) (later : List (Symbol K R)) (tokens : List T)
      → Reads l (one k ∷ later) tokens → Taken k later tokens
  reads_taken k later tokens p = taken_of k later p.forest tokens p.fits p.same_tokens

  pub reads_token : (k : K) (later : List (Symbol K R)) (token : T) (tokens : List T)
      → Reads l (one k ∷ later) (token ∷ tokens)
      → IsTrue (l.grammar.is_of k token) × Reads l later tokens
  reads_token k later token tokens p =
      let q : Taken k later (token ∷ tokens) = reads_taken k later (token ∷ tokens) p in
      let split : token ∷ tokens ≡ q.token ∷ q.others = q.split in
      let first : q.token ≡ token = cc in
      let others : q.others ≡ tokens = cc in (
        subst (λ (x : T). IsTrue (l.grammar.is_of k x)) first q.is_of_class,
        subst (λ (x : List T). Reads l later x) others q.reads,
      )

  pub reads_nothing_alone : (tokens : List T) → Reads l [] tokens → tokens ≡ []
  reads_nothing_alone tokens p = of_forest p.forest p.fits p.same_tokens
    where
      of_forest : (f : Forest A T) → Fits l.grammar [] f → tokens_of f ≡ tokens → tokens ≡ []
      of_forest bare q e = sym e
      of_forest (leaf token f) q e = absurd q
      of_forest (node a x f) q e = absurd q

  pub means_reads : (ss : List (Symbol K R)) (tokens : List S) (values : List V)
      → Means l ss tokens values → Reads l ss (map l.bound tokens)
  means_reads ss tokens values p =
      record { forest = p.forest; fits = p.fits; same_tokens = p.same_tokens }
