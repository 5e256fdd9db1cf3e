-- What may stand next: FIRST and FOLLOW, Aho, Lam, Sethi and Ullman, Compilers, 4.4.
use Rattle.std.specs.Prelude.{◌⊎◌, ◌&&◌, ◌||◌, Bool, true, false, not, List, []}
use Rattle.std.specs.Prelude.{◌∷◌, ◌++◌}
use Rattle.std.specs.Prelude.{Option, Some, None, IsTrue}
use Rattle.std.specs.List.{list_any}
use Rattle.mc_grammar.specs.Grammar.{Grammar, Symbol, one, rule}

-- What may stand next: tokens of a class, or None for the end of the tokens.
abbrev pub Ahead : Type 0 → Type 0
Ahead K = List (Option K)

-- What is written down of a grammar: which rules may read no token at all, what a rule may begin
-- with, what may follow it, what stands behind a token of a class (None where nothing is said),
-- which classes have no token in common, which class holds all of another, and which rules are the
-- same.
pub record Tables (K R : Type 0) : Type 0 where
  pub may_be_empty : R → Bool
  pub begins : R → Ahead K
  pub follows : R → Ahead K
  pub behind : K → Option (Ahead K)
  pub are_apart : K → K → Bool
  pub is_within : K → K → Bool
  pub are_same : R → R → Bool

-- All of the list pass the test.
abbrev pub every : {A : Type 0} → (A → Bool) → List A → Bool
every test [] = true
every test (a ∷ as') = elim (test a) [ true ↦ every test as' | false ↦ false ]

-- Nothing begins with both.
abbrev pub are_apart_next : {K : Type 0} → (K → K → Bool) → Option K → Option K → Bool
are_apart_next apart None None = false
are_apart_next apart None (Some l) = true
are_apart_next apart (Some k) None = true
are_apart_next apart (Some k) (Some l) = apart k l

-- What begins with the first begins with the second.
abbrev pub is_within_next : {K : Type 0} → (K → K → Bool) → Option K → Option K → Bool
is_within_next within None None = true
is_within_next within None (Some l) = false
is_within_next within (Some k) None = false
is_within_next within (Some k) (Some l) = within k l

-- Nothing begins as both lists allow.
abbrev pub exclude : {K R : Type 0} → Tables K R → Ahead K → Ahead K → Bool
exclude t ks ls = every (λ k. every (λ l. are_apart_next t.are_apart k l) ls) ks

-- What begins as the first list allows begins as the second allows.
abbrev pub is_part : {K R : Type 0} → Tables K R → Ahead K → Ahead K → Bool
is_part t ks ls = every (λ k. list_any (λ l. is_within_next t.is_within k l) ls) ks

-- The list if the test holds, else nothing.
abbrev pub when : {A : Type 0} → Bool → List A → List A
when true as' = as'
when false as' = []

-- The symbols may read no token at all.
abbrev pub may_be_none : {K R : Type 0} → Tables K R → List (Symbol K R) → Bool
may_be_none t [] = true
may_be_none t (one k ∷ symbols) = false
may_be_none t (rule r ∷ symbols) = t.may_be_empty r && may_be_none t symbols

-- What may stand next where the symbols begin, with what may stand after them.
abbrev pub starts : {K R : Type 0} → Tables K R → List (Symbol K R) → Ahead K → Ahead K
starts t [] after = after
starts t (one k ∷ symbols) after = Some k ∷ []
starts t (rule r ∷ symbols) after = t.begins r ++ when (t.may_be_empty r) (starts t symbols after)

-- What stands behind a token of a class is what is said of the class.
abbrev pub is_behind : {K R : Type 0} → Tables K R → Ahead K → Option (Ahead K) → Bool
is_behind t next None = true
is_behind t next (Some said) = is_part t next said

-- Behind each of the symbols stands only what may follow it.
abbrev pub is_followed : {K R : Type 0} → Tables K R → List (Symbol K R) → Ahead K → Bool
is_followed t [] after = true
is_followed t (one k ∷ symbols) after =
    is_behind t (starts t symbols after) (t.behind k) && is_followed t symbols after
is_followed t (rule r ∷ symbols) after =
    is_part t (starts t symbols after) (t.follows r) && is_followed t symbols after

module _ {K R A T : Type 0} (g : Grammar K R A T) where
  -- The tokens begin with one of the class, or are at their end where None asks for it.
  abbrev pub Meets : Option K → List T → Type 0
  Meets None [] = Unit
  Meets None (token ∷ tokens) = ⊥
  Meets (Some k) [] = ⊥
  Meets (Some k) (token ∷ tokens) = IsTrue (g.is_of k token)

  -- The tokens begin as the list allows.
  abbrev pub Begins : Ahead K → List T → Type 0
  Begins [] tokens = ⊥
  Begins (k ∷ ks) tokens = Meets k tokens ⊎ Begins ks tokens

module _ {K R A T : Type 0} (g : Grammar K R A T) (t : Tables K R) where
  -- The tokens are as is said of what stands behind a class.
  abbrev pub StandsBehind : Option (Ahead K) → List T → Type 0
  StandsBehind None tokens = Unit
  StandsBehind (Some said) tokens = Begins g said tokens

  -- The tokens begin with one of the class and what stands behind it, or are at their end.
  abbrev pub MeetsWhole : Option K → List T → Type 0
  MeetsWhole None [] = Unit
  MeetsWhole None (token ∷ tokens) = ⊥
  MeetsWhole (Some k) [] = ⊥
  MeetsWhole (Some k) (token ∷ tokens) =
      IsTrue (g.is_of k token) × StandsBehind (t.behind k) tokens

  -- The tokens begin as the list allows, with what stands behind the class.
  abbrev pub BeginsWhole : Ahead K → List T → Type 0
  BeginsWhole [] tokens = ⊥
  BeginsWhole (k ∷ ks) tokens = MeetsWhole k tokens ⊎ BeginsWhole ks tokens

  -- The tables say of an alternative of a rule no less than holds of it.
  abbrev pub is_covered : R → A → Bool
  is_covered r a =
      is_part t (starts t (g.symbols a) []) (t.begins r)
      && ((not (may_be_none t (g.symbols a)) || t.may_be_empty r) && is_followed t (g.symbols a)
      (t.follows r))

  -- The tables say no less than holds of the grammar.
  pub record Covers : Type 0 where
    pub apart_classes : (k l : K) (token : T) (tokens : List T) → IsTrue (t.are_apart k l)
        → MeetsWhole (Some k) (token ∷ tokens)
        → MeetsWhole (Some l) (token ∷ tokens) → ⊥
    pub inner_classes : (k l : K) (token : T) (tokens : List T) → IsTrue (t.is_within k l)
        → MeetsWhole (Some k) (token ∷ tokens) → MeetsWhole (Some l) (token ∷ tokens)
    pub each_alternative : (r : R) → IsTrue (every (λ a. is_covered r a) (g.alternatives r))
