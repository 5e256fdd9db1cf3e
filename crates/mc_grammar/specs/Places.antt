-- Places inside the alternatives of a rule, where some of their symbols are read and some are left:
-- the items of Aho, Lam, Sethi and Ullman, Compilers, 4.6.2.
use Rattle.std.specs.Prelude.{◌≡◌, ◌⊎◌, ◌&&◌, not, ℕ, Bool, true, false, IsTrue}
use Rattle.std.specs.Prelude.{List, [], ◌∷◌, ◌++◌, Option, Some, None, map}
use Rattle.mc_grammar.specs.Grammar.{Symbol, one, rule}
use Rattle.mc_grammar.specs.Reading.{IsOneOf}
use Rattle.std.specs.List.{list_any}
use Rattle.mc_grammar.specs.Ahead.{Ahead, every, is_part, starts, is_followed, MeetsWhole}
use Rattle.mc_grammar.specs.Language.{Language, Reads, Means}
use Rattle.mc_grammar.specs.Descent.{Allows, Alike, Leads, Stuck, Deep}

-- A place: an alternative, and which of its symbols are left.
pub record Place (K R A : Type 0) : Type 0 where
  pub alternative : A
  pub left : List (Symbol K R)

-- The places behind the next symbol of each.
abbrev pub behind_next : {K R A : Type 0} → List (Place K R A) → List (Place K R A)
behind_next [] = []
behind_next (p ∷ ps) = elim p.left [
  | [] ↦ behind_next ps
  | symbol ∷ left ↦ record { alternative = p.alternative; left = left } ∷ behind_next ps
]

-- The places with one more symbol before each.
abbrev pub before : {K R A : Type 0} → Symbol K R → List (Place K R A) → List (Place K R A)
before symbol [] = []
before symbol (p ∷ ps) =
    record { alternative = p.alternative; left = symbol ∷ p.left } ∷ before symbol ps

module _ {K R A S T V : Type 0} (l : Language K R A S T V) where
  -- The places at which alternatives begin.
  abbrev pub entries : List A → List (Place K R A)
  entries [] = []
  entries (a ∷ as') = record { alternative = a; left = l.grammar.symbols a } ∷ entries as'

  -- Where the symbols stand, the second FOLLOW says no less than the first.
  abbrev pub passes : Ahead K → List (Symbol K R) → Ahead K → Bool
  passes after symbols after' =
      is_followed l.tables symbols after && is_part l.tables (starts l.tables symbols after) after'

  -- At each of the places the second FOLLOW says no less than the first.
  abbrev pub all_pass : Ahead K → List (Place K R A) → Ahead K → Bool
  all_pass after places after' = every (λ p. passes after p.left after') places

  -- The symbols begin with nothing that the test lets through.
  abbrev pub is_out : (Option K → Bool) → Ahead K → List (Symbol K R) → Bool
  is_out may after symbols =
      is_followed l.tables symbols after && not (list_any may (starts l.tables symbols after))

  -- None of the places is one that the test lets through.
  abbrev pub all_out : (Option K → Bool) → Ahead K → List (Place K R A) → Bool
  all_out may after places = every (λ p. is_out may after p.left) places

  -- The places that the test lets through.
  abbrev pub kept : (Option K → Bool) → Ahead K → List (Place K R A) → List (Place K R A)
  kept may after [] = []
  kept may after (p ∷ ps) =
      elim (is_out may after p.left) [
        | true ↦ kept may after ps
        | false ↦ p ∷ kept may after ps
      ]

  -- The next symbol is a class of the marked token.
  abbrev pub is_next : T → List (Symbol K R) → Bool
  is_next token [] = false
  is_next token (one k ∷ symbols) = l.grammar.is_of k token
  is_next token (rule r ∷ symbols) = false

  -- The next symbol is a class of the free token and not of the bound one.
  abbrev pub is_barred : S → List (Symbol K R) → Bool
  is_barred token [] = false
  is_barred token (one k ∷ symbols) =
      l.grammar.is_of k (l.free token) && not (l.grammar.is_of k (l.bound token))
  is_barred token (rule r ∷ symbols) = false

  -- The tokens begin with one of the class, or are at their end where None asks for it.
  abbrev pub is_met : Option K → List S → Bool
  is_met None [] = true
  is_met None (token ∷ tokens) = false
  is_met (Some k) [] = false
  is_met (Some k) (token ∷ tokens) = l.grammar.is_of k (l.free token)

  -- The tokens are as is said of what stands behind a class.
  abbrev pub stands_behind : Option (Ahead K) → List S → Bool
  stands_behind None tokens = true
  stands_behind (Some said) tokens = list_any (λ k. is_met k tokens) said

  -- The tokens begin with one of the class and what stands behind it, or are at their end.
  abbrev pub is_met_whole : Option K → List S → Bool
  is_met_whole None [] = true
  is_met_whole None (token ∷ tokens) = false
  is_met_whole (Some k) [] = false
  is_met_whole (Some k) (token ∷ tokens) =
      l.grammar.is_of k (l.free token) && stands_behind (l.tables.behind k) tokens

  -- What the test lets through is all that tokens begin with which are alike in the first `look`.
  pub record Sees (look : ℕ) (tokens : List S) (may : Option K → Bool) : Type 0 where
    pub sees : (w : List T) → Alike l look w tokens
        → (k : Option K) → MeetsWhole l.grammar l.tables k w → IsTrue (may k)

  -- One of the places reads the tokens, with what is read later.
  abbrev pub ReadsOne : List (Place K R A) → List (Symbol K R) → List T → Type 0
  ReadsOne [] later w = ⊥
  ReadsOne (p ∷ ps) later w = Reads l (p.left ++ later) w ⊎ ReadsOne ps later w

  -- The place is in an alternative of the rule, and the symbols before it read the tokens, with
  -- these values.
  pub record IsReached (r : R) (front : List S) (values : List V) (p : Place K R A) : Type 0 where
    pub is_alternative : IsOneOf p.alternative (l.grammar.alternatives r)
    pub done : List (Symbol K R)
    pub split : l.grammar.symbols p.alternative ≡ done ++ p.left
    pub means : Means l done front values

  abbrev pub EachReached : R → List S → List V → List (Place K R A) → Type 0
  EachReached r front values [] = Unit
  EachReached r front values (p ∷ ps) =
      IsReached r front values p × EachReached r front values ps

  -- Inside a rule, whose first tokens are read, with these values: who reads on reads on from one
  -- of the places, where the first `look` of the rest were looked at.
  pub record Inside (after : Ahead K) (look : ℕ) (r : R) (places : List (Place K R A))
      (values : List V) (tokens front rest : List S) : Type 0 where
    pub split : tokens ≡ front ++ rest
    pub reached : EachReached r front values places
    pub takes : (later : List (Symbol K R)) (w : List T) → Allows l after later
        → Alike l look w rest → Reads l (rule r ∷ later) (map l.free front ++ w)
        → ReadsOne places later w

  -- The rule has read the tokens up to the rest, with this value.
  pub record Done (after : Ahead K) (look : ℕ) (r : R) (tokens rest : List S)
      (value : V) : Type 0 where
    pub front : List S
    pub split : tokens ≡ front ++ rest
    pub leads : Leads l after look (rule r ∷ []) [] front rest
    pub means : Means l (rule r ∷ []) front (value ∷ [])

  -- The rule can read the tokens up to the rest, and no further.
  pub record Fails (after : Ahead K) (r : R) (tokens rest : List S) : Type 0 where
    pub front : List S
    pub split : tokens ≡ front ++ rest
    pub stuck : Stuck l after (rule r ∷ []) front rest

  -- The rule can read the tokens up to the rest, and the next one only where that is free.
  pub record IsTooDeep (after : Ahead K) (r : R) (tokens rest : List S) : Type 0 where
    pub front : List S
    pub token : S
    pub behind : List S
    pub split : tokens ≡ front ++ rest
    pub next : rest ≡ token ∷ behind
    pub deep : Deep l after (rule r ∷ []) front token
