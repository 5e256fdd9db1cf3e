-- A grammar with room: how deep its tokens may stand. A rule is paired with how many levels there
-- are for its tokens, their own included; a bound token needs a level, a free one does not.
use Rattle.std.specs.Prelude.{ℕ, zero, suc, Bool, true, false, ◌&&◌, List, [], ◌∷◌, map}
use Rattle.std.specs.Option.{option_map}
use Rattle.mc_grammar.specs.Grammar.{Grammar, Symbol, one, rule}
use Rattle.mc_grammar.specs.Ahead.{Ahead, Tables}
use Rattle.mc_grammar.specs.Language.{Language}
use Rattle.mc_grammar.specs.Completions.{Completions}
use Rattle.mc_grammar.specs.Nest.{Marked, bound, free, unmarked, first_mark, other_marks}

-- A rule or an alternative, and how many levels there are for its tokens.
pub record Roomed (X : Type 0) : Type 0 where
  pub what : X
  pub room : ℕ

-- A class, and whether there is a level for a token of it.
pub record Admitted (K : Type 0) : Type 0 where
  pub class : K
  pub has_room : Bool

-- There is a level.
abbrev pub any_room : ℕ → Bool
any_room zero = false
any_room (suc room) = true

-- The levels that are left one level deeper, and there or at the same level.
abbrev pub inner_room : ℕ → ℕ
inner_room zero = zero
inner_room (suc room) = room

abbrev pub room_at : Bool → ℕ → ℕ
room_at false room = room
room_at true room = inner_room room

-- Symbols with room; the marks say which of the first of them stand one level deeper.
abbrev pub with_room : {K R : Type 0} → ℕ → List Bool → List (Symbol K R)
    → List (Symbol (Admitted K) (Roomed R))
with_room room deeper [] = []
with_room room deeper (one k ∷ symbols) =
    one (record { class = k; has_room = any_room (room_at (first_mark deeper) room) })
    ∷ with_room room (other_marks deeper) symbols
with_room room deeper (rule r ∷ symbols) =
    rule (record { what = r; room = room_at (first_mark deeper) room })
    ∷ with_room room (other_marks deeper) symbols

-- What may stand next, with a level for it.
abbrev pub admitted : {K : Type 0} → Ahead K → Ahead (Admitted K)
admitted after = map (λ k. option_map (λ c. record { class = c; has_room = true }) k) after

module _ {K R A T : Type 0} (g : Grammar K R A T) (t : Tables K R) (deeper : A → List Bool) where
  -- The token is of the class, and if it is bound there is a level for it.
  abbrev pub is_admitted : Admitted K → Marked T → Bool
  is_admitted k (bound token) = k.has_room && g.is_of k.class token
  is_admitted k (free token) = g.is_of k.class token

  -- The grammar with room, and its tables.
  abbrev pub room_grammar : Grammar (Admitted K) (Roomed R) (Roomed A) (Marked T)
  room_grammar = record {
    alternatives = λ r. map (λ a. record { what = a; room = r.room }) (g.alternatives r.what);
    symbols = λ a. with_room a.room (deeper a.what) (g.symbols a.what);
    is_of = is_admitted;
  }

  abbrev pub room_tables : Tables (Admitted K) (Roomed R)
  room_tables = record {
    may_be_empty = λ r. t.may_be_empty r.what;
    begins = λ r. admitted (t.begins r.what);
    follows = λ r. admitted (t.follows r.what);
    behind = λ k. option_map (λ said. admitted said) (t.behind k.class);
    are_apart = λ k l. t.are_apart k.class l.class;
    is_within = λ k l. l.has_room && t.is_within k.class l.class;
    are_same = λ r q. false;
  }

-- The language with room, where tokens and nodes have these values.
abbrev pub room_language : {K R A T V : Type 0} → Grammar K R A T → Tables K R
    → (A → List Bool) → (T → V) → (A → List T → List V → V)
    → Language (Admitted K) (Roomed R) (Roomed A) T (Marked T) V
room_language g t deeper token_value node_value = record {
  grammar = room_grammar g t deeper;
  tables = room_tables g t deeper;
  bound = λ token. bound token;
  free = λ token. free token;
  plain = λ token. unmarked token;
  token_value = token_value;
  node_value = λ a tokens values. node_value a.what tokens values;
}

-- A rule with all the levels that a limit leaves at the top.
abbrev pub whole_rule : {R : Type 0} → ℕ → R → Roomed R
whole_rule limit r = record { what = r; room = suc limit }

-- Completions as free tokens.
abbrev pub free_completions : {K R T : Type 0} → Completions K R T
    → Completions (Admitted K) (Roomed R) (Marked T)
free_completions c = record {
  token_of = λ k. free (c.token_of k.class);
  tokens_of_rule = λ r. map (λ token. free token) (c.tokens_of_rule r.what);
}
