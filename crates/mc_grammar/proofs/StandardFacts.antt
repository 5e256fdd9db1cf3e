-- A grammar of sums, `sum := atom {+ atom}` and `atom := digit | ( sum )`, and each way through the
-- functions that would read it.
use Rattle.std.proofs.Common.{inl, ℕ, suc, Bool, true, false, not, List, [], ◌∷◌, ◌++◌, refl}
use Rattle.std.proofs.Common.{IsTrue, Some, None, nat_eq, arith}
use Rattle.std.proofs.lemmas.Bool.Decides.{nat_tests}
use Rattle.mc_grammar.specs.Grammar.{Grammar, Symbol, one, rule}
use Rattle.mc_grammar.specs.Reading.{Forest, bare, leaf, node, IsReading}
use Rattle.mc_grammar.specs.Ahead.{Ahead, Tables, every, is_covered, Covers}
use Rattle.mc_grammar.specs.Language.{Language, IsSound}
use Rattle.mc_grammar.specs.Places.{Done, Fails, IsTooDeep}
use Rattle.mc_grammar.specs.Completions.{Completions, Complete}
use Rattle.mc_grammar.specs.Chains.{Chain}
use Rattle.mc_grammar.specs.Nest.{Marked}
use Rattle.mc_grammar.specs.Room.{Roomed, Admitted, admitted, room_language, free_completions}
use Rattle.mc_grammar.proofs.Rooms.{free_completed}
use Rattle.mc_grammar.proofs.RoomTables.{room_sound}
use Rattle.mc_grammar.proofs.Seeing.{sees_next}
use Rattle.mc_grammar.proofs.Inside.{enter}
use Rattle.mc_grammar.proofs.Ways.{choose, take_token, read_rule, finish, one_link, last_link}
use Rattle.mc_grammar.proofs.Ways.{no_place, rule_fails, no_room}

data Token : Type 0 where
  digit plus opening closing : Token

data Rule : Type 0 where
  sum more atom : Rule

data Alternative : Type 0 where
  sums none another a_digit in_parentheses : Alternative

data Value : Type 0 where
  nothing : Value
  number : ℕ → Value
  numbers : List ℕ → Value

abbrev place_of : Token → ℕ
place_of digit = 0
place_of plus = 1
place_of opening = 2
place_of closing = 3

abbrev same : Token → Token → Bool
same x y = nat_eq (place_of x) (place_of y)

abbrev alternatives : Rule → List Alternative
alternatives sum = sums ∷ []
alternatives more = none ∷ another ∷ []
alternatives atom = a_digit ∷ in_parentheses ∷ []

abbrev symbols : Alternative → List (Symbol Token Rule)
symbols sums = rule atom ∷ rule more ∷ []
symbols none = []
symbols another = one plus ∷ rule atom ∷ rule more ∷ []
symbols a_digit = one digit ∷ []
symbols in_parentheses = one opening ∷ rule sum ∷ one closing ∷ []

abbrev grammar : Grammar Token Rule Alternative Token
grammar = record { alternatives = alternatives; symbols = symbols; is_of = same }

abbrev deeper : Alternative → List Bool
deeper in_parentheses = true ∷ true ∷ []
deeper _ = []

abbrev may_be_empty : Rule → Bool
may_be_empty more = true
may_be_empty _ = false

abbrev begins : Rule → Ahead Token
begins more = Some plus ∷ []
begins _ = Some digit ∷ Some opening ∷ []

abbrev follows : Rule → Ahead Token
follows atom = Some plus ∷ Some closing ∷ None ∷ []
follows _ = Some closing ∷ None ∷ []

abbrev tables : Tables Token Rule
tables = record {
  may_be_empty = may_be_empty;
  begins = begins;
  follows = follows;
  behind = λ k. None;
  are_apart = λ k l. not (same k l);
  is_within = same;
  are_same = λ r q. false;
}

apart : (a b c : ℕ) → IsTrue (not (nat_eq a b)) → IsTrue (nat_eq a c) → IsTrue (nat_eq b c) → ⊥
apart a b c h p q = grind (arith, nat_tests)

within : (a b c : ℕ) → IsTrue (nat_eq a b) → IsTrue (nat_eq a c) → IsTrue (nat_eq b c)
within a b c h p = grind (arith, nat_tests)

each_covered : (r : Rule) → IsTrue (every (λ a. is_covered grammar tables r a) (alternatives r))
each_covered sum = refl
each_covered more = refl
each_covered atom = refl

covers : Covers grammar tables
covers = record {
  apart_classes = λ k l x w h m n. apart (place_of k) (place_of l) (place_of x) h m.0 n.0;
  inner_classes = λ k l x w h m. (within (place_of k) (place_of l) (place_of x) h m.0, tt);
  each_alternative = each_covered;
}

abbrev node_value : Alternative → List Token → List Value → Value
node_value sums tokens (number n ∷ numbers ns ∷ []) = numbers (n ∷ ns)
node_value none tokens [] = numbers []
node_value another tokens (_ ∷ number n ∷ numbers ns ∷ []) = numbers (n ∷ ns)
node_value a_digit tokens (_ ∷ []) = number 1
node_value in_parentheses tokens (_ ∷ numbers ns ∷ _ ∷ []) = number 2
node_value _ tokens _ = nothing

abbrev toy : Language (Admitted Token) (Roomed Rule) (Roomed Alternative) Token (Marked Token) Value
toy = room_language grammar tables deeper (λ token. nothing) node_value

sound : IsSound toy
sound = room_sound grammar tables deeper (λ token. nothing) node_value covers

abbrev tokens_of_rule : Rule → List Token
tokens_of_rule more = []
tokens_of_rule _ = digit ∷ []

abbrev completions : Completions Token Rule Token
completions = record { token_of = λ k. k; tokens_of_rule = tokens_of_rule }

reading : Rule → Forest Alternative Token
reading sum = node sums (node a_digit (leaf digit bare) (node none bare bare)) bare
reading more = node none bare bare
reading atom = node a_digit (leaf digit bare) bare

reads : (r : Rule) → IsReading grammar r (tokens_of_rule r) (reading r)
unfolding reading
reads sum = record {
  fits = (inl refl, (inl refl, (refl, tt), (inl refl, tt, tt)), tt);
  same_tokens = refl;
}
reads more = record { fits = (inl refl, tt, tt); same_tokens = refl }
reads atom = record { fits = (inl refl, (refl, tt), tt); same_tokens = refl }

itself : (n : ℕ) → IsTrue (nat_eq n n)
itself n = grind (arith, nat_tests)

complete : Complete toy (free_completions completions)
complete = free_completed grammar tables deeper (λ token. nothing) node_value completions
    (λ k. itself (place_of k)) reading reads

abbrev at : ℕ → Rule → Roomed Rule
at n r = record { what = r; room = n }

abbrev behind_atom : Ahead (Admitted Token)
behind_atom = admitted (follows atom)

abbrev behind_sum : Ahead (Admitted Token)
behind_sum = admitted (follows sum)

-- atom: a digit.
digit_read : (n : ℕ) (v : List Token)
    → Done toy behind_atom 0 (at (suc n) atom) (digit ∷ v) v (number 1)
digit_read n v =
    finish toy sound (take_token toy sound
    (choose toy sound (sees_next toy sound (digit ∷ v))) refl)

-- atom: a sum in parentheses.
parentheses_read : (n : ℕ) (v w : List Token) (ns : List ℕ)
    → Done toy behind_sum 1 (at (suc n) sum) v (closing ∷ w) (numbers ns)
    → Done toy behind_atom 0 (at (suc (suc n)) atom) (opening ∷ v) w (number 2)
parentheses_read n v w ns o =
    finish toy sound (take_token toy sound (read_rule toy sound (take_token toy sound
    (choose toy sound (sees_next toy sound (opening ∷ v))) refl) o refl refl (omega arith)) refl)

-- atom: neither.
atom_missing : (n : ℕ) (v : List Token)
    → Fails toy behind_atom (at (suc n) atom) (plus ∷ v) (plus ∷ v)
atom_missing n v =
    no_place toy sound (free_completions completions) complete (enter toy _ _ _)
    (sees_next toy sound (plus ∷ v)) refl (omega arith)

-- atom: no parenthesis closes.
closing_missing : (n : ℕ) (v w : List Token) (ns : List ℕ)
    → Done toy behind_sum 1 (at (suc n) sum) v (digit ∷ w) (numbers ns)
    → Fails toy behind_atom (at (suc (suc n)) atom) (opening ∷ v) (digit ∷ w)
closing_missing n v w ns o =
    no_place toy sound (free_completions completions) complete
    (read_rule toy sound (take_token toy sound
    (choose toy sound (sees_next toy sound (opening ∷ v))) refl) o refl refl (omega arith))
    (sees_next toy sound (digit ∷ w)) refl (omega arith)

-- atom: the sum fails.
sum_fails : (n : ℕ) (v w : List Token) → Fails toy behind_sum (at (suc n) sum) v w
    → Fails toy behind_atom (at (suc (suc n)) atom) (opening ∷ v) w
sum_fails n v w o =
    rule_fails toy sound (free_completions completions) complete (take_token toy sound
    (choose toy sound (sees_next toy sound (opening ∷ v))) refl) o refl refl (omega arith)

-- atom: there is no level for a parenthesis.
parenthesis_too_deep : (v : List Token)
    → IsTooDeep toy behind_atom (at 1 atom) (opening ∷ v) (opening ∷ v)
parenthesis_too_deep v =
    no_room toy sound (free_completions completions) complete
    (choose toy sound (sees_next toy sound (opening ∷ v))) refl (omega arith)

-- The loop of sum: one more atom.
atom_read : (n k : ℕ) (ns : List ℕ) (tokens front v w : List Token)
    → Chain toy behind_sum 1 (at (suc n) more) numbers ns tokens front (plus ∷ v)
    → (o : Done toy behind_atom 1 (at (suc n) atom) v w (number k))
    → Chain toy behind_sum 1 (at (suc n) more) numbers (ns ++ (k ∷ [])) tokens
    (front ++ (plus ∷ o.front)) w
atom_read n k ns tokens front v w p o =
    one_link toy sound k p (read_rule toy sound (take_token toy sound
    (choose toy sound (sees_next toy sound (plus ∷ v))) refl) o refl refl (omega arith))
    (λ later others. refl) (omega arith)

-- The loop of sum: no more.
sum_ends : (n : ℕ) (ns : List ℕ) (tokens front v : List Token)
    → Chain toy behind_sum 1 (at (suc n) more) numbers ns tokens front (closing ∷ v)
    → Done toy behind_sum 1 (at (suc n) more) tokens (closing ∷ v) (numbers ns)
sum_ends n ns tokens front v p =
    last_link toy sound p (choose toy sound (sees_next toy sound (closing ∷ v))) refl (omega arith)
