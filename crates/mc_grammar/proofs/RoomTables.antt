-- The tables of a grammar with room are right where those of the grammar are.
use Rattle.std.proofs.Common.{◌≡◌, inl, inr, ℕ, Bool, true, false, not, ◌&&◌, ◌||◌, List, [], ◌∷◌}
use Rattle.std.proofs.Common.{◌++◌, refl, sym, ap, ◌∙◌, map, IsTrue, subst, Option, Some, None}
use Rattle.std.specs.Option.{option_map}
use Rattle.mc_grammar.specs.Grammar.{Grammar, Symbol, one, rule}
use Rattle.std.specs.List.{list_any}
use Rattle.mc_grammar.specs.Ahead.{Ahead, Tables, Meets, Begins, StandsBehind, MeetsWhole, every}
use Rattle.mc_grammar.specs.Ahead.{is_within_next, is_part, when, may_be_none, starts, is_behind}
use Rattle.mc_grammar.specs.Ahead.{is_followed, is_covered, Covers}
use Rattle.mc_grammar.specs.Language.{IsSound}
use Rattle.mc_grammar.specs.Nest.{Marked, bound, free, unmarked, other_marks}
use Rattle.mc_grammar.specs.Room.{Admitted, with_room, admitted, is_admitted, room_grammar}
use Rattle.mc_grammar.specs.Room.{room_tables, room_language}
use Rattle.mc_grammar.proofs.Ahead.{both}
use Rattle.mc_grammar.proofs.Rooms.{admitted_class}

-- What may stand next, whether there is a level for it or not.
abbrev unadmitted : {K : Type 0} → Ahead (Admitted K) → Ahead K
unadmitted after = map (λ k. option_map (λ c. c.class) k) after

unadmitted_append : {K : Type 0} (ks ls : Ahead (Admitted K))
    → unadmitted (ks ++ ls) ≡ unadmitted ks ++ unadmitted ls
unadmitted_append [] ls = refl
unadmitted_append (k ∷ ks) ls =
    ap (λ (x : Ahead _). option_map (λ c. c.class) k ∷ x) (unadmitted_append ks ls)

unadmitted_admitted : {K : Type 0} (ks : Ahead K) → unadmitted (admitted ks) ≡ ks
unadmitted_admitted [] = refl
unadmitted_admitted (None ∷ ks) = ap (λ (x : Ahead _). None ∷ x) (unadmitted_admitted ks)
unadmitted_admitted (Some k ∷ ks) = ap (λ (x : Ahead _). Some k ∷ x) (unadmitted_admitted ks)

unadmitted_when : {K : Type 0} (b : Bool) (ks : Ahead (Admitted K))
    → unadmitted (when b ks) ≡ when b (unadmitted ks)
unadmitted_when true ks = refl
unadmitted_when false ks = refl

module _ {K R A T : Type 0} (g : Grammar K R A T) (t : Tables K R) (deeper : A → List Bool) where
  any_same : (k : Option (Admitted K)) (ls : Ahead K)
      → list_any (λ l. is_within_next (room_tables g t deeper).is_within k l) (admitted ls)
      ≡ list_any (λ l. is_within_next t.is_within (option_map (λ c. c.class) k) l) ls
  any_same k [] = refl
  any_same None (None ∷ ls) = refl
  any_same None (Some l ∷ ls) = any_same None ls
  any_same (Some k) (None ∷ ls) = any_same (Some k) ls
  any_same (Some k) (Some l ∷ ls) =
      ap (λ (x : Bool). t.is_within k.class l || x)
      (any_same (Some k) ls)

  part_same : (ks : Ahead (Admitted K)) (ls : Ahead K)
      → is_part (room_tables g t deeper) ks (admitted ls) ≡ is_part t (unadmitted ks) ls
  part_same [] ls = refl
  part_same (k ∷ ks) ls =
      ap (λ (x : Bool). elim x
      [ true ↦ is_part (room_tables g t deeper) ks (admitted ls) | false ↦ false ])
      (any_same k ls)
      ∙ ap (λ (x : Bool). elim
      (list_any (λ l. is_within_next t.is_within (option_map (λ c. c.class) k) l) ls)
      [ true ↦ x | false ↦ false ]) (part_same ks ls)

  starts_same : (ss : List (Symbol K R)) (room : ℕ) (marks : List Bool)
      (after : Ahead (Admitted K))
      → unadmitted (starts (room_tables g t deeper) (with_room room marks ss) after)
      ≡ starts t ss (unadmitted after)
  starts_same [] room marks after = refl
  starts_same (one k ∷ ss) room marks after = refl
  starts_same (rule r ∷ ss) room marks after =
      unadmitted_append (admitted (t.begins r)) (when (t.may_be_empty r)
      (starts (room_tables g t deeper) (with_room room (other_marks marks) ss) after))
      ∙ ap (λ (x : Ahead K). x ++ unadmitted (when (t.may_be_empty r)
      (starts (room_tables g t deeper) (with_room room (other_marks marks) ss) after)))
      (unadmitted_admitted (t.begins r))
      ∙ ap (λ (x : Ahead K). t.begins r ++ x)
      (unadmitted_when (t.may_be_empty r)
      (starts (room_tables g t deeper) (with_room room (other_marks marks) ss) after)
      ∙ ap (λ (x : Ahead K). when (t.may_be_empty r) x)
      (starts_same ss room (other_marks marks) after))

  none_same : (ss : List (Symbol K R)) (room : ℕ) (marks : List Bool)
      → may_be_none (room_tables g t deeper) (with_room room marks ss) ≡ may_be_none t ss
  none_same [] room marks = refl
  none_same (one k ∷ ss) room marks = refl
  none_same (rule r ∷ ss) room marks =
      ap (λ (x : Bool). t.may_be_empty r && x) (none_same ss room (other_marks marks))

  behind_same : (next : Ahead (Admitted K)) (said : Option (Ahead K))
      → is_behind (room_tables g t deeper) next (option_map (λ x. admitted x) said)
      ≡ is_behind t (unadmitted next) said
  behind_same next None = refl
  behind_same next (Some said) = part_same next said

  followed_same : (ss : List (Symbol K R)) (room : ℕ) (marks : List Bool)
      (after : Ahead (Admitted K))
      → is_followed (room_tables g t deeper) (with_room room marks ss) after
      ≡ is_followed t ss (unadmitted after)
  followed_same [] room marks after = refl
  followed_same (one k ∷ ss) room marks after =
      ap (λ (x : Bool). x
      && is_followed (room_tables g t deeper) (with_room room (other_marks marks) ss) after)
      (behind_same (starts (room_tables g t deeper) (with_room room (other_marks marks) ss) after)
      (t.behind k)
      ∙ ap (λ (x : Ahead K). is_behind t x (t.behind k))
      (starts_same ss room (other_marks marks) after))
      ∙ ap (λ (x : Bool). is_behind t (starts t ss (unadmitted after)) (t.behind k) && x)
      (followed_same ss room (other_marks marks) after)
  followed_same (rule r ∷ ss) room marks after =
      ap (λ (x : Bool). x
      && is_followed (room_tables g t deeper) (with_room room (other_marks marks) ss) after)
      (part_same (starts (room_tables g t deeper) (with_room room (other_marks marks) ss) after)
      (t.follows r)
      ∙ ap (λ (x : Ahead K). is_part t x (t.follows r))
      (starts_same ss room (other_marks marks) after))
      ∙ ap (λ (x : Bool). is_part t (starts t ss (unadmitted after)) (t.follows r) && x)
      (followed_same ss room (other_marks marks) after)

  covered_same : (r : R) (room : ℕ) (a : A)
      → is_covered (room_grammar g t deeper) (room_tables g t deeper)
      (record { what = r; room = room }) (record { what = a; room = room }) ≡ is_covered g t r a
  covered_same r room a =
      ap (λ (x : Bool). x
      && ((not (may_be_none (room_tables g t deeper) (with_room room (deeper a) (g.symbols a)))
      || t.may_be_empty r) && is_followed (room_tables g t deeper)
      (with_room room (deeper a) (g.symbols a)) (admitted (t.follows r))))
      (part_same (starts (room_tables g t deeper) (with_room room (deeper a) (g.symbols a)) [])
      (t.begins r)
      ∙ ap (λ (x : Ahead K). is_part t x (t.begins r))
      (starts_same (g.symbols a) room (deeper a) []))
      ∙ ap (λ (x : Bool). is_part t (starts t (g.symbols a) []) (t.begins r)
      && ((not x || t.may_be_empty r) && is_followed (room_tables g t deeper)
      (with_room room (deeper a) (g.symbols a)) (admitted (t.follows r))))
      (none_same (g.symbols a) room (deeper a))
      ∙ ap (λ (x : Bool). is_part t (starts t (g.symbols a) []) (t.begins r)
      && ((not (may_be_none t (g.symbols a)) || t.may_be_empty r) && x))
      (followed_same (g.symbols a) room (deeper a) (admitted (t.follows r))
      ∙ ap (λ (x : Ahead K). is_followed t (g.symbols a) x) (unadmitted_admitted (t.follows r)))

  every_same : (r : R) (room : ℕ) (as' : List A)
      → every (λ a. is_covered (room_grammar g t deeper) (room_tables g t deeper)
      (record { what = r; room = room }) a) (map (λ (x : A). record { what = x; room = room }) as')
      ≡ every (λ a. is_covered g t r a) as'
  every_same r room [] = refl
  every_same r room (a ∷ as') =
      ap (λ (x : Bool). elim x [
        | true ↦ every (λ b. is_covered (room_grammar g t deeper) (room_tables g t deeper)
            (record { what = r; room = room }) b)
            (map (λ (x : A). record { what = x; room = room }) as')
        | false ↦ false
      ]) (covered_same r room a)
      ∙ ap (λ (x : Bool). elim (is_covered g t r a) [ true ↦ x | false ↦ false ])
      (every_same r room as')

  plain_meets : (k : Option K) (w : List (Marked T))
      → Meets (room_grammar g t deeper)
      (option_map (λ c. record { class = c; has_room = true }) k) w
      → Meets g k (map (λ x. unmarked x) w)
  plain_meets None [] m = m
  plain_meets None (x ∷ w) m = m
  plain_meets (Some k) [] m = m
  plain_meets (Some k) (x ∷ w) m =
      admitted_class g t deeper (record { class = k; has_room = true }) x m

  plain_begins : (ks : Ahead K) (w : List (Marked T))
      → Begins (room_grammar g t deeper) (admitted ks) w → Begins g ks (map (λ x. unmarked x) w)
  plain_begins [] w b = b
  plain_begins (k ∷ ks) w (inl m) = inl (plain_meets k w m)
  plain_begins (k ∷ ks) w (inr c) = inr (plain_begins ks w c)

  plain_behind : (said : Option (Ahead K)) (w : List (Marked T))
      → StandsBehind (room_grammar g t deeper) (room_tables g t deeper)
      (option_map (λ x. admitted x) said) w → StandsBehind g t said (map (λ x. unmarked x) w)
  plain_behind None w b = b
  plain_behind (Some said) w b = plain_begins said w b

  class_admitted : (k : Admitted K) (x : Marked T) → IsTrue k.has_room
      → IsTrue (g.is_of k.class (unmarked x)) → IsTrue (is_admitted g t deeper k x)
  class_admitted k (bound token) e h = both_so k.has_room (g.is_of k.class token) e h
    where
      both_so : (a b : Bool) → IsTrue a → IsTrue b → IsTrue (a && b)
      both_so true b h k = k
      both_so false b h k = absurd (cc)
  class_admitted k (free token) e h = h

  room_meets : (k : Option K) (w : List (Marked T)) → Meets g k (map (λ x. unmarked x) w)
      → Meets (room_grammar g t deeper)
      (option_map (λ c. record { class = c; has_room = true }) k) w
  room_meets None [] m = m
  room_meets None (x ∷ w) m = m
  room_meets (Some k) [] m = m
  room_meets (Some k) (x ∷ w) m = class_admitted (record { class = k; has_room = true }) x refl m

  room_begins : (ks : Ahead K) (w : List (Marked T)) → Begins g ks (map (λ x. unmarked x) w)
      → Begins (room_grammar g t deeper) (admitted ks) w
  room_begins [] w b = b
  room_begins (k ∷ ks) w (inl m) = inl (room_meets k w m)
  room_begins (k ∷ ks) w (inr c) = inr (room_begins ks w c)

  room_behind : (said : Option (Ahead K)) (w : List (Marked T))
      → StandsBehind g t said (map (λ x. unmarked x) w)
      → StandsBehind (room_grammar g t deeper) (room_tables g t deeper)
      (option_map (λ x. admitted x) said) w
  room_behind None w b = b
  room_behind (Some said) w b = room_begins said w b

  pub room_covers : Covers g t → Covers (room_grammar g t deeper) (room_tables g t deeper)
  room_covers d = record {
    apart_classes = λ k l x w h m n. d.apart_classes k.class l.class (unmarked x)
        (map (λ y. unmarked y) w) h
        (admitted_class g t deeper k x m.0, plain_behind (t.behind k.class) w m.1)
        (admitted_class g t deeper l x n.0, plain_behind (t.behind l.class) w n.1);
    inner_classes = inner;
    each_alternative = λ r. subst (λ (x : Bool). IsTrue x)
        (sym (every_same r.what r.room (g.alternatives r.what))) (d.each_alternative r.what);
  }
    where
      inner : (k l : Admitted K) (x : Marked T) (w : List (Marked T))
          → IsTrue ((room_tables g t deeper).is_within k l)
          → MeetsWhole (room_grammar g t deeper) (room_tables g t deeper) (Some k) (x ∷ w)
          → MeetsWhole (room_grammar g t deeper) (room_tables g t deeper) (Some l) (x ∷ w)
      inner k l x w h m =
          let tests : IsTrue l.has_room × IsTrue (t.is_within k.class l.class) =
          both l.has_room (t.is_within k.class l.class) h in
          let n : MeetsWhole g t (Some l.class) (unmarked x ∷ map (λ y. unmarked y) w) =
          d.inner_classes k.class l.class (unmarked x) (map (λ y. unmarked y) w) tests.1
          (admitted_class g t deeper k x m.0, plain_behind (t.behind k.class) w m.1) in
          (class_admitted l x tests.0 n.0, room_behind (t.behind l.class) w n.1)

  pub room_sound : {V : Type 0} (token_value : T → V) (node_value : A → List T → List V → V)
      → Covers g t → IsSound (room_language g t deeper token_value node_value)
  room_sound token_value node_value d = record {
    covers = room_covers d;
    plain_bound = λ x. refl;
    looser = λ k x h. (both k.has_room (g.is_of k.class x) h).1;
  }
