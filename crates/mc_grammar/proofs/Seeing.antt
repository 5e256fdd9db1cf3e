-- What looking at the next tokens tells of the classes that may be met.
use Rattle.std.proofs.Common.{◌≡◌, ◌⊎◌, inl, inr, ℕ, Bool, ◌||◌, true, false, not, List, [], ◌∷◌}
use Rattle.std.proofs.Common.{refl, IsTrue, ◌&&◌, subst, Option, Some, None}
use Rattle.std.specs.List.{list_any}
use Rattle.mc_grammar.specs.Ahead.{Ahead, Meets, Begins, StandsBehind, MeetsWhole, is_within_next}
use Rattle.mc_grammar.specs.Language.{Language, IsSound}
use Rattle.mc_grammar.specs.Descent.{Stands, Alike}
use Rattle.mc_grammar.specs.Places.{Sees, is_met, stands_behind, is_met_whole}
use Rattle.mc_grammar.proofs.Ahead.{meets_within}

refuted : (b : Bool) → (IsTrue b → ⊥) → IsTrue (not b)
refuted true h = absurd (h refl)
refuted false h = refl

not_true : (b : Bool) → IsTrue (not b) → IsTrue b → ⊥
not_true true h k = cc
not_true false h k = cc

both_true : (a b : Bool) → IsTrue a → IsTrue b → IsTrue (a && b)
both_true true b h k = k
both_true false b h k = absurd (cc)

neither : (a b : Bool) → IsTrue (not (a || b))
    → IsTrue (not a) × IsTrue (not b)
neither true b h = absurd (cc)
neither false b h = (refl, h)

is_neither : (a b : Bool) → IsTrue (not a) → IsTrue (not b)
    → IsTrue (not (a || b))
is_neither true b h k = absurd (cc)
is_neither false b h k = k

one_true : (a b : Bool) → IsTrue a ⊎ IsTrue b → IsTrue (a || b)
one_true true b h = refl
one_true false b (inl h) = absurd (cc)
one_true false b (inr h) = h

module _ {K R A S T V : Type 0} (l : Language K R A S T V) where
  of_free : (d : IsSound l) (k : K) (s : S) (x : T) → Stands l s x → IsTrue (l.grammar.is_of k x)
      → IsTrue (l.grammar.is_of k (l.free s))
  of_free d k s x (inl e) h = subst (λ (y : T). IsTrue (l.grammar.is_of k y)) e h
  of_free d k s x (inr e) h =
      d.looser k s (subst (λ (y : T). IsTrue (l.grammar.is_of k y)) e h)

  met_plain : (d : IsSound l) (k : Option K) (w : List T) (v : List S) → Alike l 1 w v
      → Meets l.grammar k w → IsTrue (is_met l k v)
  met_plain d None [] [] same m = refl
  met_plain d None [] (s ∷ v) same m = absurd same
  met_plain d None (x ∷ w) v same m = absurd m
  met_plain d (Some k) [] v same m = absurd m
  met_plain d (Some k) (x ∷ w) [] same m = absurd same
  met_plain d (Some k) (x ∷ w) (s ∷ v) same m = of_free d k s x same.0 m

  met : (d : IsSound l) (k : Option K) (w : List T) (v : List S) → Alike l 1 w v
      → MeetsWhole l.grammar l.tables k w → IsTrue (is_met l k v)
  met d None w v same m = met_plain d None w v same (at_end w m)
    where
      at_end : (w : List T) → MeetsWhole l.grammar l.tables None w → Meets l.grammar None w
      at_end [] m = m
      at_end (x ∷ w) m = m
  met d (Some k) [] v same m = absurd m
  met d (Some k) (x ∷ w) v same m = met_plain d (Some k) (x ∷ w) v same m.0

  begun : (d : IsSound l) (ks : Ahead K) (w : List T) (v : List S) → Alike l 1 w v
      → Begins l.grammar ks w → IsTrue (list_any (λ k. is_met l k v) ks)
  begun d [] w v same b = absurd b
  begun d (k ∷ ks) w v same (inl m) =
      one_true (is_met l k v) (list_any (λ k. is_met l k v) ks) (inl (met_plain d k w v same m))
  begun d (k ∷ ks) w v same (inr c) =
      one_true (is_met l k v) (list_any (λ k. is_met l k v) ks) (inr (begun d ks w v same c))

  behind_met : (d : IsSound l) (said : Option (Ahead K)) (w : List T) (v : List S)
      → Alike l 1 w v → StandsBehind l.grammar l.tables said w → IsTrue (stands_behind l said v)
  behind_met d None w v same b = refl
  behind_met d (Some said) w v same b = begun d said w v same b

  met_whole : (d : IsSound l) (k : Option K) (w : List T) (v : List S) → Alike l 2 w v
      → MeetsWhole l.grammar l.tables k w → IsTrue (is_met_whole l k v)
  met_whole d None [] [] same m = refl
  met_whole d None [] (s ∷ v) same m = absurd same
  met_whole d None (x ∷ w) v same m = absurd m
  met_whole d (Some k) [] v same m = absurd m
  met_whole d (Some k) (x ∷ w) [] same m = absurd same
  met_whole d (Some k) (x ∷ w) (s ∷ v) same m =
      both_true (l.grammar.is_of k (l.free s)) (stands_behind l (l.tables.behind k) v)
      (of_free d k s x same.0 m.0) (behind_met d (l.tables.behind k) w v same.1 m.1)

  -- Without a look all may be met.
  pub sees_nothing : (v : List S) → Sees l 0 v (λ k. true)
  sees_nothing v = record { sees = λ w same k m. refl }

  -- The next token tells by its classes.
  pub sees_next : (d : IsSound l) (v : List S) → Sees l 1 v (λ k. is_met l k v)
  sees_next d v = record { sees = λ w same k m. met d k w v same m }

  -- The next two tokens tell by what stands behind a class.
  pub sees_two : (d : IsSound l) (v : List S) → Sees l 2 v (λ k. is_met_whole l k v)
  sees_two d v = record { sees = λ w same k m. met_whole d k w v same m }

  none_within : (d : IsSound l) (v : List S) (w : List T) (k : Option K) (os : Ahead K)
      → Alike l 1 w v → MeetsWhole l.grammar l.tables k w
      → IsTrue (not (list_any (λ o. is_met l o v) os))
      → IsTrue (not (list_any (λ o. is_within_next l.tables.is_within k o) os))
  none_within d v w k [] same m h = refl
  none_within d v w k (o ∷ os) same m h =
      let tests : IsTrue (not (is_met l o v)) × IsTrue (not (list_any (λ o. is_met l o v) os)) =
      neither (is_met l o v) (list_any (λ o. is_met l o v) os) h in
      is_neither (is_within_next l.tables.is_within k o)
      (list_any (λ o. is_within_next l.tables.is_within k o) os)
      (refuted (is_within_next l.tables.is_within k o) (λ within.
      not_true (is_met l o v) tests.0
      (met d o w v same (meets_within l.grammar l.tables d.covers k o w within m))))
      (none_within d v w k os same m tests.1)

  -- Classes that are not met tell that none within them is.
  pub sees_none_of : (d : IsSound l) (v : List S) (os : Ahead K)
      → IsTrue (not (list_any (λ o. is_met l o v) os))
      → Sees l 1 v (λ k. not (list_any (λ o. is_within_next l.tables.is_within k o) os))
  sees_none_of d v os h = record { sees = λ w same k m. none_within d v w k os same m h }

  -- A class that is not met, in whatever way one knows it, tells that none within it is.
  pub sees_not : (d : IsSound l) (look : ℕ) (v : List S) (o : Option K)
      → ((w : List T) → Alike l look w v → MeetsWhole l.grammar l.tables o w → ⊥)
      → Sees l look v (λ k. not (is_within_next l.tables.is_within k o))
  sees_not d look v o h = record {
    sees = λ w same k m. refuted (is_within_next l.tables.is_within k o)
        (λ within. h w same (meets_within l.grammar l.tables d.covers k o w within m));
  }

  -- A class that the next two tokens do not meet, with what stands behind it.
  pub sees_not_two : (d : IsSound l) (v : List S) (o : Option K)
      → IsTrue (not (is_met_whole l o v))
      → Sees l 2 v (λ k. not (is_within_next l.tables.is_within k o))
  sees_not_two d v o h =
      sees_not d 2 v o
      (λ w same m. not_true (is_met_whole l o v) h (met_whole d o w v same m))

  -- Kinds of tokens: what may be met by the kind of the next one.
  abbrev pub met_by_kind : {Kind : Type 0} → (K → Kind → Bool) → Kind → Option K → Bool
  met_by_kind may_be kind None = false
  met_by_kind may_be kind (Some k) = may_be k kind

  of_kind : {Kind : Type 0} (d : IsSound l) (kind_of : S → Kind) (may_be : K → Kind → Bool)
      → ((k : K) (s : S) → IsTrue (l.grammar.is_of k (l.free s)) → IsTrue (may_be k (kind_of s)))
      → (s : S) (kind : Kind) → kind_of s ≡ kind → (k : K) (x : T) → Stands l s x
      → IsTrue (l.grammar.is_of k x) → IsTrue (may_be k kind)
  of_kind d kind_of may_be h s kind e k x same m =
      subst (λ (y : _). IsTrue (may_be k y)) e (h k s (of_free d k s x same m))

  -- The next token tells by its kind.
  pub sees_kind : {Kind : Type 0} (d : IsSound l) (kind_of : S → Kind) (may_be : K → Kind → Bool)
      → ((k : K) (s : S) → IsTrue (l.grammar.is_of k (l.free s)) → IsTrue (may_be k (kind_of s)))
      → (s : S) (v : List S) (kind : Kind) → kind_of s ≡ kind
      → Sees l 1 (s ∷ v) (λ k. met_by_kind may_be kind k)
  sees_kind d kind_of may_be h s v kind e = record { sees = by_class }
    where
      by_class : (w : List T) → Alike l 1 w (s ∷ v) → (k : Option K)
          → MeetsWhole l.grammar l.tables k w → IsTrue (met_by_kind may_be kind k)
      by_class [] same k m = absurd same
      by_class (x ∷ w) same None m = absurd m
      by_class (x ∷ w) same (Some k) m = of_kind d kind_of may_be h s kind e k x same.0 m.0

  -- What stands behind a class may be met.
  abbrev pub said_lets : (Option K → Bool) → Option (Ahead K) → Bool
  said_lets may None = true
  said_lets may (Some said) = list_any may said

  -- The next token tells by its kind, and those behind it by what is seen of them.
  abbrev pub met_by_kinds : {Kind : Type 0} → (K → Kind → Bool) → Kind → (Option K → Bool)
      → Option K → Bool
  met_by_kinds may_be kind may None = false
  met_by_kinds may_be kind may (Some k) =
      may_be k kind && said_lets may (l.tables.behind k)

  any_lets_plain : (may : Option K → Bool) (ks : Ahead K) (w : List T)
      → ((k : Option K) → Meets l.grammar k w → IsTrue (may k))
      → Begins l.grammar ks w → IsTrue (list_any may ks)
  any_lets_plain may [] w h b = absurd b
  any_lets_plain may (k ∷ ks) w h (inl m) = one_true (may k) (list_any may ks) (inl (h k m))
  any_lets_plain may (k ∷ ks) w h (inr c) =
      one_true (may k) (list_any may ks) (inr (any_lets_plain may ks w h c))

  behind_lets : (may : Option K → Bool) (said : Option (Ahead K)) (w : List T)
      → ((k : Option K) → Meets l.grammar k w → IsTrue (may k))
      → StandsBehind l.grammar l.tables said w → IsTrue (said_lets may said)
  behind_lets may None w h b = refl
  behind_lets may (Some said) w h b = any_lets_plain may said w h b

  pub sees_kinds : {Kind : Type 0} (d : IsSound l) (kind_of : S → Kind) (may_be : K → Kind → Bool)
      → ((k : K) (s : S) → IsTrue (l.grammar.is_of k (l.free s)) → IsTrue (may_be k (kind_of s)))
      → (s : S) (v : List S) (kind : Kind) → kind_of s ≡ kind → (may : Option K → Bool)
      → ((w : List T) → Alike l 1 w v → (k : Option K) → Meets l.grammar k w → IsTrue (may k))
      → Sees l 2 (s ∷ v) (λ k. met_by_kinds may_be kind may k)
  sees_kinds d kind_of may_be h s v kind e may later = record { sees = by_class }
    where
      by_class : (w : List T) → Alike l 2 w (s ∷ v) → (k : Option K)
          → MeetsWhole l.grammar l.tables k w → IsTrue (met_by_kinds may_be kind may k)
      by_class [] same k m = absurd same
      by_class (x ∷ w) same None m = absurd m
      by_class (x ∷ w) same (Some k) m =
          both_true (may_be k kind) (said_lets may (l.tables.behind k))
          (of_kind d kind_of may_be h s kind e k x same.0 m.0)
          (behind_lets may (l.tables.behind k) w (λ o n. later w same.1 o n) m.1)
