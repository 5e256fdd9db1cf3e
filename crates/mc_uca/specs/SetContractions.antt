-- The contractions of a set, among those of the table.
use Rattle.std.proofs.Common.{◌≡◌, ◌⊎◌, ℕ, zero, suc, ◌&&◌, Bool, true, false, cond, List, []}
use Rattle.std.proofs.Common.{◌∷◌, take, filter, refl, ap, ◌∙◌, inl, inr}
use Rattle.std.specs.List.{Contains, list_all}
use Rattle.mc_charset.specs.declared.charset.Charset.{Charset}
use Rattle.mc_order.specs.Ascending.{Among, Among-from_Contains, Contains-from_Among}
use Rattle.mc_allkeys.specs.Longest.{AreContractionsAt}
use Rattle.mc_allkeys.specs.Table.{Entries, contractions_of}
use Rattle.mc_uca.specs.Weighing.{is_of_set, set_contractions}

among_step : (p : List ℕ → Bool) (y : List ℕ) (ys : List (List ℕ)) (z : List ℕ) (b : Bool) →
    p y ≡ b → (Among z (filter p ys) → Among z ys × (p z ≡ true)) →
    Among z (cond b (y ∷ filter p ys) (filter p ys)) → Among z (y ∷ ys) × (p z ≡ true)
among_step p y ys z true e rest (inl is) = (inl is, ap p is ∙ e)
among_step p y ys z true e rest (inr h) = let k = rest h in (inr k.0, k.1)
among_step p y ys z false e rest h = let k = rest h in (inr k.0, k.1)

among_filter : (p : List ℕ → Bool) (xs : List (List ℕ)) (z : List ℕ) → Among z (filter p xs) →
    Among z xs × (p z ≡ true)
among_filter p [] z h = absurd h
among_filter p (y ∷ ys) z h = among_step p y ys z (p y) refl (among_filter p ys z) h

not_both : {X : Type 0} (b : Bool) → b ≡ true → b ≡ false → X
not_both true e f = absurd cc
not_both false e f = absurd cc

filter_step : (p : List ℕ → Bool) (y : List ℕ) (ys : List (List ℕ)) (z : List ℕ) (b : Bool) →
    p y ≡ b → p z ≡ true → (Among z ys → Among z (filter p ys)) → (z ≡ y) ⊎ Among z ys →
    Among z (cond b (y ∷ filter p ys) (filter p ys))
filter_step p y ys z true e t rest (inl is) = inl is
filter_step p y ys z true e t rest (inr h) = inr (rest h)
filter_step p y ys z false e t rest (inl is) = not_both (p z) t (ap p is ∙ e)
filter_step p y ys z false e t rest (inr h) = rest h

filter_among : (p : List ℕ → Bool) (xs : List (List ℕ)) (z : List ℕ) → Among z xs →
    p z ≡ true → Among z (filter p xs)
filter_among p [] z h t = absurd h
filter_among p (y ∷ ys) z h t =
    filter_step p y ys z (p y) refl t (λ a. filter_among p ys z a t) h

-- One of the set's is one of the table's, with characters of the set.
pub of_table : (set : Charset) (entries : Entries) (text : List ℕ) →
    Contains (set_contractions set entries) text →
    Contains (contractions_of entries) text × (is_of_set set text ≡ true)
of_table set entries text h =
    let k = among_filter (is_of_set set) (contractions_of entries) text
    (Among-from_Contains (set_contractions set entries) text h) in
    (Contains-from_Among (contractions_of entries) text k.0, k.1)

pub of_set : (set : Charset) (entries : Entries) (text : List ℕ) →
    Contains (contractions_of entries) text → is_of_set set text ≡ true →
    Contains (set_contractions set entries) text
of_set set entries text h t =
    Contains-from_Among (set_contractions set entries) text
    (filter_among (is_of_set set) (contractions_of entries) text
    (Among-from_Contains (contractions_of entries) text h) t)

both_parts : (a b : Bool) → (a && b) ≡ true → (a ≡ true) × (b ≡ true)
both_parts true b e = (refl, e)
both_parts false b e = absurd cc

both_hold : (a b : Bool) → a ≡ true → b ≡ true → (a && b) ≡ true
both_hold true b ea eb = eb
both_hold false b ea eb = absurd cc

pub all-take : (p : ℕ → Bool) (k : ℕ) (codes : List ℕ) → list_all p codes ≡ true →
    list_all p (take k codes) ≡ true
all-take p zero codes e = refl
all-take p (suc k) [] e = refl
all-take p (suc k) (c ∷ cs) e =
    let parts = both_parts (p c) (list_all p cs) e in
    both_hold (p c) (list_all p (take k cs)) parts.0 (all-take p k cs parts.1)

-- Of the texts that begin one of the set, the set's contractions are those with an entry.
pub set_at : (set : Charset) (entries : Entries) (text : List ℕ) →
    AreContractionsAt entries (contractions_of entries) text → is_of_set set text ≡ true →
    AreContractionsAt entries (set_contractions set entries) text
set_at set entries text at all = record {
  sound = λ one h. at.sound one (of_table set entries one h).0;
  complete = λ k two within listed. of_set set entries (take k text)
      (at.complete k two within listed) (all-take _ k text all);
}
