-- Character sets and classes, all of them gone through.
use Rattle.std.proofs.Common.{◌≡◌, ◌≢◌, ℕ, ◌<◌, Bool, true, false, not, ◌||◌, eqb, List}
use Rattle.std.proofs.Common.{[]}
use Rattle.std.proofs.Common.{◌∷◌, Some, refl, sym, ap, ◌∙◌, arith, zero, suc}
use Rattle.std.proofs.Common.{◌+◌, ◌*◌, inl, inr, get_or, length, lit<}
use Rattle.std.specs.List.{slice_get, list_all}
use Rattle.std.proofs.lemmas.Bool.{false≢true, cases_Bool, eqb-true}
use Rattle.std.proofs.lemmas.Bool.Decides.{nat_tests}
use Rattle.std.proofs.lemmas.List.Folds.{list_all_at}
use Rattle.mc_charset.specs.Names.{same_set, built_in_names, bin_name}
use Rattle.mc_charset.specs.declared.charset.Charset.{Charset}
use Rattle.mc_charset.specs.declared.charset.Charset.TheVariants.{Latin1, Ascii, Utf8mb3, Utf8mb4}
use Rattle.mc_charset.specs.declared.charset.Charset.TheVariants.{Ucs2, Utf16, Utf32, Binary}
use Rattle.mc_coerce.specs.Sets.{bin_collation_of}

-- Equal sets

set_numbered : ℕ → Charset
set_numbered zero = Binary
set_numbered (suc zero) = Latin1
set_numbered (suc (suc zero)) = Ascii
set_numbered (suc (suc (suc zero))) = Utf8mb3
set_numbered (suc (suc (suc (suc zero)))) = Utf8mb4
set_numbered (suc (suc (suc (suc (suc zero))))) = Ucs2
set_numbered (suc (suc (suc (suc (suc (suc zero)))))) = Utf16
set_numbered (suc (suc (suc (suc (suc (suc (suc n))))))) = Utf32

numbered_back : (set : Charset) → set_numbered (bin_collation_of set) ≡ set
unfolding set_numbered
numbered_back Latin1 = refl
numbered_back Ascii = refl
numbered_back Utf8mb3 = refl
numbered_back Utf8mb4 = refl
numbered_back Ucs2 = refl
numbered_back Utf16 = refl
numbered_back Utf32 = refl
numbered_back Binary = refl

-- The number of its binary collation tells a set.
pub one_number : (set other : Charset) → bin_collation_of set ≡ bin_collation_of other → set ≡ other
one_number set other h =
    sym (numbered_back set) ∙ ap set_numbered h ∙ numbered_back other

-- Tests over all sets

abbrev sets : List Charset
sets = Latin1 ∷ Ascii ∷ Utf8mb3 ∷ Utf8mb4 ∷ Ucs2 ∷ Utf16 ∷ Utf32 ∷ Binary ∷ []

abbrev pub all_sets : (Charset → Bool) → Bool
all_sets p = list_all p sets

at_place : (p : Charset → Bool) (k : ℕ) (set : Charset) → all_sets p ≡ true → k < 8
    → get_or sets k Binary ≡ set → p set ≡ true
at_place p k set h l e =
    elim (cases_Bool (p (get_or sets k Binary))) [
      | inl t ↦ ap p (sym e) ∙ t
      | inr f ↦ absurd (false≢true (sym (list_all_at p sets k Binary l f) ∙ h))
    ]

-- What holds of all sets holds of each.
pub each_set : (p : Charset → Bool) → all_sets p ≡ true → (set : Charset) → p set ≡ true
each_set p h Latin1 = at_place p 0 Latin1 h (lit< tt) refl
each_set p h Ascii = at_place p 1 Ascii h (lit< tt) refl
each_set p h Utf8mb3 = at_place p 2 Utf8mb3 h (lit< tt) refl
each_set p h Utf8mb4 = at_place p 3 Utf8mb4 h (lit< tt) refl
each_set p h Ucs2 = at_place p 4 Ucs2 h (lit< tt) refl
each_set p h Utf16 = at_place p 5 Utf16 h (lit< tt) refl
each_set p h Utf32 = at_place p 6 Utf32 h (lit< tt) refl
each_set p h Binary = at_place p 7 Binary h (lit< tt) refl

-- If the sets are one, so are the numbers.
abbrev agree : Charset → Charset → Bool
agree set other =
    not (same_set set other) || eqb (bin_collation_of set) (bin_collation_of other)

by_number : (set other : Charset) → agree set other ≡ true
unfolding same_set
by_number set other =
    each_set (λ (t : Charset). agree set t)
    (each_set (λ (s : Charset). all_sets (λ (t : Charset). agree s t)) refl set) other

same_itself : (set : Charset) → same_set set set ≡ true
unfolding same_set
same_itself set = each_set (λ (s : Charset). same_set s s) refl set

implied : (p q : Bool) → (not p || q) ≡ true → p ≡ true → q ≡ true
implied true q h k = h
implied false q h k = absurd (cc)

pub same_set-true : (set other : Charset) → same_set set other ≡ true → set ≡ other
same_set-true set other h =
    one_number set other (eqb-true _ _ (implied (same_set set other) _ (by_number set other) h))

pub same_set-from : (set other : Charset) → set ≡ other → same_set set other ≡ true
same_set-from set other h = ap (same_set set) (sym h) ∙ same_itself set

pub same_set-false : (set other : Charset) → set ≢ other → same_set set other ≡ false
same_set-false set other h =
    elim (cases_Bool (same_set set other)) [
      | inl t ↦ absurd (h (same_set-true set other t))
      | inr f ↦ f
    ]

-- The number of a set's binary collation, as it follows from the names of the built-in ones.

checksum : List ℕ → ℕ
checksum [] = 0
checksum (x ∷ xs) = x + 2 * checksum xs

name_at : ℕ → List ℕ
name_at n = get_or built_in_names n []

-- Of the nine names one is that of the set.
is_named_once : Charset → ℕ → Bool
is_named_once set n =
    not (eqb (checksum (name_at n)) (checksum (bin_name set))) || eqb n (bin_collation_of set)

named_once : (n : ℕ) → n < 9 → (set : Charset) → is_named_once set n ≡ true
unfolding is_named_once name_at checksum
named_once zero h set = each_set (λ (s : Charset). is_named_once s 0) refl set
named_once (suc zero) h set = each_set (λ (s : Charset). is_named_once s 1) refl set
named_once (suc (suc zero)) h set = each_set (λ (s : Charset). is_named_once s 2) refl set
named_once (suc (suc (suc zero))) h set = each_set (λ (s : Charset). is_named_once s 3) refl set
named_once (suc (suc (suc (suc zero)))) h set =
    each_set (λ (s : Charset). is_named_once s 4) refl set
named_once (suc (suc (suc (suc (suc zero))))) h set =
    each_set (λ (s : Charset). is_named_once s 5) refl set
named_once (suc (suc (suc (suc (suc (suc zero)))))) h set =
    each_set (λ (s : Charset). is_named_once s 6) refl set
named_once (suc (suc (suc (suc (suc (suc (suc zero))))))) h set =
    each_set (λ (s : Charset). is_named_once s 7) refl set
named_once (suc (suc (suc (suc (suc (suc (suc (suc zero)))))))) h set =
    each_set (λ (s : Charset). is_named_once s 8) refl set
named_once (suc (suc (suc (suc (suc (suc (suc (suc (suc n))))))))) h set = absurd (omega arith)

within : (n : ℕ) (name : List ℕ) (names : List (List ℕ)) → slice_get names n ≡ Some name
    → (n < length names) × (get_or names n [] ≡ name)
within n name [] h = absurd (cc)
within zero name (x ∷ xs) h = (omega arith, cc)
within (suc n) name (x ∷ xs) h = let r = within n name xs h in (omega (arith, r.0), r.1)

test_of : (m n : ℕ) (b : Bool) → m ≡ n → (not (eqb m n) || b) ≡ true → b ≡ true
test_of m n true e h = refl
test_of m n false e h = grind (arith, nat_tests)

pub bin_number : (set : Charset) (n : ℕ) → slice_get built_in_names n ≡ Some (bin_name set)
    → n ≡ bin_collation_of set
unfolding is_named_once name_at
bin_number set n h =
    let w = within n (bin_name set) built_in_names h in
    eqb-true n (bin_collation_of set)
    (test_of (checksum (name_at n)) (checksum (bin_name set)) (eqb n (bin_collation_of set))
    (ap checksum w.1) (named_once n w.0 set))
