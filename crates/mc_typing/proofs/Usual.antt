-- The usual collation of a set as a number, and its set.
use Rattle.std.proofs.Common.{◌≡◌, ℕ, suc, zero, ◌<◌, Bool, true, false, cond, List, [], ◌∷◌, ◌++◌, Option, None, Some, length, codes, drop, refl, sym, ap, ◌∙◌, subst, arith}
use Rattle.std.proofs.lemmas.List.{take-append-drop}
use Rattle.std.proofs.lemmas.List.Quantifiers.{position-Some}
use Rattle.std.specs.Prelude.{◌≢◌, ◌↔◌, IsTrue, MatchOption, position, slice_get, unwrap_or}
use Rattle.std.specs.Str.{bytes_eq}
use Rattle.mc_charset.specs.Names.{bin_name, bin_number, built_in_names, same_set}
use Rattle.mc_charset.specs.declared.charset.Charset.{Charset}
use Rattle.mc_charset.specs.declared.charset.Charset.TheVariants.{Latin1, Ascii, Utf8mb3, Utf8mb4, Ucs2, Utf16, Utf32, Binary}
use Rattle.mc_catalog.specs.BuiltIn.{built_in_collations}
use Rattle.mc_catalog.specs.Lawful.{IsLawful}
use Rattle.mc_catalog.specs.LookUp.{IsBinOf, IsUsual, collation_set, number_of, set_at, usual_name}
use Rattle.mc_catalog.specs.declared.catalog.Catalog.{Catalog}
use Rattle.mc_catalog.specs.declared.catalog.CollDecl.{CollDecl}
use Rattle.mc_typing.specs.Operands.{usual, usual_at, usual_in}

some_one : {X : Type 0} → (a b : X) → Some a ≡ Some b → a ≡ b
some_one a b e = cc

-- The place of a name among those of the built-in collations.
abbrev placed : List ℕ → Option ℕ
placed name = position (λ x. bytes_eq x name) built_in_names

placed_at : (n : ℕ) (own name : List ℕ) → placed own ≡ Some n → Some own ≡ Some name
    → placed name ≡ Some n
placed_at n own name e f = subst (λ m. placed m ≡ Some n) (some_one own name f) e

placed_own : (n : ℕ) (name : List ℕ) → slice_get built_in_names n ≡ Some name → placed name ≡ Some n
placed_own zero name e = placed_at 0 (bin_name Binary) name refl e
placed_own (suc zero) name e = placed_at 1 (bin_name Latin1) name refl e
placed_own (suc (suc zero)) name e = placed_at 2 (bin_name Ascii) name refl e
placed_own (suc (suc (suc zero))) name e = placed_at 3 (bin_name Utf8mb3) name refl e
placed_own (suc (suc (suc (suc zero)))) name e = placed_at 4 (bin_name Utf8mb4) name refl e
placed_own (suc (suc (suc (suc (suc zero))))) name e = placed_at 5 (bin_name Ucs2) name refl e
placed_own (suc (suc (suc (suc (suc (suc zero)))))) name e = placed_at 6 (bin_name Utf16) name refl e
placed_own (suc (suc (suc (suc (suc (suc (suc zero))))))) name e = placed_at 7 (bin_name Utf32) name refl e
placed_own (suc (suc (suc (suc (suc (suc (suc (suc zero)))))))) name e = placed_at 8 (codes "utf8mb4_0900_bin") name refl e
placed_own (suc (suc (suc (suc (suc (suc (suc (suc (suc n))))))))) name e = cc

placed_bin : (set : Charset) → placed (bin_name set) ≡ Some (bin_number set)
placed_bin Binary = refl
placed_bin Latin1 = refl
placed_bin Ascii = refl
placed_bin Utf8mb3 = refl
placed_bin Utf8mb4 = refl
placed_bin Ucs2 = refl
placed_bin Utf16 = refl
placed_bin Utf32 = refl

bin_is : (set : Charset) (n : ℕ) → IsBinOf set n → n ≡ bin_number set
bin_is set n e =
    some_one n (bin_number set) (sym (placed_own n (bin_name set) e) ∙ placed_bin set)

-- The usual collation
-- Sets are one where they have one name.
abbrev pub AreNamed : Type 0
AreNamed = (set other : Charset) → IsTrue (same_set set other) ↔ (set ≡ other)

not_both : (b : Bool) → b ≡ false → IsTrue b → ⊥
not_both true e t = absurd (cc)
not_both false e t = cc

with_test : AreNamed → (set found : Charset) (n place : ℕ) (b : Bool) → same_set found set ≡ b
    → (Some found ≡ Some set → n ≡ place) × (Some found ≢ Some set → IsBinOf set n)
    → n ≡ cond b place (bin_number set)
with_test named set found n place true e h = h.0 (ap Some ((named found set).0 e))
with_test named set found n place false e h = bin_is set n (h.1 (λ f.
    not_both (same_set found set) e ((named found set).1 (some_one found set f))))

at_place : AreNamed → (set : Charset) (n place : ℕ) (found : Option Charset)
    → (found ≡ Some set → n ≡ place) × (found ≢ Some set → IsBinOf set n)
    → n ≡ usual_at set place found
at_place named set n place None h = bin_is set n (h.1 (λ e. cc))
at_place named set n place (Some found) h = with_test named set found n place (same_set found set) refl h

of_named : AreNamed → (collations : List CollDecl) (set : Charset) (n : ℕ) (found : Option ℕ)
    → MatchOption found (IsBinOf set n)
    (λ place. (set_at collations place ≡ Some set → n ≡ place)
    × (set_at collations place ≢ Some set → IsBinOf set n))
    → n ≡ usual_in collations set found
of_named named collations set n None h = bin_is set n h
of_named named collations set n (Some place) h = at_place named set n place (set_at collations place) h

pub usual_is : AreNamed → (c : Catalog) (set : Charset) (n : ℕ) → IsUsual c.collations set n → n ≡ usual c set
unfolding usual
usual_is named c set n h =
    of_named named c.collations set n (number_of c.collations (usual_name set)) h

-- The built-in collations have their sets.
front_set : (others : List CollDecl) (set : Charset)
    → collation_set (built_in_collations ++ others) (bin_number set) ≡ set
front_set others Binary = refl
front_set others Latin1 = refl
front_set others Ascii = refl
front_set others Utf8mb3 = refl
front_set others Utf8mb4 = refl
front_set others Ucs2 = refl
front_set others Utf16 = refl
front_set others Utf32 = refl

front_within : (others : List CollDecl) (set : Charset)
    → bin_number set < length (built_in_collations ++ others)
front_within others Binary = omega arith
front_within others Latin1 = omega arith
front_within others Ascii = omega arith
front_within others Utf8mb3 = omega arith
front_within others Utf8mb4 = omega arith
front_within others Ucs2 = omega arith
front_within others Utf16 = omega arith
front_within others Utf32 = omega arith

fronted : (c : Catalog) → IsLawful c → built_in_collations ++ drop 9 c.collations ≡ c.collations
fronted c h = ap (λ l. l ++ drop 9 c.collations) (sym h.so_far.built_in)
    ∙ take-append-drop 9 c.collations

pub bin_set : (c : Catalog) (set : Charset) → IsLawful c
    → collation_set c.collations (bin_number set) ≡ set
bin_set c set h = subst (λ l. collation_set l (bin_number set) ≡ set) (fronted c h)
    (front_set (drop 9 c.collations) set)

pub bin_within : (c : Catalog) (set : Charset) → IsLawful c → bin_number set < length c.collations
bin_within c set h = subst (λ l. bin_number set < length l) (fronted c h)
    (front_within (drop 9 c.collations) set)

-- The usual collation is one of the catalog, of its set.
abbrev pub IsOfSet : Catalog → Charset → ℕ → Type 0
IsOfSet c set n = (n < length c.collations) × (set ≡ collation_set c.collations n)

pub bin_of_set : (c : Catalog) (set : Charset) → IsLawful c → IsOfSet c set (bin_number set)
bin_of_set c set h = (bin_within c set h, sym (bin_set c set h))

set_found : (collations : List CollDecl) (place : ℕ) (found : Charset)
    → set_at collations place ≡ Some found → collation_set collations place ≡ found
set_found collations place found e = ap (λ o. unwrap_or o Binary) e

by_test : AreNamed → (c : Catalog) (set found : Charset) (place : ℕ) (b : Bool) → IsLawful c
    → place < length c.collations → set_at c.collations place ≡ Some found
    → same_set found set ≡ b → IsOfSet c set (cond b place (bin_number set))
by_test named c set found place true h within e same =
    (within, sym (set_found c.collations place found e ∙ (named found set).0 same))
by_test named c set found place false h within e same = bin_of_set c set h

by_found : AreNamed → (c : Catalog) (set : Charset) (place : ℕ) (found : Option Charset)
    → IsLawful c → place < length c.collations → set_at c.collations place ≡ found
    → IsOfSet c set (usual_at set place found)
by_found named c set place None h within e = bin_of_set c set h
by_found named c set place (Some found) h within e =
    by_test named c set found place (same_set found set) h within e refl

pub number_within : (collations : List CollDecl) (name : List ℕ) (place : ℕ)
    → number_of collations name ≡ Some place → place < length collations
number_within [] name place e = absurd (cc)
number_within (d ∷ ds) name place e =
    (position-Some (λ x. bytes_eq x.name name) (d ∷ ds) place d e).0

by_number : AreNamed → (c : Catalog) (set : Charset) (number : Option ℕ) → IsLawful c
    → number_of c.collations (usual_name set) ≡ number
    → IsOfSet c set (usual_in c.collations set number)
by_number named c set None h e = bin_of_set c set h
by_number named c set (Some place) h e =
    by_found named c set place (set_at c.collations place) h
    (number_within c.collations (usual_name set) place e) refl

pub usual_of_set : AreNamed → (c : Catalog) (set : Charset) → IsLawful c → IsOfSet c set (usual c set)
unfolding usual
usual_of_set named c set h =
    by_number named c set (number_of c.collations (usual_name set)) h refl
