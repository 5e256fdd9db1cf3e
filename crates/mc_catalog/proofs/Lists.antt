-- Lists with one member more: what they keep.
use Rattle.std.proofs.Common.{◌≡◌, ◌≢◌, ℕ, zero, suc, ◌+◌, ◌<◌, Bool, true, false, ◌||◌, List, [], ◌∷◌, ◌++◌, length, map, take, get_or, nat_lt, None, Some, cond, refl, sym, ap, ◌∙◌, arith}
use Rattle.std.specs.List.{list_any, position, position_or_len, slice_get}
use Rattle.std.specs.Option.{is_some, IsSomeAnd}
use Rattle.std.specs.Str.{bytes_eq}
use Rattle.std.proofs.lemmas.Slice.Eq.{bytes_eq-Decides}
use Rattle.std.proofs.lemmas.List.{map-append, length-map, length-take-le, get_or-take, take-map, get_or-map}
use Rattle.std.proofs.lemmas.List.Folds.{list_any_none}
use Rattle.std.proofs.lemmas.List.Quantifiers.{all_pairs_push}
use Rattle.std.proofs.Math.Seq.{take-append_seam}
use Rattle.std.proofs.lemmas.Bool.Decides.{nat_tests}
use Rattle.mc_catalog.specs.Lawful.{AreApart}

-- a choice that is false is false on both sides
pub or_false : (a b : Bool) → (a || b) ≡ false → (a ≡ false) × (b ≡ false)
or_false true b e = absurd (let f : true ≡ false = e in cc)
or_false false b e = (refl, e)

-- texts whose test is false differ
pub differ : (xs ys : List ℕ) → bytes_eq xs ys ≡ false → xs ≢ ys
differ xs ys e same = let e2 = (bytes_eq-Decides xs ys).1 same in cc

-- texts that differ have a test that is false
unequal : (xs ys : List ℕ) → xs ≢ ys → bytes_eq xs ys ≡ false
unequal xs ys apart = of (bytes_eq xs ys) refl
  where
    of : (b : Bool) → bytes_eq xs ys ≡ b → b ≡ false
    of true e = absurd (apart ((bytes_eq-Decides xs ys).0 e))
    of false e = refl

-- a member within a list, whatever stands for one past it
get_or_default : {X : Type 0} (xs : List X) (k : ℕ) (d e : X) → k < length xs → get_or xs k d ≡ get_or xs k e
get_or_default [] k d e h = absurd (omega arith)
get_or_default (x ∷ xs) zero d e h = refl
get_or_default (x ∷ xs) (suc k) d e h = get_or_default xs k d e (omega arith)

-- No name of a list is this one, where no member has it.
pub none_named : {X : Type 0} (name_of : X → List ℕ) (xs : List X) (name : List ℕ) → list_any (λ x. bytes_eq (name_of x) name) xs ≡ false → (k : ℕ) (d : List ℕ) → k < length (map name_of xs) → get_or (map name_of xs) k d ≢ name
none_named name_of [] name e k d h = absurd (omega arith)
none_named name_of (x ∷ xs) name e zero d h = differ (name_of x) name (or_false _ _ e).0
none_named name_of (x ∷ xs) name e (suc k) d h = none_named name_of xs name (or_false _ _ e).1 k d (omega arith)

-- Names that differ, and one more that none of them is.
pub apart_more : {X : Type 0} (name_of : X → List ℕ) (xs : List X) (x : X) → AreApart (map name_of xs) → list_any (λ other. bytes_eq (name_of other) (name_of x)) xs ≡ false → AreApart (map name_of (xs ++ x ∷ []))
apart_more name_of xs x apart fresh =
    rw (map-append name_of xs (x ∷ []))
    (all_pairs_push (λ a b. a ≢ b) (map name_of xs) (name_of x) apart (none_named name_of xs (name_of x) fresh))

-- one more on both sides changes no comparison
lt_suc : (m n : ℕ) → nat_lt m n ≡ nat_lt (1 + m) (suc n)
lt_suc m n = grind (arith, nat_tests)

-- a member passes a test exactly where fewer than all stand before the first that does
any_before_end : {X : Type 0} (p : X → Bool) (xs : List X) → list_any p xs ≡ nat_lt (position_or_len p xs) (length xs)
any_before_end p [] = refl
any_before_end p (x ∷ xs) = of (any_before_end p xs) (p x) refl
  where
    of : list_any p xs ≡ nat_lt (position_or_len p xs) (length xs) → (b : Bool) → p x ≡ b → list_any p (x ∷ xs) ≡ nat_lt (position_or_len p (x ∷ xs)) (length (x ∷ xs))
    of behind true e = rw e (grind (arith, nat_tests))
    of behind false e = rw e (behind ∙ lt_suc (position_or_len p xs) (length xs))

-- Whether a test is passed at a place is whether a member passes it.
pub any_placed : {X : Type 0} (p : X → Bool) (xs : List X) → is_some (position p xs) ≡ list_any p xs
any_placed p xs = rw (any_before_end p xs) (of (nat_lt (position_or_len p xs) (length xs)))
  where
    of : (b : Bool) → is_some (cond b (Some (position_or_len p xs)) None) ≡ b
    of true = refl
    of false = refl

-- a test that no member passes by its place
pub none_placed : {X : Type 0} (p : X → Bool) (xs : List X) → is_some (position p xs) ≡ false → list_any p xs ≡ false
none_placed p xs e = sym (any_placed p xs) ∙ e

-- a test of names, and of what bears them
pub any_named : {X : Type 0} (p : List ℕ → Bool) (name_of : X → List ℕ) (xs : List X) → list_any p (map name_of xs) ≡ list_any (λ x. p (name_of x)) xs
any_named p name_of [] = refl
any_named p name_of (x ∷ xs) = ap (λ b. p (name_of x) || b) (any_named p name_of xs)

-- What holds of the member at a place holds with more members behind.
pub kept_at : {X : Type 0} (P : X → Type 0) (xs ys : List X) (i : ℕ) → IsSomeAnd (slice_get xs i) P → IsSomeAnd (slice_get (xs ++ ys) i) P
kept_at P [] ys i h = absurd h
kept_at P (x ∷ xs) ys zero h = h
kept_at P (x ∷ xs) ys (suc i) h = kept_at P xs ys i h

-- Two texts are compared in either order alike.
equal_sides : (xs ys : List ℕ) → bytes_eq xs ys ≡ bytes_eq ys xs
equal_sides xs ys = of (bytes_eq xs ys) (bytes_eq ys xs) refl refl
  where
    of : (a b : Bool) → bytes_eq xs ys ≡ a → bytes_eq ys xs ≡ b → a ≡ b
    of true true e f = refl
    of false false e f = refl
    of true false e f = absurd (differ ys xs f (sym ((bytes_eq-Decides xs ys).0 e)))
    of false true e f = absurd (differ xs ys e (sym ((bytes_eq-Decides ys xs).0 f)))

-- how many stand before a name in a list, and in the list of what bears them
before_name : {X : Type 0} (p : List ℕ → Bool) (name_of : X → List ℕ) (xs : List X) → position_or_len (λ x. p (name_of x)) xs ≡ position_or_len p (map name_of xs)
before_name p name_of [] = refl
before_name p name_of (x ∷ xs) = rw (before_name p name_of xs) refl

-- the place of a name in a list, and in the list of what bears them
pub place_of_name : {X : Type 0} (p : List ℕ → Bool) (name_of : X → List ℕ) (xs : List X) → position (λ x. p (name_of x)) xs ≡ position p (map name_of xs)
place_of_name p name_of xs = rw (before_name p name_of xs, length-map xs name_of) refl

-- two tests that agree find the same place
before_same : {X : Type 0} (p q : X → Bool) (xs : List X) → ((x : X) → p x ≡ q x) → position_or_len p xs ≡ position_or_len q xs
before_same p q [] same = refl
before_same p q (x ∷ xs) same = rw (same x, before_same p q xs same) refl

pub place_same : {X : Type 0} (p q : X → Bool) (xs : List X) → ((x : X) → p x ≡ q x) → position p xs ≡ position q xs
place_same p q xs same = rw (before_same p q xs same) refl

-- the place of a key of a name, and of the name
pub place_of_key : {X : Type 0} (name_of : X → List ℕ) (keys : List X) (name : List ℕ) → position (λ key. bytes_eq name (name_of key)) keys ≡ position (λ other. bytes_eq other name) (map name_of keys)
place_of_key name_of keys name =
    place_same (λ key. bytes_eq name (name_of key)) (λ key. bytes_eq (name_of key) name) keys (λ key. equal_sides name (name_of key))
    ∙ place_of_name (λ other. bytes_eq other name) name_of keys

-- A name that is not there goes last.
pub name_added : {X : Type 0} (name_of : X → List ℕ) (xs new : List X) (x : X) (names : List (List ℕ)) (name : List ℕ) → map name_of xs ≡ names → name_of x ≡ name → list_any (λ other. bytes_eq other name) names ≡ false → new ≡ cond (list_any (λ other. bytes_eq (name_of x) (name_of other)) xs) xs (xs ++ x ∷ []) → map name_of new ≡ names ++ name ∷ []
name_added name_of xs new x names name all own none added =
    let away : is_some (position (λ other. bytes_eq name (name_of other)) xs) ≡ false =
    ap is_some (place_of_key name_of xs name) ∙ any_placed (λ other. bytes_eq other name) (map name_of xs) ∙ rw all none in
    let absent : list_any (λ other. bytes_eq name (name_of other)) xs ≡ false = none_placed (λ other. bytes_eq name (name_of other)) xs away in
    let grown : new ≡ xs ++ x ∷ [] = added ∙ rw (own, absent) refl in
    rw (grown, map-append name_of xs (x ∷ []), all, own) refl

-- the names of members, after one that was not appended is gone from them again
pub names_cut : {X : Type 0} (name_of : X → List ℕ) (xs : List X) (name : List ℕ) → take (length xs) (map name_of xs ++ name ∷ []) ≡ map name_of xs
names_cut name_of xs name = rw (sym (length-map xs name_of)) (take-append_seam (map name_of xs) (name ∷ []))

-- A name that no member has is not among the names.
pub absent_named : {X : Type 0} (name_of : X → List ℕ) (xs : List X) (names : List (List ℕ)) (name : List ℕ) → names ≡ map name_of xs → list_any (λ x. bytes_eq (name_of x) name) xs ≡ false → list_any (λ other. bytes_eq other name) names ≡ false
absent_named name_of xs names name all e = ap (list_any (λ other. bytes_eq other name)) all ∙ any_named (λ other. bytes_eq other name) name_of xs ∙ e

-- Of names that differ, one is not among those before it.
pub fresh_at : (names : List (List ℕ)) (i : ℕ) (d : List ℕ) → AreApart names → i < length names → list_any (λ other. bytes_eq other (get_or names i d)) (take i names) ≡ false
fresh_at names i d apart h = list_any_none (λ other. bytes_eq other (get_or names i d)) (take i names) other
  where
    other : (k : ℕ) (e : List ℕ) → k < length (take i names) → bytes_eq (get_or (take i names) k e) (get_or names i d) ≡ false
    other k e lt =
        let short : k < i = omega (arith, length-take-le i names (omega arith)) in
        let apart_here : get_or names k d ≢ get_or names i d = apart k i d short h in
        let same : get_or (take i names) k e ≡ get_or names k d = get_or-take i names k e short ∙ get_or_default names k e d (omega arith) in
        rw same (unequal (get_or names k d) (get_or names i d) apart_here)

-- The same of members, of whose names those before one are gathered.
pub fresh_member : {X : Type 0} (name_of : X → List ℕ) (members items : List X) (names : List (List ℕ)) (i : ℕ) (x : X) → items ≡ members → AreApart (map name_of members) → i < length items → names ≡ map name_of (take i items) → x ≡ get_or items i x → list_any (λ other. bytes_eq other (name_of x)) names ≡ false
fresh_member name_of members items names i x same apart h so_far is =
    let apart_items : AreApart (map name_of items) = rw same apart in
    let here : get_or (map name_of items) i (name_of x) ≡ name_of x = get_or-map name_of items i x (name_of x) h ∙ sym (ap name_of is) in
    let fresh = fresh_at (map name_of items) i (name_of x) apart_items (rw (length-map items name_of) h) in
    rw (so_far, ← take-map name_of i items) (rw here at fresh)
