-- The set that is named so, in lower case, by the one that is named so in either case.
use Rattle.std.proofs.Common.{◌≡◌, ℕ, ◌||◌, Bool, true, false, List, [], ◌∷◌, None, cond, refl, ap, sym, ◌∙◌, arith}
use Rattle.std.specs.Prelude.{map, option_map}
use Rattle.std.specs.Char.{is_ascii_uppercase, to_ascii_lowercase}
use Rattle.std.specs.List.{AllByRecursion, find, list_any}
use Rattle.std.specs.Str.{bytes_eq}
use Rattle.std.proofs.lemmas.Bool.Decides.{nat_tests}
use Rattle.std.proofs.lemmas.Slice.Eq.{bytes_eq-Decides}
use Rattle.mc_charset.specs.Names.{named_sets, set_named}
use Rattle.mc_charset.specs.declared.charset.Charset.{Charset}
use Rattle.mc_token.specs.Kinds.{set_spelled}
use Rattle.mc_token.proofs.CutOpenings.{refuted}

-- The text has a letter from A to Z.
abbrev has_upper : List ℕ → Bool
has_upper text = list_any is_ascii_uppercase text

-- Without one

not_upper-lower : (byte : ℕ) → is_ascii_uppercase byte ≡ false → to_ascii_lowercase byte ≡ byte
not_upper-lower byte e = grind (arith, nat_tests)

first-not : (a b : Bool) → (a || b) ≡ false → (a ≡ false) × (b ≡ false)
first-not true b e = absurd (cc)
first-not false b e = (refl, e)

lower-same : (name : List ℕ) → has_upper name ≡ false → map to_ascii_lowercase name ≡ name
lower-same [] e = refl
lower-same (byte ∷ name) e =
    let both = first-not (is_ascii_uppercase byte) (has_upper name) e in
    ap (λ b. b ∷ map to_ascii_lowercase name) (not_upper-lower byte both.0)
    ∙ ap (λ l. byte ∷ l) (lower-same name both.1)

-- With one

not_lower : (name lower : List ℕ) → has_upper name ≡ true → has_upper lower ≡ false
    → bytes_eq name lower ≡ false
not_lower name lower upper low = refuted (bytes_eq name lower) (λ e.
    let same = (bytes_eq-Decides name lower).0 e in
    let no : true ≡ false = sym upper ∙ ap has_upper same ∙ low in cc)

none_spelled : (name : List ℕ) (sets : List (List ℕ × Charset)) → has_upper name ≡ true
    → AllByRecursion (λ named. has_upper named.0 ≡ false) sets
    → find (λ named. bytes_eq name named.0) sets ≡ None
none_spelled name [] upper all = refl
none_spelled name (named ∷ sets) upper all =
    rw (not_lower name named.0 upper all.0) (none_spelled name sets upper all.1)

all_lower : AllByRecursion (λ named. has_upper named.0 ≡ false) named_sets
all_lower =
    (refl, (refl, (refl, (refl, (refl, (refl, (refl, (refl, (refl, tt)))))))))

spelled-cases : (name : List ℕ) (upper : Bool) → has_upper name ≡ upper
    → set_spelled name ≡ cond upper None (set_named name)
unfolding set_spelled set_named
spelled-cases name true e =
    ap (option_map (λ named. named.1)) (none_spelled name named_sets e all_lower)
spelled-cases name false e =
    ap (λ l. option_map (λ named. named.1) (find (λ named. bytes_eq l named.0) named_sets))
    (sym (lower-same name e))

-- A name with a letter from A to Z is none in lower case.
pub spelled_by : (name : List ℕ)
    → set_spelled name ≡ cond (list_any is_ascii_uppercase name) None (set_named name)
spelled_by name = spelled-cases name (has_upper name) refl
