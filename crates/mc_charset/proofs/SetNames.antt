-- Sets by their names.
use Rattle.std.proofs.Common.{◌≡◌, ◌↔◌, ◌⊎◌, ℕ, Bool, true, false, cond, IsTrue, List, [], ◌∷◌, Option, Some, length, codes, map, refl, sym, ap, ◌∙◌, subst, inl, inr}
use Rattle.std.specs.Char.{to_ascii_lowercase}
use Rattle.std.specs.List.{find}
use Rattle.std.specs.Option.{option_map}
use Rattle.std.specs.Str.{bytes_eq}
use Rattle.std.proofs.lemmas.Slice.Eq.{bytes_eq-Decides}
use Rattle.mc_charset.specs.declared.charset.Charset.{Charset}
use Rattle.mc_charset.specs.declared.charset.Charset.TheVariants.{Latin1, Ascii, Utf8mb3, Utf8mb4, Ucs2, Utf16, Utf32, Binary}
use Rattle.mc_charset.specs.Names.{name_of, named_sets, Names, set_named, same_set, built_in_names, built_in_count}

-- A set is the one of its name.
own : (set : Charset) → set_named (name_of set) ≡ Some set
unfolding set_named
own Latin1 = refl
own Ascii = refl
own Utf8mb3 = refl
own Utf8mb4 = refl
own Ucs2 = refl
own Utf16 = refl
own Utf32 = refl
own Binary = refl

some-injective : (set other : Charset) → Some set ≡ Some other → set ≡ other
some-injective set other e = cc

-- Two sets of one name are one.
one_name : (set other : Charset) → name_of set ≡ name_of other → set ≡ other
one_name set other e = some-injective set other (sym (own set) ∙ ap set_named e ∙ own other)

pub same_set_one : (set other : Charset) → IsTrue (same_set set other) ↔ (set ≡ other)
unfolding same_set
same_set_one set other = (
  λ t. one_name set other ((bytes_eq-Decides (name_of set) (name_of other)).0 t),
  λ e. (bytes_eq-Decides (name_of set) (name_of other)).1 (ap name_of e),
)

-- The set of a name

-- A set that these names have for a name in lower case.
abbrev set_in : List (List ℕ × Charset) → List ℕ → Option Charset
set_in sets low = option_map (λ named. named.1) (find (λ named. bytes_eq low named.0) sets)

-- Each listed set has it where its name does.
abbrev EachNamed : (List ℕ → Charset → Type 0) → List (List ℕ × Charset) → Type 0
EachNamed P [] = Unit
EachNamed P (named ∷ sets) = P named.0 named.1 × EachNamed P sets

found_step : (P : Charset → Type 0) (t : Bool) (named : List ℕ × Charset) (found : Option (List ℕ × Charset))
    (set : Charset) → (t ≡ true → P named.1) → (option_map (λ n. n.1) found ≡ Some set → P set)
    → option_map (λ n. n.1) (cond t (Some named) found) ≡ Some set → P set
found_step P true named found set here later e = subst P (some-injective named.1 set e) (here refl)
found_step P false named found set here later e = later e

found_has : (P : Charset → Type 0) (low : List ℕ) (sets : List (List ℕ × Charset)) (set : Charset)
    → EachNamed (λ name own_set. low ≡ name → P own_set) sets → set_in sets low ≡ Some set → P set
found_has P low [] set each e = absurd (cc)
found_has P low (named ∷ sets) set each e =
    found_step P (bytes_eq low named.0) named (find (λ n. bytes_eq low n.0) sets) set
    (λ t. each.0 ((bytes_eq-Decides low named.0).0 t)) (found_has P low sets set each.1) e

-- The name in lower case names the set.
abbrev NamesLow : List ℕ → Charset → Type 0
NamesLow low set = (low ≡ name_of set) ⊎ ((low ≡ codes "utf8") × (set ≡ Utf8mb3))

named_low : (low : List ℕ) (set : Charset) → set_in named_sets low ≡ Some set → NamesLow low set
named_low low set e =
    found_has (NamesLow low) low named_sets set (
      λ h. inl h,
      (
        λ h. inl h,
        (
          λ h. inl h,
          (
            λ h. inl h,
            (
              λ h. inl h,
              (
                λ h. inl h,
                (
                  λ h. inl h,
                  (
                    λ h. inl h,
                    (λ h. inr (h, refl), tt),
                  ),
                ),
              ),
            ),
          ),
        ),
      ),
    ) e

own_low : (set : Charset) → set_in named_sets (name_of set) ≡ Some set
own_low Latin1 = refl
own_low Ascii = refl
own_low Utf8mb3 = refl
own_low Utf8mb4 = refl
own_low Ucs2 = refl
own_low Utf16 = refl
own_low Utf32 = refl
own_low Binary = refl

utf8_low : set_in named_sets (codes "utf8") ≡ Some Utf8mb3
utf8_low = refl

low_named : (low : List ℕ) (set : Charset) → NamesLow low set → set_in named_sets low ≡ Some set
low_named low set (inl e) = ap (set_in named_sets) e ∙ own_low set
low_named low set (inr h) = ap (set_in named_sets) h.0 ∙ utf8_low ∙ ap (λ s. Some s) (sym h.1)

-- The set of a name is the one that it names.
pub set_named_names : (name : List ℕ) (set : Charset) → (set_named name ≡ Some set) ↔ Names name set
unfolding set_named
set_named_names name set =
    (named_low (map to_ascii_lowercase name) set, low_named (map to_ascii_lowercase name) set)

-- The count of the built-in collations is that of their names.
built_in_count-is : built_in_count ≡ length built_in_names
built_in_count-is = refl
