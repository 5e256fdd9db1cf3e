-- A written text has no separator in it, and reads back.
use Rattle.std.proofs.Common.{◌≡◌, ℕ, Bool, true, false, cond, List, [], ◌∷◌, ◌++◌, codes, refl, sym, ap, ◌∙◌, subst, arith}
use Rattle.std.specs.Prelude.{◌==◌}
use Rattle.std.specs.List.{flat_map, list_any}
use Rattle.std.proofs.lemmas.Bool.Decides.{nat_tests}
use Rattle.mc_print.specs.Escapes.{nul, tab, line_feed, backslash, escaped_byte, as_written, is_separator, read_back}

-- A byte is this one, or it isn't.
pick : (P : ℕ → List ℕ → Type 0) (b it : ℕ) (one rest : List ℕ) → P it one → ((b == it) ≡ false → P b rest) → P b (cond (b == it) one rest)
pick P b it one rest same other = by (b == it) refl where
  by : (x : Bool) → (b == it) ≡ x → P b (cond x one rest)
  by true e = let equal : b ≡ it = grind (arith, nat_tests) in subst (λ c. P c one) (sym equal) same
  by false e = other e

-- What holds of the four escapes and of each byte that stands for itself holds of each byte as it is written.
each_byte : (P : ℕ → List ℕ → Type 0) → P nul (codes "\\0") → P tab (codes "\\t") → P line_feed (codes "\\n") → P backslash (codes "\\\\")
    → ((b : ℕ) → is_separator b ≡ false → (b == backslash) ≡ false → P b (b ∷ [])) → (b : ℕ) → P b (escaped_byte b)
each_byte P n t l s itself b =
    pick P b nul _ _ n (λ e. pick P b tab _ _ t (λ f. pick P b line_feed _ _ l (λ g. pick P b backslash _ _ s (λ h.
    itself b (rw (e, f, g) refl) h))))

-- No separator is added in front of a text without one.
abbrev AddsNone : ℕ → List ℕ → Type 0
AddsNone b written = (rest : List ℕ) → list_any is_separator rest ≡ false → list_any is_separator (written ++ rest) ≡ false

adds_none : (b : ℕ) → AddsNone b (escaped_byte b)
adds_none = each_byte AddsNone (λ rest h. h) (λ rest h. h) (λ rest h. h) (λ rest h. h) (λ b e f rest h. rw (e, h) refl)

pub no_separator : (text : List ℕ) → list_any is_separator (as_written text) ≡ false
unfolding as_written
no_separator [] = refl
no_separator (b ∷ text) = adds_none b (flat_map escaped_byte text) (no_separator text)

plain_front : (b : ℕ) (rest : List ℕ) → (b == backslash) ≡ false → read_back (b ∷ rest) ≡ b ∷ read_back rest
plain_front b [] e = refl
plain_front b (c ∷ rest) e = rw e refl

-- In front of any text it is read as the byte.
abbrev ReadsAs : ℕ → List ℕ → Type 0
ReadsAs b written = (rest : List ℕ) → read_back (written ++ rest) ≡ b ∷ read_back rest

reads_as : (b : ℕ) → ReadsAs b (escaped_byte b)
reads_as = each_byte ReadsAs (λ rest. refl) (λ rest. refl) (λ rest. refl) (λ rest. refl) (λ b e f rest. plain_front b rest f)

pub reads_back : (text : List ℕ) → read_back (as_written text) ≡ text
unfolding as_written
reads_back [] = refl
reads_back (b ∷ text) = reads_as b (flat_map escaped_byte text) ∙ ap (λ bytes. b ∷ bytes) (reads_back text)
