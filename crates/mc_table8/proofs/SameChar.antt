-- Characters are the same where both their weights are.
use Rattle.std.proofs.Common.{◌≡◌, ◌↔◌, ℕ, ◌+◌, ◌==◌, ◌&&◌, IsTrue, List, [], ◌∷◌, ◌++◌, Option, Some, None, append-nil, refl, sym, ap, ◌∙◌, arith}
use Rattle.std.specs.Option.{option_eq}
use Rattle.std.proofs.lemmas.Bool.Decides.{nat_tests}
use Rattle.mc_charset.specs.declared.charset.Charset.{Charset}
use Rattle.mc_charset.specs.Chars.{spell}
use Rattle.mc_order.specs.Bin.{first_byte}
use Rattle.mc_table8.specs.Table8.{byte_entry}
use Rattle.mc_table8.specs.Table8Meaning.{entry_weights, char_weights}

-- The weights of an entry give the entry back.
entries_same : (x y : ℕ × Option ℕ) →
    IsTrue ((x.0 == y.0) && option_eq (λ a b. a == b) x.1 y.1)
    ↔ (entry_weights x ≡ entry_weights y)
entries_same (n, None) (m, None) = (
  λ t. let s : n ≡ m = grind (arith, nat_tests) in ap (λ k. (k + 1) ∷ []) s,
  λ e. let s : n + 1 ≡ m + 1 = cc in grind (arith, nat_tests),
)
entries_same (n, None) (m, Some b) = (λ t. grind (arith, nat_tests), λ e. absurd cc)
entries_same (n, Some a) (m, None) = (λ t. grind (arith, nat_tests), λ e. absurd cc)
entries_same (n, Some a) (m, Some b) = (
  λ t. let s : n ≡ m = grind (arith, nat_tests) in let d : a ≡ b = grind (arith, nat_tests) in
      rw (s, d) refl,
  λ e. let s : n + 1 ≡ m + 1 = cc in let d : a + 1 ≡ b + 1 = cc in grind (arith, nat_tests),
)

char_is : (set : Charset) (entries : List (ℕ × Option ℕ)) (c byte : ℕ) (x : ℕ × Option ℕ) →
    spell set c ≡ Some (byte ∷ []) → x ≡ byte_entry entries byte →
    entry_weights x ≡ char_weights set entries c ++ []
unfolding char_weights
char_is set entries c byte x e d =
    ap entry_weights d
    ∙ sym (ap (λ t. entry_weights (byte_entry entries (first_byte t))) e)
    ∙ sym (append-nil (char_weights set entries c))

pub same_char_is : (set : Charset) (entries : List (ℕ × Option ℕ)) (c d left right : ℕ)
    (x y : ℕ × Option ℕ) → spell set c ≡ Some (left ∷ []) → spell set d ≡ Some (right ∷ []) →
    x ≡ byte_entry entries left → y ≡ byte_entry entries right →
    IsTrue ((x.0 == y.0) && option_eq (λ a b. a == b) x.1 y.1)
    ↔ (char_weights set entries c ++ [] ≡ char_weights set entries d ++ [])
same_char_is set entries c d left right x y sc sd ex ey =
    let cx = char_is set entries c left x sc ex in
    let cy = char_is set entries d right y sd ey in
    let h = entries_same x y in
    (λ t. sym cx ∙ h.0 t ∙ cy, λ e. h.1 (cx ∙ e ∙ sym cy))
