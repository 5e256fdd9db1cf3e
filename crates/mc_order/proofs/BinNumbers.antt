-- Characters and their numbers in the binary collations.
use Rattle.std.proofs.Common.{◌≡◌, ◌↔◌, ℕ, ◌+◌, Bool, true, false, IsTrue, List, [], ◌∷◌, ◌++◌, Some, map, append-nil, refl, sym, ap, ◌∙◌, arith, ◌-◌, take, take_all, drop, length, length-drop}
use Rattle.mc_charset.specs.declared.charset.Charset.{Charset}
use Rattle.std.proofs.lemmas.List.{map-append}
use Rattle.mc_charset.specs.Chars.{spell, chars}
use Rattle.mc_order.specs.Meaning.{IsCharOf}
use Rattle.mc_order.specs.Bin.{is_one_byte, first_byte, bin_number}
use Rattle.mc_order.specs.Spelling.{one_byte}
use Rattle.mc_order.specs.declared.pad.Pad.{Pad}
use Rattle.mc_order.specs.Boundary.{SharesFront}
use Rattle.mc_order.specs.Order.{list_order}
use Rattle.mc_order.proofs.Steps.{list_order-front}

-- No spelling of the set is a proper prefix of another one.
abbrev pub HasNoPrefix : Charset → Type 0
HasNoPrefix set =
    (code other : ℕ) (front more : List ℕ) → spell set code ≡ Some front →
    spell set other ≡ Some (front ++ more) → (code ≡ other) × (more ≡ [])

same_spelling : (set : Charset) (c d : ℕ) (front : List ℕ) → HasNoPrefix set →
    spell set c ≡ Some front → spell set d ≡ Some front → c ≡ d
same_spelling set c d front law sc sd =
    (law c d front [] sc (sd ∙ ap (λ t. Some t) (sym (append-nil front)))).0

-- Characters of one number are one.
pub same_number : (set : Charset) (one : Bool) (c d : ℕ) → is_one_byte set ≡ one →
    HasNoPrefix set → IsCharOf set c → IsCharOf set d → bin_number set c ≡ bin_number set d → c ≡ d
unfolding bin_number
same_number set true c d is law ic id e =
    let hc = one_byte set c ic.0 is ic.1 in
    let hd = one_byte set d id.0 is id.1 in
    let sc : spell set c ≡ Some (hc.0 ∷ []) = ic.1 ∙ ap (λ t. Some t) hc.1 in
    let sd : spell set d ≡ Some (hd.0 ∷ []) = id.1 ∙ ap (λ t. Some t) hd.1 in
    let f : first_byte (spell set c) ≡ first_byte (spell set d) = rw is at e in
    let b : hc.0 ≡ hd.0 = sym (ap first_byte sc) ∙ f ∙ ap first_byte sd in
    same_spelling set c d (hc.0 ∷ []) law sc (sd ∙ ap (λ x. Some (x ∷ [])) (sym b))
same_number set false c d is law ic id e = rw is at e

pub same_char_is : (set : Charset) (c d : ℕ) (r : Bool) → HasNoPrefix set → IsCharOf set c →
    IsCharOf set d → (IsTrue r ↔ (c ≡ d)) →
    IsTrue r ↔ (map (λ code. bin_number set code + 1) (c ∷ []) ≡ map
    (λ code. bin_number set code + 1) (d ∷ []))
same_char_is set c d r law ic id h = (
  (λ t. ap (λ x. map (λ code. bin_number set code + 1) (x ∷ [])) (h.0 t)),
  λ e. h.1 (same_number set (is_one_byte set) c d refl law ic id
      (let w : bin_number set c + 1 ≡ bin_number set d + 1 = cc in omega arith)),
)

take_rest : (xs : List ℕ) (n : ℕ) → take (length xs - n) (drop n xs) ≡ drop n xs
take_rest xs n = take_all (length xs - n) (drop n xs) (omega (arith, length-drop n xs))

-- What both texts begin with decides nothing.
pub behind_shared : (set : Charset) (pad : Pad) (space : ℕ) (f : ℕ → ℕ) (a b : List ℕ) (n : ℕ) →
    SharesFront set a b n →
    list_order pad space (map f (chars set (take (length a - n) (drop n a)))) (map f (chars set
    (take (length b - n) (drop n b))))
    ≡ list_order pad space (map f (chars set a)) (map f (chars set b))
behind_shared set pad space f a b n h =
    rw (take_rest a n, take_rest b n)
    (sym (rw (
      h.1,
      h.2,
      map-append f h.0 (chars set (drop n a)),
      map-append f h.0 (chars set
          (drop n b)),
    )
    (list_order-front pad space (map f h.0) (map f (chars set (drop n a))) (map f (chars set
    (drop n b))))))
