-- The bytes of a text of the tests' small kind are its characters.
use Rattle.std.proofs.Common.{◌≡◌, ℕ, ◌+◌, ◌-◌, ◌/◌, ◌<◌, zero, suc, Bool, true, false, cond, List, [], ◌∷◌, ◌++◌, Some, None, length, get_or, drop, refl, sym, ap, ◌∙◌, arith}
use Rattle.mc_charset.specs.declared.charset.Charset.TheVariants.{Binary}
use Rattle.mc_charset.specs.Chars.{spell, chars, Spells, IsWellFormed}
use Rattle.mc_order.specs.Toy.{folded, capital_weights, begins_dzs, dzs_weights, toy_list}
use Rattle.mc_order.specs.ToyLaws.{toy_list-dzs, toy_list-char, toy_list-none}
use Rattle.mc_order.proofs.Boundary.{split, nothing_spelled}

byte_row : (has : Bool) (code : ℕ) (text : List ℕ) →
    cond has (Some ((0 + (code - 0) / 1) ∷ [])) None ≡ Some text → text ≡ code ∷ []
byte_row true code text e =
    let is : (0 + (code - 0) / 1) ∷ [] ≡ text = cc in let n : 0 + (code - 0) / 1 ≡ code =
    omega arith in sym is ∙ ap (λ b. b ∷ []) n
byte_row false code text e = absurd cc

spelled_itself : (code : ℕ) (text : List ℕ) → spell Binary code ≡ Some text → text ≡ code ∷ []
unfolding spell
spelled_itself code text e = byte_row _ code text e

pub bytes_are : (codes text : List ℕ) → Spells Binary codes text → text ≡ codes
bytes_are [] text h = nothing_spelled Binary text h
bytes_are (code ∷ codes) text h =
    let parts = split Binary code codes text h in
    parts.4 ∙ ap (λ t. t ++ parts.1) (spelled_itself code parts.0 parts.2)
    ∙ ap (λ rest. code ∷ rest) (bytes_are codes parts.1 parts.3)

-- What is behind the characters that a piece takes.
pub toy_list-behind : (skipped level : ℕ) (codes : List ℕ) →
    toy_list skipped level codes ≡ toy_list 0 level (drop skipped codes)
unfolding toy_list
toy_list-behind zero level codes = refl
toy_list-behind (suc skipped) level [] = refl
toy_list-behind (suc skipped) level (code ∷ codes) = toy_list-behind skipped level codes

-- The piece that begins a text.
pub piece_dzs : (level : ℕ) (text : List ℕ) → begins_dzs text ≡ true →
    toy_list 0 level text ≡ dzs_weights level ++ toy_list 0 level (drop 3 text)
piece_dzs level [] e = absurd cc
piece_dzs level (code ∷ codes) e =
    toy_list-dzs level code codes e ∙ ap (λ t. dzs_weights level ++ t) (toy_list-behind 2 level codes)

pub piece_char : (level : ℕ) (text : List ℕ) → begins_dzs text ≡ false → 0 < length text →
    toy_list 0 level text ≡ capital_weights level (folded (get_or text 0 0))
    ++ toy_list 0 level (drop 1 text)
piece_char level [] e some = absurd (omega arith)
piece_char level (code ∷ codes) e some = toy_list-char level code codes e

pub ruleset pieces = (piece_dzs, piece_char)

pub toy_list-gone : (level : ℕ) (text : List ℕ) → length text ≡ 0 → toy_list 0 level text ≡ []
toy_list-gone level [] none = toy_list-none 0 level
toy_list-gone level (code ∷ codes) none = absurd (omega arith)

pub chars_themselves : ((codes text : List ℕ) → Spells Binary codes text → chars Binary text ≡ codes) →
    (text : List ℕ) → IsWellFormed Binary text → chars Binary text ≡ text
chars_themselves decodes text h = decodes h.0 text h.1 ∙ sym (bytes_are h.0 text h.1)
