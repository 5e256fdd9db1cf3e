-- Characters are code points, and a text is well formed where its characters spell it.
use Rattle.std.proofs.Common.{◌≡◌, ◌↔◌, ◌-◌, ◌<◌, ℕ, zero, suc, IsTrue, true, false, List, [], ◌∷◌, Option, Some, None, All, refl, sym, ap, ◌∙◌}
use Rattle.std.specs.Option.{option_map_or}
use Rattle.std.specs.Str.{bytes_eq}
use Rattle.std.proofs.lemmas.List.Elements.{All-nil, All-cons}
use Rattle.std.proofs.lemmas.Slice.Eq.{bytes_eq-Decides}
use Rattle.mc_charset.specs.declared.charset.Charset.{Charset}
use Rattle.mc_charset.specs.Rows.{first_in}
use Rattle.mc_charset.specs.Tables.{rows}
use Rattle.mc_charset.specs.Chars.{spell_all, chars_behind, chars, code_points, is_spelled, IsWellFormed}
use Rattle.mc_charset.proofs.Chars.{found_is_first, well_formed_spelled}

behind : (set : Charset) (byte : ℕ) (bytes : List ℕ) (found : Option (ℕ × ℕ)) → ((skipped : ℕ) → All (λ code. code < code_points) (chars_behind set skipped bytes))
    → first_in (rows set) (byte ∷ bytes) ≡ found
    → All (λ code. code < code_points) (elim found [ None ↦ [] | Some pair ↦ pair.0 ∷ chars_behind set (pair.1 - 1) bytes ])
behind set byte bytes None rest e = All-nil (λ code. code < code_points)
behind set byte bytes (Some pair) rest e =
    All-cons (λ code. code < code_points) pair.0 (chars_behind set (pair.1 - 1) bytes)
    (found_is_first set (byte ∷ bytes) pair.0 pair.1 e).is_code_point (rest (pair.1 - 1))

behind_code_points : (set : Charset) (skipped : ℕ) (text : List ℕ) → All (λ code. code < code_points) (chars_behind set skipped text)
unfolding chars_behind
behind_code_points set skipped [] = All-nil (λ code. code < code_points)
behind_code_points set (suc skipped) (byte ∷ bytes) = behind_code_points set skipped bytes
behind_code_points set zero (byte ∷ bytes) =
    behind set byte bytes (first_in (rows set) (byte ∷ bytes)) (λ skipped. behind_code_points set skipped bytes) refl

pub chars_code_points : (set : Charset) (text : List ℕ) → All (λ code. code < code_points) (chars set text)
unfolding chars
chars_code_points set text = behind_code_points set 0 text

spells_by : (set : Charset) (codes text : List ℕ) (spelled : Option (List ℕ)) → spell_all set codes ≡ spelled
    → option_map_or (bytes_eq text) spelled false ≡ true → IsWellFormed set text
spells_by set codes text (Some spelled) e t =
    (codes, e ∙ ap (λ x. Some x) (sym ((bytes_eq-Decides text spelled).0 t)))
spells_by set codes text None e t = absurd cc

pub is_spelled_tells : (set : Charset) (text : List ℕ) → IsTrue (is_spelled set text) ↔ IsWellFormed set text
unfolding is_spelled
is_spelled_tells set text = (
  λ t. spells_by set (chars set text) text (spell_all set (chars set text)) refl t,
  λ w. ap (λ spelled. option_map_or (bytes_eq text) spelled false) (well_formed_spelled set text w) ∙ (bytes_eq-Decides text text).1 refl,
)
