-- So many characters, counted in 32 bits.
use Rattle.std.proofs.Common.{◌≡◌, ℕ, ◌-◌, ◌<◌, ◌≤◌, ◌^◌, ℤ, Option, None, Some, [], List, length, min, take, drop, sym, ap, subst, ◌∙◌, arith}
use Rattle.std.proofs.lemmas.List.{take_min, drop_min, length-drop}
use Rattle.std.proofs.Math.Seq.{take-length}
use Rattle.mc_charset.specs.declared.charset.Charset.{Charset}
use Rattle.mc_charset.specs.Chars.{chars, Spells}
use Rattle.mc_strfun.specs.Numbers.{greatest_count}
use Rattle.mc_strfun.specs.Slices.{as_many, before, substring_of}
use Rattle.mc_strfun.proofs.Lengths.{as_long, empty_spelled}

same_take : (n : ℕ) (codes : List ℕ) → length codes ≤ greatest_count → take (min n greatest_count) codes ≡ take n codes
same_take n codes h =
    sym (take_min (min n greatest_count) codes) ∙ ap (λ k. take k codes) (omega arith) ∙ take_min n codes

same_drop : (n : ℕ) (codes : List ℕ) → length codes ≤ greatest_count → drop (min n greatest_count) codes ≡ drop n codes
same_drop n codes h =
    sym (drop_min (min n greatest_count) codes) ∙ ap (λ k. drop k codes) (omega arith) ∙ drop_min n codes

pub chars_count : (set : Charset) (text : List ℕ) → Spells set (chars set text) text → length text < 2 ^ 32 → length (chars set text) ≤ greatest_count
chars_count set text h l = omega (arith, as_long set (chars set text) text h)

pub front_spelled : (set : Charset) (text front : List ℕ) (n k : ℕ) → Spells set (chars set text) text → length text < 2 ^ 32 → k ≡ min n greatest_count
    → Spells set (take k (chars set text)) front → Spells set (take n (chars set text)) front
front_spelled set text front n k h l e s =
    subst (λ codes. Spells set codes front) (ap (λ m. take m (chars set text)) e ∙ same_take n (chars set text) (chars_count set text h l)) s

pub behind_spelled : (set : Charset) (text rest : List ℕ) (n k : ℕ) → Spells set (chars set text) text → length text < 2 ^ 32 → k ≡ min n greatest_count
    → Spells set (drop k (chars set text)) rest → Spells set (drop n (chars set text)) rest
behind_spelled set text rest n k h l e s =
    subst (λ codes. Spells set codes rest) (ap (λ m. drop m (chars set text)) e ∙ same_drop n (chars set text) (chars_count set text h l)) s

pub rest_behind : (start : ℕ) (text : List ℕ) → take (length text - start) (drop start text) ≡ drop start text
rest_behind start text =
    ap (λ n. take n (drop start text)) (sym (length-drop start text)) ∙ take-length (drop start text)

-- No character has the number.
pub no_part : (set : Charset) (number : ℤ) (asked : Option ℤ) (codes : List ℕ) → before number (length codes) ≡ None → Spells set (substring_of number asked codes) []
unfolding substring_of
no_part set number asked codes e =
    subst (λ (o : Option ℕ). Spells set (elim o [ None ↦ [] | Some k ↦ as_many asked (drop k codes) ]) []) (sym e) (empty_spelled set)
