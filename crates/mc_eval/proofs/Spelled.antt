-- What characters spell within the greatest length is a text of the set, of no more bytes.
use Rattle.std.proofs.Common.{◌≡◌, ℕ, ◌≤◌, List, [], Some, None, refl, sym, ap, ◌∙◌, arith, length}
use Rattle.std.specs.Prelude.{Option, option_and_then}
use Rattle.std.proofs.lemmas.Bool.Decides.{nat_tests}
use Rattle.mc_charset.specs.Chars.{IsWellFormed, Spells, spell_all}
use Rattle.mc_charset.specs.declared.charset.Charset.{Charset}
use Rattle.mc_strfun.specs.Joins.{spelled_within}
use Rattle.mc_values.specs.Values.{greatest_string, within_limit}

limit_same : (text kept : List ℕ) → within_limit text ≡ Some kept → (kept ≡ text) × (length kept ≤ greatest_string)
limit_same text kept e = grind (arith, nat_tests)

of_spelled : (set : Charset) (codes kept : List ℕ) (o : Option (List ℕ)) → spell_all set codes ≡ o
    → option_and_then within_limit o ≡ Some kept → Spells set codes kept × (length kept ≤ greatest_string)
of_spelled set codes kept None e h = absurd (cc)
of_spelled set codes kept (Some text) e h =
    let s = limit_same text kept h in (e ∙ ap (λ t. Some t) (sym s.0), s.1)

pub spelled_kept : (set : Charset) (codes kept : List ℕ) → spelled_within set codes ≡ Some kept
    → Spells set codes kept × (length kept ≤ greatest_string)
spelled_kept set codes kept h = of_spelled set codes kept (spell_all set codes) refl h

some_kept : (set : Charset) (codes : Option (List ℕ)) (kept : List ℕ)
    → Some kept ≡ option_and_then (spelled_within set) codes
    → IsWellFormed set kept × (length kept ≤ greatest_string)
some_kept set None kept h = absurd (cc)
some_kept set (Some codes) kept h = let s = spelled_kept set codes kept (sym h) in ((codes, s.0), s.1)

pub well_formed : (set : Charset) (codes : Option (List ℕ)) (kept : List ℕ)
    → Some kept ≡ option_and_then (spelled_within set) codes → IsWellFormed set kept
well_formed set codes kept h = (some_kept set codes kept h).0

pub short : (set : Charset) (codes : Option (List ℕ)) (kept : List ℕ)
    → Some kept ≡ option_and_then (spelled_within set) codes → length kept ≤ greatest_string
short set codes kept h = (some_kept set codes kept h).1

pub empty : (set : Charset) → IsWellFormed set []
unfolding spell_all
empty set = ([], refl)
