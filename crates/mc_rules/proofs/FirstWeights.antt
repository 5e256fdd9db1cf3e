-- A code point without an entry weighs on the first level, unless it takes its jamo's elements.
use Rattle.std.proofs.Common.{◌≡◌, ℕ, ◌+◌, ◌/◌, ◌%◌, ◌==◌, ◌≤◌, ◌&&◌, Bool, true, false, not, cond, List, [], ◌∷◌, length, Option, Some, None, nat_lt, subst, sym, arith}
use Rattle.std.specs.FinMap as map
use Rattle.std.specs.Option.{option_map_or, is_some}
use Rattle.std.proofs.lemmas.Bool.Decides.{nat_tests}
use Rattle.mc_allkeys.specs.Levels.{level_weights}
use Rattle.mc_allkeys.specs.Table.{ElementTable, implicit_of}
use Rattle.mc_allkeys.specs.declared.element.Element.{Element}
use Rattle.mc_rules.specs.Bases.{old_base, new_base}
use Rattle.mc_rules.specs.Elements.{elements_of}
use Rattle.mc_rules.specs.Jamo.{is_syllable}
use Rattle.mc_rules.specs.Outside.{pair, implicit, uncovered, outside_of, takes_jamo}
use Rattle.mc_rules.specs.declared.family.UcaFamily.{UcaFamily}
use Rattle.mc_rules.specs.declared.family.UcaFamily.TheVariants.{Uca4, Uca520, Uca9}

-- Elements have a weight on the first level.
abbrev Weigh : List Element → Type 0
Weigh elements = 1 ≤ length (level_weights 1 elements)

second_stays : (x y : Bool) (a b : ℕ) → y ≡ true →
    1 ≤ length (cond x (a ∷ cond y (b ∷ []) []) (cond y (b ∷ []) []))
second_stays true true a b e = omega arith
second_stays false true a b e = omega arith
second_stays x false a b e = absurd cc

pair_weighs : (first second : ℕ) → 1 ≤ second → Weigh (pair first second)
pair_weighs first second some =
    let more : not (second == 0) ≡ true = grind (arith, nat_tests) in
    second_stays (not (first == 0)) (not (second == 0)) first second more

implicit_weighs : (base number : ℕ) → Weigh (implicit base number)
implicit_weighs base number =
    pair_weighs (base + number / 0x8000) (number % 0x8000 + 0x8000) (omega arith)

one_weighs : Weigh (record { p = 0xFFFD; s = 0x20; t = 2 } ∷ [])
one_weighs = omega arith

either : (b : Bool) (xs ys : List Element) → Weigh xs → Weigh ys → Weigh (cond b xs ys)
either true xs ys hx hy = hx
either false xs ys hx hy = hy

second_of : (b : Bool) (xs ys : List Element) → b ≡ false → Weigh ys → Weigh (cond b xs ys)
second_of true xs ys e h = absurd cc
second_of false xs ys e h = h

new_weighs : (table : ElementTable) (code : ℕ) (covered : Option (ℕ × ℕ)) →
    (not (is_some covered) && is_syllable code) ≡ false →
    Weigh (option_map_or (λ (one : ℕ × ℕ). pair one.0 (one.1 % 0x8000 + 0x8000)) covered
    (uncovered table.entries code))
new_weighs table code None e =
    second_of (is_syllable code) _ (implicit (new_base code) code) e
    (implicit_weighs (new_base code) code)
new_weighs table code (Some one) e = pair_weighs one.0 (one.1 % 0x8000 + 0x8000) (omega arith)

outside_weighs : (table : ElementTable) (kind : UcaFamily) (code : ℕ) →
    takes_jamo table kind code ≡ false → Weigh (outside_of table kind code)
unfolding outside_of
outside_weighs table Uca4 code e =
    either (nat_lt 0xFFFF code) _ _ one_weighs (implicit_weighs (old_base code) code)
outside_weighs table Uca520 code e = implicit_weighs (old_base code) code
outside_weighs table Uca9 code e = new_weighs table code (implicit_of table.ranges code) e

pub unlisted_weighs : (table : ElementTable) (kind : UcaFamily) (code : ℕ) →
    map.get table.entries (code ∷ []) ≡ None → takes_jamo table kind code ≡ false →
    1 ≤ length (level_weights 1 (elements_of table kind (code ∷ [])))
unlisted_weighs table kind code none e =
    subst (λ (found : Option (List Element)).
    Weigh (option_map_or (λ elements. elements) found (outside_of table kind code))) (sym none)
    (outside_weighs table kind code e)
