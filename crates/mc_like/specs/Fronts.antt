-- How far the items before the first `%` match.
use Rattle.std.specs.Prelude.{◌≡◌, ◌↔◌, ℕ, ◌+◌, ◌-◌, ◌^◌, ◌≤◌, Bool}
use Rattle.std.specs.Prelude.{true, false}
use Rattle.std.specs.Prelude.{List, [], ◌∷◌, length, min, ⊤}
use Rattle.mc_charset.specs.declared.charset.Charset.{Charset}
use Rattle.mc_charset.specs.Chars.{chars}
use Rattle.mc_order.specs.Meaning.{Meaning}
use Rattle.mc_order.specs.Consequences.{IsSameChar}
use Rattle.mc_like.specs.declared.fit.Fit.{Fit}
use Rattle.mc_like.specs.declared.fit.Fit.TheVariants.{Misfit, Short, Whole, Gap}
use Rattle.mc_like.specs.declared.item.PatternItem.{PatternItem}
use Rattle.mc_like.specs.declared.item.PatternItem.TheVariants.{Literal, One, Any}
use Rattle.mc_like.specs.Items.{literal_count}
use Rattle.mc_like.specs.Like.{Like}
use Rattle.mc_like.specs.Pattern.{AreOfSet}

-- where a counter of steps stands still
abbrev pub last_count : ℕ
last_count = 2 ^ 64 - 1

-- The item, which is not `%`, takes this one character.
abbrev pub Takes : Meaning → PatternItem → ℕ → Type 0
Takes m (Literal literal) code = IsSameChar m literal code
Takes m One code = ⊤
Takes m Any code = ⊤

-- whether one of the items is `%`
unfoldable pub has_any : List PatternItem → Bool
has_any [] = false
has_any (Literal code ∷ items) = has_any items
has_any (One ∷ items) = has_any items
has_any (Any ∷ items) = true

-- The items up to a `%` are matched, one character each, and what is behind decides: also where
-- more of the text had been passed over in front of them.
pub record Reaches (m : Meaning) (items more : List PatternItem) (codes rest : List ℕ)
    : Type 0 where
  pub whole : Like m items codes ↔ Like m (Any ∷ more) rest
  pub later : Like m (Any ∷ items) codes ↔ Like m (Any ∷ more) rest
  pub some_any : has_any items ≡ true
  pub shorter : length more + 1 ≤ length items
  pub one_each : length codes + (length more + 1) ≡ length rest + length items

-- The answer is how far the items match.
abbrev pub IsFit : Meaning → Charset → List PatternItem → List ℕ → Fit → Type 0
IsFit m set items codes Misfit = Like m items codes → ⊥
IsFit m set items codes Short = Like m (Any ∷ items) codes → ⊥
IsFit m set items codes Whole = Like m items codes
IsFit m set items codes (Gap more rest) = Reaches m items more.now codes (chars set rest.now)

-- The counter went on by as many ticks as there are items at most, and by as many as there are
-- literals at least, unless it stands at its end; up to a `%`, so much less.
abbrev pub Ticks : List PatternItem → ℕ → ℕ → Fit → Type 0
Ticks items old new Misfit = (new ≤ old + length items) × (min old last_count ≤ new)
Ticks items old new Short = new ≤ old + length items
Ticks items old new Whole =
    (new ≤ old + length items) × (min (old + literal_count items) last_count ≤ new)
Ticks items old new (Gap more rest) =
    (new + (length more.now + 1) ≤ old + length items)
    × (min (old + literal_count items) last_count
    ≤ min (new + literal_count more.now) last_count)

-- What is left behind a `%` names characters of the set, where the items do.
abbrev pub LeavesOfSet : Charset → Fit → Type 0
LeavesOfSet set (Gap more rest) = AreOfSet set more.now
LeavesOfSet set _ = ⊤
