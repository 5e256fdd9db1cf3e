-- How many intervals there are, counted before they are made.
use Rattle.std.proofs.Common.{◌≡◌, ℕ, suc, ◌+◌, ◌-◌, ◌*◌, ◌^◌, ◌<◌, ◌≤◌, min, Bool, true, false}
use Rattle.std.proofs.Common.{nat_le, Some, None, if◌then◌else◌}
use Rattle.std.proofs.Common.{List, [], ◌∷◌, ◌++◌, append_assoc, map, length, length-append, refl}
use Rattle.std.proofs.Common.{sym, ap, ◌∙◌}
use Rattle.std.proofs.Common.{⊎_elim, le-leb, leb-true, arith}
use Rattle.std.specs.Int.{from_bool}
use Rattle.std.proofs.lemmas.Bool.{cases_lt, lt-leb}
use Rattle.std.proofs.lemmas.List.{length-map}
use Rattle.mc_order.specs.Meaning.{Meaning, separator}
use Rattle.mc_key.specs.Keys.{top}
use Rattle.mc_range.specs.Candidates.{candidates, may_pass}
use Rattle.mc_range.specs.Intervals.{from_to, around, passing, equal_front}
use Rattle.mc_range.specs.Intervals.{most_intervals, within_most}
use Rattle.mc_range.specs.Appends.{Appends}
use Rattle.mc_range.specs.declared.equal.Put.{Put}
use Rattle.mc_range.specs.declared.equal.Put.TheVariants.{All, TooMany}
use Rattle.mc_range.specs.declared.interval.Interval.{Interval}
use Rattle.mc_range.proofs.Candidates.{length-candidates}
use Rattle.mc_range.proofs.Loops.{candidates-least}

passing_by : (m : Meaning) (weights : List ℕ) (may : Bool) → may_pass m ≡ may →
    length (passing m weights) ≡ from_bool may
passing_by m weights true e =
    ap
    (λ b. length
    (if b then from_to (weights ++ separator ∷ []) (weights ++ top ∷ []) ∷ [] else []))
    e
passing_by m weights false e =
    ap
    (λ b. length
    (if b then from_to (weights ++ separator ∷ []) (weights ++ top ∷ []) ∷ [] else []))
    e

length-equal_front : (m : Meaning) (k : ℕ) (weights : List ℕ) →
    length (equal_front m k weights)
    ≡ suc (length weights - min (m.floor k) (length weights)) * suc (length m.tails)
    + from_bool (may_pass m)
length-equal_front m k weights =
    length-append (map (around m) (candidates (m.floor k) m.tails weights)) (passing m weights)
    ∙ ap (λ n. n + length (passing m weights))
    (length-map (candidates (m.floor k) m.tails weights) (around m)
    ∙ length-candidates (m.floor k) m.tails weights)
    ∙ ap (λ n. suc (length weights - min (m.floor k) (length weights)) * suc (length m.tails) + n)
    (passing_by m weights (may_pass m) refl)

-- A sum that stands still at the greatest number is as far below the most as the sum itself.
saturated : (made product more : ℕ) →
    nat_le (min (made + min (min product (2 ^ 64 - 1) + more) (2 ^ 64 - 1)) (2 ^ 64 - 1)) 4096
    ≡ nat_le (made + (product + more)) 4096
saturated made product more =
    ⊎_elim
    (λ over. lt-leb (min (made + min (min product (2 ^ 64 - 1) + more) (2 ^ 64 - 1)) (2 ^ 64 - 1))
    4096 (omega arith) ∙ sym (lt-leb (made + (product + more)) 4096 over))
    (λ within. le-leb (min (made + min (min product (2 ^ 64 - 1) + more) (2 ^ 64 - 1))
    (2 ^ 64 - 1)) 4096 (omega arith) ∙ sym (le-leb (made + (product + more)) 4096 within))
    (cases_lt 4096 (made + (product + more)))

-- The count in the code's numbers.
pub fits_is : (m : Meaning) (k made least fronts tails passing product more sum : ℕ)
    (weights : List ℕ) → least ≡ min (m.floor k) (length weights) →
    fronts ≡ length weights - least + 1 → tails ≡ length m.tails + 1 →
    passing ≡ from_bool (may_pass m) → product ≡ min (fronts * tails) (2 ^ 64 - 1) →
    more ≡ min (product + passing) (2 ^ 64 - 1) → sum ≡ min (made + more) (2 ^ 64 - 1) →
    nat_le sum 4096 ≡ nat_le (made + length (equal_front m k weights)) most_intervals
fits_is m k made least fronts tails passing product more sum weights l f t p pr mo s =
    let one : fronts ≡ suc (length weights - min (m.floor k) (length weights)) = omega arith in
    let other : tails ≡ suc (length m.tails) = omega arith in
    ap (λ n. nat_le n 4096) (s ∙ ap (λ n. min (made + n) (2 ^ 64 - 1)) (mo
    ∙ ap (λ n. min (n + passing) (2 ^ 64 - 1)) pr))
    ∙ saturated made (fronts * tails) passing
    ∙ ap (λ n. nat_le (made + (n + passing)) 4096) (ap (λ n. n * tails) one
    ∙ ap (λ n. suc (length weights - min (m.floor k) (length weights)) * n) other)
    ∙ ap (λ n. nat_le (made + (suc (length weights - min (m.floor k) (length weights))
    * suc (length m.tails) + n)) 4096) p
    ∙ ap (λ n. nat_le (made + n) 4096) (sym (length-equal_front m k weights))

-- What fits is within the most, and what does not is not.
pub within_most_of : (list : List Interval) → length list ≤ most_intervals →
    within_most list ≡ Some list
within_most_of list within =
    ap (λ b. if b then Some list else None) (le-leb (length list) most_intervals within)

pub above_most : (list : List Interval) → most_intervals < length list → within_most list ≡ None
above_most list over =
    ap (λ b. if b then Some list else None) (lt-leb (length list) most_intervals over)

-- What was counted is appended.
pub equal_put : (m : Meaning) (k least : ℕ) (weights : List ℕ) (old middle new : List Interval) →
    least ≡ min (m.floor k) (length weights) →
    middle ≡ old ++ map (around m) (candidates least m.tails weights) →
    new ≡ middle ++ passing m weights → new ≡ old ++ equal_front m k weights
equal_put m k least weights old middle new e first last =
    last ∙ ap (λ l. l ++ passing m weights) first
    ∙ append_assoc old (map (around m) (candidates least m.tails weights)) (passing m weights)
    ∙ ap (λ l. old ++ (map (around m) l ++ passing m weights))
    (candidates-least (m.floor k) least m.tails weights e)

pub is_within : (b : Bool) (n : ℕ) → b ≡ nat_le n most_intervals → b ≡ true → n ≤ most_intervals
is_within b n e h = leb-true n most_intervals (sym e ∙ h)

-- All were appended, and the list is within the most.
pub appended : (put : Put) (before after more : List Interval) → put ≡ All →
    Appends put before after more →
    (after ≡ before ++ more) × (length after ≤ most_intervals)
appended All before after more e h =
    let size : length after ≡ length before + length more =
    ap length h.0 ∙ length-append before more in
    let within = h.1 in
    (h.0, omega arith)
appended TooMany before after more e h = absurd (let never : ⊥ = cc in never)

pub not_appended : (put : Put) (before after more : List Interval) → put ≡ TooMany →
    Appends put before after more → most_intervals < length before + length more
not_appended All before after more e h = absurd (let never : ⊥ = cc in never)
not_appended TooMany before after more e h = h

-- From nothing, what was appended is all.
pub all_named : (put : Put) (before after more : List Interval) → before ≡ [] → put ≡ All →
    Appends put before after more → Some after ≡ within_most more
all_named put before after more none e h =
    let done = appended put before after more e h in
    let is : after ≡ more = done.0 ∙ ap (λ l. l ++ more) none in
    ap Some is
    ∙ sym (within_most_of more (let size = ap length is in let w = done.1 in omega arith))

pub none_named : (put : Put) (before after more : List Interval) → before ≡ [] →
    put ≡ TooMany → Appends put before after more → None ≡ within_most more
none_named put before after more none e h =
    let over = not_appended put before after more e h in
    sym (above_most more (let size = ap length none in omega arith))
