-- How the loops of this crate go on and end.
use Rattle.std.proofs.Common.{◌≡◌, ℕ, ◌+◌, ◌-◌, ◌<◌, ◌≤◌, min, Bool, true, false}
use Rattle.std.proofs.Common.{cond}
use Rattle.std.proofs.Common.{List, [], ◌∷◌, ◌++◌, append_assoc, append-nil, map, Option, Some}
use Rattle.std.proofs.Common.{None}
use Rattle.std.proofs.Common.{length, get_or, take, drop, refl, sym, ap, ◌∙◌, subst, arith}
use Rattle.std.proofs.Common.{take_all, take-add, length-append, Result, Ok, Err, IfOk}
use Rattle.std.specs.List.{flat_map}
use Rattle.std.specs.Option.{option_map}
use Rattle.std.proofs.lemmas.Bool.Decides.{nat_tests}
use Rattle.std.proofs.lemmas.List.{at_drop_more, drop_more, drop_all, take_more, map-append}
use Rattle.std.proofs.lemmas.List.Sums.{fold-append}
use Rattle.mc_charset.specs.declared.charset.Charset.{Charset}
use Rattle.mc_charset.specs.Chars.{spell, spell_all, Spells}
use Rattle.mc_order.specs.Consequences.{before_separator}
use Rattle.mc_order.specs.Meaning.{Meaning, separator}
use Rattle.mc_order.specs.Order.{list_order}
use Rattle.mc_range.specs.declared.condition.Cell.{Cell}
use Rattle.mc_range.specs.declared.interval.Interval.{Interval}
use Rattle.mc_range.specs.declared.place.Side.{Side}
use Rattle.mc_range.specs.Candidates.{numbers_from, with_tails, candidates, extreme}
use Rattle.mc_range.specs.Places.{best_on, wins}
use Rattle.mc_order.specs.declared.pad.Pad.{Pad}
use Rattle.mc_range.proofs.Compare.{FrontsFallAway}
use Rattle.mc_range.proofs.Candidates.{numbers_step, numbers_none, candidates-numbers}

-- What stands before the first separator.
pub first_ends : (list : List ℕ) (i : ℕ) → i < length list → get_or list i 0 ≡ separator →
    take i list ++ before_separator (drop i list) ≡ before_separator list →
    take i list ≡ before_separator list
first_ends list i within here so_far =
    let none : before_separator (drop i list) ≡ [] =
    at_drop_more before_separator list i 0 within
    ∙ ap (λ w. before_separator (w ∷ drop (i + 1) list)) here in
    sym (append-nil (take i list)) ∙ ap (λ l. take i list ++ l) (sym none) ∙ so_far

positive_first : (w : ℕ) (ws : List ℕ) → (w ≡ separator → ⊥) →
    before_separator (w ∷ ws) ≡ w ∷ before_separator ws
positive_first w ws some = grind (arith, nat_tests)

pub first_goes_on : (list : List ℕ) (i : ℕ) → i < length list →
    (get_or list i 0 ≡ separator → ⊥) →
    take i list ++ before_separator (drop i list) ≡ before_separator list →
    take (i + 1) list ++ before_separator (drop (i + 1) list) ≡ before_separator list
first_goes_on list i within other so_far =
    let here : before_separator (drop i list)
    ≡ get_or list i 0 ∷ before_separator (drop (i + 1) list) =
    at_drop_more before_separator list i 0 within
    ∙ positive_first (get_or list i 0) (drop (i + 1) list) other in
    ap (λ l. l ++ before_separator (drop (i + 1) list)) (take_more list i 0 within)
    ∙ append_assoc (take i list) (get_or list i 0 ∷ []) (before_separator (drop (i + 1) list))
    ∙ ap (λ l. take i list ++ l) (sym here) ∙ so_far

pub first_all : (list : List ℕ) (i : ℕ) → length list ≤ i →
    take i list ++ before_separator (drop i list) ≡ before_separator list →
    take i list ≡ before_separator list
first_all list i over so_far =
    sym (append-nil (take i list))
    ∙ ap (λ l. take i list ++ before_separator l) (sym (drop_all i list over)) ∙ so_far

-- One more interval of a tail.
pub tail_put : (f : List ℕ → Interval) (front : List ℕ) (tails : List (List ℕ)) (i : ℕ)
    (out new all : List Interval) (tail : List ℕ) → i < length tails →
    tail ≡ get_or tails i [] → new ≡ out ++ f (front ++ tail) ∷ [] →
    out ++ map f (map (λ t. front ++ t) (drop i tails)) ≡ all →
    new ++ map f (map (λ t. front ++ t) (drop (i + 1) tails)) ≡ all
tail_put f front tails i out new all tail within is pushed so_far =
    let rest = map f (map (λ t. front ++ t) (drop (i + 1) tails)) in
    ap (λ l. l ++ rest) pushed
    ∙ append_assoc out (f (front ++ tail) ∷ []) rest
    ∙ ap (λ t. out ++ f (front ++ t) ∷ rest) is
    ∙ ap (λ l. out ++ map f (map (λ t. front ++ t) l)) (sym (drop_more tails i [] within))
    ∙ so_far

pub tails_put : (f : List ℕ → Interval) (front : List ℕ) (tails : List (List ℕ)) (i : ℕ)
    (out all : List Interval) → length tails ≤ i →
    out ++ map f (map (λ t. front ++ t) (drop i tails)) ≡ all → out ≡ all
tails_put f front tails i out all over so_far =
    sym (append-nil out)
    ∙ ap (λ l. out ++ map f (map (λ t. front ++ t) l)) (sym (drop_all i tails over)) ∙ so_far

-- A front alone, and then with each tail.
pub alone_and_tails : (f : List ℕ → Interval) (front : List ℕ) (tails : List (List ℕ))
    (old one all : List Interval) → one ≡ old ++ f (front ++ []) ∷ [] →
    all ≡ one ++ map f (map (λ t. front ++ t) tails) →
    all ≡ old ++ map f (with_tails tails front)
alone_and_tails f front tails old one all first rest =
    rest ∙ ap (λ l. l ++ map f (map (λ t. front ++ t) tails)) first
    ∙ append_assoc old (f (front ++ []) ∷ []) (map f (map (λ t. front ++ t) tails))
    ∙ ap (λ l. old ++ f l ∷ map f (map (λ t. front ++ t) tails)) (append-nil front)

-- the fronts from a size on, alone and with each tail
abbrev pub fronts_from : List (List ℕ) → List ℕ → ℕ → ℕ → List (List ℕ)
fronts_from tails list size end =
    flat_map (λ n. with_tails tails (take n list)) (numbers_from size (end - size))

fronts_step : (tails : List (List ℕ)) (list : List ℕ) (size end : ℕ) → size < end →
    fronts_from tails list size end
    ≡ with_tails tails (take size list) ++ fronts_from tails list (size + 1) end
fronts_step tails list size end less =
    ap (flat_map (λ n. with_tails tails (take n list))) (numbers_step size end less)

fronts_end : (tails : List (List ℕ)) (list : List ℕ) (size end : ℕ) → end ≤ size →
    fronts_from tails list size end ≡ []
fronts_end tails list size end over =
    ap (flat_map (λ n. with_tails tails (take n list))) (numbers_none size end over)

-- The intervals of one front more.
pub front_put : (f : List ℕ → Interval) (tails : List (List ℕ)) (list : List ℕ) (size end : ℕ)
    (out new all : List Interval) (front : List ℕ) → size < end → front ≡ take size list →
    new ≡ out ++ map f (with_tails tails front) →
    out ++ map f (fronts_from tails list size end) ≡ all →
    new ++ map f (fronts_from tails list (size + 1) end) ≡ all
front_put f tails list size end out new all front less is pushed so_far =
    let rest = fronts_from tails list (size + 1) end in
    ap (λ l. l ++ map f rest) pushed
    ∙ append_assoc out (map f (with_tails tails front)) (map f rest)
    ∙ ap (λ l. out ++ l) (sym (map-append f (with_tails tails front) rest))
    ∙ ap (λ l. out ++ map f (with_tails tails l ++ rest)) is
    ∙ ap (λ l. out ++ map f l) (sym (fronts_step tails list size end less)) ∙ so_far

pub fronts_put : (f : List ℕ → Interval) (tails : List (List ℕ)) (list : List ℕ)
    (size end : ℕ) (out all : List Interval) → end ≤ size →
    out ++ map f (fronts_from tails list size end) ≡ all → out ≡ all
fronts_put f tails list size end out all over so_far =
    sym (append-nil out)
    ∙ ap (λ l. out ++ map f l) (sym (fronts_end tails list size end over)) ∙ so_far

-- The fronts from the least on are the candidates.
pub fronts_are : (tails : List (List ℕ)) (list : List ℕ) (size : ℕ) → size ≤ length list →
    fronts_from tails list size (length list + 1) ≡ candidates size tails list
fronts_are tails list size within =
    sym (candidates-numbers size size tails list (omega arith))

-- the lists, each with the same behind it
abbrev pub each_before : List ℕ → List (List ℕ) → List (List ℕ)
each_before behind lists = map (λ list. list ++ behind) lists

-- The best with one tail more.
pub tail_best : (m : Meaning) (side : Side) (front behind : List ℕ) (tails : List (List ℕ))
    (i : ℕ) (best new all tail : List ℕ) → i < length tails → tail ≡ get_or tails i [] →
    new ≡ cond (wins side (list_order m.pad m.space ((front ++ tail) ++ behind) best))
    ((front ++ tail) ++ behind) best →
    best_on m side best (each_before behind (map (λ t. front ++ t) (drop i tails))) ≡ all →
    best_on m side new (each_before behind (map (λ t. front ++ t) (drop (i + 1) tails))) ≡ all
tail_best m side front behind tails i best new all tail within is better so_far =
    let rest = each_before behind (map (λ t. front ++ t) (drop (i + 1) tails)) in
    ap (λ l. best_on m side l rest) better
    ∙ ap (λ t. best_on m side best (((front ++ t) ++ behind) ∷ rest)) is
    ∙ ap (λ l. best_on m side best (each_before behind (map (λ t. front ++ t) l)))
    (sym (drop_more tails i [] within))
    ∙ so_far

pub tails_best : (m : Meaning) (side : Side) (front behind : List ℕ) (tails : List (List ℕ))
    (i : ℕ) (best all : List ℕ) → length tails ≤ i →
    best_on m side best (each_before behind (map (λ t. front ++ t) (drop i tails))) ≡ all →
    best ≡ all
tails_best m side front behind tails i best all over so_far =
    ap (λ l. best_on m side best (each_before behind (map (λ t. front ++ t) l)))
    (sym (drop_all i tails over))
    ∙ so_far

-- The best of a front alone, and then with each tail.
pub alone_best : (m : Meaning) (side : Side) (front behind : List ℕ) (tails : List (List ℕ))
    (start one all tail : List ℕ) → tail ≡ [] →
    one ≡ cond (wins side (list_order m.pad m.space ((front ++ tail) ++ behind) start))
    ((front ++ tail) ++ behind) start →
    all ≡ best_on m side one (each_before behind (map (λ t. front ++ t) tails)) →
    all ≡ best_on m side start (each_before behind (with_tails tails front))
alone_best m side front behind tails start one all tail none first rest =
    let more = each_before behind (map (λ t. front ++ t) tails) in
    rest ∙ ap (λ l. best_on m side l more) first
    ∙ ap (λ l. best_on m side start ((l ++ behind) ∷ more))
    (ap (λ t. front ++ t) none ∙ append-nil front)

best-append : (m : Meaning) (side : Side) (start : List ℕ) (lists more : List (List ℕ)) →
    best_on m side start (lists ++ more) ≡ best_on m side (best_on m side start lists) more
best-append m side start lists more =
    fold-append (λ best one. cond (wins side (list_order m.pad m.space one best)) one best) start
    lists more

-- The best of one front more.
pub front_best : (m : Meaning) (side : Side) (behind : List ℕ) (tails : List (List ℕ))
    (list : List ℕ) (size end : ℕ) (best new all : List ℕ) → size < end →
    new ≡ best_on m side best (each_before behind (with_tails tails (take size list))) →
    best_on m side best (each_before behind (fronts_from tails list size end)) ≡ all →
    best_on m side new (each_before behind (fronts_from tails list (size + 1) end)) ≡ all
front_best m side behind tails list size end best new all less better so_far =
    let here = with_tails tails (take size list) in
    let rest = fronts_from tails list (size + 1) end in
    ap (λ l. best_on m side l (each_before behind rest)) better
    ∙ sym (best-append m side best (each_before behind here) (each_before behind rest))
    ∙ ap (best_on m side best) (sym (map-append (λ l. l ++ behind) here rest))
    ∙ ap (λ l. best_on m side best (each_before behind l))
    (sym (fronts_step tails list size end less))
    ∙ so_far

pub fronts_best : (m : Meaning) (side : Side) (behind : List ℕ) (tails : List (List ℕ))
    (list : List ℕ) (size end : ℕ) (best all : List ℕ) → end ≤ size →
    best_on m side best (each_before behind (fronts_from tails list size end)) ≡ all →
    best ≡ all
fronts_best m side behind tails list size end best all over so_far =
    ap (λ l. best_on m side best (each_before behind l))
    (sym (fronts_end tails list size end over))
    ∙ so_far

either_way : (b : Bool) (x : List ℕ) → cond b x x ≡ x
either_way true x = refl
either_way false x = refl

-- The best, begun with the first of the lists.
pub extreme_is : (m : Meaning) (side : Side) (first : List ℕ) (lists more : List (List ℕ)) →
    extreme (wins side) m.pad m.space ((first ∷ lists) ++ more)
    ≡ best_on m side (best_on m side first (first ∷ lists)) more
extreme_is m side first lists more =
    best-append m side first lists more
    ∙ ap (λ l. best_on m side (best_on m side l lists) more)
    (sym (either_way (wins side (list_order m.pad m.space first first)) first))

-- The candidates begin with the shortest front alone.
candidates-first : (floor least : ℕ) (tails : List (List ℕ)) (list : List ℕ) →
    least ≡ min floor (length list) → (rest : List (List ℕ)) ×
    (candidates floor tails list ≡ take least list ∷ rest)
candidates-first floor least tails list e =
    let less : least < length list + 1 = omega arith in (
      map (λ t. take least list ++ t) tails ++ fronts_from tails list (least + 1) (length list + 1),
      candidates-numbers floor least tails list e
          ∙ fronts_step tails list least (length list + 1) less,
    )

-- The end that the loops come to.
pub end_found : (m : Meaning) (side : Side) (floor least : ℕ) (tails : List (List ℕ))
    (list behind best end : List ℕ) (more : List (List ℕ)) → least ≡ min floor (length list) →
    best ≡ best_on m side (take least list ++ behind)
    (each_before behind (candidates floor tails list)) →
    end ≡ best_on m side best more →
    end ≡ extreme (wins side) m.pad m.space
    (each_before behind (candidates floor tails list) ++ more)
end_found m side floor least tails list behind best end more e found last =
    let first = candidates-first floor least tails list e in
    last ∙ ap (λ l. best_on m side l more) found
    ∙ ap (λ l. best_on m side (best_on m side (take least list ++ behind) (each_before behind l))
    more) first.1
    ∙ sym (extreme_is m side (take least list ++ behind) (each_before behind first.0) more)
    ∙ ap (λ l. extreme (wins side) m.pad m.space (each_before behind l ++ more)) (sym first.1)

-- The candidates are the same for the size that the floor gives.
pub candidates-least : (floor least : ℕ) (tails : List (List ℕ)) (list : List ℕ) →
    least ≡ min floor (length list) → candidates least tails list ≡ candidates floor tails list
candidates-least floor least tails list e =
    candidates-numbers least least tails list (omega arith)
    ∙ sym (candidates-numbers floor least tails list e)

-- What a text is spelled by, one character more.
abbrev pub AreJoined : Type 0
AreJoined =
    (set : Charset) (codes more text rest : List ℕ) → Spells set codes text →
    Spells set more rest → Spells set (codes ++ more) (text ++ rest)

pub spells_nothing : (set : Charset) → Spells set [] []
unfolding spell_all
spells_nothing set = refl

spells_one : (set : Charset) (code : ℕ) (spelling : List ℕ) → spell set code ≡ Some spelling →
    Spells set (code ∷ []) (spelling ++ [])
unfolding spell_all
spells_one set code spelling e = rw e refl

one_spelled : (set : Charset) (code : ℕ) (text new : List ℕ) (found : Option (List ℕ)) →
    spell set code ≡ found → option_map (λ spelling. text ++ spelling) found ≡ Some new →
    (spelling : List ℕ) × (spell set code ≡ Some spelling) × (text ++ spelling ≡ new)
one_spelled set code text new None e h = absurd (let never : ⊥ = cc in never)
one_spelled set code text new (Some spelling) e h = (spelling, e, cc)

pub spelled_more : AreJoined → (set : Charset) (codes : List ℕ) (i : ℕ) (text new : List ℕ) →
    i < length codes → Spells set (take i codes) text →
    option_map (λ spelling. text ++ spelling) (spell set (get_or codes i 0)) ≡ Some new →
    Spells set (take (i + 1) codes) new
spelled_more joins set codes i text new within so_far put =
    let one = one_spelled set (get_or codes i 0) text new (spell set (get_or codes i 0)) refl put in
    let both = joins set (take i codes) (get_or codes i 0 ∷ []) text (one.0 ++ []) so_far
    (spells_one set (get_or codes i 0) one.0 one.1) in
    subst (λ (t : List ℕ). Spells set (take (i + 1) codes) t)
    (ap (λ l. text ++ l) (append-nil one.0) ∙ one.2)
    (subst (λ (l : List ℕ). Spells set l (text ++ (one.0 ++ [])))
    (sym (take_more codes i 0 within)) both)

pub spelled_all : (set : Charset) (codes : List ℕ) (i : ℕ) (text : List ℕ) → length codes ≤ i →
    Spells set (take i codes) text → Spells set codes text
spelled_all set codes i text over so_far =
    subst (λ (l : List ℕ). Spells set l text) (take_all i codes over) so_far

-- Two candidates compare behind the front that both have.
pub shared_front : FrontsFallAway → (pad : Pad) (space : ℕ) (list x xs y ys : List ℕ)
    (n k : ℕ) → n ≤ k →
    list_order pad space (take (k - n) (drop n list) ++ (x ++ xs)) ([] ++ (y ++ ys))
    ≡ list_order pad space ((take k list ++ x) ++ xs) ((take n list ++ y) ++ ys)
shared_front fronts pad space list x xs y ys n k le =
    let size : k ≡ n + (k - n) = omega arith in
    let split : take k list ≡ take n list ++ take (k - n) (drop n list) =
    ap (λ s. take s list) size ∙ take-add n (k - n) list in
    sym (fronts pad space (take n list) (take (k - n) (drop n list) ++ (x ++ xs)) (y ++ ys))
    ∙ ap (λ l. list_order pad space l (take n list ++ (y ++ ys)))
    (sym (append_assoc (take n list) (take (k - n) (drop n list)) (x ++ xs))
    ∙ ap (λ l. l ++ (x ++ xs)) (sym split) ∙ sym (append_assoc (take k list) x xs))
    ∙ ap (list_order pad space ((take k list ++ x) ++ xs))
    (sym (append_assoc (take n list) y ys))

pub ruleset first_steps = (
  first_ends,
  first_goes_on,
  first_all,
)

-- What a result's value has, it has by what is known of it.
pub IfOk-weaker : {T E : Type 0} (P Q : T → Type 0) → ((x : T) → P x → Q x) →
    (result : Result T E) → IfOk result P → IfOk result Q
IfOk-weaker P Q weaker (Ok x) h = weaker x h
IfOk-weaker P Q weaker (Err e) h = h

-- The intervals of one constant more.
pub cell_put : (f : Cell → List Interval) (cells : List Cell) (i : ℕ) (cell : Cell)
    (out new all : List Interval) → i < length cells → cell ≡ get_or cells i cell →
    new ≡ out ++ f cell → out ++ flat_map f (drop i cells) ≡ all →
    new ++ flat_map f (drop (i + 1) cells) ≡ all
cell_put f cells i cell out new all within is pushed so_far =
    ap (λ l. l ++ flat_map f (drop (i + 1) cells)) pushed
    ∙ append_assoc out (f cell) (flat_map f (drop (i + 1) cells))
    ∙ ap (λ c. out ++ (f c ++ flat_map f (drop (i + 1) cells))) is
    ∙ ap (λ l. out ++ flat_map f l) (sym (drop_more cells i cell within)) ∙ so_far

pub cells_put : (f : Cell → List Interval) (cells : List Cell) (i : ℕ) (out all : List Interval) →
    length cells ≤ i → out ++ flat_map f (drop i cells) ≡ all → out ≡ all
cells_put f cells i out all over so_far =
    sym (append-nil out) ∙ ap (λ l. out ++ flat_map f l) (sym (drop_all i cells over)) ∙ so_far

-- Where one constant's are too many, all are.
pub cell_over : (f : Cell → List Interval) (cells : List Cell) (i : ℕ) (cell : Cell)
    (out old more : List Interval) (most : ℕ) → i < length cells →
    cell ≡ get_or cells i cell → most < length out + length (f cell) →
    out ++ flat_map f (drop i cells) ≡ old ++ more → most < length old + length more
cell_over f cells i cell out old more most within is over so_far =
    let rest = flat_map f (drop (i + 1) cells) in
    let whole : out ++ (f cell ++ rest) ≡ old ++ more =
    ap (λ c. out ++ (f c ++ rest)) is
    ∙ ap (λ l. out ++ flat_map f l) (sym (drop_more cells i cell within)) ∙ so_far in
    let left : length (out ++ (f cell ++ rest)) ≡ length out + length (f cell ++ rest) =
    length-append out (f cell ++ rest) in
    let inner : length (f cell ++ rest) ≡ length (f cell) + length rest =
    length-append (f cell) rest in
    let right : length (old ++ more) ≡ length old + length more = length-append old more in
    let same : length (out ++ (f cell ++ rest)) ≡ length (old ++ more) = ap length whole in
    omega arith

pub cells_within : (out old more : List Interval)
    (most : ℕ) → length out ≤ most → out ≡ old ++ more → length old + length more ≤ most
cells_within out old more most within is =
    let size : length out ≡ length old + length more = ap length is ∙ length-append old more in
    omega arith

-- The candidates of the floor, begun with the shortest front.
pub begun : (m : Meaning) (side : Side) (floor least : ℕ) (tails : List (List ℕ))
    (list behind best : List ℕ) → least ≡ min floor (length list) →
    best ≡ best_on m side ((take least list ++ []) ++ behind)
    (each_before behind (candidates least tails list)) →
    best ≡ best_on m side (take least list ++ behind)
    (each_before behind (candidates floor tails list))
begun m side floor least tails list behind best e found =
    found
    ∙ ap (λ l. best_on m side (l ++ behind) (each_before behind (candidates least tails list)))
    (append-nil (take least list))
    ∙ ap (λ l. best_on m side (take least list ++ behind) (each_before behind l))
    (candidates-least floor least tails list e)
