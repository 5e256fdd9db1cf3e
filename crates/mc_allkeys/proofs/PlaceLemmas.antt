-- Entries in the order of their texts: what is found at a place, and what goes there.
use Rattle.std.proofs.Common.{◌≡◌, ◌≢◌, ℕ, zero, suc, ◌+◌, ◌<◌, ◌≤◌, Bool, true, false, T, ◌&&◌, List, [], ◌∷◌, ◌++◌, length, take, drop, get_or, set, Option, Some, None, slice_index_or, if◌then◌else◌, refl, sym, ap, subst, ◌∙◌, ◌⊎◌, inl, inr, arith}
use Rattle.std.specs.Cmp.Lexicographic.{nat_list_cmp_total}
use Rattle.std.specs.FinMap as map
use Rattle.std.specs.FinMap.{find, put, is_sorted, FinMap, from_sorted, entries-from_sorted, len-entries, get-from_sorted, same_entries_map, entries-insert, empty_of_len}
use Rattle.std.specs.FinMap.Entries.{is_sorted-put}
use Rattle.std.specs.FinMap.Entries.{below_all}
use Rattle.std.specs.List.{insert}
use Rattle.std.specs.Ordering.{is_lt, ordering_reverse}
use Rattle.std.specs.declared.cmp.Ordering.{Ordering}
use Rattle.std.specs.declared.cmp.Ordering.TheVariants.{Less, Equal, Greater}
use Rattle.std.proofs.lemmas.Bool.{cases_order}
use Rattle.std.proofs.lemmas.List.{get_or_read}
use Rattle.mc_allkeys.specs.Places.{IsFoundAt, IsGapAt}
use Rattle.mc_allkeys.specs.Texts.{text_cmp}
use Rattle.mc_allkeys.specs.declared.element.Element.{Element}

-- a text and its elements
abbrev pub Entry : Type 0
Entry = List ℕ × List Element

pub holds : (b : Bool) → b ≡ true → T b
holds b e = subst T (sym e) tt

pub is_true : (b : Bool) → T b → b ≡ true
is_true true h = refl
is_true false h = absurd h

first : (a b : Bool) → T (a && b) → T a
first true b h = tt
first false b h = absurd h

second : (a b : Bool) → T (a && b) → T b
second true b h = h
second false b h = absurd h

less : (o : Ordering) → T (is_lt o) → o ≡ Less
less Less h = refl
less Equal h = absurd h
less Greater h = absurd h

-- Texts compared the other way round.
flip : (a b : List ℕ) (o : Ordering) → text_cmp a b ≡ o → text_cmp b a ≡ ordering_reverse o
flip a b o e = nat_list_cmp_total.antisymm b a ∙ ap ordering_reverse e

-- Each entry behind one is above it.
below_at : (text : List ℕ) (es : List Entry) (i : ℕ) (e : Entry) → T (below_all text_cmp text es) →
    i < length es → text_cmp text (get_or es i e).0 ≡ Less
below_at text [] i e b h = absurd (omega arith)
below_at text (x ∷ es) zero e b h = less _ (first _ _ b)
below_at text (x ∷ es) (suc i) e b h =
    below_at text es i e (second (is_lt (text_cmp text x.0)) _ b) (omega arith)

less_at : (es : List Entry) → T (is_sorted text_cmp es) → (i j : ℕ) (e : Entry) → i < j →
    j < length es → text_cmp (get_or es i e).0 (get_or es j e).0 ≡ Less
less_at [] s i j e l h = absurd (omega arith)
less_at (x ∷ es) s i zero e l h = absurd (omega arith)
less_at (x ∷ es) s zero (suc j) e l h = below_at x.0 es j e (first _ _ s) (omega arith)
less_at (x ∷ es) s (suc i) (suc j) e l h =
    less_at es (second (below_all text_cmp x.0 es) _ s) i j e (omega arith) (omega arith)

-- The entries in front of a place are below the text.
abbrev pub AreBelow : List Entry → List ℕ → ℕ → Type 0
AreBelow es text place = (k : ℕ) (e : Entry) → k < place → text_cmp (get_or es k e).0 text ≡ Less

-- The entries from a place on are above the text.
abbrev pub AreAbove : List Entry → List ℕ → ℕ → Type 0
AreAbove es text place =
    (k : ℕ) (e : Entry) → place ≤ k → k < length es → text_cmp (get_or es k e).0 text ≡ Greater

up_to : (es : List Entry) (text : List ℕ) (middle k : ℕ) (e : Entry) → T (is_sorted text_cmp es) →
    middle < length es → text_cmp (get_or es middle e).0 text ≡ Less →
    (k ≡ middle) ⊎ ((k < middle) ⊎ (middle < k)) → k ≤ middle →
    text_cmp (get_or es k e).0 text ≡ Less
up_to es text middle k e s h less (inl is) le = rw is less
up_to es text middle k e s h less (inr (inl lt)) le =
    nat_list_cmp_total.trans (get_or es k e).0 (get_or es middle e).0 text
    (less_at es s k middle e lt h) less
up_to es text middle k e s h less (inr (inr gt)) le = absurd (omega arith)

-- What a step to the right knows.
pub below_more : (es : List Entry) (text : List ℕ) (middle : ℕ) → is_sorted text_cmp es ≡ true →
    middle < length es → ((e : Entry) → text_cmp (get_or es middle e).0 text ≡ Less) →
    AreBelow es text (middle + 1)
below_more es text middle s h less k e lt =
    up_to es text middle k e (holds _ s) h (less e) (cases_order k middle) (omega arith)

from : (es : List Entry) (text : List ℕ) (middle k : ℕ) (e : Entry) → T (is_sorted text_cmp es) →
    k < length es → text_cmp (get_or es middle e).0 text ≡ Greater →
    (k ≡ middle) ⊎ ((k < middle) ⊎ (middle < k)) → middle ≤ k →
    text_cmp (get_or es k e).0 text ≡ Greater
from es text middle k e s h greater (inl is) le = rw is greater
from es text middle k e s h greater (inr (inl lt)) le = absurd (omega arith)
from es text middle k e s h greater (inr (inr gt)) le =
    flip text (get_or es k e).0 Less
    (nat_list_cmp_total.trans text (get_or es middle e).0 (get_or es k e).0
    (flip (get_or es middle e).0 text Greater greater) (less_at es s middle k e gt h))

-- What a step to the left knows.
pub above_more : (es : List Entry) (text : List ℕ) (middle : ℕ) → is_sorted text_cmp es ≡ true →
    ((e : Entry) → text_cmp (get_or es middle e).0 text ≡ Greater) → AreAbove es text middle
above_more es text middle s greater k e low high =
    from es text middle k e (holds _ s) high (greater e) (cases_order k middle) low

tail_gap : (text : List ℕ) (x : Entry) (es : List Entry) (i : ℕ) → IsGapAt (x ∷ es) text (suc i) →
    IsGapAt es text i
tail_gap text x es i g =
    (omega arith, λ k e h. g.1 (suc k) e (omega arith), λ k e l h. g.2 (suc k) e (omega arith) (omega arith))

head_below : (text : List ℕ) (x : Entry) (es : List Entry) (i : ℕ) →
    IsGapAt (x ∷ es) text (suc i) → text_cmp text x.0 ≡ Greater
head_below text x es i g = flip x.0 text Less (g.1 zero x (omega arith))

head_above : (text : List ℕ) (x : Entry) (es : List Entry) → IsGapAt (x ∷ es) text zero →
    text_cmp text x.0 ≡ Less
head_above text x es g = flip x.0 text Greater (g.2 zero x (omega arith) (omega arith))

rest_above : (text : List ℕ) (x : Entry) (es : List Entry) → IsGapAt (x ∷ es) text zero →
    IsGapAt es text zero
rest_above text x es g =
    (omega arith, λ k e h. absurd (omega arith), λ k e l h. g.2 (suc k) e (omega arith) (omega arith))

-- At a gap nothing is found.
pub find-gap : (text : List ℕ) (es : List Entry) (i : ℕ) → IsGapAt es text i →
    find text_cmp text es ≡ None
find-gap text [] i g = refl
find-gap text (x ∷ es) zero g =
    rw (head_above text x es g) (find-gap text es zero (rest_above text x es g))
find-gap text (x ∷ es) (suc i) g =
    rw (head_below text x es i g) (find-gap text es i (tail_gap text x es i g))

-- What goes to a gap.
pub put-gap : (text : List ℕ) (v : List Element) (es : List Entry) (i : ℕ) → IsGapAt es text i →
    insert es i (text, v) ≡ put text_cmp text v es
put-gap text v [] zero g = refl
put-gap text v [] (suc i) g = absurd (omega arith)
put-gap text v (x ∷ es) zero g = rw (head_above text x es g) refl
put-gap text v (x ∷ es) (suc i) g =
    rw (head_below text x es i g) (ap (λ rest. x ∷ rest) (put-gap text v es i (tail_gap text x es i g)))

its_own : (o : Ordering) → o ≡ ordering_reverse o → o ≡ Equal
its_own Less e = cc
its_own Equal e = refl
its_own Greater e = cc

pub itself : (text : List ℕ) → text_cmp text text ≡ Equal
itself text = its_own (text_cmp text text) (nat_list_cmp_total.antisymm text text)

tail_found : (text : List ℕ) (x : Entry) (es : List Entry) (i : ℕ) →
    IsFoundAt (x ∷ es) text (suc i) → IsFoundAt es text i
tail_found text x es i f = (omega (arith, f.0), λ e. f.1 e)

head_found : (text : List ℕ) (x : Entry) (es : List Entry) → IsFoundAt (x ∷ es) text zero →
    text_cmp text x.0 ≡ Equal
head_found text x es f = ap (text_cmp text) (f.1 x) ∙ itself text

before_found : (text : List ℕ) (x : Entry) (es : List Entry) (i : ℕ) →
    T (is_sorted text_cmp (x ∷ es)) → IsFoundAt (x ∷ es) text (suc i) →
    text_cmp text x.0 ≡ Greater
before_found text x es i s f =
    flip x.0 text Less
    (ap (text_cmp x.0) (sym (f.1 x)) ∙ below_at x.0 es i x (first _ _ s) (omega (arith, f.0)))

-- What is found.
pub find-found : (text : List ℕ) (es : List Entry) (i : ℕ) (e : Entry) →
    T (is_sorted text_cmp es) → IsFoundAt es text i →
    find text_cmp text es ≡ Some (get_or es i e).1
find-found text [] i e s f = absurd (omega (arith, f.0))
find-found text (x ∷ es) zero e s f = rw (head_found text x es f) refl
find-found text (x ∷ es) (suc i) e s f =
    rw (before_found text x es i s f)
    (find-found text es i e (second (below_all text_cmp x.0 es) _ s) (tail_found text x es i f))

-- What takes the place of what is found.
pub put-found : (text first_text : List ℕ) (v : List Element) (es : List Entry) (i : ℕ) →
    T (is_sorted text_cmp es) → IsFoundAt es text i → ((e : Entry) → first_text ≡ (get_or es i e).0) →
    set es i (first_text, v) ≡ put text_cmp text v es
put-found text first_text v [] i s f same = absurd (omega (arith, f.0))
put-found text first_text v (x ∷ es) zero s f same =
    rw (head_found text x es f) (ap (λ (t : List ℕ). (t, v) ∷ es) (same x))
put-found text first_text v (x ∷ es) (suc i) s f same =
    rw (before_found text x es i s f)
    (ap (λ rest. x ∷ rest)
    (put-found text first_text v es i (second (below_all text_cmp x.0 es) _ s) (tail_found text x es i f)
    (λ e. same e)))

-- How the entry at a place and a text compare.
pub at_item : (es : List Entry) (text : List ℕ) (i : ℕ) (x : Entry) (t : List ℕ) (r o : Ordering) →
    i < length es → x ≡ get_or es i x → t ≡ x.0 → r ≡ text_cmp t text → r ≡ o → (e : Entry) →
    text_cmp (get_or es i e).0 text ≡ o
at_item es text i x t r o h is its by ro e =
    ap (λ (y : Entry). text_cmp y.0 text) (sym (get_or_read es i x h is e))
    ∙ ap (λ (t : List ℕ). text_cmp t text) (sym its) ∙ sym by ∙ ro

-- A map of texts, and its entries in order.
abbrev pub Entries : Type 0
Entries = FinMap text_cmp (List Element)

pub entries_is : (es : List Entry) (m : Entries) → is_sorted text_cmp es ≡ true → from_sorted es ≡ m →
    map.entries m ≡ es
entries_is es m s e = ap map.entries (sym e) ∙ entries-from_sorted text_cmp es (holds _ s)

pub len_is : (es : List Entry) (m : Entries) → is_sorted text_cmp es ≡ true → from_sorted es ≡ m →
    map.len m ≡ length es
len_is es m s e = len-entries m ∙ ap length (entries_is es m s e)

pub get_is : (es : List Entry) (m : Entries) (text : List ℕ) → is_sorted text_cmp es ≡ true →
    from_sorted es ≡ m → map.get m text ≡ find text_cmp text es
get_is es m text s e =
    ap (λ (m : Entries). map.get m text) (sym e) ∙ get-from_sorted text_cmp es text (holds _ s)

pub none_is : (es : List Entry) → es ≡ [] →
    from_sorted {R = text_cmp} es ≡ map.empty
none_is es e =
    empty_of_len (from_sorted {R = text_cmp} es)
    (len_is es (from_sorted es) (ap (is_sorted text_cmp) e) refl ∙ ap length e)

-- Entries with one more, or with one changed, stay in order.
pub put_sorted : (es fs : List Entry) (text : List ℕ) (v : List Element) →
    is_sorted text_cmp es ≡ true → fs ≡ put text_cmp text v es → is_sorted text_cmp fs ≡ true
put_sorted es fs text v s e =
    ap (is_sorted text_cmp) e
    ∙ is_true _ (is_sorted-put text_cmp nat_list_cmp_total text v es (holds _ s))

pub insert_sorted : (es fs : List Entry) (text : List ℕ) (v : List Element) (i : ℕ) (b : Bool) →
    is_sorted text_cmp es ≡ true → IsGapAt es text i →
    fs ≡ (if b then insert es i (text, v) else es) → is_sorted text_cmp fs ≡ true
insert_sorted es fs text v i true s g e = put_sorted es fs text v s (e ∙ put-gap text v es i g)
insert_sorted es fs text v i false s g e = ap (is_sorted text_cmp) e ∙ s

pub put_is : (es fs : List Entry) (m : Entries) (text : List ℕ) (v : List Element) →
    is_sorted text_cmp es ≡ true → from_sorted es ≡ m → fs ≡ put text_cmp text v es →
    from_sorted fs ≡ map.insert m text v
put_is es fs m text v s e p =
    same_entries_map (from_sorted fs) (map.insert m text v)
    (entries_is fs (from_sorted fs) (put_sorted es fs text v s p) refl
    ∙ p
    ∙ ap (put text_cmp text v) (sym (entries_is es m s e))
    ∙ sym (entries-insert nat_list_cmp_total m text v))

-- A text by its place.
pub key_at : (es : List Entry) (i : ℕ) (e : Entry) → i < length es →
    (get_or es i e).0 ≡ slice_index_or (Rattle.std.proofs.Common.map (λ (e : Entry). e.0) es) i []
key_at [] i e h = absurd (omega arith)
key_at (x ∷ es) zero e h = refl
key_at (x ∷ es) (suc i) e h = key_at es i e (omega arith)
