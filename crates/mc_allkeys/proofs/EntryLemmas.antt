-- The entries of texts from those of single code points and of contractions.
use Rattle.std.proofs.Common.{◌≡◌, ◌≢◌, ◌==◌, ℕ, zero, suc, ◌+◌, ◌*◌, ◌/◌, ◌<◌, ◌≤◌, Bool, true, false, cond, List, [], ◌∷◌, ◌++◌, length, get_or, Option, Some, None, option_map, is_some, MatchOption, Result, Ok, Err, OnOk, OnErr, subst, take, length-take, if◌then◌else◌, refl, sym, ap, ◌∙◌, ◌⊎◌, inl, inr, arith}
use Rattle.std.specs.Cmp.Lexicographic.{nat_list_cmp_total}
use Rattle.std.specs.FinMap as map
use Rattle.std.specs.FinMap.{find, get-from_entries, get-entries, get-insert, get-retain_keys, get-empty, len-entries, len-empty, len-insert, same_map, slice_cmp-IsAntisymmetric, nat_cmp-IsAntisymmetric}
use Rattle.std.specs.List.{cons_option, range_with_len}
use Rattle.std.specs.Option.{option_or}
use Rattle.std.specs.Ordering.{is_eq, eq_by_cmp}
use Rattle.std.specs.declared.cmp.Ordering.{Ordering}
use Rattle.std.specs.declared.cmp.Ordering.TheVariants.{Less, Equal, Greater}
use Rattle.std.proofs.lemmas.Bool.{cases_Bool}
use Rattle.std.proofs.lemmas.List.{length-map}
use Rattle.std.proofs.lemmas.Bool.Decides.{nat_tests}
use Rattle.std.proofs.lemmas.Map.Lookups.{exact_bytes}
use Rattle.mc_allkeys.specs.Keys.{numbered, entries_in}
use Rattle.mc_allkeys.specs.Longest.{HasNoLonger, IsLongest}
use Rattle.mc_allkeys.specs.Singles.{Store, single_in, reach_in}
use Rattle.mc_allkeys.specs.Table.{Entries, is_long, contractions_of}
use Rattle.mc_allkeys.specs.Texts.{text_cmp}
use Rattle.mc_allkeys.specs.declared.element.Element.{Element}
use Rattle.mc_allkeys.proofs.PlaceLemmas.{Entry, itself}

-- Two texts are told apart.
apart_by : (a b : List ℕ) → (a ≢ b) → (o : Ordering) → text_cmp a b ≡ o → is_eq o ≡ false
apart_by a b n Less e = refl
apart_by a b n Equal e = absurd (n (exact_bytes a b e))
apart_by a b n Greater e = refl

pub apart : (a b : List ℕ) → (a ≢ b) → eq_by_cmp text_cmp a b ≡ false
apart a b n = apart_by a b n (text_cmp a b) refl

pub same : (a b : List ℕ) → a ≡ b → eq_by_cmp text_cmp a b ≡ true
same a b e = ap (λ b. eq_by_cmp text_cmp a b) (sym e) ∙ ap is_eq (itself a)

-- Two texts of one code point are the same where the code points are.
single_cases : (c d : ℕ) (b : Bool) → (c == d) ≡ b → eq_by_cmp text_cmp (c ∷ []) (d ∷ []) ≡ b
single_cases c d true e =
    let is : c ≡ d = grind (arith, nat_tests) in same (c ∷ []) (d ∷ []) (ap (λ n. n ∷ []) is)
single_cases c d false e =
    let is_not : c ≢ d = λ is. absurd (grind (arith, nat_tests)) in
    apart (c ∷ []) (d ∷ []) (λ is. is_not cc)

pub single_same : (c d : ℕ) → eq_by_cmp text_cmp (c ∷ []) (d ∷ []) ≡ (c == d)
single_same c d = single_cases c d (c == d) refl

-- What is found in entries and more of them.
pub find-append : (q : List ℕ) (xs ys : List Entry) →
    find text_cmp q (xs ++ ys) ≡ option_or (find text_cmp q xs) (find text_cmp q ys)
find-append q [] ys = refl
find-append q (x ∷ xs) ys =
    elim (eq_by_cmp text_cmp q x.0) as
    (λ b. cond b (Some x.1) (find text_cmp q (xs ++ ys))
    ≡ option_or (cond b (Some x.1) (find text_cmp q xs)) (find text_cmp q ys)) [
      | true ↦ refl
      | false ↦ find-append q xs ys
    ]

-- What one more code point adds.
step : (q : List ℕ) (a : ℕ) (o : Option (List Element)) (rest : List Entry) (b : Bool) →
    eq_by_cmp text_cmp q (a ∷ []) ≡ b →
    find text_cmp q (cons_option (option_map (λ (v : List Element). (a ∷ [], v)) o) rest)
    ≡ (if b then option_or o (find text_cmp q rest) else find text_cmp q rest)
step q a None rest true e = refl
step q a None rest false e = refl
step q a (Some v) rest true e = rw e refl
step q a (Some v) rest false e = rw e refl

or_none : (o : Option (List Element)) → option_or o None ≡ o
or_none None = refl
or_none (Some v) = refl

-- A text of another form is not among them.
pub find-other : (f : ℕ → Option (List Element)) (q : List ℕ) (a n : ℕ) →
    ((c : ℕ) → a ≤ c → c < a + n → q ≢ (c ∷ [])) →
    find text_cmp q (numbered f (range_with_len a n)) ≡ None
find-other f q a zero other = refl
find-other f q a (suc n) other =
    step q a (f a) (numbered f (range_with_len (a + 1) n)) false
    (apart q (a ∷ []) (other a (omega arith) (omega arith)))
    ∙ find-other f q (a + 1) n (λ c low high. other c (omega arith) (omega arith))

one_less : (c d : ℕ) → c ≢ d → (c ∷ []) ≢ (d ∷ [])
one_less c d n e = n cc

numbered_step : (f : ℕ → Option (List Element)) (c a n : ℕ) (b : Bool) → (c == a) ≡ b →
    (c ≢ a → find text_cmp (c ∷ []) (numbered f (range_with_len (a + 1) n)) ≡ f c) →
    find text_cmp (c ∷ []) (numbered f (range_with_len a (suc n))) ≡ f c
numbered_step f c a n true e rest =
    let is : c ≡ a = grind (arith, nat_tests) in
    step (c ∷ []) a (f a) (numbered f (range_with_len (a + 1) n)) true (single_same c a ∙ e)
    ∙ ap (option_or (f a)) (find-other f (c ∷ []) (a + 1) n
    (λ d more less. one_less c d (omega arith)))
    ∙ or_none (f a) ∙ ap f (sym is)
numbered_step f c a n false e rest =
    let is_not : c ≢ a = λ is. absurd (grind (arith, nat_tests)) in
    step (c ∷ []) a (f a) (numbered f (range_with_len (a + 1) n)) false (single_same c a ∙ e)
    ∙ rest is_not

-- A code point among them has its entry.
pub find-numbered : (f : ℕ → Option (List Element)) (c a n : ℕ) → a ≤ c → c < a + n →
    find text_cmp (c ∷ []) (numbered f (range_with_len a n)) ≡ f c
find-numbered f c a zero low high = absurd (omega arith)
find-numbered f c a (suc n) low high =
    numbered_step f c a n (c == a) refl
    (λ is_not. find-numbered f c (a + 1) n (omega arith) (omega arith))

-- The entry of a text: that of its one code point, or that of the contraction.
abbrev pub entry_in : Store → Entries → List ℕ → Option (List Element)
entry_in store contractions [] = map.get contractions []
entry_in store contractions (code ∷ []) = single_in store code
entry_in store contractions (code ∷ next ∷ rest) = map.get contractions (code ∷ next ∷ rest)

-- Contractions are of two codes or more.
abbrev pub AreLong : Entries → Type 0
AreLong contractions =
    (text : List ℕ) → map.contains_key contractions text ≡ true → (2 ≤ length text) × (length text ≤ 6)

none_by : (o : Option (List Element)) → (is_some o ≡ true → ⊥) → o ≡ None
none_by None n = refl
none_by (Some v) n = absurd (n refl)

pub none_short : (contractions : Entries) → AreLong contractions → (text : List ℕ) →
    length text < 2 → map.get contractions text ≡ None
none_short contractions long text short =
    none_by _ (λ e. let h = long text e in omega (arith, h.0))

beyond : (pages : List (List Rattle.mc_allkeys.specs.declared.page.Cell.Cell)) (k : ℕ) →
    length pages ≤ k → get_or pages k [] ≡ []
beyond [] k h = refl
beyond (page ∷ pages) zero h = absurd (omega arith)
beyond (page ∷ pages) (suc k) h = beyond pages k (omega arith)

-- Behind the pages there is nothing.
pub none_beyond : (store : Store) (code : ℕ) → 256 * length store.pages ≤ code →
    single_in store code ≡ None
unfolding single_in
none_beyond store code h =
    let out : length store.pages ≤ code / 256 = omega arith in
    rw (beyond store.pages (code / 256) out) refl

-- the entries of single code points
abbrev singles_of : Store → List Entry
singles_of store = numbered (single_in store) (range_with_len 0 (256 * length store.pages))

get-all : (store : Store) (contractions : Entries) (q : List ℕ) →
    map.get (entries_in store contractions) q
    ≡ option_or (find text_cmp q (singles_of store)) (map.get contractions q)
unfolding entries_in
get-all store contractions q =
    get-from_entries nat_list_cmp_total (singles_of store ++ map.entries contractions) q
    ∙ find-append q (singles_of store) (map.entries contractions)
    ∙ ap (option_or (find text_cmp q (singles_of store))) (sym (get-entries contractions q))

single_get : (store : Store) (c : ℕ) →
    (c < 256 * length store.pages) ⊎ (256 * length store.pages ≤ c) →
    find text_cmp (c ∷ []) (singles_of store) ≡ single_in store c
single_get store c (inl h) = find-numbered (single_in store) c 0 (256 * length store.pages) (omega arith) (omega arith)
single_get store c (inr h) =
    find-other (single_in store) (c ∷ []) 0 (256 * length store.pages)
    (λ d low high. one_less c d (omega arith))
    ∙ sym (none_beyond store c h)

-- The entry of a text is found among all.
pub get-entries_in : (store : Store) (contractions : Entries) → AreLong contractions → (q : List ℕ) →
    map.get (entries_in store contractions) q ≡ entry_in store contractions q
get-entries_in store contractions long [] =
    get-all store contractions [] ∙
    rw (find-other (single_in store) [] 0 (256 * length store.pages) (λ c low high e. absurd cc)) refl
get-entries_in store contractions long (c ∷ []) =
    get-all store contractions (c ∷ []) ∙
    rw (
      single_get store c (Rattle.std.proofs.lemmas.Bool.cases_lt c (256 * length store.pages)),
      none_short contractions long (c ∷ []) (omega arith),
    ) (or_none (single_in store c))
get-entries_in store contractions long (c ∷ d ∷ rest) =
    get-all store contractions (c ∷ d ∷ rest) ∙
    rw (find-other (single_in store) (c ∷ d ∷ rest) 0 (256 * length store.pages)
    (λ e low high is. absurd cc)) refl

-- Tables that agree at each text are one.
pub same_entries : (m n : Entries) → ((q : List ℕ) → map.get m q ≡ map.get n q) → m ≡ n
same_entries m n h =
    same_map nat_list_cmp_total (slice_cmp-IsAntisymmetric nat_cmp-IsAntisymmetric) m n h

-- A code point's entry is put in its place.
pub put_single : (old new : Store) (contractions : Entries) → AreLong contractions →
    (c : ℕ) (v : List Element) →
    ((d : ℕ) → single_in new d ≡ (if d == c then Some v else single_in old d)) →
    entries_in new contractions ≡ map.insert (entries_in old contractions) (c ∷ []) v
put_single old new contractions long c v h = same_entries _ _ by
  where
    by : (q : List ℕ) → map.get (entries_in new contractions) q
        ≡ map.get (map.insert (entries_in old contractions) (c ∷ []) v) q
    by [] =
        rw (
          get-insert nat_list_cmp_total (entries_in old contractions) (c ∷ []) v [],
          get-entries_in new contractions long [],
          get-entries_in old contractions long [],
        ) refl
    by (d ∷ []) =
        rw (
          get-insert nat_list_cmp_total (entries_in old contractions) (c ∷ []) v (d ∷ []),
          single_same d c,
          get-entries_in new contractions long (d ∷ []),
          get-entries_in old contractions long (d ∷ []),
        ) (h d)
    by (d ∷ e ∷ rest) =
        rw (
          get-insert nat_list_cmp_total (entries_in old contractions) (c ∷ []) v (d ∷ e ∷ rest),
          apart (d ∷ e ∷ rest) (c ∷ []) (λ is. absurd cc),
          get-entries_in new contractions long (d ∷ e ∷ rest),
          get-entries_in old contractions long (d ∷ e ∷ rest),
        ) refl

-- A contraction's entry is put in its place.
pub put_long : (old new : Store) (contractions more : Entries) → AreLong contractions → AreLong more →
    (text : List ℕ) (v : List Element) → 2 ≤ length text →
    ((d : ℕ) → single_in new d ≡ single_in old d) → more ≡ map.insert contractions text v →
    entries_in new more ≡ map.insert (entries_in old contractions) text v
put_long old new contractions more long longer text v size h is = same_entries _ _ by
  where
    inner : (q : List ℕ) → map.get more q ≡ cond (eq_by_cmp text_cmp q text) (Some v) (map.get contractions q)
    inner q = ap (λ (m : Entries). map.get m q) is ∙ get-insert nat_list_cmp_total contractions text v q

    differs : (q : List ℕ) → length q < 2 → q ≢ text
    differs q short e = let l = ap length e in absurd (omega arith)

    by : (q : List ℕ) → map.get (entries_in new more) q
        ≡ map.get (map.insert (entries_in old contractions) text v) q
    by [] =
        rw (
          get-insert nat_list_cmp_total (entries_in old contractions) text v [],
          get-entries_in new more longer [],
          get-entries_in old contractions long [],
        ) (inner [])
    by (d ∷ []) =
        rw (
          get-insert nat_list_cmp_total (entries_in old contractions) text v (d ∷ []),
          apart (d ∷ []) text (differs (d ∷ []) (omega arith)),
          get-entries_in new more longer (d ∷ []),
          get-entries_in old contractions long (d ∷ []),
        ) (h d)
    by (d ∷ e ∷ rest) =
        rw (
          get-insert nat_list_cmp_total (entries_in old contractions) text v (d ∷ e ∷ rest),
          get-entries_in new more longer (d ∷ e ∷ rest),
          get-entries_in old contractions long (d ∷ e ∷ rest),
        )
        (inner (d ∷ e ∷ rest))

-- Contractions with one more are of two codes or more.
sized_by : (contractions : Entries) (text : List ℕ) (v : List Element) → AreLong contractions →
    2 ≤ length text → length text ≤ 6 → (q : List ℕ) (o : Ordering) → text_cmp q text ≡ o →
    is_some (cond (is_eq o) (Some v) (map.get contractions q)) ≡ true → (2 ≤ length q) × (length q ≤ 6)
sized_by contractions text v long low high q Less e h = long q h
sized_by contractions text v long low high q Equal e h =
    let l = ap length (exact_bytes q text e) in (omega arith, omega arith)
sized_by contractions text v long low high q Greater e h = long q h

pub put_sized : (contractions : Entries) (text : List ℕ) (v : List Element) → AreLong contractions →
    2 ≤ length text → length text ≤ 6 → AreLong (map.insert contractions text v)
put_sized contractions text v long low high q h =
    sized_by contractions text v long low high q (text_cmp q text) refl
    (rw (get-insert nat_list_cmp_total contractions text v q) at h)

-- The contractions are those that are held.
long_cases : (store : Store) (contractions : Entries) → AreLong contractions → (q : List ℕ) →
    cond (is_long q) (map.get (entries_in store contractions) q) None ≡ map.get contractions q
long_cases store contractions long [] = sym (none_short contractions long [] (omega arith))
long_cases store contractions long (c ∷ []) = sym (none_short contractions long (c ∷ []) (omega arith))
long_cases store contractions long (c ∷ d ∷ rest) =
    let is : is_long (c ∷ d ∷ rest) ≡ true = grind (arith, nat_tests) in
    rw is (get-entries_in store contractions long (c ∷ d ∷ rest))

pub contractions_are : (store : Store) (contractions : Entries) → AreLong contractions →
    contractions_of (entries_in store contractions) ≡ map.keys contractions
contractions_are store contractions long =
    ap (λ (m : Entries). map.keys m)
    (same_entries (map.retain_keys (entries_in store contractions) is_long) contractions
    (λ q. get-retain_keys (entries_in store contractions) is_long q
    (λ x e. ap is_long (sym (exact_bytes q x e)))
    ∙ long_cases store contractions long q))

-- The entry of a text of two codes or more is that of the contraction.
pub long_get : (store : Store) (contractions : Entries) → AreLong contractions → (q : List ℕ) →
    2 ≤ length q → map.get (entries_in store contractions) q ≡ map.get contractions q
long_get store contractions long [] h = absurd (omega arith)
long_get store contractions long (c ∷ []) h = absurd (omega arith)
long_get store contractions long (c ∷ d ∷ rest) h = get-entries_in store contractions long (c ∷ d ∷ rest)

-- No contractions.
pub none_long : (contractions : Entries) → contractions ≡ map.empty → AreLong contractions
none_long contractions e text h =
    let none = ap (λ (m : Entries). is_some (map.get m text)) e ∙ ap is_some (get-empty text_cmp text) in
    absurd cc

nothing : (contractions : Entries) → contractions ≡ map.empty → (q : List ℕ) →
    map.get contractions q ≡ map.get (map.empty {X = List Element} {R = text_cmp}) q
nothing contractions e q = ap (λ (m : Entries). map.get m q) e

no_entry : (store : Store) (contractions : Entries) → contractions ≡ map.empty →
    ((code : ℕ) → single_in store code ≡ None) → (q : List ℕ) →
    map.get (entries_in store contractions) q ≡ map.get (map.empty {X = List Element} {R = text_cmp}) q
no_entry store contractions e none [] =
    get-entries_in store contractions (none_long contractions e) [] ∙ nothing contractions e []
no_entry store contractions e none (c ∷ []) =
    get-entries_in store contractions (none_long contractions e) (c ∷ []) ∙ none c
    ∙ sym (get-empty text_cmp (c ∷ []))
no_entry store contractions e none (c ∷ d ∷ rest) =
    get-entries_in store contractions (none_long contractions e) (c ∷ d ∷ rest)
    ∙ nothing contractions e (c ∷ d ∷ rest)

-- No entries.
pub no_entries : (store : Store) (contractions : Entries) → contractions ≡ map.empty →
    ((code : ℕ) → single_in store code ≡ None) → entries_in store contractions ≡ map.empty
no_entries store contractions e none =
    same_entries (entries_in store contractions) map.empty (no_entry store contractions e none)

-- No contraction is longer than what is noted for its first code point.
abbrev pub AreNoted : Store → Entries → Type 0
AreNoted store contractions =
    (code : ℕ) (rest : List ℕ) → map.contains_key contractions (code ∷ rest) ≡ true →
    length (code ∷ rest) ≤ reach_in store code

-- A text begins with no contraction that is longer than what is noted for its first code point.
pub unreached : (store : Store) (contractions : Entries) → AreNoted store contractions →
    (first : ℕ) (rest : List ℕ) (n : ℕ) → reach_in store first ≤ n →
    HasNoLonger contractions (first ∷ rest) n
unreached store contractions noted first rest n reach zero two more within = absurd (omega arith)
unreached store contractions noted first rest n reach (suc k) two more within =
    none_by (map.get contractions (first ∷ take k rest))
    (λ e. let m = noted first (take k rest) e in
    absurd (omega (arith, m, reach, length-take k rest)))

-- What is the longest among the contractions is so among all entries.
pub longer_all : (store : Store) (contractions : Entries) → AreLong contractions → (text : List ℕ)
    (n : ℕ) → HasNoLonger contractions text n → HasNoLonger (entries_in store contractions) text n
longer_all store contractions long text n h k two more within =
    long_get store contractions long (take k text) (omega (arith, length-take k text))
    ∙ h k two more within

pub longest_all : (store : Store) (contractions : Entries) → AreLong contractions → (text : List ℕ)
    (n : ℕ) (v : List Element) → IsLongest contractions text n v →
    IsLongest (entries_in store contractions) text n v
longest_all store contractions long text n v h = record {
  is_contraction = h.is_contraction;
  within = h.within;
  entry = long_get store contractions long (take n text)
      (omega (arith, length-take n text, h.within, h.is_contraction)) ∙ h.entry;
  longest = longer_all store contractions long text n h.longest;
}

-- The texts of entries are as many as the entries.
pub keys_len : (contractions : Entries) → length (map.keys contractions) ≡ map.len contractions
keys_len contractions =
    length-map (map.entries contractions) (λ (e : Entry). e.0) ∙ sym (len-entries contractions)

-- A text of one code point has that code point's entry, any other one the contraction's.
pub one_get : (store : Store) (contractions : Entries) → AreLong contractions → (text : List ℕ) →
    length text ≡ 1 → map.get (entries_in store contractions) text ≡ single_in store (get_or text 0 0)
one_get store contractions long [] h = absurd (omega arith)
one_get store contractions long (c ∷ []) h = get-entries_in store contractions long (c ∷ [])
one_get store contractions long (c ∷ d ∷ rest) h = absurd (omega arith)

pub other_get : (store : Store) (contractions : Entries) → AreLong contractions → (text : List ℕ) →
    (length text ≢ 1) → map.get (entries_in store contractions) text ≡ map.get contractions text
other_get store contractions long [] h = get-entries_in store contractions long []
other_get store contractions long (c ∷ []) h = absurd (omega arith)
other_get store contractions long (c ∷ d ∷ rest) h = get-entries_in store contractions long (c ∷ d ∷ rest)

-- What is found is some.
pub some_is : {A : Type 0} (now : A → List Element) (r : Option A) (o : Option (List Element)) →
    MatchOption r (o ≡ None) (λ x. o ≡ Some (now x)) → is_some r ≡ is_some o
some_is now None o h = sym (ap is_some h)
some_is now (Some x) o h = sym (ap is_some h)

-- A text of one code point.
pub one_text : (text : List ℕ) → length text ≡ 1 → text ≡ get_or text 0 0 ∷ []
one_text [] h = absurd (omega arith)
one_text (c ∷ []) h = refl
one_text (c ∷ d ∷ rest) h = absurd (omega arith)

-- What the contractions answer of a text is what all entries do.
pub longest_lift : {A : Type 0} (now : A → List Element) (store : Store) (contractions : Entries) →
    AreLong contractions → (text : List ℕ) (r : Option (ℕ × A)) →
    MatchOption r (HasNoLonger contractions text 1) (λ f. IsLongest contractions text f.0 (now f.1)) →
    MatchOption r (HasNoLonger (entries_in store contractions) text 1)
    (λ f. IsLongest (entries_in store contractions) text f.0 (now f.1))
longest_lift now store contractions long text None h = longer_all store contractions long text 1 h
longest_lift now store contractions long text (Some f) h =
    longest_all store contractions long text f.0 (now f.1) h

pub unreached_text : (store : Store) (contractions : Entries) → AreNoted store contractions →
    (text : List ℕ) → 1 ≤ length text → (n : ℕ) → reach_in store (get_or text 0 0) ≤ n →
    HasNoLonger contractions text n
unreached_text store contractions noted [] some n reach = absurd (omega arith)
unreached_text store contractions noted (first ∷ rest) some n reach =
    unreached store contractions noted first rest n reach

-- No contractions: none is noted, and there are few.
pub none_noted : (store : Store) (contractions : Entries) → contractions ≡ map.empty →
    AreNoted store contractions
none_noted store contractions e code rest h =
    let s = none_long contractions e (code ∷ rest) h in
    let none = ap (λ (m : Entries). is_some (map.get m (code ∷ rest))) e ∙ ap is_some (get-empty text_cmp (code ∷ rest)) in
    absurd cc

pub none_few : (contractions : Entries) → contractions ≡ map.empty → map.len contractions < 4294967296
none_few contractions e =
    let none = ap (λ (m : Entries). map.len m) e ∙ len-empty text_cmp (List Element) in omega arith

-- A contraction that is put is noted.
noted_by : (store new : Store) (contractions : Entries) (text : List ℕ) (v : List Element) →
    AreNoted store contractions →
    ((c : ℕ) → reach_in store c ≤ reach_in new c) →
    length text ≤ reach_in new (get_or text 0 0) → (code : ℕ) (rest : List ℕ) (o : Ordering) →
    text_cmp (code ∷ rest) text ≡ o →
    is_some (cond (is_eq o) (Some v) (map.get contractions (code ∷ rest))) ≡ true →
    length (code ∷ rest) ≤ reach_in new code
noted_by store new contractions text v noted kept first code rest Less e h =
    let m = noted code rest h in let more = kept code in omega (arith, m, more)
noted_by store new contractions text v noted kept first code rest Equal e h =
    subst (λ (t : List ℕ). length t ≤ reach_in new (get_or t 0 0))
    (sym (exact_bytes (code ∷ rest) text e)) first
noted_by store new contractions text v noted kept first code rest Greater e h =
    let m = noted code rest h in let more = kept code in omega (arith, m, more)

pub put_noted : (store new : Store) (contractions : Entries) (text : List ℕ) (v : List Element) →
    AreNoted store contractions →
    ((c : ℕ) → reach_in store c ≤ reach_in new c) →
    length text ≤ reach_in new (get_or text 0 0) → AreNoted new (map.insert contractions text v)
put_noted store new contractions text v noted kept first code rest h =
    noted_by store new contractions text v noted kept first code rest (text_cmp (code ∷ rest) text) refl
    (rw (get-insert nat_list_cmp_total contractions text v (code ∷ rest)) at h)

few_by : (b : Bool) (n m : ℕ) → m ≡ cond b n (n + 1) → n < 4294967295 → m < 4294967296
few_by true n m e h = omega arith
few_by false n m e h = omega arith

pub put_few : (contractions : Entries) (text : List ℕ) (v : List Element) →
    map.len contractions < 4294967295 → map.len (map.insert contractions text v) < 4294967296
put_few contractions text v h =
    few_by (map.contains_key contractions text) (map.len contractions) _
    (len-insert nat_list_cmp_total contractions text v) h

-- What a put leaves, whether there was memory or not.
pub more_noted : (store new : Store) (contractions : Entries) → AreNoted store contractions →
    ((c : ℕ) → reach_in store c ≤ reach_in new c) → AreNoted new contractions
more_noted store new contractions noted kept code rest h =
    let m = noted code rest h in let more = kept code in omega (arith, m, more)

pub same_reach : (store new : Store) → ((c : ℕ) → reach_in new c ≡ reach_in store c) → (c : ℕ) →
    reach_in store c ≤ reach_in new c
same_reach store new same c = let e = same c in omega (arith, e)

pub after_put : {T E : Type 0} (r : Result T E) (store new : Store) (contractions more : Entries)
    (text : List ℕ) (v : List Element) → AreLong contractions → AreNoted store contractions →
    ((c : ℕ) → reach_in store c ≤ reach_in new c) →
    length text ≤ reach_in new (get_or text 0 0) → 2 ≤ length text → length text ≤ 6 →
    map.len contractions < 4294967295 → OnOk r (more ≡ map.insert contractions text v) →
    OnErr r (more ≡ contractions) → AreLong more × (AreNoted new more × (map.len more < 4294967296))
after_put (Ok x) store new contractions more text v long noted kept first low high few ok err =
    let whole : Entries → Type 0 = λ m. AreLong m × (AreNoted new m × (map.len m < 4294967296)) in
    subst whole (sym ok) (
      put_sized contractions text v long low high,
      (put_noted store new contractions text v noted kept first, put_few contractions text v few),
    )
after_put (Err x) store new contractions more text v long noted kept first low high few ok err =
    let whole : Entries → Type 0 = λ m. AreLong m × (AreNoted new m × (map.len m < 4294967296)) in
    subst whole (sym err) (long, (more_noted store new contractions noted kept, omega arith))

-- The entries behind a put that had memory.
pub long_put : (old new : Store) (contractions more : Entries) → AreLong contractions →
    (text : List ℕ) (v : List Element) → 2 ≤ length text → length text ≤ 6 →
    ((d : ℕ) → single_in new d ≡ single_in old d) → more ≡ map.insert contractions text v →
    entries_in new more ≡ map.insert (entries_in old contractions) text v
long_put old new contractions more long text v low high h is =
    put_long old new contractions more long (subst AreLong (sym is) (put_sized contractions text v long low high))
    text v low h is

-- A clause on what had memory, from another one.
pub on_ok : {T E : Type 0} {P Q : Type 0} (r : Result T E) → (P → Q) → OnOk r P → OnOk r Q
on_ok (Ok x) f h = f h
on_ok (Err x) f h = tt

-- A code point's entry is put, where there was memory.
pub single_put : {T E : Type 0} (r : Result T E) (old new : Store) (contractions : Entries) →
    AreLong contractions → (text : List ℕ) (v : List Element) → length text ≡ 1 →
    OnOk r ((d : ℕ) → single_in new d ≡ (if d == get_or text 0 0 then Some v else single_in old d)) →
    OnOk r (entries_in new contractions ≡ map.insert (entries_in old contractions) text v)
single_put (Ok x) old new contractions long text v one h =
    put_single old new contractions long (get_or text 0 0) v h
    ∙ ap (λ (t : List ℕ). map.insert (entries_in old contractions) t v) (sym (one_text text one))
single_put (Err x) old new contractions long text v one h = tt

-- A text with an entry has one to six codes.
pub sized_all : (store : Store) (contractions : Entries) → AreLong contractions → (text : List ℕ) →
    map.contains_key (entries_in store contractions) text ≡ true → (1 ≤ length text) × (length text ≤ 6)
sized_all store contractions long [] h =
    let s = long [] (ap is_some (sym (get-entries_in store contractions long [])) ∙ h) in
    absurd (omega (arith, s.0))
sized_all store contractions long (c ∷ []) h = (omega arith, omega arith)
sized_all store contractions long (c ∷ d ∷ rest) h =
    let s = long (c ∷ d ∷ rest) (ap is_some (sym (get-entries_in store contractions long (c ∷ d ∷ rest))) ∙ h) in
    (omega (arith, s.0), s.1)
