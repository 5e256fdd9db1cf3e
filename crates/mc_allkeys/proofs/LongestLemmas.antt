-- The longest contraction that begins a text is its first piece.
use Rattle.std.proofs.Common.{◌≡◌, ℕ, ◌≤◌, ◌<◌, Bool, true, false, cond, List, length, take, ◌+◌, ◌++◌, length-take, Option, None, is_some, ◌⊎◌, inl, inr, refl, sym, ap, ◌∙◌, length-append, arith}
use Rattle.std.specs.FinMap as map
use Rattle.std.specs.FinMap.{get-retain_keys, contains_key-keys}
use Rattle.std.specs.List.{Contains, list_any}
use Rattle.std.specs.Ordering.{is_eq, eq_by_cmp}
use Rattle.std.specs.declared.cmp.Ordering.{Ordering}
use Rattle.std.specs.declared.cmp.Ordering.TheVariants.{Less, Equal, Greater}
use Rattle.std.proofs.lemmas.Bool.Decides.{nat_tests}
use Rattle.std.proofs.lemmas.List.{take_at}
use Rattle.std.proofs.lemmas.List.Folds.{list_any-from_Any}
use Rattle.std.proofs.lemmas.Map.Lookups.{exact_bytes}
use Rattle.std.proofs.lemmas.Map.Views.{Contains-from_any}
use Rattle.mc_allkeys.specs.Longest.{AreContractionsAt, HasNoLonger, IsLongest}
use Rattle.mc_allkeys.specs.Pieces.{piece_len}
use Rattle.mc_allkeys.specs.Table.{Entries, is_long, contractions_of}
use Rattle.mc_allkeys.specs.Texts.{text_cmp}
use Rattle.mc_allkeys.specs.declared.element.Element.{Element}
use Rattle.mc_allkeys.proofs.EntryLemmas.{same}
use Rattle.mc_allkeys.proofs.FrontLemmas.{le_or_lt, piece_len-is, piece_len-one}

-- A text among those with an entry.
one_by : (x y : List ℕ) (o : Ordering) → text_cmp x y ≡ o → is_eq o ≡ true → x ≡ y
one_by x y Less e h = absurd cc
one_by x y Equal e h = exact_bytes x y e
one_by x y Greater e h = absurd cc

retained : (entries : Entries) (text : List ℕ) →
    map.contains_key (map.retain_keys entries is_long) text
    ≡ is_some (cond (is_long text) (map.get entries text) None)
retained entries text =
    ap is_some (get-retain_keys entries is_long text (λ x e. ap is_long (sym (exact_bytes text x e))))

both_by : (b : Bool) (o : Option (List Element)) → is_some (cond b o None) ≡ true →
    (b ≡ true) × (is_some o ≡ true)
both_by true o h = (refl, h)
both_by false o h = absurd cc

listed : (entries : Entries) (text : List ℕ) → Contains (contractions_of entries) text →
    (2 ≤ length text) × (map.contains_key entries text ≡ true)
listed entries text h =
    let found : list_any (eq_by_cmp text_cmp text) (contractions_of entries) ≡ true =
    list_any-from_Any (eq_by_cmp text_cmp text) (contractions_of entries)
    (h.0, text, h.1, h.2, same text text refl) in
    let both = both_by (is_long text) (map.get entries text)
    (sym (retained entries text) ∙ contains_key-keys (map.retain_keys entries is_long) text ∙ found) in
    let long : is_long text ≡ true = both.0 in
    (grind (arith, nat_tests, long), both.1)

listed_from : (entries : Entries) (text : List ℕ) → 2 ≤ length text →
    map.contains_key entries text ≡ true → Contains (contractions_of entries) text
listed_from entries text two h =
    let long : is_long text ≡ true = grind (arith, nat_tests) in
    Contains-from_any (λ x y e. one_by x y (text_cmp x y) refl e) text (contractions_of entries)
    (sym (contains_key-keys (map.retain_keys entries is_long) text) ∙ retained entries text
    ∙ ap (λ b. is_some (cond b (map.get entries text) None)) long ∙ h)

pub all-contractions : (entries : Entries) (text : List ℕ) →
    AreContractionsAt entries (contractions_of entries) text
all-contractions entries text = record {
  sound = listed entries;
  complete = λ k two within h.
      listed_from entries (take k text) (omega (arith, length-take k text)) h;
}

-- No contraction that begins the text is longer.
not_longer : (entries : Entries) (contractions : List (List ℕ)) (text : List ℕ) (len : ℕ) →
    AreContractionsAt entries contractions text → HasNoLonger entries text len → (front rest : List ℕ) →
    Contains contractions front → text ≡ front ++ rest →
    (length front ≤ len) ⊎ (len < length front) → length front ≤ len
not_longer entries contractions text len h none front rest one e (inl le) = le
not_longer entries contractions text len h none front rest one e (inr lt) =
    let s = h.sound front one in
    let size : length text ≡ length front + length rest = ap length e ∙ length-append front rest in
    let begin : take (length front) text ≡ front =
    ap (take (length front)) e ∙ take_at front rest (length front) refl in
    let no = none (length front) s.0 lt (omega (arith, size)) in
    let is = ap (λ t. is_some (map.get entries t)) (sym begin) ∙ ap is_some no in
    let yes = s.1 in
    absurd cc

pub longest-piece : (entries : Entries) (contractions : List (List ℕ)) (text : List ℕ) (len : ℕ)
    (elements : List Element) → AreContractionsAt entries contractions text →
    IsLongest entries text len elements → piece_len contractions text ≡ len
longest-piece entries contractions text len elements h g =
    piece_len-one contractions text (piece_len contractions text) len (piece_len-is contractions text)
    (record {
      some = omega (arith, g.is_contraction);
      reached = inr (g.within, h.complete len g.is_contraction g.within (ap is_some g.entry));
      greatest = λ front rest one e. not_longer entries contractions text len h g.longest front rest one e
          (le_or_lt (length front) len);
    })

pub no-contraction : (entries : Entries) (contractions : List (List ℕ)) (text : List ℕ) →
    AreContractionsAt entries contractions text → HasNoLonger entries text 1 →
    piece_len contractions text ≡ 1
no-contraction entries contractions text h none =
    piece_len-one contractions text (piece_len contractions text) 1 (piece_len-is contractions text)
    (record {
      some = omega arith;
      reached = inl refl;
      greatest = λ front rest one e. not_longer entries contractions text 1 h none front rest one e
          (le_or_lt (length front) 1);
    })
