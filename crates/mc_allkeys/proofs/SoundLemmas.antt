-- What holds of each table holds of one with another entry or range.
use Rattle.std.proofs.Common.{◌≡◌, ℕ, ◌≤◌, true, List, [], ◌∷◌, ◌++◌, length, get_or, slice_index, cond, Some, is_some, Result, Ok, Err, OnOk, OnErr, if◌then◌else◌, ◌==◌, refl, sym, ap, subst, ◌∙◌, arith}
use Rattle.std.specs.Cmp.Lexicographic.{nat_list_cmp_total}
use Rattle.std.specs.FinMap as map
use Rattle.std.specs.FinMap.{get-insert, get-empty}
use Rattle.std.specs.List.{All}
use Rattle.std.specs.Ordering.{is_eq}
use Rattle.std.specs.declared.cmp.Ordering.{Ordering}
use Rattle.std.specs.declared.cmp.Ordering.TheVariants.{Less, Equal, Greater}
use Rattle.std.proofs.lemmas.List.{get_or_default}
use Rattle.std.proofs.lemmas.List.Elements.{All-push}
use Rattle.std.proofs.lemmas.Map.Lookups.{exact_bytes}
use Rattle.mc_allkeys.specs.Keys.{entries_in}
use Rattle.mc_allkeys.specs.Singles.{Store, single_in}
use Rattle.mc_allkeys.specs.Sound.{HasWeights, IsText, IsSound}
use Rattle.mc_allkeys.specs.Table.{ElementTable, Entries}
use Rattle.mc_allkeys.specs.Texts.{text_cmp}
use Rattle.mc_allkeys.specs.declared.element.Element.{Element}
use Rattle.mc_allkeys.specs.declared.range.Range.{Range}
use Rattle.mc_allkeys.proofs.EntryLemmas.{AreLong, get-entries_in, same_entries, single_put, long_put}

-- a table by its parts
abbrev pub table_with : Entries → List Range → ElementTable
table_with entries ranges = record { entries = entries; ranges = ranges }

-- No entries and no ranges.
pub sound_none : (entries : Entries) (ranges : List Range) → entries ≡ map.empty → ranges ≡ [] →
    IsSound (table_with entries ranges)
sound_none entries ranges e r = record {
  texts = λ text h.
      let none = ap (λ (m : Entries). is_some (map.get m text)) e ∙ ap is_some (get-empty text_cmp text) in
      absurd cc;
  weights = λ text elements h.
      let none = ap (λ (m : Entries). map.get m text) e ∙ get-empty text_cmp text in absurd cc;
  bases = subst (All (λ (range : Range). range.base ≤ 0xFFFF)) (sym r) (λ k d lt. absurd (omega arith));
}

-- One more entry.
text_by : (entries : Entries) (ranges : List Range) (text : List ℕ) (v : List Element) →
    IsSound (table_with entries ranges) → IsText text → (q : List ℕ) (o : Ordering) → text_cmp q text ≡ o →
    is_some (cond (is_eq o) (Some v) (map.get entries q)) ≡ true → IsText q
text_by entries ranges text v h is q Less e found = h.texts q found
text_by entries ranges text v h is q Equal e found = subst IsText (sym (exact_bytes q text e)) is
text_by entries ranges text v h is q Greater e found = h.texts q found

weights_by : (entries : Entries) (ranges : List Range) (v : List Element) →
    IsSound (table_with entries ranges) → All HasWeights v → (q : List ℕ) (o : Ordering)
    (elements : List Element) → cond (is_eq o) (Some v) (map.get entries q) ≡ Some elements →
    All HasWeights elements
weights_by entries ranges v h small q Less elements found = h.weights q elements found
weights_by entries ranges v h small q Equal elements found =
    let same : v ≡ elements = cc in subst (All HasWeights) same small
weights_by entries ranges v h small q Greater elements found = h.weights q elements found

pub sound_insert : (entries : Entries) (ranges : List Range) (text : List ℕ) (v : List Element) →
    IsSound (table_with entries ranges) → IsText text → All HasWeights v →
    IsSound (table_with (map.insert entries text v) ranges)
sound_insert entries ranges text v h is small = record {
  texts = λ q found. text_by entries ranges text v h is q (text_cmp q text) refl
      (rw (get-insert nat_list_cmp_total entries text v q) at found);
  weights = λ q elements found. weights_by entries ranges v h small q (text_cmp q text) elements
      (rw (get-insert nat_list_cmp_total entries text v q) at found);
  bases = h.bases;
}

-- One more range.
pub sound_range : (entries : Entries) (ranges more : List Range) (range : Range) →
    IsSound (table_with entries ranges) → range.base ≤ 0xFFFF → more ≡ ranges ++ range ∷ [] →
    IsSound (table_with entries more)
sound_range entries ranges more range h small is = record {
  texts = h.texts;
  weights = h.weights;
  bases = subst (All (λ (r : Range). r.base ≤ 0xFFFF)) (sym is)
      (All-push (λ (r : Range). r.base ≤ 0xFFFF) ranges range h.bases small);
}

-- A text by what a caller says of it.
pub text_is : (text : List ℕ) → 1 ≤ length text → length text ≤ 6 →
    ((k : ℕ) → slice_index text k ≤ 0x10FFFF) → IsText text
text_is text some short codes = record {
  some = some;
  short = short;
  codes = λ k d lt. rw (get_or_default text k d 0 lt) (codes k);
}

-- Entries that stay.
kept_by : (old new : Store) (contractions : Entries) → AreLong contractions →
    ((c : ℕ) → single_in new c ≡ single_in old c) → (q : List ℕ) →
    map.get (entries_in new contractions) q ≡ map.get (entries_in old contractions) q
kept_by old new contractions long h [] =
    get-entries_in new contractions long [] ∙ sym (get-entries_in old contractions long [])
kept_by old new contractions long h (c ∷ []) =
    get-entries_in new contractions long (c ∷ []) ∙ h c ∙ sym (get-entries_in old contractions long (c ∷ []))
kept_by old new contractions long h (c ∷ d ∷ rest) =
    get-entries_in new contractions long (c ∷ d ∷ rest)
    ∙ sym (get-entries_in old contractions long (c ∷ d ∷ rest))

pub sound_kept : (old new : Store) (contractions : Entries) (ranges : List Range) → AreLong contractions →
    ((c : ℕ) → single_in new c ≡ single_in old c) → IsSound (table_with (entries_in old contractions) ranges) →
    IsSound (table_with (entries_in new contractions) ranges)
sound_kept old new contractions ranges long h sound =
    subst (λ entries. IsSound (table_with entries ranges))
    (sym (same_entries _ _ (kept_by old new contractions long h))) sound

-- Behind a put of a code point's entry, whether there was memory or not.
pub sound_single : {T E : Type 0} (r : Result T E) (old new : Store) (contractions : Entries)
    (ranges : List Range) → AreLong contractions → (text : List ℕ) (v : List Element) →
    length text ≡ 1 → IsText text → All HasWeights v →
    OnOk r ((d : ℕ) → single_in new d ≡ (if d == get_or text 0 0 then Some v else single_in old d)) →
    OnErr r ((d : ℕ) → single_in new d ≡ single_in old d) →
    IsSound (table_with (entries_in old contractions) ranges) →
    IsSound (table_with (entries_in new contractions) ranges)
sound_single (Ok x) old new contractions ranges long text v one is small ok err sound =
    subst (λ entries. IsSound (table_with entries ranges))
    (sym (single_put {T = ℕ} {E = ℕ} (Ok 0) old new contractions long text v one ok))
    (sound_insert (entries_in old contractions) ranges text v sound is small)
sound_single (Err x) old new contractions ranges long text v one is small ok err sound =
    sound_kept old new contractions ranges long err sound

-- Behind a put of a contraction, whether there was memory or not.
pub sound_long : {T E : Type 0} (r : Result T E) (old new : Store) (contractions more : Entries)
    (ranges : List Range) → AreLong contractions → (text : List ℕ) (v : List Element) → 2 ≤ length text →
    IsText text → All HasWeights v → ((d : ℕ) → single_in new d ≡ single_in old d) →
    OnOk r (more ≡ map.insert contractions text v) → OnErr r (more ≡ contractions) →
    IsSound (table_with (entries_in old contractions) ranges) →
    IsSound (table_with (entries_in new more) ranges)
sound_long (Ok x) old new contractions more ranges long text v two is small same ok err sound =
    subst (λ entries. IsSound (table_with entries ranges))
    (sym (long_put old new contractions more long text v two is.short same ok))
    (sound_insert (entries_in old contractions) ranges text v sound is small)
sound_long (Err x) old new contractions more ranges long text v two is small same ok err sound =
    subst (λ m. IsSound (table_with (entries_in new m) ranges)) (sym err)
    (sound_kept old new contractions ranges long same sound)
