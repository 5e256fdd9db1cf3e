-- The Unicode collations keep the laws.
use Rattle.std.proofs.Common.{◌≡◌, ◌≢◌, ◌⊎◌, ℕ, suc, ◌<◌, ◌≤◌, ◌==◌, ◌&&◌, Bool, true, false}
use Rattle.std.proofs.Common.{cond, IsTrue, List, [], ◌∷◌, ◌++◌, Option, Some, None, length, take}
use Rattle.std.proofs.Common.{drop, append-nil, refl, sym, ap, subst, ◌∙◌, inl, inr, arith}
use Rattle.std.specs.Prelude.{slice_index_or}
use Rattle.std.specs.List.{All, Contains, flat_map}
use Rattle.std.specs.Option.{is_some}
use Rattle.std.proofs.lemmas.List.Elements.{All-nil, All-cons, Contains-get_or}
use Rattle.mc_charset.specs.declared.charset.Charset.{Charset}
use Rattle.mc_charset.specs.Chars.{spell}
use Rattle.mc_charset.specs.CodePoints.{spelled_code_point}
use Rattle.mc_order.specs.Characters.{AreCharsOf-parts, AreCharsOf-cons, AreCharsOf-none}
use Rattle.mc_order.specs.Floor.{weighs}
use Rattle.mc_order.specs.FloorLaw.{weighs_decides, KeepsFloor-from}
use Rattle.mc_order.specs.Laws.{KeepsSpace, KeepsSettings, IsWeight, IsCut, HasWeightPerChar}
use Rattle.mc_order.specs.Laws.{KeepsContractions, IsLawful}
use Rattle.mc_order.specs.Meaning.{AreCharsOf}
use Rattle.mc_order.specs.TailsLaw.{KeepsTails-from}
use Rattle.mc_order.specs.WithoutContractions.{flat_map-enough}
use Rattle.mc_order.specs.declared.pad.Pad.TheVariants.{NoPad}
use Rattle.mc_allkeys.proofs.LevelLemmas.{list-front, list-alone, list-weights}
use Rattle.mc_allkeys.proofs.LongestLemmas.{all-contractions}
use Rattle.mc_allkeys.specs.Fronts.{IsAcross}
use Rattle.mc_allkeys.specs.Levels.{IsFrontList}
use Rattle.mc_allkeys.specs.Sound.{IsSound}
use Rattle.mc_allkeys.specs.Table.{ElementTable, Entries}
use Rattle.mc_rules.proofs.WeightLemmas.{small_elements}
use Rattle.mc_rules.specs.Elements.{elements_of}
use Rattle.mc_uca.specs.Kind.{family_of, pad_of, levels_of}
use Rattle.mc_uca.specs.SetContractions.{of_table}
use Rattle.mc_uca.specs.UcaMeaning.{space_fits, uca_meaning}
use Rattle.mc_uca.specs.Weighing.{is_of_set, set_contractions, uca_list}
use Rattle.mc_uca.specs.declared.kind.UcaKind.{UcaKind}
use Rattle.mc_uca.specs.declared.kind.UcaKind.TheVariants.{Uca4, Uca520, Uca9}

-- More levels than one only without padding.
pub unpadded : (kind : UcaKind) → 1 < levels_of kind → pad_of kind ≡ NoPad
unpadded Uca4 more = absurd (omega arith)
unpadded Uca520 more = absurd (omega arith)
unpadded (Uca9 levels) more = refl

is_one : (n : ℕ) → (n == 1) ≡ true → n ≡ 1
is_one n e = grind arith

one_weight : (list : List ℕ) → (length list == 1) ≡ true → list ≡ slice_index_or list 0 0 ∷ []
one_weight [] e = absurd cc
one_weight (w ∷ []) e = refl
one_weight (w ∷ v ∷ ws) e = let n = is_one (suc (suc (length ws))) e in absurd (omega arith)

space_weight : (set : Charset) (kind : UcaKind) (table : ElementTable) →
    IsTrue (space_fits (pad_of kind) (uca_list set kind table 1 (0x20 ∷ []))) →
    KeepsSpace (pad_of kind) (uca_meaning set kind table)
space_weight set Uca4 table fits = one_weight (uca_list set Uca4 table 1 (0x20 ∷ [])) fits
space_weight set Uca520 table fits = one_weight (uca_list set Uca520 table 1 (0x20 ∷ [])) fits
space_weight set (Uca9 levels) table fits = refl

settings : (set : Charset) (kind : UcaKind) (table : ElementTable) → 1 ≤ levels_of kind →
    levels_of kind ≤ 3 →
    IsTrue (space_fits (pad_of kind) (uca_list set kind table 1 (0x20 ∷ []))) →
    KeepsSettings (uca_meaning set kind table)
settings set kind table some few fits = record {
  some_level = some;
  three_levels = few;
  levels_unpadded = unpadded kind;
  some_width = omega arith;
  three_wide = omega arith;
  one_added = omega arith;
  space_weight = space_weight set kind table fits;
}

-- The characters of a set are code points.
are_codes : (set : Charset) (codes : List ℕ) → AreCharsOf set codes →
    All (λ (code : ℕ). code ≤ 0x10FFFF) codes
are_codes set [] h = All-nil (λ (code : ℕ). code ≤ 0x10FFFF)
are_codes set (c ∷ cs) h =
    let parts = AreCharsOf-parts set c cs h in
    let below = spelled_code_point set c parts.0.0 parts.0.1 in
    All-cons (λ (code : ℕ). code ≤ 0x10FFFF) c cs (omega arith) (are_codes set cs parts.1)

weight_fits : (set : Charset) (kind : UcaKind) (table : ElementTable) (weight : ℕ) →
    (1 ≤ weight) × (weight ≤ 0xFFFF) → IsWeight (uca_meaning set kind table) weight
weight_fits set kind table weight h =
    let a = h.0 in let b = h.1 in (omega arith, omega arith, omega arith, omega arith)

bounds : (set : Charset) (kind : UcaKind) (table : ElementTable) → IsSound table → (level : ℕ)
    (codes : List ℕ) → AreCharsOf set codes →
    All (IsWeight (uca_meaning set kind table)) (uca_list set kind table level codes)
bounds set kind table sound level codes chars =
    let each = list-weights (set_contractions set table.entries)
    (elements_of table (family_of kind)) level codes
    (small_elements table sound (family_of kind)) (are_codes set codes chars) in
    λ k d lt. weight_fits set kind table _ (each k d lt)

-- What is left of the first characters is nothing, or the list of a contraction's front.
tail_by : (set : Charset) (kind : UcaKind) (table : ElementTable) (last more weights : List ℕ) →
    uca_list set kind table 1 last ≡ weights →
    IsAcross (set_contractions set table.entries) last more →
    (weights ≡ []) ⊎ Contains (uca_meaning set kind table).tails weights
tail_by set kind table last more [] e across = inl refl
tail_by set kind table last more (w ∷ ws) e across =
    let m = uca_meaning set kind table in
    inr (((KeepsTails-from m refl).each (w ∷ ws)).1 (record {
      front = last;
      rest = across.more;
      some_weights = λ none. cc;
      some_front = across.some_front;
      some_rest = across.some_more;
      joined = across.joined;
      first_list = e;
    }))

none_or_tail : (set : Charset) (kind : UcaKind) (table : ElementTable) (last more : List ℕ) →
    (last ≡ []) ⊎ IsAcross (set_contractions set table.entries) last more →
    (uca_list set kind table 1 last ≡ [])
    ⊎ Contains (uca_meaning set kind table).tails (uca_list set kind table 1 last)
none_or_tail set kind table last more (inl e) = inl (ap (uca_list set kind table 1) e)
none_or_tail set kind table last more (inr across) =
    tail_by set kind table last more (uca_list set kind table 1 last) refl across

nothing_in : {P : Type 0} (text : List ℕ) (contractions : List (List ℕ)) → contractions ≡ [] →
    Contains contractions text → P
nothing_in text contractions none h = let n = ap length none in let lt = h.1 in absurd (omega arith)

-- Without contractions each character has its own weights.
flat_by : (set : Charset) (kind : UcaKind) (table : ElementTable) →
    set_contractions set table.entries ≡ [] → (codes : List ℕ) →
    uca_list set kind table 1 codes
    ≡ flat_map (λ code. uca_list set kind table 1 (code ∷ [])) codes
flat_by set kind table none [] = refl
flat_by set kind table none (c ∷ cs) =
    list-alone (set_contractions set table.entries) (elements_of table (family_of kind)) 1 c cs
    (inl (λ head. nothing_in (c ∷ head.0) (set_contractions set table.entries) none head.1))
    ∙ ap (λ rest. uca_list set kind table 1 (c ∷ []) ++ rest) (flat_by set kind table none cs)

all_weigh : (set : Charset) (kind : UcaKind) (table : ElementTable) →
    HasWeightPerChar (uca_meaning set kind table) → (codes : List ℕ) → AreCharsOf set codes →
    All (λ code. uca_list set kind table 1 (code ∷ []) ≢ []) codes
all_weigh set kind table h [] chars =
    All-nil (λ code. uca_list set kind table 1 (code ∷ []) ≢ [])
all_weigh set kind table h (c ∷ cs) chars =
    let parts = AreCharsOf-parts set c cs chars in
    All-cons (λ code. uca_list set kind table 1 (code ∷ []) ≢ []) c cs (h.1 c parts.0)
    (all_weigh set kind table h cs parts.1)

last_none : (contractions : List (List ℕ)) (last more : List ℕ) → contractions ≡ [] →
    (last ≡ []) ⊎ IsAcross contractions last more → last ≡ []
last_none contractions last more none (inl e) = e
last_none contractions last more none (inr across) =
    nothing_in (last ++ across.more) contractions none across.joined

enough_at : (k : ℕ) (weights kept more rest : List ℕ) → weights ≡ kept ++ [] → rest ≡ more →
    (k ≤ length weights) ⊎ (more ≡ []) → (k ≤ length kept) ⊎ (rest ≡ [])
enough_at k weights kept more rest e d (inl le) =
    inl (subst (λ l. k ≤ length l) (e ∙ append-nil kept) le)
enough_at k weights kept more rest e d (inr none) = inr (d ∙ none)

enough_by : (set : Charset) (kind : UcaKind) (table : ElementTable) (k : ℕ) (codes : List ℕ) →
    HasWeightPerChar (uca_meaning set kind table) → AreCharsOf set codes →
    (h : IsFrontList (set_contractions set table.entries) (elements_of table (family_of kind)) 1 k
    codes) →
    (k ≤ length h.kept) ⊎ (uca_list set kind table 1 (h.last ++ drop k codes) ≡ [])
enough_by set kind table k codes weigh chars h =
    let f : ℕ → List ℕ = λ code. uca_list set kind table 1 (code ∷ []) in
    let gone = last_none (set_contractions set table.entries) h.last (drop k codes) weigh.0
    h.none_or_across in
    let front : flat_map f (take k codes) ≡ h.kept ++ [] =
    sym (flat_by set kind table weigh.0 (take k codes)) ∙ h.front
    ∙ ap (λ last. h.kept ++ uca_list set kind table 1 last) gone in
    let whole : uca_list set kind table 1 (h.last ++ drop k codes) ≡ flat_map f (drop k codes) =
    ap (λ last. uca_list set kind table 1 (last ++ drop k codes)) gone
    ∙ flat_by set kind table weigh.0 (drop k codes) in
    enough_at k (flat_map f (take k codes)) h.kept (flat_map f (drop k codes))
    (uca_list set kind table 1 (h.last ++ drop k codes)) front whole
    (flat_map-enough f k codes (all_weigh set kind table weigh codes chars))

enough_cases : (set : Charset) (kind : UcaKind) (table : ElementTable) (k : ℕ) (codes : List ℕ)
    (all : Bool) →
    weighs set (uca_list set kind table 1) (set_contractions set table.entries) ≡ all →
    AreCharsOf set codes →
    (h : IsFrontList (set_contractions set table.entries) (elements_of table (family_of kind)) 1 k
    codes) → (cond all k 0 ≤ length h.kept)
    ⊎ (uca_list set kind table 1 (h.last ++ drop k codes) ≡ [])
enough_cases set kind table k codes true e chars h =
    enough_by set kind table k codes ((weighs_decides (uca_meaning set kind table)).0 e) chars h
enough_cases set kind table k codes false e chars h = inl (omega arith)

cut : (set : Charset) (kind : UcaKind) (table : ElementTable) (k : ℕ) (codes : List ℕ) →
    AreCharsOf set codes → IsCut (uca_meaning set kind table) k codes
cut set kind table k codes chars =
    let h = list-front (set_contractions set table.entries) (elements_of table (family_of kind)) 1 k
    codes in
    record {
      kept = h.kept;
      tail = uca_list set kind table 1 h.last;
      rest = uca_list set kind table 1 (h.last ++ drop k codes);
      front = h.front;
      whole = h.whole;
      none_or_tail = none_or_tail set kind table h.last (drop k codes) h.none_or_across;
      enough = enough_cases set kind table k codes _ refl chars h;
    }

spelled : (found : Option (List ℕ)) → is_some found ≡ true → (text : List ℕ) × (found ≡ Some text)
spelled None e = absurd cc
spelled (Some text) e = (text, refl)

both_parts : (a b : Bool) → (a && b) ≡ true → (a ≡ true) × (b ≡ true)
both_parts true b e = (refl, e)
both_parts false b e = absurd cc

are_of_set : (set : Charset) (codes : List ℕ) → is_of_set set codes ≡ true → AreCharsOf set codes
are_of_set set [] e = AreCharsOf-none set
are_of_set set (c ∷ cs) e =
    let parts = both_parts (is_some (spell set c)) (is_of_set set cs) e in
    AreCharsOf-cons set c cs (spelled (spell set c) parts.0) (are_of_set set cs parts.1)

one_contraction : (set : Charset) (entries : Entries) (text : List ℕ) →
    Contains (set_contractions set entries) text → (2 ≤ length text) × AreCharsOf set text
one_contraction set entries text h =
    let both = of_table set entries text h in
    (((all-contractions entries text).sound text both.0).0, are_of_set set text both.1)

contractions : (set : Charset) (kind : UcaKind) (table : ElementTable) →
    KeepsContractions (uca_meaning set kind table)
contractions set kind table = λ k d lt.
    one_contraction set table.entries _
    (Contains-get_or (set_contractions set table.entries) k d lt)

-- A sound table, one to three levels and, where texts are padded, one weight of the space.
pub uca_lawful : (set : Charset) (kind : UcaKind) (table : ElementTable) → 1 ≤ levels_of kind →
    levels_of kind ≤ 3 → IsSound table →
    IsTrue (space_fits (pad_of kind) (uca_list set kind table 1 (0x20 ∷ []))) →
    IsLawful (uca_meaning set kind table)
uca_lawful set kind table some few sound fits = record {
  settings = settings set kind table some few fits;
  bounds = λ level codes one within chars. bounds set kind table sound level codes chars;
  empty = λ level one within. refl;
  cut = λ k codes chars. cut set kind table k codes chars;
  head = λ level code codes one within chars other. list-alone (set_contractions set table.entries)
      (elements_of table (family_of kind)) level code codes (inl other);
  floor_of = KeepsFloor-from (uca_meaning set kind table) (λ k. refl);
  contractions_of = contractions set kind table;
  tails_of = KeepsTails-from (uca_meaning set kind table) refl;
}
