-- The piece that begins a text, found in a window over its first codes.
use Rattle.std.proofs.Common.{◌≡◌, ◌⊎◌, ℕ, zero, suc, ◌-◌, ◌≤◌, ◌<◌, min, true, List, [], ◌∷◌, ◌++◌, length, length-take, length-drop, append-nil, take, drop, slice_index_or, Some, refl, sym, ap, subst, ◌∙◌, inl, inr, arith}
use Rattle.std.specs.FinMap as map
use Rattle.std.specs.List.{Contains, flat_map}
use Rattle.std.specs.Option.{option_map_or}
use Rattle.std.proofs.lemmas.List.{take-take}
use Rattle.mc_charset.specs.declared.charset.Charset.{Charset}
use Rattle.mc_allkeys.specs.Fronts.{IsPieceLen}
use Rattle.mc_allkeys.specs.Longest.{AreContractionsAt, HasNoLonger, IsLongest}
use Rattle.mc_allkeys.specs.Pieces.{piece_len, pieces}
use Rattle.mc_allkeys.specs.Sound.{IsSound}
use Rattle.mc_allkeys.specs.Table.{Entries, ElementTable, contractions_of}
use Rattle.mc_allkeys.specs.declared.element.Element.{Element}
use Rattle.mc_rules.specs.Elements.{unlisted_elements, elements_of}
use Rattle.mc_uca.specs.Kind.{family_of}
use Rattle.mc_uca.specs.Reach.{reach_at, Reaches}
use Rattle.mc_uca.specs.Streams.{IsFirstPiece}
use Rattle.mc_uca.specs.Weighing.{is_of_set, set_contractions, uca_elements}
use Rattle.mc_uca.specs.declared.kind.UcaKind.{UcaKind}
use Rattle.mc_uca.specs.SetContractions.{of_table, set_at}

front_one : (first len : ℕ) (rest : List ℕ) → 1 ≤ len →
    take len (first ∷ rest) ≡ first ∷ take (len - 1) rest
front_one first zero rest h = absurd (omega arith)
front_one first (suc n) rest h = let e : suc n - 1 ≡ n = omega arith in rw e refl

-- A piece is no longer than what is noted for its first code, and not longer than six codes.
pub piece_short : (set : Charset) (table : ElementTable) (lens : List ℕ) (first len : ℕ)
    (rest : List ℕ) → IsSound table → Reaches (contractions_of table.entries) lens →
    AreContractionsAt table.entries (contractions_of table.entries) (first ∷ rest) →
    IsPieceLen (set_contractions set table.entries) (first ∷ rest) len →
    (len ≡ 1) ⊎ ((len ≤ reach_at lens first) × (len ≤ 6))
piece_short set table lens first len rest sound reaches at is = go is.reached
  where
    go : (len ≡ 1) ⊎ ((len ≤ length (first ∷ rest))
        × Contains (set_contractions set table.entries) (take len (first ∷ rest))) →
        (len ≡ 1) ⊎ ((len ≤ reach_at lens first) × (len ≤ 6))
    go (inl e) = inl e
    go (inr (within, one)) =
        let listed = (of_table set table.entries (take len (first ∷ rest)) one).0 in
        let text = sound.texts (take len (first ∷ rest)) (at.sound (take len (first ∷ rest)) listed).1 in
        let long = length-take len (first ∷ rest) in
        let is_front = front_one first len rest is.some in
        let reached = reaches first (take (len - 1) rest)
        (subst (Contains (contractions_of table.entries)) is_front listed) in
        let same = ap length is_front in
        let short = text.short in
        inr (omega (arith, long, reached, same, within), omega (arith, long, short, within))

-- The first piece, and the elements of what is behind it.
pub first_piece : (set : Charset) (kind : UcaKind) (table : ElementTable) (first len : ℕ)
    (rest behind : List ℕ) (piece : List Element) →
    ((contractions : List (List ℕ)) (code : ℕ) (rest : List ℕ) →
    pieces contractions (code ∷ rest)
    ≡ take (piece_len contractions (code ∷ rest)) (code ∷ rest)
    ∷ pieces contractions (drop (piece_len contractions (code ∷ rest)) (code ∷ rest))) →
    piece_len (set_contractions set table.entries) (first ∷ rest) ≡ len → 1 ≤ len →
    elements_of table (family_of kind) (take len (first ∷ rest)) ≡ piece →
    behind ≡ drop len (first ∷ rest) →
    IsFirstPiece (uca_elements set kind table) (first ∷ rest) piece behind
first_piece set kind table first len rest behind piece step is some e b =
    let E = elements_of table (family_of kind) in
    let T = set_contractions set table.entries in
    let shorter = ap length b in
    let dropped = length-drop len (first ∷ rest) in
    record {
      elements = ap (flat_map E) (step T first rest)
          ∙ ap (λ n. E (take n (first ∷ rest)) ++ flat_map E (pieces T (drop n (first ∷ rest)))) is
          ∙ ap (λ es. es ++ flat_map E (pieces T (drop len (first ∷ rest)))) e
          ∙ ap (λ more. piece ++ flat_map E (pieces T more)) (sym b);
      shorter = omega (arith, shorter, dropped);
    }

-- The entry of a contraction has its elements.
pub entry_elements : (table : ElementTable) (kind : UcaKind) (text : List ℕ) (elements : List Element) →
    map.get table.entries text ≡ Some elements → elements_of table (family_of kind) text ≡ elements
entry_elements table kind text elements e =
    ap (λ found. option_map_or (λ (es : List Element). es) found
    (unlisted_elements table (family_of kind) text)) e

-- What the laws of the table's crate say of pieces.
pub record Laws : Type 0 where
  pub is : (contractions : List (List ℕ)) (codes : List ℕ) →
      IsPieceLen contractions codes (piece_len contractions codes)
  pub within : (contractions : List (List ℕ)) (codes : List ℕ) (k : ℕ) →
      piece_len contractions codes ≤ k →
      piece_len contractions (take k codes) ≡ piece_len contractions codes
  pub all : (entries : Entries) (text : List ℕ) →
      AreContractionsAt entries (contractions_of entries) text
  pub longest : (entries : Entries) (contractions : List (List ℕ)) (text : List ℕ) (len : ℕ)
      (elements : List Element) → AreContractionsAt entries contractions text →
      IsLongest entries text len elements → piece_len contractions text ≡ len
  pub none : (entries : Entries) (contractions : List (List ℕ)) (text : List ℕ) →
      AreContractionsAt entries contractions text → HasNoLonger entries text 1 →
      piece_len contractions text ≡ 1
  pub step : (contractions : List (List ℕ)) (code : ℕ) (rest : List ℕ) →
      pieces contractions (code ∷ rest)
      ≡ take (piece_len contractions (code ∷ rest)) (code ∷ rest)
      ∷ pieces contractions (drop (piece_len contractions (code ∷ rest)) (code ∷ rest))

short_by : (len reach : ℕ) → (len ≡ 1) ⊎ ((len ≤ reach) × (len ≤ 6)) → 1 ≤ len → reach < 2 → len ≡ 1
short_by len reach (inl e) some lt = e
short_by len reach (inr h) some lt = let a = h.0 in omega arith

fits_by : (len reach : ℕ) → (len ≡ 1) ⊎ ((len ≤ reach) × (len ≤ 6)) → 2 ≤ reach → len ≤ min reach 6
fits_by len reach (inl e) two = omega arith
fits_by len reach (inr h) two = let a = h.0 in let b = h.1 in omega arith

-- Where no contraction of two codes is noted, the first piece is one code.
pub alone_by_reach : (set : Charset) (table : ElementTable) (lens : List ℕ) (first : ℕ)
    (codes rest : List ℕ) → Laws → IsSound table → Reaches (contractions_of table.entries) lens →
    codes ≡ first ∷ rest → reach_at lens first < 2 →
    piece_len (set_contractions set table.entries) codes ≡ 1
alone_by_reach set table lens first codes rest laws sound reaches e lt =
    let T = set_contractions set table.entries in
    let is = laws.is T (first ∷ rest) in
    subst (λ cs. piece_len T cs ≡ 1) (sym e)
    (short_by (piece_len T (first ∷ rest)) (reach_at lens first)
    (piece_short set table lens first _ rest sound reaches (laws.all table.entries (first ∷ rest)) is)
    is.some lt)

fits : (set : Charset) (table : ElementTable) (lens : List ℕ) (first : ℕ) (rest : List ℕ) →
    Laws → IsSound table → Reaches (contractions_of table.entries) lens →
    2 ≤ reach_at lens first →
    piece_len (set_contractions set table.entries) (first ∷ rest) ≤ min (reach_at lens first) 6
fits set table lens first rest laws sound reaches two =
    fits_by _ (reach_at lens first)
    (piece_short set table lens first _ rest sound reaches (laws.all table.entries (first ∷ rest))
    (laws.is (set_contractions set table.entries) (first ∷ rest))) two

-- Where the window begins with no contraction, the first piece is one code.
pub alone_by_window : (set : Charset) (table : ElementTable) (lens : List ℕ) (first m : ℕ)
    (codes rest front : List ℕ) → Laws → IsSound table →
    Reaches (contractions_of table.entries) lens → codes ≡ first ∷ rest →
    2 ≤ reach_at lens first → m ≡ min (reach_at lens first) 6 → front ≡ take m codes →
    is_of_set set front ≡ true → HasNoLonger table.entries front 1 →
    piece_len (set_contractions set table.entries) codes ≡ 1
alone_by_window set table lens first m codes rest front laws sound reaches e two is f all none =
    let T = set_contractions set table.entries in
    let small = fits set table lens first rest laws sound reaches two in
    let found = laws.none table.entries T front
    (set_at set table.entries front (laws.all table.entries front) all) none in
    let same : front ≡ take m (first ∷ rest) = f ∙ ap (take m) e in
    subst (λ cs. piece_len T cs ≡ 1) (sym e)
    (sym (laws.within T (first ∷ rest) m (omega (arith, small, is))) ∙ ap (piece_len T) (sym same)
    ∙ found)

-- A contraction that the window begins with is the first piece.
pub joined_by_window : (set : Charset) (kind : UcaKind) (table : ElementTable) (lens : List ℕ)
    (first m len : ℕ) (codes rest front behind : List ℕ) (elements piece : List Element) → Laws →
    IsSound table → Reaches (contractions_of table.entries) lens → codes ≡ first ∷ rest →
    2 ≤ reach_at lens first → m ≡ min (reach_at lens first) 6 → front ≡ take m codes →
    is_of_set set front ≡ true → IsLongest table.entries front len elements → piece ≡ elements →
    behind ≡ drop len codes → IsFirstPiece (uca_elements set kind table) codes piece behind
joined_by_window set kind table lens first m len codes rest front behind elements piece laws sound reaches e two is f all found p b =
    let T = set_contractions set table.entries in
    let small = fits set table lens first rest laws sound reaches two in
    let same : front ≡ take m (first ∷ rest) = f ∙ ap (take m) e in
    let long : piece_len T (first ∷ rest) ≡ len =
    sym (laws.within T (first ∷ rest) m (omega (arith, small, is))) ∙ ap (piece_len T) (sym same)
    ∙ laws.longest table.entries T front len elements
    (set_at set table.entries front (laws.all table.entries front) all) found in
    let some = found.is_contraction in
    let text : take len front ≡ take len (first ∷ rest) =
    ap (take len) same ∙ take-take len m (first ∷ rest) (omega (arith, long, small, is)) in
    let entry : map.get table.entries (take len (first ∷ rest)) ≡ Some elements =
    ap (map.get table.entries) (sym text) ∙ found.entry in
    subst (λ cs. IsFirstPiece (uca_elements set kind table) cs piece behind) (sym e)
    (first_piece set kind table first len rest behind piece laws.step long (omega (arith, some))
    (entry_elements table kind (take len (first ∷ rest)) elements entry ∙ sym p) (b ∙ ap (drop len) e))

one_by : (len : ℕ) (P : Type 0) → 1 ≤ len → (len ≡ 1) ⊎ ((len ≤ 1) × P) → len ≡ 1
one_by len P some (inl e) = e
one_by len P some (inr h) = let a = h.0 in omega arith

-- A character by itself has its own elements.
pub one_code : (set : Charset) (kind : UcaKind) (table : ElementTable) (code : ℕ) →
    ((contractions : List (List ℕ)) (codes : List ℕ) →
    IsPieceLen contractions codes (piece_len contractions codes)) →
    ((contractions : List (List ℕ)) (code : ℕ) (rest : List ℕ) →
    pieces contractions (code ∷ rest)
    ≡ take (piece_len contractions (code ∷ rest)) (code ∷ rest)
    ∷ pieces contractions (drop (piece_len contractions (code ∷ rest)) (code ∷ rest))) →
    uca_elements set kind table (code ∷ []) ≡ elements_of table (family_of kind) (code ∷ [])
one_code set kind table code is step =
    let T = set_contractions set table.entries in
    let len = is T (code ∷ []) in
    let one = one_by (piece_len T (code ∷ []))
    (Contains T (take (piece_len T (code ∷ [])) (code ∷ []))) len.some len.reached in
    (first_piece set kind table code 1 [] [] (elements_of table (family_of kind) (code ∷ [])) step
    one (omega arith) refl refl).elements
    ∙ append-nil (elements_of table (family_of kind) (code ∷ []))

-- The piece that begins codes of the set: the longest contraction of the table.
pub code_joined : (set : Charset) (kind : UcaKind) (table : ElementTable) (len : ℕ)
    (codes behind : List ℕ) (elements piece : List Element) →
    ((contractions : List (List ℕ)) (code : ℕ) (rest : List ℕ) →
    pieces contractions (code ∷ rest)
    ≡ take (piece_len contractions (code ∷ rest)) (code ∷ rest)
    ∷ pieces contractions (drop (piece_len contractions (code ∷ rest)) (code ∷ rest))) →
    ((entries : Entries) (contractions : List (List ℕ)) (text : List ℕ) (len : ℕ)
    (elements : List Element) → AreContractionsAt entries contractions text →
    IsLongest entries text len elements → piece_len contractions text ≡ len) →
    AreContractionsAt table.entries (contractions_of table.entries) codes →
    is_of_set set codes ≡ true → IsLongest table.entries codes len elements → piece ≡ elements →
    behind ≡ drop len codes → IsFirstPiece (uca_elements set kind table) codes piece behind
code_joined set kind table len [] behind elements piece step longest at all found p b =
    let two = found.is_contraction in let within = found.within in absurd (omega arith)
code_joined set kind table len (c ∷ cs) behind elements piece step longest at all found p b =
    let two = found.is_contraction in
    first_piece set kind table c len cs behind piece step
    (longest table.entries (set_contractions set table.entries) (c ∷ cs) len elements
    (set_at set table.entries (c ∷ cs) at all) found) (omega arith)
    (entry_elements table kind (take len (c ∷ cs)) elements found.entry ∙ sym p) b

-- Or the first of them.
pub code_alone : (set : Charset) (kind : UcaKind) (table : ElementTable) (codes behind : List ℕ)
    (piece : List Element) →
    ((contractions : List (List ℕ)) (code : ℕ) (rest : List ℕ) →
    pieces contractions (code ∷ rest)
    ≡ take (piece_len contractions (code ∷ rest)) (code ∷ rest)
    ∷ pieces contractions (drop (piece_len contractions (code ∷ rest)) (code ∷ rest))) →
    ((entries : Entries) (contractions : List (List ℕ)) (text : List ℕ) →
    AreContractionsAt entries contractions text → HasNoLonger entries text 1 →
    piece_len contractions text ≡ 1) →
    AreContractionsAt table.entries (contractions_of table.entries) codes →
    is_of_set set codes ≡ true → HasNoLonger table.entries codes 1 → 1 ≤ length codes →
    piece ≡ elements_of table (family_of kind) (slice_index_or codes 0 0 ∷ []) →
    behind ≡ drop 1 codes → IsFirstPiece (uca_elements set kind table) codes piece behind
code_alone set kind table [] behind piece step none at all found some p b = absurd (omega arith)
code_alone set kind table (c ∷ cs) behind piece step none at all found some p b =
    first_piece set kind table c 1 cs behind piece step
    (none table.entries (set_contractions set table.entries) (c ∷ cs)
    (set_at set table.entries (c ∷ cs) at all) found) (omega arith) (sym p) b
