-- The piece that begins a text, and how the first codes of a text are cut.
use Rattle.std.proofs.Common.{◌≡◌, ◌≢◌, ℕ, zero, suc, ◌+◌, ◌-◌, ◌≤◌, ◌<◌, max, Bool, true, false, List, [], ◌∷◌, ◌++◌, length, map, filter, fold, take, drop, get_or, cond, length-drop, length-take, length-append, append_assoc, append-nil, take_all, nat_eq, ◌⊎◌, inl, inr, refl, sym, ap, subst, ◌∙◌, arith}
use Rattle.std.specs.List.{starts_with, Contains, concat}
use Rattle.std.proofs.lemmas.Bool.{cases_lt}
use Rattle.std.proofs.lemmas.Bool.Decides.{Decides-eqb}
use Rattle.std.proofs.lemmas.List.{take-take, take-append-drop, take_at, drop-take, drop-drop}
use Rattle.std.proofs.lemmas.Slice.Eq.{starts_is}
use Rattle.mc_allkeys.specs.Fronts.{IsPieceLen, IsHead, IsFresh, IsAcross, IsFrontCut}
use Rattle.mc_allkeys.specs.Pieces.{piece_len, pieces}
use Rattle.mc_allkeys.proofs.PieceLemmas.{greatest, piece_len-positive, pieces-step}

-- whether a contraction begins the codes
abbrev begins : List ℕ → List ℕ → Bool
begins codes text = starts_with nat_eq codes text

begins_then : (codes text : List ℕ) → begins codes text ≡ true → codes ≡ text ++ drop (length text) codes
begins_then codes text = (starts_is Decides-eqb codes text (begins codes text) refl).0

begins_by : (codes text rest : List ℕ) → codes ≡ text ++ rest → begins codes text ≡ true
begins_by codes text rest = (starts_is Decides-eqb codes text (begins codes text) refl).1 rest

-- No contraction that begins the codes is longer than the greatest length.
none_longer : (codes : List ℕ) (texts : List (List ℕ)) (n k : ℕ) (front rest : List ℕ) →
    k < length texts → get_or texts k front ≡ front → codes ≡ front ++ rest →
    length front ≤ fold max n (map length (filter (begins codes) texts))
none_longer codes [] n k front rest lt is e = absurd (omega arith)
none_longer codes (text ∷ texts) n zero front rest lt is e =
    let yes : begins codes text ≡ true = begins_by codes text rest (rw is e) in
    let long = greatest (max n (length text)) (map length (filter (begins codes) texts)) in
    let same = ap length is in
    rw yes (omega (arith, long))
none_longer codes (text ∷ texts) n (suc k) front rest lt is e =
    elim (begins codes text) as
    (λ b. length front
    ≤ fold max n (map length (cond b (text ∷ filter (begins codes) texts) (filter (begins codes) texts)))) [
      | true ↦ none_longer codes texts (max n (length text)) k front rest (omega arith) is e
      | false ↦ none_longer codes texts n k front rest (omega arith) is e
    ]

-- The length is that of a contraction that begins the codes.
record IsReached (codes : List ℕ) (texts : List (List ℕ)) (len : ℕ) : Type 0 where
  text : List ℕ
  one : Contains texts text
  begin : begins codes text ≡ true
  long : length text ≡ len

later : (codes : List ℕ) (text : List ℕ) (texts : List (List ℕ)) (len : ℕ) → IsReached codes texts len →
    IsReached codes (text ∷ texts) len
later codes text texts len h = record {
  text = h.text;
  one = (suc h.one.0, omega (arith, h.one.1), h.one.2);
  begin = h.begin;
  long = h.long;
}

here_or : (codes : List ℕ) (text : List ℕ) (texts : List (List ℕ)) (n len : ℕ) → begins codes text ≡ true →
    (len ≡ max n (length text)) ⊎ IsReached codes texts len →
    (length text ≤ n) ⊎ (n < length text) → (len ≡ n) ⊎ IsReached codes (text ∷ texts) len
here_or codes text texts n len at (inl e) (inl le) = inl (omega arith)
here_or codes text texts n len at (inl e) (inr lt) =
    inr (record { text = text; one = (zero, omega arith, refl); begin = at; long = omega arith })
here_or codes text texts n len at (inr h) both = inr (later codes text texts len h)

later_or : (codes : List ℕ) (text : List ℕ) (texts : List (List ℕ)) (n len : ℕ) →
    (len ≡ n) ⊎ IsReached codes texts len → (len ≡ n) ⊎ IsReached codes (text ∷ texts) len
later_or codes text texts n len (inl e) = inl e
later_or codes text texts n len (inr h) = inr (later codes text texts len h)

pub le_or_lt : (a b : ℕ) → (a ≤ b) ⊎ (b < a)
le_or_lt a b = by (cases_lt b a)
  where
    by : (b < a) ⊎ (a ≤ b) → (a ≤ b) ⊎ (b < a)
    by (inl lt) = inr lt
    by (inr le) = inl le

-- the greatest length of those that begin the codes
abbrev longest_of : List ℕ → List (List ℕ) → ℕ → ℕ
longest_of codes texts n = fold max n (map length (filter (begins codes) texts))

reached_step : (codes text : List ℕ) (texts : List (List ℕ)) (n : ℕ) (b : Bool) → begins codes text ≡ b →
    ((m : ℕ) → (longest_of codes texts m ≡ m) ⊎ IsReached codes texts (longest_of codes texts m)) →
    (fold max n (map length (cond b (text ∷ filter (begins codes) texts) (filter (begins codes) texts))) ≡ n)
    ⊎ IsReached codes (text ∷ texts)
    (fold max n (map length (cond b (text ∷ filter (begins codes) texts) (filter (begins codes) texts))))
reached_step codes text texts n true e rest =
    here_or codes text texts n _ e (rest (max n (length text))) (le_or_lt (length text) n)
reached_step codes text texts n false e rest = later_or codes text texts n _ (rest n)

reached_one : (codes : List ℕ) (texts : List (List ℕ)) (n : ℕ) →
    (longest_of codes texts n ≡ n) ⊎ IsReached codes texts (longest_of codes texts n)
reached_one codes [] n = inl refl
reached_one codes (text ∷ texts) n =
    reached_step codes text texts n (begins codes text) refl (λ m. reached_one codes texts m)

-- The piece's length: 1, or that of the longest contraction.
reached_by : (contractions : List (List ℕ)) (codes : List ℕ) (len : ℕ) →
    (len ≡ 1) ⊎ IsReached codes contractions len →
    (len ≡ 1) ⊎ ((len ≤ length codes) × Contains contractions (take len codes))
reached_by contractions codes len (inl e) = inl e
reached_by contractions codes len (inr h) =
    let is = begins_then codes h.text h.begin in
    let size : length codes ≡ length h.text + length (drop (length h.text) codes) =
    ap length is ∙ length-append h.text (drop (length h.text) codes) in
    let front : take len codes ≡ h.text =
    ap (take len) is ∙ take_at h.text (drop (length h.text) codes) len h.long in
    inr (omega (arith, size, h.long), subst (Contains contractions) (sym front) h.one)

pub piece_len-is : (contractions : List (List ℕ)) (codes : List ℕ) →
    IsPieceLen contractions codes (piece_len contractions codes)
unfolding piece_len
piece_len-is contractions codes = record {
  some = piece_len-positive contractions codes;
  reached = reached_by contractions codes _ (reached_one codes contractions 1);
  greatest = λ front rest h e. none_longer codes contractions 1 h.0 front rest h.1 h.2 e;
}

-- One length is the piece's.
at_most : (contractions : List (List ℕ)) (codes : List ℕ) (one other : ℕ) →
    (one ≡ 1) ⊎ ((one ≤ length codes) × Contains contractions (take one codes)) →
    IsPieceLen contractions codes other → one ≤ other
at_most contractions codes one other (inl e) h = omega (arith, h.some)
at_most contractions codes one other (inr r) h =
    let most = h.greatest (take one codes) (drop one codes) r.1 (sym (take-append-drop one codes)) in
    omega (arith, most, r.0, length-take one codes)

pub piece_len-one : (contractions : List (List ℕ)) (codes : List ℕ) (one other : ℕ) →
    IsPieceLen contractions codes one → IsPieceLen contractions codes other → one ≡ other
piece_len-one contractions codes one other h g =
    omega (
      arith,
      at_most contractions codes one other h.reached g,
      at_most contractions codes other one g.reached h,
    )

-- A piece of at most k codes is that of the first k.
within_reached : (contractions : List (List ℕ)) (codes : List ℕ) (k len : ℕ) → len ≤ k →
    (len ≡ 1) ⊎ ((len ≤ length codes) × Contains contractions (take len codes)) →
    (len ≡ 1) ⊎ ((len ≤ length (take k codes)) × Contains contractions (take len (take k codes)))
within_reached contractions codes k len le (inl e) = inl e
within_reached contractions codes k len le (inr r) =
    inr (
      omega (arith, r.0, length-take k codes),
      subst (Contains contractions) (sym (take-take len k codes le)) r.1,
    )

pub piece_len-within : (contractions : List (List ℕ)) (codes : List ℕ) (k : ℕ) →
    piece_len contractions codes ≤ k →
    piece_len contractions (take k codes) ≡ piece_len contractions codes
piece_len-within contractions codes k le =
    let h = piece_len-is contractions codes in
    piece_len-one contractions (take k codes) _ _ (piece_len-is contractions (take k codes))
    (record {
      some = h.some;
      reached = within_reached contractions codes k _ le h.reached;
      greatest = λ front rest one e. h.greatest front (rest ++ drop k codes) one
          (sym (take-append-drop k codes) ∙ ap (λ xs. xs ++ drop k codes) e ∙ append_assoc front rest (drop k codes));
    })

not_empty : (xs : List ℕ) → 1 ≤ length xs → xs ≢ []
not_empty xs h e = let l = ap length e in absurd (omega arith)

two_parts : (xs : List ℕ) (k n : ℕ) → k ≤ n → take k xs ++ take (n - k) (drop k xs) ≡ take n xs
two_parts xs k n le =
    let whole : k + (n - k) ≡ n = omega arith in
    ap (λ ys. ys ++ take (n - k) (drop k xs))
    (sym (take-take k (k + (n - k)) xs (omega arith)))
    ∙ ap (λ ys. take k (take (k + (n - k)) xs) ++ ys) (sym (drop-take k (n - k) xs))
    ∙ take-append-drop k (take (k + (n - k)) xs)
    ∙ ap (λ m. take m xs) whole

-- A piece of more than k codes goes on behind them.
across_by : (contractions : List (List ℕ)) (codes : List ℕ) (k len : ℕ) → 1 ≤ k → k < len →
    (len ≡ 1) ⊎ ((len ≤ length codes) × Contains contractions (take len codes)) →
    IsAcross contractions (take k codes) (drop k codes)
across_by contractions codes k len some lt (inl e) = absurd (omega arith)
across_by contractions codes k len some lt (inr r) = record {
  more = take (len - k) (drop k codes);
  rest = drop (len - k) (drop k codes);
  some_front = not_empty (take k codes) (omega (arith, r.0, length-take k codes));
  some_more = not_empty (take (len - k) (drop k codes))
      (omega (arith, r.0, length-take (len - k) (drop k codes), length-drop k codes));
  begins = sym (take-append-drop (len - k) (drop k codes));
  joined = subst (Contains contractions) (sym (two_parts codes k len (omega arith))) r.1;
}

pub piece_len-across : (contractions : List (List ℕ)) (codes : List ℕ) (k : ℕ) → 1 ≤ k →
    k < piece_len contractions codes → IsAcross contractions (take k codes) (drop k codes)
piece_len-across contractions codes k some lt =
    across_by contractions codes k (piece_len contractions codes) some lt
    (piece_len-is contractions codes).reached

-- The pieces of a text that isn't empty.
pub pieces-first : (contractions : List (List ℕ)) (codes : List ℕ) → 1 ≤ length codes →
    pieces contractions codes
    ≡ take (piece_len contractions codes) codes
    ∷ pieces contractions (drop (piece_len contractions codes) codes)
pieces-first contractions [] h = absurd (omega arith)
pieces-first contractions (c ∷ cs) h = pieces-step contractions c cs

-- The cut of the first k codes, behind a first piece that lies within them.
front_more : (contractions : List (List ℕ)) (codes : List ℕ) (k n : ℕ) → 1 ≤ k → 1 ≤ length codes →
    piece_len contractions codes ≡ n → n ≤ k → IsFrontCut contractions (k - n) (drop n codes) →
    IsFrontCut contractions k codes
front_more contractions codes k n some some_code is le h =
    let behind : drop (k - n) (drop n codes) ≡ drop k codes =
    drop-drop (k - n) n codes ∙ ap (λ m. drop m codes) (omega arith) in
    let left : drop n (take k codes) ≡ take (k - n) (drop n codes) =
    ap (λ m. drop n (take m codes)) (omega arith) ∙ drop-take n (k - n) codes in
    let same : piece_len contractions (take k codes) ≡ n =
    piece_len-within contractions codes k (omega (arith, is, le)) ∙ is in
    record {
      kept = take n codes ∷ h.kept;
      last = h.last;
      joined = append_assoc (take n codes) (concat h.kept) h.last
          ∙ ap (λ xs. take n codes ++ xs) h.joined ∙ two_parts codes n k le;
      front = pieces-first contractions (take k codes) (omega (arith, length-take k codes))
          ∙ ap (λ m. take m (take k codes) ∷ pieces contractions (drop m (take k codes))) same
          ∙ ap (λ xs. xs ∷ pieces contractions (drop n (take k codes))) (take-take n k codes le)
          ∙ ap (λ xs. take n codes ∷ pieces contractions xs) left
          ∙ ap (λ xs. take n codes ∷ xs) h.front;
      whole = pieces-first contractions codes some_code
          ∙ ap (λ m. take m codes ∷ pieces contractions (drop m codes)) is
          ∙ ap (λ xs. take n codes ∷ xs) h.whole
          ∙ ap (λ xs. take n codes ∷ h.kept ++ pieces contractions (h.last ++ xs)) behind;
      none_or_across = subst (λ xs. (h.last ≡ []) ⊎ IsAcross contractions h.last xs) behind h.none_or_across;
    }

-- The cut of the first k codes, all of them in the first piece.
front_last : (contractions : List (List ℕ)) (codes : List ℕ) (k : ℕ) → 1 ≤ k →
    k < piece_len contractions codes → IsFrontCut contractions k codes
front_last contractions codes k some lt = record {
  kept = [];
  last = take k codes;
  joined = refl;
  front = refl;
  whole = ap (pieces contractions) (sym (take-append-drop k codes));
  none_or_across = inr (piece_len-across contractions codes k some lt);
}

front_none : (contractions : List (List ℕ)) (codes : List ℕ) (k : ℕ) → take k codes ≡ [] →
    drop k codes ≡ codes → IsFrontCut contractions k codes
front_none contractions codes k none all = record {
  kept = [];
  last = [];
  joined = sym none;
  front = ap (pieces contractions) none;
  whole = ap (pieces contractions) (sym all);
  none_or_across = inl refl;
}

front_step : (contractions : List (List ℕ)) (bound k : ℕ) (codes : List ℕ) → 1 ≤ k → 1 ≤ length codes →
    length codes ≤ suc bound →
    ((m : ℕ) (rest : List ℕ) → length rest ≤ bound → IsFrontCut contractions m rest) →
    (piece_len contractions codes ≤ k) ⊎ (k < piece_len contractions codes) →
    IsFrontCut contractions k codes
front_step contractions bound k codes some some_code h rest (inl le) =
    front_more contractions codes k (piece_len contractions codes) some some_code refl le
    (rest (k - piece_len contractions codes) (drop (piece_len contractions codes) codes)
    (omega (
      arith,
      piece_len-positive contractions codes,
      length-drop (piece_len contractions codes) codes,
    )))
front_step contractions bound k codes some some_code h rest (inr lt) = front_last contractions codes k some lt

front_by : (contractions : List (List ℕ)) (bound k : ℕ) (codes : List ℕ) → length codes ≤ bound →
    IsFrontCut contractions k codes
front_by contractions bound zero codes h = front_none contractions codes zero refl refl
front_by contractions bound (suc k) [] h = front_none contractions [] (suc k) refl refl
front_by contractions zero (suc k) (c ∷ cs) h = absurd (omega arith)
front_by contractions (suc bound) (suc k) (c ∷ cs) h =
    front_step contractions bound (suc k) (c ∷ cs) (omega arith) (omega arith) h
    (λ m rest le. front_by contractions bound m rest le)
    (le_or_lt (piece_len contractions (c ∷ cs)) (suc k))

-- How the first k codes of a text are cut.
pub cut-front : (contractions : List (List ℕ)) (k : ℕ) (codes : List ℕ) → IsFrontCut contractions k codes
cut-front contractions k codes = front_by contractions (length codes) k codes (omega arith)

-- Nothing reaches into a text that is fresh.
not_across : (contractions : List (List ℕ)) (front codes : List ℕ) → IsFresh contractions codes →
    (more rest : List ℕ) → front ≢ [] → more ≢ [] → codes ≡ more ++ rest →
    Contains contractions (front ++ more) → ⊥
not_across contractions front codes fresh [] rest some some_more e one = some_more refl
not_across contractions front [] fresh (c ∷ cs) rest some some_more e one = absurd cc
not_across contractions front (d ∷ ds) fresh (c ∷ cs) rest some some_more e one =
    let is : d ≡ c = cc in
    fresh (record {
      front = front;
      rest = cs;
      some_front = some;
      joined = subst (λ n. Contains contractions (front ++ n ∷ cs)) (sym is) one;
    })

fresh_by : (contractions : List (List ℕ)) (k : ℕ) (codes : List ℕ) → IsFresh contractions (drop k codes) →
    (h : IsFrontCut contractions k codes) →
    (h.last ≡ []) ⊎ IsAcross contractions h.last (drop k codes) →
    pieces contractions codes
    ≡ pieces contractions (take k codes) ++ pieces contractions (drop k codes)
fresh_by contractions k codes fresh h (inl none) =
    h.whole ∙ ap (λ xs. h.kept ++ pieces contractions (xs ++ drop k codes)) none
    ∙ ap (λ xs. xs ++ pieces contractions (drop k codes))
    (sym (h.front ∙ ap (λ xs. h.kept ++ pieces contractions xs) none ∙ append-nil h.kept))
fresh_by contractions k codes fresh h (inr a) =
    absurd (not_across contractions h.last (drop k codes) fresh a.more a.rest a.some_front a.some_more
    a.begins a.joined)

pub cut-fresh : (contractions : List (List ℕ)) (k : ℕ) (codes : List ℕ) →
    IsFresh contractions (drop k codes) →
    pieces contractions codes
    ≡ pieces contractions (take k codes) ++ pieces contractions (drop k codes)
cut-fresh contractions k codes fresh =
    let h = cut-front contractions k codes in
    fresh_by contractions k codes fresh h h.none_or_across

-- One code is a piece.
pub pieces-one : (contractions : List (List ℕ)) (code : ℕ) →
    pieces contractions (code ∷ []) ≡ (code ∷ []) ∷ []
pieces-one contractions code =
    ap (λ xs. xs ∷ [])
    (take_all (piece_len contractions (code ∷ [])) (code ∷ [])
    (omega (arith, piece_len-positive contractions (code ∷ []))))

headless : (contractions : List (List ℕ)) (code : ℕ) (rest : List ℕ) (len : ℕ) →
    (IsHead contractions code → ⊥) → 1 ≤ len →
    (len ≡ 1) ⊎ ((len ≤ length (code ∷ rest)) × Contains contractions (take len (code ∷ rest))) → len ≡ 1
headless contractions code rest len none some (inl e) = e
headless contractions code rest zero none some (inr r) = absurd (omega arith)
headless contractions code rest (suc n) none some (inr r) = absurd (none (take n rest, r.1))

alone_by : (contractions : List (List ℕ)) (code : ℕ) (rest : List ℕ) (n : ℕ) →
    n ≡ 1 →
    take n (code ∷ rest) ∷ pieces contractions (drop n (code ∷ rest))
    ≡ (code ∷ []) ∷ pieces contractions rest
alone_by contractions code rest n e =
    ap (λ m. take m (code ∷ rest) ∷ pieces contractions (drop m (code ∷ rest))) e

-- A code that begins no contraction, or that a fresh text follows, is a piece.
pub cut-alone : (contractions : List (List ℕ)) (code : ℕ) (rest : List ℕ) →
    (IsHead contractions code → ⊥) ⊎ IsFresh contractions rest →
    pieces contractions (code ∷ rest) ≡ (code ∷ []) ∷ pieces contractions rest
cut-alone contractions code rest (inl none) =
    pieces-step contractions code rest
    ∙ alone_by contractions code rest (piece_len contractions (code ∷ rest))
    (headless contractions code rest (piece_len contractions (code ∷ rest)) none
    (piece_len-positive contractions (code ∷ rest)) (piece_len-is contractions (code ∷ rest)).reached)
cut-alone contractions code rest (inr fresh) =
    cut-fresh contractions 1 (code ∷ rest) fresh
    ∙ ap (λ xs. xs ++ pieces contractions rest) (pieces-one contractions code)
