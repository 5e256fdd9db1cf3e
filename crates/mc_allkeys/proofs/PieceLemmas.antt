-- A text has one right cut, and `pieces` is it.
use Rattle.std.proofs.Common.{◌≡◌, ℕ, zero, suc, ◌-◌, ◌≤◌, max, List, [], ◌∷◌, length, map, filter, fold, take, drop, length-drop, nat_eq, refl, sym, ap, subst, ◌∙◌, arith}
use Rattle.std.specs.List.{starts_with}
use Rattle.mc_allkeys.specs.Pieces.{piece_len, IsRightCut, pieces_behind, pieces}

-- A piece has a code.
pub greatest : (n : ℕ) (lens : List ℕ) → n ≤ fold max n lens
greatest n [] = omega arith
greatest n (len ∷ lens) = omega (arith, greatest (max n len) lens)

pub piece_len-positive : (contractions : List (List ℕ)) (codes : List ℕ) →
    1 ≤ piece_len contractions codes
unfolding piece_len
piece_len-positive contractions codes =
    greatest 1 (map length (filter (λ text. starts_with nat_eq codes text) contractions))

none_left : (codes : List ℕ) → codes ≡ [] → 1 ≤ length codes → ⊥
none_left codes e h = let l = ap length e in omega arith

pub IsRightCut_unique : (contractions : List (List ℕ)) (codes : List ℕ) (one other : List (List ℕ)) →
    IsRightCut contractions codes one → IsRightCut contractions codes other → one ≡ other
IsRightCut_unique contractions codes [] [] h g = refl
IsRightCut_unique contractions codes [] (q ∷ qs) h g = absurd (none_left codes h g.0)
IsRightCut_unique contractions codes (p ∷ ps) [] h g = absurd (none_left codes g h.0)
IsRightCut_unique contractions codes (p ∷ ps) (q ∷ qs) h g =
    let first : p ≡ q = h.1 ∙ sym g.1 in
    let rest = IsRightCut_unique contractions (drop (piece_len contractions codes) codes) ps qs h.2 g.2 in
    λ i. first i ∷ rest i

-- Codes that belong to the piece before are passed over.
pub pieces_behind-skip : (contractions : List (List ℕ)) (n : ℕ) (codes : List ℕ) →
    pieces_behind contractions n codes ≡ pieces contractions (drop n codes)
pieces_behind-skip contractions zero [] = refl
pieces_behind-skip contractions zero (c ∷ cs) = refl
pieces_behind-skip contractions (suc n) [] = refl
pieces_behind-skip contractions (suc n) (c ∷ cs) = pieces_behind-skip contractions n cs

one_dropped : (n : ℕ) (c : ℕ) (cs : List ℕ) → 1 ≤ n → drop (n - 1) cs ≡ drop n (c ∷ cs)
one_dropped zero c cs h = absurd (omega arith)
one_dropped (suc n) c cs h = let e : suc n - 1 ≡ n = omega arith in rw e refl

-- The pieces of a text: the first one, and those of what follows it.
pub pieces-step : (contractions : List (List ℕ)) (c : ℕ) (cs : List ℕ) →
    pieces contractions (c ∷ cs)
    ≡ take (piece_len contractions (c ∷ cs)) (c ∷ cs)
    ∷ pieces contractions (drop (piece_len contractions (c ∷ cs)) (c ∷ cs))
pieces-step contractions c cs =
    ap (λ rest. take (piece_len contractions (c ∷ cs)) (c ∷ cs) ∷ rest)
    (pieces_behind-skip contractions (piece_len contractions (c ∷ cs) - 1) cs
    ∙ ap (pieces contractions)
    (one_dropped (piece_len contractions (c ∷ cs)) c cs (piece_len-positive contractions (c ∷ cs))))

right_by : (contractions : List (List ℕ)) (bound : ℕ) (codes : List ℕ) → length codes ≤ bound →
    IsRightCut contractions codes (pieces contractions codes)
right_by contractions bound [] h = refl
right_by contractions zero (c ∷ cs) h = absurd (omega arith)
right_by contractions (suc bound) (c ∷ cs) h =
    let positive = piece_len-positive contractions (c ∷ cs) in
    let rest = right_by contractions bound (drop (piece_len contractions (c ∷ cs)) (c ∷ cs))
    (omega (arith, length-drop (piece_len contractions (c ∷ cs)) (c ∷ cs))) in
    subst (IsRightCut contractions (c ∷ cs)) (sym (pieces-step contractions c cs))
    (omega arith, refl, rest)

-- The pieces are the right cut.
pub pieces-right : (contractions : List (List ℕ)) (codes : List ℕ) →
    IsRightCut contractions codes (pieces contractions codes)
pieces-right contractions codes = right_by contractions (length codes) codes (omega arith)
