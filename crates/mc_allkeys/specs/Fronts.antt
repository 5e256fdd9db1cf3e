-- How the first codes of a text are cut, against the text itself: UTS #10, S2.1.
use Rattle.std.specs.Prelude.{◌≡◌, ◌≢◌, ◌⊎◌, ℕ, ◌≤◌, ⊤, List, [], ◌∷◌, ◌++◌, length, take, drop}
use Rattle.std.specs.List.{Contains, concat}
use Rattle.mc_allkeys.specs.Pieces.{pieces}

-- The length is 1 or that of a contraction that begins the text, and none that begins it is longer.
pub record IsPieceLen (contractions : List (List ℕ)) (codes : List ℕ) (len : ℕ) : Type 0 where
  pub some : 1 ≤ len
  pub reached : (len ≡ 1) ⊎ ((len ≤ length codes) × Contains contractions (take len codes))
  pub greatest : (front rest : List ℕ) → Contains contractions front → codes ≡ front ++ rest →
      length front ≤ len

-- A contraction begins with this code.
abbrev pub IsHead : List (List ℕ) → ℕ → Type 0
IsHead contractions code = (rest : List ℕ) × Contains contractions (code ∷ rest)

-- A contraction has this code behind its first place.
pub record IsInner (contractions : List (List ℕ)) (code : ℕ) : Type 0 where
  pub front : List ℕ
  pub rest : List ℕ
  pub some_front : front ≢ []
  pub joined : Contains contractions (front ++ code ∷ rest)

-- No contraction reaches into this text from what stands before it.
abbrev pub IsFresh : List (List ℕ) → List ℕ → Type 0
IsFresh contractions [] = ⊤
IsFresh contractions (code ∷ codes) = IsInner contractions code → ⊥

-- A contraction is this text and a beginning of what follows it, neither of them empty.
pub record IsAcross (contractions : List (List ℕ)) (front codes : List ℕ) : Type 0 where
  pub more : List ℕ
  pub rest : List ℕ
  pub some_front : front ≢ []
  pub some_more : more ≢ []
  pub begins : codes ≡ more ++ rest
  pub joined : Contains contractions (front ++ more)

-- The first k codes and the text begin with the same pieces; what is left of the first k codes is
-- nothing, or the front of a contraction that goes on behind them.
pub record IsFrontCut (contractions : List (List ℕ)) (k : ℕ) (codes : List ℕ) : Type 0 where
  -- the pieces of both
  pub kept : List (List ℕ)
  -- what is left of the first k codes
  pub last : List ℕ
  pub joined : concat kept ++ last ≡ take k codes
  pub front : pieces contractions (take k codes) ≡ kept ++ pieces contractions last
  pub whole : pieces contractions codes ≡ kept ++ pieces contractions (last ++ drop k codes)
  pub none_or_across : (last ≡ []) ⊎ IsAcross contractions last (drop k codes)
