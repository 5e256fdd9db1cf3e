-- Copies of some characters removed at the sides: MySQL 8.0 manual, 12.8, TRIM.
use Rattle.std.specs.Prelude.{◌≡◌, ◌≢◌, ℕ, zero, suc, ◌-◌}
use Rattle.std.specs.Prelude.{List, [], ◌∷◌, ◌++◌, length, reverse}
use Rattle.std.specs.Prelude.{if◌then◌else◌}
use Rattle.std.specs.List.{repeat}
use Rattle.mc_strfun.specs.Replaced.{begins}
use Rattle.mc_strfun.specs.declared.trimming.Side.{Side}
use Rattle.mc_strfun.specs.declared.trimming.Side.TheVariants.{Both, Leading, Trailing}

-- behind the first `passed` characters, which belong to a copy, those from where no copy begins on
unfoldable pub behind_copies : ℕ → List ℕ → List ℕ → List ℕ
behind_copies passed removed [] = []
behind_copies (suc passed) removed (code ∷ codes) = behind_copies passed removed codes
behind_copies zero removed (code ∷ codes) =
    if begins removed (code ∷ codes) then behind_copies (length removed - 1) removed codes
    else code ∷ codes

-- the copies in front removed; of no characters, nothing is
abbrev pub without_leading : List ℕ → List ℕ → List ℕ
without_leading [] codes = codes
without_leading (first ∷ others) codes = behind_copies zero (first ∷ others) codes

-- the copies at the end removed, which are those in front where all is read backwards
unfoldable pub without_trailing : List ℕ → List ℕ → List ℕ
without_trailing removed codes = reverse (without_leading (reverse removed) (reverse codes))

-- the copies removed at the sides that are asked for, the leading ones first
abbrev pub trimmed : Side → List ℕ → List ℕ → List ℕ
trimmed Both removed codes = without_trailing removed (without_leading removed codes)
trimmed Leading removed codes = without_leading removed codes
trimmed Trailing removed codes = without_trailing removed codes

-- So many whole copies stand before what is left, which begins with none.
pub record IsLeftBehind (removed codes left : List ℕ) : Type 0 where
  pub copies : ℕ
  pub joins : codes ≡ repeat copies removed ++ left
  pub no_more : (others : List ℕ) → left ≢ removed ++ others

-- So many whole copies stand behind what is left, which ends with none.
pub record IsLeftBefore (removed codes left : List ℕ) : Type 0 where
  pub copies : ℕ
  pub joins : codes ≡ left ++ repeat copies removed
  pub no_more : (others : List ℕ) → left ≢ others ++ removed
