-- What the bytes between the quotes of a string stand for: MySQL 8.0 manual, 9.1.1.
use Rattle.std.specs.Prelude.{◌≡◌, ◌⊎◌, ℕ, List, [], ◌∷◌, flat_map}
use Rattle.std.specs.List.{AllByRecursion}
use Rattle.mc_token.specs.Bytes.{backslash}
use Rattle.mc_token.specs.Lexemes.{escaped}
use Rattle.mc_token.specs.Strings.{IsPlain}

-- A plain byte stands for itself, a doubled quote for one, and a backslash makes a byte an escape.
abbrev pub StandsFor : (quote : ℕ) → (spelled says : List ℕ) → Type 0
StandsFor quote spelled says =
    ((byte : ℕ) × IsPlain quote byte × (spelled ≡ byte ∷ []) × (says ≡ byte ∷ []))
    ⊎ (((spelled ≡ quote ∷ quote ∷ []) × (says ≡ quote ∷ []))
    ⊎ ((byte : ℕ) × (spelled ≡ backslash ∷ byte ∷ []) × (says ≡ escaped byte)))

-- The bytes between such quotes stand for this text, one part behind the other.
pub record Says (quote : ℕ) (inside text : List ℕ) : Type 0 where
  pub parts : List (List ℕ × List ℕ)
  pub stand : AllByRecursion (λ part. StandsFor quote part.0 part.1) parts
  pub inside_is : inside ≡ flat_map (λ part. part.0) parts
  pub text_is : text ≡ flat_map (λ part. part.1) parts
