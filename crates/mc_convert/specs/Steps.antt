-- What the private loop of a conversion keeps, a step a time; no public clause cites it.
use Rattle.std.specs.Prelude.{◌≡◌, ◌<◌, ◌≤◌, ◌&&◌, ℕ, Bool, true, false, List}
use Rattle.std.specs.Prelude.{[], ◌∷◌, ◌++◌}
use Rattle.std.specs.Prelude.{Option, length, drop, map, slice_index, MatchOption, Result, Ok}
use Rattle.std.specs.Prelude.{Err}
use Rattle.std.specs.Option.{is_some}
use Rattle.mc_charset.specs.declared.charset.Charset.{Charset}
use Rattle.mc_charset.specs.Chars.{chars, Spells}
use Rattle.mc_base.specs.declared.no_memory.NoMemory.{NoMemory}
use Rattle.mc_convert.specs.declared.steps.Taken.{Taken}
use Rattle.mc_convert.specs.declared.steps.Taken.TheVariants.{Front, Nothing}
use Rattle.mc_convert.specs.Conversion.{AllFit, IsFirstUnfit, fits, stand_in}

-- `to` has each of these characters, or they are a single one that it lacks.
abbrev pub FitOrLost : Charset → Charset → List ℕ → Bool → Type 0
FitOrLost from to codes true =
    (k : ℕ) → k < length codes → fits from to (slice_index codes k) ≡ true
FitOrLost from to codes false =
    (code : ℕ) × (codes ≡ code ∷ []) × (fits from to code ≡ false)

-- The first `count` characters of a text, in its first `len` bytes, were converted behind `old`.
pub record TakesFront (from to : Charset) (text old new : List ℕ) (len count : ℕ)
    (fit : Bool) : Type 0 where
  pub codes : List ℕ
  pub piece : List ℕ
  pub counted : count ≡ length codes
  pub positive : 0 < len
  pub within : len ≤ length text
  pub short : count ≤ len
  pub its_chars : chars from text ≡ codes ++ chars from (drop len text)
  pub spelled : Spells to (map (stand_in from to) codes) piece
  pub written : new ≡ old ++ piece
  pub fit_or_lost : FitOrLost from to codes fit

-- A step took this from the front of the text, or found no character there.
abbrev pub Takes : Charset → Charset → List ℕ → List ℕ → List ℕ
    → Result Taken NoMemory → Type 0
Takes from to text old new (Ok (Front count len fit)) =
    TakesFront from to text old new len count fit
Takes from to text old new (Ok Nothing) = (chars from text ≡ []) × (new ≡ old)
Takes from to text old new (Err lack) = new ≡ old

-- Each character of the text was appended, or `?` where `to` lacks it.
abbrev pub AppendsEach : Charset → Charset → List ℕ → List ℕ → List ℕ → Type 0
AppendsEach from to text old new =
    (piece : List ℕ) × Spells to (map (stand_in from to) (chars from text)) piece
    × (new ≡ old ++ piece)

-- No character is lost, or the first one that is stands at this place.
abbrev pub IsLostPlace : Charset → Charset → List ℕ → Option ℕ → Type 0
IsLostPlace from to text lost =
    MatchOption lost (AllFit from to text) (λ place. IsFirstUnfit from to text place)

-- This holds, unless an exact conversion stopped at a lost character.
abbrev pub UnlessStopped : Bool → Option ℕ → Type 0 → Type 0
UnlessStopped exact lost Holds = (exact && is_some lost) ≡ false → Holds
