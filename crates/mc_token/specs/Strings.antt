-- The strings of a script: MySQL 8.0 manual, 9.1.1.
use Rattle.std.specs.Prelude.{◌≡◌, ◌≢◌, ◌⊎◌, ℕ, List, [], ◌∷◌, ◌++◌}
use Rattle.mc_token.specs.Bytes.{double_quote, single_quote, backslash}
use Rattle.mc_token.specs.Comments.{EndOr}

-- The byte is `'` or `"`.
abbrev pub IsQuote : ℕ → Type 0
IsQuote byte = (byte ≡ single_quote) ⊎ (byte ≡ double_quote)

-- The bytes begin with a quote.
abbrev pub OpensString : List ℕ → Type 0
OpensString bytes =
    (quote : ℕ) × (rest : List ℕ) × IsQuote quote × (bytes ≡ quote ∷ rest)

-- The byte stands for itself in such quotes.
abbrev pub IsPlain : (quote byte : ℕ) → Type 0
IsPlain quote byte = (byte ≢ quote) × (byte ≢ backslash)

-- A backslash and the byte that it hides, or a doubled quote.
abbrev pub IsPair : (quote byte next : ℕ) → Type 0
IsPair quote byte next = (byte ≡ backslash) ⊎ ((byte ≡ quote) × (next ≡ quote))

-- Between such quotes these bytes can stand: plain ones and pairs.
abbrev pub IsContent : (quote : ℕ) → List ℕ → Type 0
IsContent quote [] = Unit {0}
IsContent quote (byte ∷ []) = IsPlain quote byte
IsContent quote (byte ∷ next ∷ bytes) =
    (IsPlain quote byte × IsContent quote (next ∷ bytes))
    ⊎ (IsPair quote byte next × IsContent quote bytes)

-- A string: a quote, content, and the same quote, which isn't doubled.
abbrev pub IsString : (taken behind : List ℕ) → Type 0
IsString taken behind =
    (quote : ℕ) × (content : List ℕ) × IsQuote quote
    × (taken ≡ quote ∷ content ++ quote ∷ []) × IsContent quote content
    × EndOr (λ byte. byte ≢ quote) behind
