-- A script as its elements, one behind the other: MySQL 8.0 manual, 9.1.1 and 9.7.
use Rattle.std.specs.Prelude.{◌≡◌, ◌≢◌, ◌⊎◌, ℕ, true, false, List, []}
use Rattle.std.specs.Prelude.{◌∷◌, ◌++◌, length}
use Rattle.mc_token.specs.Bytes.{is_space, semicolon}
use Rattle.mc_token.specs.Comments.{OpensLine, OpensBlock, IsLineComment, IsBlockComment}
use Rattle.mc_token.specs.Strings.{OpensString, IsString}
use Rattle.mc_token.specs.declared.element.Element.{Element}
use Rattle.mc_token.specs.declared.element.Kind.{Kind}
use Rattle.mc_token.specs.declared.element.Kind.TheVariants.{Space, Comment, Quoted, Unclosed}
use Rattle.mc_token.specs.declared.element.Kind.TheVariants.{Semicolon, Other}

-- No such part begins the bytes.
abbrev pub HasNo : ((taken behind : List ℕ) → Type 0) → List ℕ → Type 0
HasNo IsPart bytes =
    (taken behind : List ℕ) → bytes ≡ taken ++ behind → IsPart taken behind → ⊥

-- A string or a comment opens these bytes, and isn't closed in them.
abbrev pub IsUnclosed : List ℕ → Type 0
IsUnclosed bytes =
    (OpensString bytes × HasNo IsString bytes) ⊎ (OpensBlock bytes × HasNo IsBlockComment bytes)

-- The first of these bytes begins nothing: no space, no semicolon, no comment, no string.
abbrev pub BeginsNothing : ℕ → List ℕ → Type 0
BeginsNothing byte bytes =
    (is_space byte ≡ false) × (byte ≢ semicolon) × (OpensLine bytes → ⊥)
    × (OpensBlock bytes → ⊥)
    × (OpensString bytes → ⊥)

-- The bytes taken are an element of this kind, where these are behind them.
abbrev pub IsElement : Kind → (taken behind : List ℕ) → Type 0
IsElement Space taken behind = (byte : ℕ) × (taken ≡ byte ∷ []) × (is_space byte ≡ true)
IsElement Comment taken behind = IsLineComment taken behind ⊎ IsBlockComment taken behind
IsElement Quoted taken behind = IsString taken behind
IsElement Unclosed taken behind = IsUnclosed taken × (behind ≡ [])
IsElement Semicolon taken behind = taken ≡ semicolon ∷ []
IsElement Other taken behind =
    (byte : ℕ) × (taken ≡ byte ∷ []) × BeginsNothing byte (taken ++ behind)

-- An element begins these bytes, and some bytes are behind it.
pub record Takes (bytes : List ℕ) (element : Element) (behind : List ℕ) : Type 0 where
  pub taken : List ℕ
  pub bytes_are : bytes ≡ taken ++ behind
  pub len_is : element.len ≡ length taken
  pub is_element : IsElement element.kind taken behind

-- The elements, joined, are these bytes.
abbrev pub Cut : List ℕ → List Element → Type 0
Cut bytes [] = bytes ≡ []
Cut bytes (element ∷ elements) =
    (behind : List ℕ) × Takes bytes element behind × Cut behind elements
