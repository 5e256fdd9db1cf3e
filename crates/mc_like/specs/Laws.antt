-- What patterns are and what LIKE is, in the words of the MySQL 8.0 manual, 12.8.1.
use Rattle.std.specs.Prelude.{◌≡◌, ◌≢◌, ◌↔◌, ℕ, List, [], ◌∷◌, ◌++◌}
use Rattle.std.specs.Prelude.{Some, None, map, length}
use Rattle.std.specs.Prelude.{IsTrue, take, drop}
use Rattle.std.specs.List.{All, AllZip}
use Rattle.mc_order.specs.Consequences.{IsSameChar}
use Rattle.mc_order.specs.Meaning.{Meaning}
use Rattle.mc_like.specs.declared.item.PatternItem.{PatternItem}
use Rattle.mc_like.specs.declared.item.PatternItem.TheVariants.{Literal, Any}
use Rattle.mc_like.specs.Items.{item_of, items_of, literal_front}
use Rattle.mc_like.specs.Like.{Like, is_like}

-- Without an escape each character is an item.
abbrev pub EachIsItem : Type 0
EachIsItem = (codes : List ℕ) → items_of None codes ≡ map item_of codes

-- So where the escape does not occur.
abbrev pub EachOtherIsItem : Type 0
EachOtherIsItem =
    (escape : ℕ) (codes : List ℕ) → All (λ code. code ≢ escape) codes →
    items_of (Some escape) codes ≡ map item_of codes

-- Behind the first escape a character is a literal, `%`, `_` and the escape too, and what follows
-- reads as a pattern of its own.
abbrev pub EscapedIsLiteral : Type 0
EscapedIsLiteral =
    (escape next : ℕ) (codes more : List ℕ) → All (λ code. code ≢ escape) codes →
    items_of (Some escape) (codes ++ escape ∷ next ∷ more)
    ≡ map item_of codes ++ Literal next ∷ items_of (Some escape) more

-- At the pattern's end the escape is a literal.
abbrev pub LastEscapeIsLiteral : Type 0
LastEscapeIsLiteral =
    (escape : ℕ) (codes : List ℕ) → All (λ code. code ≢ escape) codes →
    items_of (Some escape) (codes ++ escape ∷ []) ≡ map item_of codes ++ Literal escape ∷ []

-- The answer of LIKE is true where the characters match the items, and there alone.
abbrev pub LikeIsAnswered : Meaning → Type 0
LikeIsAnswered m =
    (items : List PatternItem) (codes : List ℕ) →
    IsTrue (is_like m items codes) ↔ Like m items codes

-- `%` alone matches every text, the empty one too.
abbrev pub AnyMatchesAll : Meaning → Type 0
AnyMatchesAll m = (codes : List ℕ) → Like m (Any ∷ []) codes

-- Literals match as many characters, each of its own flat list place by place: no padding counts.
abbrev pub LiteralsMatchEach : Meaning → Type 0
LiteralsMatchEach m =
    (literals codes : List ℕ) →
    Like m (map Literal literals) codes ↔ AllZip (IsSameChar m) literals codes

-- Two patterns, one behind the other, match a text where there is a cut at which both match.
abbrev pub JoinedMatchAtCut : Meaning → Type 0
JoinedMatchAtCut m =
    (items more : List PatternItem) (codes : List ℕ) →
    Like m (items ++ more) codes
    ↔ ((cut : ℕ) × Like m items (take cut codes) × Like m more (drop cut codes))

-- What matches begins with characters like the pattern's literal front, as many.
abbrev pub BeginsLikeFront : Meaning → Type 0
BeginsLikeFront m =
    (items : List PatternItem) (codes : List ℕ) → Like m items codes →
    let front = literal_front items in AllZip (IsSameChar m) front (take (length front) codes)
