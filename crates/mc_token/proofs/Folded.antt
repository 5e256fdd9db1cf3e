-- The texts of words and names have no letter from A to Z.
use Rattle.std.proofs.Common.{◌≡◌, ℕ, ◌≤◌, false, List, [], ◌∷◌, Ok, length, drop, map, sym, subst, arith}
use Rattle.std.specs.Char.{is_ascii_uppercase, to_ascii_lowercase}
use Rattle.std.proofs.lemmas.Bool.Decides.{nat_tests}
use Rattle.std.proofs.lemmas.List.{length-drop}
use Rattle.mc_base.specs.declared.span.Span.{Span}
use Rattle.mc_token.specs.Cover.{Cover}
use Rattle.mc_token.specs.Lexemes.{inside, lexeme_of}
use Rattle.mc_token.specs.Tokens.{tokens_of}
use Rattle.mc_token.specs.TokenLaws.{IsFolded, HasFoldedText, HaveFoldedTexts}
use Rattle.mc_token.specs.declared.lexeme.Token.{Token}
use Rattle.mc_token.specs.declared.spelling.Shape.{Shape}
use Rattle.mc_token.specs.declared.spelling.Shape.TheVariants.{Word, Name, Int, Str, National, HexString, HexNumber, Sym}
use Rattle.mc_token.proofs.Cover.{tokens_cover}
use Rattle.mc_token.proofs.TokenLaws.{statement-tokens}

folded-byte : (byte : ℕ) → is_ascii_uppercase (to_ascii_lowercase byte) ≡ false
folded-byte byte = grind (arith, nat_tests)

folded-map : (bytes : List ℕ) → IsFolded (map to_ascii_lowercase bytes)
folded-map [] = tt
folded-map (byte ∷ bytes) = (folded-byte byte, folded-map bytes)

folded-of : (shape : Shape) (bytes : List ℕ) → HasFoldedText (lexeme_of shape bytes)
unfolding lexeme_of
folded-of Word bytes = folded-map bytes
folded-of Name bytes = folded-map (inside 1 bytes)
folded-of (Int number) bytes = tt
folded-of Str bytes = tt
folded-of National bytes = tt
folded-of HexString bytes = tt
folded-of HexNumber bytes = tt
folded-of (Sym symbol) bytes = tt

folded-cover : (at : ℕ) (bytes : List ℕ) (tokens : List Token) (to : ℕ) (behind : List ℕ)
    → Cover at bytes tokens to behind → HaveFoldedTexts tokens
folded-cover at bytes [] to behind h = tt
folded-cover at bytes (token ∷ tokens) to behind h =
    let is_token = h.1.is_token in (
      subst HasFoldedText (sym is_token.meaning) (folded-of is_token.shape h.1.spelled),
      folded-cover token.span.end h.0 tokens to behind h.2,
    )

pub tokens-folded : (script : List ℕ) (statement : Span) (tokens : List Token)
    → statement.start ≤ statement.end → statement.end ≤ length script
    → tokens_of script statement ≡ Ok tokens → HaveFoldedTexts tokens
tokens-folded script statement tokens begins ends e =
    let bytes = drop statement.start script in
    let cover = tokens_cover statement.end statement.start bytes tokens begins
    (omega (arith, begins, ends, length-drop statement.start script))
    (statement-tokens script statement tokens e) in
    folded-cover statement.start bytes tokens statement.end cover.0 cover.1
