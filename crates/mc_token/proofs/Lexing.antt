-- The tokens from a place of the script on, by the piece that begins there.
use Rattle.std.proofs.Common.{◌≡◌, ℕ, ◌+◌, ◌-◌, ◌<◌, ◌≤◌, true, false, List, [], ◌∷◌, ◌++◌, Result, Ok, Err, length, drop, get_or, suc, zero, refl, ap, sym, append_assoc, append-nil, length-append, leb, ◌∙◌, arith}
use Rattle.std.proofs.lemmas.List.{drop_more, drop-drop}
use Rattle.std.proofs.lemmas.Bool.Decides.{nat_tests}
use Rattle.mc_token.specs.Pieces.{HasRoom, MeansTokens}
use Rattle.mc_token.specs.Tokens.{with_front, token_of, piece_of, tokens_behind, tokens_in, limited, token_limit, fault_of, IsCause}
use Rattle.mc_token.specs.declared.lexeme.Token.{Token}
use Rattle.mc_token.specs.declared.lexeme.LexFault.{LexFault}
use Rattle.mc_token.specs.declared.lexeme.LexFault.TheVariants.{NoToken, TooManyTokens, NoMemory}
use Rattle.mc_token.specs.declared.piece.Piece.{Piece}
use Rattle.mc_token.specs.declared.piece.Piece.TheVariants.{Blank, Begun, Nothing}
use Rattle.mc_token.specs.declared.spelling.Spelling.{Spelling}

-- skipping bytes is dropping them
pub tokens_behind-drop : (end skipped at : ℕ) (bytes : List ℕ)
    → tokens_behind end skipped at bytes ≡ tokens_in end (at + skipped) (drop skipped bytes)
unfolding tokens_behind
tokens_behind-drop end zero at bytes = ap (λ p. tokens_behind end zero p bytes) (omega arith)
tokens_behind-drop end (suc skipped) at [] = refl
tokens_behind-drop end (suc skipped) at (byte ∷ behind) =
    tokens_behind-drop end skipped (at + 1) behind
    ∙ ap (λ p. tokens_in end p (drop skipped behind)) (omega arith)

-- what is left behind a piece of so many bytes
pub tokens-passed : (end at len byte : ℕ) (behind : List ℕ) → 0 < len
    → tokens_behind end (len - 1) (at + 1) behind
    ≡ tokens_in end (at + len) (drop len (byte ∷ behind))
tokens-passed end at len byte behind some =
    let one : suc (len - 1) ≡ len = omega arith in
    tokens_behind-drop end (len - 1) (at + 1) behind
    ∙ ap (λ p. tokens_in end p (drop (len - 1) behind)) (omega arith)
    ∙ ap (λ n. tokens_in end (at + len) (drop n (byte ∷ behind))) one

-- At the front of the bytes.

pub front-done : (end at : ℕ) (bytes : List ℕ) → end ≤ at → tokens_in end at bytes ≡ Ok []
unfolding tokens_behind
front-done end at [] h = refl
front-done end at (byte ∷ behind) h =
    let past : leb end at ≡ true = grind (arith, nat_tests) in rw past refl

-- the place is before the end
pub before : (end at : ℕ) → at < end → leb end at ≡ false
before end at h = grind (arith, nat_tests)

pub front-blank : (end at len byte : ℕ) (behind : List ℕ) → at < end
    → piece_of (end - at) byte behind ≡ Blank len → 0 < len
    → tokens_in end at (byte ∷ behind) ≡ tokens_in end (at + len) (drop len (byte ∷ behind))
unfolding tokens_behind
front-blank end at len byte behind h e some =
    rw (before end at h, e) (tokens-passed end at len byte behind some)

pub front-token : (end at : ℕ) (spelling : Spelling) (byte : ℕ) (behind : List ℕ) → at < end
    → piece_of (end - at) byte behind ≡ Begun spelling → 0 < spelling.len
    → tokens_in end at (byte ∷ behind) ≡ with_front (token_of at spelling (byte ∷ behind) ∷ [])
    (tokens_in end (at + spelling.len) (drop spelling.len (byte ∷ behind)))
unfolding tokens_behind
front-token end at spelling byte behind h e some =
    rw (before end at h, e) (ap (with_front (token_of at spelling (byte ∷ behind) ∷ []))
    (tokens-passed end at spelling.len byte behind some))

pub front-nothing : (end at byte : ℕ) (behind : List ℕ) → at < end
    → piece_of (end - at) byte behind ≡ Nothing
    → tokens_in end at (byte ∷ behind) ≡ Err (NoToken at)
unfolding tokens_behind
front-nothing end at byte behind h e = rw (before end at h, e) refl

-- At a place of the script.

pub tokens-done : (end : ℕ) (script : List ℕ) (at : ℕ) → end ≤ at
    → tokens_in end at (drop at script) ≡ Ok []
tokens-done end script at h = front-done end at (drop at script) h

-- What a piece at a place says of the tokens.
pub means-by : (piece : Piece) (end at : ℕ) (script : List ℕ) → at < end → at < length script
    → piece ≡ piece_of (end - at) (get_or script at 0) (drop (at + 1) script)
    → HasRoom (end - at) piece → MeansTokens end at script piece
means-by (Blank len) end at script h within e room =
    let front = drop_more script at 0 within in
    let byte = get_or script at 0 in
    let behind = drop (at + 1) script in
    ap (tokens_in end at) front ∙ front-blank end at len byte behind h (sym e) room.0
    ∙ ap (λ l. tokens_in end (at + len) (drop len l)) (sym front)
    ∙ ap (tokens_in end (at + len)) (drop-drop len at script ∙ ap (λ n. drop n script) (omega arith))
means-by (Begun spelling) end at script h within e room =
    let front = drop_more script at 0 within in
    let byte = get_or script at 0 in
    let behind = drop (at + 1) script in
    let len = spelling.len in
    ap (tokens_in end at) front ∙ front-token end at spelling byte behind h (sym e) room.0
    ∙ ap (λ l. with_front (token_of at spelling l ∷ []) (tokens_in end (at + len) (drop len l)))
    (sym front)
    ∙ ap (λ l. with_front (token_of at spelling (drop at script) ∷ []) (tokens_in end (at + len) l))
    (drop-drop len at script ∙ ap (λ n. drop n script) (omega arith))
means-by Nothing end at script h within e room =
    ap (tokens_in end at) (drop_more script at 0 within)
    ∙ front-nothing end at (get_or script at 0) (drop (at + 1) script) h (sym e)

-- one more token before the rest
pub with_front-more : (front : List Token) (token : Token) (behind : Result (List Token) LexFault)
    → with_front (front ++ token ∷ []) behind ≡ with_front front (with_front (token ∷ []) behind)
with_front-more front token (Ok behind) = ap Ok (append_assoc front (token ∷ []) behind)
with_front-more front token (Err fault) = refl

pub fault_of-front : (front : List Token) (behind : Result (List Token) LexFault)
    → fault_of (with_front front behind) ≡ fault_of behind
fault_of-front front (Ok behind) = refl
fault_of-front front (Err fault) = refl

-- a token behind as many as there may be is one too many
limited-more : (front : List Token) (token : Token) (behind : Result (List Token) LexFault)
    → length front ≡ token_limit
    → limited (with_front front (with_front (token ∷ []) behind))
    ≡ Err (fault_of (with_front (token ∷ []) behind))
limited-more front token (Ok behind) h =
    let count = length-append front (token ∷ behind) in
    let over : leb (length (front ++ token ∷ behind)) token_limit ≡ false = grind (arith, nat_tests) in
    rw over
limited-more front token (Err fault) h = refl

pub limited-done : (tokens : List Token) (end : ℕ) (script : List ℕ) (at : ℕ) → end ≤ at
    → length tokens ≤ token_limit
    → limited (with_front tokens (tokens_in end at (drop at script))) ≡ Ok tokens
limited-done tokens end script at h few =
    let under : leb (length tokens) token_limit ≡ true = grind (arith, nat_tests) in
    ap (λ behind. limited (with_front tokens behind)) (tokens-done end script at h)
    ∙ ap (λ all. limited (Ok all)) (append-nil tokens) ∙ rw under

-- A token begins these, behind as many as there may be.
pub limited-excess : (front : List Token) (token : Token) (here behind : Result (List Token) LexFault)
    → here ≡ with_front (token ∷ []) behind → length front ≡ token_limit
    → limited (with_front front here) ≡ Err (fault_of here)
limited-excess front token here behind e full =
    ap (λ all. limited (with_front front all)) e ∙ limited-more front token behind full
    ∙ ap (λ all. Err (fault_of all)) (sym e)

-- None begins them.
pub limited-fault : (front : List Token) (here : Result (List Token) LexFault) (fault : LexFault)
    → here ≡ Err fault → limited (with_front front here) ≡ Err fault
limited-fault front here fault e = ap (λ all. limited (with_front front all)) e

pub cause-by : (fault : LexFault) (lexed : Result (List Token) LexFault) → lexed ≡ Err fault
    → IsCause fault lexed
cause-by (NoToken at) lexed e = e
cause-by TooManyTokens lexed e = e
cause-by NoMemory lexed e = tt

-- A token moves from what is left to what was found.
pub token-moves : (tokens more : List Token) (found : Token)
    (here left all : Result (List Token) LexFault)
    → more ≡ tokens ++ found ∷ [] → here ≡ with_front (found ∷ []) left
    → with_front tokens here ≡ all → with_front more left ≡ all
token-moves tokens more found here left all pushed begins whole =
    let moved = with_front-more tokens found left in
    cc

pub ruleset tokens_steps = (tokens-done, fault_of-front)
