-- Where the tokens of a statement stop, nothing begins.
use Rattle.std.proofs.Common.{◌≡◌, ℕ, ◌+◌, ◌-◌, ◌<◌, ◌≤◌, true, inl, inr, List, [], ◌∷◌, ◌++◌, length, take, drop, Result, Ok, Err, suc, zero, refl, ap, sym, subst, ◌∙◌, arith}
use Rattle.std.proofs.lemmas.List.{take-append-drop, length-take-le}
use Rattle.mc_token.specs.Cut.{Takes}
use Rattle.mc_token.specs.Cover.{IsToken, StopsAt}
use Rattle.mc_token.specs.Elements.{element_of}
use Rattle.mc_token.specs.Tokens.{is_blank, with_front, token_of, piece_of, tokens_behind, tokens_in}
use Rattle.mc_token.specs.declared.element.Element.{Element}
use Rattle.mc_token.specs.declared.lexeme.Lexeme.{Lexeme}
use Rattle.mc_token.specs.declared.lexeme.Token.{Token}
use Rattle.mc_token.specs.declared.lexeme.LexFault.{LexFault}
use Rattle.mc_token.specs.declared.lexeme.LexFault.TheVariants.{NoToken}
use Rattle.mc_token.specs.declared.piece.Piece.{Piece}
use Rattle.mc_token.specs.declared.piece.Piece.TheVariants.{Blank, Begun, Nothing}
use Rattle.mc_token.specs.declared.spelling.Spelling.{Spelling}
use Rattle.mc_token.proofs.Cover.{blank-piece, token-piece, token_here, cover-blank, cover-token, by_piece, moved, some_blank, blank_here, first_taken, at-front, end-or-before, covered_tokens, cover_count}
use Rattle.mc_token.proofs.CutOpenings.{same_first}
use Rattle.mc_token.proofs.Lexing.{front-done, front-nothing}
use Rattle.mc_token.proofs.Pieces.{blank_of, piece_token}
use Rattle.mc_token.proofs.SpelledFirst.{spelled}
use Rattle.mc_token.proofs.SpelledOne.{longest, spelling_with}

-- Nothing begins

same_Err : (left right : LexFault)
    → ◌≡◌ {A = Result (List Token) LexFault} (Err left) (Err right) → left ≡ right
same_Err left right e = cc

same_NoToken : (at place : ℕ) → NoToken at ≡ NoToken place → at ≡ place
same_NoToken at place e = cc

no_Blank : (piece : Piece) (len : ℕ) → piece ≡ Nothing → piece ≡ Blank len → ⊥
no_Blank piece len p q = cc

no_Begun : (piece : Piece) (spelling : Spelling) → piece ≡ Nothing → piece ≡ Begun spelling → ⊥
no_Begun piece spelling p q = cc

no_token-by : (end at first : ℕ) (behind taken left : List ℕ) (says : Lexeme)
    → piece_of (end - at) first behind ≡ Nothing → first ∷ behind ≡ taken ++ left
    → IsToken taken left says → at + length taken ≤ end → ⊥
no_token-by end at first behind taken left says none same h fits =
    let l = longest h.shape taken left h.is_spelled in
    let parts = same_first first l.first behind l.others (same ∙ l.begins) in
    let piece = token-piece end at taken left says h fits in
    no_Begun (piece_of (end - at) first behind) (spelling_with h.shape (length taken)) none
    (ap (λ b. piece_of (end - at) b behind) parts.0 ∙ ap (piece_of (end - at) l.first) parts.1
    ∙ piece)

stops-here : (end at first : ℕ) (behind : List ℕ) → at < end
    → piece_of (end - at) first behind ≡ Nothing → StopsAt end at (first ∷ behind) at
stops-here end at first behind h none = record {
  tokens = [];
  behind = first ∷ behind;
  covered = ([], (refl, refl));
  within = h;
  no_blank = λ blank left one takes fits. no_Blank (piece_of (end - at) first behind) blank.len none
      (blank-piece end at first behind blank left one takes fits);
  no_token = λ taken left says same is fits. no_token-by end at first behind taken left says none
      same is fits;
}

front-Err : (token : Token) (left : Result (List Token) LexFault) (fault : LexFault)
    → with_front (token ∷ []) left ≡ Err fault → left ≡ Err fault
front-Err token (Ok more) fault e = absurd (cc)
front-Err token (Err other) fault e = e

-- What begins at a byte stops, if what is behind it does.
stops-by : (end at first : ℕ) (behind : List ℕ) (place : ℕ) (piece : Piece)
    → at < end → piece_of (end - at) first behind ≡ piece
    → ((skipped : ℕ) → at + 1 + skipped ≤ end
    → tokens_behind end skipped (at + 1) behind ≡ Err (NoToken place)
    → StopsAt end (at + 1 + skipped) (drop skipped behind) place)
    → by_piece end at first behind piece ≡ Err (NoToken place)
    → StopsAt end at (first ∷ behind) place
stops-by end at first behind place Nothing h e further all =
    subst (StopsAt end at (first ∷ behind))
    (same_NoToken at place (same_Err (NoToken at) (NoToken place) all))
    (stops-here end at first behind h e)
stops-by end at first behind place (Blank len) h e further all =
    let b = blank_of (end - at) len first behind e in
    let some = some_blank first len behind b.len_is in
    let s = moved at len first behind (λ (p : ℕ) (l : List ℕ). StopsAt end p l place) some
    (further (len - 1) (omega (arith, some, b.fits)) all) in
    record {
      tokens = s.tokens;
      behind = s.behind;
      covered = cover-blank at first len behind s.tokens place s.behind b.len_is s.covered;
      within = s.within;
      no_blank = s.no_blank;
      no_token = s.no_token;
    }
stops-by end at first behind place (Begun spelling) h e further all =
    let t = piece_token (end - at) spelling first behind e in
    let some = (spelled first behind spelling t.spelled).some in
    let len = spelling.len in
    let token = token_of at spelling (first ∷ behind) in
    let s = moved at len first behind (λ (p : ℕ) (l : List ℕ). StopsAt end p l place) some
    (further (len - 1) (omega (arith, some, t.fits)) (front-Err token
    (tokens_behind end (len - 1) (at + 1) behind) (NoToken place) all)) in
    record {
      tokens = token ∷ s.tokens;
      behind = s.behind;
      covered = cover-token at first behind spelling s.tokens place s.behind t.no_blank t.spelled
          s.covered;
      within = s.within;
      no_blank = s.no_blank;
      no_token = s.no_token;
    }

no_fault : (fault : LexFault) → ◌≡◌ {A = Result (List Token) LexFault} (Ok []) (Err fault) → ⊥
no_fault fault e = cc

stops : (end skipped at : ℕ) (bytes : List ℕ) (place : ℕ) → at + skipped ≤ end
    → tokens_behind end skipped at bytes ≡ Err (NoToken place)
    → StopsAt end (at + skipped) (drop skipped bytes) place
unfolding tokens_behind
stops end skipped at [] place h e = absurd (no_fault (NoToken place) e)
stops end (suc skipped) at (byte ∷ bytes) place h e =
    subst (λ (p : ℕ). StopsAt end p (drop skipped bytes) place) (omega arith)
    (stops end skipped (at + 1) bytes place (omega (arith, h)) e)
stops end zero at (byte ∷ bytes) place h e =
    let here : StopsAt end at (byte ∷ bytes) place =
    elim (end-or-before end at (omega (arith, h))) [
      | inl w ↦ absurd (no_fault (NoToken place)
          (sym (front-done end at (byte ∷ bytes) (omega (arith, w))) ∙ e))
      | inr w ↦ stops-by end at byte bytes place (piece_of (end - at) byte bytes) w refl
          (λ skipped l m. stops end skipped (at + 1) bytes place l m)
          (at-front end at byte bytes (Err (NoToken place)) w e)
    ] in
    subst (λ (p : ℕ). StopsAt end p (byte ∷ bytes) place) (omega arith) here

-- The tokens stop where no token is found.
pub tokens_stop : (end at : ℕ) (bytes : List ℕ) (place : ℕ) → at ≤ end
    → tokens_in end at bytes ≡ Err (NoToken place) → StopsAt end at bytes place
tokens_stop end at bytes place h e =
    subst (λ (p : ℕ). StopsAt end p bytes place) (omega arith)
    (stops end zero at bytes place (omega (arith, h)) e)

-- Where they stop, none is found

nothing-by : (end at first : ℕ) (behind : List ℕ) (piece : Piece) → at < end
    → piece_of (end - at) first behind ≡ piece
    → ((blank : Element) (left : List ℕ) → is_blank blank.kind ≡ true
    → Takes (first ∷ behind) blank left → at + blank.len ≤ end → ⊥)
    → ((taken left : List ℕ) (says : Lexeme) → first ∷ behind ≡ taken ++ left
    → IsToken taken left says → at + length taken ≤ end → ⊥)
    → piece ≡ Nothing
nothing-by end at first behind Nothing h e no_blank no_token = refl
nothing-by end at first behind (Blank len) h e no_blank no_token =
    let b = blank_of (end - at) len first behind e in
    let here = blank_here first len behind b.len_is in
    absurd (no_blank (element_of first behind) _ here.is_one (first_taken first behind)
    (omega (arith, h, here.len_is, b.fits)))
nothing-by end at first behind (Begun spelling) h e no_blank no_token =
    let t = piece_token (end - at) spelling first behind e in
    let s = spelled first behind spelling t.spelled in
    let bytes = first ∷ behind in
    let count : length (take spelling.len bytes) ≡ spelling.len =
    length-take-le spelling.len bytes (omega (arith, s.within)) in
    absurd (no_token (take spelling.len bytes) (drop spelling.len bytes) _
    (sym (take-append-drop spelling.len bytes))
    (token_here first behind spelling t.no_blank t.spelled) (omega (arith, h, count, t.fits)))

fault-at : (end place : ℕ) (behind : List ℕ) → place < end → end ≤ place + length behind
    → ((blank : Element) (left : List ℕ) → is_blank blank.kind ≡ true
    → Takes behind blank left → place + blank.len ≤ end → ⊥)
    → ((taken left : List ℕ) (says : Lexeme) → behind ≡ taken ++ left
    → IsToken taken left says → place + length taken ≤ end → ⊥)
    → tokens_in end place behind ≡ Err (NoToken place)
fault-at end place [] h k no_blank no_token = absurd (omega (arith, h, k))
fault-at end place (first ∷ behind) h k no_blank no_token =
    front-nothing end place first behind h (nothing-by end place first behind
    (piece_of (end - place) first behind) h refl no_blank no_token)

-- No token is found where they stop.
pub stop_is_fault : (end at : ℕ) (bytes : List ℕ) (place : ℕ) → end ≤ at + length bytes
    → StopsAt end at bytes place → tokens_in end at bytes ≡ Err (NoToken place)
stop_is_fault end at bytes place k s =
    let count = cover_count at bytes s.tokens place s.behind s.covered in
    covered_tokens end at bytes s.tokens place s.behind s.covered (omega (arith, s.within))
    ∙ ap (with_front s.tokens) (fault-at end place s.behind s.within (omega (arith, k, count))
    s.no_blank s.no_token)
