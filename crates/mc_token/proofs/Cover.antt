-- The tokens of a statement cover it, and no others do.
use Rattle.std.proofs.Common.{◌≡◌, ℕ, ◌+◌, ◌-◌, ◌<◌, ◌≤◌, true, false, Bool, ◌⊎◌, inl, inr, List, [], ◌∷◌, ◌++◌, length, take, drop, cond, Some, None, Result, Ok, Err, suc, zero, refl, ap, sym, subst, subst₂, append-nil, length-append, ◌∙◌, arith}
use Rattle.std.proofs.Math.Seq.{take-append_seam, drop-append_seam}
use Rattle.std.proofs.lemmas.List.{take-append-drop, length-take-le}
use Rattle.mc_base.specs.declared.span.Span.{Span}
use Rattle.mc_token.specs.Comments.{OpensLine}
use Rattle.mc_token.specs.Cut.{Takes}
use Rattle.mc_token.specs.Elements.{element_of, line_len}
use Rattle.mc_token.specs.Spellings.{spelling_of}
use Rattle.mc_token.specs.Lexemes.{lexeme_of}
use Rattle.mc_token.specs.Tokens.{is_blank, blank_len, with_front, token_of, piece_of, tokens_behind, tokens_in}
use Rattle.mc_token.specs.Cover.{AreBlanks, IsToken, Begins, Cover, AreTokens}
use Rattle.mc_token.specs.declared.element.Element.{Element}
use Rattle.mc_token.specs.declared.lexeme.Lexeme.{Lexeme}
use Rattle.mc_token.specs.declared.lexeme.Token.{Token}
use Rattle.mc_token.specs.declared.lexeme.LexFault.{LexFault}
use Rattle.mc_token.specs.declared.lexeme.LexFault.TheVariants.{NoToken}
use Rattle.mc_token.specs.declared.piece.Piece.{Piece}
use Rattle.mc_token.specs.declared.piece.Piece.TheVariants.{Blank, Begun, Nothing}
use Rattle.mc_token.specs.declared.spelling.Spelling.{Spelling}
use Rattle.mc_token.proofs.CutElements.{element_found}
use Rattle.mc_token.proofs.CutOpenings.{same_first, element_line}
use Rattle.mc_token.proofs.CutWhole.{takes_first}
use Rattle.mc_token.proofs.Lexing.{front-done, front-blank, front-token, before}
use Rattle.mc_token.proofs.Pieces.{blank_of, is_piece-blank, piece_token, is_piece-token}
use Rattle.mc_token.proofs.SpelledFirst.{IsSolid, spelled, first_of-token, solid-begins}
use Rattle.mc_token.proofs.SpelledFound.{front, front_spelled}
use Rattle.mc_token.proofs.SpelledOne.{longest, spelling_with}

-- A blank at the front

-- A blank is the element that begins here.
pub record BlankHere (first len : ℕ) (behind : List ℕ) : Type 0 where
  pub is_one : is_blank (element_of first behind).kind ≡ true
  pub len_is : (element_of first behind).len ≡ len

blank_here-by : (first len : ℕ) (behind : List ℕ) (b : Bool)
    → is_blank (element_of first behind).kind ≡ b
    → cond b (Some (element_of first behind).len) None ≡ Some len → BlankHere first len behind
blank_here-by first len behind true t e = record { is_one = t; len_is = cc }
blank_here-by first len behind false t e = absurd (cc)

pub blank_here : (first len : ℕ) (behind : List ℕ) → blank_len first behind ≡ Some len
    → BlankHere first len behind
blank_here first len behind e = blank_here-by first len behind _ refl e

-- an element that begins here has a byte or more
pub record LongElement (first : ℕ) (behind : List ℕ) (element : Element) (left : List ℕ) : Type 0 where
  pub same : element_of first behind ≡ element
  pub some : 0 < element.len
  pub left_is : drop element.len (first ∷ behind) ≡ left

pub long_element : (first : ℕ) (behind : List ℕ) (element : Element) (left : List ℕ)
    → Takes (first ∷ behind) element left → LongElement first behind element left
long_element first behind element left t =
    let f = element_found element.kind t.taken left t.is_element in
    let whole : first ∷ behind ≡ f.first ∷ (f.others ++ left) =
    t.bytes_are ∙ ap (λ l. l ++ left) f.taken_is in
    let same = same_first first f.first behind (f.others ++ left) whole in
    let count : suc (length f.others) ≡ element.len = sym (t.len_is ∙ ap length f.taken_is) in
    record {
      same = ap (λ b. element_of b behind) same.0 ∙ ap (element_of f.first) same.1
          ∙ f.element_is ∙ ap (λ n. record { kind = element.kind; len = n }) count;
      some = omega (arith, count);
      left_is = ap (λ n. drop n (first ∷ behind)) (sym count)
          ∙ ap (drop (length f.others)) same.1 ∙ drop-append_seam f.others left;
    }

-- The element that begins here, and what is behind it.
pub first_taken : (first : ℕ) (behind : List ℕ) → Takes (first ∷ behind) (element_of first behind)
    (drop (element_of first behind).len (first ∷ behind))
first_taken first behind =
    let e = element_of first behind in
    let l = long_element first behind e (drop (e.len - 1) behind) (takes_first first behind) in
    subst (λ (left : List ℕ). Takes (first ∷ behind) (element_of first behind) left)
    (sym l.left_is) (takes_first first behind)

pub cover-blank : (at first len : ℕ) (behind : List ℕ) (tokens : List Token) (to : ℕ) (rest : List ℕ)
    → blank_len first behind ≡ Some len
    → Cover (at + len) (drop len (first ∷ behind)) tokens to rest
    → Cover at (first ∷ behind) tokens to rest
cover-blank at first len behind tokens to rest e h =
    let b = blank_here first len behind e in
    let element = element_of first behind in
    let takes = first_taken first behind in
    let left = drop element.len (first ∷ behind) in
    let there : Cover (at + element.len) left tokens to rest =
    subst (λ (n : ℕ). Cover (at + n) (drop n (first ∷ behind)) tokens to rest) (sym b.len_is) h in
    go tokens element left b.is_one takes there
  where
    go : (tokens : List Token) (element : Element) (left : List ℕ)
        → is_blank element.kind ≡ true → Takes (first ∷ behind) element left
        → Cover (at + element.len) left tokens to rest → Cover at (first ∷ behind) tokens to rest
    go [] element left one takes there = (element ∷ there.0, (left, one, takes, there.1))
    go (token ∷ tokens) element left one takes there = (
      there.0,
      record {
        blanks = element ∷ there.1.blanks;
        spelled = there.1.spelled;
        are_blanks = (left, one, takes, there.1.are_blanks);
        end_is = there.1.end_is;
        is_token = there.1.is_token;
      },
      there.2,
    )

-- A token at the front

none-or-some : (first len : ℕ) (behind : List ℕ) → blank_len first behind ≡ None
    → blank_len first behind ≡ Some len → ⊥
none-or-some first len behind p q = cc

no_line : (first : ℕ) (behind : List ℕ) → blank_len first behind ≡ None
    → OpensLine (first ∷ behind) → ⊥
no_line first behind none opens =
    let e = element_line first behind opens in
    none-or-some first (1 + line_len behind) behind none
    (ap (λ (element : Element). cond (is_blank element.kind) (Some element.len) None) e)

-- The token whose spelling begins here.
pub token_here : (first : ℕ) (behind : List ℕ) (spelling : Spelling)
    → blank_len first behind ≡ None → spelling_of first behind ≡ Some spelling
    → IsToken (take spelling.len (first ∷ behind)) (drop spelling.len (first ∷ behind))
    (lexeme_of spelling.shape (take spelling.len (first ∷ behind)))
token_here first behind spelling none e =
    let bytes = first ∷ behind in
    let whole = take-append-drop spelling.len bytes in
    record {
      shape = spelling.shape;
      is_spelled = front_spelled bytes spelling (front first behind spelling e);
      no_comment = λ opens. no_line first behind none (subst OpensLine whole opens);
      meaning = refl;
    }

pub cover-token : (at first : ℕ) (behind : List ℕ) (spelling : Spelling) (tokens : List Token)
    (to : ℕ) (rest : List ℕ)
    → blank_len first behind ≡ None → spelling_of first behind ≡ Some spelling
    → Cover (at + spelling.len) (drop spelling.len (first ∷ behind)) tokens to rest
    → Cover at (first ∷ behind) (token_of at spelling (first ∷ behind) ∷ tokens) to rest
cover-token at first behind spelling tokens to rest none e h =
    let bytes = first ∷ behind in
    let len = spelling.len in
    let s = spelled first behind spelling e in
    let whole : take len bytes ++ drop len bytes ≡ bytes = take-append-drop len bytes in
    let count : length (take len bytes) ≡ len = length-take-le len bytes (omega (arith, s.within)) in
    let begins : Begins at bytes (token_of at spelling bytes) (drop len bytes) = record {
      blanks = [];
      spelled = take len bytes;
      are_blanks = (refl, sym whole);
      end_is = omega (arith, count);
      is_token = token_here first behind spelling none e;
    } in
    (drop len bytes, begins, h)

-- The tokens from a byte on, by the piece that it begins.
abbrev pub by_piece : (end at first : ℕ) → List ℕ → Piece → Result (List Token) LexFault
by_piece end at first behind piece = elim piece [
  | Blank len ↦ tokens_behind end (len - 1) (at + 1) behind
  | Begun spelling ↦ with_front (token_of at spelling (first ∷ behind) ∷ [])
      (tokens_behind end (spelling.len - 1) (at + 1) behind)
  | Nothing ↦ Err (NoToken at)
]

-- What a result says of the tokens behind a token.
record Fronted (token : Token) (tokens : List Token) (left : Result (List Token) LexFault) : Type 0 where
  more : List Token
  left_is : left ≡ Ok more
  tokens_are : token ∷ more ≡ tokens

fronted : (token : Token) (tokens : List Token) (left : Result (List Token) LexFault)
    → with_front (token ∷ []) left ≡ Ok tokens → Fronted token tokens left
fronted token tokens (Ok more) e = record { more = more; left_is = refl; tokens_are = cc }
fronted token tokens (Err fault) e = absurd (cc)

-- What is left behind a piece of so many bytes.
record LeftBehind (at len first : ℕ) (behind : List ℕ) : Type 0 where
  place_is : at + 1 + (len - 1) ≡ at + len
  bytes_are : drop (len - 1) behind ≡ drop len (first ∷ behind)

left_behind : (at len first : ℕ) (behind : List ℕ) → 0 < len → LeftBehind at len first behind
left_behind at len first behind some =
    let one : suc (len - 1) ≡ len = omega (arith, some) in
    record {
      place_is = omega (arith, some);
      bytes_are = ap (λ n. drop n (first ∷ behind)) one;
    }

pub moved : (at len first : ℕ) (behind : List ℕ) (P : ℕ → List ℕ → Type 0)
    → 0 < len → P (at + 1 + (len - 1)) (drop (len - 1) behind)
    → P (at + len) (drop len (first ∷ behind))
moved at len first behind P some h =
    let l = left_behind at len first behind some in subst₂ P l.place_is l.bytes_are h

pub some_blank : (first len : ℕ) (behind : List ℕ) → blank_len first behind ≡ Some len → 0 < len
some_blank first len behind e =
    let here = blank_here first len behind e in
    let long = long_element first behind (element_of first behind) _ (takes_first first behind) in
    omega (arith, long.some, here.len_is)

-- What begins at a byte covers, if what is behind it does.
covers-by : (end at first : ℕ) (behind : List ℕ) (tokens : List Token) (piece : Piece)
    → at < end → piece_of (end - at) first behind ≡ piece
    → ((skipped : ℕ) (more : List Token) → at + 1 + skipped ≤ end
    → tokens_behind end skipped (at + 1) behind ≡ Ok more
    → AreTokens end (at + 1 + skipped) (drop skipped behind) more)
    → by_piece end at first behind piece ≡ Ok tokens
    → AreTokens end at (first ∷ behind) tokens
covers-by end at first behind tokens Nothing h e further all = absurd (cc)
covers-by end at first behind tokens (Blank len) h e further all =
    let b = blank_of (end - at) len first behind e in
    let some = some_blank first len behind b.len_is in
    let cover = moved at len first behind (λ (p : ℕ) (l : List ℕ). AreTokens end p l tokens) some
    (further (len - 1) tokens (omega (arith, some, b.fits)) all) in
    (cover.0, cover-blank at first len behind tokens end cover.0 b.len_is cover.1)
covers-by end at first behind tokens (Begun spelling) h e further all =
    let t = piece_token (end - at) spelling first behind e in
    let s = spelled first behind spelling t.spelled in
    let len = spelling.len in
    let f = fronted (token_of at spelling (first ∷ behind)) tokens
    (tokens_behind end (len - 1) (at + 1) behind) all in
    let cover = moved at len first behind (λ (p : ℕ) (l : List ℕ). AreTokens end p l f.more) s.some
    (further (len - 1) f.more (omega (arith, s.some, t.fits)) f.left_is) in
    subst (AreTokens end at (first ∷ behind)) f.tokens_are (
      cover.0,
      cover-token at first behind spelling f.more end cover.0 t.no_blank t.spelled cover.1,
    )

nothing_covers : (end at : ℕ) (bytes : List ℕ) (tokens : List Token) → at ≡ end
    → ◌≡◌ {A = Result (List Token) LexFault} (Ok []) (Ok tokens) → AreTokens end at bytes tokens
nothing_covers end at bytes [] h e = (bytes, ([], (h, refl)))
nothing_covers end at bytes (token ∷ tokens) h e = absurd (cc)

-- The place is the end, or before it.
pub end-or-before : (end at : ℕ) → at ≤ end → (at ≡ end) ⊎ (at < end)
end-or-before zero zero h = inl refl
end-or-before zero (suc at) h = absurd (omega (arith, h))
end-or-before (suc end) zero h = inr (omega arith)
end-or-before (suc end) (suc at) h = elim (end-or-before end at (omega (arith, h))) [
  | inl w ↦ inl (ap suc w)
  | inr w ↦ inr (omega (arith, w))
]

pub at-front : (end at first : ℕ) (behind : List ℕ) (lexed : Result (List Token) LexFault) → at < end
    → tokens_behind end zero at (first ∷ behind) ≡ lexed
    → by_piece end at first behind (piece_of (end - at) first behind) ≡ lexed
unfolding tokens_behind
at-front end at first behind lexed h e = rw (before end at h) at e

covers : (end skipped at : ℕ) (bytes : List ℕ) (tokens : List Token) → at + skipped ≤ end
    → end ≤ at + length bytes → tokens_behind end skipped at bytes ≡ Ok tokens
    → AreTokens end (at + skipped) (drop skipped bytes) tokens
unfolding tokens_behind
covers end zero at [] tokens h k e = nothing_covers end (at + 0) [] tokens (omega (arith, h, k)) e
covers end (suc skipped) at [] tokens h k e = absurd (omega (arith, h, k))
covers end (suc skipped) at (byte ∷ bytes) tokens h k e =
    subst (λ (p : ℕ). AreTokens end p (drop skipped bytes) tokens) (omega arith)
    (covers end skipped (at + 1) bytes tokens (omega (arith, h)) (omega (arith, k)) e)
covers end zero at (byte ∷ bytes) tokens h k e =
    subst (λ (p : ℕ). AreTokens end p (byte ∷ bytes) tokens) (omega arith)
    (elim (end-or-before end at (omega (arith, h))) [
      | inl w ↦ nothing_covers end at (byte ∷ bytes) tokens w
          (sym (front-done end at (byte ∷ bytes) (omega (arith, w))) ∙ e)
      | inr w ↦ covers-by end at byte bytes tokens (piece_of (end - at) byte bytes) w refl
          (λ skipped more l m. covers end skipped (at + 1) bytes more l (omega (arith, k)) m)
          (at-front end at byte bytes (Ok tokens) w e)
    ])

-- The tokens found cover the statement.
pub tokens_cover : (end at : ℕ) (bytes : List ℕ) (tokens : List Token) → at ≤ end
    → end ≤ at + length bytes → tokens_in end at bytes ≡ Ok tokens → AreTokens end at bytes tokens
tokens_cover end at bytes tokens h k e =
    subst (λ (p : ℕ). AreTokens end p bytes tokens) (omega arith)
    (covers end zero at bytes tokens (omega (arith, h)) k e)

-- No others do

blanks_end : (blanks : List Element) (from : ℕ) (bytes : List ℕ) (to : ℕ) (behind : List ℕ)
    → AreBlanks blanks from bytes to behind → from ≤ to
blanks_end [] from bytes to behind h = omega (arith, h.0)
blanks_end (blank ∷ blanks) from bytes to behind h =
    omega (arith, blanks_end blanks (from + blank.len) h.0 to behind h.3)

-- The piece of a blank that ends in time.
pub blank-piece : (end from first : ℕ) (behind : List ℕ) (blank : Element) (left : List ℕ)
    → is_blank blank.kind ≡ true → Takes (first ∷ behind) blank left → from + blank.len ≤ end
    → piece_of (end - from) first behind ≡ Blank blank.len
blank-piece end from first behind blank left one t fits =
    let l = long_element first behind blank left t in
    let kind : is_blank (element_of first behind).kind ≡ true =
    ap (λ (e : Element). is_blank e.kind) l.same ∙ one in
    let len : blank_len first behind ≡ Some blank.len =
    rw kind (ap (λ (e : Element). Some e.len) l.same) in
    is_piece-blank (end - from) blank.len first behind len (omega (arith, fits))

blank-step : (end from : ℕ) (bytes : List ℕ) (blank : Element) (left : List ℕ)
    → is_blank blank.kind ≡ true → Takes bytes blank left → from + blank.len ≤ end
    → tokens_in end from bytes ≡ tokens_in end (from + blank.len) left
blank-step end from [] blank left one t fits =
    let f = element_found blank.kind t.taken left t.is_element in
    let none : [] ≡ f.first ∷ (f.others ++ left) =
    t.bytes_are ∙ ap (λ l. l ++ left) f.taken_is in
    absurd (cc)
blank-step end from (first ∷ behind) blank left one t fits =
    let l = long_element first behind blank left t in
    front-blank end from blank.len first behind (omega (arith, fits, l.some))
    (blank-piece end from first behind blank left one t fits) l.some
    ∙ ap (tokens_in end (from + blank.len)) l.left_is

blanks_passed : (end : ℕ) (blanks : List Element) (from : ℕ) (bytes : List ℕ) (to : ℕ)
    (behind : List ℕ) → AreBlanks blanks from bytes to behind → to ≤ end
    → tokens_in end from bytes ≡ tokens_in end to behind
blanks_passed end [] from bytes to behind h fits =
    ap (λ p. tokens_in end p bytes) h.0 ∙ ap (tokens_in end to) h.1
blanks_passed end (blank ∷ blanks) from bytes to behind h fits =
    blank-step end from bytes blank h.0 h.1 h.2
    (omega (arith, fits, blanks_end blanks (from + blank.len) h.0 to behind h.3))
    ∙ blanks_passed end blanks (from + blank.len) h.0 to behind h.3 fits

abbrev token_with : Span → Lexeme → Token
token_with span kind = record { span = span; kind = kind }

same_token : (token : Token) (start end : ℕ) (kind : Lexeme) → start ≡ token.span.start
    → end ≡ token.span.end → kind ≡ token.kind
    → token_with (record { start = start; end = end }) kind ≡ token
same_token token start end kind p q r =
    ap (λ s. token_with (record { start = s; end = end }) kind) p
    ∙ ap (λ e. token_with (record { start = token.span.start; end = e }) kind) q
    ∙ ap (λ k. token_with token.span k) r

pub solid_by : (first other : ℕ) → first ≡ other → IsSolid other → IsSolid first
solid_by first other e h = subst IsSolid (sym e) h

-- The piece of a token that ends in time, at its first byte.
pub token-piece : (end at : ℕ) (taken left : List ℕ) (says : Lexeme) (h : IsToken taken left says)
    → at + length taken ≤ end
    → piece_of (end - at) (longest h.shape taken left h.is_spelled).first
    (longest h.shape taken left h.is_spelled).others
    ≡ Begun (spelling_with h.shape (length taken))
token-piece end at taken left says h fits =
    let l = longest h.shape taken left h.is_spelled in
    let spelling = spelling_with h.shape (length taken) in
    let first = l.first in
    let others = l.others in
    let f = first_of-token h.shape taken left h.is_spelled in
    let whole : first ∷ others ≡ f.first ∷ (f.others ++ left) =
    sym l.begins ∙ ap (λ t. t ++ left) f.taken_is in
    let same = same_first first f.first others (f.others ++ left) whole in
    let none = solid-begins first others (solid_by first f.first same.0 f.solid)
    (λ opens. h.no_comment (subst OpensLine (sym l.begins) opens)) in
    is_piece-token (end - at) spelling first others none l.longest (omega (arith, fits))

-- A token begins where it is spelled.
token-step : (end : ℕ) (token : Token) (taken behind : List ℕ) → IsToken taken behind token.kind
    → token.span.end ≡ token.span.start + length taken → token.span.end ≤ end
    → tokens_in end token.span.start (taken ++ behind)
    ≡ with_front (token ∷ []) (tokens_in end token.span.end behind)
token-step end token taken behind h len fits =
    let l = longest h.shape taken behind h.is_spelled in
    let spelling = spelling_with h.shape (length taken) in
    let at = token.span.start in
    let first = l.first in
    let others = l.others in
    let s = spelled first others spelling l.longest in
    let piece = token-piece end at taken behind token.kind h (omega (arith, len, fits)) in
    let step = front-token end at spelling first others (omega (arith, len, fits, s.some)) piece
    s.some in
    let front_is : take (length taken) (first ∷ others) ≡ taken =
    ap (take (length taken)) (sym l.begins) ∙ take-append_seam taken behind in
    let left : drop (length taken) (first ∷ others) ≡ behind =
    ap (drop (length taken)) (sym l.begins) ∙ drop-append_seam taken behind in
    let one : token_of at spelling (first ∷ others) ≡ token =
    same_token token at (at + length taken) _ refl (sym len)
    (ap (lexeme_of h.shape) front_is ∙ sym h.meaning) in
    ap (tokens_in end at) l.begins ∙ step
    ∙ ap (λ (t : Token). with_front (t ∷ []) (tokens_in end (at + length taken)
    (drop (length taken) (first ∷ others)))) one
    ∙ ap (λ (p : ℕ). with_front (token ∷ []) (tokens_in end p
    (drop (length taken) (first ∷ others)))) (sym len)
    ∙ ap (λ (b : List ℕ). with_front (token ∷ []) (tokens_in end token.span.end b)) left

front_of-front : (token : Token) (tokens : List Token) (left : Result (List Token) LexFault)
    → with_front (token ∷ []) (with_front tokens left) ≡ with_front (token ∷ tokens) left
front_of-front token tokens (Ok more) = refl
front_of-front token tokens (Err fault) = refl

no_front : (left : Result (List Token) LexFault) → left ≡ with_front [] left
no_front (Ok more) = refl
no_front (Err fault) = refl

begins_end : (at : ℕ) (bytes : List ℕ) (token : Token) (left : List ℕ) → Begins at bytes token left
    → at ≤ token.span.end
begins_end at bytes token left b = omega (
  arith,
  b.end_is,
  blanks_end b.blanks at bytes token.span.start (b.spelled ++ left) b.are_blanks,
)

pub cover_end : (at : ℕ) (bytes : List ℕ) (tokens : List Token) (to : ℕ) (behind : List ℕ)
    → Cover at bytes tokens to behind → at ≤ to
cover_end at bytes [] to behind h = blanks_end h.0 at bytes to behind h.1
cover_end at bytes (token ∷ tokens) to behind h =
    let token_ends = begins_end at bytes token h.0 h.1 in
    omega (arith, token_ends, cover_end token.span.end h.0 tokens to behind h.2)

blanks_count : (blanks : List Element) (from : ℕ) (bytes : List ℕ) (to : ℕ) (behind : List ℕ)
    → AreBlanks blanks from bytes to behind → from + length bytes ≡ to + length behind
blanks_count [] from bytes to behind h = omega (arith, h.0, ap length h.1)
blanks_count (blank ∷ blanks) from bytes to behind h =
    let t = h.2 in
    let count = ap length t.bytes_are ∙ length-append t.taken h.0 in
    omega (arith, count, t.len_is, blanks_count blanks (from + blank.len) h.0 to behind h.3)

-- What the tokens cover is as long as the places say.
pub cover_count : (at : ℕ) (bytes : List ℕ) (tokens : List Token) (to : ℕ) (behind : List ℕ)
    → Cover at bytes tokens to behind → at + length bytes ≡ to + length behind
cover_count at bytes [] to behind h = blanks_count h.0 at bytes to behind h.1
cover_count at bytes (token ∷ tokens) to behind h =
    let b = h.1 in
    let front = blanks_count b.blanks at bytes token.span.start (b.spelled ++ h.0) b.are_blanks in
    let count = length-append b.spelled h.0 in
    let rest = cover_count token.span.end h.0 tokens to behind h.2 in
    omega (arith, front, count, b.end_is, rest)

-- Tokens that cover the script up to a place are found before what begins there.
pub covered_tokens : (end at : ℕ) (bytes : List ℕ) (tokens : List Token) (to : ℕ) (behind : List ℕ)
    → Cover at bytes tokens to behind → to ≤ end
    → tokens_in end at bytes ≡ with_front tokens (tokens_in end to behind)
covered_tokens end at bytes [] to behind h fits =
    blanks_passed end h.0 at bytes to behind h.1 fits ∙ no_front (tokens_in end to behind)
covered_tokens end at bytes (token ∷ tokens) to behind h fits =
    let b = h.1 in
    let ends : token.span.end ≤ end =
    omega (arith, fits, cover_end token.span.end h.0 tokens to behind h.2) in
    blanks_passed end b.blanks at bytes token.span.start (b.spelled ++ h.0) b.are_blanks
    (omega (arith, b.end_is, ends))
    ∙ token-step end token b.spelled h.0 b.is_token b.end_is ends
    ∙ ap (with_front (token ∷ [])) (covered_tokens end token.span.end h.0 tokens to behind h.2 fits)
    ∙ front_of-front token tokens (tokens_in end to behind)

-- No other list of tokens covers it.
pub cover_is_tokens : (end at : ℕ) (bytes : List ℕ) (tokens : List Token)
    → AreTokens end at bytes tokens → tokens_in end at bytes ≡ Ok tokens
cover_is_tokens end at bytes tokens h =
    covered_tokens end at bytes tokens end h.0 h.1 (omega arith)
    ∙ ap (with_front tokens) (front-done end end h.0 (omega arith)) ∙ ap Ok (append-nil tokens)
