-- What a piece says of its byte, and which piece a byte begins.
use Rattle.std.proofs.Common.{◌≡◌, ℕ, ◌≤◌, Bool, true, false, cond, List, Option, Some, None, leb, refl, ap, sym, subst, ◌∙◌, arith}
use Rattle.std.proofs.lemmas.Bool.Decides.{nat_tests}
use Rattle.mc_token.specs.Spellings.{spelling_of}
use Rattle.mc_token.specs.Tokens.{blank_len, token_within, piece_of}
use Rattle.mc_token.specs.declared.piece.Piece.{Piece}
use Rattle.mc_token.specs.declared.piece.Piece.TheVariants.{Blank, Begun, Nothing}
use Rattle.mc_token.specs.declared.spelling.Spelling.{Spelling}

abbrev piece_by : ℕ → Option ℕ → Option Spelling → Piece
piece_by room blank found = elim blank [
  | Some len ↦ cond (leb len room) (Blank len) Nothing
  | None ↦ token_within room found
]

piece_of-by : (room first : ℕ) (behind : List ℕ)
    → piece_of room first behind ≡ piece_by room (blank_len first behind) (spelling_of first behind)
unfolding piece_of
piece_of-by room first behind = refl

-- A blank

record IsBlankOf (room len : ℕ) (blank : Option ℕ) : Type 0 where
  len_is : blank ≡ Some len
  fits : len ≤ room

blank-by : (room len : ℕ) (blank : Option ℕ) (found : Option Spelling) (fits : Bool)
    → piece_by room blank found ≡ Blank len → IsBlankOf room len blank
blank-by room len None None fits e = absurd (cc)
blank-by room len None (Some spelling) fits e = within (leb spelling.len room) e
  where
    within : (b : Bool) → cond b (Begun spelling) Nothing ≡ Blank len → IsBlankOf room len None
    within true e = absurd (cc)
    within false e = absurd (cc)
blank-by room len (Some other) found fits e = within (leb other room) refl e
  where
    within : (b : Bool) → leb other room ≡ b → cond b (Blank other) Nothing ≡ Blank len
        → IsBlankOf room len (Some other)
    within true t e = record { len_is = cc; fits = grind (arith, nat_tests) }
    within false t e = absurd (cc)

-- A blank of so many bytes begins here.
pub record BlankOf (room len first : ℕ) (behind : List ℕ) : Type 0 where
  pub len_is : blank_len first behind ≡ Some len
  pub fits : len ≤ room

pub blank_of : (room len first : ℕ) (behind : List ℕ) → piece_of room first behind ≡ Blank len
    → BlankOf room len first behind
blank_of room len first behind e =
    let b = blank-by room len (blank_len first behind) (spelling_of first behind) true
    (sym (piece_of-by room first behind) ∙ e) in
    record { len_is = b.len_is; fits = b.fits }

pub is_piece-blank : (room len first : ℕ) (behind : List ℕ) → blank_len first behind ≡ Some len
    → len ≤ room → piece_of room first behind ≡ Blank len
is_piece-blank room len first behind e h =
    let fits : leb len room ≡ true = grind (arith, nat_tests) in
    piece_of-by room first behind
    ∙ ap (λ blank. piece_by room blank (spelling_of first behind)) e ∙ rw fits refl

-- A token

record IsTokenOf (room : ℕ) (spelling : Spelling) (blank : Option ℕ) (found : Option Spelling) : Type 0 where
  no_blank : blank ≡ None
  spelled : found ≡ Some spelling
  fits : spelling.len ≤ room

token-by : (room : ℕ) (spelling : Spelling) (blank : Option ℕ) (found : Option Spelling)
    → piece_by room blank found ≡ Begun spelling → IsTokenOf room spelling blank found
token-by room spelling (Some len) found e = within (leb len room) e
  where
    within : (b : Bool) → cond b (Blank len) Nothing ≡ Begun spelling
        → IsTokenOf room spelling (Some len) found
    within true e = absurd (cc)
    within false e = absurd (cc)
token-by room spelling None None e = absurd (cc)
token-by room spelling None (Some other) e = within (leb other.len room) refl e
  where
    within : (b : Bool) → leb other.len room ≡ b → cond b (Begun other) Nothing ≡ Begun spelling
        → IsTokenOf room spelling None (Some other)
    within true t e =
        let same : other ≡ spelling = cc in
        let few : other.len ≤ room = grind (arith, nat_tests) in
        record { no_blank = refl; spelled = cc; fits = subst (λ (s : Spelling). s.len ≤ room) same few }
    within false t e = absurd (cc)

-- A token of this spelling begins here.
pub record TokenOf (room : ℕ) (spelling : Spelling) (first : ℕ) (behind : List ℕ) : Type 0 where
  pub no_blank : blank_len first behind ≡ None
  pub spelled : spelling_of first behind ≡ Some spelling
  pub fits : spelling.len ≤ room

pub piece_token : (room : ℕ) (spelling : Spelling) (first : ℕ) (behind : List ℕ)
    → piece_of room first behind ≡ Begun spelling → TokenOf room spelling first behind
piece_token room spelling first behind e =
    let t = token-by room spelling (blank_len first behind) (spelling_of first behind)
    (sym (piece_of-by room first behind) ∙ e) in
    record { no_blank = t.no_blank; spelled = t.spelled; fits = t.fits }

pub is_piece-token : (room : ℕ) (spelling : Spelling) (first : ℕ) (behind : List ℕ)
    → blank_len first behind ≡ None → spelling_of first behind ≡ Some spelling
    → spelling.len ≤ room → piece_of room first behind ≡ Begun spelling
is_piece-token room spelling first behind none e h =
    let fits : leb spelling.len room ≡ true = grind (arith, nat_tests) in
    piece_of-by room first behind
    ∙ ap (λ blank. piece_by room blank (spelling_of first behind)) none
    ∙ ap (token_within room) e ∙ rw fits refl
