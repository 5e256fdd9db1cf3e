-- Where a line, a comment and a string end, and which bytes open one.
use Rattle.std.proofs.Common.{◌≡◌, ◌≢◌, ℕ, ◌+◌, ◌==◌, ◌&&◌, Bool, true, false, cond, inl, inr, List, [], ◌∷◌, ◌++◌, length, Some, refl, ap, sym, ◌∙◌, arith}
use Rattle.std.specs.List.{AllByRecursion}
use Rattle.std.proofs.lemmas.Bool.{eqb-true, eqb-false}
use Rattle.std.proofs.lemmas.Bool.Decides.{nat_tests}
use Rattle.mc_token.specs.Bytes.{line_feed, star, slash}
use Rattle.mc_token.specs.Elements.{line_len, block_end}
use Rattle.mc_token.specs.Comments.{EndOr}
use Rattle.mc_token.proofs.Choices.{which}

pub is_equal : (a b : ℕ) → a ≡ b → (a == b) ≡ true
is_equal a b h = grind (arith, nat_tests)

pub is_other : (a b : ℕ) → a ≢ b → (a == b) ≡ false
is_other a b h = grind (arith, nat_tests)

-- A line

pub line_len-front : (byte : ℕ) (bytes : List ℕ)
    → line_len (byte ∷ bytes) ≡ cond (byte == line_feed) 0 (1 + line_len bytes)
line_len-front byte bytes = grind (arith, nat_tests)

pub line_is : (line behind : List ℕ) → AllByRecursion (λ (byte : ℕ). byte ≢ line_feed) line
    → EndOr (λ (byte : ℕ). byte ≡ line_feed) behind → line_len (line ++ behind) ≡ length line
line_is [] [] h e = refl
line_is [] (byte ∷ behind) h e = line_len-front byte behind ∙ rw (is_equal byte line_feed e) refl
line_is (byte ∷ line) behind h e =
    let rest = line_is line behind h.1 e in
    line_len-front byte (line ++ behind) ∙ rw (is_other byte line_feed h.0) (omega arith)

-- A line and what is behind it.
pub record Line (bytes : List ℕ) : Type 0 where
  pub line : List ℕ
  pub behind : List ℕ
  pub bytes_are : bytes ≡ line ++ behind
  pub has_none : AllByRecursion (λ (byte : ℕ). byte ≢ line_feed) line
  pub ends : EndOr (λ (byte : ℕ). byte ≡ line_feed) behind

line_further : (byte : ℕ) (bytes : List ℕ) (feed : Bool) → (byte == line_feed) ≡ feed
    → Line bytes → Line (byte ∷ bytes)
line_further byte bytes true e h = record {
  line = [];
  behind = byte ∷ bytes;
  bytes_are = refl;
  has_none = tt;
  ends = eqb-true byte line_feed e;
}
line_further byte bytes false e h = record {
  line = byte ∷ h.line;
  behind = h.behind;
  bytes_are = ap (λ l. byte ∷ l) h.bytes_are;
  has_none = (eqb-false byte line_feed e, h.has_none);
  ends = h.ends;
}

pub line_of : (bytes : List ℕ) → Line bytes
line_of [] = record { line = []; behind = []; bytes_are = refl; has_none = tt; ends = tt }
line_of (byte ∷ bytes) = line_further byte bytes (byte == line_feed) refl (line_of bytes)

-- A closed comment

-- The first `*/` of these bytes, which begin at a place.
pub record BlockCloses (at : ℕ) (bytes : List ℕ) (end : ℕ) : Type 0 where
  pub between : List ℕ
  pub behind : List ℕ
  pub bytes_are : bytes ≡ between ++ star ∷ slash ∷ behind
  pub end_is : end ≡ at + length between + 2
  pub first : (before after : List ℕ) → between ≢ before ++ star ∷ slash ∷ after

-- the test of `*/` at the front
abbrev pub is_closing : ℕ → List ℕ → Bool
is_closing byte [] = false
is_closing byte (next ∷ behind) = byte == star && next == slash

pub both_true : (a b : Bool) → (a && b) ≡ true → (a ≡ true) × (b ≡ true)
both_true true b h = (refl, h)
both_true false b h = cc

block_end-front : (at byte : ℕ) (bytes : List ℕ) → block_end at (byte ∷ bytes)
    ≡ cond (is_closing byte bytes) (Some (at + 2)) (block_end (at + 1) bytes)
unfolding block_end
block_end-front at byte [] = grind (arith, nat_tests)
block_end-front at byte (next ∷ bytes) = refl

-- `*/` isn't in these bytes if it neither begins them nor is behind the first
not_within : (byte : ℕ) (between bytes : List ℕ)
    → is_closing byte bytes ≡ false
    → ((before after : List ℕ) → between ≢ before ++ star ∷ slash ∷ after)
    → (rest : List ℕ) → bytes ≡ between ++ rest
    → (before after : List ℕ) → byte ∷ between ≢ before ++ star ∷ slash ∷ after
not_within byte between bytes closes further rest e [] after h =
    let front : byte ≡ star = cc in
    let behind : between ≡ slash ∷ after = cc in
    let same : bytes ≡ slash ∷ (after ++ rest) = e ∙ ap (λ l. l ++ rest) behind in
    let no_closing : is_closing star (slash ∷ (after ++ rest)) ≡ false =
    ap (λ b. is_closing b (slash ∷ (after ++ rest))) (sym front)
    ∙ ap (is_closing byte) (sym same) ∙ closes in
    cc
not_within byte between bytes closes further rest e (first ∷ before) after h =
    further before after (cc)

nothing_within : (before after : List ℕ) → [] ≢ before ++ star ∷ slash ∷ after
nothing_within [] after h = cc
nothing_within (byte ∷ before) after h = cc

block_found : (at byte : ℕ) (bytes : List ℕ) (end : ℕ) → is_closing byte bytes ≡ true
    → at + 2 ≡ end → BlockCloses at (byte ∷ bytes) end
block_found at byte [] end h e = cc
block_found at byte (next ∷ bytes) end h e =
    let both = both_true (byte == star) (next == slash) h in
    let one = eqb-true byte star both.0 in
    let two = eqb-true next slash both.1 in
    record {
      between = [];
      behind = bytes;
      bytes_are = cc;
      end_is = omega arith;
      first = λ before after. nothing_within before after;
    }

-- The end found is that of the first `*/`.
pub block_closes : (at : ℕ) (bytes : List ℕ) (end : ℕ) → block_end at bytes ≡ Some end
    → BlockCloses at bytes end
unfolding block_end
block_closes at [] end h = cc
block_closes at (byte ∷ bytes) end h =
    elim (which (is_closing byte bytes) _ _ _ (sym (block_end-front at byte bytes) ∙ h)) [
      | inl w ↦ block_found at byte bytes end w.0 cc
      | inr w ↦ let c = block_closes (at + 1) bytes end w.1 in record {
        between = byte ∷ c.between;
        behind = c.behind;
        bytes_are = ap (λ l. byte ∷ l) c.bytes_are;
        end_is = omega (arith, c.end_is);
        first = not_within byte c.between bytes w.0 c.first (star ∷ slash ∷ c.behind) c.bytes_are;
      }
    ]

not_closing_by : (byte next : ℕ) (bytes : List ℕ) (test : Bool)
    → (byte == star && next == slash) ≡ test
    → ((before after : List ℕ) → byte ∷ next ∷ bytes ≢ before ++ star ∷ slash ∷ after)
    → test ≡ false
not_closing_by byte next bytes false e h = refl
not_closing_by byte next bytes true e h =
    let both = both_true (byte == star) (next == slash) e in
    let one = eqb-true byte star both.0 in
    let two = eqb-true next slash both.1 in
    absurd (h [] bytes (cc))

and_false : (b : Bool) → (b && false) ≡ false
and_false true = refl
and_false false = refl

not_closing : (byte : ℕ) (between behind : List ℕ)
    → ((before after : List ℕ) → byte ∷ between ≢ before ++ star ∷ slash ∷ after)
    → is_closing byte (between ++ star ∷ slash ∷ behind) ≡ false
not_closing byte [] behind h = and_false (byte == star)
not_closing byte (next ∷ between) behind h =
    not_closing_by byte next between (byte == star && next == slash) refl h

-- The first `*/` is the one found.
pub block_is : (at : ℕ) (between behind : List ℕ)
    → ((before after : List ℕ) → between ≢ before ++ star ∷ slash ∷ after)
    → block_end at (between ++ star ∷ slash ∷ behind) ≡ Some (at + length between + 2)
block_is at [] behind h =
    block_end-front at star (slash ∷ behind) ∙ ap (λ (n : ℕ). Some n) (omega arith)
block_is at (byte ∷ between) behind h =
    let rest : block_end (at + 1) (between ++ star ∷ slash ∷ behind)
    ≡ Some (at + 1 + length between + 2) = block_is (at + 1) between behind (λ before after e. h
    (byte ∷ before) after (ap (λ l. byte ∷ l) e)) in
    let no : is_closing byte (between ++ star ∷ slash ∷ behind) ≡ false =
    not_closing byte between behind h in
    block_end-front at byte (between ++ star ∷ slash ∷ behind)
    ∙ ap (λ (b : Bool). cond b (Some (at + 2)) (block_end (at + 1)
    (between ++ star ∷ slash ∷ behind))) no
    ∙ rest ∙ ap (λ (n : ℕ). Some n) (omega arith)
