-- The bytes of one kind that some bytes begin with.
use Rattle.std.proofs.Common.{◌≡◌, ℕ, ◌+◌, ◌<◌, not, Bool, true, false, cond, List, [], ◌∷◌, ◌++◌, unwrap_or, position, length, drop, get_or, refl, ap, ◌∙◌, arith}
use Rattle.std.proofs.lemmas.Bool.Decides.{nat_tests}
use Rattle.mc_token.specs.Spelled.{AreAll, EndOrNo}

-- How many bytes of this kind the bytes begin with.
abbrev pub run_len : (ℕ → Bool) → List ℕ → ℕ
run_len is_such bytes = unwrap_or (position (λ byte. not (is_such byte)) bytes) (length bytes)

run_len-front : (is_such : ℕ → Bool) (byte : ℕ) (bytes : List ℕ)
    → run_len is_such (byte ∷ bytes) ≡ cond (is_such byte) (1 + run_len is_such bytes) 0
run_len-front is_such byte bytes = grind (arith, nat_tests)

-- They are as many as are there.
pub run_is : (is_such : ℕ → Bool) (run behind : List ℕ) → AreAll is_such run
    → EndOrNo is_such behind → run_len is_such (run ++ behind) ≡ length run
run_is is_such [] [] h e = refl
run_is is_such [] (byte ∷ behind) h e = run_len-front is_such byte behind ∙ rw e refl
run_is is_such (byte ∷ run) behind h e =
    let rest = run_is is_such run behind h.1 e in
    run_len-front is_such byte (run ++ behind) ∙ rw h.0 (omega arith)

-- The bytes of one kind, and what is behind them.
pub record Run (is_such : ℕ → Bool) (bytes : List ℕ) : Type 0 where
  pub run : List ℕ
  pub behind : List ℕ
  pub bytes_are : bytes ≡ run ++ behind
  pub len_is : run_len is_such bytes ≡ length run
  pub are_all : AreAll is_such run
  pub ends : EndOrNo is_such behind

run-further : (is_such : ℕ → Bool) (byte : ℕ) (bytes : List ℕ) (such : Bool)
    → is_such byte ≡ such → Run is_such bytes → Run is_such (byte ∷ bytes)
run-further is_such byte bytes true e h = record {
  run = byte ∷ h.run;
  behind = h.behind;
  bytes_are = ap (λ l. byte ∷ l) h.bytes_are;
  len_is = run_len-front is_such byte bytes ∙ rw e (omega (arith, h.len_is));
  are_all = (e, h.are_all);
  ends = h.ends;
}
run-further is_such byte bytes false e h = record {
  run = [];
  behind = byte ∷ bytes;
  bytes_are = refl;
  len_is = run_len-front is_such byte bytes ∙ rw e refl;
  are_all = tt;
  ends = e;
}

pub run_of : (is_such : ℕ → Bool) (bytes : List ℕ) → Run is_such bytes
run_of is_such [] =
    record { run = []; behind = []; bytes_are = refl; len_is = refl; are_all = tt; ends = tt }
run_of is_such (byte ∷ bytes) =
    run-further is_such byte bytes (is_such byte) refl (run_of is_such bytes)

-- The first byte behind them.

pub end_or_no : (is_such : ℕ → Bool) (behind : List ℕ) → is_such (get_or behind 0 0) ≡ false
    → EndOrNo is_such behind
end_or_no is_such [] e = tt
end_or_no is_such (byte ∷ behind) e = e

pub no_first : (is_such : ℕ → Bool) (behind : List ℕ) → is_such 0 ≡ false
    → EndOrNo is_such behind → is_such (get_or behind 0 0) ≡ false
no_first is_such [] zero_is e = zero_is
no_first is_such (byte ∷ behind) zero_is e = e

pub get_or-run : (run behind : List ℕ) → get_or (run ++ behind) (length run) 0 ≡ get_or behind 0 0
get_or-run [] behind = refl
get_or-run (byte ∷ run) behind = get_or-run run behind

pub first_of : (bytes : List ℕ) (byte : ℕ) → get_or bytes 0 0 ≡ byte → 0 < byte
    → bytes ≡ byte ∷ drop 1 bytes
first_of [] byte e some = absurd (omega arith)
first_of (first ∷ bytes) byte e some = ap (λ b. b ∷ bytes) e
