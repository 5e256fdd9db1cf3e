-- What stands between two ASCII bytes of UTF-8 is UTF-8.
use Rattle.std.proofs.Common.{◌≡◌, ℕ, ◌+◌, ◌-◌, ◌<◌, List, [], ◌∷◌, length, take, drop, get_or, suc, zero, ap, subst, ◌∙◌, arith}
use Rattle.std.specs.Str.{IsUtf8}
use Rattle.std.proofs.lemmas.Str.{IsUtf8-between, IsCharBoundary-before_ascii, IsCharBoundary-after_ascii}

-- Each part of these bytes between two ASCII bytes is UTF-8. The bytes may begin and end inside a
-- character.
abbrev pub AreCutsUtf8 : List ℕ → Type 0
AreCutsUtf8 bytes = (at len : ℕ) → suc (at + len) < length bytes
    → get_or bytes at 0 < 128 → get_or bytes (suc (at + len)) 0 < 128
    → IsUtf8 (take len (drop (suc at) bytes))

pub cuts-whole : (bytes : List ℕ) → IsUtf8 bytes → AreCutsUtf8 bytes
cuts-whole bytes utf8 at len within first last =
    let after = IsCharBoundary-after_ascii bytes at utf8 (omega arith) first in
    let before = IsCharBoundary-before_ascii bytes (suc (at + len)) within last in
    let part = IsUtf8-between bytes (at + 1) (suc (at + len)) utf8 (omega arith) after before in
    let count : suc (at + len) - (at + 1) ≡ len = omega arith in
    let place : at + 1 ≡ suc at = omega arith in
    let same =
    ap (λ n. take n (drop (at + 1) bytes)) count ∙ ap (λ n. take len (drop n bytes)) place in
    subst IsUtf8 same part

pub cuts-behind : (byte : ℕ) (behind : List ℕ) → AreCutsUtf8 (byte ∷ behind) → AreCutsUtf8 behind
cuts-behind byte behind cuts at len within first last =
    let place : suc (at + len) ≡ suc at + len = omega arith in
    cuts (suc at) len (omega arith) first (subst (λ n. get_or behind n 0 < 128) place last)

pub cuts-drop : (from : ℕ) (bytes : List ℕ) → AreCutsUtf8 bytes → AreCutsUtf8 (drop from bytes)
cuts-drop zero bytes cuts = cuts
cuts-drop (suc from) [] cuts = cuts
cuts-drop (suc from) (byte ∷ behind) cuts = cuts-drop from behind (cuts-behind byte behind cuts)
