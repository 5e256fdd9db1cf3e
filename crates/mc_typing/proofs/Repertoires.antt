-- The repertoire of a text as the first class of the chain that has each of its characters.
use Rattle.std.proofs.Common.{◌≡◌, ℕ, ◌≤◌, ◌<◌, Bool, true, false, ◌&&◌, List, [], ◌∷◌, Option, None, Some, refl, arith}
use Rattle.std.proofs.lemmas.Grind.{common_steps}
use Rattle.std.specs.List.{find, list_all}
use Rattle.std.specs.Option.{is_some}
use Rattle.std.specs.Prelude.{IsSome, nat_lt, unwrap_or}
use Rattle.mc_charset.specs.Chars.{chars, spell}
use Rattle.mc_charset.specs.declared.charset.Charset.{Charset}
use Rattle.mc_charset.specs.declared.charset.Charset.TheVariants as set
use Rattle.mc_convert.specs.Classes.{Has, HasIn, HasAll, IsRepertoire, rank}
use Rattle.mc_convert.specs.declared.repertoire.Repertoire.{Repertoire}
use Rattle.mc_convert.specs.declared.repertoire.Repertoire.TheVariants.{Ascii, Latin1, Bmp, Unicode, Bytes}
use Rattle.mc_typing.specs.Operands.{has, has_in, repertoire_in}

pub below_from : (a b : ℕ) → a < b → nat_lt a b ≡ true
below_from a b h = grind (arith, common_steps)

pub below_to : (a b : ℕ) → nat_lt a b ≡ true → a < b
below_to a b h = grind (arith, common_steps)

some_from : (o : Option (List ℕ)) → IsSome o → is_some o ≡ true
some_from None h = cc
some_from (Some x) h = refl

some_to : (o : Option (List ℕ)) → is_some o ≡ true → IsSome o
some_to None h = cc
some_to (Some x) h = search

-- The test and the fact, for one character.
has_from : (class : Repertoire) (code : ℕ) → Has class code → has class code ≡ true
has_from Ascii code h = below_from code 0x80 h
has_from Latin1 code h = some_from (spell set.Latin1 code) h
has_from Bmp code h = below_from code 0x10000 h
has_from Unicode code h = refl
has_from Bytes code h = refl

has_to : (class : Repertoire) (code : ℕ) → has class code ≡ true → Has class code
has_to Ascii code h = below_to code 0x80 h
has_to Latin1 code h = some_to (spell set.Latin1 code) h
has_to Bmp code h = below_to code 0x10000 h
has_to Unicode code h = tt
has_to Bytes code h = tt

byte_from : (class : Repertoire) (code : ℕ) → HasIn set.Binary class code → has_in set.Binary class code ≡ true
byte_from Ascii code h = below_from code 0x80 h
byte_from Latin1 code h = below_from code 0x80 h
byte_from Bmp code h = below_from code 0x80 h
byte_from Unicode code h = below_from code 0x80 h
byte_from Bytes code h = refl

byte_to : (class : Repertoire) (code : ℕ) → has_in set.Binary class code ≡ true → HasIn set.Binary class code
byte_to Ascii code h = below_to code 0x80 h
byte_to Latin1 code h = below_to code 0x80 h
byte_to Bmp code h = below_to code 0x80 h
byte_to Unicode code h = below_to code 0x80 h
byte_to Bytes code h = tt

in_from : (s : Charset) (class : Repertoire) (code : ℕ) → HasIn s class code → has_in s class code ≡ true
in_from set.Latin1 class code h = has_from class code h
in_from set.Ascii class code h = has_from class code h
in_from set.Utf8mb3 class code h = has_from class code h
in_from set.Utf8mb4 class code h = has_from class code h
in_from set.Ucs2 class code h = has_from class code h
in_from set.Utf16 class code h = has_from class code h
in_from set.Utf32 class code h = has_from class code h
in_from set.Binary class code h = byte_from class code h

in_to : (s : Charset) (class : Repertoire) (code : ℕ) → has_in s class code ≡ true → HasIn s class code
in_to set.Latin1 class code h = has_to class code h
in_to set.Ascii class code h = has_to class code h
in_to set.Utf8mb3 class code h = has_to class code h
in_to set.Utf8mb4 class code h = has_to class code h
in_to set.Ucs2 class code h = has_to class code h
in_to set.Utf16 class code h = has_to class code h
in_to set.Utf32 class code h = has_to class code h
in_to set.Binary class code h = byte_to class code h

-- The same for each of some characters.
left_true : (a b : Bool) → (a && b) ≡ true → a ≡ true
left_true true b e = refl
left_true false b e = cc

right_true : (a b : Bool) → (a && b) ≡ true → b ≡ true
right_true true b e = e
right_true false b e = cc

both_true : (a b : Bool) → a ≡ true → b ≡ true → (a && b) ≡ true
both_true true b e f = f
both_true false b e f = cc

all_from : (s : Charset) (class : Repertoire) (codes : List ℕ) → HasAll s class codes
    → list_all (has_in s class) codes ≡ true
all_from s class [] h = refl
all_from s class (code ∷ codes) h =
    both_true (has_in s class code) (list_all (has_in s class) codes) (in_from s class code h.0)
    (all_from s class codes h.1)

all_to : (s : Charset) (class : Repertoire) (codes : List ℕ) → list_all (has_in s class) codes ≡ true
    → HasAll s class codes
all_to s class [] h = tt
all_to s class (code ∷ codes) h = (
  in_to s class code (left_true (has_in s class code) (list_all (has_in s class) codes) h),
  all_to s class codes (right_true (has_in s class code) (list_all (has_in s class) codes) h),
)

-- The least class that passes a test is the first one that does.
pub not_true : (b : Bool) → (b ≡ true → ⊥) → b ≡ false
not_true true h = absurd (h refl)
not_true false h = refl

first_is : (t : Repertoire → Bool) (class : Repertoire) → t class ≡ true
    → ((other : Repertoire) → t other ≡ true → rank class ≤ rank other)
    → class ≡ unwrap_or (find t (Ascii ∷ Latin1 ∷ Bmp ∷ Unicode ∷ [])) Bytes
first_is t Ascii e h = rw e refl
first_is t Latin1 e h = rw (not_true (t Ascii) (λ a. omega (arith, h Ascii a))) (rw e refl)
first_is t Bmp e h = rw (not_true (t Ascii) (λ a. omega (arith, h Ascii a)))
    (rw (not_true (t Latin1) (λ a. omega (arith, h Latin1 a))) (rw e refl))
first_is t Unicode e h = rw (not_true (t Ascii) (λ a. omega (arith, h Ascii a)))
    (rw (not_true (t Latin1) (λ a. omega (arith, h Latin1 a)))
    (rw (not_true (t Bmp) (λ a. omega (arith, h Bmp a))) (rw e refl)))
first_is t Bytes e h = rw (not_true (t Ascii) (λ a. omega (arith, h Ascii a)))
    (rw (not_true (t Latin1) (λ a. omega (arith, h Latin1 a)))
    (rw (not_true (t Bmp) (λ a. omega (arith, h Bmp a)))
    (rw (not_true (t Unicode) (λ a. omega (arith, h Unicode a))) refl)))

pub repertoire_is : (s : Charset) (text : List ℕ) (class : Repertoire) → IsRepertoire s text class
    → class ≡ repertoire_in s text
unfolding repertoire_in
repertoire_is s text class h =
    first_is (λ other. list_all (has_in s other) (chars s text)) class
    (all_from s class (chars s text) h.has_all)
    (λ other e. h.least other (all_to s other (chars s text) e))
