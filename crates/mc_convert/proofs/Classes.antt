-- The least class of a text, and of its characters.
use Rattle.std.proofs.Common.{◌≡◌, ℕ, ◌+◌, ◌-◌, ◌<◌, ◌≤◌, ◌⊎◌, ◌↔◌, Bool, true, false, cond, leb, ◌&&◌, List, [], ◌∷◌, Option, Some, None, length, take, drop, max, refl, sym, ap, ◌∙◌, subst, arith, inl, inr, get_or, suc}
use Rattle.std.specs.Option.{is_some, IsSome}
use Rattle.std.proofs.lemmas.Bool.{cases_lt, false≢true}
use Rattle.std.proofs.lemmas.Bool.Decides.{nat_tests}
use Rattle.std.proofs.lemmas.List.{length-drop}
use Rattle.std.proofs.Math.Seq.{take-length}
use Rattle.mc_charset.specs.declared.charset.Charset.{Charset}
use Rattle.mc_charset.specs.declared.charset.Charset.TheVariants.{Latin1 as SetLatin1, Ascii as SetAscii, Utf8mb3, Utf8mb4, Ucs2, Utf16, Utf32, Binary}
use Rattle.mc_charset.specs.declared.char_at.CharAt.{CharAt}
use Rattle.mc_charset.specs.declared.char_at.CharAt.TheVariants.{Char, End, Bad}
use Rattle.mc_charset.specs.Rows.{Row, count, sequence, has_code, spelling_in}
use Rattle.mc_charset.specs.Tables.{rows}
use Rattle.mc_charset.specs.Chars.{spell, chars}
use Rattle.mc_charset.specs.NextChar.{HeadsChars}
use Rattle.mc_convert.specs.Classes.{rank, Has, HasIn, HasAll, IsRepertoire}
use Rattle.mc_convert.specs.Plain.{IsPlain}
use Rattle.mc_convert.specs.declared.repertoire.Repertoire.{Repertoire}
use Rattle.mc_convert.specs.declared.repertoire.Repertoire.TheVariants.{Ascii, Latin1, Bmp, Unicode, Bytes}

-- latin1 and the classes

latin1_low : (code : ℕ) → code < 0x80 → is_some (spell SetLatin1 code) ≡ true
unfolding spell
latin1_low code h = grind (arith, nat_tests)

-- Each code point of the rows is below the end.
abbrev ends_below : ℕ → List Row → Bool
ends_below end [] = true
ends_below end (row ∷ rows) = leb (row.first + count row.bytes) end && ends_below end rows

ends_parts : (a b : Bool) → (a && b) ≡ true → (a ≡ true) × (b ≡ true)
ends_parts true true h = (refl, refl)
ends_parts true false h = absurd (cc)
ends_parts false b h = absurd (cc)

lacks_code : (row : Row) (end code : ℕ) → leb (row.first + count row.bytes) end ≡ true → end ≤ code
    → has_code row code ≡ false
lacks_code row end code h k = grind (arith, nat_tests)

no_code_above : (end : ℕ) (rows : List Row) (code : ℕ) → ends_below end rows ≡ true → end ≤ code
    → spelling_in rows code ≡ None
no_code_above end [] code h k = refl
no_code_above end (row ∷ rows) code h k =
    let p = ends_parts (leb (row.first + count row.bytes) end) (ends_below end rows) h in
    ap (λ t. cond t (Some (sequence row.bytes (code - row.first))) (spelling_in rows code))
    (lacks_code row end code p.0 k) ∙ no_code_above end rows code p.1 k

-- A code point that rows have is below their end.
pub below_end : (end : ℕ) (rows : List Row) (code : ℕ) → ends_below end rows ≡ true
    → is_some (spelling_in rows code) ≡ true → code < end
below_end end rows code h k =
    elim (cases_lt code end) [
      | inl l ↦ l
      | inr l ↦ let n =
          no_code_above end rows code h l in absurd (false≢true (sym (ap is_some n) ∙ k))
    ]

pub some_is : (o : Option (List ℕ)) → is_some o ≡ true → IsSome o
some_is o h = h

low_class : (class : Repertoire) (code : ℕ) → code < 0x80 → Has class code
low_class Ascii code h = h
low_class Latin1 code h = some_is (spell SetLatin1 code) (latin1_low code h)
low_class Bmp code h = omega arith
low_class Unicode code h = tt
low_class Bytes code h = tt

low_byte : (class : Repertoire) (code : ℕ) → code < 0x80 → HasIn Binary class code
low_byte Ascii code h = h
low_byte Latin1 code h = h
low_byte Bmp code h = h
low_byte Unicode code h = h
low_byte Bytes code h = tt

-- Each class has what is below 80.
pub low_in : (set : Charset) (class : Repertoire) (code : ℕ) → code < 0x80 → HasIn set class code
low_in Binary class code h = low_byte class code h
low_in SetLatin1 class code h = low_class class code h
low_in SetAscii class code h = low_class class code h
low_in Utf8mb3 class code h = low_class class code h
low_in Utf8mb4 class code h = low_class class code h
low_in Ucs2 class code h = low_class class code h
low_in Utf16 class code h = low_class class code h
low_in Utf32 class code h = low_class class code h

-- One above 7F of latin1: all classes but Ascii have it.
latin1_class : (class : Repertoire) (code : ℕ) → is_some (spell SetLatin1 code) ≡ true → 0x80 ≤ code
    → code < 0x10000 → Has class code ↔ (1 ≤ rank class)
latin1_class Ascii code h k l = ((λ a. absurd (omega arith)), (λ b. absurd (omega arith)))
latin1_class Latin1 code h k l = ((λ a. omega arith), (λ b. h))
latin1_class Bmp code h k l = ((λ a. omega arith), (λ b. l))
latin1_class Unicode code h k l = ((λ a. omega arith), (λ b. tt))
latin1_class Bytes code h k l = ((λ a. omega arith), (λ b. tt))

pub latin1_below : (code : ℕ) → is_some (spell SetLatin1 code) ≡ true → code < 0x10000
unfolding spell
latin1_below code h = below_end 0x10000 (rows SetLatin1) code refl h

pub latin1_classes : (class : Repertoire) (code : ℕ) → is_some (spell SetLatin1 code) ≡ true
    → 0x80 ≤ code → Has class code ↔ (1 ≤ rank class)
latin1_classes class code h k = latin1_class class code h k (latin1_below code h)

-- A loop over the characters

pub rest_behind : (start : ℕ) (text : List ℕ)
    → take (length text - start) (drop start text) ≡ drop start text
rest_behind start text =
    ap (λ n. take n (drop start text)) (sym (length-drop start text))
    ∙ take-length (drop start text)

-- A class has the whole text exactly where it has a lower class and what is left.
abbrev pub HasPassed : Charset → List ℕ → Repertoire → List ℕ → Type 0
HasPassed set text class rest =
    (other : Repertoire) → HasAll set other (chars set text)
    ↔ ((rank class ≤ rank other) × HasAll set other (chars set rest))

pub HasPassed_step : (set : Charset) (text rest : List ℕ) (code len : ℕ) (class joined : Repertoire)
    → HasPassed set text class rest → chars set rest ≡ code ∷ chars set (drop len rest)
    → ((other : Repertoire) → (rank joined ≤ rank other) ↔ ((rank class ≤ rank other) × HasIn set other code))
    → HasPassed set text joined (take (length rest - len) (drop len rest))
HasPassed_step set text rest code len class joined passed e j other =
    let e' : chars set rest ≡ code ∷ chars set (take (length rest - len) (drop len rest)) =
    e ∙ ap (λ t. code ∷ chars set t) (sym (rest_behind len rest)) in
    let p = passed other in
    let q = j other in (
      (λ h. let u = p.0 h in let r = subst (HasAll set other) e' u.1 in (q.1 (u.0, r.0), r.1)),
      (λ h. let u = q.0 h.0 in p.1 (u.0, subst (HasAll set other) (sym e') (u.1, h.1))),
    )

-- One more character

low_more : (class other : Repertoire) (P : Type 0) → P → (rank class ≤ rank other) ↔ ((rank class ≤ rank other) × P)
low_more class other P p = ((λ h. (h, p)), (λ h. h.0))

-- A character below 80 asks for no greater class.
pub joined_low : (set : Charset) (class other : Repertoire) (code : ℕ) → code < 0x80
    → (rank class ≤ rank other) ↔ ((rank class ≤ rank other) × HasIn set other code)
joined_low set class other code h = low_more class other (HasIn set other code) (low_in set other code h)

-- A byte from 80 on asks for Bytes.
pub joined_byte : (set : Charset) (class other : Repertoire) (code : ℕ) → set ≡ Binary → 0x80 ≤ code
    → (4 ≤ rank other) ↔ ((rank class ≤ rank other) × HasIn set other code)
joined_byte set class other code e h = subst (λ (s : Charset). (4 ≤ rank other) ↔ ((rank class ≤ rank other) × HasIn s other code)) (sym e) (at_binary other)
  where
    below : (c : Repertoire) → rank c ≤ 4
    below Ascii = omega arith
    below Latin1 = omega arith
    below Bmp = omega arith
    below Unicode = omega arith
    below Bytes = omega arith

    at_binary : (o : Repertoire) → (4 ≤ rank o) ↔ ((rank class ≤ rank o) × HasIn Binary o code)
    at_binary Ascii = ((λ a. absurd (omega arith)), (λ b. let low = b.1 in absurd (omega arith)))
    at_binary Latin1 = ((λ a. absurd (omega arith)), (λ b. let low = b.1 in absurd (omega arith)))
    at_binary Bmp = ((λ a. absurd (omega arith)), (λ b. let low = b.1 in absurd (omega arith)))
    at_binary Unicode = ((λ a. absurd (omega arith)), (λ b. let low = b.1 in absurd (omega arith)))
    at_binary Bytes = ((λ a. (below class, tt)), (λ b. omega arith))

bmp_has : (other : Repertoire) (code : ℕ) → 2 ≤ rank other → code < 0x10000 → Has other code
bmp_has Ascii code h k = absurd (omega arith)
bmp_has Latin1 code h k = absurd (omega arith)
bmp_has Bmp code h k = k
bmp_has Unicode code h k = tt
bmp_has Bytes code h k = tt

-- A class from Bmp on has each character up to FFFF.
pub joined_bmp : (class other : Repertoire) (code : ℕ) → 2 ≤ rank class → code < 0x10000
    → (rank class ≤ rank other) ↔ ((rank class ≤ rank other) × Has other code)
joined_bmp class other code h k = ((λ l. (l, bmp_has other code (omega arith) k)), (λ b. b.0))

-- The greater of two classes has what both have.
pub joined_max : (class step joined other : Repertoire) (code : ℕ) → Has other code ↔ (rank step ≤ rank other)
    → rank joined ≡ max (rank class) (rank step)
    → (rank joined ≤ rank other) ↔ ((rank class ≤ rank other) × Has other code)
joined_max class step joined other code h m = (
  (λ l. (omega (arith, m), h.1 (omega (arith, m)))),
  (λ b. let c = b.0 in let s = h.0 b.1 in omega (arith, m)),
)

-- From 10000 on only Unicode and Bytes have a character.
pub high_classes : (class : Repertoire) (code : ℕ) → 0x10000 ≤ code → Has class code ↔ (3 ≤ rank class)
high_classes Ascii code h = ((λ a. absurd (omega arith)), (λ b. absurd (omega arith)))
high_classes Latin1 code h = ((λ a. let l = latin1_below code a in absurd (omega arith)), (λ b. absurd (omega arith)))
high_classes Bmp code h = ((λ a. absurd (omega arith)), (λ b. absurd (omega arith)))
high_classes Unicode code h = ((λ a. omega arith), (λ b. tt))
high_classes Bytes code h = ((λ a. omega arith), (λ b. tt))

-- An answer that is no character leaves no characters.
pub nothing : (set : Charset) (rest : List ℕ) (answer : CharAt) → HeadsChars set rest answer
    → (answer ≡ End) ⊎ (answer ≡ Bad) → chars set rest ≡ []
nothing set rest (Char code len) h (inl e) = absurd (cc)
nothing set rest (Char code len) h (inr e) = absurd (cc)
nothing set rest End h e = h.0
nothing set rest Bad h e = h.0

pub HasPassed_end : (set : Charset) (text rest : List ℕ) (class : Repertoire) (answer : CharAt)
    → HasPassed set text class rest → HeadsChars set rest answer → (answer ≡ End) ⊎ (answer ≡ Bad)
    → IsRepertoire set text class
HasPassed_end set text rest class answer passed h e =
    let n = nothing set rest answer h e in
    record {
      has_all = (passed class).1 (omega arith, subst (HasAll set class) (sym n) tt);
      least = λ other k. ((passed other).0 k).0;
    }

all_low : (set : Charset) (codes : List ℕ) → ((k : ℕ) → get_or codes k 0 < 0x80)
    → HasAll set Ascii codes
all_low set [] h = tt
all_low set (code ∷ codes) h = (low_in set Ascii code (h 0), all_low set codes (λ k. h (suc k)))

pub IsPlain_repertoire : (set : Charset) (text : List ℕ) → IsPlain set text
    → IsRepertoire set text Ascii
IsPlain_repertoire set text p = record {
  has_all = subst (HasAll set Ascii) (sym p.its_chars) (all_low set text p.below);
  least = λ other h. omega arith;
}
