-- The repertoire of binary data.
use Rattle.std.proofs.Common.{◌≡◌, ℕ, ◌<◌, List, [], ◌∷◌, get_or, refl, sym, ◌∙◌, subst, arith, inl, inr, zero, suc}
use Rattle.std.specs.Str.{IsAscii, IsNotAscii}
use Rattle.std.proofs.lemmas.Bool.{cases_lt}
use Rattle.std.proofs.lemmas.Option.{same_Some}
use Rattle.mc_charset.specs.declared.charset.Charset.TheVariants.{Binary}
use Rattle.mc_charset.specs.Chars.{chars, Spells}
use Rattle.mc_convert.specs.Classes.{rank, HasAll, IsRepertoire}
use Rattle.mc_convert.specs.Plain.{SpellsAscii}
use Rattle.mc_convert.specs.declared.repertoire.Repertoire.{Repertoire}
use Rattle.mc_convert.specs.declared.repertoire.Repertoire.TheVariants.{Ascii, Bytes}
use Rattle.mc_convert.proofs.Classes.{IsPlain_repertoire}
use Rattle.mc_convert.proofs.Lossless.{byte_low}
use Rattle.mc_convert.proofs.PlainTexts.{Decodes, spells_ascii}

binary_spells : Decodes → SpellsAscii Binary
binary_spells d = spells_ascii d Binary (inr (inr (inr (inr refl))))

pub ascii_bytes : Decodes → (text : List ℕ) → IsAscii text → IsRepertoire Binary text Ascii
ascii_bytes d text h = IsPlain_repertoire Binary text (binary_spells d text h)

all_bytes : (codes : List ℕ) → HasAll Binary Bytes codes
all_bytes [] = tt
all_bytes (code ∷ codes) = (tt, all_bytes codes)

each_low : (class : Repertoire) (codes : List ℕ) → rank class < 4 → HasAll Binary class codes → (k : ℕ)
    → get_or codes k 0 < 0x80
each_low class [] l h k = omega arith
each_low class (code ∷ codes) l h zero = byte_low class code l h.0
each_low class (code ∷ codes) l h (suc k) = each_low class codes l h.1 k

-- Where a class below Bytes has all characters, the bytes are these and below 80.
low_bytes : Decodes → (class : Repertoire) (text : List ℕ) → rank class < 4
    → Spells Binary (chars Binary text) text → HasAll Binary class (chars Binary text) → IsAscii text
low_bytes d class text l s h =
    let low = each_low class (chars Binary text) l h in
    let p = binary_spells d (chars Binary text) low in
    let e : chars Binary text ≡ text = same_Some (chars Binary text) text (sym p.spelled ∙ s) in
    λ k. subst (λ (t : List ℕ). get_or t k 0 < 0x80) e (low k)

pub other_bytes : Decodes → (text : List ℕ) → Spells Binary (chars Binary text) text → IsNotAscii text
    → IsRepertoire Binary text Bytes
other_bytes d text s n = record {
  has_all = all_bytes (chars Binary text);
  least = λ other h. elim (cases_lt (rank other) 4) [
    | inl l ↦ let b = low_bytes d other text l s h n.0 in absurd (omega (arith, b, n.1))
    | inr l ↦ l
  ];
}
