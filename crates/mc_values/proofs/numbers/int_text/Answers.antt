-- The digits are ASCII.
use Rattle.std.proofs.Common.{◌≡◌, length, sym, ap, ◌∙◌, subst, arith, to_z-of_z}
use Rattle.std.specs.Fmt.{signed_decimal}
use Rattle.std.specs.Str.{IsAscii}
use Rattle.std.proofs.lemmas.Result.{IfOk-weaker}
use Rattle.mc_charset.specs.Chars.{Spells}
use Rattle.mc_values.proofs.numbers.int_text.Goals as goal

pub ascii_text-requires : goal.ascii_text-requires
ascii_text-requires c =
    subst IsAscii (sym c.as_bytes.ensures.value) c.format-digits.ensures.ascii

pub returns-clause-spells : goal.returns-clause-spells
returns-clause-spells c =
    let digits : c.as_bytes.result.now ≡ signed_decimal c.args.number =
    c.as_bytes.ensures.value ∙ c.format-digits.ensures.text
    ∙ ap signed_decimal (to_z-of_z c.ranges.number) in
    IfOk-weaker c.ascii_text.result _ _
    (λ text h. subst (λ codes. Spells c.args.set codes text) digits h)
    c.ascii_text.ensures.spells

pub returns-clause-short : goal.returns-clause-short
returns-clause-short c =
    IfOk-weaker c.ascii_text.result _ _
    (λ text h. omega (
      arith,
      h,
      ap (λ codes. length codes) c.as_bytes.ensures.value,
      c.format-digits.ensures.fits,
    ))
    c.ascii_text.ensures.short
