use Rattle.std.proofs.Common.{List, ℕ, sym, ap, ◌∙◌, arith, Some}
use Rattle.mc_values.specs.Hexadecimal.{hex_digits}
use Rattle.mc_strfun.proofs.Limits.{within_limit-fits, within_limit-long, length-digits}
use Rattle.mc_strfun.proofs.digits.hex.Goals as goal

pub returns-then-len : goal.returns-then-len
returns-then-len c =
    sym (within_limit-long _ (omega (arith, length-digits c.args.text.now, c.if-len.true, c.len.ensures)))

pub returns : goal.returns
returns c =
    let text = c.args.text.now in
    ap (λ (t : List ℕ). Some t) (c.in_ok-digits_of.ensures ∙ ap hex_digits c.as_slice.ensures)
    ∙ sym (within_limit-fits (hex_digits text) (omega (arith, length-digits text, c.if-len.false, c.len.ensures)))
