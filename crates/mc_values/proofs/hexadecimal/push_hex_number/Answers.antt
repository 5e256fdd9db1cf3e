use Rattle.std.proofs.Common.{◌≡◌, ℕ, ◌++◌, List, Option, Some, IfSome, true, of_z, to_z-of_z, w64, ap, ◌∙◌, subst}
use Rattle.std.proofs.lemmas.Result.{IfOk-weaker}
use Rattle.std.specs.Fmt.{digits, digits_output}
use Rattle.std.specs.Prelude.{string_bytes}
use Rattle.mc_values.specs.Hexadecimal.{number_digits}
use Rattle.mc_values.proofs.HexDigits.{digits_of_number}
use Rattle.mc_values.proofs.hexadecimal.push_hex_number.Goals as goal

pub returns-clause-ok : goal.returns-clause-ok
returns-clause-ok c =
    let shown : digits_output c.in_radix.result ≡ Some (number_digits c.args.number) =
    c.in_radix.ensures
    ∙ ap (λ z. Some (digits 16 true (of_z w64 z))) (to_z-of_z c.ranges.number)
    ∙ ap Some (digits_of_number c.args.number) in
    let text = subst
    (λ (shown : Option (List ℕ)). IfSome shown (λ bs. string_bytes c.in_ok-digits.digits ≡ bs))
    shown c.in_ok-digits.ensures.ok in
    IfOk-weaker c.extend_from_slice.result _ _
    (λ _ h. h ∙ ap (λ t. c.args.out.now ++ t) (c.as_bytes.ensures.value ∙ text))
    c.extend_from_slice.ensures.ok
