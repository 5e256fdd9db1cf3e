-- A constant of which it was tested may be kept.
use Rattle.std.proofs.Common.{ℕ, List, ◌↔◌, IsTrue, length}
use Rattle.std.specs.Prelude.{nat_le}
use Rattle.std.proofs.lemmas.Bool.{and_parts, leb-true}
use Rattle.mc_charset.specs.Chars.{IsWellFormed, is_spelled}
use Rattle.mc_charset.specs.declared.charset.Charset.{Charset}
use Rattle.mc_values.specs.Values.{greatest_string}
use Rattle.mc_values.specs.declared.value.Value.TheVariants as value
use Rattle.mc_eval.specs.Fit.{is_kept}
use Rattle.mc_eval.specs.Outcomes.{IsKept}

pub text_kept : ((set : Charset) (text : List ℕ) → IsTrue (is_spelled set text) ↔ IsWellFormed set text)
    → (set : Charset) (text : List ℕ) → IsTrue (is_kept (value.Str set text))
    → IsKept (value.Str set text)
text_kept tells set text h =
    let both = and_parts (is_spelled set text) (nat_le (length text) greatest_string) h in
    record {
      text = (tells set text).0 both.0;
      short = leb-true (length text) greatest_string both.1;
    }
