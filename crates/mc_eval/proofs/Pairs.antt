-- An operation on two operands that have values.
use Rattle.std.proofs.Common.{◌≡◌, sym, ap, ◌∙◌}
use Rattle.mc_values.specs.declared.value.Value.{Value}
use Rattle.mc_eval.specs.Outcomes.{Outcome, of_two}
use Rattle.mc_eval.specs.Outcomes.Outcome.{gives}

pub pair_told : (f : Value → Value → Outcome) (x y : Outcome) (v w a b : Value)
    → x ≡ gives v → y ≡ gives w → a ≡ v → b ≡ w → of_two f x y ≡ f a b
pair_told f x y v w a b hx hy ha hb =
    ap (λ o. of_two f o y) hx ∙ ap (λ o. of_two f (gives v) o) hy
    ∙ ap (λ s. f s w) (sym ha) ∙ ap (λ s. f a s) (sym hb)
