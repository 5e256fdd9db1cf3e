use Rattle.std.proofs.Common.{refl}
use Rattle.mc_typing.specs.declared.typed.Node.{out-Node}
use Rattle.mc_eval.proofs.Parts.{do_fit, has_fit_type, has_kept_constant, has_value, have_no_like}
use Rattle.mc_eval.proofs.Parts.{itself_fit}
use Rattle.mc_eval.proofs.shape.parts_law.Goals as goal

pub returns : goal.returns
returns c =
    let e = c.args.e.now in
    record {
      value = λ p. has_value p e (out-Node e.node) refl;
      fits = λ n h. do_fit n e (out-Node e.node) refl h;
      itself = λ n h. itself_fit n e (out-Node e.node) refl h;
      constant = λ n h. has_kept_constant n e (out-Node e.node) refl h;
      ty = λ n h. has_fit_type n e (out-Node e.node) refl h;
      like = λ h. have_no_like e (out-Node e.node) refl h;
    }
