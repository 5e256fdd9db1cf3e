use Rattle.std.proofs.Common.{sym, ◌∙◌}
use Rattle.mc_ast.specs.declared.expr.Expr.{Expr, fold_out-Expr}
use Rattle.mc_ast.specs.declared.expr.Form.{Form, roll-Form}
use Rattle.mc_ast.specs.Written.{at}
use Rattle.mc_ast.specs.Alike.{nowhere, spanless}
use Rattle.mc_ast.proofs.alike.likeness_ignores_spans.Goals as goal

pub returns : goal.returns
unfolding spanless
returns c = λ start end start' end' form.
    fold_out-Expr Form Expr roll-Form (λ e. record { span = nowhere; form = e.form }) (at start end form)
    ∙ sym (fold_out-Expr Form Expr roll-Form (λ e. record { span = nowhere; form = e.form }) (at start' end' form))
