use Rattle.std.proofs.Common.{sym, ◌∙◌}
use Rattle.mc_convert.proofs.Classes.{high_classes, latin1_classes}
use Rattle.mc_convert.proofs.repertoire.class_above_7f.Goals as goal

pub returns-then-code-ge65536 : goal.returns-then-code-ge65536
returns-then-code-ge65536 c = λ class. high_classes class c.args.code c.if-code-ge65536.true

pub returns-then-has_in : goal.returns-then-has_in
returns-then-has_in c =
    λ class. latin1_classes class c.args.code (sym c.has_in.ensures ∙ c.if-has_in.true)
    c.requires
