use Rattle.std.proofs.Common.{ℕ, List, [], sym, subst, arith}
use Rattle.mc_charset.specs.Chars.{Spells}
use Rattle.mc_range.proofs.Loops.{spells_nothing, spelled_more, spelled_all}
use Rattle.mc_range.proofs.safe.spelled.Goals as goal

pub loop-code-init : goal.loop-code-init
loop-code-init c =
    subst (λ (t : List ℕ). Spells c.args.set [] t) (sym c.new-text.ensures)
    (spells_nothing c.args.set)

pub loop-code-preserved : goal.loop-code-preserved
loop-code-preserved c =
    spelled_more c.chars_law.ensures.joins c.args.set c.args.codes.now c.loop-code.code-index
    c.loop-code.text _ (omega arith) c.loop-code.invariant c.in_ok-put_one.ensures

pub returns : goal.returns
returns c =
    spelled_all c.args.set c.args.codes.now c.loop-code.code-index c.loop-code.text (omega arith)
    c.loop-code.invariant
