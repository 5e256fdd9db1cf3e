use Rattle.std.proofs.Common.{◌-◌, length, sym, ◌∙◌, arith}
use Rattle.std.proofs.lemmas.Bool.{false≢true}
use Rattle.mc_strfun.proofs.Ended.{end_all, end_more, without_copy}
use Rattle.mc_strfun.proofs.trimming.trim_end.Goals as goal

pub loop-end-preserved : goal.loop-end-preserved
loop-end-preserved c =
    let removed = c.args.removed.now in
    let text = c.args.text.now in
    let end = c.loop-end.end in
    let law = c.chars_law.ensures in
    let joins = without_copy removed text end c.loop-end.invariant.within (c.ends.ensures.0 c.loop-end-test.true) in
    record {
      within = omega (arith, c.loop-end.invariant.within);
      left = λ set r t. end_more law.decodes law.encodes law.no_prefix set removed text end (end - length removed) r joins (c.loop-end.invariant.left set r t);
    }

pub returns : goal.returns
returns c set r t =
    let law = c.chars_law.ensures in
    end_all law.encodes set c.args.removed.now c.args.text.now c.loop-end.end r c.requires.filled
    (λ e. false≢true (sym c.loop-end-test.false ∙ c.ends.ensures.1 e)) (c.loop-end.invariant.left set r t)
