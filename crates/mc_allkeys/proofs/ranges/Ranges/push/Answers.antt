-- The base's start is noted, if it has none, and the steps stay those of the first ranges.
use Rattle.std.proofs.Common.{take, sym, subst}
use Rattle.mc_allkeys.specs.Starts.{AreStartsOf}
use Rattle.mc_allkeys.specs.Steps.{AreStepsOf}
use Rattle.mc_allkeys.proofs.RangesLemmas.{noted_more, stepped_more, within_more}
use Rattle.mc_allkeys.proofs.ranges.Ranges.push.Goals as goal

pub invariant_of-self-inside-2 : goal.invariant_of-self-inside-2
invariant_of-self-inside-2 c =
    let ranges = c.self.inside.ranges.items in
    let covered = c.self.inside.covered in
    let steps = c.self.inside.steps.items in
    let more = c.in_ok-push.ensures.items in (
      subst (λ rs. AreStartsOf rs c.note.new.self) (sym more)
          (noted_more ranges c.args.range c.self.inside.starts c.make_room.new.self c.note.new.self
          c.self.inside.noted c.make_room.ensures.same c.note.ensures),
      (
        within_more ranges c.args.range c.push.new.self.items covered c.self.inside.within more,
        (
          subst (λ rs. AreStepsOf (take covered rs) steps) (sym more)
              (stepped_more ranges c.args.range covered steps c.self.inside.within
              c.self.inside.stepped),
          tt,
        ),
      ),
    )
