use Rattle.mc_index.proofs.Halves.{parted_held}
use Rattle.mc_index.proofs.index.Index.seek.Goals as goal

pub passed_len-requires-clause-sorted : goal.passed_len-requires-clause-sorted
passed_len-requires-clause-sorted g c =
    parted_held c.order_laws.ensures.total c.self.inside.pad c.self.inside.space
    c.self.inside.entries.items c.deref.result.now c.args.self.now c.args.bound.now c.args.side
    c.self.view_is c.requires c.self.invariant.2 c.deref.ensures.value
