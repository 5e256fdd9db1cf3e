-- A member's name is not among those before it.
use Rattle.std.proofs.Common.{arith, refl}
use Rattle.mc_catalog.proofs.Lists.{fresh_member}
use Rattle.mc_catalog.proofs.named.add_titles.Goals as goal

pub add-requires : goal.add-requires
add-requires g c =
    let title = g.T.Titled.title in
    rw c.title.ensures
    (fresh_member title c.args.members.now c.args.members.now c.loop-member.names c.loop-member.member-index c.member-item.result
    refl c.requires.apart (omega arith) c.loop-member.invariant c.member-item.is)
