-- A character is like a head exactly where its list is among those of the heads.
use Rattle.std.proofs.Common.{◌∷◌, [], subst, sym, arith}
use Rattle.mc_order.specs.Meaning.{flat_list, IsSafe}
use Rattle.std.specs.List.{Contains}
use Rattle.mc_uca.specs.Inserts.{AreAscending}
use Rattle.mc_uca.specs.SetContractions.{of_table}
use Rattle.mc_uca.specs.UcaMeaning.{uca_meaning}
use Rattle.mc_uca.specs.Weighing.{set_contractions}
use Rattle.mc_uca.proofs.HeadPlaces.{heads_of-ascending, head_among, among_head, safe_by}
use Rattle.mc_uca.proofs.weigher.Weigher.is_safe.Goals as goal

pub is_list_of-requires-clause-ascending : goal.is_list_of-requires-clause-ascending
is_list_of-requires-clause-ascending c =
    let self = c.args.self.now in
    subst AreAscending (sym c.requires.heads)
    (heads_of-ascending (flat_list (uca_meaning self.charset self.kind self.keys))
    (set_contractions self.charset self.keys.entries))

pub returns : goal.returns
returns c =
    let self = c.args.self.now in
    let m = uca_meaning self.charset self.kind self.keys in
    let heads = c.args.heads.now in
    let texts = set_contractions self.charset self.keys.entries in
    safe_by c.is_list_of.result (Contains heads (flat_list m (c.args.c ∷ []))) (IsSafe m c.args.c)
    c.is_list_of.ensures
    (λ safe among. (let one = among_head (flat_list m) texts heads _ c.requires.heads
    (λ text is. (let two = ((c.longest_law.ensures.all self.keys.entries text).sound text
    (of_table self.charset self.keys.entries text is).0).0 in omega (arith, two))) among in
    safe one.0 one.1 one.2))
    (λ none head is e. none (subst (Contains heads) (sym e)
    (head_among (flat_list m) texts heads head is.0 c.requires.heads is.1)))
