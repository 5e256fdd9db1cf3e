use Rattle.mc_order.proofs.Consequences.{first_list_begins, flat_lists_are_bounded, space_is_weight, safe_front_stands, tails_are_computed, tails_are_weights, floor_is_all_or_none, no_floor_beside_tails, heads_are_chars, empty_has_no_weights}
use Rattle.mc_order.proofs.collation.collation_laws.Goals as goal

pub returns : goal.returns
returns g c =
    let m = g.C.Collation.meaning c.args.collation.now in
    let laws = g.met.C.Collation.lawful c.args.collation.now in
    record {
      lawful = laws;
      first_list = first_list_begins m laws;
      bounded = flat_lists_are_bounded m laws;
      space = space_is_weight m laws;
      safe_front = safe_front_stands m laws;
      tails = tails_are_computed m laws;
      tail_weights = tails_are_weights m laws;
      floor = floor_is_all_or_none m laws;
      no_floor = no_floor_beside_tails m laws;
      heads = heads_are_chars m laws;
      empty = empty_has_no_weights m laws;
    }
