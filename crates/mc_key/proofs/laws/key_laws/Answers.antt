use Rattle.mc_key.proofs.Alike.{spaces_fall_away, kept_compares, keys_compare, equal_kept_alike, kept_alike_equal, keys_are_ordered, equal_keys, top_is_above, top_is_above_end}
use Rattle.mc_key.proofs.Kept.{kept_again}
use Rattle.mc_key.proofs.laws.key_laws.Goals as goal

pub returns : goal.returns
returns c =
    let order = c.order_laws.ensures in
    record {
      spaces = spaces_fall_away;
      stays = kept_again;
      bounds = kept_compares order.front order.total;
      keys = keys_compare order.front order.total;
      equal = λ pad space list other. (
        equal_kept_alike order.front order.total order.same pad space list other,
        kept_alike_equal order.front order.total pad space list other,
      );
      total = keys_are_ordered order.total;
      one_list = equal_keys order.front order.total order.same;
      top = top_is_above order.front;
      top_end = top_is_above_end order.front;
    }
