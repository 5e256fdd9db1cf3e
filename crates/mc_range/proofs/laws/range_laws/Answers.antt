use Rattle.mc_range.proofs.Bounds.{ends_are_bounds}
use Rattle.mc_range.proofs.Finds.{finds_all}
use Rattle.mc_range.proofs.Lifts.{Known}
use Rattle.mc_range.proofs.Outcome.{Given}
use Rattle.mc_range.proofs.SafeChars.{safe_is_decided}
use Rattle.mc_range.proofs.laws.range_laws.Goals as goal

pub returns-clause-finds : goal.returns-clause-finds
returns-clause-finds g c =
    let m = g.C.Collation.meaning c.args.collation.now in
    let laws = c.collation_laws.ensures in
    let orders = c.order_laws.ensures in
    let keys = c.key_laws.ensures in
    let given : Given m = record {
      fronts = orders.front;
      total = orders.total;
      top_above = keys.top;
      no_floor = laws.no_floor;
    } in
    let known : Known m = record {
      given = given;
      lawful = laws.lawful;
      bounded = laws.bounded;
      space = laws.space;
      safe_front = laws.safe_front;
      safe = safe_is_decided m;
      like_front = c.like_laws.ensures.front m;
      top_end = keys.top_end;
      cut = c.characters_laws.ensures.cut m.charset;
      of_text = c.characters_laws.ensures.of_text m.charset;
      prolonged = orders.prolonged;
      levels = orders.levels;
    } in
    finds_all m known

pub returns-clause-bounds : goal.returns-clause-bounds
returns-clause-bounds g c =
    let m = g.C.Collation.meaning c.args.collation.now in
    let laws = c.collation_laws.ensures in
    ends_are_bounds m laws.lawful laws.bounded laws.tail_weights
    (c.characters_laws.ensures.cut m.charset) (c.characters_laws.ensures.of_text m.charset)

pub returns-clause-safe : goal.returns-clause-safe
returns-clause-safe g c = safe_is_decided (g.C.Collation.meaning c.args.collation.now)
