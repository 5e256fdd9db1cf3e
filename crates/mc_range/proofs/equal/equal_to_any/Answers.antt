use Rattle.mc_range.proofs.Counts.{all_named, none_named}
use Rattle.mc_range.proofs.equal.equal_to_any.Goals as goal

pub returns-in-All : goal.returns-in-All
returns-in-All g c =
    all_named c.in_ok-put_equal_any.field-0 _ _ _ c.new-out.ensures c.in-All.is
    c.in_ok-put_equal_any.ensures

pub returns-in-TooMany : goal.returns-in-TooMany
returns-in-TooMany g c =
    none_named c.in_ok-put_equal_any.field-0 _ _ _ c.new-out.ensures c.in-TooMany.is
    c.in_ok-put_equal_any.ensures
