use Rattle.mc_group.proofs.SameCases.{from_same, groups_are_classes, one_list, same_equivalence}
use Rattle.mc_group.proofs.SameCases.{to_same}
use Rattle.mc_group.proofs.Totals.{row_total}
use Rattle.mc_group.proofs.laws.group_laws.Goals as goal

pub returns : goal.returns
returns c =
    let lists = c.order_laws.ensures.total in
    record {
      ordered = row_total lists;
      one_list = one_list lists;
      told = λ meaning of one other hv hw. (
        to_same meaning of one other hv hw,
        from_same meaning of one other,
      );
      equivalence = same_equivalence lists;
      classes = groups_are_classes lists;
    }
