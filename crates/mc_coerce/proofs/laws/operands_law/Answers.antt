use Rattle.std.proofs.Common.{sym, ap, ◌∙◌}
use Rattle.mc_charset.specs.declared.collation_id.CollId.{CollId}
use Rattle.mc_coerce.proofs.laws.operands_law.Goals as goal

pub returns : goal.returns
returns c = record {
  by_sets = λ list set_of each sets. record {
    each = each;
    one_set = λ k a l j b m same.
        sets k a l ∙ ap (λ (id : CollId). set_of id.0) same ∙ sym (sets j b m);
  };
}
