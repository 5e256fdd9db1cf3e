use Rattle.mc_like.proofs.LawLemmas.{each_is_item, each_other_is_item, escaped_is_literal}
use Rattle.mc_like.proofs.LawLemmas.{last_escape_is_literal}
use Rattle.mc_like.proofs.laws.item_laws.Goals as goal

pub returns : goal.returns
returns c = record {
  each = each_is_item;
  each_other = each_other_is_item;
  escaped = escaped_is_literal;
  last_escape = last_escape_is_literal;
}
