use Rattle.std.proofs.Common.{sym, ◌∙◌}
use Rattle.mc_charset.proofs.Chars.{chars_spelled, well_formed_spelled, same_code, nothing_more, Spells_join, chars_front}
use Rattle.mc_charset.specs.CodePoints.{spelled_code_point}
use Rattle.mc_charset.proofs.CodePoints.{is_spelled_tells, chars_code_points}
use Rattle.mc_charset.proofs.laws.chars_law.Goals as goal

pub returns : goal.returns
returns c = record {
  one_list = λ set codes others text h k. sym (chars_spelled set codes text h) ∙ chars_spelled set others text k;
  decodes = chars_spelled;
  encodes = well_formed_spelled;
  no_prefix = λ set code other front more h k. (same_code set code other front more h k, nothing_more set code other front more h k);
  joins = Spells_join;
  fronts = chars_front;
  tells = is_spelled_tells;
  code_point = spelled_code_point;
  all_code_points = chars_code_points;
}
