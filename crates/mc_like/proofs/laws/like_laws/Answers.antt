use Rattle.mc_like.proofs.LawLemmas.{literals_match_each, joined_match_at_cut, begins_like_front}
use Rattle.mc_like.proofs.IsLike.{like_is_answered}
use Rattle.mc_like.proofs.Like.{any_alone}
use Rattle.mc_like.proofs.laws.like_laws.Goals as goal

pub returns : goal.returns
returns c = record {
  answered = like_is_answered;
  any = any_alone;
  literals = literals_match_each;
  joined = joined_match_at_cut;
  front = begins_like_front;
}
