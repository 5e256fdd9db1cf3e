use Rattle.std.proofs.Common.{List, ap, ◌∙◌}
use Rattle.std.proofs.lemmas.Bool.Decides.{same_from_decides}
use Rattle.mc_charset.specs.Chars.{chars}
use Rattle.mc_like.specs.declared.item.PatternItem.{PatternItem}
use Rattle.mc_like.specs.Like.{is_like}
use Rattle.mc_like.proofs.IsLike.{like_is_answered}
use Rattle.mc_like.proofs.pattern.Pattern.matches.Goals as goal

pub returns-clause-exact : goal.returns-clause-exact
returns-clause-exact g c =
    let m = g.C.Collation.meaning c.args.collation.now in
    let items = c.as_slice.result.now in
    let codes = chars c.self.inside.charset c.args.text.now in
    let same = same_from_decides c.is_match_in.result (is_like m items codes)
    c.is_match_in.ensures.exact (like_is_answered m items codes) in
    rw (← c.self.view_is)
    (same ∙ ap (λ (i : List PatternItem). is_like m i codes) c.as_slice.ensures)
