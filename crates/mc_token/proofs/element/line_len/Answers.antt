use Rattle.std.proofs.Common.{◌≡◌, ◌==◌, position, rules, tests}
use Rattle.std.proofs.lemmas.Iterator.{YieldsList-from_slice}
use Rattle.std.proofs.lemmas.Iterator.Search.{position_from_yields_List}
use Rattle.mc_token.specs.Bytes.{line_feed}
use Rattle.mc_token.proofs.element.line_len.Goals as goal

-- What `position` found is the first line feed.
pub returns-clause-value : goal.returns-clause-value
returns-clause-value c =
    let found : c.position.result ≡ position (λ byte. byte == line_feed) c.args.bytes.now =
    position_from_yields_List (λ byte. byte == line_feed) _ _ c.position.result c.position.ensures.ran (YieldsList-from_slice c.args.bytes.now cc) (λ x b q k. search (rules, tests)) in
    cc
