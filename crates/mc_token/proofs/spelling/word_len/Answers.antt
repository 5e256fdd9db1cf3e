use Rattle.std.proofs.Common.{◌≡◌, not, position, rules, tests}
use Rattle.std.proofs.lemmas.Iterator.{YieldsList-from_slice}
use Rattle.std.proofs.lemmas.Iterator.Search.{position_from_yields_List}
use Rattle.mc_token.specs.Bytes.{continues_word}
use Rattle.mc_token.proofs.spelling.word_len.Goals as goal

-- What `position` found is the first byte that doesn't go on with a word.
pub returns-clause-value : goal.returns-clause-value
returns-clause-value c =
    let found : c.position.result ≡ position (λ byte. not (continues_word byte)) c.args.bytes.now =
    position_from_yields_List (λ byte. not (continues_word byte)) _ _ c.position.result c.position.ensures.ran (YieldsList-from_slice c.args.bytes.now cc) (λ x b q k. search (rules, tests)) in
    cc
