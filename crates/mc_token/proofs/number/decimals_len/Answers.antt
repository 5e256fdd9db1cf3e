use Rattle.std.proofs.Common.{◌≡◌, not, position, rules, tests}
use Rattle.std.proofs.lemmas.Iterator.{YieldsList-from_slice}
use Rattle.std.proofs.lemmas.Iterator.Search.{position_from_yields_List}
use Rattle.std.specs.Char.{is_ascii_digit}
use Rattle.mc_token.proofs.number.decimals_len.Goals as goal

-- What `position` found is the first byte that is no digit.
pub returns-clause-value : goal.returns-clause-value
returns-clause-value c =
    let found : c.position.result ≡ position (λ byte. not (is_ascii_digit byte)) c.args.bytes.now =
    position_from_yields_List (λ byte. not (is_ascii_digit byte)) _ _ c.position.result c.position.ensures.ran (YieldsList-from_slice c.args.bytes.now cc) (λ x b q k. search (rules, tests)) in
    cc
