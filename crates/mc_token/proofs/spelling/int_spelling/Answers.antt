use Rattle.std.proofs.Common.{get_or, ap, sym, ◌∙◌}
use Rattle.std.specs.Prelude.{option_map}
use Rattle.mc_token.specs.Bytes.{continues_word}
use Rattle.mc_token.specs.Numbers.{decimals_len}
use Rattle.mc_token.proofs.Elements.{behind_of}
use Rattle.mc_token.proofs.Numbers.{digits-taken, int_spelling-is}
use Rattle.mc_token.proofs.spelling.int_spelling.Goals as goal

-- The digits behind the first one are those that were counted.
pub int_of-requires : goal.int_of-requires
int_of-requires c =
    let bytes = c.args.bytes.now in
    digits-taken bytes c.decimals_len-others.result c.requires.not_empty c.requires.digit
    (c.decimals_len-others.ensures.value ∙ ap decimals_len (behind_of bytes 0))

pub returns-clause-value : goal.returns-clause-value
returns-clause-value c =
    let bytes = c.args.bytes.now in
    let n = c.decimals_len-others.result in
    let all = int_spelling-is bytes n c.requires.not_empty
    (c.decimals_len-others.ensures.value ∙ ap decimals_len (behind_of bytes 0))
    (ap (λ l. continues_word (get_or l n 0)) (sym (behind_of bytes 0)) ∙ sym c.goes_on.ensures ∙ c.if-goes_on.false) in
    c.number_of_len.ensures.value ∙ ap (option_map _) c.int_of.ensures ∙ sym all
