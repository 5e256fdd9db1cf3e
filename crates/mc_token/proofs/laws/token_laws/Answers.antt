use Rattle.std.proofs.Common.{drop, arith}
use Rattle.std.proofs.lemmas.List.{length-drop}
use Rattle.mc_token.proofs.TokenLaws.{tokens-order, tokens-texts}
use Rattle.mc_token.proofs.Folded.{tokens-folded}
use Rattle.mc_token.proofs.OneSpelling.{one_spelling}
use Rattle.mc_token.proofs.StatementEnds.{statement-holds}
use Rattle.mc_token.proofs.HexDigits.{bytes-digits}
use Rattle.mc_token.proofs.Cover.{tokens_cover, cover_is_tokens}
use Rattle.mc_token.proofs.Stops.{tokens_stop, stop_is_fault}
use Rattle.mc_token.proofs.Contents.{says_is, is_said}
use Rattle.mc_token.proofs.laws.token_laws.Goals as goal

pub returns-clause-in_order : goal.returns-clause-in_order
returns-clause-in_order c = tokens-order

pub returns-clause-texts : goal.returns-clause-texts
returns-clause-texts c = tokens-texts

pub returns-clause-folded : goal.returns-clause-folded
returns-clause-folded c = tokens-folded

pub returns-clause-within : goal.returns-clause-within
returns-clause-within c = statement-holds

pub returns-clause-one_spelling : goal.returns-clause-one_spelling
returns-clause-one_spelling c = one_spelling

pub returns-clause-cover : goal.returns-clause-cover
returns-clause-cover c = λ script statement tokens begins ends.
    let bytes = drop statement.start script in
    let count = length-drop statement.start script in (
      tokens_cover statement.end statement.start bytes tokens begins
          (omega (arith, begins, ends, count)),
      cover_is_tokens statement.end statement.start bytes tokens,
    )

pub returns-clause-digits : goal.returns-clause-digits
returns-clause-digits c = bytes-digits

pub returns-clause-content : goal.returns-clause-content
returns-clause-content c = λ quote inside text is_quote is_content. (
  says_is quote inside text is_quote,
  is_said quote inside text is_quote is_content,
)

pub returns-clause-fault : goal.returns-clause-fault
returns-clause-fault c = λ script statement place begins ends.
    let bytes = drop statement.start script in
    let count = length-drop statement.start script in (
      tokens_stop statement.end statement.start bytes place begins,
      stop_is_fault statement.end statement.start bytes place (omega (arith, begins, ends, count)),
    )
