-- The definitions at worked values, computed.
use Rattle.std.proofs.Common.{◌≡◌, [], ◌∷◌, codes, refl}
use Rattle.std.specs.Prelude.{pos}
use Rattle.std.specs.Fmt.{digits}
use Rattle.mc_print.specs.Cells.{cell}
use Rattle.mc_print.specs.Escapes.{as_written}
use Rattle.mc_print.specs.Lines.{answer_text}
use Rattle.mc_rows.specs.declared.fault.RowsFaultKind.TheVariants.{Unfit}
use Rattle.mc_values.specs.declared.value.Value.TheVariants.{Null, Int}
use Rattle.mycoll.specs.Answers.{said_texts}
use Rattle.mycoll.specs.Messages.{out_of_range, too_deep, too_many_tokens}
use Rattle.mycoll.specs.Outcome.{refused_line}
use Rattle.mycoll.specs.Tables.{rows_refusal}
use Rattle.mycoll.specs.declared.said.Said.TheVariants.{Refused, Table}

-- A table of a row, and refusals.
row : said_texts (Table (record {
  header = codes "a" ∷ codes "b" ∷ [];
  rows = (Int (pos 1) ∷ Null ∷ []) ∷ [];
}) ∷ []) ≡ codes "a\tb\n1\tNULL\n"
unfolding as_written cell answer_text digits
row = refl

refusals : said_texts (Refused (too_deep 71) ∷ Refused too_many_tokens ∷ Refused out_of_range ∷ [])
    ≡ codes "ERROR 9003: nested deeper than 64 at byte 71\nERROR 9004: more than 2048 tokens\nERROR 1690: BIGINT value is out of range\n"
unfolding as_written digits
refusals = refl

-- A record of a file of rows that is refused.
refused_record : refused_line (rows_refusal (codes "m.csv") (record { kind = Unfit; at = 1 })) ≡ codes "refused m.csv Unfit 1\n"
unfolding digits
refused_record = refl
