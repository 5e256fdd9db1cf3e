-- The bytes of what is said: this engine's own conventions, of `mc_print`.
use Rattle.std.specs.Prelude.{ℕ, List, [], All}
use Rattle.mc_print.specs.Lines.{answer_text, refusal_text}
use Rattle.mc_values.specs.Values.{IsTextOfSet}
use Rattle.mycoll.specs.declared.said.Said.{Said}
use Rattle.mycoll.specs.declared.said.Said.TheVariants.{Table, Refused, Nothing}

-- What is written of what is said.
abbrev pub said_text : Said → List ℕ
said_text (Table answer) = answer_text answer
said_text (Refused refusal) = refusal_text refusal
said_text Nothing = []

-- The strings of a table are texts of their sets.
abbrev pub HasTexts : Said → Type 0
HasTexts (Table answer) = All (All IsTextOfSet) answer.rows
HasTexts (Refused refusal) = Unit {0}
HasTexts Nothing = Unit {0}
