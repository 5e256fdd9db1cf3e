-- Texts of operands in the set of their operation, lent or made.
use Rattle.std.specs.Prelude.{ℕ, List}
use Rattle.mc_eval.specs.declared.texts.SetText.{SetText}
use Rattle.mc_eval.specs.declared.texts.SetText.TheVariants.{Lent, Made}

abbrev pub set_text : SetText → List ℕ
set_text (Lent it) = it.now
set_text (Made it) = it
