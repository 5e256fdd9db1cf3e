-- The lines in which answers and refusals are written: this engine's own convention.
use Rattle.std.specs.Prelude.{ℕ, List, [], ◌∷◌, ◌++◌, codes, decimal}
use Rattle.std.specs.List.{flat_map}
use Rattle.mc_base.specs.declared.refusal.Refusal.{Refusal}
use Rattle.mc_print.specs.Cells.{cell}
use Rattle.mc_print.specs.Escapes.{as_written, line_feed, tab}
use Rattle.mc_values.specs.declared.answer.Answer.{Answer}
use Rattle.mc_values.specs.declared.value.Value.{Value}

-- a line: its text and a line feed
abbrev pub line : List ℕ → List ℕ
line text = text ++ line_feed ∷ []

-- a member behind a TAB
abbrev pub behind_tab : {T : Type 0} → (T → List ℕ) → T → List ℕ
behind_tab shown member = tab ∷ shown member

-- members as they are shown, a TAB between two
abbrev pub tabbed : {T : Type 0} → (T → List ℕ) → List T → List ℕ
tabbed shown [] = []
tabbed shown (member ∷ members) = shown member ++ flat_map (behind_tab shown) members

-- a row: the line of its cells
abbrev pub row_line : List Value → List ℕ
row_line row = line (tabbed cell row)

-- an answer: a line of its headers, then a line for each row
unfoldable pub answer_text : Answer → List ℕ
answer_text answer =
    line (tabbed as_written answer.header) ++ flat_map row_line answer.rows

-- a refused statement: its number and its text
abbrev pub refusal_text : Refusal → List ℕ
refusal_text refusal =
    codes "ERROR " ++ decimal refusal.number ++ codes ": " ++ line (as_written refusal.text)
