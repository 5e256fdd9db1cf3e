-- The lines of weight files: MySQL 8.0 manual, 10.14.3, in the project's own line formats.
use Rattle.std.specs.Prelude.{ℕ, Bool, true, ◌&&◌, not, nat_le, List, [], ◌∷◌, map, Option, Some}
use Rattle.std.specs.Prelude.{None, if◌then◌else◌}
use Rattle.std.specs.Option.{option_and_then}
use Rattle.mc_base.specs.Fields.{fields_of}
use Rattle.mc_table8.specs.Formats.{digits_of, greatest_of}
use Rattle.mc_table8.specs.Fields.{field_of}
use Rattle.mc_table8.specs.Runs.{run_from, run_fits, lists_code}
use Rattle.mc_table8.specs.declared.format.Format.{Format}
use Rattle.mc_table8.specs.declared.format.Format.TheVariants.{Bytes, Codes}
use Rattle.mc_table8.specs.declared.field.Field.{Field}
use Rattle.mc_table8.specs.declared.field.Field.TheVariants.{DefaultWord, Equals, AtSign, Number}
use Rattle.mc_table8.specs.declared.field.Field.TheVariants.{Range}
use Rattle.mc_table8.specs.declared.weight_line.WeightLine.{WeightLine}
use Rattle.mc_table8.specs.declared.weight_line.WeightLine.TheVariants.{Rest, Listed}

-- a line of two fields in a table of bytes: `default =`, `XX W` or `XX..YY =`
abbrev pub table8_of_two : Field → Field → Option WeightLine
table8_of_two DefaultWord Equals = Some Rest
table8_of_two (Number byte) (Number weight) = Some (Listed (run_from byte byte weight) None)
table8_of_two (Range first last) Equals = Some (Listed (run_from first last first) None)
table8_of_two _ _ = None

-- a line of three fields in a table of bytes: `XX W W` or `XX..YY @ W`
abbrev pub table8_of_three : Field → Field → Field → Option WeightLine
table8_of_three (Number byte) (Number weight) (Number other) =
    Some (Listed (run_from byte byte weight) (Some other))
table8_of_three (Range first last) AtSign (Number weight) =
    Some (Listed (run_from first last weight) None)
table8_of_three _ _ _ = None

-- a line of two fields in a table of code points: `C W`
abbrev pub general_of_two : Field → Field → Option WeightLine
general_of_two (Number code) (Number weight) = Some (Listed (run_from code code weight) None)
general_of_two _ _ = None

-- a line of three fields in a table of code points: `C..D @ W`
abbrev pub general_of_three : Field → Field → Field → Option WeightLine
general_of_three (Range first last) AtSign (Number weight) =
    Some (Listed (run_from first last weight) None)
general_of_three _ _ _ = None

-- a line of two fields in either format
abbrev pub form_of_two : Format → Field → Field → Option WeightLine
form_of_two Bytes first second = table8_of_two first second
form_of_two Codes first second = general_of_two first second

-- a line of three fields in either format
abbrev pub form_of_three : Format → Field → Field → Field → Option WeightLine
form_of_three Bytes first second third = table8_of_three first second third
form_of_three Codes first second third = general_of_three first second third

-- a line by its fields, if they are of a form
abbrev pub form_by : Format → List Field → Option WeightLine
form_by format (first ∷ second ∷ []) = form_of_two format first second
form_by format (first ∷ second ∷ third ∷ []) = form_of_three format first second third
form_by format _ = None

-- a line by its form, if it has one
abbrev pub form_of : Format → List ℕ → Option WeightLine
form_of format body = form_by format (map (field_of (digits_of format)) (fields_of body))

-- whether a line's run and weights fit the format, and it doesn't give the space two weights
abbrev pub is_sound : Format → WeightLine → Bool
is_sound format Rest = true
is_sound format (Listed run None) = run_fits (greatest_of format) run
is_sound format (Listed run (Some second)) =
    run_fits (greatest_of format) run && nat_le second (greatest_of format)
    && not (lists_code run 0x20)

-- what a line says; nothing where it is a bad line
abbrev pub line_of : Format → List ℕ → Option WeightLine
line_of format body =
    option_and_then (λ line. if is_sound format line then Some line else None) (form_of format body)
