-- What comes of a value that may be missing for a reason.
use Rattle.std.specs.Prelude.{Result, Ok, Err}

-- what comes of a value, or the error that stands in its place
abbrev pub result_and_then : {T U E : Type 0} → (T → Result U E) → Result T E → Result U E
result_and_then next (Ok value) = next value
result_and_then next (Err error) = Err error
