-- The definitions at worked lines: each form of both formats, and what is no line of them.
use Rattle.std.proofs.Common.{◌≡◌, Some, None, refl}
use Rattle.std.specs.Prelude.{codes}
use Rattle.mc_table8.specs.Runs.{run_from}
use Rattle.mc_table8.specs.WeightLines.{line_of}
use Rattle.mc_table8.specs.declared.format.Format.TheVariants.{Bytes, Codes}
use Rattle.mc_table8.specs.declared.weight_line.WeightLine.TheVariants.{Rest, Listed}

-- `default =` is the rest.
default_line : line_of Bytes (codes "default =") ≡ Some Rest
default_line = refl

-- One weight.
single_line : line_of Bytes (codes "C4 41") ≡ Some (Listed (run_from 0xC4 0xC4 0x41) None)
single_line = refl

-- Two weights.
pair_line : line_of Bytes (codes "DF 53 53") ≡ Some (Listed (run_from 0xDF 0xDF 0x53) (Some 0x53))
pair_line = refl

-- A range of bytes, each itself.
itself_line : line_of Bytes (codes "00..FF =") ≡ Some (Listed (run_from 0x00 0xFF 0x00) None)
itself_line = refl

-- A range of bytes from a weight on.
shifted_line : line_of Bytes (codes "61..7A @ 41") ≡ Some (Listed (run_from 0x61 0x7A 0x41) None)
shifted_line = refl

-- The space has one weight.
space_line : line_of Bytes (codes "20 41 42") ≡ None
space_line = refl

-- The last weight of a range is one of them.
high_line : line_of Bytes (codes "FE..FF @ FF") ≡ None
high_line = refl

-- A range doesn't end below its start.
falling_line : line_of Bytes (codes "7A..61 @ 41") ≡ None
falling_line = refl

-- Code points of a general file.
code_line : line_of Codes (codes "00DF 0053") ≡ Some (Listed (run_from 0xDF 0xDF 0x53) None)
code_line = refl

-- A range of code points.
codes_line : line_of Codes (codes "0061..007A @ 0041") ≡ Some
    (Listed (run_from 0x61 0x7A 0x41) None)
codes_line = refl

-- A general file has no default and no second weights.
no_default : line_of Codes (codes "default =") ≡ None
no_default = refl

no_pair : line_of Codes (codes "DF 53 53") ≡ None
no_pair = refl
