-- The refusals that statements get apart from those of typing, each a number and a text: MySQL 8.0
-- error reference for 1690; the numbers from 9000 on are this engine's own.
use Rattle.std.specs.Prelude.{ℕ, ◌++◌, codes, decimal}
use Rattle.mc_base.specs.declared.refusal.Refusal.{Refusal}

-- No statement goes on at this byte of the script.
abbrev pub no_reading : ℕ → Refusal
no_reading place = record { number = 9001; text = codes "no reading at byte " ++ decimal place }

-- More than 64 levels at this byte of the script.
abbrev pub too_deep : ℕ → Refusal
too_deep place = record {
  number = 9003;
  text = codes "nested deeper than 64 at byte " ++ decimal place;
}

-- The statement has more tokens than it may have.
abbrev pub too_many_tokens : Refusal
too_many_tokens = record { number = 9004; text = codes "more than 2048 tokens" }

-- A number that the rows ask for is outside 64 bits.
abbrev pub out_of_range : Refusal
out_of_range = record { number = 1690; text = codes "BIGINT value is out of range" }
