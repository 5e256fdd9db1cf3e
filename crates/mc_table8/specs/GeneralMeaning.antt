-- What a general collation means: MySQL 8.0 manual, 10.10.1, and 10.8.5 on trailing spaces.
use Rattle.std.specs.Prelude.{ℕ, ◌+◌, IsTrue, List, [], map}
use Rattle.mc_charset.specs.declared.charset.Charset.{Charset}
use Rattle.mc_charset.specs.Names.{is_unicode_set}
use Rattle.mc_order.specs.declared.pad.Pad.TheVariants.{PadSpace}
use Rattle.mc_order.specs.Meaning.{Meaning}
use Rattle.mc_table8.specs.General.{CodeTable, code_weight}

-- One weight a character, the table's plus 1; one level, no contractions, texts padded with spaces.
abbrev pub weights_meaning : Charset → List ℕ → Meaning
weights_meaning set weights = record {
  charset = set;
  pad = PadSpace;
  space = code_weight weights 0x20 + 1;
  levels = 1;
  weight_width = 2;
  added = 1;
  level_list = λ level codes. map (λ code. code_weight weights code + 1) codes;
  contractions = [];
  tails = [];
  floor = λ k. k;
}

-- A table means what its weights do.
abbrev pub general_meaning : Charset → CodeTable → Meaning
general_meaning set table = weights_meaning set table.weights

-- A table on a Unicode set.
pub record CodeCollation : Type 0 where
  pub charset : Charset
  pub table : CodeTable
  pub on_unicode : IsTrue (is_unicode_set charset)
