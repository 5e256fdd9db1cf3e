-- What a Unicode collation means: MySQL 8.0 manual, 10.10.1; UTS #10, S3.
use Rattle.std.specs.Prelude.{ℕ, ◌==◌, Bool, true, List, [], ◌∷◌, length, slice_index_or}
use Rattle.std.specs.Prelude.{if◌then◌else◌}
use Rattle.mc_charset.specs.declared.charset.Charset.{Charset}
use Rattle.mc_order.specs.Floor.{weighs}
use Rattle.mc_order.specs.Meaning.{Meaning}
use Rattle.mc_order.specs.Tails.{tails_of}
use Rattle.mc_order.specs.declared.pad.Pad.{Pad}
use Rattle.mc_order.specs.declared.pad.Pad.TheVariants.{PadSpace, NoPad}
use Rattle.mc_allkeys.specs.Table.{ElementTable}
use Rattle.mc_uca.specs.Kind.{pad_of, levels_of}
use Rattle.mc_uca.specs.Weighing.{set_contractions, uca_list}
use Rattle.mc_uca.specs.declared.kind.UcaKind.{UcaKind}

-- the space's weight, the first one of its list, where texts are padded, else 0
abbrev pub space_by : Pad → List ℕ → ℕ
space_by PadSpace list = slice_index_or list 0 0
space_by NoPad list = 0

-- whether the space has one weight, where texts are padded
abbrev pub space_fits : Pad → List ℕ → Bool
space_fits PadSpace list = length list == 1
space_fits NoPad list = true

-- The weights are those of the table itself, one to three levels, with the contractions of the set.
abbrev pub uca_meaning : Charset → UcaKind → ElementTable → Meaning
uca_meaning set kind table = record {
  charset = set;
  pad = pad_of kind;
  space = space_by (pad_of kind) (uca_list set kind table 1 (0x20 ∷ []));
  levels = levels_of kind;
  weight_width = 2;
  added = 0;
  level_list = uca_list set kind table;
  contractions = set_contractions set table.entries;
  tails = tails_of (uca_list set kind table 1) (set_contractions set table.entries);
  floor = λ k. if weighs set (uca_list set kind table 1) (set_contractions set table.entries) then k
      else 0;
}
