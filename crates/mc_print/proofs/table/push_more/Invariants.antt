-- The values so far are appended, a TAB before each.
use Rattle.std.proofs.Common.{◌≡◌, ◌++◌, take}
use Rattle.std.specs.List.{flat_map}
use Rattle.mc_print.specs.Cells.{cell}
use Rattle.mc_print.specs.Lines.{behind_tab}
use Rattle.mc_print.proofs.table.push_more.Given as goal

abbrev pub invariant-loop-value : goal.invariant-loop-value
invariant-loop-value l =
    l.out ≡ l.fn.out ++ flat_map (behind_tab cell) (take l.value-index l.values)
