-- The headers so far stand behind the first one.
use Rattle.std.proofs.Common.{◌≡◌, ◌++◌, take}
use Rattle.std.specs.List.{flat_map}
use Rattle.mc_print.specs.Escapes.{as_written}
use Rattle.mc_print.specs.Lines.{behind_tab}
use Rattle.mc_print.proofs.table.push_header.Given as goal

abbrev pub invariant-loop-name : goal.invariant-loop-name
invariant-loop-name l =
    l.out ≡ l.initial.out ++ flat_map (behind_tab as_written) (take l.name-index l.others)
