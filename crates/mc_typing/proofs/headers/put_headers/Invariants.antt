use Rattle.std.proofs.Common.{◌≡◌, ◌++◌, drop, map}
use Rattle.mc_typing.specs.Statements.{header_of}
use Rattle.mc_typing.proofs.headers.put_headers.Given as goal

abbrev pub invariant-loop-item : goal.invariant-loop-item
invariant-loop-item l = l.list ++ map (header_of l.script) (drop l.item-index l.items)
    ≡ l.initial.list ++ map (header_of l.script) l.items
