-- The row is put into the group of its number, if there is one.
use Rattle.std.proofs.Common.{◌≡◌, ◌<◌, ◌≤◌, Bor, List, ap, arith, get_or, length, map, take, ◌∙◌}
use Rattle.mc_values.specs.declared.value.Value.{Value}
use Rattle.mc_exec.proofs.Parted.{number_more, number_none, parted_count}
use Rattle.mc_exec.proofs.groups.put_numbered.Goals as goal
use Rattle.mc_exec.proofs.groups.put_numbered.Goals.{then-place-len+in_ok-put, else-place-len}

pub loop-i-preserved : goal.loop-i-preserved
loop-i-preserved c =
    let seen = λ (r : Bor (List Value)). r.now in
    let count = length c.args.groups.now in
    let ns = c.args.numbers.now in
    let xs = c.args.rows.now in
    let i = c.loop-i.i in
    let k : i < length xs = c.loop-i-test.true in
    let h : i < length ns = omega (arith, k, c.requires.as_many) in
    let len : length c.loop-i.groups ≡ count =
    ap length c.loop-i.invariant ∙ parted_count count (take i ns) (map seen (take i xs)) in
    elim c.if-place-len.branch [
      | then-place-len+in_ok-put w ↦
          let l : get_or ns i 0 < count =
          omega (arith, w.if-place-len.true, c.len.ensures, len) in
          number_more seen count ns xs i c.index-rows-i.result c.loop-i.groups
          c.if-place-len.groups h k c.index-rows-i.is l c.loop-i.invariant
          (w.groups-is ∙ w.in_ok-put.ensures)
      | else-place-len w ↦
          let l : count ≤ get_or ns i 0 =
          omega (arith, w.if-place-len.false, c.len.ensures, len) in
          w.groups-is ∙ number_none seen count ns xs i c.index-rows-i.result c.loop-i.groups h k
          c.index-rows-i.is l c.loop-i.invariant
    ]
