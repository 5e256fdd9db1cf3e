-- The text so far and the rest of the file are the rest that was there at first.
use Rattle.std.proofs.Common.{◌≡◌, ◌<◌, ◌≤◌, ◌-◌, ◌++◌, IsTrue, IfSome, length}
use Rattle.mc_base.proofs.whole.read_rest.Given as goal

abbrev pub invariant-loop-text : goal.invariant-loop-text
invariant-loop-text g l =
    let contents = g.F.Files.contents in
    let place = g.F.Files.place in
    record {
      kept : contents l.files ≡ contents l.fn.files;
      later : g.F.Files.faults l.fn.files ≤ g.F.Files.faults l.files;
      opened : IsTrue (g.F.Files.is_open l.files);
      room : 0 < length l.buffer;
      within : length l.text ≤ l.limit;
      told : IfSome (contents l.fn.files) (λ _. l.text ++ place l.files ≡ place l.fn.files);
    }

abbrev pub decreases-loop-text : goal.decreases-loop-text
decreases-loop-text g l = l.limit - length l.text
