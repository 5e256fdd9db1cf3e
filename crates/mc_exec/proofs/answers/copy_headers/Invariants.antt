-- So far the headers in front of this one.
use Rattle.std.proofs.Common.{◌≡◌, take}
use Rattle.mc_exec.proofs.answers.copy_headers.Given as goal

abbrev pub invariant-loop-header : goal.invariant-loop-header
invariant-loop-header l = l.copies ≡ take l.header-index l.headers
