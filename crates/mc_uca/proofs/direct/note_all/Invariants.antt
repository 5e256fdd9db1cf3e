use Rattle.std.proofs.Common.{◌≡◌, ℕ, length}
use Rattle.mc_charset.specs.declared.charset.Charset.{Charset}
use Rattle.mc_uca.specs.Direct.{direct_at, IsDirect}
use Rattle.mc_uca.proofs.direct.note_all.Given as goal

abbrev pub invariant-loop-code : goal.invariant-loop-code
invariant-loop-code l = record {
  count : length l.direct.items ≡ l.code;
  noted : (set : Charset) (code : ℕ) →
      IsDirect set l.fn.kind l.fn.keys l.fn.level code (direct_at l.direct.items code);
}
