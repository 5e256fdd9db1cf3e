use Rattle.std.proofs.Common.{sym, subst, Bool, ◌↔◌, IsTrue}
use Rattle.mc_convert.specs.Kept.{KeepsEachText}
use Rattle.mc_convert.proofs.KeptTexts.{has_spellings_tells, lossless_tells}
use Rattle.mc_convert.proofs.kept.keeps_bytes.Goals as goal

pub returns : goal.returns
returns c =
    let from = c.args.from in
    let to = c.args.to in
    let encodes = c.chars_law.ensures.encodes in
    record {
      exactly =
          subst (λ (b : Bool). IsTrue b ↔ KeepsEachText from to) (sym c.has_spellings.ensures)
          (has_spellings_tells encodes c.wider_law.ensures.utf8mb4 c.wider_law.ensures.utf16 from to);
      lossless =
          lossless_tells encodes c.wider_law.ensures.utf8mb4 c.wider_law.ensures.utf16 from to
          c.has_spellings.result c.has_spellings.ensures;
    }
