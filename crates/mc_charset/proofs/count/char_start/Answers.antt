use Rattle.std.proofs.Common.{ℕ, sym, subst}
use Rattle.mc_charset.specs.CharStart.{IsCharStart}
use Rattle.mc_charset.proofs.Start.{start_wide}
use Rattle.mc_charset.proofs.count.char_start.Goals as goal

pub returns-in-Some : goal.returns-in-Some
returns-in-Some c =
    let set = c.args.set in
    let text = c.args.text.now in
    let wide = c.in-Some.ensures in
    subst (λ (n : ℕ). IsCharStart set text c.args.k n) (sym c.min.ensures)
    (start_wide set c.in-Some.width c.args.k text wide.2 c.requires.well_formed)
