use Rattle.std.proofs.Common.{◌≡◌, Bool, true, false, not, refl, sym, ◌∙◌}
use Rattle.std.specs.Bool.{OnTrue}
use Rattle.mc_uca.specs.Weighing.{set_contractions}
use Rattle.mc_uca.proofs.InnerFacts.{fresh_unmarked, fresh_none}
use Rattle.mc_uca.proofs.weigher.Weigher.is_fresh.Goals as goal

on_not : (marked : Bool) (P : Type 0) → (marked ≡ false → P) → OnTrue (not marked) P
on_not true P h = tt
on_not false P h = h refl

pub returns-in-Char : goal.returns-in-Char
returns-in-Char g c =
    let self = c.args.self.now in
    on_not c.at.result _ (λ unmarked.
    fresh_unmarked self.charset self.keys.entries self.inner c.in-Char.code _ _
    c.in-Char.ensures.heads.0 self.inners (sym c.at.ensures ∙ unmarked))

pub returns-in-End : goal.returns-in-End
returns-in-End g c =
    fresh_none (set_contractions c.args.self.now.charset c.args.self.now.keys.entries) _
    c.in-End.ensures.heads.0

pub returns-in-Bad : goal.returns-in-Bad
returns-in-Bad g c =
    fresh_none (set_contractions c.args.self.now.charset c.args.self.now.keys.entries) _
    c.in-Bad.ensures.heads.0
