use Rattle.std.proofs.Common.{List, ℕ, subst, sym}
use Rattle.mc_order.specs.Meaning.{AreCharsOf}
use Rattle.mc_like.proofs.Items.{front_of_set}
use Rattle.mc_like.proofs.pattern.Pattern.literal_prefix.Goals as goal

pub returns-clause-of_set : goal.returns-clause-of_set
returns-clause-of_set c =
    subst (λ (codes : List ℕ). AreCharsOf c.args.self.now.charset codes) (sym c.as_slice.ensures)
    (rw (c.self.inside.is_front, ← c.self.view_is)
    (front_of_set c.self.inside.charset c.self.inside.items c.self.inside.of_set))
