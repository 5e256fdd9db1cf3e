use Rattle.std.proofs.Common.{◌≢◌, ℕ, ◌∙◌, ap, subst, sym}
use Rattle.std.specs.List.{All}
use Rattle.mc_key.specs.Keys.{SeenKey}
use Rattle.mc_index.specs.Entries.{rows_of}
use Rattle.mc_index.proofs.Adding.{one_more_held}
use Rattle.mc_index.proofs.builder.IndexBuilder.add.Goals as goal

pub invariant_of-self-2 : goal.invariant_of-self-2
invariant_of-self-2 c =
    one_more_held c.self.inside.pad c.self.inside.space c.self.inside.entries.items
    c.push.new.self.items c.new.result c.args.self.now
    c.self.view_is c.self.invariant
    (ap (λ (k : SeenKey). k.pad) c.new.ensures.key ∙ c.requires.pad)
    (ap (λ (k : SeenKey). k.space) c.new.ensures.key ∙ c.requires.space)
    (subst (λ (r : ℕ). All (λ other. r ≢ other) (rows_of c.args.self.now.entries))
    (sym c.new.ensures.row) c.requires.other)
    c.in_ok-push.ensures.items
