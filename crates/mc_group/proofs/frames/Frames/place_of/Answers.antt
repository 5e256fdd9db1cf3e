use Rattle.std.proofs.Common.{map, ap, ◌∙◌}
use Rattle.std.specs.List.{position_or_len}
use Rattle.std.specs.Str.{bytes_eq}
use Rattle.indexmap.specs.IndexSet.{insert_key}
use Rattle.mc_group.proofs.GroupNumbers.{insert_key-map, place-map}
use Rattle.mc_group.proofs.frames.Frames.place_of.Goals as goal

pub returns-clause-place : goal.returns-clause-place
returns-clause-place c =
    c.in_ok-i.ensures.index
    ∙ place-map (λ frame. frame.items) bytes_eq c.self.inside.set.keys c.args.frame
    ∙ ap (position_or_len (bytes_eq c.args.frame.items)) c.self.view_is

pub returns-clause-added : goal.returns-clause-added
returns-clause-added c =
    ap (map (λ frame. frame.items)) c.in_ok-i.ensures.keys
    ∙ insert_key-map (λ frame. frame.items) bytes_eq c.self.inside.set.keys c.args.frame
    ∙ ap (λ frames. insert_key bytes_eq frames c.args.frame.items) c.self.view_is
