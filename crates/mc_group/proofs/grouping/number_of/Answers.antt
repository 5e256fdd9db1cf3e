use Rattle.std.proofs.Common.{ℕ, List, [], ap, ◌∙◌}
use Rattle.std.specs.List.{position_or_len}
use Rattle.std.specs.Str.{bytes_eq}
use Rattle.std.proofs.lemmas.List.{get_or_default}
use Rattle.mc_group.specs.Frames.{row_frame}
use Rattle.mc_group.proofs.grouping.number_of.Goals as goal

pub returns-clause-number : goal.returns-clause-number
returns-clause-number g c =
    let row = c.index-keys-i.is
    ∙ get_or_default c.args.keys.now c.args.i c.index-keys-i.result [] c.requires.within in
    let frame = c.in_ok-frame.ensures
    ∙ ap (row_frame (g.B.Book.meaning c.args.book.now) c.args.kinds.now)
    (c.as_slice.ensures ∙ row) in
    c.in_ok-number.ensures ∙ c.in_ok-place.ensures.place
    ∙ ap (λ (numbers : List ℕ). position_or_len (bytes_eq numbers) c.args.seen.now) frame
