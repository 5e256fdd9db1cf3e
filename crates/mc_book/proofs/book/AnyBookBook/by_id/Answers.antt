-- The collation of a number has the meaning of that number.
use Rattle.std.proofs.Common.{ap, get_or, ◌∙◌}
use Rattle.mc_book.proofs.BookLemmas.{meaning_is}
use Rattle.mc_book.proofs.book.AnyBookBook.by_id.Goals as goal

pub returns : goal.returns
returns c =
    let found = c.index-as_slice-id.result in
    meaning_is c.args.self.now c.args.id.0 found c.requires
    (c.index-as_slice-id.is ∙ ap (λ all. get_or all c.args.id.0 found) (c.as_slice.ensures ∙ c.self.view_is))
