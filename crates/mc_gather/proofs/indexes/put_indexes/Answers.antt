use Rattle.std.proofs.Common.{◌∙◌, ap, arith, get_or, length, subst}
use Rattle.std.proofs.lemmas.Grind.{common_steps}
use Rattle.mc_gather.specs.Indexed.{IsIndexOf}
use Rattle.mc_gather.proofs.Built.{zip_more}
use Rattle.mc_gather.proofs.indexes.put_indexes.Goals as goal

pub loop-index-preserved : goal.loop-index-preserved
loop-index-preserved g c = (
  zip_more (IsIndexOf (g.B.Book.meaning c.args.book.now) c.args.declared.now.columns
      c.args.table.now) c.args.declared.now.indexes c.loop-index.index-index c.index-item.result
      c.loop-index.held c.push.new.self c.in_ok-index_of.field-0
      (omega (arith, ap length c.as_slice-index-items.ensures, c.loop-index-test.true))
      (c.index-item.is ∙ ap (λ l. get_or l c.loop-index.index-index c.index-item.result)
      c.as_slice-index-items.ensures)
      c.loop-index.invariant.0
      (subst (λ columns. IsIndexOf (g.B.Book.meaning c.args.book.now) columns c.args.table.now
      c.index-item.result c.in_ok-index_of.field-0) c.as_slice.ensures c.in_ok-index_of.ensures.is)
      c.in_ok-push.ensures.ok,
  omega (arith, c.index_of.ensures.fetched, c.loop-index.invariant.1),
  grind (arith, common_steps, c.index_of.ensures.steps, c.loop-index.invariant.2),
)
