-- What is safe under a Unicode collation, it says itself.
use Rattle.std.proofs.Common.{◌↔◌, IsTrue, subst, sym, ap}
use Rattle.mc_order.specs.Meaning.{IsSafe}
use Rattle.mc_book.specs.Any.{any_meaning}
use Rattle.mc_book.proofs.any_collation.AnyCollationCollation.safe.Goals as goal

pub returns-in-Uca : goal.returns-in-Uca
returns-in-Uca c =
    subst (λ meaning. IsTrue c.safe-in-Uca.result ↔ IsSafe meaning c.args.c) (sym (ap any_meaning c.in-Uca.is)) c.safe-in-Uca.ensures
