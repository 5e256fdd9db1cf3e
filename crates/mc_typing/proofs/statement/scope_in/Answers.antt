use Rattle.std.proofs.Common.{ℕ, ◌<◌, List, length, subst, sym}
use Rattle.std.proofs.lemmas.Result.{IfOk-weaker}
use Rattle.std.specs.Prelude.{IfSome}
use Rattle.mc_catalog.specs.declared.catalog.TableDecl.{TableDecl}
use Rattle.mc_charset.specs.declared.collation_id.CollId.{CollId}
use Rattle.mc_typing.specs.Statements.{scope_in}
use Rattle.mc_typing.specs.Wanted.{IsWanted}
use Rattle.mc_typing.specs.Whole.{scope_named}
use Rattle.mc_typing.proofs.statement.scope_in.Goals as goal

pub returns-in-Some-clause-is : goal.returns-in-Some-clause-is
returns-in-Some-clause-is c =
    subst (λ o. IsWanted c.scope_named.result (scope_in c.args.c.now c.args.session.now o))
    (sym c.in-Some.is)
    (subst (λ (n : List ℕ). IsWanted c.scope_named.result
    (scope_named c.args.c.now.tables c.args.session.now.connection n)) c.as_slice-in-Some.ensures
    (subst (λ (ts : List TableDecl). IsWanted c.scope_named.result
    (scope_named ts c.args.session.now.connection c.as_slice-in-Some.result.now)) c.as_slice.ensures
    c.scope_named.ensures.is))

pub returns-in-Some-clause-scope : goal.returns-in-Some-clause-scope
returns-in-Some-clause-scope c = IfOk-weaker c.scope_named.result _ _ (λ s h. record {
  lawful = c.requires.lawful;
  table = subst (λ (ts : List TableDecl). IfSome s.table
      (λ place. place < length ts)) c.as_slice.ensures h.0;
  connection = subst (λ (id : CollId). id.0 < length c.args.c.now.collations)
      (sym h.1) c.requires.connection;
}) c.scope_named.ensures.scope
