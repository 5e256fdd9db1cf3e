-- What is appended for the groups can be shown.
use Rattle.std.proofs.Common.{List, ap, map, subst, sym, ◌∙◌}
use Rattle.std.specs.List.{zip}
use Rattle.std.specs.Prelude.{All}
use Rattle.mc_values.specs.declared.value.Value.{Value}
use Rattle.mc_exec.specs.Given.{Subject}
use Rattle.mc_exec.specs.Ready.{IsShowable}
use Rattle.mc_exec.specs.Shown.{standing}
use Rattle.mc_exec.proofs.grouped.put_stood.Goals as goal

pub put_finished-requires-clause-subjects : goal.put_finished-requires-clause-subjects
put_finished-requires-clause-subjects g c =
    subst (λ (l : List Subject). All (IsShowable (g.B.Book.meaning c.args.book.now) c.args.q.now) l)
    (sym (c.as_slice-in-Ok.ensures ∙ (c.in-Ok.ensures
    ∙ ap (λ (vs : List (List Value)). map (λ it. standing c.args.nulls.now it.0 it.1)
    (zip c.args.groups.now vs)) c.as_slice.ensures))) c.requires.subjects
