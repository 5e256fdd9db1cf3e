-- Rows without groups, each as it is.
use Rattle.std.proofs.Common.{Bor, List, map, subst, sym, ◌∙◌}
use Rattle.std.specs.Prelude.{All}
use Rattle.mc_values.specs.declared.value.Value.{Value}
use Rattle.mc_exec.specs.Given.{Subject}
use Rattle.mc_exec.specs.Ready.{IsShowable}
use Rattle.mc_exec.specs.Steps.{IsReadable}
use Rattle.mc_exec.proofs.KeyRows.{seen_all}
use Rattle.mc_exec.proofs.SoundParts.{SoundLaws, alone_showable, fit_statement}
use Rattle.mc_exec.proofs.answers.put_ungrouped.Goals as goal

pub put_finished-requires-clause-fit : goal.put_finished-requires-clause-fit
put_finished-requires-clause-fit g c =
    let laws : SoundLaws = record {
      typed = c.sound_law.ensures.typed;
      types = c.evaluation_law.ensures.ty;
      nodes = c.sound_law.ensures.node;
      parts = c.sound_law.ensures.parts;
      those = c.sound_law.ensures.types;
      over_any = c.sound_law.ensures.any;
      fit = c.evaluation_law.ensures.fits;
      of_type = c.evaluation_law.ensures.of_type;
    } in
    fit_statement laws c.args.c.now _ _ c.requires.fits c.args.q.now c.requires.sound

pub put_finished-requires-clause-subjects : goal.put_finished-requires-clause-subjects
put_finished-requires-clause-subjects g c =
    let laws : SoundLaws = record {
      typed = c.sound_law.ensures.typed;
      types = c.evaluation_law.ensures.ty;
      nodes = c.sound_law.ensures.node;
      parts = c.sound_law.ensures.parts;
      those = c.sound_law.ensures.types;
      over_any = c.sound_law.ensures.any;
      fit = c.evaluation_law.ensures.fits;
      of_type = c.evaluation_law.ensures.of_type;
    } in
    let m = g.B.Book.meaning c.args.book.now in
    let q = c.args.q.now in
    subst (λ (l : List Subject). All (IsShowable m q) l)
    (sym (c.as_slice.ensures ∙ c.in-Ok.ensures))
    (alone_showable laws m c.args.c.now _ c.requires.fits q c.requires.sound c.requires.ungrouped
    (map (λ (r : Bor (List Value)). r.now) c.args.rows.now)
    (seen_all (IsReadable c.args.c.now q.table) c.args.rows.now c.requires.rows))
