use Rattle.mc_eval.proofs.SoundFits.{Known, all_fit, sound_fits}
use Rattle.mc_eval.proofs.Types.{is_of_type}
use Rattle.mc_eval.proofs.ValueTypes.{value_type}
use Rattle.mc_eval.proofs.laws.evaluation_law.Goals as goal

pub returns : goal.returns
returns c =
    let known : Known = record {
      spelled = c.chars_law.ensures.tells;
      typed = c.sound_law.ensures.typed;
      node = c.sound_law.ensures.node;
      parts = c.sound_law.ensures.parts;
    } in
    record {
      fits = sound_fits known;
      all_fit = all_fit known;
      ty = value_type known;
      of_type = is_of_type;
    }
