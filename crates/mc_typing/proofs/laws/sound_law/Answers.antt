use Rattle.std.proofs.Common.{◌≡◌, true}
use Rattle.mc_typing.specs.declared.typed.TypedExpr.{TypedExpr}
use Rattle.mc_typing.proofs.AggregatePlaces.{aggregate_places_is}
use Rattle.mc_typing.proofs.SoundInduction.{sound_induction}
use Rattle.mc_typing.proofs.SoundTrees.{sound_all, sound_again, sound_here}
use Rattle.mc_typing.proofs.Ungrouped.{aggregate_types_is, none_in, sound_any}
use Rattle.mc_typing.proofs.laws.sound_law.Goals as goal

pub returns : goal.returns
returns c = record {
  typed = λ cat columns aggregates x h. (sound_here cat columns aggregates x h).0;
  node = λ cat columns aggregates x h. (sound_here cat columns aggregates x h).1;
  parts = sound_all;
  made = sound_again;
  tests = λ cat columns aggregates p step. sound_induction cat columns aggregates
      (λ (x : TypedExpr). p x ≡ true) step;
  types = aggregate_types_is;
  places = aggregate_places_is;
  numbered = λ cat t h. h.places;
  none = none_in;
  any = sound_any;
}
