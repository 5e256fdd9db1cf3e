use Rattle.mc_sql.proofs.Completing.{plainly_read}
use Rattle.mc_sql.proofs.completed.places_are_completed.Goals as goal

pub returns : goal.returns
returns c = λ symbols. (
  (plainly_read symbols).forest,
  ((plainly_read symbols).fits, (plainly_read symbols).same_tokens),
)
