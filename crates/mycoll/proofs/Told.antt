-- A file that could not be read, or is refused, gives nothing that comes of it.
use Rattle.mc_base.proofs.FileOutcomeLemmas.{HasOutcome-and_then}

pub ruleset unread = (HasOutcome-and_then)
