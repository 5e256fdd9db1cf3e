-- So far the indexes of the tables in front of this one.
use Rattle.std.proofs.Common.{◌≤◌, ◌+◌}
use Rattle.mc_gather.specs.Building.{AreBuilt, fetches_before}
use Rattle.mc_gather.proofs.indexes.put_all_indexes.Given as goal

abbrev pub invariant-loop-place : goal.invariant-loop-place
invariant-loop-place g l =
    AreBuilt (g.B.Book.meaning l.book) l.c l.rows l.place l.held
    × (l.initial.steps ≤ l.steps) × (l.steps ≤ l.initial.steps + fetches_before l.c l.rows l.place)
