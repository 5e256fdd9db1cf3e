-- The list that was searched is the one that the value shows.
use Rattle.std.proofs.Common.{◌≡◌, rules}
use Rattle.mc_base.proofs.Contents.{contents_absent}
use Rattle.mc_base.proofs.mem_files.MemFilesFiles.open.Goals as goal

pub returns-in-None-clause-told : goal.returns-in-None-clause-told
returns-in-None-clause-told c =
    let searched : c.as_slice.result.now ≡ c.args.self.now.files = search rules in
    contents_absent c.args.self.now.files c.args.name.now (rw searched at c.in-None.ensures.first)
