-- What is taken is new, or repeats an earlier line.
use Rattle.mc_table8.specs.Formats.{greatest_of}
use Rattle.mc_table8.proofs.ListingLemmas.{added_rest, added_listed, sound_last}
use Rattle.mc_table8.proofs.cells.Cells.add.Goals as goal

pub returns-in-Rest : goal.returns-in-Rest
returns-in-Rest c = λ lines h.
    added_rest (greatest_of c.args.format) c.args.self.now.cells.items c.args.self.now.rest lines c.args.line c.in-Rest.is h

pub returns-in-Listed : goal.returns-in-Listed
returns-in-Listed c = λ lines h.
    added_listed (greatest_of c.args.format) c.args.self.now.cells.items c.fill.new.self.cells.items c.args.self.now.rest
    c.fill.new.self.rest lines c.args.line c.in-Listed.run' c.in-Listed.second c.fill.result c.in-Listed.is
    (sound_last c.args.format c.args.line c.in-Listed.run' c.in-Listed.second c.in-Listed.is c.requires.sound)
    c.fill.ensures.filled c.fill.ensures.taken c.fill.ensures.default h
