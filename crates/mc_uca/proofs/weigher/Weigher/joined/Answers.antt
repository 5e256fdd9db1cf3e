use Rattle.std.proofs.Common.{arith}
use Rattle.mc_uca.proofs.PieceFacts.{Laws, alone_by_reach, alone_by_window, joined_by_window}
use Rattle.mc_uca.proofs.weigher.Weigher.joined.Goals as goal

pub returns-then-reach-lt2 : goal.returns-then-reach-lt2
returns-then-reach-lt2 g c =
    let laws : Laws = record {
      is = c.piece_law.ensures.is;
      within = c.piece_law.ensures.within;
      all = c.longest_law.ensures.all;
      longest = c.longest_law.ensures.longest;
      none = c.longest_law.ensures.none;
      step = c.cut_law.ensures.step;
    } in
    let reach = c.at-reach.ensures in
    let lt = c.if-reach-lt2.true in
    alone_by_reach c.args.self.now.charset c.args.self.now.keys c.args.self.now.reach c.args.first _ _
    laws c.keys_law.ensures c.args.self.now.reaches c.requires.heads (omega (arith, reach, lt))

pub returns-in-Some : goal.returns-in-Some
returns-in-Some g c =
    let laws : Laws = record {
      is = c.piece_law.ensures.is;
      within = c.piece_law.ensures.within;
      all = c.longest_law.ensures.all;
      longest = c.longest_law.ensures.longest;
      none = c.longest_law.ensures.none;
      step = c.cut_law.ensures.step;
    } in
    let reach = c.at-reach.ensures in
    let two = c.if-reach-lt2.false in
    let least = c.min.ensures in
    joined_by_window c.args.self.now.charset c.args.self.now.kind c.args.self.now.keys
    c.args.self.now.reach c.args.first _ _ _ _ _ _ _ _ laws c.keys_law.ensures
    c.args.self.now.reaches c.requires.heads (omega (arith, reach, two)) (grind (arith, reach, least))
    c.first_codes-count.ensures.codes (rw c.requires.set at c.first_codes-count.ensures.of_set)
    c.in-Some.ensures c.listed.ensures c.behind_codes.ensures

pub returns-in-None : goal.returns-in-None
returns-in-None g c =
    let laws : Laws = record {
      is = c.piece_law.ensures.is;
      within = c.piece_law.ensures.within;
      all = c.longest_law.ensures.all;
      longest = c.longest_law.ensures.longest;
      none = c.longest_law.ensures.none;
      step = c.cut_law.ensures.step;
    } in
    let reach = c.at-reach.ensures in
    let two = c.if-reach-lt2.false in
    let least = c.min.ensures in
    alone_by_window c.args.self.now.charset c.args.self.now.keys c.args.self.now.reach c.args.first
    _ _ _ _ laws c.keys_law.ensures c.args.self.now.reaches c.requires.heads
    (omega (arith, reach, two)) (grind (arith, reach, least)) c.first_codes-count.ensures.codes
    (rw c.requires.set at c.first_codes-count.ensures.of_set) c.in-None.ensures
