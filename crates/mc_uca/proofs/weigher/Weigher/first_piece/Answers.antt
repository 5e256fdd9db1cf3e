use Rattle.std.proofs.Common.{ap, ◌∙◌}
use Rattle.std.specs.Option.{is_some}
use Rattle.mc_charset.specs.Chars.{spell}
use Rattle.mc_uca.proofs.CodeLemmas.{rest_is, all_behind}
use Rattle.mc_uca.proofs.PieceFacts.{code_joined, code_alone}
use Rattle.mc_uca.specs.Weighing.{is_of_set}
use Rattle.mc_uca.proofs.weigher.Weigher.first_piece.Goals as goal

pub returns-in-Some-clause-piece : goal.returns-in-Some-clause-piece
returns-in-Some-clause-piece c =
    let codes = c.args.codes.now in
    code_joined c.args.self.now.charset c.args.self.now.kind c.args.self.now.keys c.in-Some.len codes
    _ _ _ c.cut_law.ensures.step c.longest_law.ensures.longest
    (c.longest_law.ensures.all c.args.self.now.keys.entries codes) c.requires c.in-Some.ensures
    c.listed.ensures (rest_is codes c.in-Some.len)

pub returns-in-Some-clause-of_set : goal.returns-in-Some-clause-of_set
returns-in-Some-clause-of_set c =
    ap (is_of_set c.args.self.now.charset) (rest_is c.args.codes.now c.in-Some.len)
    ∙ all_behind (λ code. is_some (spell c.args.self.now.charset code)) c.in-Some.len
    c.args.codes.now c.requires

pub returns-in-None-clause-piece : goal.returns-in-None-clause-piece
returns-in-None-clause-piece c =
    let codes = c.args.codes.now in
    code_alone c.args.self.now.charset c.args.self.now.kind c.args.self.now.keys codes
    _ _ c.cut_law.ensures.step c.longest_law.ensures.none
    (c.longest_law.ensures.all c.args.self.now.keys.entries codes) c.requires c.in-None.ensures
    c.in-len1-up.len_at_least c.char_elements.ensures (rest_is codes 1)
