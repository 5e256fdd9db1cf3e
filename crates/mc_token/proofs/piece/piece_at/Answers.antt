use Rattle.std.proofs.Common.{◌-◌, drop, get_or, length, ap, ◌∙◌, arith}
use Rattle.std.proofs.lemmas.List.{take_all, length-drop, get_or-drop, drop-drop}
use Rattle.mc_token.specs.Tokens.{piece_of}
use Rattle.mc_token.proofs.Lexing.{means-by}
use Rattle.mc_token.proofs.piece.piece_at.Goals as goal

-- The slice from the place on is all that the script has there.
pub returns-clause-means : goal.returns-clause-means
returns-clause-means c =
    let script = c.args.script.now in
    let at = c.args.at in
    let room = c.args.end - at in
    let count = length-drop at script in
    let whole = take_all (length script - at) (drop at script) (omega (arith, count)) in
    let first = get_or-drop at script 0 0 ∙ ap (λ n. get_or script n 0) (omega arith) in
    let behind = drop-drop 1 at script ∙ ap (λ n. drop n script) (omega arith) in
    means-by c.piece_of.result c.args.end at script c.requires.before (omega (arith, c.requires.before, c.requires.within))
    (c.piece_of.ensures.value ∙ ap (λ l. piece_of room (get_or l 0 0) (drop 1 l)) whole
    ∙ ap (λ b. piece_of room b (drop 1 (drop at script))) first
    ∙ ap (piece_of room (get_or script at 0)) behind) c.piece_of.ensures.room
