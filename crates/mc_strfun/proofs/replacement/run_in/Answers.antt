use Rattle.std.proofs.Common.{◌≡◌, ◌+◌, List, ℕ, [], take, drop, length, sym, ap, subst, ◌∙◌}
use Rattle.std.proofs.Math.Seq.{take-add}
use Rattle.std.proofs.lemmas.Bool.{false≢true}
use Rattle.mc_charset.specs.Chars.{chars}
use Rattle.mc_charset.specs.NextChar.{IsFirst, HeadsChars}
use Rattle.mc_charset.specs.declared.char_at.CharAt.TheVariants.{Char}
use Rattle.mc_strfun.proofs.Parts.{rest_behind}
use Rattle.mc_strfun.proofs.Replaced.{IsPiece, built_more, char_piece}
use Rattle.mc_strfun.proofs.replacement.run_in.Goals as goal

pub loop-len-preserved : goal.loop-len-preserved
loop-len-preserved g c =
    let set = g.E.Encoding.set in
    let text = c.args.text.now in
    let from = c.args.from.now in
    let law = c.chars_law.ensures in
    let at = c.loop-len.at in
    let code = c.in-Char.code in
    let len = c.in-Char.len in
    let inv = c.loop-len.invariant in
    let rest = rest_behind at text in
    let first = subst (λ (t : List ℕ). IsFirst set t code len) rest c.in-Char.ensures.first in
    let heads = subst (λ (t : List ℕ). HeadsChars set t (Char code len)) rest c.in-Char.ensures.heads in
    let no_copy : take (length from) (drop at text) ≡ from → ⊥ = λ e. false≢true (sym c.if-begins.false ∙ c.begins.ensures.1 (ap (λ t. take (length from) t) rest ∙ e)) in
    let piece : (to : List ℕ) → IsPiece set (chars set from) to text at (at + len) (take len (drop at text)) =
    λ to. char_piece set (chars set from) to from text at code len (law.encodes set from c.requires.from) (law.encodes set (drop at text) inv.well_formed) inv.within no_copy first heads.0 (heads.1.0 inv.well_formed) in
    let any = piece [] in
    record {
      within = any.within;
      well_formed = any.well_formed;
      kept = λ to. built_more law.joins set (chars set from) to text at (at + len) (take len (drop at text)) (take at text) (take (at + len) text) (piece to) (take-add at len text) (inv.kept to);
    }
