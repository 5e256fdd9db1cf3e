use Rattle.std.proofs.Common.{◌≡◌, ◌-◌, ◌+◌, ◌≤◌, List, ℕ, take, drop, length, ◌++◌, refl, ap, subst, ◌∙◌, arith}
use Rattle.std.proofs.lemmas.List.{drop-drop, length-drop, length-take-le}
use Rattle.mc_charset.specs.Chars.{IsWellFormed}
use Rattle.mc_charset.specs.NextChar.{IsFirst, IsNextChar, HeadsChars}
use Rattle.mc_charset.specs.declared.char_at.CharAt.TheVariants.{Char}
use Rattle.mc_strfun.proofs.Backwards.{as_long_again, ended, written_all, written_more}
use Rattle.mc_strfun.proofs.Parts.{rest_behind}
use Rattle.mc_strfun.proofs.reversal.put_backwards.Goals as goal

pub loop-len-preserved : goal.loop-len-preserved
loop-len-preserved c =
    let set = c.args.set in
    let text = c.args.text.now in
    let at = c.loop-len.at in
    let out = c.loop-len.out in
    let code = c.in-Char.code in
    let len = c.in-Char.len in
    let rest = rest_behind at text in
    let first = subst (λ (t : List ℕ). IsFirst set t code len) rest c.in-Char.ensures.first in
    let heads = subst (λ (t : List ℕ). HeadsChars set t (Char code len)) rest c.in-Char.ensures.heads in
    let inside : len ≤ length text - at = omega (arith, first.within, length-drop at text) in
    let bytes : take (at + len - at) (drop at text) ≡ take len (drop at text) = ap (λ n. take n (drop at text)) (omega arith) in
    let put = c.put_at.ensures ∙ ap (λ b. take (length text - at - len) out ++ (b ++ drop (length text - at - len + length b) out)) bytes in
    let byte_len = length-take-le len (drop at text) first.within in
    let inv = c.loop-len.invariant in
    record {
      within = omega (arith, inside, inv.within);
      as_long = as_long_again (length text - at - len) 0 (length text) out (take len (drop at text)) _ put (omega (arith, byte_len, inside, inv.as_long)) inv.as_long;
      well_formed = subst (IsWellFormed set) (drop-drop len at text) (heads.1.0 inv.well_formed);
      spelled = written_more c.chars_law.ensures.joins set text out _ at code len (length text - at - len) inv.within inv.as_long first heads.0 inv.spelled refl put;
    }

pub returns : goal.returns
returns c =
    let set = c.args.set in
    let text = c.args.text.now in
    let at = c.loop-len.at in
    let inv = c.loop-len.invariant in
    let rest = rest_behind at text in
    let next = subst (λ (t : List ℕ). IsNextChar set t c.next_char.result) rest c.next_char.ensures.first in
    let heads = subst (λ (t : List ℕ). HeadsChars set t c.next_char.result) rest c.next_char.ensures.heads in
    let nothing = ended set (drop at text) c.next_char.result inv.well_formed next heads c.in_default.not-Char in
    written_all set text c.loop-len.out at inv.within inv.as_long nothing inv.spelled
