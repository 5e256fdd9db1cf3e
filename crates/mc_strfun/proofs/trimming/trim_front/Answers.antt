use Rattle.std.proofs.Common.{◌≡◌, take, drop, length, List, ℕ, sym, ap, subst, ◌∙◌, arith}
use Rattle.std.proofs.lemmas.Bool.{false≢true}
use Rattle.std.proofs.lemmas.List.{length-drop, length-take}
use Rattle.mc_charset.specs.Chars.{Spells, chars}
use Rattle.mc_strfun.specs.Trimmed.{without_leading}
use Rattle.mc_strfun.proofs.Parts.{rest_behind}
use Rattle.mc_strfun.proofs.Trimmed.{left_all, left_more}
use Rattle.mc_strfun.proofs.trimming.trim_front.Goals as goal

pub loop-at-preserved : goal.loop-at-preserved
loop-at-preserved c =
    let removed = c.args.removed.now in
    let text = c.args.text.now in
    let at = c.loop-at.at in
    let law = c.chars_law.ensures in
    let copy : take (length removed) (drop at text) ≡ removed =
    ap (λ t. take (length removed) t) (sym (rest_behind at text)) ∙ c.begins.ensures.0 c.loop-at-test.true in
    record {
      within = omega (arith, ap (λ x. length x) copy, length-take (length removed) (drop at text), length-drop at text, c.loop-at.invariant.within);
      left = λ set r t. left_more law.fronts law.encodes set removed text at r copy (c.loop-at.invariant.left set r t);
    }

pub returns : goal.returns
returns c set r t =
    let removed = c.args.removed.now in
    let text = c.args.text.now in
    let at = c.loop-at.at in
    let law = c.chars_law.ensures in
    let rest = rest_behind at text in
    let no_copy : take (length removed) (drop at text) ≡ removed → ⊥ =
    λ e. false≢true (sym c.loop-at-test.false ∙ c.begins.ensures.1 (ap (λ x. take (length removed) x) rest ∙ e)) in
    subst (λ (x : List ℕ). Spells set (without_leading (chars set removed) (chars set text)) x) (sym rest)
    (left_all law.encodes set removed text at r no_copy (c.loop-at.invariant.left set r t))
