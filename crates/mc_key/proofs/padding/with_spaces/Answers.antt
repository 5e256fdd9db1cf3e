use Rattle.std.proofs.Common.{◌≡◌, List, ℕ, [], ◌∷◌, ◌++◌, sym, ap, ◌∙◌, subst}
use Rattle.std.specs.List.{repeat}
use Rattle.mc_charset.specs.Chars.{Spells, chars}
use Rattle.mc_key.specs.WeightString.{space_code}
use Rattle.mc_key.proofs.Copies.{repeated_spelling}
use Rattle.mc_key.proofs.padding.with_spaces.Goals as goal

pub returns : goal.returns
returns c =
    let set = c.args.set in
    let text = c.args.text.now in
    let space = c.space_in.result.now in
    let spaces = repeat c.args.count (space_code ∷ []) in
    let is : c.push_copies.new.out ≡ text ++ repeat c.args.count space =
    c.in_ok-push_copies.ensures ∙ ap (λ t. t ++ repeat c.args.count space) c.in_ok-longer.ensures in
    subst (λ (longer : List ℕ). Spells set (chars set text ++ spaces) longer) (sym is)
    (c.chars_law.ensures.joins set (chars set text) spaces text (repeat c.args.count space)
    (c.chars_law.ensures.encodes set text c.requires)
    (repeated_spelling set space_code c.args.count space c.space_in.ensures.spelled))
