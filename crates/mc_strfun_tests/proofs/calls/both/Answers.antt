-- Both texts of the list are of the set.
use Rattle.std.proofs.Common.{ℕ, All, List, sym, ◌∙◌, subst}
use Rattle.std.proofs.lemmas.List.Elements.{All-nil, All-push}
use Rattle.mc_charset.specs.Chars.{IsWellFormed}
use Rattle.mc_strfun_tests.proofs.calls.both.Goals as goal

pub returns : goal.returns
returns c =
    let P : List ℕ → Type 0 = IsWellFormed c.args.set in
    let one = subst P (sym (c.in_ok-from_slice.ensures ∙ c.as_slice.ensures)) c.requires.one in
    let other = subst P (sym (c.in_ok-from_slice-2.ensures ∙ c.as_slice-2.ensures)) c.requires.other in
    let none = subst (λ (parts : List (List ℕ)). All P parts) (sym c.new-parts.ensures) (All-nil P) in
    let first = subst (λ (parts : List (List ℕ)). All P parts) (sym c.in_ok-push.ensures.ok)
    (All-push P c.new-parts.result c.in_ok-from_slice.field-0 none one) in
    subst (λ (parts : List (List ℕ)). All P parts) (sym c.in_ok-push-2.ensures.ok)
    (All-push P c.push.new.self c.in_ok-from_slice-2.field-0 first other)
