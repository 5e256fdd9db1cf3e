use Rattle.std.proofs.Common.{refl, sym, ◌∙◌, inl, inr, arith}
use Rattle.mc_order.proofs.Boundary.{at_known}
use Rattle.mc_order.proofs.SharedStart.{begins_at}
use Rattle.mc_order.proofs.shared.is_boundary.Goals as goal

pub returns-then-at-eq0-clause-boundary : goal.returns-then-at-eq0-clause-boundary
returns-then-at-eq0-clause-boundary c = (
  λ _. at_known c.args.charset c.requires.well_formed.0 c.args.text.now c.args.at
      c.requires.well_formed.1 c.requires.within (inl c.if-at-eq0.true),
  λ _. refl,
)

pub returns-then-at-text-clause-boundary : goal.returns-then-at-text-clause-boundary
returns-then-at-text-clause-boundary c = (
  λ _. at_known c.args.charset c.requires.well_formed.0 c.args.text.now c.args.at
      c.requires.well_formed.1 c.requires.within (inr (inl c.if-at-text.true)),
  λ _. refl,
)

pub returns-clause-boundary : goal.returns-clause-boundary
returns-clause-boundary c = (
  λ begins. at_known c.args.charset c.requires.well_formed.0 c.args.text.now c.args.at
      c.requires.well_formed.1 c.requires.within (inr (inr (sym c.may_begin.ensures ∙ begins))),
  λ boundary. c.may_begin.ensures
      ∙ begins_at c.args.charset c.args.text.now c.args.at boundary
      (let other = c.if-at-text.false in let within = c.requires.within in omega arith),
)
