use Rattle.std.proofs.Common.{sym, ◌∙◌, subst}
use Rattle.std.specs.Prelude.{Err}
use Rattle.mc_base.specs.declared.span.Span.{Span}
use Rattle.mc_ast.specs.Parsed.{IsStuckAt}
use Rattle.mc_parse.specs.Outcome.{IsParsed}
use Rattle.mc_parse.specs.declared.fault.ParseFault.{ParseFault}
use Rattle.mc_parse.proofs.Parsed.{whole_at, left_at}
use Rattle.mc_parse.proofs.parser.whole.Goals as goal

pub returns-then-left-eq0 : goal.returns-then-left-eq0
returns-then-left-eq0 c =
    λ tokens end o. whole_at tokens _ _ (sym c.if-left-eq0.true ∙ c.left.ensures) o

pub returns-else-left-eq0 : goal.returns-else-left-eq0
returns-else-left-eq0 c =
    λ tokens end o. subst (λ (f : ParseFault). IsParsed tokens end (Err f)) (sym c.instead.ensures)
    (subst (λ (s : Span). IsStuckAt tokens end s.start) (sym c.span.ensures)
    (left_at tokens _ _ end (λ h. c.if-left-eq0.false (c.left.ensures ∙ h)) o))
