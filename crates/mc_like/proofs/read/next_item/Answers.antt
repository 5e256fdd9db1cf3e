use Rattle.mc_like.proofs.Items.{reads_plain, reads_escaped, reads_last}
use Rattle.std.proofs.Common.{sym, ◌∙◌, subst}
use Rattle.mc_like.specs.Read.{ReadsItem}
use Rattle.mc_like.proofs.Items.{items_of-no_characters}
use Rattle.mc_like.proofs.read.next_item.Goals as goal

pub returns-in_default : goal.returns-in_default
returns-in_default c = items_of-no_characters c.args.escape _ c.in_default.ensures

pub returns-then-not-is_escape : goal.returns-then-not-is_escape
returns-then-not-is_escape c =
    subst (ReadsItem c.args.set c.args.escape c.args.text.now c.in-Some.rest.now)
    (sym c.item_of.ensures)
    (reads_plain c.args.set c.args.escape c.args.text.now c.in-Some.rest.now c.in-Some.code
    (sym c.is_escape.ensures ∙ c.if-not-is_escape.true) c.in-Some.ensures)

pub returns-in-None : goal.returns-in-None
returns-in-None c =
    reads_last c.args.set c.args.escape c.args.text.now c.in-Some.rest.now c.in-Some.code
    (sym c.is_escape.ensures ∙ c.if-not-is_escape.false) c.in-Some.ensures c.in-None.ensures

pub returns-in-Some-next_code : goal.returns-in-Some-next_code
returns-in-Some-next_code c =
    reads_escaped c.args.set c.args.escape c.args.text.now c.in-Some.rest.now
    c.in-Some-next_code.behind.now c.in-Some.code c.in-Some-next_code.literal
    (sym c.is_escape.ensures ∙ c.if-not-is_escape.false) c.in-Some.ensures
    c.in-Some-next_code.ensures
