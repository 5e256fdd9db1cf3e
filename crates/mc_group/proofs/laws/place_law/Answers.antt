use Rattle.mc_group.proofs.Places.{place_ties}
use Rattle.mc_group.proofs.Totals.{place_total}
use Rattle.mc_group.proofs.laws.place_law.Goals as goal

pub returns-clause-total : goal.returns-clause-total
returns-clause-total c = λ meaning kinds desc rows.
    place_total c.order_laws.ensures.total meaning kinds desc rows

pub returns-clause-ties : goal.returns-clause-ties
returns-clause-ties c = λ meaning kinds desc rows place other.
    place_ties meaning kinds desc rows place other
