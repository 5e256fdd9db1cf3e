use Rattle.std.proofs.Common.{◌≡◌, IfOk, sym, subst}
use Rattle.mc_eval.specs.Node.{Place, place}
use Rattle.mc_eval.specs.declared.forms.Form.TheVariants.{Compared, Matched}
use Rattle.mc_eval.specs.declared.truth.Truth.{Truth}
use Rattle.mc_eval.proofs.ReadyForms.{comparison_in_book, comparison_ready, comparison_value}
use Rattle.mc_eval.proofs.ReadyForms.{match_in_book, match_likes, match_ready, match_value}
use Rattle.mc_eval.proofs.prepared.Prepared.truth.Goals as goal

pub truth-requires-clause-in_book : goal.truth-requires-clause-in_book
truth-requires-clause-in_book g c =
    let it = c.in-Compared.it in
    let inside = c.in-Compared.is in
    let view = c.self.view_is in
    let is : c.args.self.now.form ≡ Compared it = cc in
    let meaning = g.B.Book.meaning c.args.book.now in
    comparison_in_book (g.B.Book.count c.args.book.now) meaning c.args.self.now.expr it
    (comparison_ready meaning c.args.self.now it is c.requires.ready) c.requires.fits

pub truth-requires-in-Matched-clause-in_book : goal.truth-requires-in-Matched-clause-in_book
truth-requires-in-Matched-clause-in_book g c =
    let it = c.in-Matched.it in
    let inside = c.in-Matched.is in
    let view = c.self.view_is in
    let is : c.args.self.now.form ≡ Matched it = cc in
    let meaning = g.B.Book.meaning c.args.book.now in
    match_in_book (g.B.Book.count c.args.book.now) meaning c.args.self.now.expr it
    (match_ready meaning c.args.self.now it is c.requires.ready) c.requires.fits

pub returns-in-Compared-clause-told : goal.returns-in-Compared-clause-told
returns-in-Compared-clause-told g c =
    let it = c.in-Compared.it in
    let inside = c.in-Compared.is in
    let view = c.self.view_is in
    let is : c.args.self.now.form ≡ Compared it = cc in
    let meaning = g.B.Book.meaning c.args.book.now in
    let p : Place = place c.args.row.now c.args.aggregates.now meaning in
    let ready = comparison_ready meaning c.args.self.now it is c.requires.ready in
    subst (λ (t : Truth). IfOk c.truth.result (λ found. found ≡ t))
    (sym (comparison_value p c.args.self.now.expr it ready))
    (c.truth.ensures ready.set ready.text ready.kept)

pub returns-in-Matched-clause-told : goal.returns-in-Matched-clause-told
returns-in-Matched-clause-told g c =
    let it = c.in-Matched.it in
    let inside = c.in-Matched.is in
    let view = c.self.view_is in
    let is : c.args.self.now.form ≡ Matched it = cc in
    let meaning = g.B.Book.meaning c.args.book.now in
    let p : Place = place c.args.row.now c.args.aggregates.now meaning in
    let ready = match_ready meaning c.args.self.now it is c.requires.ready in
    subst (λ (t : Truth). IfOk c.truth-in-Matched.result (λ found. found ≡ t))
    (sym (match_value p c.args.self.now.expr it ready))
    (c.truth-in-Matched.ensures.told ready.set ready.text ready.escape ready.items)

pub returns-in-Matched-clause-work : goal.returns-in-Matched-clause-work
returns-in-Matched-clause-work g c =
    let it = c.in-Matched.it in
    let inside = c.in-Matched.is in
    let view = c.self.view_is in
    let is : c.args.self.now.form ≡ Matched it = cc in
    let meaning = g.B.Book.meaning c.args.book.now in
    let ready = match_ready meaning c.args.self.now it is c.requires.ready in
    record {
      still = λ none. absurd (match_likes meaning c.args.self.now.expr it ready none);
      later = c.truth-in-Matched.ensures.later;
    }
