use Rattle.std.proofs.Common.{◌≡◌, ◌∷◌, IsTrue, true, false, refl, ap, ◌∙◌, subst, arith}
use Rattle.std.proofs.lemmas.List.Elements.{All-head, All-rest}
use Rattle.mc_charset.specs.declared.charset.Charset.{Charset}
use Rattle.mc_charset.specs.Chars.{chars}
use Rattle.mc_order.specs.Meaning.{IsCharOf}
use Rattle.mc_like.specs.Items.{literal_count}
use Rattle.mc_like.specs.Pattern.{AreOfSet, is_of_set}
use Rattle.mc_like.proofs.Counts.{literal_count-any, literal_count-cons, literal_count-none}
use Rattle.mc_like.proofs.Counts.{at_least_more}
use Rattle.mc_like.proofs.Items.{is_char, no_items}
use Rattle.mc_like.proofs.Passes.{at_any, at_text_end, at_misfit, at_one_more, at_items_end}
use Rattle.mc_like.proofs.Passes.{at_both_ends}
use Rattle.mc_like.proofs.fit.fit_front.Goals as goal

pub returns-in-Any-clause-fit : goal.returns-in-Any-clause-fit
returns-in-Any-clause-fit g c =
    at_any (g.C.Collation.meaning c.args.collation.now) c.args.items.now c.loop-item.left.now
    c.in-Some.more.now (chars g.E.Encoding.set c.args.text.now)
    (chars g.E.Encoding.set c.loop-item.rest.now) c.in-Some.item.now c.loop-item.invariant.0
    c.in-Some.ensures.cases.0 c.in-Any.is

pub returns-in-Any-clause-ticks : goal.returns-in-Any-clause-ticks
returns-in-Any-clause-ticks g c =
    let cases = c.in-Some.ensures.cases in
    let more = c.in-Some.more.now in
    let count = ap literal_count (cases.0 ∙ ap (λ item. item ∷ more) c.in-Any.is)
    ∙ literal_count-any more in (
      omega (arith, c.loop-item.invariant.2, cases.1),
      rw (← count) c.loop-item.invariant.3,
    )

pub returns-in-Any-clause-left_of_set : goal.returns-in-Any-clause-left_of_set
returns-in-Any-clause-left_of_set g c =
    let set = g.E.Encoding.set in
    All-rest (λ item. IsTrue (is_of_set set item)) c.in-Some.item.now c.in-Some.more.now
    c.loop-item.left.now c.in-Some.ensures.cases.0 c.loop-item.invariant.1

pub returns-in_default-first_in : goal.returns-in_default-first_in
returns-in_default-first_in g c = record {
  fit = at_text_end (g.C.Collation.meaning c.args.collation.now) c.args.items.now
      c.loop-item.left.now c.in-Some.more.now (chars g.E.Encoding.set c.args.text.now)
      (chars g.E.Encoding.set c.loop-item.rest.now) c.in-Some.item.now c.loop-item.invariant.0
      c.in-Some.ensures.cases.0 c.in_default-first_in.ensures
      (record { other = c.in_default-item.not-Any });
  ticks = omega (arith, c.loop-item.invariant.2);
  later = c.loop-item.invariant.4;
  left_of_set = tt;
}

pub is_taken-requires : goal.is_taken-requires
is_taken-requires g c =
    let set = g.E.Encoding.set in
    let item = c.in-Some.item.now in
    let first = c.in-Some-first_in.ensures in
    let all : AreOfSet set (item ∷ c.in-Some.more.now) =
    subst (AreOfSet set) c.in-Some.ensures.cases.0 c.loop-item.invariant.1 in
    record {
      of_set = subst (λ (s : Charset). IsTrue (is_of_set s item)) c.requires.same_set
          (All-head (λ i. IsTrue (is_of_set set i)) item c.in-Some.more.now all);
      is_char = subst (λ (s : Charset). IsCharOf s c.in-Some-first_in.code) c.requires.same_set
          (is_char set c.in-Some-first_in.code first.of_set);
    }

pub returns-then-not-is_taken : goal.returns-then-not-is_taken
returns-then-not-is_taken g c = record {
  fit = at_misfit (g.C.Collation.meaning c.args.collation.now) c.args.items.now
      c.loop-item.left.now c.in-Some.more.now (chars g.E.Encoding.set c.args.text.now)
      (chars g.E.Encoding.set c.loop-item.rest.now)
      (chars g.E.Encoding.set c.in-Some-first_in.behind.now) c.in-Some.item.now
      c.in-Some-first_in.code c.loop-item.invariant.0 c.in-Some.ensures.cases.0
      c.in-Some-first_in.ensures.first (record { other = c.in_default-item.not-Any })
      (λ takes. let never : false ≡ true = c.if-not-is_taken.ensures.takes.1 takes in cc);
  ticks = (
    omega (arith, c.loop-item.invariant.2, c.in-Some.ensures.cases.1, c.is_taken.ensures.at_most),
    omega (arith, c.loop-item.invariant.4, c.is_taken.ensures.at_least),
  );
  later = omega (arith, c.loop-item.invariant.4, c.is_taken.ensures.at_least);
  left_of_set = tt;
}

pub loop-item-preserved : goal.loop-item-preserved
loop-item-preserved g c =
    let cases = c.in-Some.ensures.cases in
    let count = ap literal_count cases.0
    ∙ literal_count-cons c.in-Some.item.now c.in-Some.more.now in (
      at_one_more (g.C.Collation.meaning c.args.collation.now) c.args.items.now
          c.loop-item.left.now c.in-Some.more.now (chars g.E.Encoding.set c.args.text.now)
          (chars g.E.Encoding.set c.loop-item.rest.now)
          (chars g.E.Encoding.set c.in-Some-first_in.behind.now) c.in-Some.item.now
          c.in-Some-first_in.code c.loop-item.invariant.0 cases.0
          c.in-Some-first_in.ensures.first (record { other = c.in_default-item.not-Any })
          (c.if-not-is_taken.ensures.takes.0 refl),
      All-rest (λ item. IsTrue (is_of_set g.E.Encoding.set item)) c.in-Some.item.now
          c.in-Some.more.now c.loop-item.left.now cases.0 c.loop-item.invariant.1,
      omega (arith, c.loop-item.invariant.2, cases.1, c.is_taken.ensures.at_most),
      at_least_more _ _ _ _ _ _ _ _ c.loop-item.invariant.3 count c.is_taken.ensures.at_least,
      omega (arith, c.loop-item.invariant.4, c.is_taken.ensures.at_least),
    )

pub returns-in-Some-first_in-2-clause-fit : goal.returns-in-Some-first_in-2-clause-fit
returns-in-Some-first_in-2-clause-fit g c =
    let first = c.in-Some-first_in-2.ensures.first in
    at_items_end (g.C.Collation.meaning c.args.collation.now) c.args.items.now
    c.loop-item.left.now (chars g.E.Encoding.set c.args.text.now)
    (chars g.E.Encoding.set c.loop-item.rest.now) _ _ c.loop-item.invariant.0
    (no_items c.loop-item.left.now c.in_default.ensures.cases) first

pub returns-in-None : goal.returns-in-None
returns-in-None g c =
    let none = no_items c.loop-item.left.now c.in_default.ensures.cases in
    let count = ap literal_count none ∙ literal_count-none in
    record {
      fit = at_both_ends (g.C.Collation.meaning c.args.collation.now) c.args.items.now
          c.loop-item.left.now (chars g.E.Encoding.set c.args.text.now)
          (chars g.E.Encoding.set c.loop-item.rest.now) c.loop-item.invariant.0 none
          c.in-None.ensures;
      ticks = (
        omega (arith, c.loop-item.invariant.2),
        omega (arith, c.loop-item.invariant.3, count),
      );
      later = c.loop-item.invariant.4;
      left_of_set = tt;
    }
