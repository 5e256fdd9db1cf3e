use Rattle.std.proofs.Common.{◌≡◌, ◌+◌, ◌-◌, ℕ, ◌++◌, take, drop, length, refl, sym, ap, subst, ◌∙◌, arith, length-append}
use Rattle.std.proofs.lemmas.List.{length-drop}
use Rattle.std.proofs.Math.Seq.{drop-length}
use Rattle.mc_charset.specs.Chars.{chars, IsWellFormed}
use Rattle.mc_strfun.specs.Joins.{spelled_within}
use Rattle.mc_strfun.proofs.Paddings.{chars_filled}
use Rattle.mc_strfun.proofs.Parts.{rest_behind}
use Rattle.mc_strfun.proofs.Replaced.{IsBuilt, after_run, built_all, built_long, built_more, built_over, copied, copy_behind, replaced_is}
use Rattle.mc_strfun.proofs.replacement.replace_each.Goals as goal

pub returns-then-not-branch : goal.returns-then-not-branch
returns-then-not-branch c =
    let set = c.args.set in
    let text = c.args.text.now in
    let from = c.args.from.now in
    let to = c.args.to.now in
    let law = c.chars_law.ensures in
    let at = c.loop-out.at in
    let out = c.loop-out.out in
    let run = c.run_len-run.result in
    let inv = c.loop-out.invariant in
    let its = c.run_len-run.ensures in
    let from_spelled = law.encodes set from c.requires.from in
    let to_spelled = law.encodes set to c.requires.to in
    let filled = chars_filled set (chars set from) from from_spelled c.requires.filled in
    let rest = rest_behind at text in
    let slice = take (length text - at) (drop at text) in
    let bytes = take (at + run - at) (drop at text) in
    let same : bytes ≡ take run (drop at text) = ap (λ n. take n (drop at text)) (omega arith) in
    let after = after_run set (chars set from) (chars set to) text at run slice bytes out (out ++ bytes) rest same inv.within its.within its.well_formed its.kept refl inv.built in
    built_over law.encodes set (chars set from) (chars set to) to text (at + run) (out ++ bytes) law.joins to_spelled after.well_formed after.built
    (omega (arith, c.in_ok-push_within.ensures.long c.if-not-branch.true, length-append out bytes))
    ∙ ap (λ codes. spelled_within set codes) (sym (replaced_is (chars set from) (chars set to) (chars set text) filled))

pub returns-then-at-run : goal.returns-then-at-run
returns-then-at-run c =
    let set = c.args.set in
    let text = c.args.text.now in
    let from = c.args.from.now in
    let to = c.args.to.now in
    let law = c.chars_law.ensures in
    let at = c.loop-out.at in
    let out = c.loop-out.out in
    let run = c.run_len-run.result in
    let inv = c.loop-out.invariant in
    let its = c.run_len-run.ensures in
    let from_spelled = law.encodes set from c.requires.from in
    let to_spelled = law.encodes set to c.requires.to in
    let filled = chars_filled set (chars set from) from from_spelled c.requires.filled in
    let rest = rest_behind at text in
    let slice = take (length text - at) (drop at text) in
    let bytes = take (at + run - at) (drop at text) in
    let same : bytes ≡ take run (drop at text) = ap (λ n. take n (drop at text)) (omega arith) in
    let pushed = c.in_ok-push_within.ensures.pushed c.if-not-branch.false in
    let after = after_run set (chars set from) (chars set to) text at run slice bytes out c.push_within.new.out rest same inv.within its.within its.well_formed its.kept pushed.0 inv.built in
    let nothing = ap (λ n. drop n text) c.if-at-run.true ∙ drop-length text in
    built_all set (chars set from) (chars set to) text (at + run) c.push_within.new.out nothing pushed.1 after.built
    ∙ ap (λ codes. spelled_within set codes) (sym (replaced_is (chars set from) (chars set to) (chars set text) filled))

pub returns-then-not-branch-2 : goal.returns-then-not-branch-2
returns-then-not-branch-2 c =
    let set = c.args.set in
    let text = c.args.text.now in
    let from = c.args.from.now in
    let to = c.args.to.now in
    let law = c.chars_law.ensures in
    let at = c.loop-out.at in
    let out = c.loop-out.out in
    let run = c.run_len-run.result in
    let inv = c.loop-out.invariant in
    let its = c.run_len-run.ensures in
    let from_spelled = law.encodes set from c.requires.from in
    let to_spelled = law.encodes set to c.requires.to in
    let filled = chars_filled set (chars set from) from from_spelled c.requires.filled in
    let rest = rest_behind at text in
    let slice = take (length text - at) (drop at text) in
    let bytes = take (at + run - at) (drop at text) in
    let same : bytes ≡ take run (drop at text) = ap (λ n. take n (drop at text)) (omega arith) in
    let pushed = c.in_ok-push_within.ensures.pushed c.if-not-branch.false in
    let after = after_run set (chars set from) (chars set to) text at run slice bytes out c.push_within.new.out rest same inv.within its.within its.well_formed its.kept pushed.0 inv.built in
    let other : run ≡ length slice → ⊥ = λ e. omega (arith, e, ap (λ t. length t) rest, length-drop at text, inv.within, c.if-at-run.false) in
    let copy = copy_behind from text slice at run rest (its.copy other) in
    let piece = copied set (chars set from) (chars set to) to from text (at + run) law.fronts filled from_spelled to_spelled (law.encodes set (drop (at + run) text) after.well_formed) after.within copy in
    built_long law.joins law.encodes set (chars set from) (chars set to) to text (at + run) (at + run + length from) to c.push_within.new.out to_spelled piece after.built
    (c.in_ok-push_within-2.ensures.long c.if-not-branch-2.true)
    ∙ ap (λ codes. spelled_within set codes) (sym (replaced_is (chars set from) (chars set to) (chars set text) filled))

pub loop-out-preserved : goal.loop-out-preserved
loop-out-preserved c =
    let set = c.args.set in
    let text = c.args.text.now in
    let from = c.args.from.now in
    let to = c.args.to.now in
    let law = c.chars_law.ensures in
    let at = c.loop-out.at in
    let out = c.loop-out.out in
    let run = c.run_len-run.result in
    let inv = c.loop-out.invariant in
    let its = c.run_len-run.ensures in
    let from_spelled = law.encodes set from c.requires.from in
    let to_spelled = law.encodes set to c.requires.to in
    let filled = chars_filled set (chars set from) from from_spelled c.requires.filled in
    let rest = rest_behind at text in
    let slice = take (length text - at) (drop at text) in
    let bytes = take (at + run - at) (drop at text) in
    let same : bytes ≡ take run (drop at text) = ap (λ n. take n (drop at text)) (omega arith) in
    let pushed = c.in_ok-push_within.ensures.pushed c.if-not-branch.false in
    let after = after_run set (chars set from) (chars set to) text at run slice bytes out c.push_within.new.out rest same inv.within its.within its.well_formed its.kept pushed.0 inv.built in
    let other : run ≡ length slice → ⊥ = λ e. omega (arith, e, ap (λ t. length t) rest, length-drop at text, inv.within, c.if-at-run.false) in
    let copy = copy_behind from text slice at run rest (its.copy other) in
    let piece = copied set (chars set from) (chars set to) to from text (at + run) law.fronts filled from_spelled to_spelled (law.encodes set (drop (at + run) text) after.well_formed) after.within copy in
    let more = c.in_ok-push_within-2.ensures.pushed c.if-not-branch-2.false in
    let place : at + run + length from ≡ at + (run + length from) = omega arith in
    let built = built_more law.joins set (chars set from) (chars set to) text (at + run) (at + run + length from) to c.push_within.new.out c.push_within-in-loop-out.new.out piece more.0 after.built in
    record {
      within = omega (arith, piece.within);
      short = more.1;
      well_formed = subst (λ (k : ℕ). IsWellFormed set (drop k text)) place piece.well_formed;
      built = subst (λ (k : ℕ). IsBuilt set (chars set from) (chars set to) text k c.push_within-in-loop-out.new.out) place built;
    }
