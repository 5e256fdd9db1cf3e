-- Rows that are rejected without a fault may be left out.
use Rattle.std.proofs.Common.{List, [], ap}
use Rattle.std.specs.Prelude.{option_and_then}
use Rattle.mc_eval.specs.Acceptance.{acceptance}
use Rattle.mc_eval.specs.Node.{place}
use Rattle.mc_values.specs.declared.value.Value.{Value}
use Rattle.mc_exec.specs.FullScan.{finish, full_scan}
use Rattle.mc_exec.specs.Shown.{subjects_of}
use Rattle.mc_exec.proofs.Scans.{kept_left}
use Rattle.mc_exec.proofs.laws.scan_law.Goals as goal

pub returns-clause-kept : goal.returns-clause-kept
returns-clause-kept c = λ meaning q chosen rows h.
    kept_left (λ row. acceptance (place row [] meaning) q.conjuncts) chosen rows h

pub returns-clause-scan : goal.returns-clause-scan
unfolding full_scan
returns-clause-scan c = λ catalog meaning q chosen rows h. ap (option_and_then
    (λ (kept : List (List Value)). option_and_then (finish meaning q)
    (subjects_of catalog meaning q q.grouped kept)))
    (kept_left (λ row. acceptance (place row [] meaning) q.conjuncts) chosen rows h)
