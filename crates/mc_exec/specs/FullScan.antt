-- The rows that a statement shows: those of a scan of all rows. MySQL 8.0 manual, 13.2.10.
use Rattle.std.specs.Prelude.{ℕ, Bool, true, false, List, [], Option, Some, None, map, take, drop}
use Rattle.std.specs.Prelude.{option_and_then, option_map}
use Rattle.std.specs.Ordering.{on}
use Rattle.mc_catalog.specs.declared.catalog.Catalog.{Catalog}
use Rattle.mc_group.specs.Groups.{firsts, same_row}
use Rattle.mc_order.specs.Meaning.{Meaning}
use Rattle.mc_typing.specs.declared.typed.Typed.{Typed}
use Rattle.mc_values.specs.declared.answer.Answer.{Answer}
use Rattle.mc_values.specs.declared.value.Value.{Value}
use Rattle.mc_eval.specs.Acceptance.{acceptance}
use Rattle.mc_eval.specs.Node.{place}
use Rattle.mc_exec.specs.Given.{Subject, all_of}
use Rattle.mc_exec.specs.Grouped.{value_kinds}
use Rattle.mc_exec.specs.Kept.{kept}
use Rattle.mc_exec.specs.Ordered.{ordered}
use Rattle.mc_exec.specs.Shown.{Line, line_in, subjects_of}
use Rattle.mc_exec.specs.Source.{source}

-- The rows that the conjuncts of WHERE accept.
abbrev pub kept_rows : (ℕ → Meaning) → Typed → List (List Value) → Option (List (List Value))
kept_rows meaning q rows = kept (λ row. acceptance (place row [] meaning) q.conjuncts) rows

-- DISTINCT: the lines whose items no earlier line has.
abbrev pub distinct : (ℕ → Meaning) → Typed → Bool → List Line → List Line
distinct meaning q true lines =
    firsts (on (λ line. line.items) (same_row meaning (value_kinds q.items))) lines
distinct meaning q false lines = lines

-- LIMIT: the offset is passed over, and so many are taken.
abbrev pub limited : {A : Type 0} → Option (ℕ × ℕ) → List A → List A
limited None rows = rows
limited (Some limit) rows = take limit.1 (drop limit.0 rows)

-- The items of lines in the order of their keys, within the limit.
abbrev pub arranged : (ℕ → Meaning) → Typed → List Line → List (List Value)
arranged meaning q lines = limited q.limit
    (ordered meaning q.orders (map (λ line. line.keys) lines) (map (λ line. line.items) lines))

-- What is shown of subjects; none where an item or a key of one is a fault.
abbrev pub finish : (ℕ → Meaning) → Typed → List Subject → Option (List (List Value))
finish meaning q subjects =
    option_map (λ lines. arranged meaning q (distinct meaning q q.distinct lines))
    (all_of (line_in meaning q) subjects)

-- The rows that a statement shows of the rows that it reads; none where a number that they need is
-- outside 64 bits.
unfoldable pub full_scan : Catalog → (ℕ → Meaning) → Typed → List (List Value)
    → Option (List (List Value))
full_scan c meaning q rows = option_and_then
    (λ kept. option_and_then (finish meaning q) (subjects_of c meaning q q.grouped kept))
    (kept_rows meaning q rows)

-- What answers a statement over the rows of all tables: its headers, and the rows that it shows.
abbrev pub answer : Catalog → (ℕ → Meaning) → List (List (List Value)) → Typed → Option Answer
answer c meaning rows q = option_map (λ shown. record { header = q.header; rows = shown })
    (full_scan c meaning q (source rows q.table))
