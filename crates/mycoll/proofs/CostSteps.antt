-- What may still be spent, and how one more statement moves it.
use Rattle.std.proofs.Common.{◌≡◌, ℕ, ◌+◌, ◌≤◌, Bool, true, List, [], ◌∷◌, Option, Some, None, IfSome, Result, Ok, Err, refl, sym, ap, subst, ◌∙◌, arith}
use Rattle.std.specs.Prelude.{IsSomeAnd, if◌then◌else◌}
use Rattle.mc_ast.specs.declared.statement.Statement.{Statement}
use Rattle.mc_base.specs.declared.refusal.Refusal.{Refusal}
use Rattle.mc_base.specs.declared.span.Span.{Span}
use Rattle.mc_catalog.specs.declared.catalog.Catalog.{Catalog}
use Rattle.mc_order.specs.Meaning.{Meaning}
use Rattle.mc_token.specs.Statements.{statements}
use Rattle.mc_token.specs.Tokens.{tokens_of}
use Rattle.mc_typing.specs.declared.typed.Typed.{Typed}
use Rattle.mycoll.specs.Answers.{Answered, AreAll, IsAnswer, read_said}
use Rattle.mycoll.specs.Costs.{Cost, Costs, IsCost, IsWithin, compares_of_both, explain_cost, free, plan_cost, read_cost, select_cost, together, tree_cost}
use Rattle.mycoll.specs.Reading.{Reads}
use Rattle.mycoll.specs.World.{World, State, Rows}
use Rattle.mycoll.specs.declared.said.Said.{Said}
use Rattle.mycoll.proofs.OneAnswer.{OneOutcome, one_read}

-- The comparisons made are within a bound, if there is one.
abbrev IsUpTo : Option ℕ → (compared compared' : ℕ) → Type 0
IsUpTo most compared compared' = IfSome most (λ n. compared' ≤ compared + n)

still : (most : Option ℕ) (compared : ℕ) → IsUpTo most compared compared
still None compared = tt
still (Some most) compared = omega arith

-- Nothing was spent.
pub unspent : (cost : Cost) (fetched compared : ℕ) → IsWithin cost fetched fetched compared compared
unspent cost fetched compared = record { fetches = omega arith; compares = still cost.compares compared }

-- What EXPLAIN costs, a statement with EXPLAIN does.
pub explained_within : (c : Catalog) (meaning : ℕ → Meaning) (rows : List Rows) (q : Typed) (fetched compared compared' : ℕ)
    → q.explain ≡ true → IsWithin (explain_cost c meaning rows q) fetched fetched compared compared'
    → IsWithin (plan_cost c meaning rows q) fetched fetched compared compared'
explained_within c meaning rows q fetched compared compared' e h =
    subst (λ (b : Bool). IsWithin (if b then explain_cost c meaning rows q else select_cost c meaning rows q) fetched fetched compared compared')
    (sym e) h

-- Where the whole has a bound on comparisons, the rest has what is left of it.
abbrev AreComparesLeft : (whole rest : Option ℕ) (compared compared' : ℕ) → Type 0
AreComparesLeft whole rest compared compared' =
    IfSome whole (λ most. IsSomeAnd rest (λ more. compared' + more ≤ compared + most))

all_compares : (whole : Option ℕ) (compared : ℕ) → AreComparesLeft whole whole compared compared
all_compares None compared = tt
all_compares (Some most) compared = omega arith

compares_within : (whole rest : Option ℕ) (compared compared' : ℕ)
    → AreComparesLeft whole rest compared compared' → IsUpTo whole compared compared'
compares_within None rest compared compared' h = tt
compares_within (Some most) (Some more) compared compared' h = omega (arith, h)
compares_within (Some most) None compared compared' h = absurd h

compares_spent : (whole own more : Option ℕ) (compared compared' compared'' : ℕ)
    → AreComparesLeft whole (compares_of_both own more) compared compared' → IsUpTo own compared' compared''
    → AreComparesLeft whole more compared compared''
compares_spent None own more compared compared' compared'' h one = tt
compares_spent (Some most) (Some n) (Some more) compared compared' compared'' h one = omega (arith, h, one)
compares_spent (Some most) (Some n) None compared compared' compared'' h one = absurd h
compares_spent (Some most) None more compared compared' compared'' h one = absurd h

-- Whatever the whole may cost, the rest may cost what is left of it.
pub record IsLeft (whole rest : Cost) (fetched fetched' compared compared' : ℕ) : Type 0 where
  pub fetches : fetched' + rest.fetches ≤ fetched + whole.fetches
  pub compares : AreComparesLeft whole.compares rest.compares compared compared'

-- These statements are left of a script in a state, and may cost what is left of the whole.
abbrev pub IsCovered : World → State → List ℕ → State → List Span → (fetched fetched' compared compared' : ℕ) → Type 0
IsCovered w s script left rest fetched fetched' compared compared' =
    (whole : Cost) → Costs w s script (statements script 0) whole
    → (cost : Cost) × Costs w left script rest cost × IsLeft whole cost fetched fetched' compared compared'

-- All is left at first.
pub all_left : (w : World) (s : State) (script : List ℕ) (fetched compared : ℕ)
    → IsCovered w s script s (statements script 0) fetched fetched compared compared
all_left w s script fetched compared = λ whole costs.
    (whole, costs, record { fetches = omega arith; compares = all_compares whole.compares compared })

-- What is left is within the whole.
pub left_within : (whole rest : Cost) (fetched fetched' compared compared' : ℕ)
    → IsLeft whole rest fetched fetched' compared compared' → IsWithin whole fetched fetched' compared compared'
left_within whole rest fetched fetched' compared compared' h = record {
  fetches = omega (arith, h.fetches);
  compares = compares_within whole.compares rest.compares compared compared' h.compares;
}

pub covered_within : (w : World) (s : State) (script : List ℕ) (left : State) (rest : List Span) (fetched fetched' compared compared' : ℕ)
    → IsCovered w s script left rest fetched fetched' compared compared'
    → (cost : Cost) → Costs w s script (statements script 0) cost → IsWithin cost fetched fetched' compared compared'
covered_within w s script left rest fetched fetched' compared compared' h = λ whole costs.
    let more = h whole costs in left_within whole more.0 fetched fetched' compared compared' more.2

-- One statement of those that are left spends within its own cost.
spent_one : (whole own more : Cost) (fetched fetched' fetched'' compared compared' compared'' : ℕ)
    → IsLeft whole (together own more) fetched fetched' compared compared'
    → IsWithin own fetched' fetched'' compared' compared''
    → IsLeft whole more fetched fetched'' compared compared''
spent_one whole own more fetched fetched' fetched'' compared compared' compared'' h one = record {
  fetches = omega (arith, h.fetches, one.fetches);
  compares = compares_spent whole.compares own.compares more.compares compared compared' compared'' h.compares one.compares;
}

-- What one statement spent is within its cost, whatever that is.
abbrev pub IsSpentOnOne : World → State → List ℕ → Span → (fetched fetched' compared compared' : ℕ) → Type 0
IsSpentOnOne w left script statement fetched fetched' compared compared' =
    (cost : Cost) → IsCost w left script statement cost → IsWithin cost fetched fetched' compared compared'

-- One more statement is answered.
pub covered_more : OneOutcome → (w : World) (s : State) (script : List ℕ) (left after : State) (statement : Span) (rest : List Span) (said : Said) (fetched fetched' fetched'' compared compared' compared'' : ℕ)
    → IsCovered w s script left (statement ∷ rest) fetched fetched' compared compared'
    → IsAnswer w left script statement said after
    → IsSpentOnOne w left script statement fetched' fetched'' compared' compared''
    → IsCovered w s script after rest fetched fetched'' compared compared''
covered_more once w s script left after statement rest said fetched fetched' fetched'' compared compared' compared'' h a spent = λ whole costs.
    let more = h whole costs in
    let read = more.1.0 in
    let same : a.read ≡ read = one_read once script statement a.read read a.reads more.1.1 in
    let state : (read_said w left script read).1 ≡ after =
    sym (a.left ∙ ap (λ z. (read_said w left script z).1) same) in (
      more.1.2,
      subst (λ (t : State). Costs w t script rest more.1.2) state more.1.3,
      spent_one whole (read_cost w left script read) more.1.2 fetched fetched' fetched'' compared compared' compared''
          (subst (λ c. IsLeft whole c fetched fetched' compared compared') more.1.4 more.2)
          (spent (read_cost w left script read) (record { read = read; reads = more.1.1; costs = refl })),
    )

-- The next statement spent within the whole, whatever came of it.
pub stopped_within_cost : (w : World) (s : State) (script : List ℕ) (left : State) (statement : Span) (rest : List Span) (fetched fetched' fetched'' compared compared' compared'' : ℕ)
    → IsCovered w s script left (statement ∷ rest) fetched fetched' compared compared'
    → IsSpentOnOne w left script statement fetched' fetched'' compared' compared''
    → (cost : Cost) → Costs w s script (statements script 0) cost → IsWithin cost fetched fetched'' compared compared''
stopped_within_cost w s script left statement rest fetched fetched' fetched'' compared compared' compared'' h spent = λ whole costs.
    let more = h whole costs in
    let own = read_cost w left script more.1.0 in
    left_within whole more.1.2 fetched fetched'' compared compared''
    (spent_one whole own more.1.2 fetched fetched' fetched'' compared compared' compared''
    (subst (λ c. IsLeft whole c fetched fetched' compared compared') more.1.4 more.2)
    (spent own (record { read = more.1.0; reads = more.1.1; costs = refl })))

-- What a tree costs, its statement does.
pub tree_spent : OneOutcome → (w : World) (s : State) (script : List ℕ) (statement : Span) (tree : Statement) (fetched fetched' compared compared' : ℕ)
    → Reads script statement (Ok tree) → IsWithin (tree_cost w s script tree) fetched fetched' compared compared'
    → IsSpentOnOne w s script statement fetched fetched' compared compared'
tree_spent once w s script statement tree fetched fetched' compared compared' reads h = λ cost costs.
    let same : costs.read ≡ Ok tree = one_read once script statement costs.read (Ok tree) costs.reads reads in
    subst (λ c. IsWithin c fetched fetched' compared compared')
    (sym (costs.costs ∙ ap (read_cost w s script) same)) h

-- Statements have at most one cost.
pub costs_once : OneOutcome → (w : World) (s : State) (script : List ℕ) (spans : List Span) (a b : Cost)
    → Costs w s script spans a → Costs w s script spans b → a ≡ b
costs_once once w s script [] a b p q = p ∙ sym q
costs_once once w s script (span ∷ spans) a b p q =
    let same : p.0 ≡ q.0 = one_read once script span p.0 q.0 p.1 q.1 in
    let rest = costs_once once w (read_said w s script p.0).1 script spans p.2 q.2 p.3
    (subst (λ (r : Result Statement Refusal). Costs w (read_said w s script r).1 script spans q.2) (sym same) q.3) in
    p.4 ∙ ap (together (read_cost w s script p.0)) rest
    ∙ ap (λ r. together (read_cost w s script r) q.2) same ∙ sym q.4

-- Statements that are answered have a cost.
answered_cost : (w : World) (s : State) (script : List ℕ) (spans : List Span) (said : List Said) (after : State)
    → Answered w s script spans said after → (cost : Cost) × Costs w s script spans cost
answered_cost w s script [] [] after h = (free, refl)
answered_cost w s script (span ∷ spans) (x ∷ said) after h =
    let rest = answered_cost w h.0 script spans said after h.2 in (
      together (read_cost w s script h.1.read) rest.0,
      (h.1.read, h.1.reads, rest.0, subst (λ (t : State). Costs w t script spans rest.0) h.1.left rest.1, refl),
    )
answered_cost w s script [] (x ∷ said) after h = absurd h
answered_cost w s script (span ∷ spans) [] after h = absurd h

pub cost_of_all : (w : World) (s : State) (script : List ℕ) (said : List Said)
    → AreAll w s script said → (cost : Cost) × Costs w s script (statements script 0) cost
cost_of_all w s script said h = answered_cost w s script (statements script 0) said h.behind h.answered
