-- What the private parts ask of statements and of what is evaluated; no public clause cites it.
use Rattle.std.specs.Prelude.{◌≡◌, ℕ, ⊤, List, All, Some}
use Rattle.mc_eval.specs.Outcomes.{IsKept}
use Rattle.mc_group.specs.Kinds.{IsInBook, IsKeyRow, IsOfKind}
use Rattle.mc_order.specs.Meaning.{Meaning}
use Rattle.mc_typing.specs.declared.typed.Node.{Node-F, out-Node}
use Rattle.mc_typing.specs.declared.typed.Typed.{Typed}
use Rattle.mc_typing.specs.declared.typed.TypedExpr.{TypedExpr}
use Rattle.mc_typing.specs.declared.typed.TypedOrder.{TypedOrder}
use Rattle.mc_values.specs.declared.value.Value.{Value}
use Rattle.mc_exec.specs.Given.{Subject, alone, keys_in, value_in, values_in}
use Rattle.mc_exec.specs.Grouped.{value_kinds}
use Rattle.mc_exec.specs.Ordered.{kind_of, kinds_of}
use Rattle.mc_exec.specs.Steps.{IsFit}

-- The statement's items and keys can be evaluated with so many collations, and compared by them.
pub record IsFitStatement (count : ℕ) (q : Typed) : Type 0 where
  pub items : All (IsFit count) q.items
  pub orders : All (λ key. IsFit count key.expr) q.orders
  pub item_kinds : All (IsInBook count) (value_kinds q.items)
  pub key_kinds : All (IsInBook count) (kinds_of q.orders)

-- The values of a subject may be kept.
pub record IsKeptSubject (subject : Subject) : Type 0 where
  pub row : All IsKept subject.row
  pub aggregates : All IsKept subject.aggregates

-- Expressions give values of their kinds in a subject, and so do keys.
abbrev pub GiveKinds : (ℕ → Meaning) → List TypedExpr → Subject → Type 0
GiveKinds meaning exprs subject = (values : List Value) →
    values_in meaning exprs subject ≡ Some values → All IsKept values →
    IsKeyRow meaning (value_kinds exprs) values

abbrev pub KeysGiveKinds : (ℕ → Meaning) → List TypedOrder → Subject → Type 0
KeysGiveKinds meaning orders subject = (keys : List Value) →
    keys_in meaning orders subject ≡ Some keys → All IsKept keys →
    IsKeyRow meaning (kinds_of orders) keys

-- A subject can be shown: it can be read, and its items and keys can be compared.
pub record IsShowable (meaning : ℕ → Meaning) (q : Typed) (subject : Subject) : Type 0 where
  pub kept : IsKeptSubject subject
  pub items : GiveKinds meaning q.items subject
  pub keys : KeysGiveKinds meaning q.orders subject

-- The argument of an aggregate can be evaluated with so many collations, and compared by them.
abbrev pub IsFitNode : {X : Type 0} → ℕ → Node-F X TypedExpr → Type 0
IsFitNode count (Node-F.Aggregate name distinct (Some x) place) =
    IsFit count x × IsInBook count (kind_of x.ty)
IsFitNode count node = ⊤

abbrev pub IsFitAggregate : ℕ → TypedExpr → Type 0
IsFitAggregate count aggregate = IsFitNode count (out-Node aggregate.node)

-- An expression gives a value of its kind in a row.
abbrev pub GivesKind : (ℕ → Meaning) → List Value → TypedExpr → Type 0
GivesKind meaning row x = (it : Value) → value_in meaning (alone row) x ≡ Some it → IsKept it →
    IsOfKind meaning (kind_of x.ty) it

-- So does the argument of an aggregate.
abbrev pub NodeGivesKind : {X : Type 0} → (ℕ → Meaning) → List Value → Node-F X TypedExpr → Type 0
NodeGivesKind meaning row (Node-F.Aggregate name distinct (Some x) place) = GivesKind meaning row x
NodeGivesKind meaning row node = ⊤

-- A row can be read, and aggregates can be made over it.
pub record IsAggregable (meaning : ℕ → Meaning) (aggregates : List TypedExpr) (row : List Value)
    : Type 0 where
  pub kept : All IsKept row
  pub kinds : All (λ aggregate. NodeGivesKind meaning row (out-Node aggregate.node)) aggregates
