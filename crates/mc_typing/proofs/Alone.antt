-- Only AND is typed as an AND.
use Rattle.std.proofs.Common.{◌≡◌, ℕ, Bool, true, false, cond, ◌||◌, List, [], ◌∷◌, Option, None}
use Rattle.std.proofs.Common.{Some}
use Rattle.std.proofs.Common.{◌+◌, codes, length, refl, sym, ap, ◌∙◌, subst}
use Rattle.std.specs.Prelude.{IfOk, Ok, Err}
use Rattle.mc_ast.specs.declared.expr.Expr.{Expr}
use Rattle.mc_ast.specs.declared.expr.Form.{Form, Form-F, out-Form, roll-Form, roll-out-Form}
use Rattle.mc_ast.specs.declared.expr.Form.TheVariants as variant
use Rattle.mc_catalog.specs.declared.catalog.Catalog.{Catalog}
use Rattle.mc_values.specs.declared.value.Value.{Value}
use Rattle.mc_typing.specs.declared.callee.Callee.{Callee}
use Rattle.mc_typing.specs.declared.callee.Callee.TheVariants.{Of, Charset, Collation, Coercibility}
use Rattle.mc_typing.specs.declared.callee.Callee.TheVariants.{Version, Weights, Aggregate}
use Rattle.mc_typing.specs.declared.place.Place.{Place}
use Rattle.mc_typing.specs.declared.place.Place.TheVariants.{Row, Group, Key}
use Rattle.mc_typing.specs.declared.scope.Scope.{Scope}
use Rattle.mc_typing.specs.declared.typed.AggName.{AggName}
use Rattle.mc_typing.specs.declared.typed.AggName.TheVariants.{Count}
use Rattle.mc_typing.specs.declared.typed.Node.{out-Node}
use Rattle.mc_typing.specs.declared.typed.Node.TheVariants as node
use Rattle.mc_typing.specs.declared.typed.TypedExpr.{TypedExpr}
use Rattle.mc_typing.specs.Aggregates.{aggregate_call, aggregate_count, aggregate_expr}
use Rattle.mc_typing.specs.Aggregates.{aggregate_of}
use Rattle.mc_typing.specs.Aggregates.{is_aggregate, is_aggregate_form, is_constant, shows_type}
use Rattle.mc_typing.specs.Aggregates.{count_all, total, unfit}
use Rattle.mc_typing.specs.Calls.{call}
use Rattle.mc_typing.specs.Exprs.{Typing, in_row, of_one, operands, taker_of, typed_node, typings}
use Rattle.mc_typing.specs.Forms.{parts}
use Rattle.mc_typing.specs.Functions.{callee_of, takes}
use Rattle.mc_typing.specs.Messages.{wrong_argument}
use Rattle.mc_typing.specs.Places.{place_below}
use Rattle.mc_typing.proofs.Built.{IsBuilt, is_and, is_and_form, node_built}
use Rattle.mc_typing.proofs.Placed.{operands_many, typings_many}
use Rattle.mc_typing.proofs.SoundOperands.{or_left, or_right, then}
use Rattle.mc_typing.proofs.Trees.{typing_is}

abbrev pub IsAlone : Typing → Type 0
IsAlone t = IfOk t (λ x. is_and (out-Node x.node) ≡ false)

const_alone : (v : Value) → is_and (out-Node (node.Const v)) ≡ false
const_alone v = ap is_and (node.outs-Const v)

cond_alone : (b : Bool) (t u : Typing) → IsAlone t → IsAlone u → IsAlone (cond b t u)
cond_alone true t u h k = h
cond_alone false t u h k = k

-- Aggregates

aggregate_alone : (place : Place) (number : ℕ) (op : List ℕ) (name : AggName) (distinct : Bool)
    (x : TypedExpr) → IsAlone (aggregate_of place number op name distinct x)
aggregate_alone Row number op name distinct x = tt
aggregate_alone Group number op name distinct x = cond_alone (unfit name x.ty)
    (Err (wrong_argument op)) (Ok (aggregate_expr number name distinct x)) tt
    (ap is_and (node.outs-Aggregate name distinct (Some x) number))
aggregate_alone Key number op name distinct x = cond_alone (unfit name x.ty)
    (Err (wrong_argument op)) (Ok (aggregate_expr number name distinct x)) tt
    (ap is_and (node.outs-Aggregate name distinct (Some x) number))

aggregate_call_alone : (place : Place) (number : ℕ) (op : List ℕ) (name : AggName)
    (xs : List TypedExpr) → IsAlone (aggregate_call place number op name xs)
aggregate_call_alone place number op name [] = tt
aggregate_call_alone place number op name (x ∷ xs) = aggregate_alone place number op name false x

count_all_alone : (place : Place) (number : ℕ) → IsAlone (count_all place number)
count_all_alone Row number = tt
count_all_alone Group number = ap is_and (node.outs-Aggregate Count false None number)
count_all_alone Key number = ap is_and (node.outs-Aggregate Count false None number)

-- A call of an aggregate, or of what is a constant
special_alone : (c : Catalog) (s : Scope) (place : Place) (number : ℕ) (name : List ℕ)
    (callee : Option Callee) (xs : List TypedExpr)
    → (is_aggregate callee || shows_type callee) ≡ true
    → IsAlone (call c s place number name callee xs)
special_alone c s place number name None xs h = tt
special_alone c s place number name (Some (Aggregate which)) xs h =
    cond_alone (takes (Aggregate which) (length xs)) _ _
    (aggregate_call_alone place number name which xs) tt
special_alone c s place number name (Some Charset) xs h =
    cond_alone (takes Charset (length xs)) _ _ (const_alone _) tt
special_alone c s place number name (Some Collation) xs h =
    cond_alone (takes Collation (length xs)) _ _ (const_alone _) tt
special_alone c s place number name (Some Coercibility) xs h =
    cond_alone (takes Coercibility (length xs)) _ _ (const_alone _) tt
special_alone c s place number name (Some (Of function)) xs h = absurd (cc)
special_alone c s place number name (Some Version) xs h = absurd (cc)
special_alone c s place number name (Some Weights) xs h = absurd (cc)

distinct_alone : (place : Place) (number : ℕ) (xs : List TypedExpr)
    → IsAlone (of_one (aggregate_of place number (codes "count") Count true) xs)
distinct_alone place number [] = const_alone _
distinct_alone place number (x ∷ xs) = aggregate_alone place number (codes "count") Count true x

special_node : {X A : Type 0} (c : Catalog) (s : Scope) (place : Place) (number : ℕ)
    (z : Form-F X A) (xs : List TypedExpr) → (is_aggregate_form z || is_constant z) ≡ true
    → IsAlone (typed_node c s place number z xs)
special_node c s place number Form-F.CountAll xs h = count_all_alone place number
special_node c s place number (Form-F.CountDistinct t) xs h = distinct_alone place number xs
special_node c s place number (Form-F.Call name ts) xs h =
    special_alone c s place number name (callee_of name) xs h
special_node c s place number _ xs h = absurd (cc)

built_alone : (xs : List TypedExpr) (t : Typing) → IsBuilt false xs t → IsAlone t
built_alone xs (Ok x) h = h.and
built_alone xs (Err r) h = tt

node_alone : {X A : Type 0} (c : Catalog) (s : Scope) (place : Place) (number : ℕ)
    (z : Form-F X A) (xs : List TypedExpr) → is_and_form z ≡ false
    → length xs ≡ length (parts z) → IsAlone (typed_node c s place number z xs)
node_alone c s place number z xs h e = of_test (is_aggregate_form z || is_constant z) refl
  where
    of_test : (b : Bool) → (is_aggregate_form z || is_constant z) ≡ b
        → IsAlone (typed_node c s place number z xs)
    of_test true k = special_node c s place number z xs k
    of_test false k = built_alone xs (typed_node c s place number z xs)
        (subst (λ b. IsBuilt b xs (typed_node c s place number z xs)) h
        (node_built c s place number z xs (or_left (is_aggregate_form z) (is_constant z) k)
        (or_right (is_aggregate_form z) (is_constant z) k) e))

pub tree_alone : (c : Catalog) (s : Scope) (e : Expr) → is_and_form (out-Form e.form) ≡ false
    → IsAlone (in_row c s e)
tree_alone c s e h =
    let z = out-Form e.form in
    let ts = typings c s [] (place_below Row z) 0 (parts z) in
    subst IsAlone (sym (typing_is c s [] e Row 0))
    (then (λ xs. length xs ≡ length (parts z)) (λ (x : TypedExpr). is_and (out-Node x.node) ≡ false)
    (operands c s (taker_of z) ts) (typed_node c s Row (0 + total aggregate_count (parts z)) z)
    (subst (λ n. IfOk (operands c s (taker_of z) ts) (λ xs. length xs ≡ n))
    (typings_many c s [] (place_below Row z) 0 (parts z)) (operands_many c s (taker_of z) 0 ts))
    (λ xs many. node_alone c s Row (0 + total aggregate_count (parts z)) z xs h many))

pub not_and_form : (f : Form) → ((es : List Expr) → f ≡ variant.And es → ⊥)
    → is_and_form (out-Form f) ≡ false
not_and_form f never = of_layer (out-Form f) refl
  where
    of_layer : (z : Form-F Form Expr) → out-Form f ≡ z → is_and_form z ≡ false
    of_layer (Form-F.And es) e =
        absurd (never es (sym (roll-out-Form f) ∙ (ap roll-Form e ∙ variant.rolls-And es)))
    of_layer _ e = refl
