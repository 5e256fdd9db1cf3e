-- BETWEEN is two comparisons, IN is equalities, and NULL spreads.
use Rattle.std.proofs.Common.{◌≡◌, ℕ, List, [], ◌∷◌, Option, Some, None, map, false, refl, sym, ap}
use Rattle.std.proofs.Common.{◌∙◌}
use Rattle.std.specs.Prelude.{option_map}
use Rattle.std.specs.Option.{option_map_or}
use Rattle.mc_ast.specs.declared.operators.CmpOp.{CmpOp}
use Rattle.mc_ast.specs.declared.operators.CmpOp.TheVariants.{Eq, NullEq, Ne, Lt, Le, Gt, Ge}
use Rattle.mc_charset.specs.declared.collation_id.CollId.{CollId}
use Rattle.mc_order.specs.Meaning.{Meaning}
use Rattle.mc_typing.specs.declared.typed.Node.{Node, Node-F, out-roll-Node}
use Rattle.mc_typing.specs.declared.typed.Ty.TheVariants as ty
use Rattle.mc_typing.specs.declared.typed.TypedExpr.{TypedExpr}
use Rattle.mc_values.specs.declared.value.Value.{Value}
use Rattle.mc_values.specs.declared.value.Value.TheVariants as value
use Rattle.mc_eval.specs.Comparisons.{compared, holds, usual, value_order}
use Rattle.mc_eval.specs.Node.{Place, among, node_value}
use Rattle.mc_eval.specs.Outcomes.{Outcome, all_given, of_all, of_two}
use Rattle.mc_eval.specs.Outcomes.Outcome.{fault, gives}
use Rattle.mc_eval.specs.Restated.{comparison, equalities, number_of}
use Rattle.mc_eval.specs.Truths.{all_of, any_of, known, told, truth}
use Rattle.mc_eval.specs.Value.{value, valued}
use Rattle.mc_eval.specs.declared.truth.Truth.{Truth}
use Rattle.mc_eval.specs.declared.truth.Truth.TheVariants.{No, Faulty, Unknown, Yes}
use Rattle.mc_eval.proofs.Loops.{mapped}
use Rattle.mc_eval.proofs.Parts.{over, value_is}

number_is : (p : Place) (node : Node-F Node TypedExpr)
    → value p (number_of node) ≡ node_value p (over p node) ty.Int
number_is p node = value_is p (number_of node) node (out-roll-Node node)

-- What comes of a comparison.
abbrev of_compared : Place → CmpOp → Option CollId → Outcome → Outcome → Outcome
of_compared p op coll x y = of_two (λ a b. told (compared p.meaning coll op a b)) x y

comparison_is : (p : Place) (op : CmpOp) (coll : Option CollId) (x y : TypedExpr)
    → value p (comparison op coll x y) ≡ of_compared p op coll (value p x) (value p y)
comparison_is p op coll x y = number_is p (Node-F.Compare op coll (x ∷ y ∷ []))

pub between_is : (p : Place) (coll : Option CollId) (x low high : TypedExpr)
    → value p (number_of (Node-F.Between coll (x ∷ low ∷ high ∷ []) false))
    ≡ value p (number_of (Node-F.And
    (comparison Ge coll x low ∷ comparison Le coll x high ∷ [])))
between_is p coll x low high =
    let above = comparison Ge coll x low in
    let below = comparison Le coll x high in
    number_is p (Node-F.Between coll (x ∷ low ∷ high ∷ []) false)
    ∙ (sym (ap (λ o. told (all_of (truth o ∷ truth (of_compared p Le coll (value p x)
    (value p high)) ∷ []))) (comparison_is p Ge coll x low))
    ∙ (sym (ap (λ o. told (all_of (truth (value p above) ∷ truth o ∷ [])))
    (comparison_is p Le coll x high))
    ∙ sym (number_is p (Node-F.And (above ∷ below ∷ [])))))

truth_told : (t : Truth) → truth (told t) ≡ t
truth_told No = refl
truth_told Faulty = refl
truth_told Unknown = refl
truth_told Yes = refl

-- Outcomes of which the first and the rest have values.
record IsGiven (o : Outcome) (os : List Outcome) (values : List Value) : Type 0 where
  first : Value
  rest : List Value
  is_first : o ≡ gives first
  is_rest : all_given os ≡ Some rest
  both : values ≡ first ∷ rest

given_cons : (o : Outcome) (os : List Outcome) (values : List Value)
    → all_given (o ∷ os) ≡ Some values → IsGiven o os values
given_cons fault os values e = absurd (cc)
given_cons (gives v) os values e = of_rest (all_given os) refl e
  where
    of_rest : (r : Option (List Value)) → all_given os ≡ r
        → option_map (λ vs. v ∷ vs) r ≡ Some values → IsGiven (gives v) os values
    of_rest None h e = absurd (cc)
    of_rest (Some vs) h e = record {
      first = v;
      rest = vs;
      is_first = refl;
      is_rest = h;
      both = cc;
    }

equal_truths : (p : Place) (coll : Option CollId) (x : TypedExpr) (v : Value)
    → value p x ≡ gives v → (ys : List TypedExpr) (vs : List Value)
    → all_given (map (value p) ys) ≡ Some vs
    → map (λ y. truth (value p y)) (equalities coll x ys) ≡ map (compared p.meaning coll Eq v) vs
equal_truths p coll x v h [] vs e =
    let none : [] ≡ vs = cc in ap (map (compared p.meaning coll Eq v)) none
equal_truths p coll x v h (y ∷ ys) vs e =
    let d = given_cons (value p y) (map (value p) ys) vs e in
    let one : truth (value p (comparison Eq coll x y)) ≡ compared p.meaning coll Eq v d.first =
    ap truth (comparison_is p Eq coll x y
    ∙ (ap (λ o. of_compared p Eq coll o (value p y)) h
    ∙ ap (of_compared p Eq coll (gives v)) d.is_first))
    ∙ truth_told (compared p.meaning coll Eq v d.first) in
    ap (λ t. t ∷ map (λ z. truth (value p z)) (equalities coll x ys)) one
    ∙ (ap (λ l. compared p.meaning coll Eq v d.first ∷ l)
    (equal_truths p coll x v h ys d.rest d.is_rest)
    ∙ ap (map (compared p.meaning coll Eq v)) (sym d.both))

pub in_is : (p : Place) (coll : Option CollId) (x : TypedExpr) (ys : List TypedExpr)
    (values : List Value) → all_given (map (value p) (x ∷ ys)) ≡ Some values
    → value p (number_of (Node-F.In coll (x ∷ ys) false))
    ≡ value p (number_of (Node-F.Or (equalities coll x ys)))
in_is p coll x ys values e =
    let f : List Value → Outcome = λ vs. told (among p.meaning coll vs) in
    let d = given_cons (value p x) (map (value p) ys) values e in
    number_is p (Node-F.In coll (x ∷ ys) false)
    ∙ (ap (of_all f) (mapped (valued p) (λ v. v.outcome) (x ∷ ys))
    ∙ (ap (λ r. option_map_or f r fault) (e ∙ ap (λ l. Some l) d.both)
    ∙ sym (number_is p (Node-F.Or (equalities coll x ys))
    ∙ ap (λ l. told (any_of l)) (mapped (valued p) (λ v. truth v.outcome) (equalities coll x ys)
    ∙ equal_truths p coll x d.first d.is_first ys d.rest d.is_rest))))

null_left : (meaning : ℕ → Meaning) (coll : Option CollId) (op : CmpOp) (it : Value)
    → (op ≡ NullEq → ⊥) → compared meaning coll op value.Null it ≡ Unknown
null_left meaning coll Eq it h = refl
null_left meaning coll NullEq it h = absurd (h refl)
null_left meaning coll Ne it h = refl
null_left meaning coll Lt it h = refl
null_left meaning coll Le it h = refl
null_left meaning coll Gt it h = refl
null_left meaning coll Ge it h = refl

null_order : (meaning : ℕ → Meaning) (coll : Option CollId) (it : Value)
    → value_order meaning coll it value.Null ≡ None
null_order meaning coll value.Null = refl
null_order meaning coll (value.Int number) = refl
null_order meaning coll (value.Str set text) = refl

null_usual : (meaning : ℕ → Meaning) (coll : Option CollId) (op : CmpOp) (it : Value)
    → usual meaning coll op it value.Null ≡ Unknown
null_usual meaning coll op it = ap (λ order. option_map_or (λ o. known (holds op o)) order Unknown)
    (null_order meaning coll it)

null_right : (meaning : ℕ → Meaning) (coll : Option CollId) (op : CmpOp) (it : Value)
    → (op ≡ NullEq → ⊥) → compared meaning coll op it value.Null ≡ Unknown
null_right meaning coll Eq it h = null_usual meaning coll Eq it
null_right meaning coll NullEq it h = absurd (h refl)
null_right meaning coll Ne it h = null_usual meaning coll Ne it
null_right meaning coll Lt it h = null_usual meaning coll Lt it
null_right meaning coll Le it h = null_usual meaning coll Le it
null_right meaning coll Gt it h = null_usual meaning coll Gt it
null_right meaning coll Ge it h = null_usual meaning coll Ge it

pub null_is : (p : Place) (op : CmpOp) (coll : Option CollId) (x y : TypedExpr) (it : Value)
    → (op ≡ NullEq → ⊥) → value p x ≡ gives value.Null → value p y ≡ gives it
    → (value p (comparison op coll x y) ≡ gives value.Null)
    × (value p (comparison op coll y x) ≡ gives value.Null)
null_is p op coll x y it h ex ey = (
  comparison_is p op coll x y ∙ (ap (λ o. of_compared p op coll o (value p y)) ex
      ∙ (ap (of_compared p op coll (gives value.Null)) ey
      ∙ ap told (null_left p.meaning coll op it h))),
  comparison_is p op coll y x ∙ (ap (λ o. of_compared p op coll o (value p x)) ey
      ∙ (ap (of_compared p op coll (gives it)) ex
      ∙ ap told (null_right p.meaning coll op it h))),
)
