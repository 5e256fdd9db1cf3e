-- What comes of the items and the orders of a statement.
use Rattle.std.proofs.Common.{◌≡◌, ℕ, ◌+◌, List, [], ◌∷◌, ◌++◌, Bool, true, false, Option}
use Rattle.std.proofs.Common.{Some, None, length, refl, sym, ap, ◌∙◌, append_assoc, append-nil}
use Rattle.std.proofs.Common.{cond, subst, arith}
use Rattle.std.specs.Prelude.{IfOk, OnOk, Result, Ok, Err, option_map}
use Rattle.std.specs.List.{AllByRecursion, find}
use Rattle.mc_base.specs.Results.{result_and_then}
use Rattle.mc_base.specs.declared.refusal.Refusal.{Refusal}
use Rattle.std.specs.Option.{option_and_then, option_map_or}
use Rattle.std.specs.Str.{bytes_eq}
use Rattle.mc_ast.specs.Texts.{HasUtf8}
use Rattle.mc_ast.specs.declared.expr.Expr.{Expr}
use Rattle.mc_ast.specs.declared.statement.Item.{Item}
use Rattle.mc_ast.specs.declared.statement.OrderItem.{OrderItem}
use Rattle.mc_catalog.specs.declared.catalog.Catalog.{Catalog}
use Rattle.mc_typing.specs.declared.fault.TypeFault.{TypeFault}
use Rattle.mc_typing.specs.declared.fault.TypeFault.TheVariants.{Refused, NoMemory}
use Rattle.mc_typing.specs.declared.place.Place.{Place}
use Rattle.mc_typing.specs.declared.scope.Scope.{Scope}
use Rattle.mc_typing.specs.declared.typed.TypedExpr.{TypedExpr}
use Rattle.mc_typing.specs.declared.typed.TypedOrder.{TypedOrder}
use Rattle.mc_typing.specs.Aggregates.{aggregate_count, total}
use Rattle.mc_typing.specs.Exprs.{Typing, operands_from, plain, typings}
use Rattle.mc_typing.specs.Statements.{aliased, behind, item_expr, name_alone, order_count}
use Rattle.mc_typing.specs.Statements.{order_keys}
use Rattle.mc_typing.specs.Statements.{order_typing, typed_all}
use Rattle.mc_typing.specs.Walk.{with_operands}
use Rattle.mc_typing.specs.Wanted.{IsLeft, IsWanted}
use Rattle.mc_typing.specs.Whole.{with_key, with_keys}
use Rattle.mc_typing.proofs.Placed.{behind_at, from_nothing, placed, plain_from}

-- What is left with a number

abbrev without : {T : Type 0} → Result (T × ℕ) Refusal → Result T Refusal
without r = result_and_then (λ p. Ok p.0) r

left_alone : {T : Type 0} (r : Result Unit TypeFault) (x : T) (n : ℕ)
    (wanted : Result (T × ℕ) Refusal)
    → IsLeft r (x, n) wanted → IsLeft r x (without wanted)
left_alone (Ok u) x n wanted h = ap without h
left_alone (Err (Refused q)) x n wanted h = ap without h
left_alone (Err NoMemory) x n wanted h = tt

pub left_wanted : {T : Type 0} (fault : TypeFault) (left : T) (wanted : Result T Refusal)
    → IsLeft (Err fault) left wanted → IsWanted (Err fault) wanted
left_wanted (Refused q) left wanted h = h
left_wanted NoMemory left wanted h = tt

abbrev number_in : {T : Type 0} → Result (T × ℕ) Refusal → ℕ
number_in (Ok p) = p.1
number_in (Err q) = 0

-- Items

from_zero : (n : ℕ) → 0 + n ≡ n
from_zero n = omega arith

alone_behind : (xs : List TypedExpr) (n : ℕ) (others : Result (List TypedExpr) Refusal)
    → without (behind_at xs n others) ≡ behind xs others
alone_behind xs n (Ok ys) = refl
alone_behind xs n (Err q) = refl

module _ (c : Catalog) (s : Scope) (groups : List Expr) (place : Place) (es : List Expr) where
  abbrev walked : List TypedExpr → Result (List TypedExpr × ℕ) Refusal
  walked xs = with_operands c s groups place plain xs 0 es

  walked_is : (xs : List TypedExpr)
      → without (walked xs) ≡ behind xs (typed_all c s groups place es)
  walked_is xs =
      ap without (placed c s groups place plain xs 0 es)
      ∙ (alone_behind xs (0 + total aggregate_count es)
      (operands_from c s plain (length xs) (typings c s groups place 0 es))
      ∙ ap (behind xs) (plain_from c s (length xs) 0 (typings c s groups place 0 es)))

  -- Behind the columns of `*`
  pub items_left : (r : Result Unit TypeFault) (star : Result (List TypedExpr) Refusal)
      (xs ys : List TypedExpr) (n : ℕ) → behind [] star ≡ Ok xs → IsLeft r (ys, n) (walked xs)
      → IsLeft r ys (result_and_then (λ zs. behind zs (typed_all c s groups place es)) star)
  items_left r star xs ys n e h =
      subst (λ o. IsLeft r ys (result_and_then (λ zs. behind zs (typed_all c s groups place es)) o))
      (sym (sym (from_nothing star) ∙ e))
      (subst (IsLeft r ys) (walked_is xs) (left_alone r ys n (walked xs) h))

  count_in : (xs ys : List TypedExpr) (n m : ℕ) (others : Result (List TypedExpr) Refusal)
      → behind_at xs m others ≡ Ok (ys, n) → n ≡ m
  count_in xs ys n m (Ok zs) e = sym (ap number_in e)
  count_in xs ys n m (Err q) e = absurd (cc)

  pub items_number : (r : Result Unit TypeFault) (xs ys : List TypedExpr) (n : ℕ)
      → IsLeft r (ys, n) (walked xs) → OnOk r (n ≡ total aggregate_count es)
  items_number (Ok u) xs ys n h =
      count_in xs ys n (0 + total aggregate_count es)
      (operands_from c s plain (length xs) (typings c s groups place 0 es))
      (sym (placed c s groups place plain xs 0 es) ∙ h) ∙ from_zero (total aggregate_count es)
  items_number (Err fault) xs ys n h = tt

-- Keys

abbrev front : List TypedOrder → Result (List TypedOrder) Refusal → Result (List TypedOrder) Refusal
front keys others = result_and_then (λ more. Ok (keys ++ more)) others

front_one : (keys : List TypedOrder) (key : TypedOrder) (others : Result (List TypedOrder) Refusal)
    → front (keys ++ key ∷ []) others ≡ front keys (result_and_then
    (λ more. Ok (key ∷ more)) others)
front_one keys key (Ok more) = ap Ok (append_assoc keys (key ∷ []) more)
front_one keys key (Err r) = refl

front_nothing : (others : Result (List TypedOrder) Refusal) → front [] others ≡ others
front_nothing (Ok more) = refl
front_nothing (Err r) = refl

module _ (c : Catalog) (s : Scope) (groups : List Expr) (place : Place) (items : List Item) where
  one_placed : (keys : List TypedOrder) (next : ℕ) (o : OrderItem) (os : List OrderItem)
      → ((more : List TypedOrder) → without (with_keys c s groups place items more next os)
      ≡ front more (order_keys c s groups place items next os))
      → (t : Typing)
      → without (result_and_then {T = List TypedOrder × ℕ}
      (λ more. with_keys c s groups place items more.0 more.1 os)
      (with_key o.desc keys (result_and_then (λ x. Ok (x, next)) t)))
      ≡ front keys (result_and_then (λ x. result_and_then (λ more.
      Ok (record { expr = x; desc = o.desc } ∷ more))
      (order_keys c s groups place items next os)) t)
  one_placed keys next o os others (Ok x) =
      others (keys ++ record { expr = x; desc = o.desc } ∷ [])
      ∙ front_one keys (record { expr = x; desc = o.desc })
      (order_keys c s groups place items next os)
  one_placed keys next o os others (Err r) = refl

  keys_placed : (keys : List TypedOrder) (n : ℕ) (os : List OrderItem)
      → without (with_keys c s groups place items keys n os)
      ≡ front keys (order_keys c s groups place items n os)
  keys_placed keys n [] = ap Ok (sym (append-nil keys))
  keys_placed keys n (o ∷ os) = one_placed keys (n + order_count items o.expr) o os
      (λ more. keys_placed more (n + order_count items o.expr) os)
      (order_typing c s groups place items n o.expr)

  pub keys_left : (r : Result Unit TypeFault) (keys : List TypedOrder) (n m : ℕ)
      (os : List OrderItem) → IsLeft r (keys, m) (with_keys c s groups place items [] n os)
      → IsLeft r keys (order_keys c s groups place items n os)
  keys_left r keys n m os h = subst (IsLeft r keys)
      (keys_placed [] n os ∙ front_nothing (order_keys c s groups place items n os))
      (left_alone r keys m (with_keys c s groups place items [] n os) h)

-- What is found among items is one of them.
some_one : {X : Type 0} → (a b : X) → Some a ≡ Some b → a ≡ b
some_one a b e = cc

found_step : (P : Item → Type 0) (test : Item
    → Bool) (x : Item) (xs : List Item) (item : Item) (b : Bool) → P x
    → (find test xs ≡ Some item → P item) → cond b (Some x) (find test xs) ≡ Some item → P item
found_step P test x xs item true h others f = subst P (some_one x item f) h
found_step P test x xs item false h others f = others f

found_one : (P : Item → Type 0) (test : Item → Bool) (items : List Item) (item : Item)
    → AllByRecursion P items
    → find test items ≡ Some item → P item
found_one P test [] item h e = cc
found_one P test (x ∷ xs) item h e = found_step P test x xs item (test x) h.0
    (λ f. found_one P test xs item h.1 f) e

item_found : (found : Option Item) (x : Expr) → ((i : Item) → found ≡ Some i → HasUtf8 i.expr)
    → option_map (λ item. item.expr) found ≡ Some x → HasUtf8 x
item_found None x k f = cc
item_found (Some i) x k f = subst HasUtf8 (some_one i.expr x f) (k i refl)

named_item : (items : List Item) (name : Option (List ℕ)) (x : Expr)
    → AllByRecursion (λ item. HasUtf8 item.expr) items
    → option_map (λ item. item.expr) (option_and_then (aliased items) name) ≡ Some x → HasUtf8 x
named_item items None x h f = cc
named_item items (Some n) x h f = item_found (aliased items n) x
    (λ i g. found_one (λ item. HasUtf8 item.expr)
    (λ item. option_map_or (bytes_eq n) item.alias false) items i h g) f

pub item_utf8 : (items : List Item) (e x : Expr) → AllByRecursion (λ item. HasUtf8 item.expr) items
    → item_expr items e ≡ Some x → HasUtf8 x
item_utf8 items e x h f = named_item items (name_alone e.form) x h f

-- What holds of a wanted value holds of what is answered.
pub wanted_ok : {T : Type 0} (result : Result T TypeFault) (wanted : Result T Refusal) (P : T
    → Type 0)
    → IsWanted result wanted → ((t : T) → wanted ≡ Ok t → P t) → IfOk result P
wanted_ok (Ok t) wanted P h k = k t h
wanted_ok (Err fault) wanted P h k = tt
