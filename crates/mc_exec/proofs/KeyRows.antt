-- The values of keys are of their kinds, and what is kept can be read.
use Rattle.std.proofs.Common.{◌≡◌, ℕ, ◌<◌, Bor, Bool, true, false, List, [], ◌∷◌, None, Some}
use Rattle.std.proofs.Common.{sym, subst}
use Rattle.std.proofs.Common.{◌∙◌, cond, map}
use Rattle.std.proofs.lemmas.List.Elements.{All-from_recursion, All-map, All-weaker}
use Rattle.std.proofs.lemmas.List.Elements.{recursion_from_All}
use Rattle.std.specs.List.{AllByRecursion, AllZip, list_any}
use Rattle.std.specs.Prelude.{All, Option, filter, option_map}
use Rattle.std.specs.Prelude.{if◌then◌else◌}
use Rattle.mc_catalog.specs.Fits.{FitsCatalog}
use Rattle.mc_catalog.specs.declared.catalog.Catalog.{Catalog}
use Rattle.mc_charset.specs.Chars.{IsWellFormed}
use Rattle.mc_charset.specs.declared.charset.Charset.{Charset}
use Rattle.mc_eval.specs.Node.{Place, place}
use Rattle.mc_eval.specs.Outcomes.{IsKept, Outcome}
use Rattle.mc_eval.specs.Outcomes.Outcome.{fault, gives}
use Rattle.mc_eval.specs.Typed.{GivesType, HasType}
use Rattle.mc_eval.specs.Value.{value}
use Rattle.mc_eval.specs.declared.truth.Truth.{Truth}
use Rattle.mc_group.specs.Kinds.{IsInBook, IsKeyRow, IsOfKind}
use Rattle.mc_order.specs.Meaning.{Meaning}
use Rattle.mc_typing.specs.OfType.{IsRowOf}
use Rattle.mc_typing.specs.Operands.{IsTyOf}
use Rattle.mc_typing.specs.declared.typed.Ty.{Ty}
use Rattle.mc_typing.specs.declared.typed.Ty.TheVariants as ty
use Rattle.mc_typing.specs.declared.typed.Typed.{Typed}
use Rattle.mc_typing.specs.declared.typed.TypedExpr.{TypedExpr}
use Rattle.mc_typing.specs.declared.typed.TypedOrder.{TypedOrder}
use Rattle.mc_typing.specs.Sound.{IsSound}
use Rattle.mc_values.specs.declared.value.Value.{Value}
use Rattle.mc_values.specs.declared.value.Value.TheVariants as v
use Rattle.mc_exec.specs.Given.{Subject, all_of, given, keys_in, keys_of, value_in}
use Rattle.mc_exec.specs.Given.{values_in}
use Rattle.mc_exec.specs.Shown.{line_in}
use Rattle.mc_exec.specs.Grouped.{value_kinds}
use Rattle.mc_exec.specs.Kept.{is_faulty, is_yes, kept}
use Rattle.mc_exec.specs.Ordered.{kind_of, kinds_of}
use Rattle.mc_exec.specs.Ready.{GiveKinds, IsShowable, KeysGiveKinds}
use Rattle.mc_exec.proofs.LineLists.{first_and_others, line_items}

-- A kept value of a type is of the kind, where the meanings have the sets of the catalog.
pub of_kind : (meaning : ℕ → Meaning) (c : Catalog) (count : ℕ)
    → FitsCatalog c count (λ id. (meaning id).charset) → (type : Ty) (it : Value)
    → IsTyOf c type → HasType type it → IsKept it → IsOfKind meaning (kind_of type) it
of_kind meaning c count f type v.Null t h k = tt
of_kind meaning c count f ty.Null (v.Int n) t h k = absurd h
of_kind meaning c count f ty.Int (v.Int n) t h k = tt
of_kind meaning c count f (ty.Str a) (v.Int n) t h k = absurd h
of_kind meaning c count f ty.Null (v.Str set text) t h k = absurd h
of_kind meaning c count f ty.Int (v.Str set text) t h k = absurd h
of_kind meaning c count f (ty.Str a) (v.Str set text) t h k =
    let within : a.collation.0 < count = subst (λ n. a.collation.0 < n) (sym f.counted) t.within in
    let same : set ≡ (meaning a.collation.0).charset =
    h ∙ (t.set ∙ sym (f.sets a.collation.0 within)) in
    subst (λ (s : Charset). IsWellFormed s text) same k.text

pub in_book : (c : Catalog) (count : ℕ) (set : ℕ → Charset) → FitsCatalog c count set → (type : Ty)
    → IsTyOf c type → IsInBook count (kind_of type)
in_book c count set f ty.Null t = tt
in_book c count set f ty.Int t = tt
in_book c count set f (ty.Str a) t = subst (λ n. a.collation.0 < n) (sym f.counted) t.within

pub given_type : (type : Ty) (o : Outcome) (it : Value) → given o ≡ Some it → GivesType type o
    → HasType type it
given_type type fault it e h = absurd (cc)
given_type type (gives x) it e h = let same : x ≡ it = cc in subst (HasType type) same h

-- What is proved of sound expressions.
abbrev pub AreTyped : Type 0
AreTyped = (c : Catalog) (columns aggregates : List Ty) (x : TypedExpr)
    → IsSound c columns aggregates x → IsTyOf c x.ty

abbrev pub GiveTypes : Type 0
GiveTypes = (c : Catalog) (columns aggregates : List Ty) (p : Place) (e : TypedExpr)
    → IsSound c columns aggregates e → IsRowOf columns p.row → IsRowOf aggregates p.aggregates
    → GivesType e.ty (value p e)

-- What holds of what comes of each member.
each_of : {A B : Type 0} (given : A → Option B) (P : A → Type 0) (K Q : B → Type 0)
    → ((x : A) (y : B) → P x → given x ≡ Some y → K y → Q y) → (xs : List A) (ys : List B)
    → all_of given xs ≡ Some ys → AllByRecursion P xs → AllByRecursion K ys → AllByRecursion Q ys
unfolding all_of
each_of given P K Q step [] [] e p k = tt
each_of given P K Q step [] (y ∷ ys) e p k = absurd (cc)
each_of given P K Q step (x ∷ xs) ys e p k =
    let parts = first_and_others (given x) (all_of given xs) ys e in
    let each : AllByRecursion K (parts.0 ∷ parts.1.0) = subst (AllByRecursion K) parts.1.3 k in
    subst (AllByRecursion Q) (sym parts.1.3) (
      step x parts.0 p.0 parts.1.1 each.0,
      each_of given P K Q step xs parts.1.0 parts.1.2 p.1 each.1,
    )

pub each_given : {A B : Type 0} (given : A → Option B) (P : A → Type 0) (K Q : B → Type 0)
    → ((x : A) (y : B) → P x → given x ≡ Some y → K y → Q y) → (xs : List A) (ys : List B)
    → all_of given xs ≡ Some ys → All P xs → All K ys → All Q ys
each_given given P K Q step xs ys e p k = All-from_recursion Q ys
    (each_of given P K Q step xs ys e (recursion_from_All P xs p) (recursion_from_All K ys k))

-- What holds of the kind of each member and of what comes of it.
pub kinds_given : {A B C : Type 0} (given : A → Option B) (kind : A → C) (P : A → Type 0)
    (K : B → Type 0) (R : C → B → Type 0)
    → ((x : A) (y : B) → P x → given x ≡ Some y → K y → R (kind x) y) → (xs : List A) (ys : List B)
    → all_of given xs ≡ Some ys → AllByRecursion P xs → AllByRecursion K ys
    → AllZip R (map kind xs) ys
unfolding all_of
kinds_given given kind P K R step [] [] e p k = tt
kinds_given given kind P K R step [] (y ∷ ys) e p k = absurd (cc)
kinds_given given kind P K R step (x ∷ xs) ys e p k =
    let parts = first_and_others (given x) (all_of given xs) ys e in
    let each : AllByRecursion K (parts.0 ∷ parts.1.0) = subst (AllByRecursion K) parts.1.3 k in
    subst (AllZip R (map kind (x ∷ xs))) (sym parts.1.3) (
      step x parts.0 p.0 parts.1.1 each.0,
      kinds_given given kind P K R step xs parts.1.0 parts.1.2 p.1 each.1,
    )

-- The values of a sound expression are of its kind.
pub value_kind : AreTyped → GiveTypes → (meaning : ℕ → Meaning) (c : Catalog) (count : ℕ)
    → FitsCatalog c count (λ id. (meaning id).charset) → (columns aggregates : List Ty)
    (s : Subject) → IsRowOf columns s.row → IsRowOf aggregates s.aggregates → (e : TypedExpr)
    (it : Value) → IsSound c columns aggregates e → value_in meaning s e ≡ Some it → IsKept it
    → IsOfKind meaning (kind_of e.ty) it
value_kind typed types meaning c count f columns aggregates s r a e it h is k =
    let p = place s.row s.aggregates meaning in
    of_kind meaning c count f e.ty it (typed c columns aggregates e h)
    (given_type e.ty (value p e) it is (types c columns aggregates p e h r a)) k

pub give_kinds : AreTyped → GiveTypes → (meaning : ℕ → Meaning) (c : Catalog) (count : ℕ)
    → FitsCatalog c count (λ id. (meaning id).charset) → (columns aggregates : List Ty)
    (s : Subject) → IsRowOf columns s.row → IsRowOf aggregates s.aggregates
    → (exprs : List TypedExpr) → All (IsSound c columns aggregates) exprs
    → GiveKinds meaning exprs s
give_kinds typed types meaning c count f columns aggregates s r a exprs h values e k =
    kinds_given (value_in meaning s) (λ x. kind_of x.ty) (IsSound c columns aggregates) IsKept
    (IsOfKind meaning) (value_kind typed types meaning c count f columns aggregates s r a)
    exprs values e (recursion_from_All (IsSound c columns aggregates) exprs h)
    (recursion_from_All IsKept values k)

pub keys_give_kinds : AreTyped → GiveTypes → (meaning : ℕ → Meaning) (c : Catalog) (count : ℕ)
    → FitsCatalog c count (λ id. (meaning id).charset) → (columns aggregates : List Ty)
    (s : Subject) → IsRowOf columns s.row → IsRowOf aggregates s.aggregates
    → (orders : List TypedOrder) → All (λ key. IsSound c columns aggregates key.expr) orders
    → KeysGiveKinds meaning orders s
keys_give_kinds typed types meaning c count f columns aggregates s r a orders h values e k =
    let sound : TypedOrder → Type 0 = λ key. IsSound c columns aggregates key.expr in
    kinds_given (λ (key : TypedOrder). value_in meaning s key.expr)
    (λ (key : TypedOrder). kind_of key.expr.ty) sound IsKept (IsOfKind meaning)
    (λ key it. value_kind typed types meaning c count f columns aggregates s r a key.expr it)
    orders values e (recursion_from_All sound orders h) (recursion_from_All IsKept values k)

-- The keys of subjects that can be shown are of their kinds, and so are their items.
pub key_rows : (meaning : ℕ → Meaning) (q : Typed) (subjects : List Subject)
    (keys : List (List Value)) → All (IsShowable meaning q) subjects
    → keys_of meaning q.orders subjects ≡ Some keys → All (All IsKept) keys
    → All (IsKeyRow meaning (kinds_of q.orders)) keys
key_rows meaning q subjects keys h e k = each_given (keys_in meaning q.orders)
    (IsShowable meaning q) (All IsKept) (IsKeyRow meaning (kinds_of q.orders))
    (λ s row p. p.keys row) subjects keys e h k

filtered : {R : Type 0} (P : R → Type 0) (p : R → Bool) (rows : List R) → AllByRecursion P rows
    → AllByRecursion P (filter p rows)
filtered P p [] h = tt
filtered P p (row ∷ rows) h = elim (p row) as (λ b.
    AllByRecursion P (cond b (row ∷ filter p rows) (filter p rows)))
    [ true ↦ (h.0, filtered P p rows h.1) | false ↦ filtered P p rows h.1 ]

kept_by : {R : Type 0} (P : R → Type 0) (b : Bool) (l ks : List R) → AllByRecursion P l
    → (if b then None else Some l) ≡ Some ks → AllByRecursion P ks
kept_by P true l ks h e = absurd (cc)
kept_by P false l ks h e = let same : l ≡ ks = cc in subst (AllByRecursion P) same h

pub kept_each : {R : Type 0} (P : R → Type 0) (accepted : R → Truth) (rows ks : List R)
    → kept accepted rows ≡ Some ks → All P rows → All P ks
unfolding kept
kept_each P accepted rows ks e h = All-from_recursion P ks
    (kept_by P (list_any (λ row. is_faulty (accepted row)) rows)
    (filter (λ row. is_yes (accepted row)) rows) ks
    (filtered P (λ row. is_yes (accepted row)) rows (recursion_from_All P rows h)) e)

lent_each : {A : Type 0} (P : A → Type 0) (l : List (Bor A))
    → AllByRecursion P (map (λ (r : Bor A). r.now) l) → AllByRecursion (λ (r : Bor A). P r.now) l
lent_each P [] h = tt
lent_each P (r ∷ l) h = (h.0, lent_each P l h.1)

-- What holds of rows that are lent.
pub lent : {A : Type 0} (P : A → Type 0) (rows : List (Bor A))
    → All P (map (λ (r : Bor A). r.now) rows) → All (λ (r : Bor A). P r.now) rows
lent {A = A} P rows h = All-from_recursion (λ (r : Bor A). P r.now) rows
    (lent_each P rows (recursion_from_All P (map (λ (r : Bor A). r.now) rows) h))

pub item_rows : (meaning : ℕ → Meaning) (q : Typed) (subjects : List Subject)
    (rows : List (List Value)) → All (IsShowable meaning q) subjects
    → all_of (λ s. option_map (λ l. l.items) (line_in meaning q s)) subjects ≡ Some rows
    → All (All IsKept) rows → All (IsKeyRow meaning (value_kinds q.items)) rows
item_rows meaning q subjects rows h e k =
    each_given (λ s. option_map (λ l. l.items) (line_in meaning q s))
    (IsShowable meaning q) (All IsKept) (IsKeyRow meaning (value_kinds q.items))
    (λ s row p is. p.items row (line_items (values_in meaning q.items s)
    (keys_in meaning q.orders s) row is)) subjects rows e h k

-- The kinds of expressions and of keys are in the book.
pub value_kinds_in_book : AreTyped → (c : Catalog) (count : ℕ) (set : ℕ → Charset)
    → FitsCatalog c count set → (columns aggregates : List Ty) (exprs : List TypedExpr)
    → All (IsSound c columns aggregates) exprs → All (IsInBook count) (value_kinds exprs)
value_kinds_in_book typed c count set f columns aggregates exprs h =
    All-map (IsInBook count) (λ (e : TypedExpr). kind_of e.ty) exprs
    (All-weaker (IsSound c columns aggregates) (λ e. IsInBook count (kind_of e.ty))
    (λ e k. in_book c count set f e.ty (typed c columns aggregates e k)) exprs h)

pub kinds_in_book : AreTyped → (c : Catalog) (count : ℕ) (set : ℕ → Charset)
    → FitsCatalog c count set → (columns aggregates : List Ty) (orders : List TypedOrder)
    → All (λ key. IsSound c columns aggregates key.expr) orders
    → All (IsInBook count) (kinds_of orders)
kinds_in_book typed c count set f columns aggregates orders h =
    All-map (IsInBook count) (λ (key : TypedOrder). kind_of key.expr.ty) orders
    (All-weaker (λ key. IsSound c columns aggregates key.expr)
    (λ key. IsInBook count (kind_of key.expr.ty))
    (λ key k. in_book c count set f key.expr.ty (typed c columns aggregates key.expr k)) orders h)

seen_each : {A : Type 0} (P : A → Type 0) (l : List (Bor A))
    → AllByRecursion (λ (r : Bor A). P r.now) l → AllByRecursion P (map (λ (r : Bor A). r.now) l)
seen_each P [] h = tt
seen_each P (r ∷ l) h = (h.0, seen_each P l h.1)

-- What holds of rows that are lent holds of the rows.
pub seen_all : {A : Type 0} (P : A → Type 0) (rows : List (Bor A))
    → All (λ (r : Bor A). P r.now) rows → All P (map (λ (r : Bor A). r.now) rows)
seen_all {A = A} P rows h = All-from_recursion P (map (λ (r : Bor A). r.now) rows)
    (seen_each P rows (recursion_from_All (λ (r : Bor A). P r.now) rows h))
