-- The aggregates of sound statements: what they take, and the types of their values.
use Rattle.std.proofs.Common.{◌≡◌, ℕ, zero, suc, Bool, true, false, ◌||◌, List, [], ◌∷◌, ◌++◌}
use Rattle.std.proofs.Common.{None, Some, map, refl, sym, ap, ◌∙◌, subst, get_or, length, pos, ℤ}
use Rattle.std.proofs.Common.{arith}
use Rattle.std.proofs.lemmas.Bool.{or_parts}
use Rattle.std.proofs.lemmas.List.{map-append}
use Rattle.std.proofs.lemmas.List.Elements.{All-from_recursion, All-weaker, recursion_from_All}
use Rattle.std.specs.Ordering.{flip_args}
use Rattle.mc_group.specs.Order.{value_order}
use Rattle.std.specs.List.{AllByRecursion, AllZip, flat_map, list_any, zip}
use Rattle.std.specs.Prelude.{All, Option, option_and_then, option_map}
use Rattle.mc_catalog.specs.Fits.{FitsCatalog}
use Rattle.mc_catalog.specs.declared.catalog.Catalog.{Catalog}
use Rattle.mc_catalog.specs.declared.catalog.ColumnDecl.{ColumnDecl}
use Rattle.mc_charset.specs.declared.charset.Charset.{Charset}
use Rattle.mc_eval.specs.Fit.{has_like}
use Rattle.mc_eval.specs.Node.{place}
use Rattle.mc_eval.specs.Outcomes.{IsKept}
use Rattle.mc_eval.specs.Typed.{HasType}
use Rattle.mc_eval.specs.Value.{value}
use Rattle.mc_order.specs.Meaning.{Meaning}
use Rattle.mc_typing.specs.AggregateTypes.{aggregate_types, is_aggregate_node, types_with}
use Rattle.mc_typing.specs.Columns.{column_ty}
use Rattle.mc_typing.specs.OfType.{IsOfType, IsRowOf}
use Rattle.mc_typing.specs.Parts.{node_parts}
use Rattle.mc_typing.specs.Sound.{IsSound, IsSoundNode}
use Rattle.mc_typing.specs.SoundStatements.{IsSoundStatement, columns_at, row_types}
use Rattle.mc_typing.specs.SoundStatements.{statement_aggregates}
use Rattle.mc_typing.specs.declared.typed.AggName.{AggName}
use Rattle.mc_typing.specs.declared.typed.AggName.TheVariants.{Count, Min, Max, Sum}
use Rattle.mc_typing.specs.declared.typed.Node.{Node-F, out-Node}
use Rattle.mc_typing.specs.declared.typed.Ty.{Ty}
use Rattle.mc_typing.specs.declared.typed.Ty.TheVariants as ty
use Rattle.mc_typing.specs.declared.typed.Typed.{Typed}
use Rattle.mc_typing.specs.declared.typed.TypedExpr.{TypedExpr}
use Rattle.mc_typing.specs.declared.typed.TypedOrder.{TypedOrder}
use Rattle.mc_values.specs.declared.value.Value.{Value}
use Rattle.mc_values.specs.declared.value.Value.TheVariants as value
use Rattle.mc_exec.specs.Aggregates.{aggregate_over, aggregates_in, aggregates_of, aggregates_over}
use Rattle.mc_exec.specs.Aggregates.{column_of, combined, count_of, extreme, node_over, with_itself}
use Rattle.mc_exec.specs.Given.{Subject, all_of, alone, value_in}
use Rattle.mc_exec.specs.Ordered.{kind_of}
use Rattle.mc_exec.specs.Ready.{IsAggregable, IsFitAggregate, IsFitNode, IsFitStatement, IsShowable}
use Rattle.mc_exec.specs.Ready.{NodeGivesKind}
use Rattle.mc_exec.specs.Shown.{Line, group_values, line_in, null_row, or_one, standing}
use Rattle.mc_exec.specs.Steps.{GoesOn, IsFit, IsReadable}
use Rattle.mc_exec.specs.Work.{uses_like}
use Rattle.mc_exec.proofs.AggregateTrees.{aggregates_are, aggregates_like, each_aggregate}
use Rattle.mc_exec.proofs.AggregateTrees.{each_append}
use Rattle.mc_exec.proofs.AggregateTrees.{tree_ind}
use Rattle.mc_exec.proofs.Combined.{extreme_is, null_kept, sum_is}
use Rattle.mc_exec.proofs.KeyRows.{AreTyped, GiveTypes, give_kinds, given_type, in_book}
use Rattle.mc_exec.proofs.KeyRows.{keys_give_kinds, kinds_given, kinds_in_book, value_kind}
use Rattle.mc_exec.proofs.KeyRows.{value_kinds_in_book}
use Rattle.mc_exec.proofs.LineLists.{first_and_others}

-- What is proved of sound expressions, beside their types
abbrev pub TypesAreThose : Type 0
TypesAreThose = (x : TypedExpr)
    → aggregate_types x ≡ types_with (is_aggregate_node (out-Node x.node))
    (flat_map aggregate_types (node_parts (out-Node x.node))) x.ty

abbrev pub AreSoundOverAny : Type 0
AreSoundOverAny = (c : Catalog) (columns aggregates others : List Ty) (x : TypedExpr)
    → IsSound c columns aggregates x → aggregate_types x ≡ [] → IsSound c columns others x

abbrev pub HaveSoundNodes : Type 0
HaveSoundNodes = (c : Catalog) (columns aggregates : List Ty) (x : TypedExpr)
    → IsSound c columns aggregates x → IsSoundNode c columns aggregates x.ty (out-Node x.node)

abbrev pub HaveSoundParts : Type 0
HaveSoundParts = (c : Catalog) (columns aggregates : List Ty) (x : TypedExpr)
    → IsSound c columns aggregates x
    → All (IsSound c columns aggregates) (node_parts (out-Node x.node))

abbrev pub Fit : Type 0
Fit = (c : Catalog) (columns aggregates : List Ty) (e : TypedExpr)
    → IsSound c columns aggregates e → IsFit (length c.collations) e

abbrev pub KeptAreOfType : Type 0
KeptAreOfType = (type : Ty) (it : Value) → HasType type it → IsKept it → IsOfType type it

-- The types of aggregates

type_of : TypedExpr → Ty
type_of x = x.ty

with_types : (b : Bool) (others : List TypedExpr) (x : TypedExpr)
    → map (λ a. a.ty) (with_itself b others x) ≡ types_with b (map (λ a. a.ty) others) x.ty
with_types true others x = map-append (λ (a : TypedExpr). a.ty) others (x ∷ [])
with_types false others x = refl

joined_types : {A : Type 0} (f : A → List TypedExpr) (h : A → List Ty) (xs : List A)
    → AllByRecursion (λ x. map (λ a. a.ty) (f x) ≡ h x) xs
    → map (λ a. a.ty) (flat_map f xs) ≡ flat_map h xs
joined_types f h [] e = refl
joined_types f h (x ∷ xs) e =
    map-append (λ (a : TypedExpr). a.ty) (f x) (flat_map f xs)
    ∙ (ap (λ l. l ++ map (λ a. a.ty) (flat_map f xs)) e.0
    ∙ ap (λ l. h x ++ l) (joined_types f h xs e.1))

types_are : TypesAreThose → (x : TypedExpr)
    → map (λ a. a.ty) (aggregates_of x) ≡ aggregate_types x
types_are law x = tree_ind (λ y. map (λ a. a.ty) (aggregates_of y) ≡ aggregate_types y)
    (λ y ih. let node = out-Node y.node in
    ap (map (λ (a : TypedExpr). a.ty)) (aggregates_are y)
    ∙ (with_types (is_aggregate_node node) (flat_map aggregates_of (node_parts node)) y
    ∙ (ap (λ l. types_with (is_aggregate_node node) l y.ty)
    (joined_types aggregates_of aggregate_types (node_parts node) ih)
    ∙ sym (law y)))) x

each_typed : {A : Type 0} (f : A → TypedExpr) → TypesAreThose → (xs : List A)
    → AllByRecursion (λ x. map (λ a. a.ty) (aggregates_of (f x)) ≡ aggregate_types (f x)) xs
each_typed f law [] = tt
each_typed f law (x ∷ xs) = (types_are law (f x), each_typed f law xs)

pub statement_types : TypesAreThose → (q : Typed)
    → map (λ a. a.ty) (aggregates_in q) ≡ statement_aggregates q
statement_types law q =
    map-append (λ (a : TypedExpr). a.ty) (flat_map aggregates_of q.items)
    (flat_map (λ key. aggregates_of key.expr) q.orders)
    ∙ (ap (λ l. l ++ map (λ a. a.ty) (flat_map (λ key. aggregates_of key.expr) q.orders))
    (joined_types aggregates_of aggregate_types q.items (each_typed (λ x. x) law q.items))
    ∙ ap (λ l. flat_map aggregate_types q.items ++ l)
    (joined_types (λ (key : TypedOrder). aggregates_of key.expr)
    (λ (key : TypedOrder). aggregate_types key.expr) q.orders
    (each_typed (λ (key : TypedOrder). key.expr) law q.orders)))

-- LIKE in aggregates

none_each : {A : Type 0} (p : A → Bool) (xs : List A) → list_any p xs ≡ false
    → AllByRecursion (λ x. p x ≡ false) xs
none_each p [] h = tt
none_each p (x ∷ xs) h =
    let both = or_parts (p x) (list_any p xs) h in (both.0, none_each p xs both.1)

each_none : {A : Type 0} (p : A → Bool) (xs : List A) → AllByRecursion (λ x. p x ≡ false) xs
    → list_any p xs ≡ false
each_none p [] h = refl
each_none p (x ∷ xs) h = ap (λ b. b || list_any p xs) h.0 ∙ each_none p xs h.1

likes_joined : {A : Type 0} (f : A → TypedExpr) (xs : List A)
    → AllByRecursion (λ x. has_like (f x) ≡ false) xs
    → AllByRecursion (λ a. has_like a ≡ false) (flat_map (λ x. aggregates_of (f x)) xs)
likes_joined f [] h = tt
likes_joined f (x ∷ xs) h = each_append (λ a. has_like a ≡ false) (aggregates_of (f x))
    (flat_map (λ y. aggregates_of (f y)) xs) (aggregates_like (f x) h.0) (likes_joined f xs h.1)

pub statement_like : (q : Typed) → list_any has_like q.items ≡ false
    → list_any (λ key. has_like key.expr) q.orders ≡ false
    → list_any has_like (aggregates_in q) ≡ false
statement_like q h k = each_none has_like (aggregates_in q)
    (each_append (λ a. has_like a ≡ false) (flat_map aggregates_of q.items)
    (flat_map (λ key. aggregates_of key.expr) q.orders)
    (likes_joined (λ x. x) q.items (none_each has_like q.items h))
    (likes_joined (λ (key : TypedOrder). key.expr) q.orders
    (none_each (λ (key : TypedOrder). has_like key.expr) q.orders k)))

-- Sound aggregates

-- The type of an aggregate of an argument of a type.
abbrev IsTyOfArgument : AggName → Ty → Ty → Type 0
IsTyOfArgument Count arg type = type ≡ ty.Int
IsTyOfArgument Sum arg type = type ≡ ty.Int
IsTyOfArgument Min arg type = type ≡ arg
IsTyOfArgument Max arg type = type ≡ arg

-- An aggregate has a type by its argument, which is sound without aggregates.
abbrev HasArgument : {X : Type 0} → Catalog → List Ty → Ty → Node-F X TypedExpr → Type 0
HasArgument c columns type (Node-F.Aggregate name distinct (Some x) place) =
    IsTyOfArgument name x.ty type × IsSound c columns [] x
HasArgument c columns type (Node-F.Aggregate name distinct None place) = type ≡ ty.Int
HasArgument c columns type node = ⊥

pub record SoundLaws : Type 0 where
  pub typed : AreTyped
  pub types : GiveTypes
  pub nodes : HaveSoundNodes
  pub parts : HaveSoundParts
  pub those : TypesAreThose
  pub over_any : AreSoundOverAny
  pub fit : Fit
  pub of_type : KeptAreOfType

pub no_row : IsRowOf [] []
no_row place type e = absurd (cc)

module _ (laws : SoundLaws) where
  argument_of : {X : Type 0} (c : Catalog) (columns aggregates : List Ty) (type : Ty)
      (node : Node-F X TypedExpr) → is_aggregate_node node ≡ true
      → IsSoundNode c columns aggregates type node
      → AllByRecursion (IsSound c columns aggregates) (node_parts node)
      → HasArgument c columns type node
  argument_of c columns aggregates type (Node-F.Aggregate Count distinct (Some x) place) is h p =
      (h.1.0, laws.over_any c columns aggregates [] x p.0 h.1.2)
  argument_of c columns aggregates type (Node-F.Aggregate Sum distinct (Some x) place) is h p =
      (h.1.0.1, laws.over_any c columns aggregates [] x p.0 h.1.2)
  argument_of c columns aggregates type (Node-F.Aggregate Min distinct (Some x) place) is h p =
      (h.1.0, laws.over_any c columns aggregates [] x p.0 h.1.2)
  argument_of c columns aggregates type (Node-F.Aggregate Max distinct (Some x) place) is h p =
      (h.1.0, laws.over_any c columns aggregates [] x p.0 h.1.2)
  argument_of c columns aggregates type (Node-F.Aggregate Count false None place) is h p = h.1
  argument_of c columns aggregates type (Node-F.Aggregate Count true None place) is h p =
      absurd h.1
  argument_of c columns aggregates type (Node-F.Aggregate Sum distinct None place) is h p =
      absurd h.1
  argument_of c columns aggregates type (Node-F.Aggregate Min distinct None place) is h p =
      absurd h.1
  argument_of c columns aggregates type (Node-F.Aggregate Max distinct None place) is h p =
      absurd h.1
  argument_of c columns aggregates type node is h p = absurd (cc)

  abbrev IsSoundAggregateIn : Catalog → List Ty → TypedExpr → Type 0
  IsSoundAggregateIn c columns a = HasArgument c columns a.ty (out-Node a.node)

  sound_in : (c : Catalog) (columns aggregates : List Ty) (x : TypedExpr)
      → IsSound c columns aggregates x → AllByRecursion (IsSoundAggregateIn c columns)
      (aggregates_of x)
  sound_in c columns aggregates x h =
      each_aggregate (IsSound c columns aggregates) (IsSoundAggregateIn c columns)
      (λ y k. recursion_from_All (IsSound c columns aggregates) (node_parts (out-Node y.node))
      (laws.parts c columns aggregates y k))
      (λ y k is. argument_of c columns aggregates y.ty (out-Node y.node) is
      (laws.nodes c columns aggregates y k)
      (recursion_from_All (IsSound c columns aggregates) (node_parts (out-Node y.node))
      (laws.parts c columns aggregates y k))) x h

  joined_in : {A : Type 0} (f : A → TypedExpr) (c : Catalog) (columns aggregates : List Ty)
      (xs : List A) → AllByRecursion (λ x. IsSound c columns aggregates (f x)) xs
      → AllByRecursion (IsSoundAggregateIn c columns) (flat_map (λ x. aggregates_of (f x)) xs)
  joined_in f c columns aggregates [] h = tt
  joined_in f c columns aggregates (x ∷ xs) h =
      each_append (IsSoundAggregateIn c columns) (aggregates_of (f x))
      (flat_map (λ y. aggregates_of (f y)) xs) (sound_in c columns aggregates (f x) h.0)
      (joined_in f c columns aggregates xs h.1)

  sound_aggregates : (c : Catalog) (q : Typed) → IsSoundStatement c q
      → AllByRecursion (IsSoundAggregateIn c (row_types c q.table)) (aggregates_in q)
  sound_aggregates c q s =
      let columns = row_types c q.table in
      let aggregates = statement_aggregates q in
      each_append (IsSoundAggregateIn c columns) (flat_map aggregates_of q.items)
      (flat_map (λ key. aggregates_of key.expr) q.orders)
      (joined_in (λ x. x) c columns aggregates q.items
      (recursion_from_All (IsSound c columns aggregates) q.items s.items))
      (joined_in (λ (key : TypedOrder). key.expr) c columns aggregates q.orders
      (recursion_from_All (λ (key : TypedOrder). IsSound c columns aggregates key.expr) q.orders
      s.orders))

  each_to : (P Q : TypedExpr → Type 0) → ((a : TypedExpr) → P a → Q a) → (xs : List TypedExpr)
      → AllByRecursion P xs → AllByRecursion Q xs
  each_to P Q f [] h = tt
  each_to P Q f (x ∷ xs) h = (f x h.0, each_to P Q f xs h.1)

  fit_node : {X : Type 0} (c : Catalog) (count : ℕ) (set : ℕ → Charset) → FitsCatalog c count set
      → (columns : List Ty) (type : Ty) (node : Node-F X TypedExpr)
      → HasArgument c columns type node → IsFitNode count node
  fit_node c count set f columns type (Node-F.Aggregate name distinct (Some x) place) h = (
    subst (λ n. IsFit n x) (sym f.counted) (laws.fit c columns [] x h.1),
    in_book c count set f x.ty (laws.typed c columns [] x h.1),
  )
  fit_node c count set f columns type node h = tt

  kind_node : {X : Type 0} (meaning : ℕ → Meaning) (c : Catalog) (count : ℕ)
      → FitsCatalog c count (λ id. (meaning id).charset) → (columns : List Ty) (type : Ty)
      (row : List Value) → IsRowOf columns row → (node : Node-F X TypedExpr)
      → HasArgument c columns type node → NodeGivesKind meaning row node
  kind_node meaning c count f columns type row r (Node-F.Aggregate name distinct (Some x) place) h =
      λ it e k. value_kind laws.typed laws.types meaning c count f columns []
      (alone row) r no_row x it h.1 e k
  kind_node meaning c count f columns type row r node h = tt

  combined_type : (meaning : ℕ → Meaning) (name : AggName) (distinct : Bool) (x : TypedExpr)
      (type : Ty) (values : List Value) (it : Value) → IsTyOfArgument name x.ty type
      → AllByRecursion (HasType x.ty) values
      → combined meaning name distinct (kind_of x.ty) values ≡ Some it → HasType type it
  combined_type meaning Count distinct x type values it h v e =
      let n : ℤ = pos (count_of meaning (kind_of x.ty) distinct values) in
      let same : value.Int n ≡ it = cc in
      subst (λ t. HasType t it) (sym h) (subst (HasType ty.Int) same tt)
  combined_type meaning Sum distinct x type values it h v e =
      subst (λ t. HasType t it) (sym h) (sum_is (HasType ty.Int) tt values it (λ n. tt) e)
  combined_type meaning Min distinct x type values it h v e =
      let same : extreme (value_order meaning (kind_of x.ty)) values ≡ it = cc in
      subst (λ t. HasType t it) (sym h) (subst (HasType x.ty) same
      (extreme_is (HasType x.ty) tt (value_order meaning (kind_of x.ty)) values v))
  combined_type meaning Max distinct x type values it h v e =
      let same : extreme (flip_args (value_order meaning (kind_of x.ty))) values ≡ it = cc in
      subst (λ t. HasType t it) (sym h) (subst (HasType x.ty) same
      (extreme_is (HasType x.ty) tt (flip_args (value_order meaning (kind_of x.ty))) values v))

  column_types : (meaning : ℕ → Meaning) (c : Catalog) (columns : List Ty) (x : TypedExpr)
      → IsSound c columns [] x → (rows : List (List Value)) (values : List Value)
      → column_of meaning x rows ≡ Some values → AllByRecursion (IsRowOf columns) rows
      → AllByRecursion (HasType x.ty) values
  unfolding all_of
  column_types meaning c columns x h [] [] e r = tt
  column_types meaning c columns x h [] (v ∷ values) e r = absurd (cc)
  column_types meaning c columns x h (row ∷ rows) values e r =
      let p = first_and_others (value_in meaning (alone row) x)
      (column_of meaning x rows) values e in
      subst (AllByRecursion (HasType x.ty)) (sym p.1.3) (
        given_type x.ty (value (place row [] meaning) x) p.0 p.1.1
            (laws.types c columns [] (place row [] meaning) x h r.0 no_row),
        column_types meaning c columns x h rows p.1.0 p.1.2 r.1,
      )

  and_then_some : {A B : Type 0} (f : A → Option B) (o : Option A) (y : B)
      → option_and_then f o ≡ Some y → (x : A) × ((o ≡ Some x) × (f x ≡ Some y))
  and_then_some f None y e = absurd (cc)
  and_then_some f (Some x) y e = (x, (refl, e))

  node_type : {X : Type 0} (meaning : ℕ → Meaning) (c : Catalog) (columns : List Ty) (type : Ty)
      (rows : List (List Value)) → AllByRecursion (IsRowOf columns) rows
      → (node : Node-F X TypedExpr) → HasArgument c columns type node → (it : Value)
      → node_over meaning node rows ≡ Some it → HasType type it
  node_type meaning c columns type rows r (Node-F.Aggregate name distinct None place) h it e =
      let same : value.Int (pos (length rows)) ≡ it = cc in
      subst (λ t. HasType t it) (sym h) (subst (HasType ty.Int) same tt)
  node_type meaning c columns type rows r (Node-F.Aggregate name distinct (Some x) place) h it e =
      let found = and_then_some (combined meaning name distinct (kind_of x.ty))
      (column_of meaning x rows) it e in
      combined_type meaning name distinct x type found.0 it h.0
      (column_types meaning c columns x h.1 rows found.0 found.1.0 r) found.1.1
  node_type meaning c columns type rows r node h it e =
      let same : value.Null ≡ it = cc in subst (HasType type) same tt

  zip_row : (ts : List Ty) (vs : List Value) → AllZip IsOfType ts vs → IsRowOf ts vs
  zip_row [] vs h place type e = absurd (cc)
  zip_row (t ∷ ts) [] h place type e = absurd h
  zip_row (t ∷ ts) (v ∷ vs) h zero type e =
      let same : t ≡ type = cc in subst (λ u. IsOfType u v) same h.0
  zip_row (t ∷ ts) (v ∷ vs) h (suc place) type e = zip_row ts vs h.1 place type e

  typed_values : (meaning : ℕ → Meaning) (c : Catalog) (q : Typed)
      → IsSoundStatement c q → (rows : List (List Value))
      → AllByRecursion (IsRowOf (row_types c q.table)) rows → (values : List Value)
      → aggregates_over meaning (aggregates_in q) rows ≡ Some values → All IsKept values
      → IsRowOf (statement_aggregates q) values
  typed_values meaning c q s rows r values e k =
      let columns = row_types c q.table in
      subst (λ (ts : List Ty). IsRowOf ts values) (statement_types laws.those q)
      (zip_row (map (λ a. a.ty) (aggregates_in q)) values
      (kinds_given (aggregate_over meaning rows) (λ (a : TypedExpr). a.ty)
      (IsSoundAggregateIn c columns) IsKept IsOfType
      (λ a it h is kept. laws.of_type a.ty it
      (node_type meaning c columns a.ty rows r (out-Node a.node) h it is) kept)
      (aggregates_in q) values e (sound_aggregates c q s) (recursion_from_All IsKept values k)))

  -- What the parts of a sound statement ask for

  pub fit_aggregates : (c : Catalog) (count : ℕ) (set : ℕ → Charset) → FitsCatalog c count set
      → (q : Typed) → IsSoundStatement c q → All (IsFitAggregate count) (aggregates_in q)
  fit_aggregates c count set f q s = All-from_recursion (IsFitAggregate count) (aggregates_in q)
      (each_to (IsSoundAggregateIn c (row_types c q.table)) (IsFitAggregate count)
      (λ a h. fit_node c count set f (row_types c q.table) a.ty (out-Node a.node) h)
      (aggregates_in q) (sound_aggregates c q s))

  pub aggregable : (meaning : ℕ → Meaning) (c : Catalog) (count : ℕ)
      → FitsCatalog c count (λ id. (meaning id).charset) → (q : Typed) → IsSoundStatement c q
      → (row : List Value) → IsReadable c q.table row → IsAggregable meaning (aggregates_in q) row
  aggregable meaning c count f q s row r =
      let P : TypedExpr → Type 0 = λ a. NodeGivesKind meaning row (out-Node a.node) in
      record {
        kept = r.kept;
        kinds = All-from_recursion P (aggregates_in q)
            (each_to (IsSoundAggregateIn c (row_types c q.table)) P
            (λ a h. kind_node meaning c count f (row_types c q.table) a.ty row r.typed
            (out-Node a.node) h) (aggregates_in q) (sound_aggregates c q s));
      }

  pub fit_statement : (c : Catalog) (count : ℕ) (set : ℕ → Charset) → FitsCatalog c count set
      → (q : Typed) → IsSoundStatement c q → IsFitStatement count q
  fit_statement c count set f q s =
      let columns = row_types c q.table in
      let aggregates = statement_aggregates q in
      let sound = IsSound c columns aggregates in record {
        items = All-weaker sound (IsFit count)
            (λ e h. subst (λ n. IsFit n e) (sym f.counted) (laws.fit c columns aggregates e h))
            q.items
            s.items;
        orders = All-weaker (λ (key : TypedOrder). sound key.expr)
            (λ (key : TypedOrder). IsFit count key.expr)
            (λ key h. subst (λ n. IsFit n key.expr) (sym f.counted)
            (laws.fit c columns aggregates key.expr h)) q.orders s.orders;
        item_kinds = value_kinds_in_book laws.typed c count set f columns aggregates q.items
            s.items;
        key_kinds = kinds_in_book laws.typed c count set f columns aggregates q.orders s.orders;
      }

  pub showable : (meaning : ℕ → Meaning) (c : Catalog) (count : ℕ)
      → FitsCatalog c count (λ id. (meaning id).charset) → (q : Typed) → IsSoundStatement c q
      → (subject : Subject) → IsReadable c q.table subject.row
      → IsRowOf (statement_aggregates q) subject.aggregates → All IsKept subject.aggregates
      → IsShowable meaning q subject
  showable meaning c count f q s subject r a k =
      let columns = row_types c q.table in
      let aggregates = statement_aggregates q in record {
        kept = record { row = r.kept; aggregates = k };
        items = give_kinds laws.typed laws.types meaning c count f columns aggregates subject
            r.typed a q.items
            s.items;
        keys = keys_give_kinds laws.typed laws.types meaning c count f columns aggregates subject
            r.typed a
            q.orders s.orders;
      }

  first_readable : (P : List Value → Type 0) (nulls : List Value) (rows : List (List Value))
      → P nulls → AllByRecursion P rows → P (get_or rows 0 nulls)
  first_readable P nulls [] n h = n
  first_readable P nulls (row ∷ rows) n h = h.0

  typed_rows : (c : Catalog) (table : Option ℕ) (rows : List (List Value))
      → AllByRecursion (IsReadable c table) rows → AllByRecursion (IsRowOf (row_types c table)) rows
  typed_rows c table [] h = tt
  typed_rows c table (row ∷ rows) h = (h.0.typed, typed_rows c table rows h.1)

  same_value_of : (f : List Value → Option (List Line)) (a : List Value) (o : Option (List Line))
      (values : List Value) → option_map (λ ls. a) o ≡ Some values → Some a ≡ Some values
  same_value_of f a None values e = absurd (cc)
  same_value_of f a (Some ls) values e = e

  same_values : (f : List Value → Option (List Line)) (o : Option (List Value))
      (values : List Value)
      → option_and_then (λ a. option_map (λ ls. a) (f a)) o ≡ Some values → o ≡ Some values
  same_values f None values e = absurd (cc)
  same_values f (Some a) values e = same_value_of f a (f a) values e

  -- What stands for groups can be shown.
  pub standing_showable : (meaning : ℕ → Meaning) (c : Catalog) (count : ℕ)
      → FitsCatalog c count (λ id. (meaning id).charset) → (q : Typed) → IsSoundStatement c q
      → (nulls : List Value) → IsReadable c q.table nulls → (groups : List (List (List Value)))
      (values : List (List Value)) → all_of (group_values meaning q nulls) groups ≡ Some values
      → AllByRecursion (All (IsReadable c q.table)) groups → AllByRecursion (All IsKept) values
      → AllByRecursion (IsShowable meaning q)
      (map (λ it. standing nulls it.0 it.1) (zip groups values))
  unfolding all_of
  standing_showable meaning c count f q s nulls n [] values e r k = tt
  standing_showable meaning c count f q s nulls n (rows ∷ groups) values e r k =
      let p = first_and_others (group_values meaning q nulls rows)
      (all_of (group_values meaning q nulls) groups) values e in
      let each : AllByRecursion (All IsKept) (p.0 ∷ p.1.0) =
      subst (AllByRecursion (All IsKept)) p.1.3 k in
      let readable = recursion_from_All (IsReadable c q.table) rows r.0 in
      let over = same_values (λ a. all_of (λ row. line_in meaning q
      (record { row = row; aggregates = a }))
      (or_one nulls rows)) (aggregates_over meaning (aggregates_in q) rows) p.0 p.1.1 in
      subst (λ (l : List (List Value)). AllByRecursion (IsShowable meaning q)
      (map (λ it. standing nulls it.0 it.1) (zip (rows ∷ groups) l))) (sym p.1.3) (
        showable meaning c count f q s (standing nulls rows p.0)
            (first_readable (IsReadable c q.table) nulls rows n readable)
            (typed_values meaning c q s rows (typed_rows c q.table rows readable) p.0 over each.0)
            each.0,
        standing_showable meaning c count f q s nulls n groups p.1.0 p.1.2 r.1 each.1,
      )

-- The work over groups: LIKE stands in an aggregate only where it stands in the statement.
pub groups_work : (q : Typed) (groups : List TypedExpr) (first old new : ℕ) → groups ≡ q.groups
    → GoesOn (list_any has_like groups) first old
    → GoesOn (list_any has_like (aggregates_in q) || (list_any has_like q.items
    || list_any (λ key. has_like key.expr) q.orders)) old new → GoesOn (uses_like q) first new
groups_work q groups first old new e h k = record {
  still = λ none.
      let a = or_parts (list_any has_like q.conjuncts) (list_any has_like q.groups
      || (list_any has_like q.items || list_any (λ key. has_like key.expr) q.orders)) none in
      let b = or_parts (list_any has_like q.groups)
      (list_any has_like q.items || list_any (λ key. has_like key.expr) q.orders) a.1 in
      let d = or_parts (list_any has_like q.items) (list_any
      (λ key. has_like key.expr) q.orders) b.1 in
      k.still (ap (λ x. x || (list_any has_like q.items || list_any
      (λ key. has_like key.expr) q.orders))
      (statement_like q d.0 d.1) ∙ b.1) ∙ h.still (ap (list_any has_like) e ∙ b.0);
  later = omega (arith, h.later, k.later);
}

-- Rows of NULLs can be read.
null_kept_row : (columns : List ColumnDecl)
    → AllByRecursion IsKept (map (λ column. value.Null) columns)
null_kept_row [] = tt
null_kept_row (column ∷ columns) = (null_kept, null_kept_row columns)

null_typed_row : (c : Catalog) (columns : List ColumnDecl)
    → IsRowOf (map (λ column. column_ty c column.ty) columns) (map (λ column. value.Null) columns)
null_typed_row c [] place type e = absurd (cc)
null_typed_row c (column ∷ columns) zero type e = tt
null_typed_row c (column ∷ columns) (suc place) type e = null_typed_row c columns place type e

pub nulls_readable : (c : Catalog) (table : Option ℕ) (nulls : List Value)
    → nulls ≡ null_row c table → IsReadable c table nulls
nulls_readable c table nulls e = subst (IsReadable c table) (sym e) (record {
  kept = All-from_recursion IsKept (null_row c table) (null_kept_row (columns_at c table));
  typed = null_typed_row c (columns_at c table);
})

-- The items and the keys are among what may count work.
pub items_work : (q : Typed) (old new : ℕ)
    → GoesOn (list_any has_like q.items || list_any (λ key. has_like key.expr) q.orders) old new
    → GoesOn (uses_like q) old new
items_work q old new h = record {
  still = λ none. h.still (or_parts (list_any has_like q.groups)
      (list_any has_like q.items || list_any (λ key. has_like key.expr) q.orders)
      (or_parts (list_any has_like q.conjuncts) (list_any has_like q.groups
      || (list_any has_like q.items || list_any (λ key. has_like key.expr) q.orders)) none).1).1;
  later = h.later;
}

pub conjuncts_work : (q : Typed) (old new : ℕ) → GoesOn (list_any has_like q.conjuncts) old new
    → GoesOn (uses_like q) old new
conjuncts_work q old new h = record {
  still = λ none. h.still (or_parts (list_any has_like q.conjuncts) (list_any has_like q.groups
      || (list_any has_like q.items || list_any (λ key. has_like key.expr) q.orders)) none).0;
  later = h.later;
}

-- Without groups there are no aggregates.
pub no_aggregates : (c : Catalog) (q : Typed) → IsSoundStatement c q → q.grouped ≡ false
    → statement_aggregates q ≡ []
no_aggregates c q s e = (s.ungrouped e).1

alone_each : (P : Subject → Type 0) (Q : List Value → Type 0) → ((row : List Value) → Q row → P
    (alone row))
    → (rows : List (List Value)) → AllByRecursion Q rows → AllByRecursion P (map alone rows)
alone_each P Q f [] h = tt
alone_each P Q f (row ∷ rows) h = (f row h.0, alone_each P Q f rows h.1)

-- Rows without groups can be shown.
pub alone_showable : (laws : SoundLaws) (meaning : ℕ → Meaning) (c : Catalog) (count : ℕ)
    → FitsCatalog c count (λ id. (meaning id).charset) → (q : Typed) → IsSoundStatement c q
    → q.grouped ≡ false → (rows : List (List Value)) → All (IsReadable c q.table) rows
    → All (IsShowable meaning q) (map alone rows)
alone_showable laws meaning c count f q s e rows h =
    All-from_recursion (IsShowable meaning q) (map alone rows)
    (alone_each (IsShowable meaning q) (IsReadable c q.table)
    (λ row r. showable laws meaning c count f q s (alone row) r
    (subst (λ (ts : List Ty). IsRowOf ts []) (sym (no_aggregates c q s e)) no_row)
    (λ k d w. absurd (omega arith))) rows (recursion_from_All (IsReadable c q.table) rows h))
