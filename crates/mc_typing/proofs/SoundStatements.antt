-- What typing gives of a statement is sound.
use Rattle.std.proofs.Common.{◌≡◌, ℕ, suc, ◌+◌, ◌<◌, Bool, true, false, not, ◌||◌, cond, List, []}
use Rattle.std.proofs.Common.{◌∷◌, ◌++◌, Option, None, Some, append_assoc, length, map, refl, sym}
use Rattle.std.proofs.Common.{ap}
use Rattle.std.proofs.Common.{◌∙◌, subst, arith}
use Rattle.std.proofs.lemmas.List.{length-append, length-map}
use Rattle.std.proofs.lemmas.List.Elements.{All-from_recursion}
use Rattle.std.proofs.lemmas.List.Quantifiers.{position-Some}
use Rattle.std.specs.Prelude.{IfOk, Ok, Err, codes, position, slice_get, unwrap_or}
use Rattle.std.specs.List.{AllByRecursion, flat_map, list_any, range_with_len}
use Rattle.std.specs.Option.{option_map_or}
use Rattle.std.specs.Str.{bytes_eq}
use Rattle.mc_base.specs.Results.{result_and_then}
use Rattle.mc_ast.specs.declared.expr.Expr.{Expr}
use Rattle.mc_ast.specs.declared.statement.Item.{Item}
use Rattle.mc_ast.specs.declared.statement.OrderItem.{OrderItem}
use Rattle.mc_ast.specs.declared.statement.Statement.{Statement}
use Rattle.mc_catalog.specs.Lawful.{IsLawful}
use Rattle.mc_catalog.specs.declared.catalog.Catalog.{Catalog}
use Rattle.mc_catalog.specs.declared.catalog.ColumnDecl.{ColumnDecl}
use Rattle.mc_catalog.specs.declared.catalog.TableDecl.{TableDecl}
use Rattle.mc_typing.specs.declared.place.Place.{Place}
use Rattle.mc_typing.specs.declared.place.Place.TheVariants.{Row, Group}
use Rattle.mc_typing.specs.declared.scope.Scope.{Scope}
use Rattle.mc_typing.specs.declared.session.Session.{Session}
use Rattle.mc_typing.specs.declared.typed.Node.TheVariants as node
use Rattle.mc_typing.specs.declared.typed.Node.{Node-F}
use Rattle.mc_typing.specs.declared.typed.Ty.{Ty}
use Rattle.mc_typing.specs.declared.typed.Typed.{Typed}
use Rattle.mc_typing.specs.declared.typed.TypedExpr.{TypedExpr}
use Rattle.mc_typing.specs.declared.typed.TypedOrder.{TypedOrder}
use Rattle.mc_typing.specs.AggregatePlaces.{aggregate_places}
use Rattle.mc_typing.specs.AggregateTypes.{aggregate_types}
use Rattle.mc_typing.specs.Aggregates.{aggregate_count, total}
use Rattle.mc_typing.specs.Columns.{column_at}
use Rattle.mc_typing.specs.Exprs.{Typing, in_row, plain, typing}
use Rattle.mc_typing.specs.Messages.{no_table, not_grouped, wrong_argument}
use Rattle.mc_typing.specs.OfType.{IsNumeric}
use Rattle.mc_typing.specs.Operands.{is_text}
use Rattle.mc_typing.specs.Scope.{IsScope, columns_of}
use Rattle.mc_typing.specs.Sound.{IsSound}
use Rattle.mc_typing.specs.SoundStatements.{IsSoundStatement, row_types, statement_aggregates}
use Rattle.mc_typing.specs.Statements.{all_items, all_keys, behind, condition, conjuncts}
use Rattle.mc_typing.specs.Statements.{group_keys}
use Rattle.mc_typing.specs.Statements.{group_typing, has_aggregate, has_no_groups, header_of}
use Rattle.mc_typing.specs.Statements.{is_grouped, is_int, item_expr, items_count, loose_column}
use Rattle.mc_typing.specs.Statements.{order_count, order_keys, order_typing, own_order, own_place}
use Rattle.mc_typing.specs.Statements.{scope_in, star_columns, star_from, star_items, typed_all}
use Rattle.mc_typing.specs.Statements.{typed_in, typed_of, typed_statement, where_of}
use Rattle.mc_typing.proofs.AggregatePlaces.{numbers_append}
use Rattle.mc_typing.proofs.Built.{over}
use Rattle.mc_typing.proofs.Known.{Known}
use Rattle.mc_typing.proofs.SoundColumns.{column_at_sound}
use Rattle.mc_typing.proofs.SoundConjuncts.{IsTruth, all_append, conjuncts_sound}
use Rattle.mc_typing.proofs.SoundOperands.{Operands, each, either, numeric_ty, operands_sound}
use Rattle.mc_typing.proofs.SoundOperands.{or_left, then}
use Rattle.mc_typing.proofs.SoundTexts.{chosen}
use Rattle.mc_typing.proofs.SoundTrees.{IsFine}
use Rattle.mc_typing.proofs.SoundTyping.{AreWell, HasFrom, IsWell, from_behind, from_front, has_own}
use Rattle.mc_typing.proofs.SoundTyping.{of_ok, operands_well, typing_well}
use Rattle.mc_typing.proofs.Trees.{total_mapped}

-- The scope of a statement
table_within : (tables : List TableDecl) (name : List ℕ) (place : ℕ)
    → position (λ table. bytes_eq table.name name) tables ≡ Some place → place < length tables
table_within [] name place e = absurd (cc)
table_within (t ∷ ts) name place e =
    (position-Some (λ table. bytes_eq table.name name) (t ∷ ts) place t e).0

pub scope_lawful : (c : Catalog) (session : Session) (table : Option (List ℕ)) → IsLawful c
    → session.connection.0 < length c.collations → IfOk (scope_in c session table) (IsScope c)
scope_lawful c session None lawful within =
    record { lawful = lawful; table = tt; connection = within }
scope_lawful c session (Some name) lawful within = chosen (IsScope c)
    (position (λ table. bytes_eq table.name name) c.tables)
    (λ place. Ok (record { table = Some place; connection = session.connection }))
    (Err (no_table name))
    (λ place e. record {
      lawful = lawful;
      table = table_within c.tables name place e;
      connection = within;
    })
    tt

-- Headers
star_many : (c : Catalog) (place : ℕ) (columns : List ColumnDecl)
    → length (star_from c place columns) ≡ length columns
star_many c place [] = refl
star_many c place (d ∷ columns) = omega (arith, star_many c (place + 1) columns)

headers_many : {A : Type 0} (f : ColumnDecl → List ℕ) (g : A → List ℕ) (c : Catalog)
    (columns : List ColumnDecl) (items : List A) (xs : List TypedExpr) → length xs ≡ length items
    → length (map f columns ++ map g items) ≡ length (star_from c 0 columns ++ xs)
headers_many f g c columns items xs e = omega (
  arith,
  e,
  length-append (map f columns) (map g items),
  length-map columns f,
  length-map items g,
  length-append (star_from c 0 columns) xs,
  star_many c 0 columns,
)

from_zero : (n : ℕ) → 0 + n ≡ n
from_zero n = omega arith

-- Types of lists
types_append : (xs ys : List TypedExpr) → flat_map aggregate_types (xs ++ ys)
    ≡ flat_map aggregate_types xs ++ flat_map aggregate_types ys
types_append [] ys = refl
types_append (x ∷ xs) ys =
    ap (λ l. aggregate_types x ++ l) (types_append xs ys)
    ∙ sym (append_assoc (aggregate_types x) (flat_map aggregate_types xs)
    (flat_map aggregate_types ys))

star_types : (c : Catalog) (place : ℕ) (columns : List ColumnDecl)
    → flat_map aggregate_types (star_from c place columns) ≡ []
star_types c place [] = refl
star_types c place (d ∷ columns) =
    ap (λ l. l ++ flat_map aggregate_types (star_from c (place + 1) columns))
    (over (node.Column place) (Node-F.Column place) (column_at c place d).ty
    (node.outs-Column place) refl).types
    ∙ star_types c (place + 1) columns

-- Places of lists
places_append : (xs ys : List TypedExpr) → flat_map aggregate_places (xs ++ ys)
    ≡ flat_map aggregate_places xs ++ flat_map aggregate_places ys
places_append [] ys = refl
places_append (x ∷ xs) ys =
    ap (λ l. aggregate_places x ++ l) (places_append xs ys)
    ∙ sym (append_assoc (aggregate_places x) (flat_map aggregate_places xs)
    (flat_map aggregate_places ys))

star_places : (c : Catalog) (place : ℕ) (columns : List ColumnDecl)
    → flat_map aggregate_places (star_from c place columns) ≡ []
star_places c place [] = refl
star_places c place (d ∷ columns) =
    ap (λ l. l ++ flat_map aggregate_places (star_from c (place + 1) columns))
    (over (node.Column place) (Node-F.Column place) (column_at c place d).ty
    (node.outs-Column place) refl).places
    ∙ star_places c (place + 1) columns

-- A statement that isn't grouped
not_false : (b : Bool) → not b ≡ false → b ≡ true
not_false true e = refl
not_false false e = cc

no_groups : (groups : List Expr) → has_no_groups groups ≡ true → groups ≡ []
no_groups [] e = refl
no_groups (g ∷ groups) e = cc

ungrouped_groups : (statement : Statement) → is_grouped statement ≡ false
    → statement.groups ≡ []
unfolding is_grouped
ungrouped_groups statement e = no_groups statement.groups
    (not_false (has_no_groups statement.groups)
    (or_left (not (has_no_groups statement.groups))
    (list_any (λ item. has_aggregate item.expr) statement.items
    || list_any (λ o. has_aggregate o.expr) statement.orders) e))

ungrouped_place : (statement : Statement) → is_grouped statement ≡ false
    → own_place statement ≡ Row
ungrouped_place statement e = ap (λ b. cond b Group Row) e

none_left : (xs : List TypedExpr) → length xs ≡ 0 → xs ≡ []
none_left [] e = refl
none_left (x ∷ xs) e = absurd (omega (arith, e))

module _ (known : Known) (c : Catalog) (s : Scope) (scope : IsScope c s) where
  abbrev Sound : List Ty → TypedExpr → Type 0
  Sound aggregates x = IsSound c (row_types c s.table) aggregates x

  abbrev Fine : List Ty → TypedExpr → Type 0
  Fine aggregates x = IsFine c (row_types c s.table) aggregates x

  abbrev Well : Place → ℕ → ℕ → TypedExpr → Type 0
  Well place number count x = IsWell known c s scope place number count x

  -- What stands in a row is sound where there are no aggregates.
  row_fine : (x : TypedExpr) (count : ℕ) → Well Row 0 count x → Fine [] x
  row_fine x count w = w.sound [] (subst (HasFrom [] 0) (sym (w.row refl)) tt)

  row_sound : (e : Expr) → IfOk (in_row c s e) (Fine [])
  row_sound e = of_typing (in_row c s e) (typing_well known c s scope [] e Row 0)
    where
      of_typing : (t : Typing) → IfOk t (Well Row 0 (aggregate_count e)) → IfOk t (Fine [])
      of_typing (Ok x) w = row_fine x (aggregate_count e) w
      of_typing (Err r) w = tt

  -- Columns of `*`
  star_sound : (aggregates : List Ty) (place : ℕ) (columns : List ColumnDecl)
      → ((k : ℕ) (d : ColumnDecl) → slice_get columns k ≡ Some d
      → slice_get (columns_of c s) (place + k) ≡ Some d)
      → AllByRecursion (Sound aggregates) (star_from c place columns)
  star_sound aggregates place [] h = tt
  star_sound aggregates place (d ∷ columns) h =
      let same : place + 0 ≡ place = omega arith in (
        (column_at_sound c s scope aggregates place d
            (subst (λ n. slice_get (columns_of c s) n ≡ Some d) same (h 0 d refl))).1,
        star_sound aggregates (place + 1) columns (λ k e is.
            let next : place + suc k ≡ (place + 1) + k = omega arith in
            subst (λ n. slice_get (columns_of c s) n ≡ Some e) next (h (suc k) e is)),
      )

  star_all : (aggregates : List Ty) (star : Bool)
      → AllByRecursion (Sound aggregates) (star_from c 0 (star_columns c s star))
  star_all aggregates true = star_sound aggregates 0 (columns_of c s) (λ k d e.
      let same : k ≡ 0 + k = omega arith in
      subst (λ n. slice_get (columns_of c s) n ≡ Some d) same e)
  star_all aggregates false = tt

  star_is : (place : Place) (groups : List Expr) (columns : List ColumnDecl)
      → IfOk (star_items c place groups columns) (λ xs. xs ≡ star_from c 0 columns)
  star_is place groups columns = of_found (loose_column place groups columns)
    where
      of_found : (found : Option ColumnDecl) → IfOk (elim found [
        | None ↦ Ok (star_from c 0 columns)
        | Some column ↦ Err (not_grouped column.name)
      ]) (λ xs. xs ≡ star_from c 0 columns)
      of_found None = refl
      of_found (Some column) = tt

  -- Items
  record AreItems (statement : Statement) (items : List TypedExpr) : Type 0 where
    pub own : List TypedExpr
    pub is : items ≡ star_from c 0 (star_columns c s statement.star) ++ own
    pub well : AreWell known c s scope (own_place statement) 0 (items_count statement) plain 0
        (length statement.items) own

  abbrev exprs : Statement → List Expr
  exprs statement = map (λ item. item.expr) statement.items

  own_well : (statement : Statement)
      → IfOk (typed_all c s statement.groups (own_place statement) (exprs statement))
      (AreWell known c s scope (own_place statement) 0 (items_count statement) plain 0
      (length statement.items))
  own_well statement =
      subst (λ n. IfOk (typed_all c s statement.groups (own_place statement) (exprs statement))
      (AreWell known c s scope (own_place statement) 0 n plain 0 (length statement.items)))
      (total_mapped aggregate_count (λ (item : Item). item.expr) statement.items)
      (subst (λ n. IfOk (typed_all c s statement.groups (own_place statement) (exprs statement))
      (AreWell known c s scope (own_place statement) 0 (total aggregate_count (exprs statement))
      plain 0 n))
      (length-map statement.items (λ (item : Item). item.expr))
      (operands_well known c s scope statement.groups (own_place statement) plain 0 0
      (exprs statement) (all_typed (exprs statement))))
    where
      all_typed : (es : List Expr) → AllByRecursion (λ e. (n : ℕ)
          → IfOk (typing c s statement.groups (own_place statement) n e)
          (Well (own_place statement) n (aggregate_count e))) es
      all_typed [] = tt
      all_typed (e ∷ es) = (
        (λ n. typing_well known c s scope statement.groups e (own_place statement) n),
        all_typed es,
      )

  items_sound : (statement : Statement)
      → IfOk (all_items c s statement) (AreItems statement)
  items_sound statement =
      let star = star_from c 0 (star_columns c s statement.star) in
      let own = typed_all c s statement.groups (own_place statement) (exprs statement) in
      then (λ xs. xs ≡ star) (AreItems statement)
      (star_items c (own_place statement) statement.groups (star_columns c s statement.star))
      (λ xs. behind xs own)
      (star_is (own_place statement) statement.groups (star_columns c s statement.star))
      (λ xs e. then (AreWell known c s scope (own_place statement) 0 (items_count statement) plain 0
      (length statement.items)) (AreItems statement) own (λ ys. Ok (xs ++ ys)) (own_well statement)
      (λ ys w. record { own = ys; is = ap (λ l. l ++ ys) e; well = w }))

  -- WHERE
  abbrev AreTruths : List TypedExpr → Type 0
  AreTruths xs = AllByRecursion (IsTruth c (row_types c s.table) []) xs

  where_sound : (filter : Option Expr) → IfOk (where_of c s filter) AreTruths
  where_sound None = tt
  where_sound (Some e) = then (Fine []) AreTruths (in_row c s e) condition (row_sound e)
      (λ x h. either AreTruths (is_text x.ty) (Err (wrong_argument (codes "where")))
      (Ok (conjuncts x)) (λ _. tt)
      (λ t. conjuncts_sound c (row_types c s.table) [] x (h.1, numeric_ty x.ty t)))

  -- GROUP BY
  abbrev AreGroups : List Expr → List TypedExpr → Type 0
  AreGroups groups xs = Operands c s scope [] plain 0 (length groups) xs

  groups_sound : (groups : List Expr) → IfOk (group_keys c s groups) (AreGroups groups)
  groups_sound groups =
      subst (λ n. IfOk (group_keys c s groups) (Operands c s scope [] plain 0 n))
      (length-map groups (group_typing c s))
      (operands_sound c s scope [] plain 0 (map (group_typing c s) groups) (all_typed groups))
    where
      all_typed : (es : List Expr)
          → AllByRecursion (λ t. IfOk t (Fine [])) (map (group_typing c s) es)
      all_typed [] = tt
      all_typed (e ∷ es) = (
        either (Fine []) (is_int e.form) (Err (wrong_argument (codes "group by"))) (in_row c s e)
            (λ _. tt) (λ _. row_sound e),
        all_typed es,
      )

  -- ORDER BY
  abbrev key_types : List TypedOrder → List Ty
  key_types keys = flat_map (λ o. aggregate_types o.expr) keys

  abbrev key_places : List TypedOrder → List ℕ
  key_places keys = flat_map (λ o. aggregate_places o.expr) keys

  record AreKeys (place : Place) (number : ℕ) (keys : List TypedOrder) : Type 0 where
    pub places : key_places keys ≡ range_with_len number (length (key_types keys))
    pub row : place ≡ Row → key_types keys ≡ []
    pub sound : (aggregates : List Ty) → HasFrom aggregates number (key_types keys)
        → AllByRecursion (λ o. Sound aggregates o.expr) keys

  order_well : (groups : List Expr) (place : Place) (number : ℕ) (e : Expr)
      (found : Option Expr)
      → IfOk (option_map_or (typing c s groups place number) found
      (own_order c s groups place number e))
      (Well place number (aggregate_count (unwrap_or found e)))
  order_well groups place number e (Some x) = typing_well known c s scope groups x place number
  order_well groups place number e None =
      either (Well place number (aggregate_count e)) (is_int e.form)
      (Err (wrong_argument (codes "order by"))) (typing c s groups place number e)
      (λ _. tt) (λ _. typing_well known c s scope groups e place number)

  key_joined : (place : Place) (number count : ℕ) (desc : Bool) (x : TypedExpr)
      (keys : List TypedOrder) → Well place number count x
      → AreKeys place (number + count) keys
      → AreKeys place number (record { expr = x; desc = desc } ∷ keys)
  key_joined place number count desc x keys w k = record {
    places = ap (λ l. l ++ key_places keys) w.places
        ∙ (ap (λ l. range_with_len number count ++ l) k.places
        ∙ (numbers_append number count (length (key_types keys))
        ∙ ap (λ n. range_with_len number n) (ap (λ n. n + length (key_types keys)) (sym w.many)
        ∙ sym (length-append (aggregate_types x) (key_types keys)))));
    row = λ p. ap (λ l. l ++ key_types keys) (w.row p) ∙ k.row p;
    sound = λ all h. (
      (w.sound all (from_front all number (aggregate_types x) (key_types keys) h)).1,
      k.sound all (subst (λ n. HasFrom all (number + n) (key_types keys)) w.many
          (from_behind all number (aggregate_types x) (key_types keys) h)),
    );
  }

  keys_sound : (groups : List Expr) (place : Place) (items : List Item) (number : ℕ)
      (os : List OrderItem)
      → IfOk (order_keys c s groups place items number os) (AreKeys place number)
  keys_sound groups place items number [] =
      record { places = refl; row = λ p. refl; sound = λ all h. tt }
  keys_sound groups place items number (o ∷ os) =
      let count = order_count items o.expr in
      let rest = order_keys c s groups place items (number + count) os in
      then (Well place number count) (AreKeys place number)
      (order_typing c s groups place items number o.expr)
      (λ x. result_and_then (λ keys. Ok (record { expr = x; desc = o.desc } ∷ keys)) rest)
      (order_well groups place number o.expr (item_expr items o.expr))
      (λ x w. then (AreKeys place (number + count)) (AreKeys place number) rest
      (λ keys. Ok (record { expr = x; desc = o.desc } ∷ keys))
      (keys_sound groups place items (number + count) os)
      (λ keys k. key_joined place number count o.desc x keys w k))

  -- The whole
  all_types : (statement : Statement) (items : List TypedExpr) (i : AreItems statement items)
      (keys : List TypedOrder)
      → flat_map aggregate_types items ++ key_types keys
      ≡ flat_map aggregate_types i.own ++ key_types keys
  all_types statement items i keys =
      let columns = star_columns c s statement.star in
      ap (λ l. l ++ key_types keys)
      (ap (flat_map aggregate_types) i.is
      ∙ (types_append (star_from c 0 columns) i.own
      ∙ ap (λ l. l ++ flat_map aggregate_types i.own) (star_types c 0 columns)))

  items_in : (statement : Statement) (items : List TypedExpr) (i : AreItems statement items)
      (keys : List TypedOrder) (all : List Ty)
      → all ≡ flat_map aggregate_types i.own ++ key_types keys
      → AllByRecursion (Sound all) items
  items_in statement items i keys all e =
      let own = flat_map aggregate_types i.own in
      let here : HasFrom all 0 (own ++ key_types keys) =
      subst (HasFrom all 0) e (has_own [] all) in
      subst (AllByRecursion (Sound all)) (sym i.is)
      (all_append (Sound all) (star_from c 0 (star_columns c s statement.star)) i.own
      (star_all all statement.star)
      (each (Fine all) (Sound all) (λ x h. h.1) i.own
      (i.well.sound all (from_front all 0 own (key_types keys) here)).0))

  keys_in : (statement : Statement) (items : List TypedExpr) (i : AreItems statement items)
      (keys : List TypedOrder) (all : List Ty)
      → AreKeys (own_place statement) (items_count statement) keys
      → all ≡ flat_map aggregate_types i.own ++ key_types keys
      → AllByRecursion (λ o. Sound all o.expr) keys
  keys_in statement items i keys all k e =
      let own = flat_map aggregate_types i.own in
      let here : HasFrom all 0 (own ++ key_types keys) =
      subst (HasFrom all 0) e (has_own [] all) in
      k.sound all (subst (λ n. HasFrom all n (key_types keys))
      (from_zero (length own) ∙ i.well.many) (from_behind all 0 own (key_types keys) here))

  places_in : (statement : Statement) (items : List TypedExpr) (i : AreItems statement items)
      (keys : List TypedOrder) (all : List Ty)
      → AreKeys (own_place statement) (items_count statement) keys
      → all ≡ flat_map aggregate_types i.own ++ key_types keys
      → flat_map aggregate_places items ++ key_places keys ≡ range_with_len 0 (length all)
  places_in statement items i keys all k e =
      let columns = star_columns c s statement.star in
      let count = items_count statement in
      let own : flat_map aggregate_places items ≡ range_with_len 0 count =
      ap (flat_map aggregate_places) i.is
      ∙ (places_append (star_from c 0 columns) i.own
      ∙ (ap (λ l. l ++ flat_map aggregate_places i.own) (star_places c 0 columns)
      ∙ i.well.places)) in
      let many : count + length (key_types keys) ≡ length all =
      ap (λ n. n + length (key_types keys)) (sym i.well.many)
      ∙ (sym (length-append (flat_map aggregate_types i.own) (key_types keys))
      ∙ ap (λ l. length l) (sym e)) in
      ap (λ l. l ++ key_places keys) own
      ∙ (ap (λ l. range_with_len 0 count ++ l) k.places
      ∙ (ap (λ n. range_with_len 0 count ++ range_with_len n (length (key_types keys)))
      (sym (from_zero count))
      ∙ (numbers_append 0 count (length (key_types keys))
      ∙ ap (λ n. range_with_len 0 n) many)))

  made_statement : (script : List ℕ) (statement : Statement)
      (items conditions groups : List TypedExpr)
      (keys : List TypedOrder) → AreItems statement items → AreTruths conditions
      → AreGroups statement.groups groups
      → AreKeys (own_place statement) (items_count statement) keys
      → IsSoundStatement c (typed_of script statement c s items conditions groups keys)
  made_statement script statement items conditions groups keys i truths g k =
      let t : Typed = typed_of script statement c s items conditions groups keys in
      let all = statement_aggregates t in
      let same = all_types statement items i keys in
      record {
        table = scope.table;
        header = headers_many (λ column. column.name) (header_of script) c
            (star_columns c s statement.star) statement.items i.own i.well.as_many
            ∙ ap (λ l. length l) (sym i.is);
        items = All-from_recursion (Sound all) items (items_in statement items i keys all same);
        conjuncts = All-from_recursion (Sound []) conditions
            (each (IsTruth c (row_types c s.table) []) (Sound []) (λ x h. h.0) conditions truths);
        truths = All-from_recursion (λ x. IsNumeric x.ty) conditions
            (each (IsTruth c (row_types c s.table) []) (λ x. IsNumeric x.ty) (λ x h. h.1) conditions
            truths);
        groups = All-from_recursion (Sound []) groups
            (each (Fine []) (Sound []) (λ x h. h.1) groups g.0);
        orders = All-from_recursion (λ o. Sound all o.expr) keys
            (keys_in statement items i keys all k same);
        places = places_in statement items i keys all k same;
        ungrouped = λ e. (
          none_left groups (g.2 ∙ ap (λ l. length l) (ungrouped_groups statement e)),
          same ∙ (ap (λ l. l ++ key_types keys) (i.well.row (ungrouped_place statement e))
              ∙ k.row (ungrouped_place statement e)),
        );
      }

  pub statement_in : (script : List ℕ) (statement : Statement)
      → IfOk (typed_in script statement c s) (IsSoundStatement c)
  statement_in script statement =
      then (AreItems statement) (IsSoundStatement c) (all_items c s statement)
      (λ items. result_and_then (λ conditions. result_and_then (λ groups.
      result_and_then (λ orders. Ok (typed_of script statement c s items conditions groups orders))
      (all_keys c s statement)) (group_keys c s statement.groups)) (where_of c s statement.filter))
      (items_sound statement)
      (λ items i. then AreTruths (IsSoundStatement c) (where_of c s statement.filter)
      (λ conditions. result_and_then (λ groups.
      result_and_then (λ orders. Ok (typed_of script statement c s items conditions groups orders))
      (all_keys c s statement)) (group_keys c s statement.groups))
      (where_sound statement.filter)
      (λ conditions truths. then (AreGroups statement.groups) (IsSoundStatement c)
      (group_keys c s statement.groups)
      (λ groups. result_and_then (λ orders.
      Ok (typed_of script statement c s items conditions groups orders)) (all_keys c s statement))
      (groups_sound statement.groups)
      (λ groups g. then (AreKeys (own_place statement) (items_count statement)) (IsSoundStatement c)
      (all_keys c s statement)
      (λ orders. Ok (typed_of script statement c s items conditions groups orders))
      (keys_sound statement.groups (own_place statement) statement.items (items_count statement)
      statement.orders)
      (λ keys k. made_statement script statement items conditions groups keys i truths g k))))

pub statement_good : Known → (script : List ℕ) (statement : Statement) (c : Catalog)
    (session : Session) → IsLawful c
    → session.connection.0 < length c.collations
    → IfOk (typed_statement script statement c session) (IsSoundStatement c)
unfolding typed_statement
statement_good known script statement c session lawful within =
    then (IsScope c) (IsSoundStatement c) (scope_in c session statement.table)
    (typed_in script statement c) (scope_lawful c session statement.table lawful within)
    (λ s scope. statement_in known c s scope script statement)

pub statement_sound : Known → (script : List ℕ) (statement : Statement) (c : Catalog)
    (session : Session) (t : Typed) → IsLawful c
    → session.connection.0 < length c.collations
    → typed_statement script statement c session ≡ Ok t → IsSoundStatement c t
statement_sound known script statement c session t lawful within e =
    of_ok (IsSoundStatement c) (typed_statement script statement c session) t
    (statement_good known script statement c session lawful within) e
