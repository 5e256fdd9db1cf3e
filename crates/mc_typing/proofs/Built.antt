-- What a node is made of: it is an AND where its form is one, and its aggregates are those of its
-- operands.
use Rattle.std.proofs.Common.{◌≡◌, ℕ, Bool, true, false, cond, not, ◌||◌, List, [], ◌∷◌, ◌++◌}
use Rattle.std.proofs.Common.{Option, None, Some, append-nil, codes, length, refl, ap, ◌∙◌, arith}
use Rattle.std.specs.List.{flat_map}
use Rattle.std.specs.Option.{option_map_or}
use Rattle.std.specs.Prelude.{IfOk, Result, Ok, Err, option_map, pos, slice_get}
use Rattle.mc_base.specs.Results.{result_and_then}
use Rattle.mc_base.specs.declared.refusal.Refusal.{Refusal}
use Rattle.mc_charset.specs.Names.{same_set, set_named}
use Rattle.mc_charset.specs.declared.charset.Charset.{Charset as Set}
use Rattle.mc_charset.specs.declared.charset.Charset.TheVariants.{Binary as SetBinary}
use Rattle.mc_charset.specs.declared.collation_id.CollId.{CollId}
use Rattle.mc_convert.specs.Conversion.{taken_for}
use Rattle.mc_coerce.specs.declared.operand.Operand.{Operand}
use Rattle.mc_coerce.specs.declared.operand.Purpose.TheVariants.{Text as ToText}
use Rattle.mc_coerce.specs.declared.operand.Purpose.TheVariants.{Compare as ToCompare}
use Rattle.mc_ast.specs.declared.expr.Form.{Form-F}
use Rattle.mc_ast.specs.declared.operators.Cut.{Cut}
use Rattle.mc_catalog.specs.LookUp.{collation_set, number_of}
use Rattle.mc_catalog.specs.declared.catalog.Catalog.{Catalog}
use Rattle.mc_catalog.specs.declared.catalog.ColumnDecl.{ColumnDecl}
use Rattle.mc_values.specs.declared.value.Value.{Value}
use Rattle.mc_typing.specs.declared.callee.Callee.{Callee}
use Rattle.mc_typing.specs.declared.callee.Callee.TheVariants.{Of, Charset, Collation, Coercibility}
use Rattle.mc_typing.specs.declared.callee.Callee.TheVariants.{Version, Weights, Aggregate}
use Rattle.mc_typing.specs.declared.place.Place.{Place}
use Rattle.mc_typing.specs.declared.place.Place.TheVariants.{Row, Group, Key}
use Rattle.mc_typing.specs.declared.scope.Scope.{Scope}
use Rattle.mc_typing.specs.declared.typed.Func.{Func}
use Rattle.mc_typing.specs.declared.typed.Func.TheVariants.{CharLength, Length, Hex, Strcmp, Mod}
use Rattle.mc_typing.specs.declared.typed.Func.TheVariants.{Substring}
use Rattle.mc_typing.specs.declared.typed.Node.{Node, Node-F, out-Node}
use Rattle.mc_typing.specs.declared.typed.Node.TheVariants as node
use Rattle.mc_typing.specs.declared.typed.Ty.{Ty}
use Rattle.mc_typing.specs.declared.typed.Ty.TheVariants.{Int, Str}
use Rattle.mc_typing.specs.declared.typed.TypedExpr.{TypedExpr}
use Rattle.mc_typing.specs.AggregatePlaces.{aggregate_places, own_places}
use Rattle.mc_typing.specs.AggregateTypes.{aggregate_types, is_aggregate_node, types_with}
use Rattle.mc_typing.specs.Aggregates.{is_aggregate, is_aggregate_form, is_constant, shows_type}
use Rattle.mc_typing.specs.Calls.{call, called, fitted, function_call, is_cut, misfits, strcmp}
use Rattle.mc_typing.specs.Calls.{text_call, weights}
use Rattle.mc_typing.specs.Columns.{column, column_at, column_named, column_of_table, found_column}
use Rattle.mc_typing.specs.Columns.{is_table, place_of}
use Rattle.mc_typing.specs.Exprs.{Typing, of_one, typed_node, usual_id}
use Rattle.mc_typing.specs.Forms.{parts}
use Rattle.mc_typing.specs.Functions.{callee_of, takes, trim_of}
use Rattle.mc_typing.specs.Literals.{hex_string, int_const, introduced, introduced_in}
use Rattle.mc_typing.specs.Literals.{national_string}
use Rattle.mc_typing.specs.Literals.{null_const, plain_string, text_value, usual_string}
use Rattle.mc_typing.specs.Messages.{bad_string, no_collation, no_column, no_set, not_grouped}
use Rattle.mc_typing.specs.Messages.{wrong_argument, wrong_count}
use Rattle.mc_typing.specs.Names.{arith_name, cmp_name}
use Rattle.mc_typing.specs.Operands.{is_null, is_number, of_number, text_operand}
use Rattle.mc_typing.specs.Operators.{as_text, collated, collated_by}
use Rattle.mc_typing.specs.Operators.{compared, compared_by, comparison, converted}
use Rattle.mc_typing.specs.Operators.{converted_by_name, escape_of, like, need_number, need_numbers}
use Rattle.mc_typing.specs.Operators.{number_expr, of_numbers, of_one_number, together}
use Rattle.mc_typing.specs.Parts.{node_parts}
use Rattle.mc_typing.specs.Places.{column_in}
use Rattle.mc_typing.specs.Scope.{columns_of, connection_set}
use Rattle.mc_typing.proofs.AggregatePlaces.{aggregate_places_is}
use Rattle.mc_typing.proofs.SoundCalls.{eq_to}
use Rattle.mc_typing.proofs.Ungrouped.{aggregate_types_is}

-- The layer is an AND.
abbrev pub is_and : {X A : Type 0} → Node-F X A → Bool
is_and (Node-F.And xs) = true
is_and _ = false

-- The expression is an AND or none, and its aggregates are those of these others.
pub record IsOver (an_and : Bool) (xs : List TypedExpr) (x : TypedExpr) : Type 0 where
  pub and : is_and (out-Node x.node) ≡ an_and
  pub types : aggregate_types x ≡ flat_map aggregate_types xs
  pub places : aggregate_places x ≡ flat_map aggregate_places xs

abbrev pub IsBuilt : Bool → List TypedExpr → Typing → Type 0
IsBuilt an_and xs t = IfOk t (IsOver an_and xs)

no_own : {X A : Type 0} (l : Node-F X A) → is_aggregate_node l ≡ false → own_places l ≡ []
no_own (Node-F.Aggregate name distinct arg place) h = absurd (cc)
no_own l h = refl

pub over : (n : Node) (l : Node-F Node TypedExpr) (ty : Ty) → out-Node n ≡ l
    → is_aggregate_node l ≡ false
    → IsOver (is_and l) (node_parts l) (record { node = n; ty = ty })
over n l ty e h = record {
  and = ap is_and e;
  types = aggregate_types_is (record { node = n; ty = ty })
      ∙ (ap (λ (m : Node-F Node TypedExpr).
      types_with (is_aggregate_node m) (flat_map aggregate_types (node_parts m)) ty) e
      ∙ ap (λ b. types_with b (flat_map aggregate_types (node_parts l)) ty) h);
  places = aggregate_places_is (record { node = n; ty = ty })
      ∙ (ap (λ (m : Node-F Node TypedExpr).
      flat_map aggregate_places (node_parts m) ++ own_places m) e
      ∙ (ap (λ places. flat_map aggregate_places (node_parts l) ++ places) (no_own l h)
      ∙ append-nil (flat_map aggregate_places (node_parts l))));
}

pub const_over : (v : Value) (ty : Ty) → IsOver false [] (record { node = node.Const v; ty = ty })
const_over v ty = over (node.Const v) (Node-F.Const v) ty (node.outs-Const v) refl

then_built : {A : Type 0} (an_and : Bool) (xs : List TypedExpr) (next : A → Typing)
    (first : Result A Refusal)
    → ((a : A) → IsBuilt an_and xs (next a)) → IsBuilt an_and xs (result_and_then next first)
then_built an_and xs next (Ok a) h = h a
then_built an_and xs next (Err r) h = tt

map_built : {A : Type 0} (an_and : Bool) (xs : List TypedExpr) (next : A → Typing) (none : Typing)
    (found : Option A)
    → ((a : A) → IsBuilt an_and xs (next a)) → IsBuilt an_and xs none
    → IsBuilt an_and xs (option_map_or next found none)
map_built an_and xs next none None h k = k
map_built an_and xs next none (Some a) h k = h a

cond_built : (an_and : Bool) (xs : List TypedExpr) (b : Bool) (t u : Typing)
    → IsBuilt an_and xs t → IsBuilt an_and xs u → IsBuilt an_and xs (cond b t u)
cond_built an_and xs true t u h k = h
cond_built an_and xs false t u h k = k

numbers_built : (an_and : Bool) (op : List ℕ) (n : Node) (xs : List TypedExpr)
    → IsOver an_and xs (number_expr n) → IsBuilt an_and xs (of_numbers op n xs)
numbers_built an_and op n xs h =
    then_built an_and xs (λ done. Ok (number_expr n)) (need_numbers op xs) (λ done. h)

one_built : (op : List ℕ) (n : Node) (x : TypedExpr) → IsOver false (x ∷ []) (number_expr n)
    → IsBuilt false (x ∷ []) (of_one_number op n x)
one_built op n x h =
    then_built false (x ∷ []) (λ done. Ok (number_expr n)) (need_number op x) (λ done. h)

compared_built : (c : Catalog) (op : List ℕ) (make : Option CollId → Node) (xs : List TypedExpr)
    → ((coll : Option CollId) → IsOver false xs (number_expr (make coll)))
    → IsBuilt false xs (compared c op make xs)
compared_built c op make xs h = then_built false xs (λ coll. Ok (number_expr (make coll)))
    (comparison c op xs) h

like_built : (c : Catalog) (escape : Option (List ℕ)) (negated : Bool) (xs : List TypedExpr)
    → IsBuilt false xs (like c escape negated xs)
like_built c escape negated xs = then_built false xs
    (λ e. result_and_then (λ coll. Ok (number_expr (node.Like (Some coll) xs e negated)))
    (compared_by c (codes "like") xs)) (escape_of escape) (λ e.
    then_built false xs (λ coll. Ok (number_expr (node.Like (Some coll) xs e negated)))
    (compared_by c (codes "like") xs)
    (λ coll. over (node.Like (Some coll) xs e negated) (Node-F.Like (Some coll) xs e negated) Int
    (node.outs-Like (Some coll) xs e negated) refl))

introduced_built : (c : Catalog) (name bytes : List ℕ)
    → IsBuilt false [] (introduced c name bytes)
introduced_built c name bytes =
    map_built false [] (λ set. introduced_in c set (Err (bad_string set)) bytes) (Err (no_set name))
    (set_named name)
    (λ set. map_built false [] (λ text. Ok (usual_string c set text)) (Err (bad_string set))
    (taken_for set bytes)
    (λ text. const_over (text_value set text) (usual_string c set text).ty) tt) tt

named_built : (c : Catalog) (columns : List ColumnDecl) (name : List ℕ)
    → IsBuilt false [] (column_named c columns name)
named_built c columns name = of_place (place_of columns name)
  where
    of_column : (place : ℕ) (found : Option ColumnDecl)
        → IsBuilt false [] (option_map_or (λ x. Ok x) (option_map (column_at c place) found) (Err
        (no_column name)))
    of_column place None = tt
    of_column place (Some decl) =
        over (node.Column place) (Node-F.Column place) (column_at c place decl).ty
        (node.outs-Column place) refl

    of_place : (found : Option ℕ) → IsBuilt false [] (elim found [
      | None ↦ Err (no_column name)
      | Some place ↦ option_map_or (λ x. Ok x) (found_column c columns place) (Err (no_column name))
    ])
    of_place None = tt
    of_place (Some place) = of_column place (slice_get columns place)

column_built : (place : Place) (name : List ℕ) (t : Typing) → IsBuilt false [] t
    → IsBuilt false [] (column_in place name t)
column_built Group name t h = then_built false [] (λ x. Err (not_grouped name)) t (λ x. tt)
column_built Row name t h = h
column_built Key name t h = h

-- A number that is taken for a text has the aggregates of the number.
abbrev digits : Catalog → Scope → TypedExpr → TypedExpr
digits c s x = record { node = node.NumberText (connection_set c s) x; ty = Str (of_number c s) }

digits_types : (c : Catalog) (s : Scope) (x : TypedExpr) (b : Bool)
    → aggregate_types (cond b (digits c s x) x) ≡ aggregate_types x
digits_types c s x true = (over (node.NumberText (connection_set c s) x)
    (Node-F.NumberText (connection_set c s) x) (Str (of_number c s))
    (node.outs-NumberText (connection_set c s) x) refl).types
    ∙ append-nil (aggregate_types x)
digits_types c s x false = refl

pub text_types : (c : Catalog) (s : Scope) (x : TypedExpr)
    → aggregate_types (as_text c s x) ≡ aggregate_types x
text_types c s x = digits_types c s x (is_number x.ty)

digits_places : (c : Catalog) (s : Scope) (x : TypedExpr) (b : Bool)
    → aggregate_places (cond b (digits c s x) x) ≡ aggregate_places x
digits_places c s x true = (over (node.NumberText (connection_set c s) x)
    (Node-F.NumberText (connection_set c s) x) (Str (of_number c s))
    (node.outs-NumberText (connection_set c s) x) refl).places
    ∙ append-nil (aggregate_places x)
digits_places c s x false = refl

pub text_places : (c : Catalog) (s : Scope) (x : TypedExpr)
    → aggregate_places (as_text c s x) ≡ aggregate_places x
text_places c s x = digits_places c s x (is_number x.ty)

text_over : (c : Catalog) (s : Scope) (x y : TypedExpr) → IsOver false (as_text c s x ∷ []) y
    → IsOver false (x ∷ []) y
text_over c s x y h = record {
  and = h.and;
  types = h.types ∙ ap (λ types. types ++ []) (text_types c s x);
  places = h.places ∙ ap (λ places. places ++ []) (text_places c s x);
}

text_built : (c : Catalog) (s : Scope) (x : TypedExpr) (t : Typing)
    → IsBuilt false (as_text c s x ∷ []) t → IsBuilt false (x ∷ []) t
text_built c s x (Ok y) h = text_over c s x y h
text_built c s x (Err r) h = tt

collated_built : (c : Catalog) (name : List ℕ) (x : TypedExpr)
    → IsBuilt false (x ∷ []) (collated c name x)
collated_built c name x =
    map_built false (x ∷ []) (λ number. collated_by c name (record { 0 = number }) x)
    (Err (no_collation name)) (number_of c.collations name) (λ n. of_id (record { 0 = n })) tt
  where
    made : (ty : Ty) → IsOver false (x ∷ []) (record { node = node.Collate x; ty = ty })
    made ty = over (node.Collate x) (Node-F.Collate x) ty (node.outs-Collate x) refl

    of_id : (id : CollId) → IsBuilt false (x ∷ []) (collated_by c name id x)
    of_id id = cond_built false (x ∷ []) (is_null x.ty) _ _ (made _)
        (cond_built false (x ∷ [])
        (same_set (collation_set c.collations id.0) (text_operand x.ty).charset) _ _
        (made _) tt)

convert_over : (own : Set) (id : CollId) (x : TypedExpr)
    → IsOver false (x ∷ []) (converted own id x)
convert_over own id x = over (node.Convert own x) (Node-F.Convert own x) (converted own id x).ty
    (node.outs-Convert own x) refl

converted_built : (c : Catalog) (name : List ℕ) (x : TypedExpr)
    → IsBuilt false (x ∷ []) (converted_by_name c (usual_id c) name x)
converted_built c name x = map_built false (x ∷ [])
    (λ set. Ok (converted set (usual_id c set) x)) (Err (no_set name)) (set_named name)
    (λ set. convert_over set (usual_id c set) x) tt

weights_built : (cut : Option Cut) (x : TypedExpr) → IsBuilt false (x ∷ []) (weights cut x)
weights_built cut x = cond_built false (x ∷ []) (is_number x.ty || not (is_cut cut)) _ _ tt
    (over (node.WeightString cut x) (Node-F.WeightString cut x) _ (node.outs-WeightString cut x)
    refl)

call_over : (function : Func) (uses : Option Operand) (xs : List TypedExpr) (ty : Ty)
    → IsOver false xs (record { node = node.Call function uses xs; ty = ty })
call_over function uses xs ty = over (node.Call function uses xs) (Node-F.Call function uses xs) ty
    (node.outs-Call function uses xs) refl

text_call_built : (c : Catalog) (function : Func) (name : List ℕ) (xs : List TypedExpr)
    → IsBuilt false xs (text_call c function name xs)
text_call_built c function name xs =
    then_built false xs _ (together c name ToText xs) (λ a. call_over function (Some a) xs _)

strcmp_built : (c : Catalog) (name : List ℕ) (xs : List TypedExpr)
    → IsBuilt false xs (strcmp c name xs)
strcmp_built c name xs = then_built false xs _ (together c name ToCompare xs)
    (λ a. call_over Strcmp (Some a) xs Int)

fitted_built : (c : Catalog) (s : Scope) (function : Func) (name : List ℕ) (xs : List TypedExpr)
    → IsBuilt false xs (fitted c s function name xs)
fitted_built c s Strcmp name xs = strcmp_built c name xs
fitted_built c s CharLength name xs = call_over CharLength None xs _
fitted_built c s Length name xs = call_over Length None xs _
fitted_built c s Mod name xs = call_over Mod None xs _
fitted_built c s Hex name xs = call_over Hex None xs _
fitted_built c s function name xs = text_call_built c function name xs

function_built : (c : Catalog) (s : Scope) (function : Func) (name : List ℕ) (xs : List TypedExpr)
    → IsBuilt false xs (function_call c s function name xs)
function_built c s function name xs =
    cond_built false xs (misfits function xs) (Err (wrong_argument name))
    (fitted c s function name xs) tt (fitted_built c s function name xs)

called_built : (c : Catalog) (s : Scope) (place : Place) (number : ℕ) (name : List ℕ)
    (callee : Callee) (xs : List TypedExpr) → is_aggregate (Some callee) ≡ false
    → shows_type (Some callee) ≡ false → takes callee (length xs) ≡ true
    → IsBuilt false xs (called c s place number name callee xs)
called_built c s place number name (Of function) xs h k t = function_built c s function name xs
called_built c s place number name Version [] h k t = const_over _ _
called_built c s place number name Version (x ∷ xs) h k t =
    absurd (omega (arith, eq_to (length (x ∷ xs)) 0 t))
called_built c s place number name (Aggregate which) xs h k t = absurd (cc)
called_built c s place number name Charset xs h k t = absurd (cc)
called_built c s place number name Collation xs h k t = absurd (cc)
called_built c s place number name Coercibility xs h k t = absurd (cc)
called_built c s place number name Weights xs h k t = absurd (cc)

call_built : (c : Catalog) (s : Scope) (place : Place) (number : ℕ) (name : List ℕ)
    (callee : Option Callee) (xs : List TypedExpr) → is_aggregate callee ≡ false
    → shows_type callee ≡ false → IsBuilt false xs (call c s place number name callee xs)
call_built c s place number name None xs h k = tt
call_built c s place number name (Some callee) xs h k = of_test (takes callee (length xs)) refl
  where
    of_test : (b : Bool) → takes callee (length xs) ≡ b
        → IsBuilt false xs
        (cond b (called c s place number name callee xs) (Err (wrong_count name)))
    of_test true t = called_built c s place number name callee xs h k t
    of_test false t = tt

-- The form is an AND.
abbrev pub is_and_form : {X A : Type 0} → Form-F X A → Bool
is_and_form (Form-F.And ts) = true
is_and_form _ = false

of_one_built : (next : TypedExpr → Typing) (xs : List TypedExpr) → length xs ≡ 1
    → ((x : TypedExpr) → IsBuilt false (x ∷ []) (next x)) → IsBuilt false xs (of_one next xs)
of_one_built next [] e h = absurd (cc)
of_one_built next (x ∷ []) e h = h x
of_one_built next (x ∷ y ∷ xs) e h = absurd (omega (arith, e))

leaf_built : (xs : List TypedExpr) (t : Typing) → length xs ≡ 0 → IsBuilt false [] t
    → IsBuilt false xs t
leaf_built [] t e h = h
leaf_built (x ∷ xs) t e h = absurd (cc)

-- A node over so many operands as its form has.
pub node_built : {X A : Type 0} (c : Catalog) (s : Scope) (place : Place) (number : ℕ)
    (z : Form-F X A) (xs : List TypedExpr) → is_aggregate_form z ≡ false → is_constant z ≡ false
    → length xs ≡ length (parts z)
    → IsBuilt (is_and_form z) xs (typed_node c s place number z xs)
node_built c s place number (Form-F.Or ts) xs h k e =
    numbers_built false (codes "or") (node.Or xs) xs
    (over (node.Or xs) (Node-F.Or xs) Int (node.outs-Or xs) refl)
node_built c s place number (Form-F.And ts) xs h k e =
    numbers_built true (codes "and") (node.And xs) xs
    (over (node.And xs) (Node-F.And xs) Int (node.outs-And xs) refl)
node_built c s place number (Form-F.Xor l r) xs h k e =
    numbers_built false (codes "xor") (node.Xor xs) xs
    (over (node.Xor xs) (Node-F.Xor xs) Int (node.outs-Xor xs) refl)
node_built c s place number (Form-F.Not t) xs h k e =
    of_one_built (λ x. of_one_number (codes "not") (node.Not x) x) xs e (λ x.
    one_built (codes "not") (node.Not x) x
    (over (node.Not x) (Node-F.Not x) Int (node.outs-Not x) refl))
node_built c s place number (Form-F.Compare op l r) xs h k e =
    compared_built c (cmp_name op) (λ coll. node.Compare op coll xs) xs
    (λ coll. over (node.Compare op coll xs) (Node-F.Compare op coll xs) Int
    (node.outs-Compare op coll xs) refl)
node_built c s place number (Form-F.IsNull t negated) xs h k e =
    of_one_built (λ x. Ok (number_expr (node.IsNull x negated))) xs e (λ x.
    over (node.IsNull x negated) (Node-F.IsNull x negated) Int (node.outs-IsNull x negated) refl)
node_built c s place number (Form-F.Like l r escape negated) xs h k e =
    like_built c escape negated xs
node_built c s place number (Form-F.In t ts negated) xs h k e =
    compared_built c (codes "in") (λ coll. node.In coll xs negated) xs
    (λ coll. over (node.In coll xs negated) (Node-F.In coll xs negated) Int
    (node.outs-In coll xs negated) refl)
node_built c s place number (Form-F.Between t low high negated) xs h k e =
    compared_built c (codes "between") (λ coll. node.Between coll xs negated) xs
    (λ coll. over (node.Between coll xs negated) (Node-F.Between coll xs negated) Int
    (node.outs-Between coll xs negated) refl)
node_built c s place number (Form-F.Arith op l r) xs h k e =
    numbers_built false (arith_name op) (node.Arith op xs) xs
    (over (node.Arith op xs) (Node-F.Arith op xs) Int (node.outs-Arith op xs) refl)
node_built c s place number (Form-F.Neg t) xs h k e =
    of_one_built (λ x. of_one_number (codes "-") (node.Neg x) x) xs e (λ x.
    one_built (codes "-") (node.Neg x) x
    (over (node.Neg x) (Node-F.Neg x) Int (node.outs-Neg x) refl))
node_built c s place number (Form-F.Collate t name) xs h k e =
    of_one_built (λ x. collated c name (as_text c s x)) xs e (λ x.
    text_built c s x (collated c name (as_text c s x)) (collated_built c name (as_text c s x)))
node_built c s place number (Form-F.IntroStr set bytes) xs h k e =
    leaf_built xs (introduced c set bytes) e (introduced_built c set bytes)
node_built c s place number (Form-F.IntroHex set bytes) xs h k e =
    leaf_built xs (introduced c set bytes) e (introduced_built c set bytes)
node_built c s place number (Form-F.Name name) xs h k e =
    leaf_built xs (column_in place name (column c s name)) e
    (column_built place name (column c s name) (named_built c (columns_of c s) name))
node_built c s place number (Form-F.Qualified table name) xs h k e =
    leaf_built xs (column_in place name (column_of_table c s table name)) e
    (column_built place name (column_of_table c s table name)
    (cond_built false [] (is_table c s table) (column c s name) (Err (no_column name))
    (named_built c (columns_of c s) name) tt))
node_built c s place number (Form-F.Convert t set) xs h k e =
    of_one_built (λ x. converted_by_name c (usual_id c) set (as_text c s x)) xs e (λ x.
    text_built c s x (converted_by_name c (usual_id c) set (as_text c s x))
    (converted_built c set (as_text c s x)))
node_built c s place number (Form-F.CastChar t (Some set)) xs h k e =
    of_one_built (λ x. converted_by_name c (usual_id c) set (as_text c s x)) xs e (λ x.
    text_built c s x (converted_by_name c (usual_id c) set (as_text c s x))
    (converted_built c set (as_text c s x)))
node_built c s place number (Form-F.CastChar t None) xs h k e =
    of_one_built (λ x. Ok (converted (connection_set c s) s.connection (as_text c s x))) xs e (λ x.
    text_over c s x (converted (connection_set c s) s.connection (as_text c s x))
    (convert_over (connection_set c s) s.connection (as_text c s x)))
node_built c s place number (Form-F.CastBinary t) xs h k e =
    of_one_built (λ x. Ok (converted SetBinary (record { 0 = 0 }) (as_text c s x))) xs e (λ x.
    text_over c s x (converted SetBinary (record { 0 = 0 }) (as_text c s x))
    (convert_over SetBinary (record { 0 = 0 }) (as_text c s x)))
node_built c s place number Form-F.CountAll xs h k e = absurd (cc)
node_built c s place number (Form-F.CountDistinct t) xs h k e = absurd (cc)
node_built c s place number (Form-F.Trim side removed t) xs h k e =
    function_built c s (trim_of side) (codes "trim") xs
node_built c s place number (Form-F.SubstringFrom t start len) xs h k e =
    function_built c s Substring (codes "substring") xs
node_built c s place number (Form-F.WeightString t cut) xs h k e =
    of_one_built (weights cut) xs e (λ x. weights_built cut x)
node_built c s place number (Form-F.Call name ts) xs h k e =
    call_built c s place number name (callee_of name) xs h k
node_built c s place number (Form-F.Int value) xs h k e =
    leaf_built xs (Ok (int_const value)) e (const_over _ _)
node_built c s place number Form-F.True xs h k e =
    leaf_built xs (Ok (int_const (pos 1))) e (const_over _ _)
node_built c s place number Form-F.False xs h k e =
    leaf_built xs (Ok (int_const (pos 0))) e (const_over _ _)
node_built c s place number Form-F.Null xs h k e = leaf_built xs (Ok null_const) e (const_over _ _)
node_built c s place number (Form-F.Str text) xs h k e =
    leaf_built xs (Ok (plain_string c s text)) e (const_over _ _)
node_built c s place number (Form-F.National text) xs h k e =
    leaf_built xs (Ok (national_string c text)) e (const_over _ _)
node_built c s place number (Form-F.Hex bytes) xs h k e =
    leaf_built xs (Ok (hex_string bytes)) e (const_over _ _)
