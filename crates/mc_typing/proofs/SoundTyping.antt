-- What typing gives is sound wherever the aggregates from its number on have the types of its own.
use Rattle.std.proofs.Common.{◌≡◌, ℕ, suc, zero, ◌+◌, Bool, true, false, cond, List, [], ◌∷◌, ◌++◌}
use Rattle.std.proofs.Common.{Option, None, Some, append-nil, append_assoc, length, length-append}
use Rattle.std.proofs.Common.{refl, sym, ap, ◌∙◌, subst, arith}
use Rattle.std.specs.Prelude.{IfOk, Result, Ok, Err, codes, slice_get}
use Rattle.std.specs.List.{AllByRecursion, flat_map, range_with_len}
use Rattle.mc_ast.specs.declared.expr.Expr.{Expr}
use Rattle.mc_ast.specs.declared.expr.Form.{Form, Form-F, out-Form}
use Rattle.mc_catalog.specs.declared.catalog.Catalog.{Catalog}
use Rattle.mc_coerce.specs.declared.operand.Operand.{Operand}
use Rattle.mc_values.specs.declared.value.Value.{Value}
use Rattle.mc_typing.specs.declared.callee.Callee.{Callee}
use Rattle.mc_typing.specs.declared.callee.Callee.TheVariants as callee
use Rattle.mc_typing.specs.declared.place.Place.{Place}
use Rattle.mc_typing.specs.declared.place.Place.TheVariants.{Row, Group, Key}
use Rattle.mc_typing.specs.declared.scope.Scope.{Scope}
use Rattle.mc_typing.specs.declared.typed.AggName.{AggName}
use Rattle.mc_typing.specs.declared.typed.AggName.TheVariants.{Count, Min, Max, Sum}
use Rattle.mc_typing.specs.declared.typed.Node.{Node, Node-F, out-Node}
use Rattle.mc_typing.specs.declared.typed.Node.TheVariants as node
use Rattle.mc_typing.specs.declared.typed.Ty.{Ty}
use Rattle.mc_typing.specs.declared.typed.Ty.TheVariants.{Int}
use Rattle.mc_typing.specs.declared.typed.TypedExpr.{TypedExpr}
use Rattle.mc_typing.specs.AggregatePlaces.{aggregate_places, own_places}
use Rattle.mc_typing.specs.AggregateTypes.{aggregate_types, is_aggregate_node, types_with}
use Rattle.mc_typing.specs.Aggregates.{aggregate_count, aggregate_expr, aggregate_of}
use Rattle.mc_typing.specs.Aggregates.{aggregate_ty, count_all, form_count, is_aggregate}
use Rattle.mc_typing.specs.Aggregates.{is_aggregate_form, is_constant, shows_type, total, unfit}
use Rattle.mc_typing.specs.Calls.{call, first_operand, shown}
use Rattle.mc_typing.specs.Exprs.{Typing, before, operands, operands_from, taker_of, turned}
use Rattle.mc_typing.specs.Exprs.{plain, typed_node, typing, typings}
use Rattle.mc_typing.specs.Forms.{parts}
use Rattle.mc_typing.specs.Functions.{callee_of, takes, turns_to_text}
use Rattle.mc_typing.specs.Messages.{wrong_argument}
use Rattle.mc_typing.specs.Operands.{IsTyOf}
use Rattle.mc_typing.specs.Parts.{node_parts}
use Rattle.mc_typing.specs.Places.{place_at, place_below}
use Rattle.mc_typing.specs.Scope.{IsScope}
use Rattle.mc_typing.specs.Sound.{IsAggregateTy, IsDistinctIn}
use Rattle.mc_typing.specs.SoundStatements.{row_types}
use Rattle.mc_typing.proofs.AggregatePlaces.{aggregate_places_is, numbers_append}
use Rattle.mc_typing.proofs.Built.{IsOver, const_over, is_and_form, node_built, text_places}
use Rattle.mc_typing.proofs.Built.{text_types}
use Rattle.mc_typing.proofs.Known.{Known}
use Rattle.mc_typing.proofs.SoundCalls.{eq_to}
use Rattle.mc_typing.proofs.SoundNodes.{node_good}
use Rattle.mc_typing.proofs.SoundOperands.{Operands, each, either, numeric_ty, then, turned_cons}
use Rattle.mc_typing.proofs.SoundOperands.{turned_sound}
use Rattle.mc_typing.proofs.SoundTexts.{shown_sound}
use Rattle.mc_typing.proofs.SoundTrees.{IsFine, fine_made}
use Rattle.mc_typing.proofs.Trees.{count_is, expr_induction, typing_is}
use Rattle.mc_typing.proofs.Ungrouped.{aggregate_types_is}

-- From a number on, the members of a list are these.
abbrev pub HasFrom : List Ty → ℕ → List Ty → Type 0
HasFrom all n [] = Unit {0}
HasFrom all n (ty ∷ types) = (slice_get all n ≡ Some ty) × HasFrom all (n + 1) types

pub from_front : (all : List Ty) (n : ℕ) (types others : List Ty)
    → HasFrom all n (types ++ others) → HasFrom all n types
from_front all n [] others h = tt
from_front all n (ty ∷ types) others h = (h.0, from_front all (n + 1) types others h.1)

pub from_behind : (all : List Ty) (n : ℕ) (types others : List Ty)
    → HasFrom all n (types ++ others) → HasFrom all (n + length types) others
from_behind all n [] others h =
    let same : n ≡ n + 0 = omega arith in subst (λ m. HasFrom all m others) same h
from_behind all n (ty ∷ types) others h =
    let same : (n + 1) + length types ≡ n + suc (length types) = omega arith in
    subst (λ m. HasFrom all m others) same (from_behind all (n + 1) types others h.1)

member_at : (front : List Ty) (ty : Ty) (types : List Ty)
    → slice_get (front ++ ty ∷ types) (length front) ≡ Some ty
member_at [] ty types = refl
member_at (t ∷ front) ty types = member_at front ty types

pub has_own : (front types : List Ty) → HasFrom (front ++ types) (length front) types
has_own front [] = tt
has_own front (ty ∷ types) = (
  member_at front ty types,
  subst (λ n. HasFrom (front ++ ty ∷ types) n types) (length-append front (ty ∷ []))
      (subst (λ all. HasFrom all (length (front ++ ty ∷ [])) types)
      (append_assoc front (ty ∷ []) types) (has_own (front ++ ty ∷ []) types)),
)

-- Aggregates that no list has so far
abbrev pub padding : ℕ → List Ty
padding zero = []
padding (suc n) = Int ∷ padding n

pub padded : (n : ℕ) → length (padding n) ≡ n
padded zero = refl
padded (suc n) = ap suc (padded n)

const_types : (v : Value) (ty : Ty) → aggregate_types (record { node = node.Const v; ty = ty }) ≡ []
const_types v ty = (const_over v ty).types

const_places : (v : Value) (ty : Ty)
    → aggregate_places (record { node = node.Const v; ty = ty }) ≡ []
const_places v ty = (const_over v ty).places

own_types : (n : Node) (l : Node-F Node TypedExpr) (ty : Ty) → out-Node n ≡ l
    → is_aggregate_node l ≡ true
    → aggregate_types (record { node = n; ty = ty })
    ≡ flat_map aggregate_types (node_parts l) ++ ty ∷ []
own_types n l ty e h = aggregate_types_is (record { node = n; ty = ty })
    ∙ (ap (λ (m : Node-F Node TypedExpr).
    types_with (is_aggregate_node m) (flat_map aggregate_types (node_parts m)) ty) e
    ∙ ap (λ b. types_with b (flat_map aggregate_types (node_parts l)) ty) h)

places_own : (n : Node) (l : Node-F Node TypedExpr) (ty : Ty) → out-Node n ≡ l
    → aggregate_places (record { node = n; ty = ty })
    ≡ flat_map aggregate_places (node_parts l) ++ own_places l
places_own n l ty e = aggregate_places_is (record { node = n; ty = ty })
    ∙ ap (λ (m : Node-F Node TypedExpr).
    flat_map aggregate_places (node_parts m) ++ own_places m) e

turned_places : (c : Catalog) (s : Scope) (b : Bool) (x : TypedExpr)
    → aggregate_places (turned c s b x) ≡ aggregate_places x
turned_places c s true x = text_places c s x
turned_places c s false x = refl

turned_types : (c : Catalog) (s : Scope) (b : Bool) (x : TypedExpr)
    → aggregate_types (turned c s b x) ≡ aggregate_types x
turned_types c s true x = text_types c s x
turned_types c s false x = refl

module _ (known : Known) (c : Catalog) (s : Scope) (scope : IsScope c s) where
  abbrev pub Fine : List Ty → TypedExpr → Type 0
  Fine aggregates x = IsFine c (row_types c s.table) aggregates x

  -- Typed at a place and from a number on, with so many aggregates, whose places go on from that
  -- number: in a row there are none, and the expression is sound where they have their types.
  pub record IsWell (place : Place) (number count : ℕ) (x : TypedExpr) : Type 0 where
    pub many : length (aggregate_types x) ≡ count
    pub places : aggregate_places x ≡ range_with_len number count
    pub row : place ≡ Row → aggregate_types x ≡ []
    pub sound : (aggregates : List Ty) → HasFrom aggregates number (aggregate_types x)
        → Fine aggregates x

  -- The same of operands
  pub record AreWell (place : Place) (number count : ℕ) (taker : Option Callee) (from size : ℕ)
      (xs : List TypedExpr) : Type 0 where
    pub many : length (flat_map aggregate_types xs) ≡ count
    pub places : flat_map aggregate_places xs ≡ range_with_len number count
    pub row : place ≡ Row → flat_map aggregate_types xs ≡ []
    pub as_many : length xs ≡ size
    pub sound : (aggregates : List Ty)
        → HasFrom aggregates number (flat_map aggregate_types xs)
        → Operands c s scope aggregates taker from size xs

  -- Operands
  module _ (groups : List Expr) (place : Place) where
    abbrev IsTyped : Expr → Type 0
    IsTyped e = (number : ℕ)
        → IfOk (typing c s groups place number e) (IsWell place number (aggregate_count e))

    joined : (taker : Option Callee) (from number count others size : ℕ) (x : TypedExpr)
        (xs : List TypedExpr) → IsWell place number count x
        → AreWell place (number + count) others taker (from + 1) size xs
        → AreWell place number (count + others) taker from (suc size)
        (turned c s (turns_to_text taker from) x ∷ xs)
    joined taker from number count others size x xs own rest =
        let y : TypedExpr = turned c s (turns_to_text taker from) x in
        let more : List Ty = flat_map aggregate_types xs in
        let same : aggregate_types y ≡ aggregate_types x =
        turned_types c s (turns_to_text taker from) x in
        let many : length (aggregate_types y) ≡ count = ap (λ l. length l) same ∙ own.many in
        record {
          many = length-append (aggregate_types y) more
              ∙ (ap (λ n. n + length more) many ∙ ap (λ n. count + n) rest.many);
          places = ap (λ l. l ++ flat_map aggregate_places xs)
              (turned_places c s (turns_to_text taker from) x ∙ own.places)
              ∙ (ap (λ l. range_with_len number count ++ l) rest.places
              ∙ numbers_append number count others);
          row = λ p. ap (λ l. l ++ more) (same ∙ own.row p) ∙ rest.row p;
          as_many = ap suc rest.as_many;
          sound = λ all h.
              let fine : Fine all x = own.sound all
              (subst (HasFrom all number) same
              (from_front all number (aggregate_types y) more h)) in
              let o = rest.sound all (subst (λ n. HasFrom all (number + n) more) many
              (from_behind all number (aggregate_types y) more h)) in
              let made = turned_sound c s scope all (turns_to_text taker from) x fine in (
                (made.0, o.0),
                turned_cons taker from y xs made.1 o.1,
                ap suc o.2,
              );
        }

    pub operands_well : (taker : Option Callee) (from number : ℕ) (es : List Expr)
        → AllByRecursion IsTyped es
        → IfOk (operands_from c s taker from (typings c s groups place number es))
        (AreWell place number (total aggregate_count es) taker from (length es))
    operands_well taker from number [] h = record {
      many = refl;
      places = refl;
      row = λ p. refl;
      as_many = refl;
      sound = λ all k. (tt, (λ n d lt e. absurd (omega (arith, lt))), refl);
    }
    operands_well taker from number (e ∷ es) h =
        let count = aggregate_count e in
        let others = total aggregate_count es in
        let rest = operands_from c s taker (from + 1)
        (typings c s groups place (number + count) es) in
        then (IsWell place number count)
        (AreWell place number (count + others) taker from (suc (length es)))
        (typing c s groups place number e)
        (λ x. before (turned c s (turns_to_text taker from) x) rest) (h.0 number)
        (λ x own. then (AreWell place (number + count) others taker (from + 1) (length es))
        (AreWell place number (count + others) taker from (suc (length es))) rest
        (λ xs. Ok (turned c s (turns_to_text taker from) x ∷ xs))
        (operands_well taker (from + 1) (number + count) es h.1)
        (λ xs more. joined taker from number count others (length es) x xs own more))

  -- A node that is neither a constant nor an aggregate
  plain_well : (place below : Place) (number count size : ℕ) (taker : Option Callee) (b : Bool)
      (xs : List TypedExpr) (t : Typing) → (place ≡ Row → below ≡ Row)
      → AreWell below number count taker 0 size xs → IfOk t (IsOver b xs)
      → ((all : List Ty) → Operands c s scope all taker 0 size xs → IfOk t (Fine all))
      → IfOk t (IsWell place number count)
  plain_well place below number count size taker b xs (Err r) p w o g = tt
  plain_well place below number count size taker b xs (Ok x) p w o g = record {
    many = ap (λ l. length l) o.types ∙ w.many;
    places = o.places ∙ w.places;
    row = λ e. o.types ∙ w.row (p e);
    sound = λ all h. g all (w.sound all (subst (HasFrom all number) o.types h));
  }

  -- A constant
  const_well : (place : Place) (number : ℕ) (which : Callee) (a : Operand)
      → IsWell place number 0 (shown c which a)
  const_well place number which a = record {
    many = ap (λ l. length l) (none which);
    places = nowhere which;
    row = λ p. none which;
    sound = λ all h. shown_sound known c s scope all which a;
  }
    where
      none : (which : Callee) → aggregate_types (shown c which a) ≡ []
      none callee.Charset = const_types _ _
      none callee.Collation = const_types _ _
      none which = const_types _ _

      nowhere : (which : Callee) → aggregate_places (shown c which a) ≡ []
      nowhere callee.Charset = const_places _ _
      nowhere callee.Collation = const_places _ _
      nowhere which = const_places _ _

  shown_well : (place at : Place) (number own : ℕ) (name : List ℕ) (which : Option Callee)
      (xs : List TypedExpr) → shows_type which ≡ true
      → IfOk (call c s at own name which xs) (IsWell place number 0)
  shown_well place at number own name None xs e = tt
  shown_well place at number own name (Some callee.Charset) xs e =
      either (IsWell place number 0) (takes callee.Charset (length xs)) _ _
      (λ _. const_well place number callee.Charset (first_operand c s xs)) (λ _. tt)
  shown_well place at number own name (Some callee.Collation) xs e =
      either (IsWell place number 0) (takes callee.Collation (length xs)) _ _
      (λ _. const_well place number callee.Collation (first_operand c s xs)) (λ _. tt)
  shown_well place at number own name (Some callee.Coercibility) xs e =
      either (IsWell place number 0) (takes callee.Coercibility (length xs)) _ _
      (λ _. const_well place number callee.Coercibility (first_operand c s xs)) (λ _. tt)
  shown_well place at number own name (Some (callee.Of function)) xs e = absurd (cc)
  shown_well place at number own name (Some callee.Version) xs e = absurd (cc)
  shown_well place at number own name (Some callee.Weights) xs e = absurd (cc)
  shown_well place at number own name (Some (callee.Aggregate which)) xs e = absurd (cc)

  constant_well : {X A : Type 0} (place at : Place) (number own : ℕ) (z : Form-F X A)
      (xs : List TypedExpr) → is_constant z ≡ true
      → IfOk (typed_node c s at own z xs) (IsWell place number 0)
  constant_well place at number own (Form-F.Call name ts) xs e =
      shown_well place at number own name (callee_of name) xs e
  constant_well place at number own _ xs e = absurd (cc)

  -- An aggregate
  count_well : (place : Place) (number own : ℕ) → own ≡ number → (place ≡ Row → ⊥)
      → IsWell place number 1
      (record { node = node.Aggregate Count false None own; ty = Int })
  count_well place number own e away =
      let types = own_types (node.Aggregate Count false None own)
      (Node-F.Aggregate Count false None own) Int (node.outs-Aggregate Count false None own) refl in
      record {
        many = ap (λ l. length l) types;
        places = places_own (node.Aggregate Count false None own)
            (Node-F.Aggregate Count false None own) Int (node.outs-Aggregate Count false None own)
            ∙ ap (λ n. n ∷ []) e;
        row = λ p. absurd (away p);
        sound = λ all h.
            let at : HasFrom all number (Int ∷ []) = subst (HasFrom all number) types h in
            subst (λ (n : Node). Fine all (record { node = n; ty = Int }))
            (node.rolls-Aggregate Count false None own)
            (fine_made c (row_types c s.table) all (Node-F.Aggregate Count false None own) Int tt
            (subst (λ n. slice_get all n ≡ Some Int) (sym e) at.0, refl) tt);
      }

  aggregate_type : (name : AggName) (ty : Ty) → unfit name ty ≡ false
      → IsAggregateTy name ty (aggregate_ty name ty)
  aggregate_type Count ty e = refl
  aggregate_type Sum ty e = (numeric_ty ty e, refl)
  aggregate_type Min ty e = refl
  aggregate_type Max ty e = refl

  aggregate_typed : (name : AggName) (ty : Ty) → IsTyOf c ty → IsTyOf c (aggregate_ty name ty)
  aggregate_typed Count ty h = tt
  aggregate_typed Sum ty h = tt
  aggregate_typed Min ty h = h
  aggregate_typed Max ty h = h

  -- Over an argument without aggregates
  made_well : (place : Place) (number own count size : ℕ) (taker : Option Callee) (name : AggName)
      (distinct : Bool) (x : TypedExpr) → own ≡ number + count → (place ≡ Row → ⊥)
      → IsDistinctIn name distinct → unfit name x.ty ≡ false
      → AreWell Row number count taker 0 size (x ∷ [])
      → IsWell place number (count + 1) (aggregate_expr own name distinct x)
  made_well place number own count size taker name distinct x e away once fit w =
      let ty : Ty = aggregate_ty name x.ty in
      let none : aggregate_types x ++ [] ≡ [] = w.row refl in
      let no : aggregate_types x ≡ [] = sym (append-nil (aggregate_types x)) ∙ none in
      let zero_count : 0 ≡ count = sym (ap (λ (l : List Ty). length l) none) ∙ w.many in
      let first : number ≡ own =
      omega (arith, e, zero_count) in
      let types : aggregate_types (aggregate_expr own name distinct x) ≡ ty ∷ [] =
      own_types (node.Aggregate name distinct (Some x) own)
      (Node-F.Aggregate name distinct (Some x) own) ty
      (node.outs-Aggregate name distinct (Some x) own) refl ∙ ap (λ l. l ++ ty ∷ []) none in
      record {
        many = ap (λ l. length l) types ∙ ap (λ n. n + 1) zero_count;
        places = places_own (node.Aggregate name distinct (Some x) own)
            (Node-F.Aggregate name distinct (Some x) own) ty
            (node.outs-Aggregate name distinct (Some x) own)
            ∙ (ap (λ l. l ++ own ∷ []) w.places
            ∙ (ap (λ n. range_with_len number count ++ n ∷ []) e
            ∙ numbers_append number count 1));
        row = λ p. absurd (away p);
        sound = λ all h.
            let at : HasFrom all number (ty ∷ []) = subst (HasFrom all number) types h in
            let fine : Fine all x =
            (w.sound all (subst (HasFrom all number) (sym none) tt)).0.0 in
            subst (λ (n : Node). Fine all (record { node = n; ty = ty }))
            (node.rolls-Aggregate name distinct (Some x) own)
            (fine_made c (row_types c s.table) all (Node-F.Aggregate name distinct (Some x) own) ty
            (aggregate_typed name x.ty fine.0) (
              subst (λ n. slice_get all n ≡ Some ty) first at.0,
              (aggregate_type name x.ty fit, once, no),
            ) (fine, tt));
      }

  aggregate_well : (place : Place) (number own count size : ℕ) (taker : Option Callee)
      (op : List ℕ) (name : AggName) (distinct : Bool) (x : TypedExpr) → own ≡ number + count
      → IsDistinctIn name distinct → AreWell Row number count taker 0 size (x ∷ [])
      → IfOk (aggregate_of place own op name distinct x) (IsWell place number (count + 1))
  aggregate_well Row number own count size taker op name distinct x e once w = tt
  aggregate_well Group number own count size taker op name distinct x e once w =
      either (IsWell Group number (count + 1)) (unfit name x.ty) (Err (wrong_argument op))
      (Ok (aggregate_expr own name distinct x)) (λ _. tt)
      (λ fit. made_well Group number own count size taker name distinct x e (λ p. cc) once fit w)
  aggregate_well Key number own count size taker op name distinct x e once w =
      either (IsWell Key number (count + 1)) (unfit name x.ty) (Err (wrong_argument op))
      (Ok (aggregate_expr own name distinct x)) (λ _. tt)
      (λ fit. made_well Key number own count size taker name distinct x e (λ p. cc) once fit w)

  -- Called by its name
  call_well : (place : Place) (number own count size : ℕ) (taker : Option Callee)
      (name : List ℕ) (which : Option Callee) (xs : List TypedExpr) → own ≡ number + count
      → is_aggregate which ≡ true → AreWell Row number count taker 0 size xs
      → IfOk (call c s place own name which xs) (IsWell place number (count + 1))
  call_well place number own count size taker name None xs e a w = tt
  call_well place number own count size taker name (Some (callee.Aggregate agg)) [] e a w = tt
  call_well place number own count size taker name (Some (callee.Aggregate agg)) (x ∷ []) e a w =
      aggregate_well place number own count size taker name agg false x e (once agg) w
    where
      once : (agg : AggName) → IsDistinctIn agg false
      once Count = tt
      once Min = tt
      once Max = tt
      once Sum = tt
  call_well place number own count size taker name (Some (callee.Aggregate agg)) (x ∷ y ∷ xs)
      e a w =
      either (IsWell place number (count + 1))
      (takes (callee.Aggregate agg) (length (x ∷ y ∷ xs))) _ _
      (λ many. absurd (omega (arith, eq_to (length (x ∷ y ∷ xs)) 1 many))) (λ _. tt)
  call_well place number own count size taker name (Some (callee.Of function)) xs e a w =
      absurd (cc)
  call_well place number own count size taker name (Some callee.Charset) xs e a w = absurd (cc)
  call_well place number own count size taker name (Some callee.Collation) xs e a w = absurd (cc)
  call_well place number own count size taker name (Some callee.Coercibility) xs e a w = absurd (cc)
  call_well place number own count size taker name (Some callee.Version) xs e a w = absurd (cc)
  call_well place number own count size taker name (Some callee.Weights) xs e a w = absurd (cc)

  all_well : (place : Place) (number own : ℕ) → own ≡ number
      → IfOk (count_all place own) (IsWell place number 1)
  all_well Row number own e = tt
  all_well Group number own e = count_well Group number own e (λ p. cc)
  all_well Key number own e = count_well Key number own e (λ p. cc)

  own_well : {X A : Type 0} (place : Place) (number count : ℕ) (z : Form-F X A)
      (xs : List TypedExpr) → is_aggregate_form z ≡ true
      → AreWell Row number count (taker_of z) 0 (length (parts z)) xs
      → IfOk (typed_node c s place (number + count) z xs) (IsWell place number (count + 1))
  own_well place number count Form-F.CountAll [] h w =
      let none : 0 ≡ count = w.many in
      let same : number + count ≡ number = omega (arith, none) in
      subst (λ n. IfOk (count_all place (number + count)) (IsWell place number (n + 1))) none
      (all_well place number (number + count) same)
  own_well place number count Form-F.CountAll (x ∷ xs) h w = absurd (let many = w.as_many in cc)
  own_well place number count (Form-F.CountDistinct t) [] h w = absurd (let many = w.as_many in cc)
  own_well place number count (Form-F.CountDistinct t) (x ∷ []) h w =
      aggregate_well place number (number + count) count 1 plain
      (codes "count") Count true x refl tt w
  own_well place number count (Form-F.CountDistinct t) (x ∷ y ∷ xs) h w =
      absurd (let many = w.as_many in omega (arith, many))
  own_well place number count (Form-F.Call name ts) xs h w =
      call_well place number (number + count) count (length ts) (callee_of name) name
      (callee_of name) xs refl h w
  own_well place number count _ xs h w = absurd (cc)

  by_tests : (place : Place) (number below : ℕ) (z : Form-F Form Expr) (xs : List TypedExpr)
      → AreWell (place_below place z) number below (taker_of z) 0 (length (parts z)) xs
      → (b a : Bool) → is_constant z ≡ b → is_aggregate_form z ≡ a
      → IfOk (typed_node c s place (number + below) z xs)
      (IsWell place number (form_count z below))
  by_tests place number below z xs w true a e h =
      let none : 0 ≡ form_count z below =
      ap (λ k. cond k 0 (cond (is_aggregate_form z) (below + 1) below)) (sym e) in
      subst (λ n. IfOk (typed_node c s place (number + below) z xs) (IsWell place number n)) none
      (constant_well place place number (number + below) z xs e)
  by_tests place number below z xs w false true e h =
      let one : below + 1 ≡ form_count z below =
      ap (λ k. cond k (below + 1) below) (sym h)
      ∙ ap (λ k. cond k 0 (cond (is_aggregate_form z) (below + 1) below)) (sym e) in
      subst (λ n. IfOk (typed_node c s place (number + below) z xs) (IsWell place number n)) one
      (own_well place number below z xs h
      (subst (λ k. AreWell (cond k Row place) number below (taker_of z) 0 (length (parts z)) xs)
      h w))
  by_tests place number below z xs w false false e h =
      let same : below ≡ form_count z below =
      ap (λ k. cond k (below + 1) below) (sym h)
      ∙ ap (λ k. cond k 0 (cond (is_aggregate_form z) (below + 1) below)) (sym e) in
      subst (λ n. IfOk (typed_node c s place (number + below) z xs) (IsWell place number n)) same
      (plain_well place (place_below place z) number below (length (parts z)) (taker_of z)
      (is_and_form z) xs (typed_node c s place (number + below) z xs)
      (λ p. ap (λ k. cond k Row place) h ∙ p) w
      (node_built c s place (number + below) z xs h e w.as_many)
      (λ all o. node_good known c s scope all place (number + below) z xs h o))

  -- A node
  node_well : (place : Place) (number : ℕ) (z : Form-F Form Expr) (xs : List TypedExpr)
      → AreWell (place_below place z) number (total aggregate_count (parts z)) (taker_of z) 0
      (length (parts z)) xs
      → IfOk (typed_node c s place (number + total aggregate_count (parts z)) z xs)
      (IsWell place number (form_count z (total aggregate_count (parts z))))
  node_well place number z xs w =
      by_tests place number (total aggregate_count (parts z)) z xs w (is_constant z)
      (is_aggregate_form z) refl refl

  -- Trees
  module _ (groups : List Expr) where
    abbrev IsGood : Expr → Type 0
    IsGood e = (place : Place) (number : ℕ)
        → IfOk (typing c s groups place number e) (IsWell place number (aggregate_count e))

    row_at : (place : Place) (e : Expr) → place ≡ Row → place_at groups place e ≡ Row
    row_at Row e p = refl
    row_at Group e p = absurd (cc)
    row_at Key e p = absurd (cc)

    outer : (place own : Place) (number count : ℕ) (t : Typing) → (place ≡ Row → own ≡ Row)
        → IfOk t (IsWell own number count) → IfOk t (IsWell place number count)
    outer place own number count (Ok x) p w =
        record { many = w.many; places = w.places; row = λ e. w.row (p e); sound = w.sound }
    outer place own number count (Err r) p w = tt

    step : (e : Expr) → AllByRecursion IsGood (parts (out-Form e.form)) → IsGood e
    step e h place number =
        let z = out-Form e.form in
        let own = place_at groups place e in
        let below = place_below own z in
        let count = total aggregate_count (parts z) in
        outer place own number (aggregate_count e) (typing c s groups place number e)
        (row_at place e)
        (subst (λ n. IfOk (typing c s groups place number e) (IsWell own number n))
        (sym (count_is e))
        (subst (λ t. IfOk t (IsWell own number (form_count z count)))
        (sym (typing_is c s groups e place number))
        (then (AreWell below number count (taker_of z) 0 (length (parts z)))
        (IsWell own number (form_count z count))
        (operands c s (taker_of z) (typings c s groups below number (parts z)))
        (typed_node c s own (number + count) z)
        (operands_well groups below (taker_of z) 0 number (parts z)
        (each IsGood (IsTyped groups below) (λ d k n. k below n) (parts z) h))
        (λ xs w. node_well own number z xs w))))

    pub typing_well : (e : Expr) (place : Place) (number : ℕ)
        → IfOk (typing c s groups place number e) (IsWell place number (aggregate_count e))
    typing_well = expr_induction IsGood step

pub of_ok : {A E : Type 0} (P : A → Type 0) (r : Result A E) (a : A) → IfOk r P → r ≡ Ok a → P a
of_ok P r a h e = subst (λ o. IfOk o P) e h

pub typing_typed : Known → (c : Catalog) (s : Scope) (groups : List Expr) (place : Place)
    (number : ℕ) (expr : Expr) (x : TypedExpr) → IsScope c s
    → typing c s groups place number expr ≡ Ok x → IsTyOf c x.ty
typing_typed known c s groups place number expr x scope e =
    let w = of_ok (IsWell known c s scope place number (aggregate_count expr))
    (typing c s groups place number expr) x (typing_well known c s scope groups expr place number)
    e in
    let all = padding number ++ aggregate_types x in
    (w.sound all (subst (λ n. HasFrom all n (aggregate_types x)) (padded number)
    (has_own (padding number) (aggregate_types x)))).0
