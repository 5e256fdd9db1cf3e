-- The conjuncts of a tree are those of its typed expression.
use Rattle.std.proofs.Common.{◌≡◌, ℕ, ◌+◌, List, [], ◌∷◌, ◌++◌, Bool, true, false, ◌||◌, Option}
use Rattle.std.proofs.Common.{Some, None, codes, map, refl, sym, ap, ◌∙◌, append_assoc}
use Rattle.std.proofs.Common.{append-nil, subst}
use Rattle.std.specs.Prelude.{Result, Ok, Err, if◌then◌else◌}
use Rattle.std.specs.List.{flat_map}
use Rattle.mc_base.specs.Results.{result_and_then}
use Rattle.mc_base.specs.declared.refusal.Refusal.{Refusal}
use Rattle.mc_ast.specs.declared.expr.Expr.{Expr}
use Rattle.mc_ast.specs.declared.expr.Form.{out-Form}
use Rattle.mc_ast.specs.declared.expr.Form.TheVariants as form
use Rattle.mc_catalog.specs.declared.catalog.Catalog.{Catalog}
use Rattle.mc_typing.specs.declared.place.Place.TheVariants.{Row}
use Rattle.mc_typing.specs.declared.scope.Scope.{Scope}
use Rattle.mc_typing.specs.declared.typed.Node.{Node, Node-F, map-Node, out-Node, para-Node}
use Rattle.mc_typing.specs.declared.typed.Node.{para-roll-Node, roll-Node, roll-out-Node}
use Rattle.mc_typing.specs.declared.typed.Node.TheVariants as node
use Rattle.mc_typing.specs.declared.typed.Ty.TheVariants.{Int}
use Rattle.mc_typing.specs.declared.typed.TypedExpr.{TypedExpr, TypedExpr-F, out-TypedExpr}
use Rattle.mc_typing.specs.declared.typed.TypedExpr.{para-roll-TypedExpr, roll-TypedExpr}
use Rattle.mc_typing.specs.declared.typed.TypedExpr.{roll-out-TypedExpr}
use Rattle.mc_typing.specs.Exprs.{Typing, before, in_row, operands, operands_from, plain}
use Rattle.mc_typing.specs.Gathered.{alone, gathered, gathered_all, judged}
use Rattle.mc_typing.specs.Messages.{wrong_argument}
use Rattle.mc_typing.specs.Operands.{is_text}
use Rattle.mc_typing.specs.Operators.{number_expr, of_numbers, some_text}
use Rattle.mc_typing.specs.Statements.{and_members, condition, conjuncts, own_members, where_of}
use Rattle.mc_typing.specs.Walk.{form_typing}
use Rattle.mc_typing.specs.Wanted.{IsGathered, IsWanted}
use Rattle.mc_typing.specs.declared.fault.TypeFault.{TypeFault}
use Rattle.mc_typing.specs.declared.fault.TypeFault.TheVariants.{Refused, NoMemory}
use Rattle.mc_typing.proofs.Alone.{IsAlone, tree_alone}
use Rattle.mc_typing.proofs.Built.{is_and, is_and_form}
use Rattle.mc_typing.proofs.RowNumbers.{row_typings}
use Rattle.mc_typing.proofs.Trees.{typing_is}

-- The conjuncts of a typed expression

abbrev own : TypedExpr-F (Node × Option (List TypedExpr)) (TypedExpr × List TypedExpr)
    → List TypedExpr
own e = own_members e.node.0 (record { node = e.node.0; ty = e.ty }) e.node.1

abbrev members_of : Node → Option (List TypedExpr)
members_of n = para-Node (Option (List TypedExpr)) (List TypedExpr) and_members own n

abbrev taken : Node-F Node TypedExpr
    → Node-F (Node × Option (List TypedExpr)) (TypedExpr × List TypedExpr)
taken z = map-Node Node TypedExpr (Node × Option (List TypedExpr)) (TypedExpr × List TypedExpr)
    (λ n. (n, members_of n)) (λ x. (x, conjuncts x)) z

members_rolled : (z : Node-F Node TypedExpr) → members_of (roll-Node z) ≡ and_members (taken z)
unfolding conjuncts
members_rolled z = para-roll-Node (Option (List TypedExpr)) (List TypedExpr) and_members own z

members_are : (n : Node) → members_of n ≡ and_members (taken (out-Node n))
members_are n = ap members_of (sym (roll-out-Node n)) ∙ members_rolled (out-Node n)

conjuncts_rolled : (x : TypedExpr-F Node TypedExpr) → conjuncts (roll-TypedExpr x)
    ≡ own_members x.node (record { node = x.node; ty = x.ty }) (members_of x.node)
unfolding conjuncts
conjuncts_rolled x = para-roll-TypedExpr (Option (List TypedExpr))
    (List TypedExpr) and_members own x

not_and : (z : Node-F Node TypedExpr) → is_and z ≡ false → and_members (taken z) ≡ None
not_and (Node-F.And xs) h = cc
not_and _ h = refl

alone_members : (x : TypedExpr) → is_and (out-Node x.node) ≡ false → members_of x.node ≡ None
alone_members x h = members_are x.node ∙ not_and (out-Node x.node) h

conjuncts_alone : (x : TypedExpr) → is_and (out-Node x.node) ≡ false → conjuncts x ≡ x ∷ []
conjuncts_alone x h = ap conjuncts (sym (roll-out-TypedExpr x))
    ∙ (conjuncts_rolled (out-TypedExpr x)
    ∙ (ap (own_members x.node (record { node = x.node; ty = x.ty })) (alone_members x h)
    ∙ ap (λ y. y ∷ []) (roll-out-TypedExpr x)))

each_taken : (xs : List TypedExpr)
    → flat_map (λ (p : TypedExpr × List TypedExpr). p.1) (map
    (λ x. (x, conjuncts x)) xs) ≡ flat_map conjuncts xs
each_taken [] = refl
each_taken (x ∷ xs) = ap (λ ys. conjuncts x ++ ys) (each_taken xs)

conjuncts_and : (xs : List TypedExpr)
    → conjuncts (number_expr (node.And xs)) ≡ flat_map conjuncts xs
conjuncts_and xs = conjuncts_rolled (record { node = node.And xs; ty = Int })
    ∙ (ap (own_members (node.And xs) (number_expr (node.And xs)))
    (members_are (node.And xs) ∙ ap (λ z. and_members (taken z)) (node.outs-And xs))
    ∙ each_taken xs)

-- An expression alone

alone_is : (xs : List TypedExpr) (t : Typing) → IsAlone t → gathered xs t ≡ alone xs t
alone_is xs (Ok x) h = ap (λ ys. Ok (xs ++ ys, is_text x.ty)) (conjuncts_alone x h)
alone_is xs (Err r) h = refl

pub gathered_alone : (c : Catalog) (s : Scope) (e : Expr) (xs : List TypedExpr)
    → is_and_form (out-Form e.form) ≡ false
    → gathered xs (in_row c s e) ≡ alone xs (in_row c s e)
gathered_alone c s e xs h = alone_is xs (in_row c s e) (tree_alone c s e h)

-- The members of an AND

abbrev gathering : List TypedExpr → Bool → Result (List TypedExpr) Refusal
    → Result (List TypedExpr × Bool) Refusal
gathering xs text others =
    result_and_then (λ ys. Ok (xs ++ flat_map conjuncts ys, text || some_text ys)) others

or_assoc : (a b d : Bool) → ((a || b) || d) ≡ (a || (b || d))
or_assoc true b d = refl
or_assoc false b d = refl

or_false : (a : Bool) → a ≡ (a || false)
or_false true = refl
or_false false = refl

gathering_before : (xs : List TypedExpr) (text : Bool) (x : TypedExpr) (others : Result
    (List TypedExpr) Refusal)
    → gathering (xs ++ conjuncts x) (text || is_text x.ty) others ≡ gathering xs text
    (before x others)
gathering_before xs text x (Ok ys) =
    ap (λ zs. Ok (zs, (text || is_text x.ty) || some_text ys)) (append_assoc xs (conjuncts x)
    (flat_map conjuncts ys))
    ∙ ap (λ b. Ok (xs ++ (conjuncts x ++ flat_map conjuncts ys), b)) (or_assoc text (is_text x.ty)
    (some_text ys))
gathering_before xs text x (Err r) = refl

all_gathered : (c : Catalog) (s : Scope) (n : ℕ) (xs : List TypedExpr) (text : Bool)
    (ts : List Typing)
    → gathered_all xs text ts ≡ gathering xs text (operands_from c s plain n ts)
all_gathered c s n xs text [] =
    ap (λ ys. Ok (ys, text)) (sym (append-nil xs)) ∙ ap (λ b. Ok (xs ++ [], b)) (or_false text)
all_gathered c s n xs text (Ok x ∷ ts) =
    all_gathered c s (n + 1) (xs ++ conjuncts x) (text || is_text x.ty) ts
    ∙ gathering_before xs text x (operands_from c s plain (n + 1) ts)
all_gathered c s n xs text (Err r ∷ ts) = refl

-- What an AND comes to

abbrev need : Bool → Result Unit Refusal
need text = if text then Err (wrong_argument (codes "and")) else Ok tt

abbrev judgement : List TypedExpr → Bool → Result (List TypedExpr × Bool) Refusal
judgement zs text = if text then Err (wrong_argument (codes "and")) else Ok (zs, false)

and_gathers : (xs ys : List TypedExpr) (text : Bool)
    → gathered xs (result_and_then (λ done. Ok (number_expr (node.And ys))) (need text))
    ≡ judgement (xs ++ flat_map conjuncts ys) text
and_gathers xs ys true = refl
and_gathers xs ys false = ap (λ zs. Ok (xs ++ zs, false)) (conjuncts_and ys)

and_judged : (xs : List TypedExpr) (others : Result (List TypedExpr) Refusal)
    → gathered xs (result_and_then (λ ys. of_numbers (codes "and") (node.And ys) ys) others)
    ≡ judged (codes "and") (gathering xs false others)
and_judged xs (Ok ys) = and_gathers xs ys (some_text ys)
and_judged xs (Err r) = refl

and_is : (c : Catalog) (s : Scope) (e : Expr) (es : List Expr) → e.form ≡ form.And es
    → in_row c s e ≡ result_and_then (λ ys. of_numbers (codes "and") (node.And ys) ys)
    (operands c s plain (map (in_row c s) es))
and_is c s e es is =
    typing_is c s [] e Row 0
    ∙ (ap (form_typing c s [] Row 0) (ap out-Form is ∙ form.outs-And es)
    ∙ ap (λ ts. result_and_then (λ ys. of_numbers (codes "and") (node.And ys) ys)
    (operands c s plain ts)) (row_typings c s 0 es))

pub gathered_and : (c : Catalog) (s : Scope) (e : Expr) (es : List Expr) (xs : List TypedExpr)
    → e.form ≡ form.And es
    → gathered xs (in_row c s e) ≡ judged (codes "and") (gathered_all xs false
    (map (in_row c s) es))
gathered_and c s e es xs is =
    ap (gathered xs) (and_is c s e es is)
    ∙ (and_judged xs (operands c s plain (map (in_row c s) es))
    ∙ ap (judged (codes "and")) (sym (all_gathered c s 0 xs false (map (in_row c s) es))))

-- WHERE

abbrev kept : Result (List TypedExpr × Bool) Refusal → Result (List TypedExpr) Refusal
kept found = result_and_then (λ (p : List TypedExpr × Bool). Ok p.0) found

abbrev whole : TypedExpr → Bool → Result (List TypedExpr) Refusal
whole x text = if text then Err (wrong_argument (codes "where")) else Ok (conjuncts x)

abbrev where_judgement : TypedExpr → Bool → Result (List TypedExpr × Bool) Refusal
where_judgement x text = if text then Err (wrong_argument (codes "where")) else Ok
    (conjuncts x, false)

where_kept : (x : TypedExpr) (text : Bool) → whole x text ≡ kept (where_judgement x text)
where_kept x true = refl
where_kept x false = refl

pub where_judged : (t : Typing)
    → result_and_then condition t ≡ kept (judged (codes "where") (gathered [] t))
where_judged (Ok x) = where_kept x (is_text x.ty)
where_judged (Err r) = refl

kept_ok : (found : Result (List TypedExpr × Bool) Refusal) (xs : List TypedExpr) (text : Bool)
    → found ≡ Ok (xs, text)
    → kept found ≡ Ok xs
kept_ok found xs text e = ap kept e

kept_fault : (fault : TypeFault) (left : List TypedExpr) (found : Result
    (List TypedExpr × Bool) Refusal)
    → IsGathered (Err fault) left found → IsWanted (Err fault) (kept found)
kept_fault (Refused r) left found h = ap kept h
kept_fault NoMemory left found h = tt

abbrev pub whole_answer : Result Bool TypeFault → List TypedExpr → Result (List TypedExpr) TypeFault
whole_answer (Ok text) left = Ok left
whole_answer (Err fault) left = Err fault

-- What is answered where WHERE is judged.
pub where_answers : (c : Catalog) (s : Scope) (e : Expr) (result : Result Bool TypeFault)
    (left : List TypedExpr)
    → IsGathered result left (judged (codes "where") (gathered [] (in_row c s e)))
    → IsWanted (whole_answer result left) (where_of c s (Some e))
where_answers c s e (Ok text) left h = where_judged (in_row c s e) ∙ kept_ok _ left text h
where_answers c s e (Err fault) left h =
    subst (IsWanted (Err fault)) (sym (where_judged (in_row c s e))) (kept_fault fault left _ h)
