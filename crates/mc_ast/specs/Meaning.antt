-- What each alternative of the grammar means: MySQL 8.0 manual, 13.2.10, 12.4 and 9.1.
use Rattle.std.specs.Prelude.{ℕ, nat_abs, List, [], ◌∷◌, ◌++◌, drop, Bool, true, false, Option}
use Rattle.std.specs.Prelude.{Some, None, codes}
use Rattle.std.specs.Option.{option_map, option_and_then}
use Rattle.mc_base.specs.declared.span.Span.{Span}
use Rattle.mc_token.specs.declared.lexeme.Token.{Token}
use Rattle.mc_sql.specs.Rules.{Alternative, star_statement, items_statement, no_explain, explained}
use Rattle.mc_sql.specs.Rules.{no_distinct, distinct_rows, no_more_items, one_more_item, no_source}
use Rattle.mc_sql.specs.Rules.{given_source, from_table, no_where, where_holds, no_group, group_by}
use Rattle.mc_sql.specs.Rules.{no_more_ors, one_more_or, no_order, order_by, no_more_orders}
use Rattle.mc_sql.specs.Rules.{one_more_order, no_limit, limit_rows, no_offset, offset_before}
use Rattle.mc_sql.specs.Rules.{offset_behind, one_item, no_alias, as_alias, bare_alias, one_order}
use Rattle.mc_sql.specs.Rules.{no_direction, ascending, descending, xors, no_more_xors}
use Rattle.mc_sql.specs.Rules.{one_more_xor, ands, no_more_ands, one_more_and, nots, no_more_nots}
use Rattle.mc_sql.specs.Rules.{one_more_not, negated, just_pred, just_sum, compared, tested_null}
use Rattle.mc_sql.specs.Rules.{matched, listed, ranged, no_not, with_not, no_escape, with_escape}
use Rattle.mc_sql.specs.Rules.{equal, null_equal, unequal, unequal_bang, less, less_equal, greater}
use Rattle.mc_sql.specs.Rules.{greater_equal, prods, no_more_prods, plus_prod, minus_prod, negs}
use Rattle.mc_sql.specs.Rules.{no_more_negs, times_neg, div_neg, percent_neg, mod_neg, minus}
use Rattle.mc_sql.specs.Rules.{just_coll, collated, no_more_collates, one_more_collate, by_name}
use Rattle.mc_sql.specs.Rules.{by_binary, number, true_word, false_word, null_word, just_string}
use Rattle.mc_sql.specs.Rules.{column, table_column, just_call, in_parens, plain_string}
use Rattle.mc_sql.specs.Rules.{national_string, hex_string, intro_string, intro_hex, no_more_strs}
use Rattle.mc_sql.specs.Rules.{one_more_str, convert_call, cast_char_call, cast_binary_call}
use Rattle.mc_sql.specs.Rules.{count_all_call, count_distinct_call, trim_side_call, trim_call}
use Rattle.mc_sql.specs.Rules.{substring_call, weight_string_call, empty_call, single_call}
use Rattle.mc_sql.specs.Rules.{many_call, no_set, with_set, both_sides, leading_side, trailing_side}
use Rattle.mc_sql.specs.Rules.{no_or, given_or, no_length, with_length, no_cut, char_cut}
use Rattle.mc_sql.specs.Rules.{binary_cut}
use Rattle.mc_ast.specs.declared.expr.Expr.{Expr}
use Rattle.mc_ast.specs.declared.expr.Form.{Form}
use Rattle.mc_ast.specs.declared.expr.Form.TheVariants.{Or, And, Not, Compare, IsNull, Like, In}
use Rattle.mc_ast.specs.declared.expr.Form.TheVariants.{Between, Neg, Int, True, False, Null, Str}
use Rattle.mc_ast.specs.declared.expr.Form.TheVariants.{National, Hex, IntroStr, IntroHex, Name}
use Rattle.mc_ast.specs.declared.expr.Form.TheVariants.{Qualified, Convert, CastChar, CastBinary}
use Rattle.mc_ast.specs.declared.expr.Form.TheVariants.{CountAll, CountDistinct, Trim}
use Rattle.mc_ast.specs.declared.expr.Form.TheVariants.{SubstringFrom, WeightString, Call}
use Rattle.mc_ast.specs.declared.operators.ArithOp.{ArithOp}
use Rattle.mc_ast.specs.declared.operators.ArithOp.TheVariants.{Add, Sub, Mul, Div, Mod}
use Rattle.mc_ast.specs.declared.operators.CmpOp.TheVariants.{Eq, NullEq, Ne, Lt, Le, Gt, Ge}
use Rattle.mc_ast.specs.declared.operators.Cut.TheVariants.{Chars, Bytes}
use Rattle.mc_ast.specs.declared.operators.TrimSide.TheVariants.{Both, Leading, Trailing}
use Rattle.mc_ast.specs.declared.statement.Item.{Item}
use Rattle.mc_ast.specs.declared.statement.OrderItem.{OrderItem}
use Rattle.mc_ast.specs.declared.statement.Statement.{Statement}
use Rattle.mc_ast.specs.Grouping.{whole, grouped, grouped_xor, under}
use Rattle.mc_ast.specs.Values.{Operand, Operation, Source, exprs, lexeme_text, lexeme_number}
use Rattle.mc_ast.specs.Values.{Value, ill, a_token, operand, operands, maybe_operand, operations}
use Rattle.mc_ast.specs.Values.{collations, collation, text, maybe_text, flag, comparison}
use Rattle.mc_ast.specs.Values.{trim_side, cut, item, items, order_item, order_items, source}
use Rattle.mc_ast.specs.Values.{the_count, the_offset, no_number, limit, a_statement}

-- An operand of this form whose tokens are all its own.
abbrev an : Span → Form → Value
an span form = operand (whole span form)

-- An operator and what stands behind it.
abbrev by : ArithOp → Operand → Operation
by op x = record { op = op; right = x }

-- The number of a token of LIMIT, which has no sign.
abbrev size : Token → ℕ
size token = nat_abs (lexeme_number token.kind)

-- The operands of GROUP BY, where there are some.
abbrev groups_of : Option Source → List Expr
groups_of None = []
groups_of (Some s) = s.groups

-- A statement of these parts, with or without `*`.
abbrev made : Bool → Bool → Bool → List Item → Option Source → List OrderItem → Option (ℕ × ℕ)
    → Statement
made explain distinct star is from orders rows = record {
  explain = explain;
  distinct = distinct;
  star = star;
  items = is;
  table = option_map (λ s. s.table) from;
  filter = option_and_then (λ s. s.filter) from;
  groups = groups_of from;
  orders = orders;
  limit = rows;
}

-- What an alternative means whose tokens have these bytes and whose symbols have these meanings.
-- Above the alternatives of a rule stands the rule.
abbrev pub meaning : Alternative → Span → List Value → Value
-- statement := [EXPLAIN] SELECT [DISTINCT] items [FROM NAME [WHERE or] [GROUP BY or {, or}]]
--              [ORDER BY order {, order}] [LIMIT Int [(, | OFFSET) Int]]
-- items  := * {, item} | item {, item}            (with * a FROM must follow)
meaning star_statement span (flag e ∷ _ ∷ flag d ∷ _ ∷ items is ∷ source s ∷ order_items os ∷
    limit l ∷ []) =
    a_statement (made e d true is s os l)
meaning items_statement span (flag e ∷ _ ∷ flag d ∷ item i ∷ items is ∷ source s ∷
    order_items os ∷ limit l ∷ []) =
    a_statement (made e d false (i ∷ is) s os l)
-- [EXPLAIN]
meaning no_explain span [] = flag false
meaning explained span (_ ∷ []) = flag true
-- [DISTINCT]
meaning no_distinct span [] = flag false
meaning distinct_rows span (_ ∷ []) = flag true
-- {, item}
meaning no_more_items span [] = items []
meaning one_more_item span (_ ∷ item i ∷ items is ∷ []) = items (i ∷ is)
-- [FROM NAME [WHERE or] [GROUP BY or {, or}]]
meaning no_source span [] = source None
meaning given_source span (source s ∷ []) = source s
-- FROM NAME [WHERE or] [GROUP BY or {, or}]
meaning from_table span (_ ∷ a_token t ∷ maybe_operand w ∷ operands gs ∷ []) =
    source (Some (record {
      table = lexeme_text t.kind;
      filter = option_map (λ x. x.expr) w;
      groups = exprs gs;
    }))
-- [WHERE or]
meaning no_where span [] = maybe_operand None
meaning where_holds span (_ ∷ operand x ∷ []) = maybe_operand (Some x)
-- [GROUP BY or {, or}]
meaning no_group span [] = operands []
meaning group_by span (_ ∷ _ ∷ operand x ∷ operands xs ∷ []) = operands (x ∷ xs)
-- {, or}
meaning no_more_ors span [] = operands []
meaning one_more_or span (_ ∷ operand x ∷ operands xs ∷ []) = operands (x ∷ xs)
-- [ORDER BY order {, order}]
meaning no_order span [] = order_items []
meaning order_by span (_ ∷ _ ∷ order_item o ∷ order_items os ∷ []) = order_items (o ∷ os)
-- {, order}
meaning no_more_orders span [] = order_items []
meaning one_more_order span (_ ∷ order_item o ∷ order_items os ∷ []) = order_items (o ∷ os)
-- [LIMIT Int [(, | OFFSET) Int]]
meaning no_limit span [] = limit None
meaning limit_rows span (_ ∷ a_token t ∷ no_number ∷ []) = limit (Some (0, size t))
meaning limit_rows span (_ ∷ a_token t ∷ the_count n ∷ []) = limit (Some (size t, n))
meaning limit_rows span (_ ∷ a_token t ∷ the_offset n ∷ []) = limit (Some (n, size t))
-- [(, | OFFSET) Int]
meaning no_offset span [] = no_number
meaning offset_before span (_ ∷ a_token t ∷ []) = the_count (size t)
meaning offset_behind span (_ ∷ a_token t ∷ []) = the_offset (size t)
-- item   := or [[AS] NAME]
meaning one_item span (operand x ∷ maybe_text a ∷ []) =
    item (record { expr = x.expr; alias = a; span = x.extent })
-- [[AS] NAME]
meaning no_alias span [] = maybe_text None
meaning as_alias span (_ ∷ a_token t ∷ []) = maybe_text (Some (lexeme_text t.kind))
meaning bare_alias span (a_token t ∷ []) = maybe_text (Some (lexeme_text t.kind))
-- order  := or [ASC | DESC]
meaning one_order span (operand x ∷ flag d ∷ []) = order_item (record { expr = x.expr; desc = d })
-- [ASC | DESC]
meaning no_direction span [] = flag false
meaning ascending span (_ ∷ []) = flag false
meaning descending span (_ ∷ []) = flag true
-- or     := xor {OR xor}
meaning xors span (operand x ∷ operands [] ∷ []) = operand x
meaning xors span (operand x ∷ operands (y ∷ ys) ∷ []) = an span (Or (exprs (x ∷ y ∷ ys)))
-- {OR xor}
meaning no_more_xors span [] = operands []
meaning one_more_xor span (_ ∷ operand x ∷ operands xs ∷ []) = operands (x ∷ xs)
-- xor    := and {XOR and}
meaning ands span (operand x ∷ operands xs ∷ []) = operand (grouped_xor x xs)
-- {XOR and}
meaning no_more_ands span [] = operands []
meaning one_more_and span (_ ∷ operand x ∷ operands xs ∷ []) = operands (x ∷ xs)
-- and    := not {AND not}
meaning nots span (operand x ∷ operands [] ∷ []) = operand x
meaning nots span (operand x ∷ operands (y ∷ ys) ∷ []) = an span (And (exprs (x ∷ y ∷ ys)))
-- {AND not}
meaning no_more_nots span [] = operands []
meaning one_more_not span (_ ∷ operand x ∷ operands xs ∷ []) = operands (x ∷ xs)
-- not    := NOT not | pred
meaning negated span (_ ∷ operand x ∷ []) = an span (Not x.expr)
meaning just_pred span (operand x ∷ []) = operand x
-- pred   := sum | sum cmp sum | sum IS [NOT] NULL | sum [NOT] LIKE sum [ESCAPE Str]
--         | sum [NOT] IN ( or {, or} ) | sum [NOT] BETWEEN sum AND sum
meaning just_sum span (operand x ∷ []) = operand x
meaning compared span (operand x ∷ comparison op ∷ operand y ∷ []) =
    an span (Compare op x.expr y.expr)
meaning tested_null span (operand x ∷ _ ∷ flag n ∷ _ ∷ []) = an span (IsNull x.expr n)
meaning matched span (operand x ∷ flag n ∷ _ ∷ operand y ∷ maybe_text e ∷ []) =
    an span (Like x.expr y.expr e n)
meaning listed span (operand x ∷ flag n ∷ _ ∷ _ ∷ operand y ∷ operands ys ∷ _ ∷ []) =
    an span (In x.expr (exprs (y ∷ ys)) n)
meaning ranged span (operand x ∷ flag n ∷ _ ∷ operand y ∷ _ ∷ operand z ∷ []) =
    an span (Between x.expr y.expr z.expr n)
-- [NOT]
meaning no_not span [] = flag false
meaning with_not span (_ ∷ []) = flag true
-- [ESCAPE Str]
meaning no_escape span [] = maybe_text None
meaning with_escape span (_ ∷ a_token t ∷ []) = maybe_text (Some (lexeme_text t.kind))
-- cmp    := = | <=> | <> | != | < | <= | > | >=
meaning equal span (_ ∷ []) = comparison Eq
meaning null_equal span (_ ∷ []) = comparison NullEq
meaning unequal span (_ ∷ []) = comparison Ne
meaning unequal_bang span (_ ∷ []) = comparison Ne
meaning less span (_ ∷ []) = comparison Lt
meaning less_equal span (_ ∷ []) = comparison Le
meaning greater span (_ ∷ []) = comparison Gt
meaning greater_equal span (_ ∷ []) = comparison Ge
-- sum    := prod {(+ | -) prod}
meaning prods span (operand x ∷ operations os ∷ []) = operand (grouped x os)
-- {(+ | -) prod}
meaning no_more_prods span [] = operations []
meaning plus_prod span (_ ∷ operand x ∷ operations os ∷ []) = operations (by Add x ∷ os)
meaning minus_prod span (_ ∷ operand x ∷ operations os ∷ []) = operations (by Sub x ∷ os)
-- prod   := neg {(* | DIV | % | MOD) neg}
meaning negs span (operand x ∷ operations os ∷ []) = operand (grouped x os)
-- {(* | DIV | % | MOD) neg}
meaning no_more_negs span [] = operations []
meaning times_neg span (_ ∷ operand x ∷ operations os ∷ []) = operations (by Mul x ∷ os)
meaning div_neg span (_ ∷ operand x ∷ operations os ∷ []) = operations (by Div x ∷ os)
meaning percent_neg span (_ ∷ operand x ∷ operations os ∷ []) = operations (by Mod x ∷ os)
meaning mod_neg span (_ ∷ operand x ∷ operations os ∷ []) = operations (by Mod x ∷ os)
-- neg    := - neg | coll
meaning minus span (_ ∷ operand x ∷ []) = an span (Neg x.expr)
meaning just_coll span (operand x ∷ []) = operand x
-- coll   := prim {COLLATE (NAME | BINARY)}
meaning collated span (operand x ∷ collations cs ∷ []) = operand (under x cs)
-- {COLLATE (NAME | BINARY)}
meaning no_more_collates span [] = collations []
meaning one_more_collate span (_ ∷ collation c ∷ collations cs ∷ []) = collations (c ∷ cs)
-- (NAME | BINARY)
meaning by_name span (a_token t ∷ []) =
    collation (record { name = lexeme_text t.kind; extent = span })
meaning by_binary span (_ ∷ []) = collation (record { name = codes "binary"; extent = span })
-- prim   := Int | TRUE | FALSE | NULL | string | NAME | NAME . NAME | call | ( or )
meaning number span (a_token t ∷ []) = an span (Int (lexeme_number t.kind))
meaning true_word span (_ ∷ []) = an span True
meaning false_word span (_ ∷ []) = an span False
meaning null_word span (_ ∷ []) = an span Null
meaning just_string span (operand x ∷ []) = operand x
meaning column span (a_token t ∷ []) = an span (Name (lexeme_text t.kind))
meaning table_column span (a_token t ∷ _ ∷ a_token u ∷ []) =
    an span (Qualified (lexeme_text t.kind) (lexeme_text u.kind))
meaning just_call span (operand x ∷ []) = operand x
meaning in_parens span (_ ∷ operand x ∷ _ ∷ []) = operand (record { expr = x.expr; extent = span })
-- string := Str {Str} | National {Str} | Hex | INTRO Str {Str} | INTRO Hex
meaning plain_string span (a_token t ∷ text more ∷ []) = an span (Str (lexeme_text t.kind ++ more))
meaning national_string span (a_token t ∷ text more ∷ []) =
    an span (National (lexeme_text t.kind ++ more))
meaning hex_string span (a_token t ∷ []) = an span (Hex (lexeme_text t.kind))
meaning intro_string span (a_token i ∷ a_token t ∷ text more ∷ []) =
    an span (IntroStr (drop 1 (lexeme_text i.kind)) (lexeme_text t.kind ++ more))
meaning intro_hex span (a_token i ∷ a_token t ∷ []) =
    an span (IntroHex (drop 1 (lexeme_text i.kind)) (lexeme_text t.kind))
-- {Str}
meaning no_more_strs span [] = text []
meaning one_more_str span (a_token t ∷ text more ∷ []) = text (lexeme_text t.kind ++ more)
-- call   := CONVERT ( or USING (NAME | BINARY) )
--         | CAST ( or AS CHAR [CHARACTER SET (NAME | BINARY)] ) | CAST ( or AS BINARY )
--         | count ( * ) | count ( DISTINCT or )
--         | trim ( [BOTH | LEADING | TRAILING] [or] FROM or )   (at least one part before FROM)
--         | substring ( or FROM or [FOR or] )
--         | weight_string ( or [AS (CHAR | BINARY) ( Int )] )
--         | NAME ( [or {, or}] )
-- Both of the last two read `weight_string ( or )`: the former gives the tree, so the latter, where
-- it has one argument, leaves that word out.
meaning convert_call span (_ ∷ _ ∷ operand x ∷ _ ∷ collation c ∷ _ ∷ []) =
    an span (Convert x.expr c.name)
meaning cast_char_call span (_ ∷ _ ∷ operand x ∷ _ ∷ _ ∷ maybe_text s ∷ _ ∷ []) =
    an span (CastChar x.expr s)
meaning cast_binary_call span (_ ∷ _ ∷ operand x ∷ _ ∷ _ ∷ _ ∷ []) = an span (CastBinary x.expr)
meaning count_all_call span (_ ∷ _ ∷ _ ∷ _ ∷ []) = an span CountAll
meaning count_distinct_call span (_ ∷ _ ∷ _ ∷ operand x ∷ _ ∷ []) = an span (CountDistinct x.expr)
meaning trim_side_call span (_ ∷ _ ∷ trim_side s ∷ maybe_operand r ∷ _ ∷ operand x ∷ _ ∷ []) =
    an span (Trim s (option_map (λ y. y.expr) r) x.expr)
meaning trim_call span (_ ∷ _ ∷ operand r ∷ _ ∷ operand x ∷ _ ∷ []) =
    an span (Trim Both (Some r.expr) x.expr)
meaning substring_call span (_ ∷ _ ∷ operand x ∷ _ ∷ operand y ∷ maybe_operand l ∷ _ ∷ []) =
    an span (SubstringFrom x.expr y.expr (option_map (λ z. z.expr) l))
meaning weight_string_call span (_ ∷ _ ∷ operand x ∷ cut c ∷ _ ∷ []) =
    an span (WeightString x.expr c)
meaning empty_call span (a_token t ∷ _ ∷ _ ∷ []) = an span (Call (lexeme_text t.kind) [])
meaning single_call span (a_token t ∷ _ ∷ operand x ∷ _ ∷ []) =
    an span (Call (lexeme_text t.kind) (x.expr ∷ []))
meaning many_call span (a_token t ∷ _ ∷ operand x ∷ _ ∷ operand y ∷ operands ys ∷ _ ∷ []) =
    an span (Call (lexeme_text t.kind) (exprs (x ∷ y ∷ ys)))
-- [CHARACTER SET (NAME | BINARY)]
meaning no_set span [] = maybe_text None
meaning with_set span (_ ∷ _ ∷ collation c ∷ []) = maybe_text (Some c.name)
-- BOTH | LEADING | TRAILING
meaning both_sides span (_ ∷ []) = trim_side Both
meaning leading_side span (_ ∷ []) = trim_side Leading
meaning trailing_side span (_ ∷ []) = trim_side Trailing
-- [or]
meaning no_or span [] = maybe_operand None
meaning given_or span (operand x ∷ []) = maybe_operand (Some x)
-- [FOR or]
meaning no_length span [] = maybe_operand None
meaning with_length span (_ ∷ operand x ∷ []) = maybe_operand (Some x)
-- [AS (CHAR | BINARY) ( Int )]
meaning no_cut span [] = cut None
meaning char_cut span (_ ∷ _ ∷ _ ∷ a_token t ∷ _ ∷ []) = cut (Some (Chars (lexeme_number t.kind)))
meaning binary_cut span (_ ∷ _ ∷ _ ∷ a_token t ∷ _ ∷ []) = cut (Some (Bytes (lexeme_number t.kind)))
meaning _ span _ = ill
