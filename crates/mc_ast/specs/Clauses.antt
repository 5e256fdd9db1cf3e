-- Examples of clauses: tokens and their tree.
use Rattle.std.specs.Prelude.{[], ◌∷◌, true, false, Some, None, codes}
use Rattle.mc_token.specs.declared.lexeme.Lexeme.TheVariants.{Sym}
use Rattle.mc_token.specs.declared.lexeme.Symbol.TheVariants.{Comma, LeftParen, RightParen, Star}
use Rattle.mc_ast.specs.declared.expr.Form.TheVariants.{Like}
use Rattle.mc_ast.specs.Written.{word, string, number, at, column, item_at, by_order, plain, Reads}
use Rattle.mc_ast.specs.Written.{HasNone}

-- SELECT *, a FROM t
abbrev pub StarAndAnItem : Type 0
StarAndAnItem =
    Reads (word "select" ∷ Sym Star ∷ Sym Comma ∷ word "a" ∷ word "from" ∷ word "t" ∷ [])
    (record plain {
      star = true;
      items = item_at 3 4 (column 3 "a") None ∷ [];
      table = Some
          (codes "t");
    })

-- SELECT a AS x, b y
abbrev pub Aliases : Type 0
Aliases =
    Reads (word "select" ∷ word "a" ∷ word "as" ∷ word "x" ∷ Sym Comma ∷ word "b" ∷ word "y" ∷ [])
    (record plain {
      items = item_at 1 2 (column 1 "a") (Some (codes "x")) ∷ item_at 5 6 (column 5
          "b") (Some (codes "y")) ∷ [];
    })

-- SELECT (a)
abbrev pub ItemWithParentheses : Type 0
ItemWithParentheses =
    Reads (word "select" ∷ Sym LeftParen ∷ word "a" ∷ Sym RightParen ∷ [])
    (record plain { items = item_at 1 4 (column 2 "a") None ∷ [] })

-- SELECT a LIKE b escape
abbrev pub EscapeAsAlias : Type 0
EscapeAsAlias =
    Reads (word "select" ∷ word "a" ∷ word "like" ∷ word "b" ∷ word "escape" ∷ [])
    (record plain {
      items = item_at 1 4 (at 1 4 (Like (column 1 "a") (column 3 "b") None false))
          (Some (codes "escape")) ∷ [];
    })

-- SELECT a LIMIT 1, 2
abbrev pub OffsetBefore : Type 0
OffsetBefore =
    Reads (word "select" ∷ word "a" ∷ word "limit" ∷ number 1 ∷ Sym Comma ∷ number 2 ∷ [])
    (record plain { items = item_at 1 2 (column 1 "a") None ∷ []; limit = Some (1, 2) })

-- SELECT a LIMIT 2 OFFSET 1
abbrev pub OffsetBehind : Type 0
OffsetBehind =
    Reads (word "select" ∷ word "a" ∷ word "limit" ∷ number 2 ∷ word "offset" ∷ number 1 ∷ [])
    (record plain { items = item_at 1 2 (column 1 "a") None ∷ []; limit = Some (1, 2) })

-- SELECT a LIMIT 2
abbrev pub LimitAlone : Type 0
LimitAlone =
    Reads (word "select" ∷ word "a" ∷ word "limit" ∷ number 2 ∷ [])
    (record plain { items = item_at 1 2 (column 1 "a") None ∷ []; limit = Some (0, 2) })

-- EXPLAIN SELECT DISTINCT a FROM t WHERE b GROUP BY c, d ORDER BY e DESC, f
abbrev pub EveryClause : Type 0
EveryClause =
    Reads (word "explain" ∷ word "select" ∷ word "distinct" ∷ word "a" ∷ word "from" ∷ word "t" ∷
    word "where" ∷ word "b" ∷ word "group" ∷ word "by" ∷ word "c" ∷ Sym Comma ∷ word "d" ∷
    word "order" ∷ word "by" ∷ word "e" ∷ word "desc" ∷ Sym Comma ∷ word "f" ∷ [])
    (record plain {
      explain = true;
      distinct = true;
      items = item_at 3 4 (column 3 "a") None ∷
          [];
      table = Some (codes "t");
      filter = Some (column 7 "b");
      groups = column 10 "c" ∷ column
          12 "d" ∷ [];
      orders = by_order (column 15 "e") true ∷ by_order (column 18 "f") false ∷ [];
    })

-- SELECT TRIM(FROM 'a') has no tree.
abbrev pub TrimOfNeither : Type 0
TrimOfNeither = HasNone (word "select" ∷ word "trim" ∷ Sym LeftParen ∷ word "from" ∷ string "a" ∷
    Sym RightParen ∷ [])

-- SELECT * has no tree.
abbrev pub StarWithoutTable : Type 0
StarWithoutTable = HasNone (word "select" ∷ Sym Star ∷ [])

-- SELECT a AS from has no tree.
abbrev pub ReservedAlias : Type 0
ReservedAlias = HasNone (word "select" ∷ word "a" ∷ word "as" ∷ word "from" ∷ [])

-- SELECT CAST(a) has no tree.
abbrev pub CastAsACall : Type 0
CastAsACall = HasNone (word "select" ∷ word "cast" ∷ Sym LeftParen ∷ word "a" ∷ Sym RightParen ∷ [])

-- SELECT a _latin1'x' has no tree.
abbrev pub StringBehindAName : Type 0
StringBehindAName = HasNone (word "select" ∷ word "a" ∷ word "_latin1" ∷ string "x" ∷ [])
