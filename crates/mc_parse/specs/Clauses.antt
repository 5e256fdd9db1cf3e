-- What a function that reads a clause of a statement answers: MySQL 8.0 manual, 13.2.10.
use Rattle.std.specs.Prelude.{◌≡◌, ◌≤◌, ◌+◌, ℕ, suc, Bool, true, false, List, []}
use Rattle.std.specs.Prelude.{◌∷◌, ◌++◌, map, length}
use Rattle.std.specs.Prelude.{Option, Some, None}
use Rattle.std.specs.Option.{option_map}
use Rattle.mc_base.specs.declared.span.Span.{Span}
use Rattle.mc_token.specs.declared.lexeme.Token.{Token}
use Rattle.mc_grammar.specs.Ahead.{Ahead}
use Rattle.mc_grammar.specs.Grammar.{Symbol, one, rule}
use Rattle.mc_grammar.specs.Places.{Place, Inside, Done}
use Rattle.mc_grammar.specs.Room.{Roomed, Admitted}
use Rattle.mc_token.specs.declared.lexeme.Symbol.TheVariants.{Star}
use Rattle.mc_sql.specs.Classes.{Class, mark}
use Rattle.mc_sql.specs.Nest.{nest_limit}
use Rattle.mc_sql.specs.Rules.{Rule, Alternative, statement, star_statement, items_statement}
use Rattle.mc_sql.specs.Rules.{source as a_source, source_option, more_items, order_option}
use Rattle.mc_sql.specs.Rules.{where_option, alias_option, limit_option, offset_option, item}
use Rattle.mc_ast.specs.declared.expr.Expr.{Expr}
use Rattle.mc_ast.specs.declared.statement.Item.{Item}
use Rattle.mc_ast.specs.declared.statement.OrderItem.{OrderItem}
use Rattle.mc_ast.specs.declared.statement.Statement.{Statement}
use Rattle.mc_ast.specs.Meaning.{meaning}
use Rattle.mc_ast.specs.Values.{Value, Operand, Source, maybe_operand, maybe_text, source, items}
use Rattle.mc_ast.specs.Values.{order_items, limit, no_number, the_count, the_offset, flag}
use Rattle.mc_ast.specs.Values.{a_token, a_statement}
use Rattle.mc_parse.specs.declared.fault.Fault.{Fault}
use Rattle.mc_parse.specs.declared.fault.Fault.TheVariants.{NoReading, TooDeep, NoMemory}
use Rattle.mc_parse.specs.declared.operand.Operand.{Operand as Found}
use Rattle.mc_parse.specs.Language.{language, at, behind, look_at}
use Rattle.mc_parse.specs.Read.{IsFault}

-- A rule outside parentheses has read the tokens up to the rest, with this value.
pub record IsClause (r : Rule) (tokens rest : List Token) (value : Value) : Type 0 where
  pub done : Done language (behind r) 1 (at nest_limit r) tokens rest value

-- The fault says why a rule outside parentheses does not read the tokens.
abbrev pub IsClauseFault : Rule → List Token → Fault → Type 0
IsClauseFault r tokens fault = IsFault (behind r) r nest_limit tokens fault

-- A rule has read the tokens up to the rest, with these members, which are put to a list as shown.
pub record HasMore {X Y : Type 0} (r : Rule) (value : List X → Value) (shown : X → Y)
    (tokens rest : List Token) (before now : List Y) : Type 0 where
  pub members : List X
  pub clause : IsClause r tokens rest (value members)
  pub same : now ≡ before ++ map shown members

-- A rule has read the tokens up to the rest, with one member, which is put to a list as shown.
pub record HasOne {X Y : Type 0} (after : Ahead (Admitted Class)) (r : Rule) (value : X → Value)
    (shown : X → Y) (tokens rest : List Token) (before now : List Y) : Type 0 where
  pub member : X
  pub done : Done language after 1 (at nest_limit r) tokens rest (value member)
  pub same : now ≡ before ++ (shown member ∷ [])

-- An item's alias is read, or left out; as many tokens are taken as were looked at before.
pub record HasAlias (tokens rest : List Token) (alias : Option (List ℕ)) : Type 0 where
  pub clause : IsClause alias_option tokens rest (maybe_text alias)
  pub far : look_at true tokens ≤ length clause.done.front + 1

-- No name stands behind AS, before the last so many tokens.
pub record HasNoName (tokens : List Token) (left : ℕ) : Type 0 where
  pub is_fault : IsClauseFault alias_option tokens (NoReading left)
  pub near : look_at true tokens ≤ 1

-- Why an alias is not read, by cases of the fault.
abbrev pub IsAliasFault : List Token → Fault → Type 0
IsAliasFault tokens (NoReading left) = HasNoName tokens left
IsAliasFault tokens (TooDeep left) = ⊥
IsAliasFault tokens NoMemory = Unit

-- An item of this operand and of the alias behind it.
pub record HasItem (x : Found) (tokens rest : List Token) (item : Item) : Type 0 where
  pub alias : Option (List ℕ)
  pub has : HasAlias tokens rest alias
  pub same : item ≡ record { expr = x.expr; alias = alias; span = x.extent }

-- WHERE has read the tokens up to the rest, with this filter.
pub record HasFilter (tokens rest : List Token) (filter : Option Expr) : Type 0 where
  pub operand : Option Operand
  pub clause : IsClause where_option tokens rest (maybe_operand operand)
  pub same : filter ≡ option_map (λ x. x.expr) operand

-- A statement to which FROM, WHERE and GROUP BY are put.
abbrev pub with_source : Option Source → Statement → Statement
with_source None tree = tree
with_source (Some s) tree =
    record tree { table = Some s.table; filter = s.filter; groups = tree.groups ++ s.groups }

-- A rule has read FROM, WHERE and GROUP BY, which are put to a statement.
pub record HasSource (r : Rule) (tokens rest : List Token) (before after : Statement) : Type 0 where
  pub from : Option Source
  pub clause : IsClause r tokens rest (source from)
  pub same : after ≡ with_source from before

-- The rows of LIMIT, the offset first, by its first number and what stands behind it.
abbrev pub rows_of : ℕ → Value → Option (ℕ × ℕ)
rows_of first no_number = Some (0, first)
rows_of first (the_count count) = Some (first, count)
rows_of first (the_offset offset) = Some (offset, first)
rows_of first _ = None

-- What stands behind the first number of LIMIT is read, with these rows.
pub record HasOffset (first : ℕ) (tokens rest : List Token) (rows : ℕ × ℕ) : Type 0 where
  pub number : Value
  pub clause : IsClause offset_option tokens rest number
  pub same : rows_of first number ≡ Some rows

-- The alternative of a statement with `*` or without, and its rule for FROM.
abbrev pub statement_of : Bool → Alternative
statement_of true = star_statement
statement_of false = items_statement

abbrev pub source_of : Bool → Rule
source_of true = a_source
source_of false = source_option

-- A statement without clauses.
abbrev pub blank : Bool → Bool → Statement
blank explain distinct = record {
  explain = explain;
  distinct = distinct;
  star = false;
  items = [];
  table = None;
  filter = None;
  groups = [];
  orders = [];
  limit = None;
}

abbrev pub APlace : Type 0
APlace = Place (Admitted Class) (Roomed Rule) (Roomed Alternative)

-- Rules that are left in an alternative of a statement.
abbrev pub rules_left : List Rule → List (Symbol (Admitted Class) (Roomed Rule))
rules_left rules = map (λ r. rule (at nest_limit r)) rules

abbrev pub here : Alternative → List (Symbol (Admitted Class) (Roomed Rule)) → APlace
here a left = record { alternative = record { what = a; room = suc nest_limit }; left = left }

-- The place behind the `*` or the first item, and the two places before it.
abbrev pub behind_first : Bool → List APlace
behind_first star =
    here (statement_of star)
    (rules_left (more_items ∷ source_of star ∷ order_option ∷ limit_option ∷ [])) ∷ []

abbrev pub before_first : List APlace
before_first =
    here star_statement (one (record { class = mark Star; has_room = true })
    ∷ rules_left (more_items ∷ a_source ∷ order_option ∷ limit_option ∷ []))
    ∷ here items_statement
    (rules_left (item ∷ more_items ∷ source_option ∷ order_option ∷ limit_option ∷ [])) ∷ []

-- The rest of a statement behind the `*` or the first item is read, whatever stands before it.
pub record ReadsOn (star : Bool) (tokens rest : List Token) (before now : Statement) : Type 0 where
  pub more : List Item
  pub from : Option Source
  pub orders : List OrderItem
  pub rows : Option (ℕ × ℕ)
  pub reads : (all front : List Token) (vs : List Value) (value : Value)
      → Inside language (behind statement) 1 (at nest_limit statement) (behind_first star) vs all
      front tokens
      → ((span : Span) → meaning (statement_of star) span
      ((((vs ++ (items more ∷ [])) ++ (source from ∷ [])) ++ (order_items orders ∷ []))
      ++ (limit rows ∷ [])) ≡ value)
      → IsClause statement all rest value
  pub same : now ≡ record (with_source from before) {
    items = before.items ++ more;
    orders = before.orders ++ orders;
    limit = rows;
  }

-- It is not read, whatever stands before it.
pub record FailsOn (star : Bool) (tokens : List Token) (fault : Fault) : Type 0 where
  pub fails : (all front : List Token) (vs : List Value)
      → Inside language (behind statement) 1 (at nest_limit statement) (behind_first star) vs all
      front tokens
      → IsClauseFault statement all fault

-- Items and what follows them are read behind EXPLAIN, SELECT and DISTINCT.
pub record ReadsItems (tokens rest : List Token) (before now : Statement) : Type 0 where
  pub reads : (all front : List Token) (explain distinct : Bool) (word : Token)
      → Inside language (behind statement) 1 (at nest_limit statement) before_first
      (flag explain ∷ a_token word ∷ flag distinct ∷ []) all front tokens
      → before ≡ blank explain distinct → IsClause statement all rest (a_statement now)

-- They are not read there.
pub record FailsItems (tokens : List Token) (fault : Fault) : Type 0 where
  pub fails : (all front : List Token) (vs : List Value)
      → Inside language (behind statement) 1 (at nest_limit statement) before_first vs all front
      tokens
      → IsClauseFault statement all fault
