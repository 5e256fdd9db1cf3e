-- The ways through a statement.
use Rattle.std.proofs.Common.{◌≡◌, refl, sym, ap, ◌∙◌, subst, ℕ, Bool, true, false, List, [], ◌∷◌}
use Rattle.std.proofs.Common.{◌++◌}
use Rattle.std.proofs.Common.{IsTrue, Option, Some, None, codes, length, map, append_assoc, arith}
use Rattle.mc_base.specs.declared.span.Span.{Span}
use Rattle.mc_token.specs.Keywords.{keyword_of}
use Rattle.mc_token.specs.declared.lexeme.Lexeme.TheVariants.{Word, Sym}
use Rattle.mc_token.specs.declared.lexeme.Symbol.TheVariants.{Star}
use Rattle.mc_token.specs.declared.lexeme.Token.{Token}
use Rattle.mc_grammar.specs.Places.{Inside}
use Rattle.mc_grammar.proofs.Inside.{enter}
use Rattle.mc_grammar.proofs.Seeing.{sees_next}
use Rattle.mc_grammar.proofs.Ways.{look, widen, take_token, read_rule}
use Rattle.mc_sql.specs.Classes.{word, mark, is_intro, is_called}
use Rattle.mc_sql.specs.Nest.{nest_limit}
use Rattle.mc_sql.specs.Rules.{statement, more_items, item, order_option, limit_option}
use Rattle.mc_sql.specs.Rules.{explain_option, distinct_option}
use Rattle.mc_ast.specs.declared.statement.Item.{Item}
use Rattle.mc_ast.specs.declared.statement.OrderItem.{OrderItem}
use Rattle.mc_ast.specs.declared.statement.Statement.{Statement}
use Rattle.mc_ast.specs.Meaning.{meaning}
use Rattle.mc_ast.specs.Values.{Value, Source, flag, a_token, item as an_item, items, source}
use Rattle.mc_ast.specs.Values.{order_items, limit, a_statement}
use Rattle.mc_parse.specs.declared.fault.Fault.{Fault}
use Rattle.mc_parse.specs.declared.fault.Fault.TheVariants.{NoReading}
use Rattle.mc_parse.specs.Clauses.{IsClause, IsClauseFault, HasMore, HasOne, HasSource}
use Rattle.mc_parse.specs.Clauses.{with_source, source_of, statement_of, blank, behind_first}
use Rattle.mc_parse.specs.Clauses.{before_first, ReadsOn, FailsOn, ReadsItems, FailsItems}
use Rattle.mc_parse.specs.Language.{language, at, behind}
use Rattle.mc_parse.specs.Place.{is_missing, IsNext}
use Rattle.mc_parse.proofs.Ways.{sound, sees_missing, is_fault, is_missed}
use Rattle.mc_parse.proofs.ClauseSteps.{the_token, clause_read, clause_valued, one_missing}

map_itself : {X : Type 0} (xs : List X) → map (λ x. x) xs ≡ xs
map_itself [] = refl
map_itself (x ∷ xs) = ap (λ (ys : List _). x ∷ ys) (map_itself xs)

-- Inside a statement, behind the `*` or the first item.
abbrev IsBehind : Bool → List Value → List Token → List Token → List Token → Type 0
IsBehind star vs all front tokens =
    Inside language (behind statement) 1 (at nest_limit statement) (behind_first star) vs all front
    tokens

-- Behind the first item

-- The rest is read.
rest_of : (star : Bool) (tokens u v w rest : List Token) (more : List Item)
    (from : Option Source) (orders : List OrderItem) (rows : Option (ℕ × ℕ))
    → IsClause more_items tokens u (items more) → IsClause (source_of star) u v (source from)
    → IsClause order_option v w (order_items orders)
    → IsClause limit_option w rest (limit rows)
    → (all front : List Token) (vs : List Value) (value : Value) → IsBehind star vs all front tokens
    → ((span : Span) → meaning (statement_of star) span
    ((((vs ++ (items more ∷ [])) ++ (source from ∷ [])) ++ (order_items orders ∷ []))
    ++ (limit rows ∷ [])) ≡ value)
    → IsClause statement all rest value
unfolding behind keyword_of is_intro is_called
rest_of true tokens u v w rest more from orders rows o e i j all front vs value p same =
    clause_valued (read_rule language sound (read_rule language sound (read_rule language sound
    (read_rule language sound p o.done refl refl (omega arith)) e.done refl refl (omega arith))
    i.done refl refl (omega arith)) j.done refl refl (omega arith)) (omega arith) same
rest_of false tokens u v w rest more from orders rows o e i j all front vs value p same =
    clause_valued (read_rule language sound (read_rule language sound (read_rule language sound
    (read_rule language sound p o.done refl refl (omega arith)) e.done refl refl (omega arith))
    i.done refl refl (omega arith)) j.done refl refl (omega arith)) (omega arith) same

clauses_put : (before now with_more with_from with_orders : Statement) (more : List Item)
    (from : Option Source) (orders : List OrderItem) (rows : Option (ℕ × ℕ))
    → with_more ≡ record before { items = before.items ++ more }
    → with_from ≡ with_source from with_more
    → with_orders ≡ record with_from { orders = with_from.orders ++ orders }
    → now ≡ record with_orders { limit = rows }
    → now ≡ record (with_source from before) {
      items = before.items ++ more;
      orders = before.orders ++ orders;
      limit = rows;
    }
clauses_put before now with_more with_from with_orders more None orders rows a b c d = cc
clauses_put before now with_more with_from with_orders more (Some s) orders rows a b c d = cc

pub clauses_read : (star : Bool) (tokens u v w rest : List Token)
    (before now with_more with_from with_orders : Statement) (rows : Option (ℕ × ℕ))
    → HasMore more_items (λ xs. items xs) (λ x. x) tokens u before.items with_more.items
    → with_more ≡ record before { items = with_more.items }
    → HasSource (source_of star) u v with_more with_from
    → HasMore order_option (λ xs. order_items xs) (λ x. x) v w with_from.orders with_orders.orders
    → with_orders ≡ record with_from { orders = with_orders.orders }
    → IsClause limit_option w rest (limit rows) → now ≡ record with_orders { limit = rows }
    → ReadsOn star tokens rest before now
clauses_read star tokens u v w rest before now with_more with_from with_orders rows o a e i b j c =
    record {
      more = o.members;
      from = e.from;
      orders = i.members;
      rows = rows;
      reads = rest_of star tokens u v w rest o.members e.from i.members rows o.clause e.clause
          i.clause j;
      same = clauses_put before now with_more with_from with_orders o.members e.from i.members rows
          (a ∙ ap (λ (xs : List Item). record before { items = xs })
          (o.same ∙ ap (λ (xs : List Item). before.items ++ xs) (map_itself o.members)))
          e.same
          (b ∙ ap (λ (xs : List OrderItem). record with_from { orders = xs })
          (i.same ∙ ap (λ (xs : List OrderItem). with_from.orders ++ xs) (map_itself i.members)))
          c;
    }

-- One of the clauses is not read.
pub items_fault : (star : Bool) (tokens : List Token) (fault : Fault)
    → IsClauseFault more_items tokens fault → FailsOn star tokens fault
unfolding behind keyword_of is_intro is_called
items_fault true tokens fault e =
    record { fails = λ all front vs p. is_fault p e refl refl (omega arith) }
items_fault false tokens fault e =
    record { fails = λ all front vs p. is_fault p e refl refl (omega arith) }

pub source_fault : (star : Bool) (tokens u : List Token) (before now : List Item) (fault : Fault)
    → HasMore more_items (λ xs. items xs) (λ x. x) tokens u before now
    → IsClauseFault (source_of star) u fault → FailsOn star tokens fault
unfolding behind keyword_of is_intro is_called
source_fault true tokens u before now fault o e = record {
  fails = λ all front vs p. is_fault (read_rule language sound p o.clause.done refl refl
      (omega arith)) e refl refl (omega arith);
}
source_fault false tokens u before now fault o e = record {
  fails = λ all front vs p. is_fault (read_rule language sound p o.clause.done refl refl
      (omega arith)) e refl refl (omega arith);
}

pub orders_fault : (star : Bool) (tokens u v : List Token) (before now : List Item)
    (tree next : Statement) (fault : Fault)
    → HasMore more_items (λ xs. items xs) (λ x. x) tokens u before now
    → HasSource (source_of star) u v tree next
    → IsClauseFault order_option v fault → FailsOn star tokens fault
unfolding behind keyword_of is_intro is_called
orders_fault true tokens u v before now tree next fault o i e = record {
  fails = λ all front vs p. is_fault (read_rule language sound (read_rule language sound p
      o.clause.done refl refl (omega arith)) i.clause.done refl refl (omega arith)) e refl refl
      (omega arith);
}
orders_fault false tokens u v before now tree next fault o i e = record {
  fails = λ all front vs p. is_fault (read_rule language sound (read_rule language sound p
      o.clause.done refl refl (omega arith)) i.clause.done refl refl (omega arith)) e refl refl
      (omega arith);
}

pub limit_fault : (star : Bool) (tokens u v w : List Token) (before now : List Item)
    (tree next : Statement) (old new : List OrderItem) (fault : Fault)
    → HasMore more_items (λ xs. items xs) (λ x. x) tokens u before now
    → HasSource (source_of star) u v tree next
    → HasMore order_option (λ xs. order_items xs) (λ x. x) v w old new
    → IsClauseFault limit_option w fault → FailsOn star tokens fault
unfolding behind keyword_of is_intro is_called
limit_fault true tokens u v w before now tree next old new fault o i j e = record {
  fails = λ all front vs p. is_fault (read_rule language sound (read_rule language sound
      (read_rule language sound p o.clause.done refl refl (omega arith)) i.clause.done refl refl
      (omega arith)) j.clause.done refl refl (omega arith)) e refl refl (omega arith);
}
limit_fault false tokens u v w before now tree next old new fault o i j e = record {
  fails = λ all front vs p. is_fault (read_rule language sound (read_rule language sound
      (read_rule language sound p o.clause.done refl refl (omega arith)) i.clause.done refl refl
      (omega arith)) j.clause.done refl refl (omega arith)) e refl refl (omega arith);
}

-- The `*` or the first item

abbrev IsBefore : List Value → List Token → List Token → List Token → Type 0
IsBefore vs all front tokens =
    Inside language (behind statement) 1 (at nest_limit statement) before_first vs all front tokens

star_here : (s : Span) (v all front : List Token) (vs : List Value)
    → IsBefore vs all front (the_token s (Sym Star) ∷ v)
    → IsBehind true (vs ++ (a_token (the_token s (Sym Star)) ∷ [])) all
    (front ++ (the_token s (Sym Star) ∷ [])) v
unfolding behind keyword_of is_intro is_called
star_here s v all front vs p =
    widen language sound (take_token language sound (look language sound p
    (sees_next language sound (the_token s (Sym Star) ∷ v))) refl) (omega arith)

star_tree : (before now : Statement) (e d : Bool) (more : List Item) (from : Option Source)
    (orders : List OrderItem) (rows : Option (ℕ × ℕ)) (t u : Token) (span : Span)
    → before ≡ blank e d
    → now ≡ record (with_source from (record before { star = true })) {
      items = before.items ++ more;
      orders = before.orders ++ orders;
      limit = rows;
    }
    → meaning (statement_of true) span
    (flag e ∷ a_token t ∷ flag d ∷ a_token u ∷ items more ∷ source from ∷ order_items orders
    ∷ limit rows ∷ []) ≡ a_statement now
star_tree before now e d more None orders rows t u span a b =
    ap (λ (x : Statement). a_statement x) (sym (b ∙ ap (λ (x : Statement).
    record (with_source None (record x { star = true })) {
      items = x.items ++ more;
      orders = x.orders ++ orders;
      limit = rows;
    }) a))
star_tree before now e d more (Some s) orders rows t u span a b =
    ap (λ (x : Statement). a_statement x) (sym (b ∙ ap (λ (x : Statement).
    record (with_source (Some s) (record x { star = true })) {
      items = x.items ++ more;
      orders = x.orders ++ orders;
      limit = rows;
    }) a))

pub star_read : (tokens v rest : List Token) (before starred now : Statement)
    → IsNext (Sym Star) tokens v → starred ≡ record before { star = true }
    → ReadsOn true v rest starred now → ReadsItems tokens rest before now
star_read tokens v rest before starred now n e o = record {
  reads = λ all front explain distinct word p same.
      o.reads all _ _ (a_statement now)
      (star_here n.span v all front (flag explain ∷ a_token word ∷ flag distinct ∷ [])
      (subst (λ (ts : List Token). IsBefore (flag explain ∷ a_token word ∷ flag distinct ∷ []) all
      front ts) n.same p))
      (λ span. star_tree before now explain distinct o.more o.from o.orders o.rows word
      (the_token n.span (Sym Star)) span same
      (o.same ∙ ap (λ (x : Statement). record (with_source o.from x) {
        items = x.items ++ o.more;
        orders = x.orders ++ o.orders;
        limit = o.rows;
      }) e));
}

pub star_fault : (tokens v : List Token) (fault : Fault) → IsNext (Sym Star) tokens v
    → FailsOn true v fault → FailsItems tokens fault
star_fault tokens v fault n o = record {
  fails = λ all front vs p. o.fails all _ _ (star_here n.span v all front vs
      (subst (λ (ts : List Token). IsBefore vs all front ts) n.same p));
}

first_fault : (tokens : List Token) (fault : Fault) (all front : List Token) (vs : List Value)
    → IsTrue (is_missing (mark Star) tokens) → IsClauseFault item tokens fault
    → IsBefore vs all front tokens → IsClauseFault statement all fault
unfolding behind keyword_of is_intro is_called
first_fault tokens fault all front vs h o p =
    is_fault (look language sound p (sees_missing (mark Star ∷ []) tokens
    (one_missing (mark Star) tokens h))) o refl refl (omega arith)

pub item_missed : (tokens : List Token) (fault : Fault)
    → IsTrue (is_missing (mark Star) tokens) → IsClauseFault item tokens fault
    → FailsItems tokens fault
item_missed tokens fault h o =
    record { fails = λ all front vs p. first_fault tokens fault all front vs h o p }

-- Inside a statement, behind its first item.
record FirstRead (tokens v : List Token) (i : Item) (all : List Token)
    (vs : List Value) : Type 0 where
  front : List Token
  inside : IsBehind false (vs ++ (an_item i ∷ [])) all front v

first_read : (tokens v : List Token) (i : Item) (all front : List Token) (vs : List Value)
    → IsTrue (is_missing (mark Star) tokens) → IsClause item tokens v (an_item i)
    → IsBefore vs all front tokens → FirstRead tokens v i all vs
unfolding behind keyword_of is_intro is_called
first_read tokens v i all front vs h o p = record {
  front = _;
  inside = read_rule language sound (look language sound p (sees_missing (mark Star ∷ []) tokens
      (one_missing (mark Star) tokens h))) o.done refl refl (omega arith);
}

items_tree : (before now : Statement) (e d : Bool) (i : Item) (more : List Item)
    (from : Option Source) (orders : List OrderItem) (rows : Option (ℕ × ℕ)) (t : Token)
    (span : Span) → before ≡ blank e d
    → now ≡ record (with_source from (record before { items = before.items ++ (i ∷ []) })) {
      items = (before.items ++ (i ∷ [])) ++ more;
      orders = before.orders ++ orders;
      limit = rows;
    }
    → meaning (statement_of false) span
    (flag e ∷ a_token t ∷ flag d ∷ an_item i ∷ items more ∷ source from ∷ order_items orders
    ∷ limit rows ∷ []) ≡ a_statement now
items_tree before now e d i more None orders rows t span a b =
    ap (λ (x : Statement). a_statement x) (sym (b ∙ ap (λ (x : Statement).
    record (with_source None (record x { items = x.items ++ (i ∷ []) })) {
      items = (x.items ++ (i ∷ [])) ++ more;
      orders = x.orders ++ orders;
      limit = rows;
    }) a))
items_tree before now e d i more (Some s) orders rows t span a b =
    ap (λ (x : Statement). a_statement x) (sym (b ∙ ap (λ (x : Statement).
    record (with_source (Some s) (record x { items = x.items ++ (i ∷ []) })) {
      items = (x.items ++ (i ∷ [])) ++ more;
      orders = x.orders ++ orders;
      limit = rows;
    }) a))

pub items_read : (tokens v rest : List Token) (before with_first now : Statement)
    → IsTrue (is_missing (mark Star) tokens)
    → HasOne (behind item) item (λ x. an_item x) (λ x. x) tokens v before.items with_first.items
    → with_first ≡ record before { items = with_first.items }
    → ReadsOn false v rest with_first now → ReadsItems tokens rest before now
items_read tokens v rest before with_first now h f e o = record {
  reads = λ all front explain distinct word p same.
      let first : FirstRead tokens v f.member all
      (flag explain ∷ a_token word ∷ flag distinct ∷ []) =
      first_read tokens v f.member all front (flag explain ∷ a_token word ∷ flag distinct ∷ []) h
      (record { done = f.done }) p in
      o.reads all first.front _ (a_statement now) first.inside
      (λ span. items_tree before now explain distinct f.member o.more o.from o.orders o.rows word
      span same
      (o.same ∙ ap (λ (x : Statement). record (with_source o.from x) {
        items = x.items ++ o.more;
        orders = x.orders ++ o.orders;
        limit = o.rows;
      }) (e ∙ ap (λ (xs : List Item). record before { items = xs }) f.same)));
}

pub items_missed : (tokens v : List Token) (before now : List Item) (fault : Fault)
    → IsTrue (is_missing (mark Star) tokens)
    → HasOne (behind item) item (λ x. an_item x) (λ x. x) tokens v before now
    → FailsOn false v fault → FailsItems tokens fault
items_missed tokens v before now fault h f o = record {
  fails = λ all front vs p.
      let first : FirstRead tokens v f.member all vs =
      first_read tokens v f.member all front vs h (record { done = f.done }) p in
      o.fails all first.front _ first.inside;
}

-- EXPLAIN, SELECT and DISTINCT

select_missing : (tokens v : List Token) (e : Bool) → IsClause explain_option tokens v (flag e)
    → IsTrue (is_missing (word (codes "select")) v)
    → IsClauseFault statement tokens (NoReading (length v))
unfolding behind keyword_of is_intro is_called
select_missing tokens v e o h =
    is_missed (read_rule language sound (enter language _ _ _) o.done refl refl (omega arith))
    (sees_missing (word (codes "select") ∷ []) v (one_missing (word (codes "select")) v h)) refl
    (omega arith)

pub select_missed : (tokens v : List Token) (e : Bool) (left : ℕ)
    → IsClause explain_option tokens v (flag e) → IsTrue (is_missing (word (codes "select")) v)
    → left ≡ length v → IsClauseFault statement tokens (NoReading left)
select_missed tokens v e left o h place =
    subst (λ (m : ℕ). IsClauseFault statement tokens (NoReading m)) (sym place)
    (select_missing tokens v e o h)

-- Inside a statement, behind SELECT and DISTINCT.
record SelectRead (tokens w : List Token) (e d : Bool) : Type 0 where
  word : Token
  front : List Token
  inside : IsBefore (flag e ∷ a_token word ∷ flag d ∷ []) tokens front w

select_here : (s : Span) (tokens u w : List Token) (e d : Bool)
    → IsClause explain_option tokens (the_token s (Word (codes "select")) ∷ u) (flag e)
    → IsClause distinct_option u w (flag d) → SelectRead tokens w e d
unfolding behind keyword_of is_intro is_called
select_here s tokens u w e d o i = record {
  word = the_token s (Word (codes "select"));
  front = _;
  inside = read_rule language sound (take_token language sound (read_rule language sound
      (enter language _ _ _) o.done refl refl (omega arith)) refl) i.done refl refl (omega arith);
}

select_read : (tokens v u w : List Token) (e d : Bool) → IsClause explain_option tokens v (flag e)
    → IsNext (Word (codes "select")) v u → IsClause distinct_option u w (flag d)
    → SelectRead tokens w e d
select_read tokens v u w e d o n i =
    select_here n.span tokens u w e d
    (subst (λ (ts : List Token). IsClause explain_option tokens ts (flag e)) n.same o) i

pub statement_read : (tokens v u w rest : List Token) (e d : Bool) (before now : Statement)
    → IsClause explain_option tokens v (flag e) → IsNext (Word (codes "select")) v u
    → IsClause distinct_option u w (flag d) → before ≡ blank e d
    → ReadsItems w rest before now → IsClause statement tokens rest (a_statement now)
statement_read tokens v u w rest e d before now o n i same j =
    let p : SelectRead tokens w e d = select_read tokens v u w e d o n i in
    j.reads tokens p.front e d p.word p.inside same

pub statement_fault : (tokens v u w : List Token) (e d : Bool) (fault : Fault)
    → IsClause explain_option tokens v (flag e) → IsNext (Word (codes "select")) v u
    → IsClause distinct_option u w (flag d) → FailsItems w fault
    → IsClauseFault statement tokens fault
statement_fault tokens v u w e d fault o n i j =
    let p : SelectRead tokens w e d = select_read tokens v u w e d o n i in
    j.fails tokens p.front _ p.inside

-- The ways through each function, by its name.
pub ruleset clauses_ways = (clauses_read, items_fault, source_fault, orders_fault, limit_fault)

pub ruleset items_ways = (star_read, star_fault, items_read, item_missed, items_missed)

pub ruleset statement_ways = (select_missed, statement_read, statement_fault)
