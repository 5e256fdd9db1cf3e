-- The ways through lists with commas.
use Rattle.std.proofs.Common.{◌≡◌, refl, sym, ap, ◌∙◌, subst, ℕ, ◌<◌, ◌≤◌, List, [], ◌∷◌, ◌++◌, map}
use Rattle.std.proofs.Common.{true, false, IsTrue, codes, length, length-append, append_assoc}
use Rattle.std.proofs.Common.{append-nil, arith}
use Rattle.std.proofs.lemmas.List.{map-append}
use Rattle.mc_base.specs.declared.span.Span.{Span}
use Rattle.mc_token.specs.Keywords.{keyword_of}
use Rattle.mc_token.specs.declared.lexeme.Lexeme.TheVariants.{Word, Sym}
use Rattle.mc_token.specs.declared.lexeme.Symbol.TheVariants.{Comma}
use Rattle.mc_token.specs.declared.lexeme.Token.{Token}
use Rattle.mc_grammar.specs.Grammar.{Symbol, one, rule}
use Rattle.mc_grammar.specs.Ahead.{Ahead, every}
use Rattle.mc_grammar.specs.Places.{Place, Inside, Done, kept, entries, is_met, is_next, all_pass}
use Rattle.mc_grammar.specs.Places.{all_out}
use Rattle.mc_grammar.specs.Chains.{Chain}
use Rattle.mc_grammar.specs.Room.{Roomed, Admitted}
use Rattle.mc_grammar.proofs.Links.{chain_start, chain_widen}
use Rattle.mc_grammar.proofs.Seeing.{sees_next}
use Rattle.mc_grammar.proofs.Ways.{choose, take_token, read_rule, one_link, last_link}
use Rattle.mc_sql.specs.Classes.{Class, word, mark, is_intro, is_called}
use Rattle.mc_sql.specs.Nest.{nest_limit}
use Rattle.mc_sql.specs.Rules.{Rule, Alternative, more_items, item, no_more_items, one_more_item}
use Rattle.mc_sql.specs.Rules.{more_orders, order, no_more_orders, one_more_order}
use Rattle.mc_sql.specs.Rules.{more_ors, or, no_more_ors, one_more_or, order_option, no_order}
use Rattle.mc_sql.specs.Rules.{order_by, group_option, no_group, group_by}
use Rattle.mc_ast.specs.declared.expr.Expr.{Expr}
use Rattle.mc_ast.specs.declared.statement.Item.{Item}
use Rattle.mc_ast.specs.declared.statement.OrderItem.{OrderItem}
use Rattle.mc_ast.specs.Meaning.{meaning}
use Rattle.mc_ast.specs.Spans.{span_of}
use Rattle.mc_ast.specs.Values.{Value, Operand, operand, operands, item as an_item, items}
use Rattle.mc_ast.specs.Values.{order_item, order_items}
use Rattle.mc_parse.specs.declared.fault.Fault.{Fault}
use Rattle.mc_parse.specs.declared.fault.Fault.TheVariants.{NoReading}
use Rattle.mc_parse.specs.Clauses.{IsClause, IsClauseFault, HasMore, HasOne}
use Rattle.mc_parse.specs.Language.{language, at, behind, behind_at}
use Rattle.mc_parse.specs.Place.{is_missing, IsNext}
use Rattle.mc_parse.specs.Read.{IsFault}
use Rattle.mc_parse.proofs.Ways.{sound, sees_missing, is_fault, is_missed, is_link_fault}
use Rattle.mc_parse.proofs.ClauseSteps.{ThePlace, the_place, a_class, a_rule, starting}
use Rattle.mc_parse.proofs.ClauseSteps.{the_token, none_of, clause_read, option_left, one_missing}

abbrev comma : Span → Token
comma s = the_token s (Sym Comma)

-- A list `{, X}`: its rule and that of its members, and their alternatives, with what is computed
-- of them.
pub record CommaList (X Y : Type 0) : Type 0 where
  pub more : Rule
  pub member : Rule
  pub after : Ahead (Admitted Class)
  pub ending : Alternative
  pub another : Alternative
  pub value : List X → Value
  pub member_value : X → Value
  pub shown : X → Y
  pub chosen : (s : Span) (v : List Token)
      → kept language (λ k. is_met language k (comma s ∷ v)) (behind more) (starting more)
      ≡ the_place another (a_class (mark Comma) ∷ a_rule member ∷ a_rule more ∷ [])
  pub ended : kept language (λ k. none_of (mark Comma ∷ []) k) (behind more) (starting more)
      ≡ the_place ending []
  pub passes : IsTrue (all_pass language (behind more) (the_place another (a_rule more ∷ [])) after)
  pub value_of_none : meaning ending (span_of []) [] ≡ value []
  pub value_of_more : (span : Span) (s : Value) (x : X) (others : List X)
      → meaning another span (s ∷ member_value x ∷ value others ∷ []) ≡ value (x ∷ others)

module _ {X Y : Type 0} (l : CommaList X Y) where
  -- Members that are read, of the list's rule, and put to a list.
  pub record IsCommaList (tokens rest : List Token) (before now : List Y) : Type 0 where
    pub links : List X
    pub front : List Token
    pub chain : Chain language (behind l.more) 1 (at nest_limit l.more) l.value links tokens front
        rest
    pub same : now ≡ before ++ map l.shown links

  pub listing_start : (tokens : List Token) (before : List Y)
      → IsCommaList tokens tokens before before
  listing_start tokens before = record {
    links = [];
    front = [];
    chain = chain_widen language (behind l.more) 0 1 (at nest_limit l.more) l.value [] tokens []
        tokens (chain_start language (behind l.more) (at nest_limit l.more) l.value tokens)
        (omega arith);
    same = sym (append-nil before);
  }

  at_comma : (s : Span) (v : List Token)
      → Inside language (behind l.more) 0 (at nest_limit l.more)
      (the_place l.another (a_rule l.member ∷ a_rule l.more ∷ []))
      (language.token_value (comma s) ∷ []) (comma s ∷ v) (comma s ∷ []) v
  at_comma s v =
      take_token language sound
      (subst (λ (ps : List ThePlace). Inside language (behind l.more) 1 (at nest_limit l.more) ps []
      (comma s ∷ v) [] (comma s ∷ v)) (l.chosen s v)
      (choose language sound (sees_next language sound (comma s ∷ v)))) refl

  link_here : (s : Span) (tokens v w : List Token) (before now next : List Y)
      → IsCommaList tokens (comma s ∷ v) before now
      → HasOne l.after l.member l.member_value l.shown v w now next
      → IsCommaList tokens w before next
  link_here s tokens v w before now next p o = record {
    links = p.links ++ (o.member ∷ []);
    front = p.front ++ (comma s ∷ o.done.front);
    chain = one_link language sound o.member p.chain
        (read_rule language sound (at_comma s v) o.done refl l.passes (omega arith))
        (λ later others. l.value_of_more _ _ o.member others) (omega arith);
    same = o.same ∙ ap (λ (ys : List Y). ys ++ (l.shown o.member ∷ [])) p.same
        ∙ append_assoc before (map l.shown p.links) (l.shown o.member ∷ [])
        ∙ ap (λ (ys : List Y). before ++ ys)
        (sym (map-append l.shown p.links (o.member ∷ [])));
  }

  pub listing_link : (tokens rest v w : List Token) (before now next : List Y)
      → IsCommaList tokens rest before now → IsNext (Sym Comma) rest v
      → HasOne l.after l.member l.member_value l.shown v w now next
      → IsCommaList tokens w before next
  listing_link tokens rest v w before now next p n o =
      link_here n.span tokens v w before now next
      (subst (λ (ts : List Token). IsCommaList tokens ts before now) n.same p) o

  pub listing_end : (tokens rest : List Token) (before now : List Y)
      → IsCommaList tokens rest before now → IsTrue (is_missing (mark Comma) rest)
      → HasMore l.more l.value l.shown tokens rest before now
  listing_end tokens rest before now p h = record {
    members = p.links;
    clause = record {
      done = last_link language sound p.chain
          (subst (λ (ps : List ThePlace). Inside language (behind l.more) 1 (at nest_limit l.more)
          ps [] rest [] rest) l.ended
          (choose language sound (sees_missing (mark Comma ∷ []) rest
          (one_missing (mark Comma) rest h)))) l.value_of_none (omega arith);
    };
    same = p.same;
  }

  fault_here : (s : Span) (tokens v : List Token) (before now : List Y) (fault : Fault)
      → IsCommaList tokens (comma s ∷ v) before now → IsFault l.after l.member nest_limit v fault
      → IsClauseFault l.more tokens fault
  fault_here s tokens v before now fault p o =
      is_link_fault p.chain (is_fault (at_comma s v) o refl l.passes (omega arith)) (omega arith)

  pub listing_fault : (tokens rest v : List Token) (before now : List Y) (fault : Fault)
      → IsCommaList tokens rest before now → IsNext (Sym Comma) rest v
      → IsFault l.after l.member nest_limit v fault → IsClauseFault l.more tokens fault
  listing_fault tokens rest v before now fault p n o =
      fault_here n.span tokens v before now fault
      (subst (λ (ts : List Token). IsCommaList tokens ts before now) n.same p) o

-- A comma and what is read behind it make the tokens fewer.
pub fewer_left : {after : Ahead (Admitted Class)} {r : Rule} {value : Value}
    (rest v w : List Token) → IsNext (Sym Comma) rest v
    → Done language after 1 (at nest_limit r) v w value → length w < length rest
fewer_left rest v w n o =
    omega (
      arith,
      ap (λ (ts : List Token). length ts) n.same,
      ap (λ (ts : List Token). length ts) o.split,
      length-append o.front w,
    )

-- The three lists.
unfoldable pub more_item : CommaList Item Item
unfolding behind keyword_of is_intro is_called
more_item = record {
  more = more_items;
  member = item;
  after = behind item;
  ending = no_more_items;
  another = one_more_item;
  value = λ xs. items xs;
  member_value = λ x. an_item x;
  shown = λ x. x;
  chosen = λ s v. refl;
  ended = refl;
  passes = refl;
  value_of_none = refl;
  value_of_more = λ span s x others. refl;
}

unfoldable pub more_order : CommaList OrderItem OrderItem
unfolding behind keyword_of is_intro is_called
more_order = record {
  more = more_orders;
  member = order;
  after = behind order;
  ending = no_more_orders;
  another = one_more_order;
  value = λ xs. order_items xs;
  member_value = λ x. order_item x;
  shown = λ x. x;
  chosen = λ s v. refl;
  ended = refl;
  passes = refl;
  value_of_none = refl;
  value_of_more = λ span s x others. refl;
}

unfoldable pub more_or : CommaList Operand Expr
unfolding behind behind_at keyword_of is_intro is_called
more_or = record {
  more = more_ors;
  member = or;
  after = behind_at false or;
  ending = no_more_ors;
  another = one_more_or;
  value = λ xs. operands xs;
  member_value = λ x. operand x;
  shown = λ x. x.expr;
  chosen = λ s v. refl;
  ended = refl;
  passes = refl;
  value_of_none = refl;
  value_of_more = λ span s x others. refl;
}
