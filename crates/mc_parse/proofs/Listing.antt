-- Chains whose operands are appended to a list, one after another.
use Rattle.std.proofs.Common.{◌≡◌, refl, sym, ap, ◌∙◌, subst, ℕ, ◌+◌, ◌≤◌, Bool, true, false, not}
use Rattle.std.proofs.Common.{List, [], ◌∷◌, ◌++◌, length, map, append_assoc, append-nil, IsTrue}
use Rattle.std.proofs.Common.{arith}
use Rattle.std.proofs.lemmas.List.{map-append}
use Rattle.mc_base.specs.declared.span.Span.{Span}
use Rattle.mc_token.specs.declared.lexeme.Token.{Token}
use Rattle.mc_grammar.specs.Grammar.{rule}
use Rattle.mc_grammar.specs.Ahead.{Ahead}
use Rattle.mc_grammar.specs.Places.{Inside}
use Rattle.mc_grammar.specs.Chains.{Chain}
use Rattle.mc_grammar.specs.Room.{Roomed, Admitted}
use Rattle.mc_grammar.proofs.Links.{chain_start, chain_widen, chain_end, chain_step}
use Rattle.mc_sql.specs.Classes.{Class}
use Rattle.mc_sql.specs.Rules.{Rule, Alternative}
use Rattle.mc_ast.specs.declared.expr.Expr.{Expr}
use Rattle.mc_ast.specs.declared.expr.Form.{Form}
use Rattle.mc_ast.specs.Grouping.{whole}
use Rattle.mc_ast.specs.Meaning.{meaning}
use Rattle.mc_ast.specs.Spans.{span_of, span_from}
use Rattle.mc_ast.specs.Values.{Value, Operand, exprs, operands}
use Rattle.mc_parse.specs.Language.{language, at}
use Rattle.mc_parse.specs.Lists.{joined, IsListed}
use Rattle.mc_parse.specs.Place.{is_missing}
use Rattle.mc_parse.specs.Read.{IsFolded}
use Rattle.mc_parse.proofs.Spans.{span_from-append}
use Rattle.mc_parse.proofs.Ways.{sound}
use Rattle.mc_parse.proofs.Folds.{append_same}

-- Links of a chain are read, and their operands appended to a list.
pub record IsListing (after : Ahead (Admitted Class)) (look : ℕ) (more : Rule) (below : ℕ)
    (tokens rest : List Token) (old new : List Expr) (first last : Span) : Type 0 where
  pub links : List Operand
  pub front : List Token
  pub chain : Chain language after look (at below more) (λ xs. operands xs) links tokens front rest
  pub listed : new ≡ old ++ exprs links
  pub whole : last ≡ span_from first front
  pub some : links ≡ [] → rest ≡ tokens

-- No link is read yet.
pub lists_none : {after : Ahead (Admitted Class)} {look : ℕ} {more : Rule} {below : ℕ}
    {tokens : List Token} {old : List Expr} {first : Span}
    → IsListing after look more below tokens tokens old old first first
lists_none {old = old} = record {
  links = [];
  front = [];
  chain = chain_widen language _ 0 _ _ _ _ _ _ _ (chain_start language _ _ _ _) (omega arith);
  listed = sym (append-nil old);
  whole = refl;
  some = λ e. refl;
}

not_empty : {A : Type 0} (xs : List A) (x : A) → xs ++ (x ∷ []) ≡ [] → ⊥
not_empty [] x e = cc
not_empty (y ∷ xs) x e = cc

-- One more link is read.
pub lists_link : {after : Ahead (Admitted Class)} {n m : ℕ} {more : Rule} {below : ℕ}
    {tokens rest front' v : List Token} {old now next : List Expr} {first last later : Span}
    {a : Roomed Alternative} {vs : List Value} (x : Operand)
    → IsListing after n more below tokens rest old now first last
    → Inside language after m (at below more)
    (record { alternative = a; left = rule (at below more) ∷ [] } ∷ []) vs rest front' v
    → ((later : List Token) (others : List Operand)
    → meaning a.what (span_of (front' ++ later)) (vs ++ (operands others ∷ []))
    ≡ operands (x ∷ others))
    → next ≡ now ++ (x.expr ∷ []) → later ≡ span_from last front' → n ≤ length front' + m
    → IsListing after m more below tokens v old next first later
lists_link {front' = front'} {old = old} {first = first} x p q h e stands lt = record {
  links = p.links ++ (x ∷ []);
  front = p.front ++ front';
  chain = chain_step language sound _ _ _ _ _ _ _ _ _ _ _ x _ _ p.chain q h lt;
  listed = e ∙ ap (λ (ys : List Expr). ys ++ (x.expr ∷ [])) p.listed
      ∙ append_assoc old (exprs p.links) (x.expr ∷ [])
      ∙ ap (λ (ys : List Expr). old ++ ys)
      (sym (map-append (λ (y : Operand). y.expr) p.links (x ∷ [])));
  whole = stands ∙ ap (λ (s : Span). span_from s front') p.whole
      ∙ sym (span_from-append first p.front front');
  some = λ none. absurd (not_empty p.links x none);
}

-- No link is left.
pub lists_all : {after : Ahead (Admitted Class)} {n m : ℕ} {more : Rule} {below : ℕ}
    {tokens rest : List Token} {old new : List Expr} {first last : Span}
    {a : Roomed Alternative}
    → IsListing after n more below tokens rest old new first last
    → Inside language after m (at below more) (record { alternative = a; left = [] } ∷ []) []
    rest [] rest
    → meaning a.what (span_of []) [] ≡ operands [] → n ≤ m
    → IsListed after m more below tokens rest old new first last
lists_all {rest = rest} {first = first} p q e lt = record {
  links = p.links;
  done = chain_end language sound _ _ _ _ _ _ _ _ _ _ p.chain q e lt;
  listed = p.listed;
  whole = p.whole ∙ ap (λ (x : List Token). span_from first x)
      (append_same p.front _ rest (sym p.chain.split ∙
      (chain_end language sound _ _ _ _ _ _ _ _ _ _ p.chain q e lt).split));
  some = p.some;
}

not_both : (b : Bool) → IsTrue b → IsTrue (not b) → ⊥
not_both true h k = cc
not_both false h k = cc

-- The first operand and those of the list are one expression, where a link is next at first and
-- none is at last.
pub joins : {after : Ahead (Admitted Class)} {look : ℕ} {more : Rule} {below : ℕ}
    {tokens rest : List Token} {old new : List Expr} {last : Span} (form : List Expr → Form)
    (k : Class) (x y : Operand)
    → IsListed after look more below tokens rest old new x.extent last → old ≡ x.expr ∷ []
    → IsTrue (not (is_missing k tokens)) → IsTrue (is_missing k rest)
    → y ≡ whole last (form new)
    → IsFolded after look more (λ xs. operands xs) (joined form y.extent) below tokens rest x y
joins {tokens = tokens} {rest = rest} {old = old} {new = new} {last = last} form k x y p one begun
    ended e = record {
      links = p.links;
      done = p.done;
      folded = by_links p.links (λ none. p.some none)
          (p.listed ∙ ap (λ (es : List Expr). es ++ exprs p.links) one);
      whole = ap (λ (z : Operand). z.extent) e ∙ p.whole;
    }
  where
    by_links : (xs : List Operand) → (xs ≡ [] → rest ≡ tokens)
        → new ≡ (x.expr ∷ []) ++ exprs xs → y ≡ joined form y.extent x xs
    by_links [] some f = absurd (not_both (is_missing k tokens)
        (subst (λ (ts : List Token). IsTrue (is_missing k ts)) (some refl) ended) begun)
    by_links (z ∷ zs) some f =
        e ∙ ap (λ (s : Span). whole s (form new)) (sym (ap (λ (o : Operand). o.extent) e))
        ∙ ap (λ (es : List Expr). whole y.extent (form es)) f
