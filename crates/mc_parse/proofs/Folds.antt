-- Chains whose links are put to the first operand, one after another.
use Rattle.std.proofs.Common.{◌≡◌, refl, sym, ap, ◌∙◌, subst, ℕ, ◌+◌, ◌≤◌, List, [], ◌∷◌, ◌++◌}
use Rattle.std.proofs.Common.{length, append-nil, arith}
use Rattle.mc_base.specs.declared.span.Span.{Span}
use Rattle.mc_token.specs.declared.lexeme.Token.{Token}
use Rattle.mc_grammar.specs.Grammar.{rule}
use Rattle.mc_grammar.specs.Ahead.{Ahead}
use Rattle.mc_grammar.specs.Places.{Inside}
use Rattle.mc_grammar.specs.Chains.{Chain}
use Rattle.mc_grammar.specs.Room.{Roomed, Admitted}
use Rattle.mc_grammar.proofs.Links.{chain_start, chain_widen, chain_end, chain_step}
use Rattle.mc_sql.specs.Classes.{Class}
use Rattle.mc_sql.specs.Rules.{Rule, Alternative}
use Rattle.mc_ast.specs.Meaning.{meaning}
use Rattle.mc_ast.specs.Grouping.{whole, grouped, grouped_xor, under}
use Rattle.mc_ast.specs.Spans.{from_to, span_of, span_from}
use Rattle.mc_ast.specs.Values.{Value, Operand, Operation, Collation}
use Rattle.mc_ast.specs.declared.expr.Form.TheVariants.{Xor, Arith, Collate}
use Rattle.mc_parse.specs.Language.{language, at}
use Rattle.mc_parse.specs.Read.{IsFault, IsFolded}
use Rattle.mc_parse.proofs.Spans.{span_from-append}
use Rattle.mc_parse.proofs.Ways.{sound, longer}

-- What stands before the same rest is the same.
pub append_same : (f g rest : List Token) → f ++ rest ≡ g ++ rest → f ≡ g
append_same [] [] rest e = refl
append_same [] (y ∷ g) rest e =
    let h : length rest ≡ length (y ∷ (g ++ rest)) = ap (λ (x : List Token). length x) e in
    let k : length rest ≤ length (g ++ rest) = longer g rest in absurd (omega (arith, h, k))
append_same (x ∷ f) [] rest e =
    let h : length (x ∷ (f ++ rest)) ≡ length rest = ap (λ (x : List Token). length x) e in
    let k : length rest ≤ length (f ++ rest) = longer f rest in absurd (omega (arith, h, k))
append_same (x ∷ f) (y ∷ g) rest e =
    let first : x ≡ y = cc in
    let others : f ++ rest ≡ g ++ rest = cc in
    ap (λ (z : Token). z ∷ f) first ∙ ap (λ (z : List Token). y ∷ z) (append_same f g rest others)

-- Links of a chain are read, and put to the first operand.
pub record IsFolding {X : Type 0} (after : Ahead (Admitted Class)) (look : ℕ) (more : Rule)
    (value : List X → Value) (fold : Operand → List X → Operand) (below : ℕ)
    (tokens rest : List Token) (first now : Operand) : Type 0 where
  pub links : List X
  pub front : List Token
  pub chain : Chain language after look (at below more) value links tokens front rest
  pub folded : now ≡ fold first links
  pub whole : now.extent ≡ span_from first.extent front

-- No link is read yet.
pub folds_none : {X : Type 0} {after : Ahead (Admitted Class)} {look : ℕ} {more : Rule}
    {value : List X → Value} {fold : Operand → List X → Operand} {below : ℕ}
    {tokens : List Token} {first : Operand} → first ≡ fold first []
    → IsFolding after look more value fold below tokens tokens first first
folds_none e = record {
  links = [];
  front = [];
  chain = chain_widen language _ 0 _ _ _ _ _ _ _ (chain_start language _ _ _ _) (omega arith);
  folded = e;
  whole = refl;
}

-- One more link is read.
pub folds_link : {X : Type 0} {after : Ahead (Admitted Class)} {n m : ℕ} {more : Rule}
    {value : List X → Value} {fold : Operand → List X → Operand} {below : ℕ}
    {tokens rest front' v : List Token} {first now next : Operand} {a : Roomed Alternative}
    {vs : List Value} (x : X)
    → IsFolding after n more value fold below tokens rest first now
    → Inside language after m (at below more)
    (record { alternative = a; left = rule (at below more) ∷ [] } ∷ []) vs rest front' v
    → ((later : List Token) (others : List X)
    → meaning a.what (span_of (front' ++ later)) (vs ++ (value others ∷ [])) ≡ value (x ∷ others))
    → ((links : List X) → now ≡ fold first links → next ≡ fold first (links ++ (x ∷ [])))
    → next.extent ≡ span_from now.extent front' → n ≤ length front' + m
    → IsFolding after m more value fold below tokens v first next
folds_link {front' = front'} {first = first} x p q h fold_last stands lt = record {
  links = p.links ++ (x ∷ []);
  front = p.front ++ front';
  chain = chain_step language sound _ _ _ _ _ _ _ _ _ _ _ x _ _ p.chain q h lt;
  folded = fold_last p.links p.folded;
  whole = stands ∙ ap (λ (s : Span). span_from s front') p.whole
      ∙ sym (span_from-append first.extent p.front front');
}

-- No link is left.
pub folds_all : {X : Type 0} {after : Ahead (Admitted Class)} {n m : ℕ} {more : Rule}
    {value : List X → Value} {fold : Operand → List X → Operand} {below : ℕ}
    {tokens rest : List Token} {first now : Operand} {a : Roomed Alternative}
    → IsFolding after n more value fold below tokens rest first now
    → Inside language after m (at below more) (record { alternative = a; left = [] } ∷ []) []
    rest [] rest
    → meaning a.what (span_of []) [] ≡ value [] → n ≤ m
    → IsFolded after m more value fold below tokens rest first now
folds_all {rest = rest} {first = first} p q e lt = record {
  links = p.links;
  done = chain_end language sound _ _ _ _ _ _ _ _ _ _ p.chain q e lt;
  folded = p.folded;
  whole = p.whole ∙ ap (λ (x : List Token). span_from first.extent x)
      (append_same p.front _ rest (sym p.chain.split ∙
      (chain_end language sound _ _ _ _ _ _ _ _ _ _ p.chain q e lt).split));
}

-- The next operand, where one more operation or collation stands behind.
pub grouped-last : (x : Operand) (os : List Operation) (o : Operation)
    → grouped x (os ++ (o ∷ [])) ≡ whole (from_to (grouped x os).extent o.right.extent)
    (Arith o.op (grouped x os).expr o.right.expr)
grouped-last x [] o = refl
grouped-last x (p ∷ os) o =
    grouped-last (whole (from_to x.extent p.right.extent) (Arith p.op x.expr p.right.expr)) os o

pub under-last : (x : Operand) (cs : List Collation) (c : Collation)
    → under x (cs ++ (c ∷ [])) ≡ whole (from_to (under x cs).extent c.extent)
    (Collate (under x cs).expr c.name)
under-last x [] c = refl
under-last x (d ∷ cs) c =
    under-last (whole (from_to x.extent d.extent) (Collate x.expr d.name)) cs c

pub grouped_xor-last : (x : Operand) (ys : List Operand) (y : Operand)
    → grouped_xor x (ys ++ (y ∷ [])) ≡ whole (from_to (grouped_xor x ys).extent y.extent)
    (Xor (grouped_xor x ys).expr y.expr)
grouped_xor-last x [] y = refl
grouped_xor-last x (z ∷ ys) y =
    grouped_xor-last (whole (from_to x.extent z.extent) (Xor x.expr z.expr)) ys y
