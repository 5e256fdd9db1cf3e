-- The ways through the functions that read operators on values.
use Rattle.std.proofs.Common.{◌≡◌, refl, sym, ap, ◌∙◌, subst, inl, inr, ℕ, zero, suc, ◌+◌, ◌<◌, ◌≤◌}
use Rattle.std.proofs.Common.{Bool, not, ◌&&◌, List, [], ◌∷◌, ◌++◌, IsTrue, length, arith, codes}
use Rattle.mc_base.specs.declared.span.Span.{Span}
use Rattle.mc_token.specs.declared.lexeme.Lexeme.TheVariants as lexeme
use Rattle.mc_token.specs.declared.lexeme.Symbol.TheVariants.{Minus, Plus, Star, Percent}
use Rattle.mc_token.specs.declared.lexeme.Token.{Token}
use Rattle.mc_token.specs.Keywords.{keyword_of}
use Rattle.mc_grammar.proofs.Seeing.{sees_next}
use Rattle.mc_grammar.proofs.Inside.{enter}
use Rattle.mc_grammar.proofs.Ways.{choose, take_token, read_rule}
use Rattle.mc_sql.specs.Classes.{word, mark, is_intro, is_called}
use Rattle.mc_sql.specs.Rules as rule
use Rattle.mc_ast.specs.Grouping.{whole, grouped, under}
use Rattle.mc_ast.specs.Spans.{from_to, span_from, span_of}
use Rattle.mc_ast.specs.Values.{Operand, Operation, Collation, operand, operations, collation}
use Rattle.mc_ast.specs.Values.{collations}
use Rattle.mc_ast.specs.declared.expr.Form.TheVariants.{Arith, Neg, Collate}
use Rattle.mc_ast.specs.declared.operators.ArithOp.{ArithOp}
use Rattle.mc_ast.specs.declared.operators.ArithOp.TheVariants.{Add, Sub, Mul, Div, Mod}
use Rattle.mc_parse.specs.declared.fault.Fault.{Fault}
use Rattle.mc_parse.specs.declared.fault.Fault.TheVariants.{TooDeep}
use Rattle.mc_parse.specs.declared.operand.Operand.{Operand as Found}
use Rattle.mc_parse.specs.Language.{language, at, behind}
use Rattle.mc_parse.specs.Place.{is_missing, are_missing, span_at, IsNext}
use Rattle.mc_parse.specs.Read.{IsRead, IsFault, as_operand, IsOperand, IsFolded}
use Rattle.mc_parse.specs.Signs.{factor_signs, summand_signs, IsFactorSign, IsSummandSign}
use Rattle.mc_parse.proofs.Spans.{span_from-one, span_of-one}
use Rattle.mc_parse.proofs.Ways.{sound, both_missing, sees_missing, is_read, is_fault, is_missed}
use Rattle.mc_parse.proofs.Ways.{is_barred_here, is_link_fault, read_takes, link_shorter}
use Rattle.mc_parse.proofs.Folds.{IsFolding, folds_none, folds_link, folds_all, grouped-last}
use Rattle.mc_parse.proofs.Folds.{under-last}
use Rattle.mc_parse.proofs.Groups.{group_read}

-- COLLATE

-- Links of COLLATE are read.
abbrev pub IsCollating : ℕ → List Token → List Token → Operand → Operand → Type 0
IsCollating below tokens rest first now =
    IsFolding (behind rule.more_collates) 1 rule.more_collates collations under below tokens rest
    first now

collate_here : (below : ℕ) (tokens : List Token) (s : Span) (v w : List Token)
    (first now next : Operand) (c : Collation)
    → IsCollating below tokens (record { span = s; kind = lexeme.Word (codes "collate") } ∷ v) first
    now
    → IsRead (behind rule.name_or_binary) 1 rule.name_or_binary below v w (collation c) c.extent
    → next ≡ whole (from_to now.extent c.extent) (Collate now.expr c.name)
    → IsCollating below tokens w first next
unfolding behind keyword_of is_intro is_called
collate_here below tokens s v w first now next c p o h =
    folds_link c p
    (read_rule language sound (take_token language sound
    (choose language sound (sees_next language sound _)) refl) o.done refl refl (omega arith))
    (λ later others. refl)
    (λ links e. h ∙ ap (λ (y : Operand). whole (from_to y.extent c.extent) (Collate y.expr c.name))
    e
    ∙ sym (under-last first links c))
    (ap (λ (y : Operand). y.extent) h ∙ ap (λ (x : Span). from_to now.extent x) o.whole
    ∙ span_from-one now.extent (record { span = s; kind = lexeme.Word (codes "collate") })
    o.done.front (read_takes o refl))
    (omega arith)

pub collate_read : (below : ℕ) (tokens rest v w : List Token) (first now next : Operand)
    (c : Collation) → IsCollating below tokens rest first now
    → IsNext (lexeme.Word (codes "collate")) rest v
    → IsRead (behind rule.name_or_binary) 1 rule.name_or_binary below v w (collation c) c.extent
    → next ≡ whole (from_to now.extent c.extent) (Collate now.expr c.name)
    → IsCollating below tokens w first next
collate_read below tokens rest v w first now next c p n o h =
    collate_here below tokens n.span v w first now next c
    (subst (λ (x : List Token). IsCollating below tokens x first now) n.same p) o h

pub collates_read : (below : ℕ) (tokens rest : List Token) (first now : Operand)
    → IsCollating below tokens rest first now → IsTrue (is_missing (word (codes "collate")) rest)
    → IsFolded (behind rule.more_collates) 1 rule.more_collates collations under below tokens rest
    first now
unfolding behind keyword_of is_intro is_called
collates_read below tokens rest first now p h =
    folds_all p (choose language sound
    (sees_missing (word (codes "collate") ∷ []) rest (both_missing _ _ h refl))) refl (omega arith)

collate_missed_here : (below : ℕ) (s : Span) (v : List Token) (fault : Fault)
    → IsFault (behind rule.name_or_binary) rule.name_or_binary below v fault
    → IsFault (behind rule.more_collates) rule.more_collates below
    (record { span = s; kind = lexeme.Word (codes "collate") } ∷ v) fault
unfolding behind keyword_of is_intro is_called
collate_missed_here below s v fault o =
    is_fault (take_token language sound (choose language sound (sees_next language sound _)) refl)
    o refl refl (omega arith)

pub collate_missed : (below : ℕ) (tokens rest v : List Token) (first now : Operand) (fault : Fault)
    → IsCollating below tokens rest first now → IsNext (lexeme.Word (codes "collate")) rest v
    → IsFault (behind rule.name_or_binary) rule.name_or_binary below v fault
    → IsFault (behind rule.more_collates) rule.more_collates below tokens fault
collate_missed below tokens rest v first now fault p n o =
    is_link_fault p.chain
    (subst (λ (x : List Token). IsFault (behind rule.more_collates) rule.more_collates below
    x fault)
    (sym n.same) (collate_missed_here below n.span v fault o)) (omega arith)

pub coll_read : (below : ℕ) (tokens v w : List Token) (x y : Found)
    → IsOperand rule.prim below tokens v x
    → IsFolded (behind rule.more_collates) 1 rule.more_collates collations under below v w
    (as_operand x) (as_operand y)
    → IsOperand rule.coll below tokens w y
unfolding behind keyword_of is_intro is_called
coll_read below tokens v w x y p f =
    group_read rule.coll rule.prim rule.more_collates rule.collated p f (omega arith) refl refl refl
    refl (λ span links e h. ap (λ (z : Operand). operand z) (sym e))

pub coll_first_missed : (below : ℕ) (tokens : List Token) (fault : Fault)
    → IsFault (behind rule.prim) rule.prim below tokens fault
    → IsFault (behind rule.coll) rule.coll below tokens fault
unfolding behind keyword_of is_intro is_called
coll_first_missed below tokens fault o =
    is_fault (enter language (behind rule.coll) _ _) o refl refl (omega arith)

pub coll_more_missed : (below : ℕ) (tokens v : List Token) (x : Found) (fault : Fault)
    → IsOperand rule.prim below tokens v x
    → IsFault (behind rule.more_collates) rule.more_collates below v fault
    → IsFault (behind rule.coll) rule.coll below tokens fault
unfolding behind keyword_of is_intro is_called
coll_more_missed below tokens v x fault p o =
    is_fault (read_rule language sound (enter language (behind rule.coll) _ _) p.done refl refl
    (omega arith)) o refl refl (omega arith)

-- Minus

pub neg_coll_read : (below : ℕ) (tokens w : List Token) (x : Found)
    → IsTrue (is_missing (mark Minus) tokens) → IsOperand rule.coll below tokens w x
    → IsOperand rule.neg below tokens w x
unfolding behind keyword_of is_intro is_called
neg_coll_read below tokens w x h o =
    is_read (read_rule language sound (choose language sound
    (sees_missing (mark Minus ∷ []) tokens (both_missing _ _ h refl))) o.done refl refl
    (omega arith)) o.whole

pub neg_coll_missed : (below : ℕ) (tokens : List Token) (fault : Fault)
    → IsTrue (is_missing (mark Minus) tokens)
    → IsFault (behind rule.coll) rule.coll below tokens fault
    → IsFault (behind rule.neg) rule.neg below tokens fault
unfolding behind keyword_of is_intro is_called
neg_coll_missed below tokens fault h o =
    is_fault (choose language sound
    (sees_missing (mark Minus ∷ []) tokens (both_missing _ _ h refl))) o refl refl (omega arith)

minus_here : (below : ℕ) (s : Span) (v w : List Token) (x : Found) → IsOperand rule.neg below v w x
    → IsRead (behind rule.neg) 1 rule.neg (suc below)
    (record { span = s; kind = lexeme.Sym Minus } ∷ v) w
    (operand (whole (from_to s x.extent) (Neg x.expr))) (from_to s x.extent)
unfolding behind keyword_of is_intro is_called
minus_here below s v w x o =
    subst (λ (e : Span). IsRead (behind rule.neg) 1 rule.neg (suc below)
    (record { span = s; kind = lexeme.Sym Minus } ∷ v) w (operand (whole e (Neg x.expr))) e)
    (sym (ap (λ (e : Span). from_to s e) o.whole
    ∙ span_of-one (record { span = s; kind = lexeme.Sym Minus }) o.done.front (read_takes o refl)))
    (is_read (read_rule language sound (take_token language sound
    (choose language sound (sees_next language sound _)) refl) o.done refl refl (omega arith)) refl)

pub minus_read : (below inner : ℕ) (tokens v w : List Token) (s : Span) (x y : Found)
    → below ≡ suc inner → IsNext (lexeme.Sym Minus) tokens v → s ≡ span_at tokens
    → IsOperand rule.neg inner v w x
    → as_operand y ≡ whole (from_to s x.extent) (Neg x.expr)
    → IsOperand rule.neg below tokens w y
minus_read below inner tokens v w s x y e n at_sign o h =
    subst (λ (z : Operand). IsRead (behind rule.neg) 1 rule.neg below tokens w (operand z) z.extent)
    (sym h)
    (subst (λ (m : ℕ). IsRead (behind rule.neg) 1 rule.neg m tokens w
    (operand (whole (from_to s x.extent) (Neg x.expr))) (from_to s x.extent)) (sym e)
    (subst (λ (z : Span). IsRead (behind rule.neg) 1 rule.neg (suc inner) tokens w
    (operand (whole (from_to z x.extent) (Neg x.expr))) (from_to z x.extent))
    (sym (at_sign ∙ ap span_at n.same))
    (subst (λ (z : List Token). IsRead (behind rule.neg) 1 rule.neg (suc inner) z w
    (operand (whole (from_to n.span x.extent) (Neg x.expr))) (from_to n.span x.extent))
    (sym n.same) (minus_here inner n.span v w x o))))

minus_missed_here : (below : ℕ) (s : Span) (v : List Token) (fault : Fault)
    → IsFault (behind rule.neg) rule.neg below v fault
    → IsFault (behind rule.neg) rule.neg (suc below)
    (record { span = s; kind = lexeme.Sym Minus } ∷ v) fault
unfolding behind keyword_of is_intro is_called
minus_missed_here below s v fault o =
    is_fault (take_token language sound (choose language sound (sees_next language sound _)) refl)
    o refl refl (omega arith)

pub minus_missed : (below inner : ℕ) (tokens v : List Token) (fault : Fault)
    → below ≡ suc inner → IsNext (lexeme.Sym Minus) tokens v
    → IsFault (behind rule.neg) rule.neg inner v fault
    → IsFault (behind rule.neg) rule.neg below tokens fault
minus_missed below inner tokens v fault e n o =
    subst (λ (m : ℕ). IsFault (behind rule.neg) rule.neg m tokens fault) (sym e)
    (subst (λ (z : List Token). IsFault (behind rule.neg) rule.neg (suc inner) z fault)
    (sym n.same) (minus_missed_here inner n.span v fault o))

minus_deep_here : (s : Span) (v : List Token)
    → IsFault (behind rule.neg) rule.neg 0 (record { span = s; kind = lexeme.Sym Minus } ∷ v)
    (TooDeep (length (record { span = s; kind = lexeme.Sym Minus } ∷ v)))
unfolding behind keyword_of is_intro is_called
minus_deep_here s v =
    is_barred_here (choose language sound (sees_next language sound _)) refl (omega arith)

pub minus_deep : (below : ℕ) (tokens v : List Token) (left : ℕ) → below ≡ 0
    → IsNext (lexeme.Sym Minus) tokens v → left ≡ length tokens
    → IsFault (behind rule.neg) rule.neg below tokens (TooDeep left)
minus_deep below tokens v left e n l =
    subst (λ (m : ℕ). IsFault (behind rule.neg) rule.neg below tokens (TooDeep m)) (sym l)
    (subst (λ (m : ℕ). IsFault (behind rule.neg) rule.neg m tokens (TooDeep (length tokens)))
    (sym e)
    (subst (λ (z : List Token). IsFault (behind rule.neg) rule.neg 0 z (TooDeep (length z)))
    (sym n.same) (minus_deep_here n.span v)))

-- Factors

-- Links of factors are read.
abbrev pub IsMultiplying : ℕ → List Token → List Token → Operand → Operand → Type 0
IsMultiplying below tokens rest first now =
    IsFolding (behind rule.more_negs) 1 rule.more_negs operations grouped below tokens rest first
    now

abbrev link_of : ArithOp → Found → Operation
link_of op x = record { op = op; right = as_operand x }

-- The next operand is the last one and the operation behind it.
grouped_next : (first now next : Operand) (op : ArithOp) (x : Found) (os : List Operation)
    → next ≡ whole (from_to now.extent x.extent) (Arith op now.expr x.expr) → now ≡ grouped first os
    → next ≡ grouped first (os ++ (link_of op x ∷ []))
grouped_next first now next op x os h e =
    h ∙ ap (λ (y : Operand). whole (from_to y.extent x.extent) (Arith op y.expr x.expr)) e
    ∙ sym (grouped-last first os (link_of op x))

-- Where it stands.
grouped_stands : {look : ℕ} {q : rule.Rule} {below : ℕ} {v w : List Token} (now next : Operand)
    (op : ArithOp) (x : Found) (t : Token)
    → next ≡ whole (from_to now.extent x.extent) (Arith op now.expr x.expr)
    → (o : IsRead (behind q) look q below v w (operand (as_operand x)) x.extent)
    → 1 ≤ length o.done.front
    → next.extent ≡ span_from now.extent (t ∷ o.done.front)
grouped_stands now next op x t h o lt =
    ap (λ (y : Operand). y.extent) h ∙ ap (λ (e : Span). from_to now.extent e) o.whole
    ∙ span_from-one now.extent t o.done.front lt

times_here : (below : ℕ) (tokens : List Token) (s : Span) (v w : List Token)
    (first now next : Operand) (x : Found)
    → IsMultiplying below tokens (record { span = s; kind = lexeme.Sym Star } ∷ v) first now
    → IsOperand rule.neg below v w x
    → next ≡ whole (from_to now.extent x.extent) (Arith Mul now.expr x.expr)
    → IsMultiplying below tokens w first next
unfolding behind keyword_of is_intro is_called
times_here below tokens s v w first now next x p o h =
    folds_link (link_of Mul x) p
    (read_rule language sound (take_token language sound
    (choose language sound (sees_next language sound _)) refl) o.done refl refl (omega arith))
    (λ later others. refl) (λ os e. grouped_next first now next Mul x os h e)
    (grouped_stands now next Mul x (record { span = s; kind = lexeme.Sym Star }) h o
    (read_takes o refl)) (omega arith)

div_here : (below : ℕ) (tokens : List Token) (s : Span) (v w : List Token)
    (first now next : Operand) (x : Found)
    → IsMultiplying below tokens (record { span = s; kind = lexeme.Word (codes "div") } ∷ v) first
    now
    → IsOperand rule.neg below v w x
    → next ≡ whole (from_to now.extent x.extent) (Arith Div now.expr x.expr)
    → IsMultiplying below tokens w first next
unfolding behind keyword_of is_intro is_called
div_here below tokens s v w first now next x p o h =
    folds_link (link_of Div x) p
    (read_rule language sound (take_token language sound
    (choose language sound (sees_next language sound _)) refl) o.done refl refl (omega arith))
    (λ later others. refl) (λ os e. grouped_next first now next Div x os h e)
    (grouped_stands now next Div x (record { span = s; kind = lexeme.Word (codes "div") }) h o
    (read_takes o refl)) (omega arith)

percent_here : (below : ℕ) (tokens : List Token) (s : Span) (v w : List Token)
    (first now next : Operand) (x : Found)
    → IsMultiplying below tokens (record { span = s; kind = lexeme.Sym Percent } ∷ v) first now
    → IsOperand rule.neg below v w x
    → next ≡ whole (from_to now.extent x.extent) (Arith Mod now.expr x.expr)
    → IsMultiplying below tokens w first next
unfolding behind keyword_of is_intro is_called
percent_here below tokens s v w first now next x p o h =
    folds_link (link_of Mod x) p
    (read_rule language sound (take_token language sound
    (choose language sound (sees_next language sound _)) refl) o.done refl refl (omega arith))
    (λ later others. refl) (λ os e. grouped_next first now next Mod x os h e)
    (grouped_stands now next Mod x (record { span = s; kind = lexeme.Sym Percent }) h o
    (read_takes o refl)) (omega arith)

mod_here : (below : ℕ) (tokens : List Token) (s : Span) (v w : List Token)
    (first now next : Operand) (x : Found)
    → IsMultiplying below tokens (record { span = s; kind = lexeme.Word (codes "mod") } ∷ v) first
    now
    → IsOperand rule.neg below v w x
    → next ≡ whole (from_to now.extent x.extent) (Arith Mod now.expr x.expr)
    → IsMultiplying below tokens w first next
unfolding behind keyword_of is_intro is_called
mod_here below tokens s v w first now next x p o h =
    folds_link (link_of Mod x) p
    (read_rule language sound (take_token language sound
    (choose language sound (sees_next language sound _)) refl) o.done refl refl (omega arith))
    (λ later others. refl) (λ os e. grouped_next first now next Mod x os h e)
    (grouped_stands now next Mod x (record { span = s; kind = lexeme.Word (codes "mod") }) h o
    (read_takes o refl)) (omega arith)

pub factor_read : (below : ℕ) (tokens rest v w : List Token) (first now next : Operand)
    (op : ArithOp) (x : Found) → IsMultiplying below tokens rest first now
    → IsFactorSign op rest v → IsOperand rule.neg below v w x
    → next ≡ whole (from_to now.extent x.extent) (Arith op now.expr x.expr)
    → IsMultiplying below tokens w first next
factor_read below tokens rest v w first now next op x p (inl n) o h =
    times_here below tokens n.0.span v w first now next x
    (subst (λ (z : List Token). IsMultiplying below tokens z first now) n.0.same p) o
    (h ∙ ap (λ (z : ArithOp). whole (from_to now.extent x.extent) (Arith z now.expr x.expr)) n.1)
factor_read below tokens rest v w first now next op x p (inr (inl n)) o h =
    div_here below tokens n.0.span v w first now next x
    (subst (λ (z : List Token). IsMultiplying below tokens z first now) n.0.same p) o
    (h ∙ ap (λ (z : ArithOp). whole (from_to now.extent x.extent) (Arith z now.expr x.expr)) n.1)
factor_read below tokens rest v w first now next op x p (inr (inr (inl n))) o h =
    percent_here below tokens n.0.span v w first now next x
    (subst (λ (z : List Token). IsMultiplying below tokens z first now) n.0.same p) o
    (h ∙ ap (λ (z : ArithOp). whole (from_to now.extent x.extent) (Arith z now.expr x.expr)) n.1)
factor_read below tokens rest v w first now next op x p (inr (inr (inr n))) o h =
    mod_here below tokens n.0.span v w first now next x
    (subst (λ (z : List Token). IsMultiplying below tokens z first now) n.0.same p) o
    (h ∙ ap (λ (z : ArithOp). whole (from_to now.extent x.extent) (Arith z now.expr x.expr)) n.1)

pub factors_read : (below : ℕ) (tokens rest : List Token) (first now : Operand)
    → IsMultiplying below tokens rest first now → IsTrue (are_missing factor_signs rest)
    → IsFolded (behind rule.more_negs) 1 rule.more_negs operations grouped below tokens rest first
    now
unfolding behind keyword_of is_intro is_called
factors_read below tokens rest first now p h =
    folds_all p (choose language sound (sees_missing factor_signs rest h)) refl (omega arith)

times_missed : (below : ℕ) (s : Span) (v : List Token) (fault : Fault)
    → IsFault (behind rule.neg) rule.neg below v fault
    → IsFault (behind rule.more_negs) rule.more_negs below
    (record { span = s; kind = lexeme.Sym Star } ∷ v) fault
unfolding behind keyword_of is_intro is_called
times_missed below s v fault o =
    is_fault (take_token language sound (choose language sound (sees_next language sound _)) refl)
    o refl refl (omega arith)

div_missed : (below : ℕ) (s : Span) (v : List Token) (fault : Fault)
    → IsFault (behind rule.neg) rule.neg below v fault
    → IsFault (behind rule.more_negs) rule.more_negs below
    (record { span = s; kind = lexeme.Word (codes "div") } ∷ v) fault
unfolding behind keyword_of is_intro is_called
div_missed below s v fault o =
    is_fault (take_token language sound (choose language sound (sees_next language sound _)) refl)
    o refl refl (omega arith)

percent_missed : (below : ℕ) (s : Span) (v : List Token) (fault : Fault)
    → IsFault (behind rule.neg) rule.neg below v fault
    → IsFault (behind rule.more_negs) rule.more_negs below
    (record { span = s; kind = lexeme.Sym Percent } ∷ v) fault
unfolding behind keyword_of is_intro is_called
percent_missed below s v fault o =
    is_fault (take_token language sound (choose language sound (sees_next language sound _)) refl)
    o refl refl (omega arith)

mod_missed : (below : ℕ) (s : Span) (v : List Token) (fault : Fault)
    → IsFault (behind rule.neg) rule.neg below v fault
    → IsFault (behind rule.more_negs) rule.more_negs below
    (record { span = s; kind = lexeme.Word (codes "mod") } ∷ v) fault
unfolding behind keyword_of is_intro is_called
mod_missed below s v fault o =
    is_fault (take_token language sound (choose language sound (sees_next language sound _)) refl)
    o refl refl (omega arith)

pub factor_missed : (below : ℕ) (tokens rest v : List Token) (first now : Operand) (op : ArithOp)
    (fault : Fault) → IsMultiplying below tokens rest first now → IsFactorSign op rest v
    → IsFault (behind rule.neg) rule.neg below v fault
    → IsFault (behind rule.more_negs) rule.more_negs below tokens fault
factor_missed below tokens rest v first now op fault p sign o =
    is_link_fault p.chain (by_sign sign) (omega arith)
  where
    by_sign : IsFactorSign op rest v → IsFault (behind rule.more_negs) rule.more_negs below rest
        fault
    by_sign (inl n) = subst (λ (x : List Token). IsFault (behind rule.more_negs) rule.more_negs
        below x fault) (sym n.0.same) (times_missed below n.0.span v fault o)
    by_sign (inr (inl n)) = subst (λ (x : List Token). IsFault (behind rule.more_negs)
        rule.more_negs below x fault) (sym n.0.same) (div_missed below n.0.span v fault o)
    by_sign (inr (inr (inl n))) = subst (λ (x : List Token). IsFault (behind rule.more_negs)
        rule.more_negs below x fault) (sym n.0.same) (percent_missed below n.0.span v fault o)
    by_sign (inr (inr (inr n))) = subst (λ (x : List Token). IsFault (behind rule.more_negs)
        rule.more_negs below x fault) (sym n.0.same) (mod_missed below n.0.span v fault o)

pub factor_shorter : (op : ArithOp) {tokens v w : List Token} {below : ℕ} {x : Found}
    → IsFactorSign op tokens v → IsOperand rule.neg below v w x → length w < length tokens
factor_shorter op (inl n) o = link_shorter n.0 o
factor_shorter op (inr (inl n)) o = link_shorter n.0 o
factor_shorter op (inr (inr (inl n))) o = link_shorter n.0 o
factor_shorter op (inr (inr (inr n))) o = link_shorter n.0 o

pub prod_read : (below : ℕ) (tokens v w : List Token) (x y : Found)
    → IsOperand rule.neg below tokens v x
    → IsFolded (behind rule.more_negs) 1 rule.more_negs operations grouped below v w
    (as_operand x) (as_operand y)
    → IsOperand rule.prod below tokens w y
unfolding behind keyword_of is_intro is_called
prod_read below tokens v w x y p f =
    group_read rule.prod rule.neg rule.more_negs rule.negs p f (omega arith) refl refl refl refl
    (λ span links e h. ap (λ (z : Operand). operand z) (sym e))

pub prod_first_missed : (below : ℕ) (tokens : List Token) (fault : Fault)
    → IsFault (behind rule.neg) rule.neg below tokens fault
    → IsFault (behind rule.prod) rule.prod below tokens fault
unfolding behind keyword_of is_intro is_called
prod_first_missed below tokens fault o =
    is_fault (enter language (behind rule.prod) _ _) o refl refl (omega arith)

pub prod_more_missed : (below : ℕ) (tokens v : List Token) (x : Found) (fault : Fault)
    → IsOperand rule.neg below tokens v x
    → IsFault (behind rule.more_negs) rule.more_negs below v fault
    → IsFault (behind rule.prod) rule.prod below tokens fault
unfolding behind keyword_of is_intro is_called
prod_more_missed below tokens v x fault p o =
    is_fault (read_rule language sound (enter language (behind rule.prod) _ _) p.done refl refl
    (omega arith)) o refl refl (omega arith)

-- Summands

-- Links of summands are read.
abbrev pub IsAdding : ℕ → List Token → List Token → Operand → Operand → Type 0
IsAdding below tokens rest first now =
    IsFolding (behind rule.more_prods) 1 rule.more_prods operations grouped below tokens rest first
    now

plus_here : (below : ℕ) (tokens : List Token) (s : Span) (v w : List Token)
    (first now next : Operand) (x : Found)
    → IsAdding below tokens (record { span = s; kind = lexeme.Sym Plus } ∷ v) first now
    → IsOperand rule.prod below v w x
    → next ≡ whole (from_to now.extent x.extent) (Arith Add now.expr x.expr)
    → IsAdding below tokens w first next
unfolding behind keyword_of is_intro is_called
plus_here below tokens s v w first now next x p o h =
    folds_link (link_of Add x) p
    (read_rule language sound (take_token language sound
    (choose language sound (sees_next language sound _)) refl) o.done refl refl (omega arith))
    (λ later others. refl) (λ os e. grouped_next first now next Add x os h e)
    (grouped_stands now next Add x (record { span = s; kind = lexeme.Sym Plus }) h o
    (read_takes o refl)) (omega arith)

less_here : (below : ℕ) (tokens : List Token) (s : Span) (v w : List Token)
    (first now next : Operand) (x : Found)
    → IsAdding below tokens (record { span = s; kind = lexeme.Sym Minus } ∷ v) first now
    → IsOperand rule.prod below v w x
    → next ≡ whole (from_to now.extent x.extent) (Arith Sub now.expr x.expr)
    → IsAdding below tokens w first next
unfolding behind keyword_of is_intro is_called
less_here below tokens s v w first now next x p o h =
    folds_link (link_of Sub x) p
    (read_rule language sound (take_token language sound
    (choose language sound (sees_next language sound _)) refl) o.done refl refl (omega arith))
    (λ later others. refl) (λ os e. grouped_next first now next Sub x os h e)
    (grouped_stands now next Sub x (record { span = s; kind = lexeme.Sym Minus }) h o
    (read_takes o refl)) (omega arith)

pub summand_read : (below : ℕ) (tokens rest v w : List Token) (first now next : Operand)
    (op : ArithOp) (x : Found) → IsAdding below tokens rest first now
    → IsSummandSign op rest v → IsOperand rule.prod below v w x
    → next ≡ whole (from_to now.extent x.extent) (Arith op now.expr x.expr)
    → IsAdding below tokens w first next
summand_read below tokens rest v w first now next op x p (inl n) o h =
    plus_here below tokens n.0.span v w first now next x
    (subst (λ (z : List Token). IsAdding below tokens z first now) n.0.same p) o
    (h ∙ ap (λ (z : ArithOp). whole (from_to now.extent x.extent) (Arith z now.expr x.expr)) n.1)
summand_read below tokens rest v w first now next op x p (inr n) o h =
    less_here below tokens n.0.span v w first now next x
    (subst (λ (z : List Token). IsAdding below tokens z first now) n.0.same p) o
    (h ∙ ap (λ (z : ArithOp). whole (from_to now.extent x.extent) (Arith z now.expr x.expr)) n.1)

pub summands_read : (below : ℕ) (tokens rest : List Token) (first now : Operand)
    → IsAdding below tokens rest first now → IsTrue (are_missing summand_signs rest)
    → IsFolded (behind rule.more_prods) 1 rule.more_prods operations grouped below tokens rest first
    now
unfolding behind keyword_of is_intro is_called
summands_read below tokens rest first now p h =
    folds_all p (choose language sound (sees_missing summand_signs rest h)) refl (omega arith)

plus_missed : (below : ℕ) (s : Span) (v : List Token) (fault : Fault)
    → IsFault (behind rule.prod) rule.prod below v fault
    → IsFault (behind rule.more_prods) rule.more_prods below
    (record { span = s; kind = lexeme.Sym Plus } ∷ v) fault
unfolding behind keyword_of is_intro is_called
plus_missed below s v fault o =
    is_fault (take_token language sound (choose language sound (sees_next language sound _)) refl)
    o refl refl (omega arith)

less_missed : (below : ℕ) (s : Span) (v : List Token) (fault : Fault)
    → IsFault (behind rule.prod) rule.prod below v fault
    → IsFault (behind rule.more_prods) rule.more_prods below
    (record { span = s; kind = lexeme.Sym Minus } ∷ v) fault
unfolding behind keyword_of is_intro is_called
less_missed below s v fault o =
    is_fault (take_token language sound (choose language sound (sees_next language sound _)) refl)
    o refl refl (omega arith)

pub summand_missed : (below : ℕ) (tokens rest v : List Token) (first now : Operand) (op : ArithOp)
    (fault : Fault) → IsAdding below tokens rest first now → IsSummandSign op rest v
    → IsFault (behind rule.prod) rule.prod below v fault
    → IsFault (behind rule.more_prods) rule.more_prods below tokens fault
summand_missed below tokens rest v first now op fault p sign o =
    is_link_fault p.chain (by_sign sign) (omega arith)
  where
    by_sign : IsSummandSign op rest v
        → IsFault (behind rule.more_prods) rule.more_prods below rest fault
    by_sign (inl n) = subst (λ (x : List Token). IsFault (behind rule.more_prods) rule.more_prods
        below x fault) (sym n.0.same) (plus_missed below n.0.span v fault o)
    by_sign (inr n) = subst (λ (x : List Token). IsFault (behind rule.more_prods) rule.more_prods
        below x fault) (sym n.0.same) (less_missed below n.0.span v fault o)

pub summand_shorter : (op : ArithOp) {tokens v w : List Token} {below : ℕ} {x : Found}
    → IsSummandSign op tokens v → IsOperand rule.prod below v w x → length w < length tokens
summand_shorter op (inl n) o = link_shorter n.0 o
summand_shorter op (inr n) o = link_shorter n.0 o

pub sum_read : (below : ℕ) (tokens v w : List Token) (x y : Found)
    → IsOperand rule.prod below tokens v x
    → IsFolded (behind rule.more_prods) 1 rule.more_prods operations grouped below v w
    (as_operand x) (as_operand y)
    → IsOperand rule.sum below tokens w y
unfolding behind keyword_of is_intro is_called
sum_read below tokens v w x y p f =
    group_read rule.sum rule.prod rule.more_prods rule.prods p f (omega arith) refl refl refl refl
    (λ span links e h. ap (λ (z : Operand). operand z) (sym e))

pub sum_first_missed : (below : ℕ) (tokens : List Token) (fault : Fault)
    → IsFault (behind rule.prod) rule.prod below tokens fault
    → IsFault (behind rule.sum) rule.sum below tokens fault
unfolding behind keyword_of is_intro is_called
sum_first_missed below tokens fault o =
    is_fault (enter language (behind rule.sum) _ _) o refl refl (omega arith)

pub sum_more_missed : (below : ℕ) (tokens v : List Token) (x : Found) (fault : Fault)
    → IsOperand rule.prod below tokens v x
    → IsFault (behind rule.more_prods) rule.more_prods below v fault
    → IsFault (behind rule.sum) rule.sum below tokens fault
unfolding behind keyword_of is_intro is_called
sum_more_missed below tokens v x fault p o =
    is_fault (read_rule language sound (enter language (behind rule.sum) _ _) p.done refl refl
    (omega arith)) o refl refl (omega arith)
