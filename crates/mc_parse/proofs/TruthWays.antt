-- The ways through the functions that read operators on truth.
use Rattle.std.proofs.Common.{◌≡◌, refl, sym, ap, ◌∙◌, subst, ℕ, zero, suc, ◌+◌, ◌<◌, ◌≤◌, Bool}
use Rattle.std.proofs.Common.{true, false, not, ◌&&◌, List, [], ◌∷◌, ◌++◌, IsTrue, length, arith}
use Rattle.std.proofs.Common.{codes}
use Rattle.mc_base.specs.declared.span.Span.{Span}
use Rattle.mc_token.specs.declared.lexeme.Lexeme.TheVariants as lexeme
use Rattle.mc_token.specs.declared.lexeme.Token.{Token}
use Rattle.mc_token.specs.Keywords.{keyword_of}
use Rattle.mc_grammar.proofs.Seeing.{sees_next}
use Rattle.mc_grammar.proofs.Inside.{enter}
use Rattle.mc_grammar.proofs.Ways.{choose, take_token, read_rule, widen}
use Rattle.mc_grammar.specs.Chains.{Chain}
use Rattle.mc_sql.specs.Classes.{word, is_intro, is_called, is_lexeme_of}
use Rattle.mc_sql.specs.Rules as rule
use Rattle.mc_ast.specs.declared.expr.Expr.{Expr}
use Rattle.mc_ast.specs.declared.expr.Form.TheVariants.{Or, And, Xor, Not}
use Rattle.mc_ast.specs.Grouping.{whole, grouped_xor}
use Rattle.mc_ast.specs.Meaning.{meaning}
use Rattle.mc_ast.specs.Spans.{from_to, span_from, span_of}
use Rattle.mc_ast.specs.Values.{Operand, exprs, operand, operands}
use Rattle.mc_parse.specs.declared.fault.Fault.{Fault}
use Rattle.mc_parse.specs.declared.fault.Fault.TheVariants.{TooDeep}
use Rattle.mc_parse.specs.declared.operand.Operand.{Operand as Found}
use Rattle.mc_parse.specs.Language.{language, at, behind_at, look_at}
use Rattle.mc_parse.specs.Lists.{joined, IsListed}
use Rattle.mc_parse.specs.Place.{is_missing, span_at, IsNext}
use Rattle.mc_parse.specs.Read.{IsRead, IsFault, as_operand, IsOperandAt, IsFolded}
use Rattle.mc_parse.proofs.Spans.{span_from-one, span_of-one}
use Rattle.mc_parse.proofs.Ways.{sound, both_missing, sees_missing, is_read, is_fault}
use Rattle.mc_parse.proofs.Ways.{is_barred_here, is_link_fault, read_takes, link_shorter}
use Rattle.mc_parse.proofs.Folds.{IsFolding, folds_none, folds_link, folds_all, grouped_xor-last}
use Rattle.mc_parse.proofs.Listing.{IsListing, lists_none, lists_link, lists_all}
use Rattle.mc_parse.proofs.Groups.{group_read}

-- Where an alias may follow or not

pub look_least : (alias : Bool) (tokens : List Token) → 1 ≤ look_at alias tokens
look_least true [] = omega arith
look_least true (t ∷ ts) = by_test (is_lexeme_of (word (codes "escape")) t.kind)
  where
    by_test : (b : Bool) → 1 ≤ elim b [ true ↦ 2 | false ↦ 1 ]
    by_test true = omega arith
    by_test false = omega arith
look_least false ts = omega arith

look_most : (alias : Bool) (tokens : List Token) → look_at alias tokens ≤ 2
look_most true [] = omega arith
look_most true (t ∷ ts) = by_test (is_lexeme_of (word (codes "escape")) t.kind)
  where
    by_test : (b : Bool) → elim b [ true ↦ 2 | false ↦ 1 ] ≤ 2
    by_test true = omega arith
    by_test false = omega arith
look_most false ts = omega arith

-- Behind tokens that are known one looks no less far.
pub look_far : (alias : Bool) (tokens front rest : List Token) → tokens ≡ front ++ rest
    → look_at alias tokens ≤ length front + look_at alias rest
look_far alias tokens [] rest e =
    let h : look_at alias tokens ≡ look_at alias rest = ap (λ x. look_at alias x) e in
    omega (arith, h)
look_far alias tokens (t ∷ front) rest e =
    let h : look_at alias tokens ≤ 2 = look_most alias tokens in
    let k : 1 ≤ look_at alias rest = look_least alias rest in omega (arith, h, k)

-- Behind a keyword of the operators one looks at one token.
pub look_word : (alias : Bool) (s : Span) (text : List ℕ) (v : List Token)
    → IsTrue (not (is_lexeme_of (word (codes "escape")) (lexeme.Word text)))
    → look_at alias (record { span = s; kind = lexeme.Word text } ∷ v) ≤ 1
look_word false s text v h = omega arith
look_word true s text v h = by_test (is_lexeme_of (word (codes "escape")) (lexeme.Word text)) h
  where
    by_test : (b : Bool) → IsTrue (not b) → elim b [ true ↦ 2 | false ↦ 1 ] ≤ 1
    by_test true g = cc
    by_test false g = omega arith

-- OR

or_means : (x y : Operand) (s : Span) (links : List Operand)
    → y ≡ joined (λ all. Or all) y.extent x links → y.extent ≡ s
    → meaning rule.xors s (operand x ∷ operands links ∷ []) ≡ operand y
or_means x y s [] e h = ap (λ (z : Operand). operand z) (sym e)
or_means x y s (z ∷ zs) e h =
    ap (λ (t : Span). operand (whole t (Or (exprs (x ∷ z ∷ zs))))) (sym h)
    ∙ ap (λ (o : Operand). operand o) (sym e)

pub or_read : (alias : Bool) (below : ℕ) (tokens v w : List Token) (x y : Found)
    → IsOperandAt alias rule.xor below tokens v x
    → IsFolded (behind_at alias rule.more_xors) (look_at alias w) rule.more_xors (λ xs. operands xs)
    (joined (λ all. Or all) y.extent) below v w (as_operand x) (as_operand y)
    → IsOperandAt alias rule.or below tokens w y
unfolding behind_at keyword_of is_intro is_called
or_read true below tokens v w x y p f =
    group_read rule.or rule.xor rule.more_xors rule.xors p f
    (look_far true v f.done.front w f.done.split) refl refl refl refl
    (λ s links e h. or_means (as_operand x) (as_operand y) s links e h)
or_read false below tokens v w x y p f =
    group_read rule.or rule.xor rule.more_xors rule.xors p f
    (look_far false v f.done.front w f.done.split) refl refl refl refl
    (λ s links e h. or_means (as_operand x) (as_operand y) s links e h)

pub or_none : (alias : Bool) (below : ℕ) (v : List Token) (x : Found)
    → IsTrue (is_missing (word (codes "or")) v)
    → IsFolded (behind_at alias rule.more_xors) (look_at alias v) rule.more_xors (λ xs. operands xs)
    (joined (λ all. Or all) x.extent) below v v (as_operand x) (as_operand x)
unfolding behind_at keyword_of is_intro is_called
or_none true below v x h =
    folds_all {n = 0} (folds_none refl) (widen language sound (choose language sound
    (sees_missing (word (codes "or") ∷ []) v (both_missing _ _ h refl))) (look_least true v))
    refl (omega arith)
or_none false below v x h =
    folds_all {n = 0} (folds_none refl) (widen language sound (choose language sound
    (sees_missing (word (codes "or") ∷ []) v (both_missing _ _ h refl))) (look_least false v))
    refl (omega arith)

pub or_first_missed : (alias : Bool) (below : ℕ) (tokens : List Token) (fault : Fault)
    → IsFault (behind_at alias rule.xor) rule.xor below tokens fault
    → IsFault (behind_at alias rule.or) rule.or below tokens fault
unfolding behind_at keyword_of is_intro is_called
or_first_missed true below tokens fault o =
    is_fault (enter language _ _ _) o refl refl (omega arith)
or_first_missed false below tokens fault o =
    is_fault (enter language _ _ _) o refl refl (omega arith)

or_more_missed_here : (alias : Bool) (below : ℕ) (tokens : List Token) (s : Span)
    (u : List Token) (x : Found) (fault : Fault)
    → IsOperandAt alias rule.xor below tokens
    (record { span = s; kind = lexeme.Word (codes "or") } ∷ u) x
    → IsFault (behind_at alias rule.more_xors) rule.more_xors below
    (record { span = s; kind = lexeme.Word (codes "or") } ∷ u) fault
    → IsFault (behind_at alias rule.or) rule.or below tokens fault
unfolding behind_at keyword_of is_intro is_called
or_more_missed_here true below tokens s u x fault p o =
    is_fault (read_rule language sound (enter language _ _ _) p.done refl refl (omega arith)) o
    refl refl (omega arith)
or_more_missed_here false below tokens s u x fault p o =
    is_fault (read_rule language sound (enter language _ _ _) p.done refl refl (omega arith)) o
    refl refl (omega arith)

pub or_more_missed : (alias : Bool) (below : ℕ) (tokens v u : List Token) (x : Found)
    (fault : Fault) → IsOperandAt alias rule.xor below tokens v x
    → IsNext (lexeme.Word (codes "or")) v u
    → IsFault (behind_at alias rule.more_xors) rule.more_xors below v fault
    → IsFault (behind_at alias rule.or) rule.or below tokens fault
or_more_missed alias below tokens v u x fault p n o =
    or_more_missed_here alias below tokens n.span u x fault
    (subst (λ (z : List Token). IsOperandAt alias rule.xor below tokens z x) n.same p)
    (subst (λ (z : List Token). IsFault (behind_at alias rule.more_xors) rule.more_xors below
    z fault)
    n.same o)

-- Links of OR are read.
abbrev pub IsOring : Bool → ℕ → List Token → List Token → List Expr → List Expr → Span → Span
    → Type 0
IsOring alias below tokens rest old now first last =
    IsListing (behind_at alias rule.more_xors) (look_at alias rest) rule.more_xors below tokens rest
    old now
    first last

or_link_here : (alias : Bool) (below : ℕ) (tokens : List Token) (s : Span) (v w : List Token)
    (old now next : List Expr) (first last later : Span) (x : Found)
    → IsOring alias below tokens (record { span = s; kind = lexeme.Word (codes "or") } ∷ v)
    old now first last
    → IsOperandAt alias rule.xor below v w x → next ≡ now ++ (x.expr ∷ [])
    → later ≡ from_to last x.extent → IsOring alias below tokens w old next first later
unfolding behind_at keyword_of is_intro is_called
or_link_here true below tokens s v w old now next first last later x p o h e =
    lists_link (as_operand x) p
    (read_rule language sound (take_token language sound
    (choose language sound (sees_next language sound _)) refl) o.done refl refl (omega arith))
    (λ later others. refl) h
    (e ∙ ap (λ (t : Span). from_to last t) o.whole
    ∙ span_from-one last (record { span = s; kind = lexeme.Word (codes "or") }) o.done.front
    (read_takes o refl)) (omega arith)
or_link_here false below tokens s v w old now next first last later x p o h e =
    lists_link (as_operand x) p
    (read_rule language sound (take_token language sound
    (choose language sound (sees_next language sound _)) refl) o.done refl refl (omega arith))
    (λ later others. refl) h
    (e ∙ ap (λ (t : Span). from_to last t) o.whole
    ∙ span_from-one last (record { span = s; kind = lexeme.Word (codes "or") }) o.done.front
    (read_takes o refl)) (omega arith)

pub or_link : (alias : Bool) (below : ℕ) (tokens rest v w : List Token) (old now next : List Expr)
    (first last later : Span) (x : Found) → IsOring alias below tokens rest old now first last
    → IsNext (lexeme.Word (codes "or")) rest v → IsOperandAt alias rule.xor below v w x
    → next ≡ now ++ (x.expr ∷ []) → later ≡ from_to last x.extent
    → IsOring alias below tokens w old next first later
or_link alias below tokens rest v w old now next first last later x p n o h e =
    or_link_here alias below tokens n.span v w old now next first last later x
    (subst (λ (z : List Token). IsOring alias below tokens z old now first last) n.same p) o h e

pub or_listed : (alias : Bool) (below : ℕ) (tokens rest : List Token) (old new : List Expr)
    (first last : Span) → IsOring alias below tokens rest old new first last
    → IsTrue (is_missing (word (codes "or")) rest)
    → IsListed (behind_at alias rule.more_xors) (look_at alias rest) rule.more_xors below tokens
    rest old new
    first last
unfolding behind_at keyword_of is_intro is_called
or_listed true below tokens rest old new first last p h =
    lists_all p (widen language sound (choose language sound
    (sees_missing (word (codes "or") ∷ []) rest (both_missing _ _ h refl)))
    (look_least true rest)) refl (omega arith)
or_listed false below tokens rest old new first last p h =
    lists_all p (widen language sound (choose language sound
    (sees_missing (word (codes "or") ∷ []) rest (both_missing _ _ h refl)))
    (look_least false rest)) refl (omega arith)

or_link_missed_here : (alias : Bool) (below : ℕ) (s : Span) (v : List Token) (fault : Fault)
    → IsFault (behind_at alias rule.xor) rule.xor below v fault
    → IsFault (behind_at alias rule.more_xors) rule.more_xors below
    (record { span = s; kind = lexeme.Word (codes "or") } ∷ v) fault
unfolding behind_at keyword_of is_intro is_called
or_link_missed_here true below s v fault o =
    is_fault (take_token language sound (choose language sound (sees_next language sound _)) refl)
    o refl refl (omega arith)
or_link_missed_here false below s v fault o =
    is_fault (take_token language sound (choose language sound (sees_next language sound _)) refl)
    o refl refl (omega arith)

pub or_link_missed : (alias : Bool) (below : ℕ) (tokens rest v : List Token)
    (old now : List Expr) (first last : Span) (fault : Fault)
    → IsOring alias below tokens rest old now first last
    → IsNext (lexeme.Word (codes "or")) rest v
    → IsFault (behind_at alias rule.xor) rule.xor below v fault
    → IsFault (behind_at alias rule.more_xors) rule.more_xors below tokens fault
or_link_missed alias below tokens rest v old now first last fault p n o =
    is_link_fault
    (subst (λ (z : List Token). Chain language (behind_at alias rule.more_xors) (look_at alias z)
    (at below rule.more_xors) (λ xs. operands xs) p.links tokens p.front z) n.same p.chain)
    (or_link_missed_here alias below n.span v fault o)
    (look_word alias n.span (codes "or") v refl)

-- AND

and_means : (x y : Operand) (s : Span) (links : List Operand)
    → y ≡ joined (λ all. And all) y.extent x links → y.extent ≡ s
    → meaning rule.nots s (operand x ∷ operands links ∷ []) ≡ operand y
and_means x y s [] e h = ap (λ (z : Operand). operand z) (sym e)
and_means x y s (z ∷ zs) e h =
    ap (λ (t : Span). operand (whole t (And (exprs (x ∷ z ∷ zs))))) (sym h)
    ∙ ap (λ (o : Operand). operand o) (sym e)

pub and_read : (alias : Bool) (below : ℕ) (tokens v w : List Token) (x y : Found)
    → IsOperandAt alias rule.not below tokens v x
    → IsFolded (behind_at alias rule.more_nots) (look_at alias w) rule.more_nots (λ xs. operands xs)
    (joined (λ all. And all) y.extent) below v w (as_operand x) (as_operand y)
    → IsOperandAt alias rule.and below tokens w y
unfolding behind_at keyword_of is_intro is_called
and_read true below tokens v w x y p f =
    group_read rule.and rule.not rule.more_nots rule.nots p f
    (look_far true v f.done.front w f.done.split) refl refl refl refl
    (λ s links e h. and_means (as_operand x) (as_operand y) s links e h)
and_read false below tokens v w x y p f =
    group_read rule.and rule.not rule.more_nots rule.nots p f
    (look_far false v f.done.front w f.done.split) refl refl refl refl
    (λ s links e h. and_means (as_operand x) (as_operand y) s links e h)

pub and_none : (alias : Bool) (below : ℕ) (v : List Token) (x : Found)
    → IsTrue (is_missing (word (codes "and")) v)
    → IsFolded (behind_at alias rule.more_nots) (look_at alias v) rule.more_nots (λ xs. operands xs)
    (joined (λ all. And all) x.extent) below v v (as_operand x) (as_operand x)
unfolding behind_at keyword_of is_intro is_called
and_none true below v x h =
    folds_all {n = 0} (folds_none refl) (widen language sound (choose language sound
    (sees_missing (word (codes "and") ∷ []) v (both_missing _ _ h refl))) (look_least true v))
    refl (omega arith)
and_none false below v x h =
    folds_all {n = 0} (folds_none refl) (widen language sound (choose language sound
    (sees_missing (word (codes "and") ∷ []) v (both_missing _ _ h refl))) (look_least false v))
    refl (omega arith)

pub and_first_missed : (alias : Bool) (below : ℕ) (tokens : List Token) (fault : Fault)
    → IsFault (behind_at alias rule.not) rule.not below tokens fault
    → IsFault (behind_at alias rule.and) rule.and below tokens fault
unfolding behind_at keyword_of is_intro is_called
and_first_missed true below tokens fault o =
    is_fault (enter language _ _ _) o refl refl (omega arith)
and_first_missed false below tokens fault o =
    is_fault (enter language _ _ _) o refl refl (omega arith)

and_more_missed_here : (alias : Bool) (below : ℕ) (tokens : List Token) (s : Span)
    (u : List Token) (x : Found) (fault : Fault)
    → IsOperandAt alias rule.not below tokens
    (record { span = s; kind = lexeme.Word (codes "and") } ∷ u) x
    → IsFault (behind_at alias rule.more_nots) rule.more_nots below
    (record { span = s; kind = lexeme.Word (codes "and") } ∷ u) fault
    → IsFault (behind_at alias rule.and) rule.and below tokens fault
unfolding behind_at keyword_of is_intro is_called
and_more_missed_here true below tokens s u x fault p o =
    is_fault (read_rule language sound (enter language _ _ _) p.done refl refl (omega arith)) o
    refl refl (omega arith)
and_more_missed_here false below tokens s u x fault p o =
    is_fault (read_rule language sound (enter language _ _ _) p.done refl refl (omega arith)) o
    refl refl (omega arith)

pub and_more_missed : (alias : Bool) (below : ℕ) (tokens v u : List Token) (x : Found)
    (fault : Fault) → IsOperandAt alias rule.not below tokens v x
    → IsNext (lexeme.Word (codes "and")) v u
    → IsFault (behind_at alias rule.more_nots) rule.more_nots below v fault
    → IsFault (behind_at alias rule.and) rule.and below tokens fault
and_more_missed alias below tokens v u x fault p n o =
    and_more_missed_here alias below tokens n.span u x fault
    (subst (λ (z : List Token). IsOperandAt alias rule.not below tokens z x) n.same p)
    (subst (λ (z : List Token). IsFault (behind_at alias rule.more_nots) rule.more_nots below
    z fault)
    n.same o)

-- Links of AND are read.
abbrev pub IsAnding : Bool → ℕ → List Token → List Token → List Expr → List Expr → Span → Span
    → Type 0
IsAnding alias below tokens rest old now first last =
    IsListing (behind_at alias rule.more_nots) (look_at alias rest) rule.more_nots below tokens rest
    old now
    first last

and_link_here : (alias : Bool) (below : ℕ) (tokens : List Token) (s : Span) (v w : List Token)
    (old now next : List Expr) (first last later : Span) (x : Found)
    → IsAnding alias below tokens (record { span = s; kind = lexeme.Word (codes "and") } ∷ v)
    old now first last
    → IsOperandAt alias rule.not below v w x → next ≡ now ++ (x.expr ∷ [])
    → later ≡ from_to last x.extent → IsAnding alias below tokens w old next first later
unfolding behind_at keyword_of is_intro is_called
and_link_here true below tokens s v w old now next first last later x p o h e =
    lists_link (as_operand x) p
    (read_rule language sound (take_token language sound
    (choose language sound (sees_next language sound _)) refl) o.done refl refl (omega arith))
    (λ later others. refl) h
    (e ∙ ap (λ (t : Span). from_to last t) o.whole
    ∙ span_from-one last (record { span = s; kind = lexeme.Word (codes "and") }) o.done.front
    (read_takes o refl)) (omega arith)
and_link_here false below tokens s v w old now next first last later x p o h e =
    lists_link (as_operand x) p
    (read_rule language sound (take_token language sound
    (choose language sound (sees_next language sound _)) refl) o.done refl refl (omega arith))
    (λ later others. refl) h
    (e ∙ ap (λ (t : Span). from_to last t) o.whole
    ∙ span_from-one last (record { span = s; kind = lexeme.Word (codes "and") }) o.done.front
    (read_takes o refl)) (omega arith)

pub and_link : (alias : Bool) (below : ℕ) (tokens rest v w : List Token) (old now next : List Expr)
    (first last later : Span) (x : Found) → IsAnding alias below tokens rest old now first last
    → IsNext (lexeme.Word (codes "and")) rest v → IsOperandAt alias rule.not below v w x
    → next ≡ now ++ (x.expr ∷ []) → later ≡ from_to last x.extent
    → IsAnding alias below tokens w old next first later
and_link alias below tokens rest v w old now next first last later x p n o h e =
    and_link_here alias below tokens n.span v w old now next first last later x
    (subst (λ (z : List Token). IsAnding alias below tokens z old now first last) n.same p) o h e

pub and_listed : (alias : Bool) (below : ℕ) (tokens rest : List Token) (old new : List Expr)
    (first last : Span) → IsAnding alias below tokens rest old new first last
    → IsTrue (is_missing (word (codes "and")) rest)
    → IsListed (behind_at alias rule.more_nots) (look_at alias rest) rule.more_nots below tokens
    rest old new
    first last
unfolding behind_at keyword_of is_intro is_called
and_listed true below tokens rest old new first last p h =
    lists_all p (widen language sound (choose language sound
    (sees_missing (word (codes "and") ∷ []) rest (both_missing _ _ h refl)))
    (look_least true rest)) refl (omega arith)
and_listed false below tokens rest old new first last p h =
    lists_all p (widen language sound (choose language sound
    (sees_missing (word (codes "and") ∷ []) rest (both_missing _ _ h refl)))
    (look_least false rest)) refl (omega arith)

and_link_missed_here : (alias : Bool) (below : ℕ) (s : Span) (v : List Token) (fault : Fault)
    → IsFault (behind_at alias rule.not) rule.not below v fault
    → IsFault (behind_at alias rule.more_nots) rule.more_nots below
    (record { span = s; kind = lexeme.Word (codes "and") } ∷ v) fault
unfolding behind_at keyword_of is_intro is_called
and_link_missed_here true below s v fault o =
    is_fault (take_token language sound (choose language sound (sees_next language sound _)) refl)
    o refl refl (omega arith)
and_link_missed_here false below s v fault o =
    is_fault (take_token language sound (choose language sound (sees_next language sound _)) refl)
    o refl refl (omega arith)

pub and_link_missed : (alias : Bool) (below : ℕ) (tokens rest v : List Token)
    (old now : List Expr) (first last : Span) (fault : Fault)
    → IsAnding alias below tokens rest old now first last
    → IsNext (lexeme.Word (codes "and")) rest v
    → IsFault (behind_at alias rule.not) rule.not below v fault
    → IsFault (behind_at alias rule.more_nots) rule.more_nots below tokens fault
and_link_missed alias below tokens rest v old now first last fault p n o =
    is_link_fault
    (subst (λ (z : List Token). Chain language (behind_at alias rule.more_nots) (look_at alias z)
    (at below rule.more_nots) (λ xs. operands xs) p.links tokens p.front z) n.same p.chain)
    (and_link_missed_here alias below n.span v fault o)
    (look_word alias n.span (codes "and") v refl)

-- XOR

pub xor_read : (alias : Bool) (below : ℕ) (tokens v w : List Token) (x y : Found)
    → IsOperandAt alias rule.and below tokens v x
    → IsFolded (behind_at alias rule.more_ands) (look_at alias w) rule.more_ands (λ xs. operands xs)
    grouped_xor below v w (as_operand x) (as_operand y)
    → IsOperandAt alias rule.xor below tokens w y
unfolding behind_at keyword_of is_intro is_called
xor_read true below tokens v w x y p f =
    group_read rule.xor rule.and rule.more_ands rule.ands p f
    (look_far true v f.done.front w f.done.split) refl refl refl refl
    (λ s links e h. ap (λ (z : Operand). operand z) (sym e))
xor_read false below tokens v w x y p f =
    group_read rule.xor rule.and rule.more_ands rule.ands p f
    (look_far false v f.done.front w f.done.split) refl refl refl refl
    (λ s links e h. ap (λ (z : Operand). operand z) (sym e))

pub xor_none : (alias : Bool) (below : ℕ) (v : List Token) (x : Found)
    → IsTrue (is_missing (word (codes "xor")) v)
    → IsFolded (behind_at alias rule.more_ands) (look_at alias v) rule.more_ands (λ xs. operands xs)
    grouped_xor below v v (as_operand x) (as_operand x)
unfolding behind_at keyword_of is_intro is_called
xor_none true below v x h =
    folds_all {n = 0} (folds_none refl) (widen language sound (choose language sound
    (sees_missing (word (codes "xor") ∷ []) v (both_missing _ _ h refl))) (look_least true v))
    refl (omega arith)
xor_none false below v x h =
    folds_all {n = 0} (folds_none refl) (widen language sound (choose language sound
    (sees_missing (word (codes "xor") ∷ []) v (both_missing _ _ h refl))) (look_least false v))
    refl (omega arith)

pub xor_first_missed : (alias : Bool) (below : ℕ) (tokens : List Token) (fault : Fault)
    → IsFault (behind_at alias rule.and) rule.and below tokens fault
    → IsFault (behind_at alias rule.xor) rule.xor below tokens fault
unfolding behind_at keyword_of is_intro is_called
xor_first_missed true below tokens fault o =
    is_fault (enter language _ _ _) o refl refl (omega arith)
xor_first_missed false below tokens fault o =
    is_fault (enter language _ _ _) o refl refl (omega arith)

xor_more_missed_here : (alias : Bool) (below : ℕ) (tokens : List Token) (s : Span)
    (u : List Token) (x : Found) (fault : Fault)
    → IsOperandAt alias rule.and below tokens
    (record { span = s; kind = lexeme.Word (codes "xor") } ∷ u) x
    → IsFault (behind_at alias rule.more_ands) rule.more_ands below
    (record { span = s; kind = lexeme.Word (codes "xor") } ∷ u) fault
    → IsFault (behind_at alias rule.xor) rule.xor below tokens fault
unfolding behind_at keyword_of is_intro is_called
xor_more_missed_here true below tokens s u x fault p o =
    is_fault (read_rule language sound (enter language _ _ _) p.done refl refl (omega arith)) o
    refl refl (omega arith)
xor_more_missed_here false below tokens s u x fault p o =
    is_fault (read_rule language sound (enter language _ _ _) p.done refl refl (omega arith)) o
    refl refl (omega arith)

pub xor_more_missed : (alias : Bool) (below : ℕ) (tokens v u : List Token) (x : Found)
    (fault : Fault) → IsOperandAt alias rule.and below tokens v x
    → IsNext (lexeme.Word (codes "xor")) v u
    → IsFault (behind_at alias rule.more_ands) rule.more_ands below v fault
    → IsFault (behind_at alias rule.xor) rule.xor below tokens fault
xor_more_missed alias below tokens v u x fault p n o =
    xor_more_missed_here alias below tokens n.span u x fault
    (subst (λ (z : List Token). IsOperandAt alias rule.and below tokens z x) n.same p)
    (subst (λ (z : List Token). IsFault (behind_at alias rule.more_ands) rule.more_ands below
    z fault)
    n.same o)

-- Links of XOR are read.
abbrev pub IsXoring : Bool → ℕ → List Token → List Token → Operand → Operand → Type 0
IsXoring alias below tokens rest first now =
    IsFolding (behind_at alias rule.more_ands) (look_at alias rest) rule.more_ands
    (λ xs. operands xs) grouped_xor below tokens rest first now

xor_link_here : (alias : Bool) (below : ℕ) (tokens : List Token) (s : Span) (v w : List Token)
    (first now next : Operand) (x : Found)
    → IsXoring alias below tokens (record { span = s; kind = lexeme.Word (codes "xor") } ∷ v) first
    now
    → IsOperandAt alias rule.and below v w x
    → next ≡ whole (from_to now.extent x.extent) (Xor now.expr x.expr)
    → IsXoring alias below tokens w first next
unfolding behind_at keyword_of is_intro is_called
xor_link_here true below tokens s v w first now next x p o h =
    folds_link (as_operand x) p
    (read_rule language sound (take_token language sound
    (choose language sound (sees_next language sound _)) refl) o.done refl refl (omega arith))
    (λ later others. refl)
    (λ ys e. h ∙ ap (λ (y : Operand). whole (from_to y.extent x.extent) (Xor y.expr x.expr)) e
    ∙ sym (grouped_xor-last first ys (as_operand x)))
    (ap (λ (y : Operand). y.extent) h ∙ ap (λ (t : Span). from_to now.extent t) o.whole
    ∙ span_from-one now.extent (record { span = s; kind = lexeme.Word (codes "xor") }) o.done.front
    (read_takes o refl)) (omega arith)
xor_link_here false below tokens s v w first now next x p o h =
    folds_link (as_operand x) p
    (read_rule language sound (take_token language sound
    (choose language sound (sees_next language sound _)) refl) o.done refl refl (omega arith))
    (λ later others. refl)
    (λ ys e. h ∙ ap (λ (y : Operand). whole (from_to y.extent x.extent) (Xor y.expr x.expr)) e
    ∙ sym (grouped_xor-last first ys (as_operand x)))
    (ap (λ (y : Operand). y.extent) h ∙ ap (λ (t : Span). from_to now.extent t) o.whole
    ∙ span_from-one now.extent (record { span = s; kind = lexeme.Word (codes "xor") }) o.done.front
    (read_takes o refl)) (omega arith)

pub xor_link : (alias : Bool) (below : ℕ) (tokens rest v w : List Token)
    (first now next : Operand) (x : Found) → IsXoring alias below tokens rest first now
    → IsNext (lexeme.Word (codes "xor")) rest v → IsOperandAt alias rule.and below v w x
    → next ≡ whole (from_to now.extent x.extent) (Xor now.expr x.expr)
    → IsXoring alias below tokens w first next
xor_link alias below tokens rest v w first now next x p n o h =
    xor_link_here alias below tokens n.span v w first now next x
    (subst (λ (z : List Token). IsXoring alias below tokens z first now) n.same p) o h

pub xors_read : (alias : Bool) (below : ℕ) (tokens rest : List Token) (first now : Operand)
    → IsXoring alias below tokens rest first now → IsTrue (is_missing (word (codes "xor")) rest)
    → IsFolded (behind_at alias rule.more_ands) (look_at alias rest) rule.more_ands
    (λ xs. operands xs) grouped_xor below tokens rest first now
unfolding behind_at keyword_of is_intro is_called
xors_read true below tokens rest first now p h =
    folds_all p (widen language sound (choose language sound
    (sees_missing (word (codes "xor") ∷ []) rest (both_missing _ _ h refl)))
    (look_least true rest)) refl (omega arith)
xors_read false below tokens rest first now p h =
    folds_all p (widen language sound (choose language sound
    (sees_missing (word (codes "xor") ∷ []) rest (both_missing _ _ h refl)))
    (look_least false rest)) refl (omega arith)

xor_link_missed_here : (alias : Bool) (below : ℕ) (s : Span) (v : List Token) (fault : Fault)
    → IsFault (behind_at alias rule.and) rule.and below v fault
    → IsFault (behind_at alias rule.more_ands) rule.more_ands below
    (record { span = s; kind = lexeme.Word (codes "xor") } ∷ v) fault
unfolding behind_at keyword_of is_intro is_called
xor_link_missed_here true below s v fault o =
    is_fault (take_token language sound (choose language sound (sees_next language sound _)) refl)
    o refl refl (omega arith)
xor_link_missed_here false below s v fault o =
    is_fault (take_token language sound (choose language sound (sees_next language sound _)) refl)
    o refl refl (omega arith)

pub xor_link_missed : (alias : Bool) (below : ℕ) (tokens rest v : List Token) (first now : Operand)
    (fault : Fault) → IsXoring alias below tokens rest first now
    → IsNext (lexeme.Word (codes "xor")) rest v
    → IsFault (behind_at alias rule.and) rule.and below v fault
    → IsFault (behind_at alias rule.more_ands) rule.more_ands below tokens fault
xor_link_missed alias below tokens rest v first now fault p n o =
    is_link_fault
    (subst (λ (z : List Token). Chain language (behind_at alias rule.more_ands) (look_at alias z)
    (at below rule.more_ands) (λ xs. operands xs) p.links tokens p.front z) n.same p.chain)
    (xor_link_missed_here alias below n.span v fault o)
    (look_word alias n.span (codes "xor") v refl)

-- NOT

pub not_pred_read : (alias : Bool) (below : ℕ) (tokens w : List Token) (x : Found)
    → IsTrue (is_missing (word (codes "not")) tokens)
    → IsOperandAt alias rule.pred below tokens w x → IsOperandAt alias rule.not below tokens w x
unfolding behind_at keyword_of is_intro is_called
not_pred_read true below tokens w x h o =
    is_read (read_rule language sound (choose language sound
    (sees_missing (word (codes "not") ∷ []) tokens (both_missing _ _ h refl))) o.done refl refl
    (look_least true w)) o.whole
not_pred_read false below tokens w x h o =
    is_read (read_rule language sound (choose language sound
    (sees_missing (word (codes "not") ∷ []) tokens (both_missing _ _ h refl))) o.done refl refl
    (look_least false w)) o.whole

pub not_pred_missed : (alias : Bool) (below : ℕ) (tokens : List Token) (fault : Fault)
    → IsTrue (is_missing (word (codes "not")) tokens)
    → IsFault (behind_at alias rule.pred) rule.pred below tokens fault
    → IsFault (behind_at alias rule.not) rule.not below tokens fault
unfolding behind_at keyword_of is_intro is_called
not_pred_missed true below tokens fault h o =
    is_fault (choose language sound
    (sees_missing (word (codes "not") ∷ []) tokens (both_missing _ _ h refl))) o refl refl
    (omega arith)
not_pred_missed false below tokens fault h o =
    is_fault (choose language sound
    (sees_missing (word (codes "not") ∷ []) tokens (both_missing _ _ h refl))) o refl refl
    (omega arith)

not_here : (alias : Bool) (below : ℕ) (s : Span) (v w : List Token) (x : Found)
    → IsOperandAt alias rule.not below v w x
    → IsRead (behind_at alias rule.not) (look_at alias w) rule.not (suc below)
    (record { span = s; kind = lexeme.Word (codes "not") } ∷ v) w
    (operand (whole (from_to s x.extent) (Not x.expr))) (from_to s x.extent)
unfolding behind_at keyword_of is_intro is_called
not_here true below s v w x o =
    subst (λ (e : Span). IsRead (behind_at true rule.not) (look_at true w) rule.not (suc below)
    (record { span = s; kind = lexeme.Word (codes "not") } ∷ v) w
    (operand (whole e (Not x.expr))) e)
    (sym (ap (λ (e : Span). from_to s e) o.whole ∙ span_of-one
    (record { span = s; kind = lexeme.Word (codes "not") })
    o.done.front (read_takes o refl)))
    (is_read (read_rule language sound (take_token language sound
    (choose language sound (sees_next language sound _)) refl) o.done refl refl (omega arith)) refl)
not_here false below s v w x o =
    subst (λ (e : Span). IsRead (behind_at false rule.not) (look_at false w) rule.not (suc below)
    (record { span = s; kind = lexeme.Word (codes "not") } ∷ v) w
    (operand (whole e (Not x.expr))) e)
    (sym (ap (λ (e : Span). from_to s e) o.whole ∙ span_of-one
    (record { span = s; kind = lexeme.Word (codes "not") })
    o.done.front (read_takes o refl)))
    (is_read (read_rule language sound (take_token language sound
    (choose language sound (sees_next language sound _)) refl) o.done refl refl (omega arith)) refl)

pub not_read : (alias : Bool) (below inner : ℕ) (tokens v w : List Token) (s : Span) (x y : Found)
    → below ≡ suc inner → IsNext (lexeme.Word (codes "not")) tokens v → s ≡ span_at tokens
    → IsOperandAt alias rule.not inner v w x
    → as_operand y ≡ whole (from_to s x.extent) (Not x.expr)
    → IsOperandAt alias rule.not below tokens w y
not_read alias below inner tokens v w s x y e n at_word o h =
    subst (λ (z : Operand). IsRead (behind_at alias rule.not)
    (look_at alias w) rule.not below tokens w
    (operand z) z.extent) (sym h)
    (subst (λ (m : ℕ). IsRead (behind_at alias rule.not) (look_at alias w) rule.not m tokens w
    (operand (whole (from_to s x.extent) (Not x.expr))) (from_to s x.extent)) (sym e)
    (subst (λ (z : Span). IsRead (behind_at alias rule.not) (look_at alias w) rule.not (suc inner)
    tokens w (operand (whole (from_to z x.extent) (Not x.expr))) (from_to z x.extent))
    (sym (at_word ∙ ap span_at n.same))
    (subst (λ (z : List Token). IsRead (behind_at alias rule.not) (look_at alias w) rule.not
    (suc inner) z w (operand (whole (from_to n.span x.extent) (Not x.expr)))
    (from_to n.span x.extent)) (sym n.same) (not_here alias inner n.span v w x o))))

not_missed_here : (alias : Bool) (below : ℕ) (s : Span) (v : List Token) (fault : Fault)
    → IsFault (behind_at alias rule.not) rule.not below v fault
    → IsFault (behind_at alias rule.not) rule.not (suc below)
    (record { span = s; kind = lexeme.Word (codes "not") } ∷ v) fault
unfolding behind_at keyword_of is_intro is_called
not_missed_here true below s v fault o =
    is_fault (take_token language sound (choose language sound (sees_next language sound _)) refl)
    o refl refl (omega arith)
not_missed_here false below s v fault o =
    is_fault (take_token language sound (choose language sound (sees_next language sound _)) refl)
    o refl refl (omega arith)

pub not_missed : (alias : Bool) (below inner : ℕ) (tokens v : List Token) (fault : Fault)
    → below ≡ suc inner → IsNext (lexeme.Word (codes "not")) tokens v
    → IsFault (behind_at alias rule.not) rule.not inner v fault
    → IsFault (behind_at alias rule.not) rule.not below tokens fault
not_missed alias below inner tokens v fault e n o =
    subst (λ (m : ℕ). IsFault (behind_at alias rule.not) rule.not m tokens fault) (sym e)
    (subst (λ (z : List Token). IsFault (behind_at alias rule.not) rule.not (suc inner) z fault)
    (sym n.same) (not_missed_here alias inner n.span v fault o))

not_deep_here : (alias : Bool) (s : Span) (v : List Token)
    → IsFault (behind_at alias rule.not) rule.not 0
    (record { span = s; kind = lexeme.Word (codes "not") } ∷ v)
    (TooDeep (length (record { span = s; kind = lexeme.Word (codes "not") } ∷ v)))
unfolding behind_at keyword_of is_intro is_called
not_deep_here true s v =
    is_barred_here (choose language sound (sees_next language sound _)) refl (omega arith)
not_deep_here false s v =
    is_barred_here (choose language sound (sees_next language sound _)) refl (omega arith)

pub not_deep : (alias : Bool) (below : ℕ) (tokens v : List Token) (left : ℕ) → below ≡ 0
    → IsNext (lexeme.Word (codes "not")) tokens v → left ≡ length tokens
    → IsFault (behind_at alias rule.not) rule.not below tokens (TooDeep left)
not_deep alias below tokens v left e n l =
    subst (λ (m : ℕ). IsFault (behind_at alias rule.not) rule.not below tokens (TooDeep m)) (sym l)
    (subst (λ (m : ℕ). IsFault (behind_at alias rule.not) rule.not m tokens
    (TooDeep (length tokens)))
    (sym e)
    (subst (λ (z : List Token). IsFault (behind_at alias rule.not) rule.not 0 z
    (TooDeep (length z)))
    (sym n.same) (not_deep_here alias n.span v)))
