-- The ways through LIKE, IN and BETWEEN.
use Rattle.std.proofs.Common.{◌≡◌, refl, sym, ap, ◌∙◌, subst, inl, inr, ℕ, zero, suc, ◌+◌, ◌<◌, ◌≤◌}
use Rattle.std.proofs.Common.{Bool, true, false, not, ◌&&◌, ◌||◌, List, [], ◌∷◌, ◌++◌, IsTrue}
use Rattle.std.proofs.Common.{length, Option, Some, None, arith, codes}
use Rattle.std.specs.List.{list_any}
use Rattle.mc_base.specs.declared.span.Span.{Span}
use Rattle.mc_token.specs.declared.lexeme.Lexeme.TheVariants as lexeme
use Rattle.mc_token.specs.declared.lexeme.Symbol.TheVariants as sign
use Rattle.mc_token.specs.declared.lexeme.Token.{Token}
use Rattle.mc_token.specs.Keywords.{keyword_of}
use Rattle.mc_grammar.specs.Grammar.{one, rule as a_rule}
use Rattle.mc_grammar.specs.Ahead.{Ahead, every}
use Rattle.mc_grammar.specs.Places.{all_pass, is_met, is_met_whole, Inside, Done}
use Rattle.mc_grammar.specs.Room.{Roomed, Admitted, with_room}
use Rattle.mc_grammar.proofs.Seeing.{sees_next, sees_two, sees_not_two}
use Rattle.mc_grammar.proofs.Inside.{leave, leave_front}
use Rattle.mc_grammar.proofs.Ways.{choose, take_token, read_rule, widen}
use Rattle.mc_sql.specs.Classes.{Class, word, mark, str, is_intro, is_called, is_lexeme_of}
use Rattle.mc_sql.specs.Rules as rule
use Rattle.mc_ast.specs.declared.expr.Expr.{Expr}
use Rattle.mc_ast.specs.declared.expr.Form.TheVariants.{Like, In, Between}
use Rattle.mc_ast.specs.Grouping.{whole}
use Rattle.mc_ast.specs.Meaning.{meaning}
use Rattle.mc_ast.specs.Spans.{from_to, span_from, span_of}
use Rattle.mc_ast.specs.Values.{Value, Operand, exprs, operand, operands, flag, maybe_text, a_token}
use Rattle.mc_parse.specs.declared.fault.Fault.{Fault}
use Rattle.mc_parse.specs.declared.fault.Fault.TheVariants.{NoReading, TooDeep}
use Rattle.mc_parse.specs.declared.operand.Operand.{Operand as Found}
use Rattle.mc_parse.specs.Language.{language, at, behind, behind_at, look_at}
use Rattle.mc_parse.specs.Members.{IsMembers, HasSome, HasAll, IsNoMembers}
use Rattle.mc_parse.specs.Place.{is_missing, span_at, IsNext}
use Rattle.mc_parse.specs.Read.{IsRead, IsFault, as_operand, IsOperand, IsOperandAt, IsPut}
use Rattle.mc_parse.specs.Said.{IsSaid, IsMatching, IsEscaping, IsListing, IsRanging}
use Rattle.mc_parse.proofs.Spans.{span_of-append, over}
use Rattle.mc_parse.proofs.Ways.{sound, both_missing, sees_missing, is_read, is_fault, is_missed}
use Rattle.mc_parse.proofs.Ways.{is_barred_here, read_takes}
use Rattle.mc_parse.proofs.TruthWays.{look_least}
use Rattle.mc_parse.proofs.SaidWays.{place_of, said_rule, said_token, said_option, said_done}
use Rattle.mc_parse.proofs.SaidWays.{said_fault, said_operand}

-- LIKE

matched_pass : (alias : Bool) (below : ℕ)
    → IsTrue (all_pass language (behind_at alias rule.pred)
    (place_of below rule.matched (with_room (suc below) [] (a_rule rule.escape_option ∷ [])) ∷ [])
    (behind rule.sum))
unfolding behind behind_at keyword_of is_intro is_called
matched_pass true below = refl
matched_pass false below = refl

pub matched_read : (alias : Bool) (below : ℕ) (n : Bool) (tokens v w : List Token) (x y : Found)
    → IsMatching alias below n tokens v x → IsOperand rule.sum below v w y
    → IsEscaping alias below n tokens w x y
matched_read alias below n tokens v w x y p o = record {
  token = p.token;
  said = said_rule p.said o (matched_pass alias below) (read_takes o refl);
}

pub matched_missed : (alias : Bool) (below : ℕ) (n : Bool) (tokens v : List Token) (x : Found)
    (fault : Fault) → IsMatching alias below n tokens v x
    → IsFault (behind rule.sum) rule.sum below v fault
    → IsFault (behind_at alias rule.pred) rule.pred below tokens fault
matched_missed alias below n tokens v x fault p o = said_fault p.said o (matched_pass alias below)

escaped_pass : (alias : Bool) (below : ℕ)
    → IsTrue (all_pass language (behind_at alias rule.pred)
    (place_of below rule.matched (with_room (suc below) [] []) ∷ [])
    (behind_at alias rule.escape_option))
unfolding behind behind_at keyword_of is_intro is_called
escaped_pass true below = refl
escaped_pass false below = refl

pub escaped_read : (alias : Bool) (below : ℕ) (n : Bool) (tokens v w : List Token) (x y z : Found)
    (e : Option (List ℕ)) (end : Span) → IsEscaping alias below n tokens v x y
    → IsPut (behind_at alias rule.escape_option) (look_at alias w) rule.escape_option below v w
    (maybe_text e) y.extent end
    → as_operand z ≡ whole (from_to x.extent end) (Like x.expr y.expr e n)
    → IsOperandAt alias rule.pred below tokens w z
escaped_read alias below n tokens v w x y z e end p o h =
    said_operand alias
    (subst (λ (s : Span). IsRead (behind_at alias rule.pred)
    (look_at alias w) rule.pred below tokens w
    (operand (whole s (Like x.expr y.expr e n))) s) (sym stands)
    (is_read (read_rule language sound p.said.inside o.done refl (escaped_pass alias below)
    (look_least alias w)) refl)) h
  where
    stands : from_to x.extent end ≡ span_of (p.said.front ++ o.done.front)
    stands = ap (λ (s : Span). from_to x.extent s) o.whole ∙ over x.extent y.extent o.done.front
        ∙ ap (λ (s : Span). span_from s o.done.front) p.said.stands
        ∙ sym (span_of-append p.said.front o.done.front p.said.some)

pub escaped_missed : (alias : Bool) (below : ℕ) (n : Bool) (tokens v : List Token) (x y : Found)
    (fault : Fault) → IsEscaping alias below n tokens v x y
    → IsFault (behind_at alias rule.escape_option) rule.escape_option below v fault
    → IsFault (behind_at alias rule.pred) rule.pred below tokens fault
escaped_missed alias below n tokens v x y fault p o = said_fault p.said o (escaped_pass alias below)

-- ESCAPE

-- Nothing is left of the alternative, which stands behind others.
is_put : {after : Ahead (Admitted Class)} {look : ℕ} {r : rule.Rule} {below : ℕ}
    {a : Roomed rule.Alternative} {vs : List Value} {tokens front rest : List Token}
    {first last : Span}
    → Inside language after look (at below r) (record { alternative = a; left = [] } ∷ []) vs
    tokens front rest
    → last ≡ span_from first front
    → IsPut after look r below tokens rest (meaning a.what (span_of front) vs) first last
is_put {first = first} p e = record {
  done = leave language sound _ _ _ _ _ _ _ _ p;
  whole = e ∙ ap (λ (x : List Token). span_from first x)
      (sym (leave_front language sound _ _ _ _ _ _ _ _ p));
}

pub escape_none : (alias : Bool) (below : ℕ) (v : List Token) (s : Span)
    → IsTrue (is_missing (word (codes "escape")) v)
    → IsPut (behind_at alias rule.escape_option) (look_at alias v) rule.escape_option below v v
    (maybe_text None) s s
unfolding behind behind_at keyword_of is_intro is_called
escape_none true below v s h =
    is_put (widen language sound (choose language sound
    (sees_missing (word (codes "escape") ∷ []) v (both_missing _ _ h refl))) (look_least true v))
    refl
escape_none false below v s h =
    is_put (widen language sound (choose language sound
    (sees_missing (word (codes "escape") ∷ []) v (both_missing _ _ h refl))) (look_least false v))
    refl

escape_here : (alias : Bool) (below : ℕ) (r s : Span) (text : List ℕ) (v : List Token)
    (first : Span)
    → IsPut (behind_at alias rule.escape_option) (look_at alias v) rule.escape_option below
    (record { span = r; kind = lexeme.Word (codes "escape") } ∷
    (record { span = s; kind = lexeme.Str text } ∷ v)) v
    (maybe_text (Some text)) first (from_to first s)
unfolding behind behind_at keyword_of is_intro is_called
escape_here true below r s text v first =
    is_put (widen language sound (take_token language sound (take_token language sound
    (choose language sound (sees_two language sound _)) refl) refl) (omega arith)) refl
escape_here false below r s text v first =
    is_put (widen language sound (take_token language sound (take_token language sound
    (choose language sound (sees_next language sound _)) refl) refl) (omega arith)) refl

pub escape_read : (alias : Bool) (below : ℕ) (tokens u v : List Token) (said text : List ℕ)
    (first : Span) (last : Span) → IsNext (lexeme.Word (codes "escape")) tokens u
    → IsNext (lexeme.Str said) u v → text ≡ said → last ≡ from_to first (span_at u)
    → IsPut (behind_at alias rule.escape_option) (look_at alias v) rule.escape_option below tokens v
    (maybe_text (Some text)) first last
escape_read alias below tokens u v said text first last n k e ends =
    subst (λ (t : List ℕ). IsPut (behind_at alias rule.escape_option) (look_at alias v)
    rule.escape_option below tokens v (maybe_text (Some t)) first last) (sym e)
    (subst (λ (t : Span). IsPut (behind_at alias rule.escape_option) (look_at alias v)
    rule.escape_option below tokens v (maybe_text (Some said)) first t)
    (sym (ends ∙ ap (λ (z : List Token). from_to first (span_at z)) k.same))
    (subst (λ (z : List Token). IsPut (behind_at alias rule.escape_option) (look_at alias v)
    rule.escape_option below z v (maybe_text (Some said)) first (from_to first k.span))
    (sym (n.same ∙ ap (λ (z : List Token). record
    { span = n.span; kind = lexeme.Word (codes "escape") } ∷ z) k.same))
    (escape_here alias below n.span k.span said v first)))

no_string : (v : List Token) → IsTrue (is_missing str v)
    → IsTrue (not (is_met language (Some (record { class = str; has_room = true })) v || false))
no_string [] h = refl
no_string (t ∷ v) h = by_test (is_lexeme_of str t.kind) h
  where
    by_test : (b : Bool) → IsTrue (not b) → IsTrue (not (b || false))
    by_test true g = g
    by_test false g = refl

-- The word is left for an alias.
escape_left_here : (below : ℕ) (r : Span) (v : List Token) (s : Span) → IsTrue (is_missing str v)
    → IsPut (behind_at true rule.escape_option)
    (look_at true (record { span = r; kind = lexeme.Word (codes "escape") } ∷ v))
    rule.escape_option below (record { span = r; kind = lexeme.Word (codes "escape") } ∷ v)
    (record { span = r; kind = lexeme.Word (codes "escape") } ∷ v) (maybe_text None) s s
unfolding behind behind_at keyword_of is_intro is_called
escape_left_here below r v s h =
    is_put (choose language sound
    (sees_not_two language sound (record { span = r; kind = lexeme.Word (codes "escape") } ∷ v)
    (Some (record { class = word (codes "escape"); has_room = true })) (no_string v h))) refl

pub escape_left : (alias : Bool) (below : ℕ) (tokens v : List Token) (s : Span) → IsTrue alias
    → IsNext (lexeme.Word (codes "escape")) tokens v → IsTrue (is_missing str v)
    → IsPut (behind_at alias rule.escape_option) (look_at alias tokens) rule.escape_option below
    tokens
    tokens (maybe_text None) s s
escape_left true below tokens v s a n h =
    subst (λ (z : List Token). IsPut (behind_at true rule.escape_option) (look_at true z)
    rule.escape_option below z z (maybe_text None) s s) (sym n.same)
    (escape_left_here below n.span v s h)
escape_left false below tokens v s a n h = cc

escape_missed_here : (below : ℕ) (r : Span) (v : List Token) → IsTrue (is_missing str v)
    → IsFault (behind_at false rule.escape_option) rule.escape_option below
    (record { span = r; kind = lexeme.Word (codes "escape") } ∷ v)
    (NoReading (length v))
unfolding behind behind_at keyword_of is_intro is_called
escape_missed_here below r v h =
    is_missed (take_token language sound (choose language sound (sees_next language sound _)) refl)
    (sees_missing (str ∷ []) v (both_missing _ _ h refl)) refl (omega arith)

pub escape_missed : (alias : Bool) (below : ℕ) (tokens v : List Token) (left : ℕ) → alias ≡ false
    → IsNext (lexeme.Word (codes "escape")) tokens v → IsTrue (is_missing str v) → left ≡ length v
    → IsFault (behind_at alias rule.escape_option) rule.escape_option below tokens (NoReading left)
escape_missed true below tokens v left a n h e = cc
escape_missed false below tokens v left a n h e =
    subst (λ (m : ℕ). IsFault (behind_at false rule.escape_option) rule.escape_option below tokens
    (NoReading m)) (sym e)
    (subst (λ (z : List Token). IsFault (behind_at false rule.escape_option) rule.escape_option
    below z
    (NoReading (length v))) (sym n.same) (escape_missed_here below n.span v h))

-- BETWEEN

ranged_pass : (alias : Bool) (below : ℕ)
    → IsTrue (all_pass language (behind_at alias rule.pred)
    (place_of below rule.ranged
    (with_room (suc below) [] (one (word (codes "and")) ∷ a_rule rule.sum ∷ [])) ∷ [])
    (behind rule.sum))
unfolding behind behind_at keyword_of is_intro is_called
ranged_pass true below = refl
ranged_pass false below = refl

ranged_last_pass : (alias : Bool) (below : ℕ)
    → IsTrue (all_pass language (behind_at alias rule.pred)
    (place_of below rule.ranged (with_room (suc below) [] []) ∷ []) (behind rule.sum))
unfolding behind behind_at keyword_of is_intro is_called
ranged_last_pass true below = refl
ranged_last_pass false below = refl

-- Behind AND.
ranged_on : (alias : Bool) (below : ℕ) (n : Bool) (tokens v w u : List Token) (x y : Found)
    → (p : IsRanging alias below n tokens v x) → IsOperand rule.sum below v w y
    → (next : IsNext (lexeme.Word (codes "and")) w u)
    → IsSaid alias below rule.ranged (with_room (suc below) [] (a_rule rule.sum ∷ []))
    (operand (as_operand x) ∷ flag n ∷ a_token p.token ∷ operand (as_operand y)
    ∷ a_token (record { span = next.span; kind = lexeme.Word (codes "and") }) ∷ []) tokens
    u x.extent next.span
ranged_on alias below n tokens v w u x y p o next =
    let q : IsOperand rule.sum below v
    (record { span = next.span; kind = lexeme.Word (codes "and") } ∷ u) y =
    subst (λ (t : List Token). IsOperand rule.sum below v t y) next.same o in
    said_token (record { span = next.span; kind = lexeme.Word (codes "and") })
    (said_rule p.said q (ranged_pass alias below) (read_takes q refl)) refl

pub ranged_read : (alias : Bool) (below : ℕ) (n : Bool) (tokens v w u r : List Token)
    (x y k z : Found) → IsRanging alias below n tokens v x → IsOperand rule.sum below v w y
    → IsNext (lexeme.Word (codes "and")) w u → IsOperand rule.sum below u r k
    → as_operand z ≡ whole (from_to x.extent k.extent) (Between x.expr y.expr k.expr n)
    → IsOperandAt alias rule.pred below tokens r z
ranged_read alias below n tokens v w u r x y k z p o next q h =
    said_operand alias
    (said_done (said_rule (ranged_on alias below n tokens v w u x y p o next) q
    (ranged_last_pass alias below) (read_takes q refl))) h

pub ranged_first_missed : (alias : Bool) (below : ℕ) (n : Bool) (tokens v : List Token) (x : Found)
    (fault : Fault) → IsRanging alias below n tokens v x
    → IsFault (behind rule.sum) rule.sum below v fault
    → IsFault (behind_at alias rule.pred) rule.pred below tokens fault
ranged_first_missed alias below n tokens v x fault p o = said_fault p.said o
    (ranged_pass alias below)

pub ranged_and_missed : (alias : Bool) (below : ℕ) (n : Bool) (tokens v w : List Token)
    (x y : Found) (left : ℕ) → IsRanging alias below n tokens v x → IsOperand rule.sum below v w y
    → IsTrue (is_missing (word (codes "and")) w) → left ≡ length w
    → IsFault (behind_at alias rule.pred) rule.pred below tokens (NoReading left)
unfolding behind behind_at keyword_of is_intro is_called
ranged_and_missed true below n tokens v w x y left p o h e =
    subst (λ (m : ℕ). IsFault (behind_at true rule.pred) rule.pred below tokens (NoReading m))
    (sym e)
    (is_missed (read_rule language sound p.said.inside o.done refl (ranged_pass true below)
    (omega arith)) (sees_missing (word (codes "and") ∷ []) w (both_missing _ _ h refl)) refl
    (omega arith))
ranged_and_missed false below n tokens v w x y left p o h e =
    subst (λ (m : ℕ). IsFault (behind_at false rule.pred) rule.pred below tokens (NoReading m))
    (sym e)
    (is_missed (read_rule language sound p.said.inside o.done refl (ranged_pass false below)
    (omega arith)) (sees_missing (word (codes "and") ∷ []) w (both_missing _ _ h refl)) refl
    (omega arith))

pub ranged_last_missed : (alias : Bool) (below : ℕ) (n : Bool) (tokens v w u : List Token)
    (x y : Found) (fault : Fault) → IsRanging alias below n tokens v x
    → IsOperand rule.sum below v w y
    → IsNext (lexeme.Word (codes "and")) w u → IsFault (behind rule.sum) rule.sum below u fault
    → IsFault (behind_at alias rule.pred) rule.pred below tokens fault
ranged_last_missed alias below n tokens v w u x y fault p o next q =
    said_fault (ranged_on alias below n tokens v w u x y p o next) q (ranged_last_pass alias below)

-- IN

-- Behind the parenthesis that opens.
abbrev IsOpened : Bool → ℕ → Bool → List Token → List Token → Found → Token → Token → Type 0
IsOpened alias m n tokens u x word_token t =
    IsSaid alias (suc m) rule.listed
    (with_room (suc (suc m)) (true ∷ true ∷ false ∷ [])
    (a_rule rule.or ∷ a_rule rule.more_ors ∷ one (mark sign.RightParen) ∷ []))
    (operand (as_operand x) ∷ flag n ∷ a_token word_token ∷ a_token t ∷ []) tokens u x.extent t.span

opened : (alias : Bool) (m : ℕ) (n : Bool) (tokens v u : List Token) (x : Found)
    → (p : IsListing alias (suc m) n tokens v x) → (o : IsNext (lexeme.Sym sign.LeftParen) v u)
    → IsOpened alias m n tokens u x p.token
    (record { span = o.span; kind = lexeme.Sym sign.LeftParen })
opened alias m n tokens v u x p o =
    said_token (record { span = o.span; kind = lexeme.Sym sign.LeftParen })
    (subst (λ (z : List Token). IsSaid alias (suc m) rule.listed
    (with_room (suc (suc m)) (true ∷ true ∷ true ∷ false ∷ [])
    (one (mark sign.LeftParen) ∷ a_rule rule.or ∷ a_rule rule.more_ors ∷ one
    (mark sign.RightParen) ∷ []))
    (operand (as_operand x) ∷ flag n ∷ a_token p.token ∷ []) tokens z x.extent p.last) o.same
    p.said)
    refl

listed_pass : (alias : Bool) (m : ℕ)
    → IsTrue (all_pass language (behind_at alias rule.pred) (place_of (suc m) rule.listed
    (with_room (suc (suc m)) (true ∷ false ∷ [])
    (a_rule rule.more_ors ∷ one (mark sign.RightParen) ∷ []))
    ∷ []) (behind_at false rule.or))
unfolding behind behind_at keyword_of is_intro is_called
listed_pass true m = refl
listed_pass false m = refl

listed_more_pass : (alias : Bool) (m : ℕ)
    → IsTrue (all_pass language (behind_at alias rule.pred) (place_of (suc m) rule.listed
    (with_room (suc (suc m)) (false ∷ []) (one (mark sign.RightParen) ∷ [])) ∷ [])
    (behind rule.more_ors))
unfolding behind behind_at keyword_of is_intro is_called
listed_more_pass true m = refl
listed_more_pass false m = refl

listed_here : (alias : Bool) (m : ℕ) (n : Bool) (tokens v u w : List Token) (x z : Found)
    (list : List Expr) (end : Span) → IsListing alias (suc m) n tokens v x
    → IsNext (lexeme.Sym sign.LeftParen) v u → IsMembers m u w list end
    → as_operand z ≡ whole (from_to x.extent end) (In x.expr list n)
    → IsOperandAt alias rule.pred (suc m) tokens w z
listed_here alias m n tokens v u w x z list end p o q h =
    said_operand alias
    (said_done (said_option (record { span = q.close.span; kind = lexeme.Sym sign.RightParen })
    (said_rule (opened alias m n tokens v u x p o) q.first (listed_pass alias m)
    (read_takes q.first refl))
    (subst (λ (t : List Token). Done language (behind rule.more_ors) 1 (at m rule.more_ors)
    q.behind_first t (operands q.xs)) q.close.same q.more) (listed_more_pass alias m) refl))
    (h ∙ ap (λ (e : Span). whole (from_to x.extent e) (In x.expr list n)) q.ends
    ∙ ap (λ (es : List Expr). whole (from_to x.extent q.close.span) (In x.expr es n)) q.listed)

pub listed_read : (alias : Bool) (below m : ℕ) (n : Bool) (tokens v u w : List Token) (x z : Found)
    (list : List Expr) (end : Span) → below ≡ suc m → IsListing alias below n tokens v x
    → IsNext (lexeme.Sym sign.LeftParen) v u → IsMembers m u w list end
    → as_operand z ≡ whole (from_to x.extent end) (In x.expr list n)
    → IsOperandAt alias rule.pred below tokens w z
listed_read alias below m n tokens v u w x z list end e p o q h =
    subst (λ (b : ℕ). IsOperandAt alias rule.pred b tokens w z) (sym e)
    (listed_here alias m n tokens v u w x z list end
    (subst (λ (b : ℕ). IsListing alias b n tokens v x) e p) o q h)

listed_missed_here : (alias : Bool) (m : ℕ) (n : Bool) (tokens v u : List Token) (x : Found)
    (fault : Fault) → IsListing alias (suc m) n tokens v x
    → IsNext (lexeme.Sym sign.LeftParen) v u → IsNoMembers m u fault
    → IsFault (behind_at alias rule.pred) rule.pred (suc m) tokens fault
unfolding behind behind_at keyword_of is_intro is_called
listed_missed_here true m n tokens v u x fault p o (inl q) =
    said_fault (opened true m n tokens v u x p o) q (listed_pass true m)
listed_missed_here true m n tokens v u x fault p o (inr (inl q)) =
    said_fault (said_rule (opened true m n tokens v u x p o) q.1.0.first (listed_pass true m)
    (read_takes q.1.0.first refl)) q.1.1 (listed_more_pass true m)
listed_missed_here true m n tokens v u x fault p o (inr (inr q)) =
    subst (λ (f : Fault). IsFault (behind_at true rule.pred) rule.pred (suc m) tokens f)
    (sym q.1.1.1)
    (is_missed (read_rule language sound
    (said_rule (opened true m n tokens v u x p o) q.1.0.some.first (listed_pass true m)
    (read_takes q.1.0.some.first refl)).inside q.1.0.more refl (listed_more_pass true m)
    (omega arith))
    (sees_missing (mark sign.RightParen ∷ []) q.0 (both_missing _ _ q.1.1.0 refl)) refl
    (omega arith))
listed_missed_here false m n tokens v u x fault p o (inl q) =
    said_fault (opened false m n tokens v u x p o) q (listed_pass false m)
listed_missed_here false m n tokens v u x fault p o (inr (inl q)) =
    said_fault (said_rule (opened false m n tokens v u x p o) q.1.0.first (listed_pass false m)
    (read_takes q.1.0.first refl)) q.1.1 (listed_more_pass false m)
listed_missed_here false m n tokens v u x fault p o (inr (inr q)) =
    subst (λ (f : Fault). IsFault (behind_at false rule.pred) rule.pred (suc m) tokens f)
    (sym q.1.1.1)
    (is_missed (read_rule language sound
    (said_rule (opened false m n tokens v u x p o) q.1.0.some.first (listed_pass false m)
    (read_takes q.1.0.some.first refl)).inside q.1.0.more refl (listed_more_pass false m)
    (omega arith))
    (sees_missing (mark sign.RightParen ∷ []) q.0 (both_missing _ _ q.1.1.0 refl)) refl
    (omega arith))

pub listed_missed : (alias : Bool) (below m : ℕ) (n : Bool) (tokens v u : List Token) (x : Found)
    (fault : Fault) → below ≡ suc m → IsListing alias below n tokens v x
    → IsNext (lexeme.Sym sign.LeftParen) v u → IsNoMembers m u fault
    → IsFault (behind_at alias rule.pred) rule.pred below tokens fault
listed_missed alias below m n tokens v u x fault e p o q =
    subst (λ (b : ℕ). IsFault (behind_at alias rule.pred) rule.pred b tokens fault) (sym e)
    (listed_missed_here alias m n tokens v u x fault
    (subst (λ (b : ℕ). IsListing alias b n tokens v x) e p) o q)

listed_deep_here : (alias : Bool) (n : Bool) (tokens : List Token) (s : Span) (v : List Token)
    (x : Found)
    → IsListing alias 0 n tokens (record { span = s; kind = lexeme.Sym sign.LeftParen } ∷ v) x
    → IsFault (behind_at alias rule.pred) rule.pred 0 tokens
    (TooDeep (length (record { span = s; kind = lexeme.Sym sign.LeftParen } ∷ v)))
listed_deep_here alias n tokens s v x p = is_barred_here p.said.inside refl (omega arith)

pub listed_deep : (alias : Bool) (below : ℕ) (n : Bool) (tokens v u : List Token) (x : Found)
    (left : ℕ) → below ≡ 0 → IsListing alias below n tokens v x
    → IsNext (lexeme.Sym sign.LeftParen) v u → left ≡ length v
    → IsFault (behind_at alias rule.pred) rule.pred below tokens (TooDeep left)
listed_deep alias below n tokens v u x left e p o l =
    subst (λ (k : ℕ). IsFault (behind_at alias rule.pred) rule.pred below tokens (TooDeep k))
    (sym (l ∙ ap (λ (z : List Token). length z) o.same))
    (subst (λ (b : ℕ). IsFault (behind_at alias rule.pred) rule.pred b tokens
    (TooDeep (length (record { span = o.span; kind = lexeme.Sym sign.LeftParen } ∷ u)))) (sym e)
    (listed_deep_here alias n tokens o.span u x
    (subst (λ (b : ℕ). IsListing alias b n tokens
    (record { span = o.span; kind = lexeme.Sym sign.LeftParen } ∷ u) x) e
    (subst (λ (z : List Token). IsListing alias below n tokens z x) o.same p))))

pub listed_paren_missed : (alias : Bool) (below : ℕ) (n : Bool) (tokens v : List Token) (x : Found)
    (left : ℕ) → IsListing alias below n tokens v x
    → IsTrue (is_missing (mark sign.LeftParen) v) → left ≡ length v
    → IsFault (behind_at alias rule.pred) rule.pred below tokens (NoReading left)
unfolding behind behind_at keyword_of is_intro is_called
listed_paren_missed true below n tokens v x left p h e =
    subst (λ (k : ℕ). IsFault (behind_at true rule.pred) rule.pred below tokens (NoReading k))
    (sym e)
    (is_missed p.said.inside (sees_missing (mark sign.LeftParen ∷ []) v (both_missing _ _ h refl))
    refl
    (omega arith))
listed_paren_missed false below n tokens v x left p h e =
    subst (λ (k : ℕ). IsFault (behind_at false rule.pred) rule.pred below tokens (NoReading k))
    (sym e)
    (is_missed p.said.inside (sees_missing (mark sign.LeftParen ∷ []) v (both_missing _ _ h refl))
    refl
    (omega arith))
