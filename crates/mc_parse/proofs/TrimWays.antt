-- The ways through the functions that read TRIM.
use Rattle.std.proofs.Common.{◌≡◌, refl, sym, ap, subst, ℕ, false, List, [], ◌∷◌, IsTrue, Option}
use Rattle.std.proofs.Common.{Some, None, length, arith, codes}
use Rattle.std.specs.Option.{option_map}
use Rattle.mc_base.specs.declared.span.Span.{Span}
use Rattle.mc_token.specs.Keywords.{keyword_of}
use Rattle.mc_token.specs.declared.lexeme.Lexeme.TheVariants.{Word}
use Rattle.mc_token.specs.declared.lexeme.Symbol.TheVariants.{RightParen}
use Rattle.mc_token.specs.declared.lexeme.Token.{Token}
use Rattle.mc_grammar.specs.Places.{Done}
use Rattle.mc_grammar.proofs.Seeing.{sees_next}
use Rattle.mc_grammar.proofs.Ways.{choose, take_token, read_rule, widen}
use Rattle.mc_sql.specs.Classes.{word, mark, is_intro, is_called}
use Rattle.mc_sql.specs.Rules as rule
use Rattle.mc_ast.specs.declared.expr.Expr.{Expr}
use Rattle.mc_ast.specs.declared.expr.Form.TheVariants as form
use Rattle.mc_ast.specs.declared.operators.TrimSide.{TrimSide}
use Rattle.mc_ast.specs.declared.operators.TrimSide.TheVariants.{Both, Leading, Trailing}
use Rattle.mc_ast.specs.Spans.{span_of}
use Rattle.mc_ast.specs.Values.{Operand, operand, trim_side, maybe_operand}
use Rattle.mc_parse.specs.declared.fault.Fault.{Fault}
use Rattle.mc_parse.specs.declared.fault.Fault.TheVariants.{NoReading}
use Rattle.mc_parse.specs.declared.operand.Operand.{Operand as Found}
use Rattle.mc_parse.specs.Language.{language, at, behind, behind_at}
use Rattle.mc_parse.specs.Parts.{side_word, side_words, MayRead}
use Rattle.mc_parse.specs.Place.{is_missing, are_missing, IsNext}
use Rattle.mc_parse.specs.Read.{IsFault, as_operand, IsOperandAt}
use Rattle.mc_parse.specs.Calls.{IsInCall, IsCallRead, IsCallFault, IsClosed, IsUnclosed}
use Rattle.mc_parse.proofs.Ways.{sound, both_missing, sees_missing, is_read, is_fault}
use Rattle.mc_parse.proofs.CallSteps.{in_token, in_rule, in_next, in_missing, in_fault, in_missed}
use Rattle.mc_parse.proofs.CallSteps.{in_closed, in_unclosed}

-- The side

side_here : (s : TrimSide) (below : ℕ) (t : Span) (v : List Token)
    → Done language (behind rule.side) 1 (at below rule.side)
    (record { span = t; kind = Word (side_word s) } ∷ v) v (trim_side s)
unfolding behind keyword_of is_intro is_called
side_here Both below t v =
    (is_read {extent = t} (widen language sound (take_token language sound
    (choose language sound (sees_next language sound _)) refl) (omega arith)) refl).done
side_here Leading below t v =
    (is_read {extent = t} (widen language sound (take_token language sound
    (choose language sound (sees_next language sound _)) refl) (omega arith)) refl).done
side_here Trailing below t v =
    (is_read {extent = t} (widen language sound (take_token language sound
    (choose language sound (sees_next language sound _)) refl) (omega arith)) refl).done

side_only : {below : ℕ} {tokens v w : List Token} (s : TrimSide)
    → IsInCall (codes "trim") below 2 (rule.trim_side_call ∷ rule.trim_call
    ∷ rule.empty_call ∷ rule.single_call ∷ rule.many_call ∷ []) [] tokens v
    → IsNext (Word (side_word s)) v w
    → IsInCall (codes "trim") below 2 (rule.trim_side_call ∷ []) [] tokens v
unfolding behind keyword_of is_intro is_called
side_only Both p n = in_next p n refl
side_only Leading p n = in_next p n refl
side_only Trailing p n = in_next p n refl

pub side_read : {below : ℕ} {tokens v w : List Token} (s : TrimSide)
    → IsInCall (codes "trim") below 2 (rule.trim_side_call ∷ rule.trim_call
    ∷ rule.empty_call ∷ rule.single_call ∷ rule.many_call ∷ []) [] tokens v
    → IsNext (Word (side_word s)) v w
    → IsInCall (codes "trim") below 3 (rule.trim_side_call ∷ []) (trim_side s ∷ []) tokens w
unfolding behind
side_read {below = below} {w = w} s p n =
    in_rule (side_only s p n)
    (subst (λ (z : List Token). Done language (behind rule.side) 1 (at below rule.side) z w
    (trim_side s)) (sym n.same) (side_here s below n.span w)) refl refl

-- What may stand before FROM

no_or_here : (below : ℕ) (t : Span) (v : List Token)
    → Done language (behind rule.or_option) 1 (at below rule.or_option)
    (record { span = t; kind = Word (codes "from") } ∷ v)
    (record { span = t; kind = Word (codes "from") } ∷ v) (maybe_operand None)
unfolding behind keyword_of is_intro is_called
no_or_here below t v =
    (is_read {extent = span_of []} (choose language sound (sees_next language sound _)) refl).done

pub no_or_read : {below : ℕ} {tokens v : List Token} → IsNext (Word (codes "from")) tokens v
    → MayRead rule.or_option below tokens tokens None
no_or_read {below = below} {v = v} n = record {
  member = None;
  done = subst (λ (z : List Token). Done language (behind rule.or_option) 1
      (at below rule.or_option) z z (maybe_operand None)) (sym n.same) (no_or_here below n.span v);
  says = refl;
}

pub given_or_read : {below : ℕ} {tokens v : List Token} {x : Found} {e : Expr}
    → IsTrue (is_missing (word (codes "from")) tokens) → IsOperandAt false rule.or below tokens v x
    → e ≡ x.expr → MayRead rule.or_option below tokens v (Some e)
unfolding behind behind_at
given_or_read {tokens = tokens} {x = x} h o e = record {
  member = Some (as_operand x);
  done = (is_read (read_rule language sound
      (choose language sound (sees_missing (word (codes "from") ∷ []) tokens
      (both_missing _ _ h refl))) o.done refl refl (omega arith)) refl).done;
  says = ap (λ (z : Expr). Some z) e;
}

pub given_or_missed : {below : ℕ} {tokens : List Token} {fault : Fault}
    → IsTrue (is_missing (word (codes "from")) tokens)
    → IsFault (behind_at false rule.or) rule.or below tokens fault
    → IsFault (behind rule.or_option) rule.or_option below tokens fault
unfolding behind behind_at
given_or_missed {tokens = tokens} h o =
    is_fault (choose language sound (sees_missing (word (codes "from") ∷ []) tokens
    (both_missing _ _ h refl))) o refl refl (omega arith)

pub removed_read : {below : ℕ} {tokens v w : List Token} {s : TrimSide} {found : Option Expr}
    → IsInCall (codes "trim") below 3 (rule.trim_side_call ∷ []) (trim_side s ∷ []) tokens v
    → (o : MayRead rule.or_option below v w found)
    → IsInCall (codes "trim") below 4 (rule.trim_side_call ∷ [])
    (trim_side s ∷ maybe_operand o.member ∷ []) tokens w
unfolding behind
removed_read p o = in_rule p o.done refl refl

pub removed_missed : {below : ℕ} {tokens v : List Token} {s : TrimSide} {fault : Fault}
    → IsInCall (codes "trim") below 3 (rule.trim_side_call ∷ []) (trim_side s ∷ []) tokens v
    → IsFault (behind rule.or_option) rule.or_option below v fault → IsCallFault below tokens fault
unfolding behind
removed_missed p o = in_fault p o refl refl

-- FROM or ), behind a side

pub side_from_missed : {below : ℕ} {tokens v : List Token} {s : TrimSide} {m : Option Operand}
    {left : ℕ}
    → IsTrue (is_missing (word (codes "from")) v) → left ≡ length v
    → IsInCall (codes "trim") below 4 (rule.trim_side_call ∷ [])
    (trim_side s ∷ maybe_operand m ∷ []) tokens v
    → IsCallFault below tokens (NoReading left)
unfolding behind behind_at keyword_of is_intro is_called
side_from_missed h e p = in_missed (word (codes "from") ∷ []) p (both_missing _ _ h refl) refl e

pub side_text_missed : {below : ℕ} {tokens v w : List Token} {s : TrimSide} {m : Option Operand}
    {fault : Fault}
    → IsNext (Word (codes "from")) v w → IsFault (behind_at false rule.or) rule.or below w fault
    → IsInCall (codes "trim") below 4 (rule.trim_side_call ∷ [])
    (trim_side s ∷ maybe_operand m ∷ []) tokens v
    → IsCallFault below tokens fault
unfolding behind behind_at keyword_of is_intro is_called
side_text_missed n o p = in_fault (in_token p n refl refl) o refl refl

pub side_text_read : {below : ℕ} {tokens v w u r : List Token} {s : TrimSide} {m : Option Operand}
    {x : Found} {span : Span}
    → IsNext (Word (codes "from")) v w → IsOperandAt false rule.or below w u x
    → IsClosed tokens u r span
    → IsInCall (codes "trim") below 4 (rule.trim_side_call ∷ [])
    (trim_side s ∷ maybe_operand m ∷ []) tokens v
    → IsCallRead below tokens r span (form.Trim s (option_map (λ y. y.expr) m) x.expr)
unfolding behind behind_at keyword_of is_intro is_called
side_text_read n o c p =
    in_closed (in_rule (in_token p n refl refl) o.done refl refl) c (λ s. refl) refl
    (λ e s t u. refl)

pub side_text_unclosed : {below : ℕ} {tokens v w u : List Token} {s : TrimSide} {m : Option Operand}
    {x : Found} {fault : Fault}
    → IsNext (Word (codes "from")) v w → IsOperandAt false rule.or below w u x
    → IsUnclosed u fault
    → IsInCall (codes "trim") below 4 (rule.trim_side_call ∷ [])
    (trim_side s ∷ maybe_operand m ∷ []) tokens v
    → IsCallFault below tokens fault
unfolding behind behind_at keyword_of is_intro is_called
side_text_unclosed n o u p =
    in_unclosed (in_rule (in_token p n refl refl) o.done refl refl) u refl

-- FROM or ), behind an operand

pub both_from_missed : {below : ℕ} {tokens v : List Token} {y : Operand} {left : ℕ}
    → IsTrue (is_missing (word (codes "from")) v) → left ≡ length v
    → IsInCall (codes "trim") below 3 (rule.trim_call ∷ [])
    (operand y ∷ []) tokens v
    → IsCallFault below tokens (NoReading left)
unfolding behind behind_at keyword_of is_intro is_called
both_from_missed h e p = in_missed (word (codes "from") ∷ []) p (both_missing _ _ h refl) refl e

pub both_text_missed : {below : ℕ} {tokens v w : List Token} {y : Operand} {fault : Fault}
    → IsNext (Word (codes "from")) v w → IsFault (behind_at false rule.or) rule.or below w fault
    → IsInCall (codes "trim") below 3 (rule.trim_call ∷ [])
    (operand y ∷ []) tokens v
    → IsCallFault below tokens fault
unfolding behind behind_at keyword_of is_intro is_called
both_text_missed n o p = in_fault (in_token p n refl refl) o refl refl

pub both_text_read : {below : ℕ} {tokens v w u r : List Token} {y : Operand}
    {x : Found} {span : Span}
    → IsNext (Word (codes "from")) v w → IsOperandAt false rule.or below w u x
    → IsClosed tokens u r span
    → IsInCall (codes "trim") below 3 (rule.trim_call ∷ [])
    (operand y ∷ []) tokens v
    → IsCallRead below tokens r span (form.Trim Both (Some y.expr) x.expr)
unfolding behind behind_at keyword_of is_intro is_called
both_text_read n o c p =
    in_closed (in_rule (in_token p n refl refl) o.done refl refl) c (λ s. refl) refl
    (λ e s t u. refl)

pub both_text_unclosed : {below : ℕ} {tokens v w u : List Token} {y : Operand}
    {x : Found} {fault : Fault}
    → IsNext (Word (codes "from")) v w → IsOperandAt false rule.or below w u x
    → IsUnclosed u fault
    → IsInCall (codes "trim") below 3 (rule.trim_call ∷ [])
    (operand y ∷ []) tokens v
    → IsCallFault below tokens fault
unfolding behind behind_at keyword_of is_intro is_called
both_text_unclosed n o u p =
    in_unclosed (in_rule (in_token p n refl refl) o.done refl refl) u refl

-- Without a side

pub trim_empty : {below : ℕ} {tokens v w : List Token} {span : Span}
    → IsInCall (codes "trim") below 2 (rule.trim_side_call ∷ rule.trim_call
    ∷ rule.empty_call ∷ rule.single_call ∷ rule.many_call ∷ []) [] tokens v
    → IsClosed tokens v w span → IsCallRead below tokens w span (form.Call (codes "trim") [])
unfolding behind keyword_of is_intro is_called
trim_empty p c =
    in_closed (in_next {bs = rule.empty_call ∷ []} p c.next refl) c (λ s. refl) refl
    (λ e s t u. refl)

pub trim_operand : {below : ℕ} {tokens v : List Token} {other : Fault}
    → IsInCall (codes "trim") below 2 (rule.trim_side_call ∷ rule.trim_call
    ∷ rule.empty_call ∷ rule.single_call ∷ rule.many_call ∷ []) [] tokens v
    → IsTrue (are_missing side_words v) → IsUnclosed v other
    → IsInCall (codes "trim") below 2 (rule.trim_call ∷ rule.single_call ∷ rule.many_call ∷ []) []
    tokens v
unfolding behind keyword_of is_intro is_called
trim_operand {v = v} p h u =
    in_missing (mark RightParen ∷ side_words) p (both_missing _ _ u.missing h) refl

pub trim_first_missed : {below : ℕ} {tokens v : List Token} {fault : Fault}
    → IsInCall (codes "trim") below 2 (rule.trim_call ∷ rule.single_call ∷ rule.many_call ∷ []) []
    tokens v
    → IsFault (behind_at false rule.or) rule.or below v fault → IsCallFault below tokens fault
unfolding behind behind_at
trim_first_missed p o = in_fault p o refl refl

trim_first : {below : ℕ} {tokens v w : List Token} {x : Found}
    → IsInCall (codes "trim") below 2 (rule.trim_call ∷ rule.single_call ∷ rule.many_call ∷ []) []
    tokens v
    → IsOperandAt false rule.or below v w x
    → IsInCall (codes "trim") below 3 (rule.trim_call ∷ rule.single_call ∷ rule.many_call ∷ [])
    (operand (as_operand x) ∷ []) tokens w
unfolding behind behind_at
trim_first p o = in_rule p o.done refl refl

pub trim_from_next : {below : ℕ} {tokens v w u : List Token} {x : Found}
    → IsInCall (codes "trim") below 2 (rule.trim_call ∷ rule.single_call ∷ rule.many_call ∷ []) []
    tokens v
    → IsOperandAt false rule.or below v w x → IsNext (Word (codes "from")) w u
    → IsInCall (codes "trim") below 3 (rule.trim_call ∷ []) (operand (as_operand x) ∷ []) tokens w
unfolding behind behind_at keyword_of is_intro is_called
trim_from_next p o n = in_next (trim_first p o) n refl

pub trim_plain : {below : ℕ} {tokens v w : List Token} {x : Found}
    → IsInCall (codes "trim") below 2 (rule.trim_call ∷ rule.single_call ∷ rule.many_call ∷ []) []
    tokens v
    → IsOperandAt false rule.or below v w x → IsTrue (is_missing (word (codes "from")) w)
    → IsInCall (codes "trim") below 3 (rule.single_call ∷ rule.many_call ∷ [])
    (operand (as_operand x) ∷ []) tokens w
unfolding behind behind_at keyword_of is_intro is_called
trim_plain p o h =
    in_missing (word (codes "from") ∷ []) (trim_first p o) (both_missing _ _ h refl) refl
