-- The ways through the functions that read SUBSTRING.
use Rattle.std.proofs.Common.{◌≡◌, refl, sym, ap, subst, ℕ, false, List, [], ◌∷◌, IsTrue, Option}
use Rattle.std.proofs.Common.{Some, None, length, arith, codes}
use Rattle.std.specs.Option.{option_map}
use Rattle.mc_base.specs.declared.span.Span.{Span}
use Rattle.mc_token.specs.Keywords.{keyword_of}
use Rattle.mc_token.specs.declared.lexeme.Lexeme.TheVariants.{Word}
use Rattle.mc_token.specs.declared.lexeme.Symbol.TheVariants.{RightParen}
use Rattle.mc_token.specs.declared.lexeme.Token.{Token}
use Rattle.mc_grammar.proofs.Seeing.{sees_next}
use Rattle.mc_grammar.proofs.Ways.{choose, take_token, read_rule}
use Rattle.mc_sql.specs.Classes.{word, mark, is_intro, is_called}
use Rattle.mc_sql.specs.Rules as rule
use Rattle.mc_ast.specs.declared.expr.Expr.{Expr}
use Rattle.mc_ast.specs.declared.expr.Form.TheVariants as form
use Rattle.mc_ast.specs.Spans.{span_of}
use Rattle.mc_ast.specs.Values.{Operand, a_token, operand}
use Rattle.mc_parse.specs.declared.fault.Fault.{Fault}
use Rattle.mc_parse.specs.declared.operand.Operand.{Operand as Found}
use Rattle.mc_parse.specs.Language.{language, behind, behind_at}
use Rattle.mc_parse.specs.Parts.{MayRead}
use Rattle.mc_parse.specs.Place.{is_missing, IsNext}
use Rattle.mc_parse.specs.Read.{IsFault, as_operand, IsOperandAt}
use Rattle.mc_parse.specs.Calls.{IsInCall, IsCallRead, IsCallFault, IsClosed, IsUnclosed}
use Rattle.mc_parse.proofs.Ways.{sound, both_missing, sees_missing, is_read, is_fault}
use Rattle.mc_parse.proofs.CallSteps.{in_token, in_rule, in_next, in_missing, in_fault, in_closed}
use Rattle.mc_parse.proofs.CallSteps.{in_unclosed}

-- The length

pub no_length_read : {below : ℕ} {tokens : List Token}
    → IsTrue (is_missing (word (codes "for")) tokens)
    → MayRead rule.length_option below tokens tokens None
unfolding behind
no_length_read {tokens = tokens} h = record {
  member = None;
  done = (is_read {extent = span_of []} (choose language sound
      (sees_missing (word (codes "for") ∷ []) tokens (both_missing _ _ h refl))) refl).done;
  says = refl;
}

length_here : (below : ℕ) (t : Span) (v w : List Token) (x : Found) (e : Expr)
    → IsOperandAt false rule.or below v w x → e ≡ x.expr
    → MayRead rule.length_option below (record { span = t; kind = Word (codes "for") } ∷ v) w
    (Some e)
unfolding behind behind_at keyword_of is_intro is_called
length_here below t v w x e o h = record {
  member = Some (as_operand x);
  done = (is_read (read_rule language sound (take_token language sound
      (choose language sound (sees_next language sound _)) refl) o.done refl refl (omega arith))
      refl).done;
  says = ap (λ (z : Expr). Some z) h;
}

pub length_read : {below : ℕ} {tokens v w : List Token} {x : Found} {e : Expr}
    → IsNext (Word (codes "for")) tokens v → IsOperandAt false rule.or below v w x → e ≡ x.expr
    → MayRead rule.length_option below tokens w (Some e)
length_read {below = below} {v = v} {w = w} {x = x} {e = e} n o h =
    subst (λ (z : List Token). MayRead rule.length_option below z w (Some e)) (sym n.same)
    (length_here below n.span v w x e o h)

length_missed_here : (below : ℕ) (t : Span) (v : List Token) (fault : Fault)
    → IsFault (behind_at false rule.or) rule.or below v fault
    → IsFault (behind rule.length_option) rule.length_option below
    (record { span = t; kind = Word (codes "for") } ∷ v) fault
unfolding behind behind_at keyword_of is_intro is_called
length_missed_here below t v fault o =
    is_fault (take_token language sound (choose language sound (sees_next language sound _)) refl)
    o refl refl (omega arith)

pub length_missed : {below : ℕ} {tokens v : List Token} {fault : Fault}
    → IsNext (Word (codes "for")) tokens v
    → IsFault (behind_at false rule.or) rule.or below v fault
    → IsFault (behind rule.length_option) rule.length_option below tokens fault
length_missed {below = below} {v = v} {fault = fault} n o =
    subst (λ (z : List Token). IsFault (behind rule.length_option) rule.length_option below z fault)
    (sym n.same) (length_missed_here below n.span v fault o)

-- [FOR or ] ), behind the start

part_here : {below : ℕ} {tokens v w r : List Token} {x y : Operand} {s span : Span}
    {found : Option Expr} → (o : MayRead rule.length_option below v w found)
    → IsClosed tokens w r span
    → IsInCall (codes "substring") below 5 (rule.substring_call ∷ []) (operand x
    ∷ a_token (record { span = s; kind = Word (codes "from") }) ∷ operand y ∷ []) tokens v
    → IsCallRead below tokens r span
    (form.SubstringFrom x.expr y.expr (option_map (λ z. z.expr) o.member))
unfolding behind
part_here o c p = in_closed (in_rule p o.done refl refl) c (λ s. refl) refl (λ e s t u. refl)

pub part_read : {below : ℕ} {tokens v w r : List Token} {x y : Operand} {s span : Span}
    {found : Option Expr} → MayRead rule.length_option below v w found
    → IsClosed tokens w r span
    → IsInCall (codes "substring") below 5 (rule.substring_call ∷ []) (operand x
    ∷ a_token (record { span = s; kind = Word (codes "from") }) ∷ operand y ∷ []) tokens v
    → IsCallRead below tokens r span (form.SubstringFrom x.expr y.expr found)
part_read {below = below} {tokens = tokens} {r = r} {x = x} {y = y} {span = span} o c p =
    subst (λ (z : Option Expr). IsCallRead below tokens r span (form.SubstringFrom x.expr y.expr z))
    (sym o.says) (part_here o c p)

pub part_unclosed : {below : ℕ} {tokens v w : List Token} {x y : Operand} {s : Span}
    {found : Option Expr} {fault : Fault} → MayRead rule.length_option below v w found
    → IsUnclosed w fault
    → IsInCall (codes "substring") below 5 (rule.substring_call ∷ []) (operand x
    ∷ a_token (record { span = s; kind = Word (codes "from") }) ∷ operand y ∷ []) tokens v
    → IsCallFault below tokens fault
unfolding behind
part_unclosed o u p = in_unclosed (in_rule p o.done refl refl) u refl

pub part_missed : {below : ℕ} {tokens v : List Token} {x y : Operand} {s : Span} {fault : Fault}
    → IsFault (behind rule.length_option) rule.length_option below v fault
    → IsInCall (codes "substring") below 5 (rule.substring_call ∷ []) (operand x
    ∷ a_token (record { span = s; kind = Word (codes "from") }) ∷ operand y ∷ []) tokens v
    → IsCallFault below tokens fault
unfolding behind
part_missed o p = in_fault p o refl refl

-- FROM or, behind the first operand

pub start_missed : {below : ℕ} {tokens v w : List Token} {x : Operand} {fault : Fault}
    → IsInCall (codes "substring") below 3 (rule.substring_call ∷ []) (operand x ∷ []) tokens v
    → IsNext (Word (codes "from")) v w → IsFault (behind_at false rule.or) rule.or below w fault
    → IsCallFault below tokens fault
unfolding behind behind_at keyword_of is_intro is_called
start_missed p n o = in_fault (in_token p n refl refl) o refl refl

pub start_read : {below : ℕ} {tokens v w u : List Token} {x : Operand} {y : Found}
    → IsInCall (codes "substring") below 3 (rule.substring_call ∷ []) (operand x ∷ []) tokens v
    → (n : IsNext (Word (codes "from")) v w) → IsOperandAt false rule.or below w u y
    → IsInCall (codes "substring") below 5 (rule.substring_call ∷ []) (operand x
    ∷ a_token (record { span = n.span; kind = Word (codes "from") }) ∷ operand (as_operand y) ∷ [])
    tokens u
unfolding behind behind_at keyword_of is_intro is_called
start_read p n o = in_rule (in_token p n refl refl) o.done refl refl

-- The first operand

pub substring_empty : {below : ℕ} {tokens v w : List Token} {span : Span}
    → IsInCall (codes "substring") below 2
    (rule.substring_call ∷ rule.empty_call ∷ rule.single_call ∷ rule.many_call ∷ []) [] tokens v
    → IsClosed tokens v w span → IsCallRead below tokens w span (form.Call (codes "substring") [])
unfolding behind keyword_of is_intro is_called
substring_empty p c =
    in_closed (in_next {bs = rule.empty_call ∷ []} p c.next refl) c (λ s. refl) refl
    (λ e s t u. refl)

pub substring_operand : {below : ℕ} {tokens v : List Token} {other : Fault}
    → IsInCall (codes "substring") below 2
    (rule.substring_call ∷ rule.empty_call ∷ rule.single_call ∷ rule.many_call ∷ []) [] tokens v
    → IsUnclosed v other
    → IsInCall (codes "substring") below 2
    (rule.substring_call ∷ rule.single_call ∷ rule.many_call ∷ []) [] tokens v
unfolding behind keyword_of is_intro is_called
substring_operand p u =
    in_missing (mark RightParen ∷ []) p (both_missing _ _ u.missing refl) refl

pub substring_first_missed : {below : ℕ} {tokens v : List Token} {fault : Fault}
    → IsInCall (codes "substring") below 2
    (rule.substring_call ∷ rule.single_call ∷ rule.many_call ∷ []) [] tokens v
    → IsFault (behind_at false rule.or) rule.or below v fault → IsCallFault below tokens fault
unfolding behind behind_at
substring_first_missed p o = in_fault p o refl refl

substring_first : {below : ℕ} {tokens v w : List Token} {x : Found}
    → IsInCall (codes "substring") below 2
    (rule.substring_call ∷ rule.single_call ∷ rule.many_call ∷ []) [] tokens v
    → IsOperandAt false rule.or below v w x
    → IsInCall (codes "substring") below 3
    (rule.substring_call ∷ rule.single_call ∷ rule.many_call ∷ [])
    (operand (as_operand x) ∷ []) tokens w
unfolding behind behind_at
substring_first p o = in_rule p o.done refl refl

pub substring_from_next : {below : ℕ} {tokens v w u : List Token} {x : Found}
    → IsInCall (codes "substring") below 2
    (rule.substring_call ∷ rule.single_call ∷ rule.many_call ∷ []) [] tokens v
    → IsOperandAt false rule.or below v w x → IsNext (Word (codes "from")) w u
    → IsInCall (codes "substring") below 3 (rule.substring_call ∷ []) (operand (as_operand x) ∷ [])
    tokens w
unfolding behind behind_at keyword_of is_intro is_called
substring_from_next p o n = in_next (substring_first p o) n refl

pub substring_plain : {below : ℕ} {tokens v w : List Token} {x : Found}
    → IsInCall (codes "substring") below 2
    (rule.substring_call ∷ rule.single_call ∷ rule.many_call ∷ []) [] tokens v
    → IsOperandAt false rule.or below v w x → IsTrue (is_missing (word (codes "from")) w)
    → IsInCall (codes "substring") below 3 (rule.single_call ∷ rule.many_call ∷ [])
    (operand (as_operand x) ∷ []) tokens w
unfolding behind behind_at keyword_of is_intro is_called
substring_plain p o h =
    in_missing (word (codes "from") ∷ []) (substring_first p o) (both_missing _ _ h refl) refl
