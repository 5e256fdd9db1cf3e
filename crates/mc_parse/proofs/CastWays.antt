-- The ways through the functions that read CAST.
use Rattle.std.proofs.Common.{◌≡◌, refl, sym, ap, ◌∙◌, subst, ℕ, false, List, [], ◌∷◌, IsTrue}
use Rattle.std.proofs.Common.{Option}
use Rattle.std.proofs.Common.{Some, None, length, arith, codes}
use Rattle.mc_base.specs.declared.span.Span.{Span}
use Rattle.mc_token.specs.Keywords.{keyword_of}
use Rattle.mc_token.specs.declared.lexeme.Lexeme.TheVariants.{Word}
use Rattle.mc_token.specs.declared.lexeme.Token.{Token}
use Rattle.mc_grammar.proofs.Inside.{enter, leave}
use Rattle.mc_grammar.proofs.Seeing.{sees_next}
use Rattle.mc_grammar.proofs.Ways.{choose, take_token, read_rule, widen}
use Rattle.mc_sql.specs.Classes.{word, is_intro, is_called}
use Rattle.mc_sql.specs.Rules as rule
use Rattle.mc_ast.specs.Values.{Operand, operand, Collation, collation}
use Rattle.mc_ast.specs.declared.expr.Form.TheVariants as form
use Rattle.mc_parse.specs.declared.fault.Fault.{Fault}
use Rattle.mc_parse.specs.declared.fault.Fault.TheVariants.{NoReading}
use Rattle.mc_parse.specs.declared.operand.Operand.{Operand as Found}
use Rattle.mc_parse.specs.Language.{language, at, behind, behind_at}
use Rattle.mc_parse.specs.Place.{is_missing, IsNext}
use Rattle.mc_parse.specs.Read.{IsRead, IsFault, as_operand, IsOperandAt}
use Rattle.mc_parse.specs.Calls.{IsInCall, IsCallRead, IsCallFault, IsClosed, IsUnclosed}
use Rattle.mc_parse.specs.Casts.{HasSet}
use Rattle.mc_parse.proofs.Ways.{sound, both_missing, sees_missing, is_fault, is_missed}
use Rattle.mc_parse.proofs.CallSteps.{in_token, in_rule, in_next, in_fault, in_missed, in_closed}
use Rattle.mc_parse.proofs.CallSteps.{in_unclosed}

-- [CHARACTER SET (NAME | BINARY)]

pub set_left : (below : ℕ) (tokens : List Token)
    → IsTrue (is_missing (word (codes "character")) tokens) → HasSet below tokens tokens None
unfolding behind keyword_of is_intro is_called
set_left below tokens h =
    leave language sound _ _ _ _ _ _ _ _ (choose language sound
    (sees_missing (word (codes "character") ∷ []) tokens (both_missing _ _ h refl)))

set_here : (below : ℕ) (s t : Span) (v w : List Token) (c : Collation) (e : Span)
    → IsRead (behind rule.name_or_binary) 1 rule.name_or_binary below v w (collation c) e
    → HasSet below (record { span = s; kind = Word (codes "character") }
    ∷ record { span = t; kind = Word (codes "set") } ∷ v) w (Some c.name)
unfolding behind keyword_of is_intro is_called
set_here below s t v w c e o =
    leave language sound _ _ _ _ _ _ _ _ (read_rule language sound (take_token language sound
    (take_token language sound (choose language sound (sees_next language sound _)) refl) refl)
    o.done refl refl (omega arith))

pub set_read : {below : ℕ} {tokens u v w : List Token} {c : Collation} {e : Span}
    → IsNext (Word (codes "character")) tokens u → IsNext (Word (codes "set")) u v
    → IsRead (behind rule.name_or_binary) 1 rule.name_or_binary below v w (collation c) e
    → HasSet below tokens w (Some c.name)
set_read {below = below} {tokens = tokens} {u = u} {v = v} {w = w} {c = c} {e = e} n m o =
    subst (λ (z : List Token). HasSet below z w (Some c.name))
    (sym (n.same ∙ ap (λ (z : List Token). record { span = n.span; kind = Word (codes "character") }
    ∷ z) m.same))
    (set_here below n.span m.span v w c e o)

set_word_here : (below : ℕ) (s : Span) (v : List Token) → IsTrue (is_missing (word (codes "set")) v)
    → IsFault (behind rule.set_option) rule.set_option below
    (record { span = s; kind = Word (codes "character") } ∷ v) (NoReading (length v))
unfolding behind keyword_of is_intro is_called
set_word_here below s v h =
    is_missed (take_token language sound (choose language sound (sees_next language sound _)) refl)
    (sees_missing (word (codes "set") ∷ []) v (both_missing _ _ h refl)) refl (omega arith)

pub set_word_missed : {below : ℕ} {tokens v : List Token} {left : ℕ}
    → IsNext (Word (codes "character")) tokens v → IsTrue (is_missing (word (codes "set")) v)
    → left ≡ length v
    → IsFault (behind rule.set_option) rule.set_option below tokens (NoReading left)
set_word_missed {below = below} {tokens = tokens} {v = v} {left = left} n h e =
    subst (λ (k : ℕ). IsFault (behind rule.set_option) rule.set_option below tokens (NoReading k))
    (sym e) (subst (λ (z : List Token). IsFault (behind rule.set_option) rule.set_option below z
    (NoReading (length v))) (sym n.same) (set_word_here below n.span v h))

set_name_here : (below : ℕ) (s t : Span) (v : List Token) (fault : Fault)
    → IsFault (behind rule.name_or_binary) rule.name_or_binary below v fault
    → IsFault (behind rule.set_option) rule.set_option below
    (record { span = s; kind = Word (codes "character") }
    ∷ record { span = t; kind = Word (codes "set") } ∷ v) fault
unfolding behind keyword_of is_intro is_called
set_name_here below s t v fault o =
    is_fault (take_token language sound (take_token language sound
    (choose language sound (sees_next language sound _)) refl) refl) o refl refl (omega arith)

pub set_name_missed : {below : ℕ} {tokens u v : List Token} {fault : Fault}
    → IsNext (Word (codes "character")) tokens u → IsNext (Word (codes "set")) u v
    → IsFault (behind rule.name_or_binary) rule.name_or_binary below v fault
    → IsFault (behind rule.set_option) rule.set_option below tokens fault
set_name_missed {below = below} {v = v} {fault = fault} n m o =
    subst (λ (z : List Token). IsFault (behind rule.set_option) rule.set_option below z fault)
    (sym (n.same ∙ ap (λ (z : List Token). record { span = n.span; kind = Word (codes "character") }
    ∷ z) m.same))
    (set_name_here below n.span m.span v fault o)

-- CAST

pub cast_operand : {below : ℕ} {tokens v w : List Token} {x : Found}
    → IsInCall (codes "cast") below 2 (rule.cast_char_call ∷ rule.cast_binary_call ∷ []) [] tokens v
    → IsOperandAt false rule.or below v w x
    → IsInCall (codes "cast") below 3 (rule.cast_char_call ∷ rule.cast_binary_call ∷ [])
    (operand (as_operand x) ∷ []) tokens w
unfolding behind behind_at keyword_of is_intro is_called
cast_operand p o = in_rule p o.done refl refl

pub cast_missed : {below : ℕ} {tokens v : List Token} {fault : Fault}
    → IsInCall (codes "cast") below 2 (rule.cast_char_call ∷ rule.cast_binary_call ∷ []) [] tokens v
    → IsFault (behind_at false rule.or) rule.or below v fault → IsCallFault below tokens fault
unfolding behind behind_at keyword_of is_intro is_called
cast_missed p o = in_fault p o refl refl

pub as_missed : {below : ℕ} {tokens v : List Token} {x : Operand} {left : ℕ}
    → IsTrue (is_missing (word (codes "as")) v) → left ≡ length v
    → IsInCall (codes "cast") below 3 (rule.cast_char_call ∷ rule.cast_binary_call ∷ [])
    (operand x ∷ []) tokens v
    → IsCallFault below tokens (NoReading left)
unfolding behind behind_at keyword_of is_intro is_called
as_missed h e p = in_missed (word (codes "as") ∷ []) p (both_missing _ _ h refl) refl e

pub target_missed : {below : ℕ} {tokens v w : List Token} {x : Operand} {left : ℕ}
    → IsNext (Word (codes "as")) v w → IsTrue (is_missing (word (codes "char")) w)
    → IsTrue (is_missing (word (codes "binary")) w) → left ≡ length w
    → IsInCall (codes "cast") below 3 (rule.cast_char_call ∷ rule.cast_binary_call ∷ [])
    (operand x ∷ []) tokens v
    → IsCallFault below tokens (NoReading left)
unfolding behind behind_at keyword_of is_intro is_called
target_missed n h k e p =
    in_missed (word (codes "char") ∷ word (codes "binary") ∷ []) (in_token p n refl refl)
    (both_missing _ _ h (both_missing _ _ k refl)) refl e

pub char_read : {below : ℕ} {tokens v w u r q : List Token} {x : Operand} {set : Option (List ℕ)}
    {span : Span}
    → IsNext (Word (codes "as")) v w → IsNext (Word (codes "char")) w u → HasSet below u r set
    → IsClosed tokens r q span
    → IsInCall (codes "cast") below 3 (rule.cast_char_call ∷ rule.cast_binary_call ∷ [])
    (operand x ∷ []) tokens v
    → IsCallRead below tokens q span (form.CastChar x.expr set)
unfolding behind behind_at keyword_of is_intro is_called
char_read n m o c p =
    in_closed (in_rule (in_token (in_next {bs = rule.cast_char_call ∷ []} (in_token p n refl refl) m
    refl) m refl refl) o refl refl) c (λ s. refl) refl (λ e s t u. refl)

pub char_set_missed : {below : ℕ} {tokens v w u : List Token} {x : Operand} {fault : Fault}
    → IsNext (Word (codes "as")) v w → IsNext (Word (codes "char")) w u
    → IsFault (behind rule.set_option) rule.set_option below u fault
    → IsInCall (codes "cast") below 3 (rule.cast_char_call ∷ rule.cast_binary_call ∷ [])
    (operand x ∷ []) tokens v
    → IsCallFault below tokens fault
unfolding behind behind_at keyword_of is_intro is_called
char_set_missed n m o p =
    in_fault (in_token (in_next {bs = rule.cast_char_call ∷ []} (in_token p n refl refl) m refl) m
    refl refl) o refl refl

pub char_unclosed : {below : ℕ} {tokens v w u r : List Token} {x : Operand}
    {set : Option (List ℕ)} {fault : Fault}
    → IsNext (Word (codes "as")) v w → IsNext (Word (codes "char")) w u → HasSet below u r set
    → IsUnclosed r fault
    → IsInCall (codes "cast") below 3 (rule.cast_char_call ∷ rule.cast_binary_call ∷ [])
    (operand x ∷ []) tokens v
    → IsCallFault below tokens fault
unfolding behind behind_at keyword_of is_intro is_called
char_unclosed n m o u p =
    in_unclosed (in_rule (in_token (in_next {bs = rule.cast_char_call ∷ []}
    (in_token p n refl refl) m refl) m refl refl) o refl refl) u refl

pub binary_read : {below : ℕ} {tokens v w u q : List Token} {x : Operand} {span : Span}
    → IsNext (Word (codes "as")) v w → IsNext (Word (codes "binary")) w u → IsClosed tokens u q span
    → IsInCall (codes "cast") below 3 (rule.cast_char_call ∷ rule.cast_binary_call ∷ [])
    (operand x ∷ []) tokens v
    → IsCallRead below tokens q span (form.CastBinary x.expr)
unfolding behind behind_at keyword_of is_intro is_called
binary_read n m c p =
    in_closed (in_token (in_next {bs = rule.cast_binary_call ∷ []} (in_token p n refl refl) m refl)
    m refl refl) c (λ s. refl) refl (λ e s t u. refl)

pub binary_unclosed : {below : ℕ} {tokens v w u : List Token} {x : Operand} {fault : Fault}
    → IsNext (Word (codes "as")) v w → IsNext (Word (codes "binary")) w u → IsUnclosed u fault
    → IsInCall (codes "cast") below 3 (rule.cast_char_call ∷ rule.cast_binary_call ∷ [])
    (operand x ∷ []) tokens v
    → IsCallFault below tokens fault
unfolding behind behind_at keyword_of is_intro is_called
binary_unclosed n m u p =
    in_unclosed (in_token (in_next {bs = rule.cast_binary_call ∷ []} (in_token p n refl refl) m
    refl) m refl refl) u refl
