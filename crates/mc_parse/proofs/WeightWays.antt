-- The ways through the functions that read WEIGHT_STRING.
use Rattle.std.proofs.Common.{◌≡◌, refl, sym, ap, ◌∙◌, subst, ℕ, ℤ, suc, false, List, [], ◌∷◌, drop}
use Rattle.std.proofs.Common.{IsTrue, Option, Some, None, length, arith, codes}
use Rattle.mc_base.specs.declared.span.Span.{Span}
use Rattle.mc_token.specs.Keywords.{keyword_of}
use Rattle.mc_token.specs.declared.lexeme.Lexeme.TheVariants.{Word, Sym, Int}
use Rattle.mc_token.specs.declared.lexeme.Symbol.TheVariants.{LeftParen, RightParen, Comma}
use Rattle.mc_token.specs.declared.lexeme.Token.{Token}
use Rattle.mc_grammar.specs.Places.{Inside}
use Rattle.mc_grammar.proofs.Seeing.{sees_next}
use Rattle.mc_grammar.proofs.Ways.{choose, look, take_token, widen}
use Rattle.mc_sql.specs.Classes.{word, mark, int, is_intro, is_called}
use Rattle.mc_sql.specs.Rules.{Alternative, char_cut, binary_cut}
use Rattle.mc_sql.specs.Rules as rule
use Rattle.mc_ast.specs.declared.expr.Form.TheVariants as form
use Rattle.mc_ast.specs.declared.operators.Cut.{Cut}
use Rattle.mc_ast.specs.Values.{Operand, a_token, operand}
use Rattle.mc_parse.specs.declared.call_weight.CutUnit.{CutUnit}
use Rattle.mc_parse.specs.declared.call_weight.CutUnit.TheVariants.{Chars, Bytes}
use Rattle.mc_parse.specs.declared.fault.Fault.{Fault}
use Rattle.mc_parse.specs.declared.fault.Fault.TheVariants.{NoReading, TooDeep}
use Rattle.mc_parse.specs.declared.operand.Operand.{Operand as Found}
use Rattle.mc_parse.specs.Language.{language, at, behind, behind_at}
use Rattle.mc_parse.specs.Place.{is_missing, IsNext}
use Rattle.mc_parse.specs.Read.{IsFault, as_operand, IsOperandAt}
use Rattle.mc_parse.specs.Calls.{IsInCall, IsCallRead, IsCallFault, IsClosed, IsUnclosed}
use Rattle.mc_parse.specs.Cuts.{cut_in, unit_word, IsCutWord, HasCut}
use Rattle.mc_parse.proofs.Ways.{sound, both_missing, sees_missing, is_read, is_missed}
use Rattle.mc_parse.proofs.Ways.{is_barred_here}
use Rattle.mc_parse.proofs.CallSteps.{in_rule, in_next, in_missing, in_fault, in_closed}
use Rattle.mc_parse.proofs.CallSteps.{in_unclosed}

-- The option

-- Its tokens up to the word behind AS, and its `(`.
abbrev cut_begun : CutUnit → Span → Span → List Token → List Token
cut_begun unit s t v =
    record { span = s; kind = Word (codes "as") } ∷ record
    { span = t; kind = Word (unit_word unit) } ∷ v

abbrev opened : Span → List Token → List Token
opened s v = record { span = s; kind = Sym LeftParen } ∷ v

-- The alternative that the word tells.
abbrev unit_cut : CutUnit → Alternative
unit_cut Chars = char_cut
unit_cut Bytes = binary_cut

-- The option is read up to the word.
abbrev InCut : CutUnit → ℕ → Span → Span → List Token → Type 0
InCut unit below s t v =
    Inside language (behind rule.cut_option) 1 (at below rule.cut_option)
    (record {
      alternative = record { what = unit_cut unit; room = suc below };
      left = drop 2 (language.grammar.symbols (record { what = unit_cut unit; room = suc below }));
    } ∷ [])
    (a_token (record { span = s; kind = Word (codes "as") })
    ∷ a_token (record { span = t; kind = Word (unit_word unit) }) ∷ [])
    (cut_begun unit s t v) (cut_begun unit s t []) v

in_cut : (unit : CutUnit) (below : ℕ) (s t : Span) (v : List Token) → InCut unit below s t v
unfolding behind keyword_of is_intro is_called
in_cut Chars below s t v =
    widen language sound (take_token language sound (look language sound (take_token language sound
    (choose language sound (sees_next language sound _)) refl) (sees_next language sound _)) refl)
    (omega arith)
in_cut Bytes below s t v =
    widen language sound (take_token language sound (look language sound (take_token language sound
    (choose language sound (sees_next language sound _)) refl) (sees_next language sound _)) refl)
    (omega arith)

cut_here : (unit : CutUnit) (inner : ℕ) (s t o n c : Span) (k : ℤ) (v : List Token)
    → HasCut (suc inner) (cut_begun unit s t (opened o (record { span = n; kind = Int k }
    ∷ record { span = c; kind = Sym RightParen } ∷ v))) v (Some (cut_in unit k))
unfolding behind keyword_of is_intro is_called
cut_here Chars inner s t o n c k v =
    (is_read (widen language sound (take_token language sound (take_token language sound
    (take_token language sound (in_cut Chars (suc inner) s t (opened o
    (record { span = n; kind = Int k } ∷ record { span = c; kind = Sym RightParen } ∷ v))) refl)
    refl) refl) (omega arith)) refl).done
cut_here Bytes inner s t o n c k v =
    (is_read (widen language sound (take_token language sound (take_token language sound
    (take_token language sound (in_cut Bytes (suc inner) s t (opened o
    (record { span = n; kind = Int k } ∷ record { span = c; kind = Sym RightParen } ∷ v))) refl)
    refl) refl) (omega arith)) refl).done

unopened_here : (unit : CutUnit) (below : ℕ) (s t : Span) (v : List Token)
    → IsTrue (is_missing (mark LeftParen) v)
    → IsFault (behind rule.cut_option) rule.cut_option below (cut_begun unit s t v)
    (NoReading (length v))
unfolding behind keyword_of is_intro is_called
unopened_here Chars below s t v h =
    is_missed (in_cut Chars below s t v)
    (sees_missing (mark LeftParen ∷ []) v (both_missing _ _ h refl)) refl (omega arith)
unopened_here Bytes below s t v h =
    is_missed (in_cut Bytes below s t v)
    (sees_missing (mark LeftParen ∷ []) v (both_missing _ _ h refl)) refl (omega arith)

deep_here : (unit : CutUnit) (s t o : Span) (v : List Token)
    → IsFault (behind rule.cut_option) rule.cut_option 0 (cut_begun unit s t (opened o v))
    (TooDeep (length (opened o v)))
unfolding behind keyword_of is_intro is_called
deep_here Chars s t o v = is_barred_here (in_cut Chars 0 s t (opened o v)) refl (omega arith)
deep_here Bytes s t o v = is_barred_here (in_cut Bytes 0 s t (opened o v)) refl (omega arith)

numberless_here : (unit : CutUnit) (inner : ℕ) (s t o : Span) (v : List Token)
    → IsTrue (is_missing int v)
    → IsFault (behind rule.cut_option) rule.cut_option (suc inner) (cut_begun unit s t (opened o v))
    (NoReading (length v))
unfolding behind keyword_of is_intro is_called
numberless_here Chars inner s t o v h =
    is_missed (take_token language sound (in_cut Chars (suc inner) s t (opened o v)) refl)
    (sees_missing (int ∷ []) v (both_missing _ _ h refl)) refl (omega arith)
numberless_here Bytes inner s t o v h =
    is_missed (take_token language sound (in_cut Bytes (suc inner) s t (opened o v)) refl)
    (sees_missing (int ∷ []) v (both_missing _ _ h refl)) refl (omega arith)

unclosed_here : (unit : CutUnit) (inner : ℕ) (s t o n : Span) (k : ℤ) (v : List Token)
    → IsTrue (is_missing (mark RightParen) v)
    → IsFault (behind rule.cut_option) rule.cut_option (suc inner)
    (cut_begun unit s t (opened o (record { span = n; kind = Int k } ∷ v))) (NoReading (length v))
unfolding behind keyword_of is_intro is_called
unclosed_here Chars inner s t o n k v h =
    is_missed (take_token language sound (take_token language sound
    (in_cut Chars (suc inner) s t _) refl) refl)
    (sees_missing (mark RightParen ∷ []) v (both_missing _ _ h refl)) refl (omega arith)
unclosed_here Bytes inner s t o n k v h =
    is_missed (take_token language sound (take_token language sound
    (in_cut Bytes (suc inner) s t _) refl) refl)
    (sees_missing (mark RightParen ∷ []) v (both_missing _ _ h refl)) refl (omega arith)

-- The same at the place where the option begins.
cut_tokens : {unit : CutUnit} {tokens v : List Token} → (w : IsCutWord unit tokens v)
    → cut_begun unit w.begins.span w.says.span v ≡ tokens
cut_tokens w =
    sym (w.begins.same ∙ ap (λ (z : List Token).
    record { span = w.begins.span; kind = Word (codes "as") } ∷ z) w.says.same)

opened_tokens : {unit : CutUnit} {tokens v u : List Token} → (w : IsCutWord unit tokens v)
    → (o : IsNext (Sym LeftParen) v u)
    → cut_begun unit w.begins.span w.says.span (opened o.span u) ≡ tokens
opened_tokens {unit = unit} w o =
    sym (ap (λ (z : List Token). cut_begun unit w.begins.span w.says.span z) o.same)
    ∙ cut_tokens w

pub cut_read : {unit : CutUnit} {below : ℕ} {tokens v u r rest : List Token} {k number : ℤ}
    {c : Cut}
    → (inner : ℕ) → below ≡ suc inner → IsCutWord unit tokens v → IsNext (Sym LeftParen) v u
    → IsNext (Int k) u r → IsNext (Sym RightParen) r rest → number ≡ k → c ≡ cut_in unit number
    → HasCut below tokens rest (Some c)
cut_read {unit = unit} {below = below} {tokens = tokens} {v = v} {u = u} {r = r} {rest = rest}
    {k = k} {number = number} {c = c} inner e w o n q is says =
    subst (λ (z : Cut). HasCut below tokens rest (Some z))
    (sym (says ∙ ap (λ (z : ℤ). cut_in unit z) is))
    (subst (λ (b : ℕ). HasCut b tokens rest (Some (cut_in unit k))) (sym e)
    (subst (λ (z : List Token). HasCut (suc inner) z rest (Some (cut_in unit k)))
    (ap (λ (z : List Token). cut_begun unit w.begins.span w.says.span (opened o.span z))
    (sym (n.same ∙ ap (λ (z : List Token). record { span = n.span; kind = Int k } ∷ z) q.same))
    ∙ opened_tokens w o)
    (cut_here unit inner w.begins.span w.says.span o.span n.span q.span k rest)))

pub cut_unopened : {unit : CutUnit} {below left : ℕ} {tokens v : List Token}
    → IsCutWord unit tokens v → IsTrue (is_missing (mark LeftParen) v) → left ≡ length v
    → IsFault (behind rule.cut_option) rule.cut_option below tokens (NoReading left)
cut_unopened {unit = unit} {below = below} {tokens = tokens} {v = v} w h e =
    subst (λ (n : ℕ). IsFault (behind rule.cut_option) rule.cut_option below tokens (NoReading n))
    (sym e)
    (subst (λ (z : List Token). IsFault (behind rule.cut_option) rule.cut_option below z
    (NoReading (length v))) (cut_tokens w)
    (unopened_here unit below w.begins.span w.says.span v h))

pub cut_deep : {unit : CutUnit} {below left : ℕ} {tokens v u : List Token} → below ≡ 0
    → IsCutWord unit tokens v → IsNext (Sym LeftParen) v u → left ≡ length v
    → IsFault (behind rule.cut_option) rule.cut_option below tokens (TooDeep left)
cut_deep {unit = unit} {below = below} {tokens = tokens} {v = v} {u = u} none w o e =
    subst (λ (n : ℕ). IsFault (behind rule.cut_option) rule.cut_option below tokens (TooDeep n))
    (sym (e ∙ ap length o.same))
    (subst (λ (b : ℕ). IsFault (behind rule.cut_option) rule.cut_option b tokens
    (TooDeep (length (opened o.span u)))) (sym none)
    (subst (λ (z : List Token). IsFault (behind rule.cut_option) rule.cut_option 0 z
    (TooDeep (length (opened o.span u)))) (opened_tokens w o)
    (deep_here unit w.begins.span w.says.span o.span u)))

pub cut_numberless : {unit : CutUnit} {below left : ℕ} {tokens v u : List Token} → (inner : ℕ)
    → below ≡ suc inner → IsCutWord unit tokens v → IsNext (Sym LeftParen) v u
    → IsTrue (is_missing int u) → left ≡ length u
    → IsFault (behind rule.cut_option) rule.cut_option below tokens (NoReading left)
cut_numberless {unit = unit} {below = below} {tokens = tokens} {u = u} inner e w o h k =
    subst (λ (n : ℕ). IsFault (behind rule.cut_option) rule.cut_option below tokens (NoReading n))
    (sym k)
    (subst (λ (b : ℕ). IsFault (behind rule.cut_option) rule.cut_option b tokens
    (NoReading (length u))) (sym e)
    (subst (λ (z : List Token). IsFault (behind rule.cut_option) rule.cut_option (suc inner) z
    (NoReading (length u))) (opened_tokens w o)
    (numberless_here unit inner w.begins.span w.says.span o.span u h)))

pub cut_unclosed : {unit : CutUnit} {below left : ℕ} {tokens v u r : List Token} {k : ℤ}
    → (inner : ℕ) → below ≡ suc inner → IsCutWord unit tokens v → IsNext (Sym LeftParen) v u
    → IsNext (Int k) u r → IsTrue (is_missing (mark RightParen) r) → left ≡ length r
    → IsFault (behind rule.cut_option) rule.cut_option below tokens (NoReading left)
cut_unclosed {unit = unit} {below = below} {tokens = tokens} {r = r} {k = k} inner e w o n h l =
    subst (λ (x : ℕ). IsFault (behind rule.cut_option) rule.cut_option below tokens (NoReading x))
    (sym l)
    (subst (λ (b : ℕ). IsFault (behind rule.cut_option) rule.cut_option b tokens
    (NoReading (length r))) (sym e)
    (subst (λ (z : List Token). IsFault (behind rule.cut_option) rule.cut_option (suc inner) z
    (NoReading (length r)))
    (ap (λ (z : List Token). cut_begun unit w.begins.span w.says.span (opened o.span z))
    (sym n.same) ∙ opened_tokens w o)
    (unclosed_here unit inner w.begins.span w.says.span o.span n.span k r h)))

pub cut_none : {below : ℕ} {tokens : List Token} → IsTrue (is_missing (word (codes "as")) tokens)
    → HasCut below tokens tokens None
unfolding behind keyword_of is_intro is_called
cut_none {tokens = tokens} h =
    (is_read (choose language sound
    (sees_missing (word (codes "as") ∷ []) tokens (both_missing _ _ h refl))) refl).done

pub cut_word : {tokens v u : List Token} (unit : CutUnit) → IsNext (Word (codes "as")) tokens v
    → IsNext (Word (unit_word unit)) v u → IsCutWord unit tokens u
cut_word unit n m = record { between = _; begins = n; says = m }

wordless_here : (below : ℕ) (s : Span) (v : List Token)
    → IsTrue (is_missing (word (codes "char")) v) → IsTrue (is_missing (word (codes "binary")) v)
    → IsFault (behind rule.cut_option) rule.cut_option below
    (record { span = s; kind = Word (codes "as") } ∷ v) (NoReading (length v))
unfolding behind keyword_of is_intro is_called
wordless_here below s v h k =
    is_missed (take_token language sound (choose language sound (sees_next language sound _)) refl)
    (sees_missing (word (codes "char") ∷ word (codes "binary") ∷ []) v
    (both_missing _ _ h (both_missing _ _ k refl))) refl (omega arith)

pub cut_wordless : {below left : ℕ} {tokens v : List Token} → IsNext (Word (codes "as")) tokens v
    → IsTrue (is_missing (word (codes "char")) v) → IsTrue (is_missing (word (codes "binary")) v)
    → left ≡ length v
    → IsFault (behind rule.cut_option) rule.cut_option below tokens (NoReading left)
cut_wordless {below = below} {tokens = tokens} {v = v} n h k e =
    subst (λ (x : ℕ). IsFault (behind rule.cut_option) rule.cut_option below tokens (NoReading x))
    (sym e)
    (subst (λ (z : List Token). IsFault (behind rule.cut_option) rule.cut_option below z
    (NoReading (length v))) (sym n.same) (wordless_here below n.span v h k))

-- The call

pub weight_empty : {below : ℕ} {tokens v w : List Token} {span : Span}
    → IsInCall (codes "weight_string") below 2
    (rule.weight_string_call ∷ rule.empty_call ∷ rule.many_call ∷ []) [] tokens v
    → IsClosed tokens v w span → IsCallRead below tokens w span
    (form.Call (codes "weight_string") [])
unfolding behind behind_at keyword_of is_intro is_called
weight_empty p c =
    in_closed (in_next {bs = rule.empty_call ∷ []} p c.next refl) c (λ s. refl) refl
    (λ e s t u. refl)

pub weight_missed : {below : ℕ} {tokens v : List Token} {fault other : Fault}
    → IsInCall (codes "weight_string") below 2
    (rule.weight_string_call ∷ rule.empty_call ∷ rule.many_call ∷ []) [] tokens v
    → IsUnclosed v other → IsFault (behind_at false rule.or) rule.or below v fault
    → IsCallFault below tokens fault
unfolding behind behind_at keyword_of is_intro is_called
weight_missed p u o =
    in_fault (in_missing {bs = rule.weight_string_call ∷ rule.many_call ∷ []} (mark RightParen ∷ [])
    p (both_missing _ _ u.missing refl) refl) o refl refl

pub weight_operand : {below : ℕ} {tokens v w : List Token} {x : Found} {other : Fault}
    → IsInCall (codes "weight_string") below 2
    (rule.weight_string_call ∷ rule.empty_call ∷ rule.many_call ∷ []) [] tokens v
    → IsUnclosed v other → IsOperandAt false rule.or below v w x
    → IsInCall (codes "weight_string") below 3 (rule.weight_string_call ∷ rule.many_call ∷ [])
    (operand (as_operand x) ∷ []) tokens w
unfolding behind behind_at keyword_of is_intro is_called
weight_operand p u o =
    in_rule (in_missing {bs = rule.weight_string_call ∷ rule.many_call ∷ []} (mark RightParen ∷ [])
    p (both_missing _ _ u.missing refl) refl) o.done refl refl

pub weight_many : {below : ℕ} {tokens v w : List Token} {x : Operand}
    → IsInCall (codes "weight_string") below 3 (rule.weight_string_call ∷ rule.many_call ∷ [])
    (operand x ∷ []) tokens v
    → IsNext (Sym Comma) v w
    → IsInCall (codes "weight_string") below 3 (rule.many_call ∷ []) (operand x ∷ []) tokens v
unfolding behind behind_at keyword_of is_intro is_called
weight_many p n = in_next p n refl

pub weight_alone : {below : ℕ} {tokens v : List Token} {x : Operand}
    → IsInCall (codes "weight_string") below 3 (rule.weight_string_call ∷ rule.many_call ∷ [])
    (operand x ∷ []) tokens v
    → IsTrue (is_missing (mark Comma) v)
    → IsInCall (codes "weight_string") below 3 (rule.weight_string_call ∷ [])
    (operand x ∷ []) tokens v
unfolding behind behind_at keyword_of is_intro is_called
weight_alone p h = in_missing (mark Comma ∷ []) p (both_missing _ _ h refl) refl

pub weight_read : {below : ℕ} {tokens v w u : List Token} {x : Operand} {cut : Option Cut}
    {span : Span}
    → HasCut below v w cut → IsClosed tokens w u span
    → IsInCall (codes "weight_string") below 3 (rule.weight_string_call ∷ [])
    (operand x ∷ []) tokens v
    → IsCallRead below tokens u span (form.WeightString x.expr cut)
unfolding behind behind_at keyword_of is_intro is_called
weight_read o c p = in_closed (in_rule p o refl refl) c (λ s. refl) refl (λ e s t u. refl)

pub weight_unclosed : {below : ℕ} {tokens v w : List Token} {x : Operand} {cut : Option Cut}
    {fault : Fault}
    → HasCut below v w cut → IsUnclosed w fault
    → IsInCall (codes "weight_string") below 3 (rule.weight_string_call ∷ [])
    (operand x ∷ []) tokens v
    → IsCallFault below tokens fault
unfolding behind behind_at keyword_of is_intro is_called
weight_unclosed o u p = in_unclosed (in_rule p o refl refl) u refl

pub weight_cut_missed : {below : ℕ} {tokens v : List Token} {x : Operand} {fault : Fault}
    → IsFault (behind rule.cut_option) rule.cut_option below v fault
    → IsInCall (codes "weight_string") below 3 (rule.weight_string_call ∷ [])
    (operand x ∷ []) tokens v
    → IsCallFault below tokens fault
unfolding behind behind_at keyword_of is_intro is_called
weight_cut_missed o p = in_fault p o refl refl
