-- The steps of the ways through the functions that read calls.
use Rattle.std.proofs.Common.{◌≡◌, refl, sym, ap, ◌∙◌, subst, ℕ, suc, ◌+◌, ◌≤◌, Bool, not, List, []}
use Rattle.std.proofs.Common.{◌∷◌, ◌++◌, IsTrue, Option, length, arith}
use Rattle.std.specs.List.{list_any}
use Rattle.mc_base.specs.declared.span.Span.{Span}
use Rattle.mc_token.specs.declared.lexeme.Lexeme.{Lexeme}
use Rattle.mc_token.specs.declared.lexeme.Lexeme.TheVariants.{Word, Sym}
use Rattle.mc_token.specs.declared.lexeme.Symbol.TheVariants.{LeftParen, RightParen}
use Rattle.mc_token.specs.declared.lexeme.Token.{Token}
use Rattle.mc_grammar.specs.Grammar.{rule}
use Rattle.mc_grammar.specs.Ahead.{Ahead, every, is_within_next}
use Rattle.mc_grammar.specs.Places.{Place, behind_next, before, all_pass, all_out, kept, is_next}
use Rattle.mc_grammar.specs.Places.{is_met, Sees, Inside, Done}
use Rattle.mc_grammar.specs.Room.{Roomed, Admitted}
use Rattle.mc_grammar.proofs.Seeing.{sees_next}
use Rattle.mc_grammar.proofs.Inside.{read}
use Rattle.mc_grammar.proofs.Ways.{take_token, look, widen}
use Rattle.mc_sql.specs.Classes.{Class, mark}
use Rattle.mc_sql.specs.Rules.{Rule, Alternative, call}
use Rattle.mc_ast.specs.Grouping.{whole}
use Rattle.mc_ast.specs.Meaning.{meaning}
use Rattle.mc_ast.specs.Spans.{from_to, span_from, span_of}
use Rattle.mc_ast.specs.Values.{Value, Operand, a_token, operand}
use Rattle.mc_ast.specs.declared.expr.Form.{Form}
use Rattle.mc_parse.specs.declared.fault.Fault.{Fault}
use Rattle.mc_parse.specs.declared.fault.Fault.TheVariants.{NoReading}
use Rattle.mc_parse.specs.declared.operand.Operand.{Operand as Found}
use Rattle.mc_parse.specs.Language.{language, at, behind}
use Rattle.mc_parse.specs.Place.{are_missing, span_at, IsNext}
use Rattle.mc_parse.specs.Read.{IsRead, IsFault, as_operand, IsOperand}
use Rattle.mc_parse.specs.Calls.{call_places, IsInCall, IsCallRead, IsCallFault, IsClosed}
use Rattle.mc_parse.specs.Calls.{IsUnclosed}
use Rattle.mc_parse.proofs.Ways.{sound, let_in, both_missing, sees_missing, is_read, is_fault}
use Rattle.mc_parse.proofs.Ways.{is_missed}

-- What is let through where none of the classes is next.
abbrev pub none_of : List Class → Option (Admitted Class) → Bool
none_of ks k = not (list_any (λ o. is_within_next language.tables.is_within k o) (let_in ks))

-- The next token is taken.
pub in_token : {name : List ℕ} {below taken : ℕ} {as' : List Alternative} {vs : List Value}
    {tokens rest v : List Token} {x : Lexeme} → IsInCall name below taken as' vs tokens rest
    → (n : IsNext x rest v)
    → IsTrue (every (λ p. is_next language (language.bound (record { span = n.span; kind = x }))
    p.left)
    (call_places below taken as'))
    → behind_next (call_places below taken as') ≡ call_places below (suc taken) as'
    → IsInCall name below (suc taken) as'
    (vs ++ (a_token (record { span = n.span; kind = x }) ∷ []))
    tokens v
in_token {name = name} {below = below} {taken = taken} {as' = as'} {vs = vs} {tokens = tokens}
    {v = v} {x = x} p n h e = record {
      first = p.first;
      second = p.second;
      others = p.others ++ (record { span = n.span; kind = x } ∷ []);
      inside = subst (λ (ps : List (Place (Admitted Class) (Roomed Rule) (Roomed Alternative))).
          Inside language (behind call) 1 (at (suc below) call) ps
          (a_token (record { span = p.first; kind = Word name })
          ∷ a_token (record { span = p.second; kind = Sym LeftParen })
          ∷ (vs ++ (a_token (record { span = n.span; kind = x }) ∷ []))) tokens
          (record { span = p.first; kind = Word name } ∷ record
          { span = p.second; kind = Sym LeftParen }
          ∷ (p.others ++ (record { span = n.span; kind = x } ∷ []))) v) e
          (widen language sound (take_token language sound
          (subst (λ (r : List Token). Inside language (behind call) 1 (at (suc below) call)
          (call_places below taken as')
          (a_token (record { span = p.first; kind = Word name })
          ∷ a_token (record { span = p.second; kind = Sym LeftParen }) ∷ vs) tokens
          (record { span = p.first; kind = Word name } ∷ record
          { span = p.second; kind = Sym LeftParen }
          ∷ p.others) r) n.same p.inside) h) (omega arith));
    }

-- A rule is read that all places want next.
pub in_rule : {name : List ℕ} {below taken : ℕ} {as' : List Alternative} {vs : List Value}
    {tokens rest v : List Token} {after : Ahead (Admitted Class)} {q : Rule} {below' : ℕ}
    {value : Value} → IsInCall name below taken as' vs tokens rest
    → Done language after 1 (at below' q) rest v value
    → call_places below taken as' ≡ before (rule (at below' q)) (call_places below (suc taken) as')
    → IsTrue (all_pass language (behind call) (call_places below (suc taken) as') after)
    → IsInCall name below (suc taken) as' (vs ++ (value ∷ [])) tokens v
in_rule p o e h = record {
  first = p.first;
  second = p.second;
  others = p.others ++ o.front;
  inside = read language sound _ _ _ _ _ _ _ _ _ _ _ _ _ _ p.inside e h o (omega arith);
}

-- The next token is known, and only these alternatives want it.
pub in_next : {name : List ℕ} {below taken : ℕ} {as' bs : List Alternative} {vs : List Value}
    {tokens rest v : List Token} {x : Lexeme} → IsInCall name below taken as' vs tokens rest
    → (n : IsNext x rest v)
    → kept language (λ k. is_met language k (record { span = n.span; kind = x } ∷ v)) (behind call)
    (call_places below taken as') ≡ call_places below taken bs
    → IsInCall name below taken bs vs tokens rest
in_next {name = name} {below = below} {taken = taken} {vs = vs} {tokens = tokens} {rest = rest}
    {v = v} {x = x} p n e = record {
      first = p.first;
      second = p.second;
      others = p.others;
      inside = subst (λ (ps : List (Place (Admitted Class) (Roomed Rule) (Roomed Alternative))).
          Inside language (behind call) 1 (at (suc below) call) ps
          (a_token (record { span = p.first; kind = Word name })
          ∷ a_token (record { span = p.second; kind = Sym LeftParen }) ∷ vs) tokens
          (record { span = p.first; kind = Word name } ∷ record
          { span = p.second; kind = Sym LeftParen }
          ∷ p.others) rest) e
          (look language sound p.inside
          (subst (λ (r : List Token). Sees language 1 r
          (λ k. is_met language k (record { span = n.span; kind = x } ∷ v))) (sym n.same)
          (sees_next language sound (record { span = n.span; kind = x } ∷ v))));
    }

-- None of the classes is next, and only these alternatives want another.
pub in_missing : {name : List ℕ} {below taken : ℕ} {as' bs : List Alternative} {vs : List Value}
    {tokens rest : List Token} (ks : List Class) → IsInCall name below taken as' vs tokens rest
    → IsTrue (are_missing ks rest)
    → kept language (λ k. none_of ks k) (behind call) (call_places below taken as')
    ≡ call_places below taken bs
    → IsInCall name below taken bs vs tokens rest
in_missing {name = name} {below = below} {taken = taken} {vs = vs} {tokens = tokens} {rest = rest}
    ks p h e = record {
      first = p.first;
      second = p.second;
      others = p.others;
      inside = subst (λ (ps : List (Place (Admitted Class) (Roomed Rule) (Roomed Alternative))).
          Inside language (behind call) 1 (at (suc below) call) ps
          (a_token (record { span = p.first; kind = Word name })
          ∷ a_token (record { span = p.second; kind = Sym LeftParen }) ∷ vs) tokens
          (record { span = p.first; kind = Word name } ∷ record
          { span = p.second; kind = Sym LeftParen }
          ∷ p.others) rest) e
          (look language sound p.inside (sees_missing ks rest h));
    }

-- A rule that all places want next is not read.
pub in_fault : {name : List ℕ} {below taken : ℕ} {a : Alternative} {as' : List Alternative}
    {vs : List Value} {tokens rest : List Token} {after : Ahead (Admitted Class)} {q : Rule}
    {below' : ℕ} {fault : Fault} → IsInCall name below taken (a ∷ as') vs tokens rest
    → IsFault after q below' rest fault
    → call_places below taken (a ∷ as')
    ≡ before (rule (at below' q)) (behind_next (call_places below taken (a ∷ as')))
    → IsTrue (all_pass language (behind call) (behind_next (call_places below taken (a ∷ as')))
    after)
    → IsCallFault below tokens fault
in_fault p o e h = is_fault p.inside o e h (omega arith)

-- No place wants the next token.
pub in_missed : {name : List ℕ} {below taken : ℕ} {a : Alternative} {as' : List Alternative}
    {vs : List Value} {tokens rest : List Token} {left : ℕ} (ks : List Class)
    → IsInCall name below taken (a ∷ as') vs tokens rest → IsTrue (are_missing ks rest)
    → IsTrue (all_out language (λ k. none_of ks k) (behind call)
    (call_places below taken (a ∷ as')))
    → left ≡ length rest → IsCallFault below tokens (NoReading left)
in_missed {below = below} {tokens = tokens} {rest = rest} ks p h k e =
    subst (λ (n : ℕ). IsCallFault below tokens (NoReading n)) (sym e)
    (is_missed p.inside (sees_missing ks rest h) k (omega arith))

-- The `)` is missing.
pub in_unclosed : {name : List ℕ} {below taken : ℕ} {a : Alternative} {as' : List Alternative}
    {vs : List Value} {tokens rest : List Token} {fault : Fault}
    → IsInCall name below taken (a ∷ as') vs tokens rest → IsUnclosed rest fault
    → IsTrue (all_out language (λ k. none_of (mark RightParen ∷ []) k) (behind call)
    (call_places below taken (a ∷ as')))
    → IsCallFault below tokens fault
in_unclosed {below = below} {tokens = tokens} p u k =
    subst (λ (f : Fault). IsCallFault below tokens f) (sym u.says)
    (in_missed (mark RightParen ∷ []) p (both_missing _ _ u.missing refl) k refl)

-- The last token of some ends them.
ends : (s : Span) (f : List Token) (t : Token)
    → (span_from s (f ++ (t ∷ []))).end ≡ t.span.end
ends s [] t = refl
ends s (u ∷ f) t = ends u.span f t

span_around : (t u : Token) (f : List Token) (w : Token)
    → from_to t.span w.span ≡ span_of (t ∷ u ∷ (f ++ (w ∷ [])))
span_around t u f w =
    ap (λ (e : ℕ). record { start = t.span.start; end = e }) (sym (ends u.span f w))

first_of_call : {name : List ℕ} {below taken : ℕ} {as' : List Alternative} {vs : List Value}
    {tokens rest : List Token} → (p : IsInCall name below taken as' vs tokens rest)
    → span_at tokens ≡ p.first
first_of_call p = ap span_at p.inside.split

-- The `)` is read, and the call with it.
pub in_closed : {name : List ℕ} {below taken : ℕ} {a : Alternative} {vs : List Value}
    {tokens rest v : List Token} {span : Span} {form : Form}
    → IsInCall name below taken (a ∷ []) vs tokens rest
    → IsClosed tokens rest v span
    → ((s : Span) → IsTrue (every (λ p. is_next language
    (language.bound (record { span = s; kind = Sym RightParen })) p.left)
    (call_places below taken (a ∷ []))))
    → behind_next (call_places below taken (a ∷ []))
    ≡ record { alternative = record { what = a; room = suc (suc below) }; left = [] } ∷ []
    → ((e first second last : Span) → meaning a e
    (a_token (record { span = first; kind = Word name })
    ∷ a_token (record { span = second; kind = Sym LeftParen })
    ∷ (vs ++ (a_token (record { span = last; kind = Sym RightParen }) ∷ []))) ≡ operand
    (whole e form))
    → IsCallRead below tokens v span form
in_closed {name = name} {below = below} {taken = taken} {a = a} {vs = vs} {tokens = tokens}
    {rest = rest} {v = v} {span = span} {form = form} p c h e means =
    subst (λ (s : Span). IsCallRead below tokens v s form)
    (sym (c.whole ∙ ap (λ (s : Span). from_to s (span_at rest)) (first_of_call p)
    ∙ ap (λ (r : List Token). from_to p.first (span_at r)) c.next.same))
    (subst (λ (z : Value). IsRead (behind call) 1 call (suc below) tokens v z
    (from_to p.first c.next.span))
    (ap (λ (s : Span). meaning a s (a_token (record { span = p.first; kind = Word name })
    ∷ a_token (record { span = p.second; kind = Sym LeftParen })
    ∷ (vs ++ (a_token (record { span = c.next.span; kind = Sym RightParen }) ∷ [])))) (sym around)
    ∙ means (from_to p.first c.next.span) p.first p.second c.next.span)
    (is_read inside around))
  where
    around : from_to p.first c.next.span
        ≡ span_of (record { span = p.first; kind = Word name }
        ∷ record { span = p.second; kind = Sym LeftParen }
        ∷ (p.others ++ (record { span = c.next.span; kind = Sym RightParen } ∷ [])))
    around = span_around (record { span = p.first; kind = Word name })
        (record { span = p.second; kind = Sym LeftParen }) p.others
        (record { span = c.next.span; kind = Sym RightParen })

    inside : Inside language (behind call) 1 (at (suc below) call)
        (record { alternative = record { what = a; room = suc (suc below) }; left = [] } ∷ [])
        (a_token (record { span = p.first; kind = Word name })
        ∷ a_token (record { span = p.second; kind = Sym LeftParen })
        ∷ (vs ++ (a_token (record { span = c.next.span; kind = Sym RightParen }) ∷ [])))
        tokens
        (record { span = p.first; kind = Word name }
        ∷ record { span = p.second; kind = Sym LeftParen }
        ∷ (p.others ++ (record { span = c.next.span; kind = Sym RightParen } ∷ []))) v
    inside = subst (λ (ps : List (Place (Admitted Class) (Roomed Rule) (Roomed Alternative))).
        Inside language (behind call) 1 (at (suc below) call) ps
        (a_token (record { span = p.first; kind = Word name })
        ∷ a_token (record { span = p.second; kind = Sym LeftParen })
        ∷ (vs ++ (a_token (record { span = c.next.span; kind = Sym RightParen }) ∷ [])))
        tokens
        (record { span = p.first; kind = Word name }
        ∷ record { span = p.second; kind = Sym LeftParen }
        ∷ (p.others ++ (record { span = c.next.span; kind = Sym RightParen } ∷ []))) v) e
        (widen language sound (take_token language sound
        (subst (λ (r : List Token). Inside language (behind call) 1 (at (suc below) call)
        (call_places below taken (a ∷ []))
        (a_token (record { span = p.first; kind = Word name })
        ∷ a_token (record { span = p.second; kind = Sym LeftParen }) ∷ vs) tokens
        (record { span = p.first; kind = Word name }
        ∷ record { span = p.second; kind = Sym LeftParen } ∷ p.others) r)
        c.next.same p.inside) (h c.next.span)) (omega arith))

-- A call that is read is this operand.
pub call_found : {below : ℕ} {tokens rest : List Token} {span : Span} {form : Form} (x : Found)
    → IsCallRead below tokens rest span form → as_operand x ≡ whole span form
    → IsOperand call (suc below) tokens rest x
call_found {below = below} {tokens = tokens} {rest = rest} x p h =
    subst (λ (z : Operand). IsRead (behind call) 1 call (suc below) tokens rest
    (operand z) z.extent)
    (sym h) p
