-- The ways through the functions that read what is said of a sum.
use Rattle.std.proofs.Common.{◌≡◌, refl, sym, ap, ◌∙◌, subst, inl, inr, ℕ, zero, suc, ◌+◌, ◌<◌, ◌≤◌}
use Rattle.std.proofs.Common.{Bool, true, false, not, ◌&&◌, List, [], ◌∷◌, ◌++◌, IsTrue, length}
use Rattle.std.proofs.Common.{Some, arith, codes}
use Rattle.mc_base.specs.declared.span.Span.{Span}
use Rattle.mc_token.specs.declared.lexeme.Lexeme.TheVariants as lexeme
use Rattle.mc_token.specs.declared.lexeme.Symbol.TheVariants as sign
use Rattle.mc_token.specs.declared.lexeme.Token.{Token}
use Rattle.mc_token.specs.Keywords.{keyword_of}
use Rattle.mc_grammar.specs.Grammar.{Symbol, one, rule as a_rule}
use Rattle.mc_grammar.specs.Ahead.{Ahead, every}
use Rattle.mc_grammar.specs.Places.{Place, behind_next, entries, all_pass, all_out, is_next}
use Rattle.mc_grammar.specs.Places.{is_barred, Inside, Done}
use Rattle.mc_grammar.specs.Room.{Roomed, Admitted, with_room}
use Rattle.mc_grammar.proofs.Seeing.{sees_next}
use Rattle.mc_grammar.proofs.Inside.{enter}
use Rattle.mc_grammar.proofs.Ways.{choose, look, take_token, read_rule, widen, finish}
use Rattle.mc_sql.specs.Classes.{Class, word, mark, is_intro, is_called, is_lexeme_of}
use Rattle.mc_sql.specs.Rules as rule
use Rattle.mc_ast.specs.declared.operators.CmpOp.{CmpOp}
use Rattle.mc_ast.specs.declared.operators.CmpOp.TheVariants as cmp
use Rattle.mc_ast.specs.declared.expr.Form.TheVariants.{Compare, IsNull, Like, In, Between}
use Rattle.mc_ast.specs.Grouping.{whole}
use Rattle.mc_ast.specs.Meaning.{meaning}
use Rattle.mc_ast.specs.Spans.{from_to, span_from, span_of}
use Rattle.mc_ast.specs.Values.{Value, Operand, operand, flag, comparison, a_token}
use Rattle.mc_parse.specs.declared.fault.Fault.{Fault}
use Rattle.mc_parse.specs.declared.fault.Fault.TheVariants.{NoReading, TooDeep}
use Rattle.mc_parse.specs.declared.operand.Operand.{Operand as Found}
use Rattle.mc_parse.specs.Comparisons.{comparison_signs, said_signs, IsComparison}
use Rattle.mc_parse.specs.Language.{language, at, behind, behind_at, look_at}
use Rattle.mc_parse.specs.Place.{is_missing, are_missing, span_at, IsNext}
use Rattle.mc_parse.specs.Read.{IsRead, IsFault, as_operand, IsOperand, IsOperandAt, IsPut}
use Rattle.mc_parse.specs.Said.{IsSaid, IsComparing, IsTesting, IsMatching, IsEscaping, IsListing}
use Rattle.mc_parse.specs.Said.{IsRanging}
use Rattle.mc_parse.proofs.Spans.{span_of-append}
use Rattle.mc_parse.proofs.Ways.{sound, both_missing, sees_missing, is_read, is_fault, is_missed}
use Rattle.mc_parse.proofs.Ways.{is_barred_here, read_takes}
use Rattle.mc_parse.proofs.TruthWays.{look_least}

-- Places with one alternative
abbrev pub place_of : ℕ → rule.Alternative → List (Symbol (Admitted Class) (Roomed rule.Rule))
    → Place (Admitted Class) (Roomed rule.Rule) (Roomed rule.Alternative)
place_of below a left = record { alternative = record { what = a; room = suc below }; left = left }

-- Steps

-- Where the tokens stand, with more of them behind.
pub stands_on : (first last extent : Span) (f h : List Token) → from_to first last ≡ span_of f
    → 1 ≤ length f → extent ≡ span_of h → 1 ≤ length h
    → from_to first extent ≡ span_of (f ++ h)
stands_on first last extent f [] e lt g more = absurd (omega (arith, more))
stands_on first last extent f (u ∷ h) e lt g more =
    ap (λ (x : Span). from_to first x) g
    ∙ ap (λ (x : Span). from_to x (span_of (u ∷ h))) e
    ∙ sym (span_of-append f (u ∷ h) lt)

pub more_of : (f h : List Token) → 1 ≤ length f → 1 ≤ length (f ++ h)
more_of [] h lt = absurd (omega (arith, lt))
more_of (t ∷ f) h lt = omega arith

-- A rule is read.
pub said_rule : {alias : Bool} {below : ℕ} {a : rule.Alternative}
    {left : List (Symbol (Admitted Class) (Roomed rule.Rule))} {vs : List Value}
    {tokens v w : List Token} {first last : Span} {after' : Ahead (Admitted Class)} {q : rule.Rule}
    {m : ℕ} {value : Value} {extent : Span}
    → IsSaid alias below a (a_rule (at m q) ∷ left) vs tokens v first last
    → (o : IsRead after' 1 q m v w value extent)
    → IsTrue (all_pass language (behind_at alias rule.pred) (place_of below a left ∷ []) after')
    → 1 ≤ length o.done.front
    → IsSaid alias below a left (vs ++ (value ∷ [])) tokens w first extent
said_rule {first = first} {last = last} {extent = extent} p o h lt = record {
  front = p.front ++ o.done.front;
  inside = read_rule language sound p.inside o.done refl h (omega arith);
  some = more_of p.front o.done.front p.some;
  stands = stands_on first last extent p.front o.done.front p.stands p.some o.whole lt;
}

-- A token is taken.
pub said_token : {alias : Bool} {below : ℕ} {a : rule.Alternative}
    {left : List (Symbol (Admitted Class) (Roomed rule.Rule))} {vs : List Value}
    {tokens v : List Token} {first last : Span} {k : Admitted Class} (t : Token)
    → IsSaid alias below a (one k ∷ left) vs tokens (t ∷ v) first last
    → IsTrue (every (λ p. is_next language (language.bound t) p.left)
    (place_of below a (one k ∷ left) ∷ []))
    → IsSaid alias below a left (vs ++ (a_token t ∷ [])) tokens v first t.span
said_token {first = first} {last = last} t p h = record {
  front = p.front ++ (t ∷ []);
  inside = widen language sound (take_token language sound p.inside h) (omega arith);
  some = more_of p.front (t ∷ []) p.some;
  stands = stands_on first last t.span p.front (t ∷ []) p.stands p.some refl (omega arith);
}

pub start_kept : (s e : Span) (d : List Token) → from_to (span_from s d) e ≡ from_to s e
start_kept s e [] = refl
start_kept s e (t ∷ d) = refl

ends_token : (first last : Span) (f d : List Token) (t : Token) → from_to first last ≡ span_of f
    → 1 ≤ length f → from_to first t.span ≡ span_of ((f ++ d) ++ (t ∷ []))
ends_token first last f d t e lt =
    ap (λ (x : Span). from_to x t.span) e ∙ sym (start_kept (span_of f) t.span d)
    ∙ ap (λ (x : Span). from_to x t.span) (sym (span_of-append f d lt))
    ∙ sym (span_of-append (f ++ d) (t ∷ []) (more_of f d lt))

-- A rule is read that may be empty, and a token is taken.
pub said_option : {alias : Bool} {below : ℕ} {a : rule.Alternative}
    {left : List (Symbol (Admitted Class) (Roomed rule.Rule))} {vs : List Value}
    {tokens v w : List Token} {first last : Span} {after' : Ahead (Admitted Class)} {q : rule.Rule}
    {m : ℕ} {value : Value} {k : Admitted Class} (t : Token)
    → IsSaid alias below a (a_rule (at m q) ∷ (one k ∷ left)) vs tokens v first last
    → Done language after' 1 (at m q) v (t ∷ w) value
    → IsTrue (all_pass language (behind_at alias rule.pred) (place_of below a (one k ∷ left) ∷ [])
    after')
    → IsTrue (every (λ p. is_next language (language.bound t) p.left)
    (place_of below a (one k ∷ left) ∷ []))
    → IsSaid alias below a left ((vs ++ (value ∷ [])) ++ (a_token t ∷ [])) tokens w first t.span
said_option {first = first} {last = last} t p d h g = record {
  front = (p.front ++ d.front) ++ (t ∷ []);
  inside = widen language sound (take_token language sound
      (read_rule language sound p.inside d refl h (omega arith)) g) (omega arith);
  some = more_of (p.front ++ d.front) (t ∷ []) (more_of p.front d.front p.some);
  stands = ends_token first last p.front d.front t p.stands p.some;
}

-- Nothing is left.
pub said_done : {alias : Bool} {below : ℕ} {a : rule.Alternative} {vs : List Value}
    {tokens w : List Token} {first last : Span}
    → IsSaid alias below a [] vs tokens w first last
    → IsRead (behind_at alias rule.pred) (look_at alias w) rule.pred below tokens w
    (meaning a (from_to first last) vs) (from_to first last)
said_done {alias = alias} {below = below} {a = a} {vs = vs} {tokens = tokens} {w = w}
    {first = first} {last = last} p =
    subst (λ (e : Span). IsRead (behind_at alias rule.pred) (look_at alias w) rule.pred below tokens
    w
    (meaning a e vs) e) (sym p.stands)
    (is_read (widen language sound p.inside (look_least alias w)) refl)

-- A rule is not read.
pub said_fault : {alias : Bool} {below : ℕ} {a : rule.Alternative}
    {left : List (Symbol (Admitted Class) (Roomed rule.Rule))} {vs : List Value}
    {tokens v : List Token} {first last : Span} {after' : Ahead (Admitted Class)} {q : rule.Rule}
    {m : ℕ} {fault : Fault}
    → IsSaid alias below a (a_rule (at m q) ∷ left) vs tokens v first last
    → IsFault after' q m v fault
    → IsTrue (all_pass language (behind_at alias rule.pred) (place_of below a left ∷ []) after')
    → IsFault (behind_at alias rule.pred) rule.pred below tokens fault
said_fault p o h = is_fault p.inside o refl h (omega arith)

-- What is read as an operand, with its form.
pub said_operand : (alias : Bool) {below : ℕ} {tokens w : List Token} {z y : Operand}
    → IsRead (behind_at alias rule.pred) (look_at alias w) rule.pred below tokens w
    (operand z) z.extent
    → y ≡ z
    → IsRead (behind_at alias rule.pred) (look_at alias w) rule.pred below tokens w
    (operand y) y.extent
said_operand alias {below = below} {tokens = tokens} {w = w} p e =
    subst (λ (x : Operand). IsRead (behind_at alias rule.pred)
    (look_at alias w) rule.pred below tokens
    w (operand x) x.extent) (sym e) p

-- Comparisons

compared_pass : (alias : Bool) (below : ℕ)
    → IsTrue (all_pass language (behind_at alias rule.pred)
    (place_of below rule.compared (with_room (suc below) [] []) ∷ []) (behind rule.sum))
unfolding behind behind_at keyword_of is_intro is_called
compared_pass true below = refl
compared_pass false below = refl

pub compared_read : (alias : Bool) (below : ℕ) (op : CmpOp) (tokens v w : List Token)
    (x y z : Found)
    → IsComparing alias below op tokens v x → IsOperand rule.sum below v w y
    → as_operand z ≡ whole (from_to x.extent y.extent) (Compare op x.expr y.expr)
    → IsOperandAt alias rule.pred below tokens w z
compared_read alias below op tokens v w x y z p o h =
    said_operand alias (said_done
    (said_rule p.said o (compared_pass alias below) (read_takes o refl))) h

pub compared_missed : (alias : Bool) (below : ℕ) (op : CmpOp) (tokens v : List Token) (x : Found)
    (fault : Fault) → IsComparing alias below op tokens v x
    → IsFault (behind rule.sum) rule.sum below v fault
    → IsFault (behind_at alias rule.pred) rule.pred below tokens fault
compared_missed alias below op tokens v x fault p o =
    said_fault p.said o (compared_pass alias below)

-- The sum is read, and all may be said of it.
abbrev pub sayings : ℕ → List (Place (Admitted Class) (Roomed rule.Rule) (Roomed rule.Alternative))
sayings below = behind_next (entries language (language.grammar.alternatives (at below rule.pred)))

pub begun : (alias : Bool) (below : ℕ) (tokens v : List Token) (x : Found)
    → (o : IsOperand rule.sum below tokens v x)
    → Inside language (behind_at alias rule.pred) 1 (at below rule.pred) (sayings below)
    (operand (as_operand x) ∷ []) tokens o.done.front v
unfolding behind behind_at keyword_of is_intro is_called
begun true below tokens v x o =
    read_rule language sound (enter language _ _ _) o.done refl refl (omega arith)
begun false below tokens v x o =
    read_rule language sound (enter language _ _ _) o.done refl refl (omega arith)

-- One sign is read as a comparison.
cmp_equal : (below : ℕ) (s : Span) (v : List Token)
    → IsRead (behind rule.cmp) 1 rule.cmp below (record { span = s; kind = lexeme.Sym sign.Eq } ∷ v)
    v (comparison cmp.Eq) s
unfolding behind behind_at keyword_of is_intro is_called
cmp_equal below s v =
    is_read (widen language sound (take_token language sound
    (choose language sound (sees_next language sound _)) refl) (omega arith)) refl

equal_here : (alias : Bool) (below : ℕ) (tokens : List Token) (s : Span) (v : List Token)
    (x : Found)
    → IsOperand rule.sum below tokens (record { span = s; kind = lexeme.Sym sign.Eq } ∷ v) x
    → IsComparing alias below cmp.Eq tokens v x
unfolding behind behind_at keyword_of is_intro is_called
equal_here true below tokens s v x o =
    let c : IsRead (behind rule.cmp) 1 rule.cmp below
    (record { span = s; kind = lexeme.Sym sign.Eq } ∷ v) v (comparison cmp.Eq) s =
    cmp_equal below s v in
    record {
      last = s;
      said = record {
        front = o.done.front ++ c.done.front;
        inside = read_rule language sound (look language sound (begun true below tokens _ x o)
            (sees_next language sound (record { span = s; kind = lexeme.Sym sign.Eq } ∷ v))) c.done
            refl refl (omega arith);
        some = more_of o.done.front c.done.front (read_takes o refl);
        stands = stands_on x.extent x.extent s o.done.front c.done.front o.whole
            (read_takes o refl) c.whole (read_takes c refl);
      };
    }
equal_here false below tokens s v x o =
    let c : IsRead (behind rule.cmp) 1 rule.cmp below
    (record { span = s; kind = lexeme.Sym sign.Eq } ∷ v) v (comparison cmp.Eq) s =
    cmp_equal below s v in
    record {
      last = s;
      said = record {
        front = o.done.front ++ c.done.front;
        inside = read_rule language sound (look language sound (begun false below tokens _ x o)
            (sees_next language sound (record { span = s; kind = lexeme.Sym sign.Eq } ∷ v))) c.done
            refl refl (omega arith);
        some = more_of o.done.front c.done.front (read_takes o refl);
        stands = stands_on x.extent x.extent s o.done.front c.done.front o.whole
            (read_takes o refl) c.whole (read_takes c refl);
      };
    }

cmp_null_equal : (below : ℕ) (s : Span) (v : List Token)
    → IsRead (behind rule.cmp) 1 rule.cmp below
    (record { span = s; kind = lexeme.Sym sign.NullEq } ∷ v) v (comparison cmp.NullEq) s
unfolding behind behind_at keyword_of is_intro is_called
cmp_null_equal below s v =
    is_read (widen language sound (take_token language sound
    (choose language sound (sees_next language sound _)) refl) (omega arith)) refl

null_equal_here : (alias : Bool) (below : ℕ) (tokens : List Token) (s : Span) (v : List Token)
    (x : Found)
    → IsOperand rule.sum below tokens (record { span = s; kind = lexeme.Sym sign.NullEq } ∷ v) x
    → IsComparing alias below cmp.NullEq tokens v x
unfolding behind behind_at keyword_of is_intro is_called
null_equal_here true below tokens s v x o =
    let c : IsRead (behind rule.cmp) 1 rule.cmp below
    (record { span = s; kind = lexeme.Sym sign.NullEq } ∷ v) v (comparison cmp.NullEq) s =
    cmp_null_equal below s v in
    record {
      last = s;
      said = record {
        front = o.done.front ++ c.done.front;
        inside = read_rule language sound (look language sound (begun true below tokens _ x o)
            (sees_next language sound (record { span = s; kind = lexeme.Sym sign.NullEq } ∷ v)))
            c.done refl refl (omega arith);
        some = more_of o.done.front c.done.front (read_takes o refl);
        stands = stands_on x.extent x.extent s o.done.front c.done.front o.whole
            (read_takes o refl) c.whole (read_takes c refl);
      };
    }
null_equal_here false below tokens s v x o =
    let c : IsRead (behind rule.cmp) 1 rule.cmp below
    (record { span = s; kind = lexeme.Sym sign.NullEq } ∷ v) v (comparison cmp.NullEq) s =
    cmp_null_equal below s v in
    record {
      last = s;
      said = record {
        front = o.done.front ++ c.done.front;
        inside = read_rule language sound (look language sound (begun false below tokens _ x o)
            (sees_next language sound (record { span = s; kind = lexeme.Sym sign.NullEq } ∷ v)))
            c.done refl refl (omega arith);
        some = more_of o.done.front c.done.front (read_takes o refl);
        stands = stands_on x.extent x.extent s o.done.front c.done.front o.whole
            (read_takes o refl) c.whole (read_takes c refl);
      };
    }

cmp_unequal : (below : ℕ) (s : Span) (v : List Token)
    → IsRead (behind rule.cmp) 1 rule.cmp below (record { span = s; kind = lexeme.Sym sign.Ne } ∷ v)
    v (comparison cmp.Ne) s
unfolding behind behind_at keyword_of is_intro is_called
cmp_unequal below s v =
    is_read (widen language sound (take_token language sound
    (choose language sound (sees_next language sound _)) refl) (omega arith)) refl

unequal_here : (alias : Bool) (below : ℕ) (tokens : List Token) (s : Span) (v : List Token)
    (x : Found)
    → IsOperand rule.sum below tokens (record { span = s; kind = lexeme.Sym sign.Ne } ∷ v) x
    → IsComparing alias below cmp.Ne tokens v x
unfolding behind behind_at keyword_of is_intro is_called
unequal_here true below tokens s v x o =
    let c : IsRead (behind rule.cmp) 1 rule.cmp below
    (record { span = s; kind = lexeme.Sym sign.Ne } ∷ v) v (comparison cmp.Ne) s =
    cmp_unequal below s v in
    record {
      last = s;
      said = record {
        front = o.done.front ++ c.done.front;
        inside = read_rule language sound (look language sound (begun true below tokens _ x o)
            (sees_next language sound (record { span = s; kind = lexeme.Sym sign.Ne } ∷ v))) c.done
            refl refl (omega arith);
        some = more_of o.done.front c.done.front (read_takes o refl);
        stands = stands_on x.extent x.extent s o.done.front c.done.front o.whole
            (read_takes o refl) c.whole (read_takes c refl);
      };
    }
unequal_here false below tokens s v x o =
    let c : IsRead (behind rule.cmp) 1 rule.cmp below
    (record { span = s; kind = lexeme.Sym sign.Ne } ∷ v) v (comparison cmp.Ne) s =
    cmp_unequal below s v in
    record {
      last = s;
      said = record {
        front = o.done.front ++ c.done.front;
        inside = read_rule language sound (look language sound (begun false below tokens _ x o)
            (sees_next language sound (record { span = s; kind = lexeme.Sym sign.Ne } ∷ v))) c.done
            refl refl (omega arith);
        some = more_of o.done.front c.done.front (read_takes o refl);
        stands = stands_on x.extent x.extent s o.done.front c.done.front o.whole
            (read_takes o refl) c.whole (read_takes c refl);
      };
    }

cmp_unequal_bang : (below : ℕ) (s : Span) (v : List Token)
    → IsRead (behind rule.cmp) 1 rule.cmp below
    (record { span = s; kind = lexeme.Sym sign.NeBang } ∷ v) v (comparison cmp.Ne) s
unfolding behind behind_at keyword_of is_intro is_called
cmp_unequal_bang below s v =
    is_read (widen language sound (take_token language sound
    (choose language sound (sees_next language sound _)) refl) (omega arith)) refl

unequal_bang_here : (alias : Bool) (below : ℕ) (tokens : List Token) (s : Span) (v : List Token)
    (x : Found)
    → IsOperand rule.sum below tokens (record { span = s; kind = lexeme.Sym sign.NeBang } ∷ v) x
    → IsComparing alias below cmp.Ne tokens v x
unfolding behind behind_at keyword_of is_intro is_called
unequal_bang_here true below tokens s v x o =
    let c : IsRead (behind rule.cmp) 1 rule.cmp below
    (record { span = s; kind = lexeme.Sym sign.NeBang } ∷ v) v (comparison cmp.Ne) s =
    cmp_unequal_bang below s v in
    record {
      last = s;
      said = record {
        front = o.done.front ++ c.done.front;
        inside = read_rule language sound (look language sound (begun true below tokens _ x o)
            (sees_next language sound (record { span = s; kind = lexeme.Sym sign.NeBang } ∷ v)))
            c.done refl refl (omega arith);
        some = more_of o.done.front c.done.front (read_takes o refl);
        stands = stands_on x.extent x.extent s o.done.front c.done.front o.whole
            (read_takes o refl) c.whole (read_takes c refl);
      };
    }
unequal_bang_here false below tokens s v x o =
    let c : IsRead (behind rule.cmp) 1 rule.cmp below
    (record { span = s; kind = lexeme.Sym sign.NeBang } ∷ v) v (comparison cmp.Ne) s =
    cmp_unequal_bang below s v in
    record {
      last = s;
      said = record {
        front = o.done.front ++ c.done.front;
        inside = read_rule language sound (look language sound (begun false below tokens _ x o)
            (sees_next language sound (record { span = s; kind = lexeme.Sym sign.NeBang } ∷ v)))
            c.done refl refl (omega arith);
        some = more_of o.done.front c.done.front (read_takes o refl);
        stands = stands_on x.extent x.extent s o.done.front c.done.front o.whole
            (read_takes o refl) c.whole (read_takes c refl);
      };
    }

cmp_less : (below : ℕ) (s : Span) (v : List Token)
    → IsRead (behind rule.cmp) 1 rule.cmp below (record { span = s; kind = lexeme.Sym sign.Lt } ∷ v)
    v (comparison cmp.Lt) s
unfolding behind behind_at keyword_of is_intro is_called
cmp_less below s v =
    is_read (widen language sound (take_token language sound
    (choose language sound (sees_next language sound _)) refl) (omega arith)) refl

less_here : (alias : Bool) (below : ℕ) (tokens : List Token) (s : Span) (v : List Token) (x : Found)
    → IsOperand rule.sum below tokens (record { span = s; kind = lexeme.Sym sign.Lt } ∷ v) x
    → IsComparing alias below cmp.Lt tokens v x
unfolding behind behind_at keyword_of is_intro is_called
less_here true below tokens s v x o =
    let c : IsRead (behind rule.cmp) 1 rule.cmp below
    (record { span = s; kind = lexeme.Sym sign.Lt } ∷ v) v (comparison cmp.Lt) s =
    cmp_less below s v in
    record {
      last = s;
      said = record {
        front = o.done.front ++ c.done.front;
        inside = read_rule language sound (look language sound (begun true below tokens _ x o)
            (sees_next language sound (record { span = s; kind = lexeme.Sym sign.Lt } ∷ v))) c.done
            refl refl (omega arith);
        some = more_of o.done.front c.done.front (read_takes o refl);
        stands = stands_on x.extent x.extent s o.done.front c.done.front o.whole
            (read_takes o refl) c.whole (read_takes c refl);
      };
    }
less_here false below tokens s v x o =
    let c : IsRead (behind rule.cmp) 1 rule.cmp below
    (record { span = s; kind = lexeme.Sym sign.Lt } ∷ v) v (comparison cmp.Lt) s =
    cmp_less below s v in
    record {
      last = s;
      said = record {
        front = o.done.front ++ c.done.front;
        inside = read_rule language sound (look language sound (begun false below tokens _ x o)
            (sees_next language sound (record { span = s; kind = lexeme.Sym sign.Lt } ∷ v))) c.done
            refl refl (omega arith);
        some = more_of o.done.front c.done.front (read_takes o refl);
        stands = stands_on x.extent x.extent s o.done.front c.done.front o.whole
            (read_takes o refl) c.whole (read_takes c refl);
      };
    }

cmp_less_equal : (below : ℕ) (s : Span) (v : List Token)
    → IsRead (behind rule.cmp) 1 rule.cmp below (record { span = s; kind = lexeme.Sym sign.Le } ∷ v)
    v (comparison cmp.Le) s
unfolding behind behind_at keyword_of is_intro is_called
cmp_less_equal below s v =
    is_read (widen language sound (take_token language sound
    (choose language sound (sees_next language sound _)) refl) (omega arith)) refl

less_equal_here : (alias : Bool) (below : ℕ) (tokens : List Token) (s : Span) (v : List Token)
    (x : Found)
    → IsOperand rule.sum below tokens (record { span = s; kind = lexeme.Sym sign.Le } ∷ v) x
    → IsComparing alias below cmp.Le tokens v x
unfolding behind behind_at keyword_of is_intro is_called
less_equal_here true below tokens s v x o =
    let c : IsRead (behind rule.cmp) 1 rule.cmp below
    (record { span = s; kind = lexeme.Sym sign.Le } ∷ v) v (comparison cmp.Le) s =
    cmp_less_equal below s v in
    record {
      last = s;
      said = record {
        front = o.done.front ++ c.done.front;
        inside = read_rule language sound (look language sound (begun true below tokens _ x o)
            (sees_next language sound (record { span = s; kind = lexeme.Sym sign.Le } ∷ v))) c.done
            refl refl (omega arith);
        some = more_of o.done.front c.done.front (read_takes o refl);
        stands = stands_on x.extent x.extent s o.done.front c.done.front o.whole
            (read_takes o refl) c.whole (read_takes c refl);
      };
    }
less_equal_here false below tokens s v x o =
    let c : IsRead (behind rule.cmp) 1 rule.cmp below
    (record { span = s; kind = lexeme.Sym sign.Le } ∷ v) v (comparison cmp.Le) s =
    cmp_less_equal below s v in
    record {
      last = s;
      said = record {
        front = o.done.front ++ c.done.front;
        inside = read_rule language sound (look language sound (begun false below tokens _ x o)
            (sees_next language sound (record { span = s; kind = lexeme.Sym sign.Le } ∷ v))) c.done
            refl refl (omega arith);
        some = more_of o.done.front c.done.front (read_takes o refl);
        stands = stands_on x.extent x.extent s o.done.front c.done.front o.whole
            (read_takes o refl) c.whole (read_takes c refl);
      };
    }

cmp_greater : (below : ℕ) (s : Span) (v : List Token)
    → IsRead (behind rule.cmp) 1 rule.cmp below (record { span = s; kind = lexeme.Sym sign.Gt } ∷ v)
    v (comparison cmp.Gt) s
unfolding behind behind_at keyword_of is_intro is_called
cmp_greater below s v =
    is_read (widen language sound (take_token language sound
    (choose language sound (sees_next language sound _)) refl) (omega arith)) refl

greater_here : (alias : Bool) (below : ℕ) (tokens : List Token) (s : Span) (v : List Token)
    (x : Found)
    → IsOperand rule.sum below tokens (record { span = s; kind = lexeme.Sym sign.Gt } ∷ v) x
    → IsComparing alias below cmp.Gt tokens v x
unfolding behind behind_at keyword_of is_intro is_called
greater_here true below tokens s v x o =
    let c : IsRead (behind rule.cmp) 1 rule.cmp below
    (record { span = s; kind = lexeme.Sym sign.Gt } ∷ v) v (comparison cmp.Gt) s =
    cmp_greater below s v in
    record {
      last = s;
      said = record {
        front = o.done.front ++ c.done.front;
        inside = read_rule language sound (look language sound (begun true below tokens _ x o)
            (sees_next language sound (record { span = s; kind = lexeme.Sym sign.Gt } ∷ v))) c.done
            refl refl (omega arith);
        some = more_of o.done.front c.done.front (read_takes o refl);
        stands = stands_on x.extent x.extent s o.done.front c.done.front o.whole
            (read_takes o refl) c.whole (read_takes c refl);
      };
    }
greater_here false below tokens s v x o =
    let c : IsRead (behind rule.cmp) 1 rule.cmp below
    (record { span = s; kind = lexeme.Sym sign.Gt } ∷ v) v (comparison cmp.Gt) s =
    cmp_greater below s v in
    record {
      last = s;
      said = record {
        front = o.done.front ++ c.done.front;
        inside = read_rule language sound (look language sound (begun false below tokens _ x o)
            (sees_next language sound (record { span = s; kind = lexeme.Sym sign.Gt } ∷ v))) c.done
            refl refl (omega arith);
        some = more_of o.done.front c.done.front (read_takes o refl);
        stands = stands_on x.extent x.extent s o.done.front c.done.front o.whole
            (read_takes o refl) c.whole (read_takes c refl);
      };
    }

cmp_greater_equal : (below : ℕ) (s : Span) (v : List Token)
    → IsRead (behind rule.cmp) 1 rule.cmp below (record { span = s; kind = lexeme.Sym sign.Ge } ∷ v)
    v (comparison cmp.Ge) s
unfolding behind behind_at keyword_of is_intro is_called
cmp_greater_equal below s v =
    is_read (widen language sound (take_token language sound
    (choose language sound (sees_next language sound _)) refl) (omega arith)) refl

greater_equal_here : (alias : Bool) (below : ℕ) (tokens : List Token) (s : Span) (v : List Token)
    (x : Found)
    → IsOperand rule.sum below tokens (record { span = s; kind = lexeme.Sym sign.Ge } ∷ v) x
    → IsComparing alias below cmp.Ge tokens v x
unfolding behind behind_at keyword_of is_intro is_called
greater_equal_here true below tokens s v x o =
    let c : IsRead (behind rule.cmp) 1 rule.cmp below
    (record { span = s; kind = lexeme.Sym sign.Ge } ∷ v) v (comparison cmp.Ge) s =
    cmp_greater_equal below s v in
    record {
      last = s;
      said = record {
        front = o.done.front ++ c.done.front;
        inside = read_rule language sound (look language sound (begun true below tokens _ x o)
            (sees_next language sound (record { span = s; kind = lexeme.Sym sign.Ge } ∷ v))) c.done
            refl refl (omega arith);
        some = more_of o.done.front c.done.front (read_takes o refl);
        stands = stands_on x.extent x.extent s o.done.front c.done.front o.whole
            (read_takes o refl) c.whole (read_takes c refl);
      };
    }
greater_equal_here false below tokens s v x o =
    let c : IsRead (behind rule.cmp) 1 rule.cmp below
    (record { span = s; kind = lexeme.Sym sign.Ge } ∷ v) v (comparison cmp.Ge) s =
    cmp_greater_equal below s v in
    record {
      last = s;
      said = record {
        front = o.done.front ++ c.done.front;
        inside = read_rule language sound (look language sound (begun false below tokens _ x o)
            (sees_next language sound (record { span = s; kind = lexeme.Sym sign.Ge } ∷ v))) c.done
            refl refl (omega arith);
        some = more_of o.done.front c.done.front (read_takes o refl);
        stands = stands_on x.extent x.extent s o.done.front c.done.front o.whole
            (read_takes o refl) c.whole (read_takes c refl);
      };
    }

pub comparing : (alias : Bool) (below : ℕ) (op : CmpOp) (tokens v u : List Token) (x : Found)
    → IsOperand rule.sum below tokens v x → IsComparison op v u
    → IsComparing alias below op tokens u x
comparing alias below op tokens v u x o (inl n) =
    subst (λ (c : CmpOp). IsComparing alias below c tokens u x) (sym n.1)
    (equal_here alias below tokens n.0.span u x
    (subst (λ (z : List Token). IsOperand rule.sum below tokens z x) n.0.same o))
comparing alias below op tokens v u x o (inr (inl n)) =
    subst (λ (c : CmpOp). IsComparing alias below c tokens u x) (sym n.1)
    (null_equal_here alias below tokens n.0.span u x
    (subst (λ (z : List Token). IsOperand rule.sum below tokens z x) n.0.same o))
comparing alias below op tokens v u x o (inr (inr (inl n))) =
    subst (λ (c : CmpOp). IsComparing alias below c tokens u x) (sym n.1)
    (unequal_here alias below tokens n.0.span u x
    (subst (λ (z : List Token). IsOperand rule.sum below tokens z x) n.0.same o))
comparing alias below op tokens v u x o (inr (inr (inr (inl n)))) =
    subst (λ (c : CmpOp). IsComparing alias below c tokens u x) (sym n.1)
    (unequal_bang_here alias below tokens n.0.span u x
    (subst (λ (z : List Token). IsOperand rule.sum below tokens z x) n.0.same o))
comparing alias below op tokens v u x o (inr (inr (inr (inr (inl n))))) =
    subst (λ (c : CmpOp). IsComparing alias below c tokens u x) (sym n.1)
    (less_here alias below tokens n.0.span u x
    (subst (λ (z : List Token). IsOperand rule.sum below tokens z x) n.0.same o))
comparing alias below op tokens v u x o (inr (inr (inr (inr (inr (inl n)))))) =
    subst (λ (c : CmpOp). IsComparing alias below c tokens u x) (sym n.1)
    (less_equal_here alias below tokens n.0.span u x
    (subst (λ (z : List Token). IsOperand rule.sum below tokens z x) n.0.same o))
comparing alias below op tokens v u x o (inr (inr (inr (inr (inr (inr (inl n))))))) =
    subst (λ (c : CmpOp). IsComparing alias below c tokens u x) (sym n.1)
    (greater_here alias below tokens n.0.span u x
    (subst (λ (z : List Token). IsOperand rule.sum below tokens z x) n.0.same o))
comparing alias below op tokens v u x o (inr (inr (inr (inr (inr (inr (inr n))))))) =
    subst (λ (c : CmpOp). IsComparing alias below c tokens u x) (sym n.1)
    (greater_equal_here alias below tokens n.0.span u x
    (subst (λ (z : List Token). IsOperand rule.sum below tokens z x) n.0.same o))

-- NOT before what is said

pub not_none : (below : ℕ) (v : List Token) → IsTrue (is_missing (word (codes "not")) v)
    → Done language (behind rule.not_option) 1 (at below rule.not_option) v v (flag false)
unfolding behind behind_at keyword_of is_intro is_called
not_none below v h =
    finish language sound (choose language sound
    (sees_missing (word (codes "not") ∷ []) v (both_missing _ _ h refl)))

not_some_here : (below : ℕ) (s : Span) (v : List Token)
    → Done language (behind rule.not_option) 1 (at below rule.not_option)
    (record { span = s; kind = lexeme.Word (codes "not") } ∷ v) v (flag true)
unfolding behind behind_at keyword_of is_intro is_called
not_some_here below s v =
    finish language sound (widen language sound (take_token language sound
    (choose language sound (sees_next language sound _)) refl) (omega arith))

pub not_some : (below : ℕ) (tokens v : List Token) → IsNext (lexeme.Word (codes "not")) tokens v
    → Done language (behind rule.not_option) 1 (at below rule.not_option) tokens v (flag true)
not_some below tokens v n =
    subst (λ (z : List Token). Done language (behind rule.not_option) 1
    (at below rule.not_option) z v
    (flag true)) (sym n.same) (not_some_here below n.span v)

-- IS NULL

is_here : (alias : Bool) (below : ℕ) (tokens : List Token) (s : Span) (v : List Token) (x : Found)
    → IsOperand rule.sum below tokens (record { span = s; kind = lexeme.Word (codes "is") } ∷ v) x
    → IsTesting alias below tokens v x
unfolding behind behind_at keyword_of is_intro is_called
is_here true below tokens s v x o = record {
  last = s;
  token = record { span = s; kind = lexeme.Word (codes "is") };
  said = record {
    front = o.done.front ++ (record { span = s; kind = lexeme.Word (codes "is") } ∷ []);
    inside = widen language sound (take_token language sound
        (look language sound (begun true below tokens _ x o)
        (sees_next language sound (record { span = s; kind = lexeme.Word (codes "is") } ∷ v))) refl)
        (omega arith);
    some = more_of o.done.front (record { span = s; kind = lexeme.Word (codes "is") } ∷ [])
        (read_takes o refl);
    stands = stands_on x.extent x.extent s o.done.front
        (record { span = s; kind = lexeme.Word (codes "is") } ∷ []) o.whole
        (read_takes o refl) refl (omega arith);
  };
}
is_here false below tokens s v x o = record {
  last = s;
  token = record { span = s; kind = lexeme.Word (codes "is") };
  said = record {
    front = o.done.front ++ (record { span = s; kind = lexeme.Word (codes "is") } ∷ []);
    inside = widen language sound (take_token language sound
        (look language sound (begun false below tokens _ x o)
        (sees_next language sound (record { span = s; kind = lexeme.Word (codes "is") } ∷ v))) refl)
        (omega arith);
    some = more_of o.done.front (record { span = s; kind = lexeme.Word (codes "is") } ∷ [])
        (read_takes o refl);
    stands = stands_on x.extent x.extent s o.done.front
        (record { span = s; kind = lexeme.Word (codes "is") } ∷ []) o.whole
        (read_takes o refl) refl (omega arith);
  };
}

pub testing : (alias : Bool) (below : ℕ) (tokens v u : List Token) (x : Found)
    → IsOperand rule.sum below tokens v x → IsNext (lexeme.Word (codes "is")) v u
    → IsTesting alias below tokens u x
testing alias below tokens v u x o n =
    is_here alias below tokens n.span u x
    (subst (λ (z : List Token). IsOperand rule.sum below tokens z x) n.same o)

tested_pass : (alias : Bool) (below : ℕ)
    → IsTrue (all_pass language (behind_at alias rule.pred)
    (place_of below rule.tested_null (with_room (suc below) [] (one (word (codes "null")) ∷ []))
    ∷ []) (behind rule.not_option))
unfolding behind behind_at keyword_of is_intro is_called
tested_pass true below = refl
tested_pass false below = refl

pub tested_read : (alias : Bool) (below : ℕ) (tokens v w u : List Token) (x z : Found) (n : Bool)
    (end : Span) → IsTesting alias below tokens v x
    → Done language (behind rule.not_option) 1 (at below rule.not_option) v w (flag n)
    → IsNext (lexeme.Word (codes "null")) w u → end ≡ span_at w
    → as_operand z ≡ whole (from_to x.extent end) (IsNull x.expr n)
    → IsOperandAt alias rule.pred below tokens u z
tested_read alias below tokens v w u x z n end p d next at_end h =
    said_operand alias
    (said_done (said_option (record { span = next.span; kind = lexeme.Word (codes "null") }) p.said
    (subst (λ (y : List Token). Done language (behind rule.not_option) 1
    (at below rule.not_option) v y
    (flag n)) next.same d) (tested_pass alias below) refl))
    (h ∙ ap (λ (e : Span). whole (from_to x.extent e) (IsNull x.expr n))
    (at_end ∙ ap span_at next.same))

pub tested_missed : (alias : Bool) (below : ℕ) (tokens v w : List Token) (x : Found) (n : Bool)
    (left : ℕ) → IsTesting alias below tokens v x
    → Done language (behind rule.not_option) 1 (at below rule.not_option) v w (flag n)
    → IsTrue (is_missing (word (codes "null")) w) → left ≡ length w
    → IsFault (behind_at alias rule.pred) rule.pred below tokens (NoReading left)
unfolding behind behind_at keyword_of is_intro is_called
tested_missed true below tokens v w x n left p d h e =
    subst (λ (m : ℕ). IsFault (behind_at true rule.pred) rule.pred below tokens (NoReading m))
    (sym e)
    (is_missed (read_rule language sound p.said.inside d refl (tested_pass true below)
    (omega arith))
    (sees_missing (word (codes "null") ∷ []) w (both_missing _ _ h refl)) refl (omega arith))
tested_missed false below tokens v w x n left p d h e =
    subst (λ (m : ℕ). IsFault (behind_at false rule.pred) rule.pred below tokens (NoReading m))
    (sym e)
    (is_missed (read_rule language sound p.said.inside d refl (tested_pass false below)
    (omega arith))
    (sees_missing (word (codes "null") ∷ []) w (both_missing _ _ h refl)) refl (omega arith))

-- LIKE, IN and BETWEEN

like_here : (alias : Bool) (below : ℕ) (tokens : List Token) (s : Span) (v : List Token) (x : Found)
    → IsOperand rule.sum below tokens (record { span = s; kind = lexeme.Word (codes "like") } ∷ v) x
    → IsMatching alias below false tokens v x
unfolding behind behind_at keyword_of is_intro is_called
like_here true below tokens s v x o =
    let d : Done language (behind rule.not_option) 1 (at below rule.not_option)
    (record { span = s; kind = lexeme.Word (codes "like") } ∷ v)
    (record { span = s; kind = lexeme.Word (codes "like") } ∷ v)
    (flag false) = not_none below (record { span = s; kind = lexeme.Word (codes "like") } ∷ v) refl
    in
    record {
      last = s;
      token = record { span = s; kind = lexeme.Word (codes "like") };
      said = record {
        front = (o.done.front ++ d.front) ++
            (record { span = s; kind = lexeme.Word (codes "like") } ∷ []);
        inside = widen language sound (take_token language sound
            (read_rule language sound (look language sound (begun true below tokens _ x o)
            (sees_next language sound (record { span = s; kind = lexeme.Word (codes "like") } ∷ v)))
            d refl refl (omega arith)) refl) (omega arith);
        some = more_of (o.done.front ++ d.front)
            (record { span = s; kind = lexeme.Word (codes "like") } ∷ [])
            (more_of o.done.front d.front (read_takes o refl));
        stands = ends_token x.extent x.extent o.done.front d.front
            (record { span = s; kind = lexeme.Word (codes "like") }) o.whole (read_takes o refl);
      };
    }
like_here false below tokens s v x o =
    let d : Done language (behind rule.not_option) 1 (at below rule.not_option)
    (record { span = s; kind = lexeme.Word (codes "like") } ∷ v)
    (record { span = s; kind = lexeme.Word (codes "like") } ∷ v)
    (flag false) = not_none below (record { span = s; kind = lexeme.Word (codes "like") } ∷ v) refl
    in
    record {
      last = s;
      token = record { span = s; kind = lexeme.Word (codes "like") };
      said = record {
        front = (o.done.front ++ d.front) ++
            (record { span = s; kind = lexeme.Word (codes "like") } ∷ []);
        inside = widen language sound (take_token language sound
            (read_rule language sound (look language sound (begun false below tokens _ x o)
            (sees_next language sound (record { span = s; kind = lexeme.Word (codes "like") } ∷ v)))
            d refl refl (omega arith)) refl) (omega arith);
        some = more_of (o.done.front ++ d.front)
            (record { span = s; kind = lexeme.Word (codes "like") } ∷ [])
            (more_of o.done.front d.front (read_takes o refl));
        stands = ends_token x.extent x.extent o.done.front d.front
            (record { span = s; kind = lexeme.Word (codes "like") }) o.whole (read_takes o refl);
      };
    }

pub matching : (alias : Bool) (below : ℕ) (tokens v u : List Token) (x : Found)
    → IsOperand rule.sum below tokens v x → IsNext (lexeme.Word (codes "like")) v u
    → IsMatching alias below false tokens u x
matching alias below tokens v u x o n =
    like_here alias below tokens n.span u x
    (subst (λ (z : List Token). IsOperand rule.sum below tokens z x) n.same o)

not_like_here : (alias : Bool) (below : ℕ) (tokens : List Token) (r s : Span) (v : List Token)
    (x : Found)
    → IsOperand rule.sum below tokens
    (record { span = r; kind = lexeme.Word (codes "not") } ∷
    (record { span = s; kind = lexeme.Word (codes "like") } ∷ v)) x
    → IsMatching alias below true tokens v x
unfolding behind behind_at keyword_of is_intro is_called
not_like_here true below tokens r s v x o =
    let d : Done language (behind rule.not_option) 1 (at below rule.not_option)
    (record { span = r; kind = lexeme.Word (codes "not") } ∷
    (record { span = s; kind = lexeme.Word (codes "like") } ∷ v))
    (record { span = s; kind = lexeme.Word (codes "like") } ∷ v)
    (flag true) = not_some_here below r (record { span = s; kind = lexeme.Word (codes "like") } ∷ v)
    in
    record {
      last = s;
      token = record { span = s; kind = lexeme.Word (codes "like") };
      said = record {
        front = (o.done.front ++ d.front) ++
            (record { span = s; kind = lexeme.Word (codes "like") } ∷ []);
        inside = widen language sound (take_token language sound (look language sound
            (read_rule language sound (look language sound (begun true below tokens _ x o)
            (sees_next language sound
            (record { span = r; kind = lexeme.Word (codes "not") } ∷
            (record { span = s; kind = lexeme.Word (codes "like") } ∷ v)))) d refl refl
            (omega arith))
            (sees_next language sound (record { span = s; kind = lexeme.Word (codes "like") } ∷ v)))
            refl) (omega arith);
        some = more_of (o.done.front ++ d.front)
            (record { span = s; kind = lexeme.Word (codes "like") } ∷ [])
            (more_of o.done.front d.front (read_takes o refl));
        stands = ends_token x.extent x.extent o.done.front d.front
            (record { span = s; kind = lexeme.Word (codes "like") }) o.whole (read_takes o refl);
      };
    }
not_like_here false below tokens r s v x o =
    let d : Done language (behind rule.not_option) 1 (at below rule.not_option)
    (record { span = r; kind = lexeme.Word (codes "not") } ∷
    (record { span = s; kind = lexeme.Word (codes "like") } ∷ v))
    (record { span = s; kind = lexeme.Word (codes "like") } ∷ v)
    (flag true) = not_some_here below r (record { span = s; kind = lexeme.Word (codes "like") } ∷ v)
    in
    record {
      last = s;
      token = record { span = s; kind = lexeme.Word (codes "like") };
      said = record {
        front = (o.done.front ++ d.front) ++
            (record { span = s; kind = lexeme.Word (codes "like") } ∷ []);
        inside = widen language sound (take_token language sound (look language sound
            (read_rule language sound (look language sound (begun false below tokens _ x o)
            (sees_next language sound
            (record { span = r; kind = lexeme.Word (codes "not") } ∷
            (record { span = s; kind = lexeme.Word (codes "like") } ∷ v)))) d refl refl
            (omega arith))
            (sees_next language sound (record { span = s; kind = lexeme.Word (codes "like") } ∷ v)))
            refl) (omega arith);
        some = more_of (o.done.front ++ d.front)
            (record { span = s; kind = lexeme.Word (codes "like") } ∷ [])
            (more_of o.done.front d.front (read_takes o refl));
        stands = ends_token x.extent x.extent o.done.front d.front
            (record { span = s; kind = lexeme.Word (codes "like") }) o.whole (read_takes o refl);
      };
    }

pub not_matching : (alias : Bool) (below : ℕ) (tokens v q u : List Token) (x : Found)
    → IsOperand rule.sum below tokens v x → IsNext (lexeme.Word (codes "not")) v q
    → IsNext (lexeme.Word (codes "like")) q u → IsMatching alias below true tokens u x
not_matching alias below tokens v q u x o n k =
    not_like_here alias below tokens n.span k.span u x
    (subst (λ (z : List Token). IsOperand rule.sum below tokens z x)
    (n.same ∙ ap (λ (z : List Token). record { span = n.span; kind = lexeme.Word (codes "not") }
    ∷ z) k.same) o)

in_here : (alias : Bool) (below : ℕ) (tokens : List Token) (s : Span) (v : List Token) (x : Found)
    → IsOperand rule.sum below tokens (record { span = s; kind = lexeme.Word (codes "in") } ∷ v) x
    → IsListing alias below false tokens v x
unfolding behind behind_at keyword_of is_intro is_called
in_here true below tokens s v x o =
    let d : Done language (behind rule.not_option) 1 (at below rule.not_option)
    (record { span = s; kind = lexeme.Word (codes "in") } ∷ v)
    (record { span = s; kind = lexeme.Word (codes "in") } ∷ v)
    (flag false) = not_none below (record { span = s; kind = lexeme.Word (codes "in") } ∷ v) refl in
    record {
      last = s;
      token = record { span = s; kind = lexeme.Word (codes "in") };
      said = record {
        front = (o.done.front ++ d.front) ++
            (record { span = s; kind = lexeme.Word (codes "in") } ∷ []);
        inside = widen language sound (take_token language sound
            (read_rule language sound (look language sound (begun true below tokens _ x o)
            (sees_next language sound (record { span = s; kind = lexeme.Word (codes "in") } ∷ v)))
            d refl refl (omega arith)) refl) (omega arith);
        some = more_of (o.done.front ++ d.front)
            (record { span = s; kind = lexeme.Word (codes "in") } ∷ [])
            (more_of o.done.front d.front (read_takes o refl));
        stands = ends_token x.extent x.extent o.done.front d.front
            (record { span = s; kind = lexeme.Word (codes "in") }) o.whole (read_takes o refl);
      };
    }
in_here false below tokens s v x o =
    let d : Done language (behind rule.not_option) 1 (at below rule.not_option)
    (record { span = s; kind = lexeme.Word (codes "in") } ∷ v)
    (record { span = s; kind = lexeme.Word (codes "in") } ∷ v)
    (flag false) = not_none below (record { span = s; kind = lexeme.Word (codes "in") } ∷ v) refl in
    record {
      last = s;
      token = record { span = s; kind = lexeme.Word (codes "in") };
      said = record {
        front = (o.done.front ++ d.front) ++
            (record { span = s; kind = lexeme.Word (codes "in") } ∷ []);
        inside = widen language sound (take_token language sound
            (read_rule language sound (look language sound (begun false below tokens _ x o)
            (sees_next language sound (record { span = s; kind = lexeme.Word (codes "in") } ∷ v)))
            d refl refl (omega arith)) refl) (omega arith);
        some = more_of (o.done.front ++ d.front)
            (record { span = s; kind = lexeme.Word (codes "in") } ∷ [])
            (more_of o.done.front d.front (read_takes o refl));
        stands = ends_token x.extent x.extent o.done.front d.front
            (record { span = s; kind = lexeme.Word (codes "in") }) o.whole (read_takes o refl);
      };
    }

pub listing : (alias : Bool) (below : ℕ) (tokens v u : List Token) (x : Found)
    → IsOperand rule.sum below tokens v x → IsNext (lexeme.Word (codes "in")) v u
    → IsListing alias below false tokens u x
listing alias below tokens v u x o n =
    in_here alias below tokens n.span u x
    (subst (λ (z : List Token). IsOperand rule.sum below tokens z x) n.same o)

not_in_here : (alias : Bool) (below : ℕ) (tokens : List Token) (r s : Span) (v : List Token)
    (x : Found)
    → IsOperand rule.sum below tokens
    (record { span = r; kind = lexeme.Word (codes "not") } ∷
    (record { span = s; kind = lexeme.Word (codes "in") } ∷ v)) x
    → IsListing alias below true tokens v x
unfolding behind behind_at keyword_of is_intro is_called
not_in_here true below tokens r s v x o =
    let d : Done language (behind rule.not_option) 1 (at below rule.not_option)
    (record { span = r; kind = lexeme.Word (codes "not") } ∷
    (record { span = s; kind = lexeme.Word (codes "in") } ∷ v))
    (record { span = s; kind = lexeme.Word (codes "in") } ∷ v)
    (flag true) = not_some_here below r (record { span = s; kind = lexeme.Word (codes "in") } ∷ v)
    in
    record {
      last = s;
      token = record { span = s; kind = lexeme.Word (codes "in") };
      said = record {
        front = (o.done.front ++ d.front) ++
            (record { span = s; kind = lexeme.Word (codes "in") } ∷ []);
        inside = widen language sound (take_token language sound (look language sound
            (read_rule language sound (look language sound (begun true below tokens _ x o)
            (sees_next language sound
            (record { span = r; kind = lexeme.Word (codes "not") } ∷
            (record { span = s; kind = lexeme.Word (codes "in") } ∷ v)))) d refl refl (omega arith))
            (sees_next language sound (record { span = s; kind = lexeme.Word (codes "in") } ∷ v)))
            refl) (omega arith);
        some = more_of (o.done.front ++ d.front)
            (record { span = s; kind = lexeme.Word (codes "in") } ∷ [])
            (more_of o.done.front d.front (read_takes o refl));
        stands = ends_token x.extent x.extent o.done.front d.front
            (record { span = s; kind = lexeme.Word (codes "in") }) o.whole (read_takes o refl);
      };
    }
not_in_here false below tokens r s v x o =
    let d : Done language (behind rule.not_option) 1 (at below rule.not_option)
    (record { span = r; kind = lexeme.Word (codes "not") } ∷
    (record { span = s; kind = lexeme.Word (codes "in") } ∷ v))
    (record { span = s; kind = lexeme.Word (codes "in") } ∷ v)
    (flag true) = not_some_here below r (record { span = s; kind = lexeme.Word (codes "in") } ∷ v)
    in
    record {
      last = s;
      token = record { span = s; kind = lexeme.Word (codes "in") };
      said = record {
        front = (o.done.front ++ d.front) ++
            (record { span = s; kind = lexeme.Word (codes "in") } ∷ []);
        inside = widen language sound (take_token language sound (look language sound
            (read_rule language sound (look language sound (begun false below tokens _ x o)
            (sees_next language sound
            (record { span = r; kind = lexeme.Word (codes "not") } ∷
            (record { span = s; kind = lexeme.Word (codes "in") } ∷ v)))) d refl refl (omega arith))
            (sees_next language sound (record { span = s; kind = lexeme.Word (codes "in") } ∷ v)))
            refl) (omega arith);
        some = more_of (o.done.front ++ d.front)
            (record { span = s; kind = lexeme.Word (codes "in") } ∷ [])
            (more_of o.done.front d.front (read_takes o refl));
        stands = ends_token x.extent x.extent o.done.front d.front
            (record { span = s; kind = lexeme.Word (codes "in") }) o.whole (read_takes o refl);
      };
    }

pub not_listing : (alias : Bool) (below : ℕ) (tokens v q u : List Token) (x : Found)
    → IsOperand rule.sum below tokens v x → IsNext (lexeme.Word (codes "not")) v q
    → IsNext (lexeme.Word (codes "in")) q u → IsListing alias below true tokens u x
not_listing alias below tokens v q u x o n k =
    not_in_here alias below tokens n.span k.span u x
    (subst (λ (z : List Token). IsOperand rule.sum below tokens z x)
    (n.same ∙ ap (λ (z : List Token). record { span = n.span; kind = lexeme.Word (codes "not") }
    ∷ z) k.same) o)

between_here : (alias : Bool) (below : ℕ) (tokens : List Token) (s : Span) (v : List Token)
    (x : Found)
    → IsOperand rule.sum below tokens
    (record { span = s; kind = lexeme.Word (codes "between") } ∷ v) x
    → IsRanging alias below false tokens v x
unfolding behind behind_at keyword_of is_intro is_called
between_here true below tokens s v x o =
    let d : Done language (behind rule.not_option) 1 (at below rule.not_option)
    (record { span = s; kind = lexeme.Word (codes "between") } ∷ v)
    (record { span = s; kind = lexeme.Word (codes "between") } ∷ v)
    (flag false) = not_none below (record { span = s; kind = lexeme.Word (codes "between") } ∷ v)
    refl in
    record {
      last = s;
      token = record { span = s; kind = lexeme.Word (codes "between") };
      said = record {
        front = (o.done.front ++ d.front) ++
            (record { span = s; kind = lexeme.Word (codes "between") } ∷ []);
        inside = widen language sound (take_token language sound
            (read_rule language sound (look language sound (begun true below tokens _ x o)
            (sees_next language sound
            (record { span = s; kind = lexeme.Word (codes "between") } ∷ v))) d refl refl
            (omega arith)) refl) (omega arith);
        some = more_of (o.done.front ++ d.front)
            (record { span = s; kind = lexeme.Word (codes "between") } ∷ [])
            (more_of o.done.front d.front (read_takes o refl));
        stands = ends_token x.extent x.extent o.done.front d.front
            (record { span = s; kind = lexeme.Word (codes "between") }) o.whole (read_takes o refl);
      };
    }
between_here false below tokens s v x o =
    let d : Done language (behind rule.not_option) 1 (at below rule.not_option)
    (record { span = s; kind = lexeme.Word (codes "between") } ∷ v)
    (record { span = s; kind = lexeme.Word (codes "between") } ∷ v)
    (flag false) = not_none below (record { span = s; kind = lexeme.Word (codes "between") } ∷ v)
    refl in
    record {
      last = s;
      token = record { span = s; kind = lexeme.Word (codes "between") };
      said = record {
        front = (o.done.front ++ d.front) ++
            (record { span = s; kind = lexeme.Word (codes "between") } ∷ []);
        inside = widen language sound (take_token language sound
            (read_rule language sound (look language sound (begun false below tokens _ x o)
            (sees_next language sound
            (record { span = s; kind = lexeme.Word (codes "between") } ∷ v))) d refl refl
            (omega arith)) refl) (omega arith);
        some = more_of (o.done.front ++ d.front)
            (record { span = s; kind = lexeme.Word (codes "between") } ∷ [])
            (more_of o.done.front d.front (read_takes o refl));
        stands = ends_token x.extent x.extent o.done.front d.front
            (record { span = s; kind = lexeme.Word (codes "between") }) o.whole (read_takes o refl);
      };
    }

pub ranging : (alias : Bool) (below : ℕ) (tokens v u : List Token) (x : Found)
    → IsOperand rule.sum below tokens v x → IsNext (lexeme.Word (codes "between")) v u
    → IsRanging alias below false tokens u x
ranging alias below tokens v u x o n =
    between_here alias below tokens n.span u x
    (subst (λ (z : List Token). IsOperand rule.sum below tokens z x) n.same o)

not_between_here : (alias : Bool) (below : ℕ) (tokens : List Token) (r s : Span) (v : List Token)
    (x : Found)
    → IsOperand rule.sum below tokens
    (record { span = r; kind = lexeme.Word (codes "not") } ∷
    (record { span = s; kind = lexeme.Word (codes "between") } ∷ v)) x
    → IsRanging alias below true tokens v x
unfolding behind behind_at keyword_of is_intro is_called
not_between_here true below tokens r s v x o =
    let d : Done language (behind rule.not_option) 1 (at below rule.not_option)
    (record { span = r; kind = lexeme.Word (codes "not") } ∷
    (record { span = s; kind = lexeme.Word (codes "between") } ∷ v))
    (record { span = s; kind = lexeme.Word (codes "between") } ∷ v)
    (flag true) = not_some_here below r
    (record { span = s; kind = lexeme.Word (codes "between") } ∷ v) in
    record {
      last = s;
      token = record { span = s; kind = lexeme.Word (codes "between") };
      said = record {
        front = (o.done.front ++ d.front) ++
            (record { span = s; kind = lexeme.Word (codes "between") } ∷ []);
        inside = widen language sound (take_token language sound (look language sound
            (read_rule language sound (look language sound (begun true below tokens _ x o)
            (sees_next language sound
            (record { span = r; kind = lexeme.Word (codes "not") } ∷
            (record { span = s; kind = lexeme.Word (codes "between") } ∷ v)))) d refl refl
            (omega arith))
            (sees_next language sound
            (record { span = s; kind = lexeme.Word (codes "between") } ∷ v))) refl) (omega arith);
        some = more_of (o.done.front ++ d.front)
            (record { span = s; kind = lexeme.Word (codes "between") } ∷ [])
            (more_of o.done.front d.front (read_takes o refl));
        stands = ends_token x.extent x.extent o.done.front d.front
            (record { span = s; kind = lexeme.Word (codes "between") }) o.whole (read_takes o refl);
      };
    }
not_between_here false below tokens r s v x o =
    let d : Done language (behind rule.not_option) 1 (at below rule.not_option)
    (record { span = r; kind = lexeme.Word (codes "not") } ∷
    (record { span = s; kind = lexeme.Word (codes "between") } ∷ v))
    (record { span = s; kind = lexeme.Word (codes "between") } ∷ v)
    (flag true) = not_some_here below r
    (record { span = s; kind = lexeme.Word (codes "between") } ∷ v) in
    record {
      last = s;
      token = record { span = s; kind = lexeme.Word (codes "between") };
      said = record {
        front = (o.done.front ++ d.front) ++
            (record { span = s; kind = lexeme.Word (codes "between") } ∷ []);
        inside = widen language sound (take_token language sound (look language sound
            (read_rule language sound (look language sound (begun false below tokens _ x o)
            (sees_next language sound
            (record { span = r; kind = lexeme.Word (codes "not") } ∷
            (record { span = s; kind = lexeme.Word (codes "between") } ∷ v)))) d refl refl
            (omega arith))
            (sees_next language sound
            (record { span = s; kind = lexeme.Word (codes "between") } ∷ v))) refl) (omega arith);
        some = more_of (o.done.front ++ d.front)
            (record { span = s; kind = lexeme.Word (codes "between") } ∷ [])
            (more_of o.done.front d.front (read_takes o refl));
        stands = ends_token x.extent x.extent o.done.front d.front
            (record { span = s; kind = lexeme.Word (codes "between") }) o.whole (read_takes o refl);
      };
    }

pub not_ranging : (alias : Bool) (below : ℕ) (tokens v q u : List Token) (x : Found)
    → IsOperand rule.sum below tokens v x → IsNext (lexeme.Word (codes "not")) v q
    → IsNext (lexeme.Word (codes "between")) q u → IsRanging alias below true tokens u x
not_ranging alias below tokens v q u x o n k =
    not_between_here alias below tokens n.span k.span u x
    (subst (λ (z : List Token). IsOperand rule.sum below tokens z x)
    (n.same ∙ ap (λ (z : List Token). record { span = n.span; kind = lexeme.Word (codes "not") }
    ∷ z) k.same) o)

-- Nothing, or nothing that can be.
pub just_read : (alias : Bool) (below : ℕ) (tokens v : List Token) (x : Found)
    → IsOperand rule.sum below tokens v x → IsTrue (are_missing said_signs v)
    → IsTrue (is_missing (word (codes "like")) v) → IsTrue (is_missing (word (codes "in")) v)
    → IsTrue (is_missing (word (codes "between")) v)
    → IsOperandAt alias rule.pred below tokens v x
unfolding behind behind_at keyword_of is_intro is_called
just_read true below tokens v x o h i j k =
    is_read (widen language sound (look language sound (begun true below tokens v x o)
    (sees_missing (word (codes "like") ∷ word (codes "in") ∷ word (codes "between") ∷ said_signs) v
    (both_missing _ _ i (both_missing _ _ j (both_missing _ _ k h))))) (look_least true v)) o.whole
just_read false below tokens v x o h i j k =
    is_read (widen language sound (look language sound (begun false below tokens v x o)
    (sees_missing (word (codes "like") ∷ word (codes "in") ∷ word (codes "between") ∷ said_signs) v
    (both_missing _ _ i (both_missing _ _ j (both_missing _ _ k h))))) (look_least false v)) o.whole

denied_here : (alias : Bool) (below : ℕ) (tokens : List Token) (r : Span) (v : List Token)
    (x : Found)
    → IsOperand rule.sum below tokens (record { span = r; kind = lexeme.Word (codes "not") } ∷ v) x
    → IsTrue (is_missing (word (codes "like")) v) → IsTrue (is_missing (word (codes "in")) v)
    → IsTrue (is_missing (word (codes "between")) v)
    → IsFault (behind_at alias rule.pred) rule.pred below tokens (NoReading (length v))
unfolding behind behind_at keyword_of is_intro is_called
denied_here true below tokens r v x o i j k =
    is_missed (read_rule language sound (look language sound (begun true below tokens _ x o)
    (sees_next language sound (record { span = r; kind = lexeme.Word (codes "not") } ∷ v)))
    (not_some_here below r v) refl refl (omega arith))
    (sees_missing (word (codes "like") ∷ word (codes "in") ∷ word (codes "between") ∷ []) v
    (both_missing _ _ i (both_missing _ _ j (both_missing _ _ k refl))))
    refl (omega arith)
denied_here false below tokens r v x o i j k =
    is_missed (read_rule language sound (look language sound (begun false below tokens _ x o)
    (sees_next language sound (record { span = r; kind = lexeme.Word (codes "not") } ∷ v)))
    (not_some_here below r v) refl refl (omega arith))
    (sees_missing (word (codes "like") ∷ word (codes "in") ∷ word (codes "between") ∷ []) v
    (both_missing _ _ i (both_missing _ _ j (both_missing _ _ k refl))))
    refl (omega arith)

pub denied_missed : (alias : Bool) (below : ℕ) (tokens v u : List Token) (x : Found) (left : ℕ)
    → IsOperand rule.sum below tokens v x → IsNext (lexeme.Word (codes "not")) v u
    → IsTrue (is_missing (word (codes "like")) u) → IsTrue (is_missing (word (codes "in")) u)
    → IsTrue (is_missing (word (codes "between")) u) → left ≡ length u
    → IsFault (behind_at alias rule.pred) rule.pred below tokens (NoReading left)
denied_missed alias below tokens v u x left o n i j k e =
    subst (λ (m : ℕ). IsFault (behind_at alias rule.pred) rule.pred below tokens (NoReading m))
    (sym e)
    (denied_here alias below tokens n.span u x
    (subst (λ (z : List Token). IsOperand rule.sum below tokens z x) n.same o) i j k)

-- A sum that is not read.
pub sum_missed : (alias : Bool) (below : ℕ) (tokens : List Token) (fault : Fault)
    → IsFault (behind rule.sum) rule.sum below tokens fault
    → IsFault (behind_at alias rule.pred) rule.pred below tokens fault
unfolding behind behind_at keyword_of is_intro is_called
sum_missed true below tokens fault o =
    is_fault (enter language _ _ _) o refl refl (omega arith)
sum_missed false below tokens fault o =
    is_fault (enter language _ _ _) o refl refl (omega arith)

-- Nothing but LIKE, IN and BETWEEN is left.
pub said_missing : (v : List Token) → IsTrue (are_missing comparison_signs v)
    → IsTrue (is_missing (word (codes "is")) v) → IsTrue (is_missing (word (codes "not")) v)
    → IsTrue (are_missing said_signs v)
said_missing v h i n =
    by_tests (is_missing (mark sign.Eq) v) (is_missing (mark sign.NullEq) v)
    (is_missing (mark sign.Ne) v) (is_missing (mark sign.NeBang) v) (is_missing (mark sign.Lt) v)
    (is_missing (mark sign.Le) v) (is_missing (mark sign.Gt) v) (is_missing (mark sign.Ge) v) h
  where
    by_tests : (a b d e f g k l : Bool)
        → IsTrue (a && (b && (d && (e && (f && (g && (k && (l && true))))))))
        → IsTrue (a && (b && (d && (e && (f && (g && (k && (l
        && (is_missing (word (codes "is")) v && (is_missing (word (codes "not")) v && true))))))))))
    by_tests true true true true true true true true m =
        both_missing _ _ i (both_missing _ _ n refl)
    by_tests false b d e f g k l m = cc
    by_tests true false d e f g k l m = cc
    by_tests true true false e f g k l m = cc
    by_tests true true true false f g k l m = cc
    by_tests true true true true false g k l m = cc
    by_tests true true true true true false k l m = cc
    by_tests true true true true true true false l m = cc
    by_tests true true true true true true true false m = cc
