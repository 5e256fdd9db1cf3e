-- The ways through the functions that read a column, parentheses, or nothing.
use Rattle.std.proofs.Common.{◌≡◌, ◌⊎◌, refl, sym, ap, ◌∙◌, subst, inl, inr, ℕ, zero, suc, ◌+◌, ◌-◌}
use Rattle.std.proofs.Common.{◌<◌, ◌≤◌, Bool, true, false, not, ◌&&◌, ◌||◌, List, [], ◌∷◌, ◌++◌}
use Rattle.std.proofs.Common.{IsTrue, length, Option, Some, None, arith, codes}
use Rattle.std.specs.List.{list_any}
use Rattle.std.specs.Prelude.{is_none, option_map}
use Rattle.std.specs.Str.{bytes_eq}
use Rattle.std.proofs.lemmas.Slice.Eq.{bytes_eq-Decides}
use Rattle.mc_base.specs.declared.span.Span.{Span}
use Rattle.mc_token.specs.declared.keyword.Keyword.{Keyword as AKeyword}
use Rattle.mc_token.specs.declared.lexeme.Lexeme.{Lexeme}
use Rattle.mc_token.specs.declared.lexeme.Lexeme.TheVariants as lexeme
use Rattle.mc_token.specs.declared.lexeme.Symbol.TheVariants as sign
use Rattle.mc_token.specs.declared.lexeme.Token.{Token}
use Rattle.mc_token.specs.Keywords.{keyword_text, keyword_of, is_reserved as is_reserved_keyword}
use Rattle.mc_token.proofs.Keywords.{keyword_exact}
use Rattle.mc_grammar.specs.Ahead.{Ahead, every}
use Rattle.mc_grammar.specs.Places.{is_met, is_met_whole, stands_behind, Sees, Inside, Done}
use Rattle.mc_grammar.specs.Grammar.{one}
use Rattle.mc_grammar.specs.Room.{Roomed, Admitted, admitted}
use Rattle.mc_grammar.proofs.Seeing.{sees_next, sees_two}
use Rattle.mc_grammar.proofs.Inside.{enter}
use Rattle.mc_grammar.proofs.Ways.{choose, look, take_token, read_rule, widen}
use Rattle.mc_sql.specs.Classes.{Class, word, mark, name, called, called_otherwise, intro, int, str}
use Rattle.mc_sql.specs.Classes.{national, hex, is_reserved, is_intro, is_called, is_lexeme_of}
use Rattle.mc_sql.specs.Rules as rule
use Rattle.mc_sql.specs.Behind.{behind_call}
use Rattle.mc_ast.specs.declared.expr.Form.{Form}
use Rattle.mc_ast.specs.declared.expr.Form.TheVariants.{Name, Qualified}
use Rattle.mc_ast.specs.Grouping.{whole}
use Rattle.mc_ast.specs.Spans.{from_to, span_from, span_of}
use Rattle.mc_ast.specs.Values.{Value, Operand, operand, lexeme_text, a_token}
use Rattle.mc_parse.specs.declared.fault.Fault.{Fault}
use Rattle.mc_parse.specs.declared.fault.Fault.TheVariants.{NoReading, TooDeep}
use Rattle.mc_parse.specs.declared.operand.Operand.{Operand as Found}
use Rattle.mc_parse.specs.Language.{language, at, behind, behind_at}
use Rattle.mc_parse.specs.Place.{is_missing, are_missing, span_at, IsNext, IsTextOf}
use Rattle.mc_parse.specs.Primary.{is_caller, begins_call, begins_text, begins_string}
use Rattle.mc_parse.specs.Primary.{plain_literals, IsMissingAt}
use Rattle.mc_parse.specs.Read.{IsRead, IsFault, as_operand, IsOperand, IsOperandAt}
use Rattle.mc_parse.proofs.CallKinds.{keyword_intro}
use Rattle.mc_parse.proofs.Spans.{span_from-append}
use Rattle.mc_parse.proofs.Ways.{sound, both_missing, sees_missing, is_read, is_fault, is_missed}
use Rattle.mc_parse.proofs.Ways.{is_barred_here}
use Rattle.mc_parse.proofs.NameWays.{only_next}
use Rattle.mc_parse.proofs.SaidWays.{start_kept}
use Rattle.mc_parse.proofs.PrimWays.{stands}

both_parts : (a b : Bool) → IsTrue (a && b) → IsTrue a × IsTrue b
both_parts true b h = (refl, h)
both_parts false b h = absurd (cc)

not_both : (b : Bool) → IsTrue b → IsTrue (not b) → ⊥
not_both true h k = cc
not_both false h k = cc

-- Columns

-- A class that a name is of where neither a call nor a string is next.
abbrev alone_class : Class → Bool
alone_class (word text) = not (is_reserved text) && is_none (behind_call text)
alone_class name = true
alone_class _ = false

abbrev may_be_alone : Option (Admitted Class) → Bool
may_be_alone None = false
may_be_alone (Some k) = alone_class k.class

-- No parenthesis stands behind the word of a call.
no_paren : (v : List Token) → IsTrue (is_missing (mark sign.LeftParen) v)
    → IsTrue (is_met language (Some (record { class = mark sign.LeftParen; has_room = true })) v
    || false)
    → ⊥
no_paren [] h m = cc
no_paren (t ∷ v) h m = by_test (is_lexeme_of (mark sign.LeftParen) t.kind) h m
  where
    by_test : (b : Bool) → IsTrue (not b) → IsTrue (b || false) → ⊥
    by_test true g n = cc
    by_test false g n = cc

no_string : (v : List Token) → begins_text v ≡ false → IsTrue (stands intro v) → ⊥
unfolding behind behind_at keyword_of is_intro is_called
no_string [] h m = cc
no_string (t ∷ v) h m =
    by_tests (is_lexeme_of str t.kind) (is_lexeme_of hex t.kind) h m
  where
    by_tests : (a b : Bool) → (not (not a) || not (not b)) ≡ false → IsTrue (a || (b || false)) → ⊥
    by_tests true b g n = cc
    by_tests false true g n = cc
    by_tests false false g n = cc

call_word_alone : (text : List ℕ) (v : List Token) → IsTrue (is_missing (mark sign.LeftParen) v)
    → IsTrue (stands (word text) v) → IsTrue (is_none (behind_call text))
unfolding behind behind_at keyword_of is_intro is_called
call_word_alone text v h m = by_tests (bytes_eq text (codes "escape")) refl m
  where
    of_call : (b : Bool)
        → IsTrue (stands_behind language (option_map (λ said. admitted said)
        (elim b [ true ↦ Some (Some (mark sign.LeftParen) ∷ []) | false ↦ None ])) v)
        → IsTrue (is_none {T = Ahead Class}
        (elim b [ true ↦ Some (Some (mark sign.LeftParen) ∷ []) | false ↦ None ]))
    of_call true g = absurd (no_paren v h g)
    of_call false g = refl

    by_tests : (b : Bool) → bytes_eq text (codes "escape") ≡ b
        → IsTrue (stands_behind language (option_map (λ said. admitted said)
        (elim b [ true ↦ Some (Some str ∷ []) | false ↦ behind_call text ])) v)
        → IsTrue (is_none (behind_call text))
    by_tests true e g = subst (λ (t : List ℕ). IsTrue (is_none (behind_call t)))
        (sym ((bytes_eq-Decides text (codes "escape")).0 e)) refl
    by_tests false e g = of_call (list_any (λ w. bytes_eq text w) (
        codes "convert" ∷ codes "cast" ∷ codes "count" ∷ codes "trim" ∷ codes "substring" ∷
        codes "weight_string" ∷ [])) g

-- A word that is a name begins a call where a parenthesis is behind it.
name_calls : (w : List ℕ) → IsTrue (not (is_reserved w)) → IsTrue (is_caller (lexeme.Word w))
unfolding is_called
name_calls w h =
    by_tests (bytes_eq w (codes "mod")) (is_reserved w) (bytes_eq w (codes "cast"))
    (bytes_eq w (codes "convert")) h
  where
    by_tests : (a b d e : Bool) → IsTrue (not b) → IsTrue ((a || (not b && not d)) || (d || e))
    by_tests true b d e g = refl
    by_tests false true d e g = cc
    by_tests false false true e g = refl
    by_tests false false false e g = refl

other_missing : (c m : Bool) → IsTrue c → (c && not m) ≡ false → IsTrue m
other_missing true true h e = refl
other_missing true false h e = cc
other_missing false m h e = cc

left_false : (a b : Bool) → (a || b) ≡ false → a ≡ false
left_false true b e = cc
left_false false b e = refl

right_false : (a b : Bool) → (a || b) ≡ false → b ≡ false
right_false true b e = cc
right_false false b e = e

other_false : (a b : Bool) → IsTrue a → (a && b) ≡ false → b ≡ false
other_false true b h e = e
other_false false b h e = cc

word_paren : (w : List ℕ) (s : Span) (v : List Token) → IsTrue (not (is_reserved w))
    → begins_call (record { span = s; kind = lexeme.Word w } ∷ v) ≡ false
    → IsTrue (is_missing (mark sign.LeftParen) v)
word_paren w s v h e =
    other_missing (is_caller (lexeme.Word w)) (is_missing (mark sign.LeftParen) v)
    (name_calls w h) e

column_class : (k : Class) (x : Lexeme) (s : Span) (v : List Token) → IsTrue (is_lexeme_of name x)
    → begins_call (record { span = s; kind = x } ∷ v) ≡ false
    → begins_string (record { span = s; kind = x } ∷ v) ≡ false
    → IsTrue (is_lexeme_of k x) → IsTrue (stands k v) → IsTrue (alone_class k)
column_class (word text) (lexeme.Word w) s v h e f m b =
    both_missing (not (is_reserved text)) (is_none (behind_call text))
    (subst (λ (y : List ℕ). IsTrue (not (is_reserved y))) ((bytes_eq-Decides w text).0 m) h)
    (call_word_alone text v (word_paren w s v h e) b)
column_class (word text) (lexeme.Name w) s v h e f m b = cc
column_class name x s v h e f m b = refl
column_class called (lexeme.Word w) s v h e f m b = absurd (no_paren v (word_paren w s v h e) b)
column_class called (lexeme.Name w) s v h e f m b = cc
column_class called_otherwise (lexeme.Word w) s v h e f m b =
    absurd (no_paren v (word_paren w s v h e) b)
column_class called_otherwise (lexeme.Name w) s v h e f m b = cc
column_class intro (lexeme.Word w) s v h e f m b =
    absurd (no_string v (other_false (is_intro w) (begins_text v) m
    (left_false (is_intro w && begins_text v) false f)) b)
column_class intro (lexeme.Name w) s v h e f m b = cc
column_class (mark o) (lexeme.Word w) s v h e f m b = cc
column_class (mark o) (lexeme.Name w) s v h e f m b = cc
column_class int (lexeme.Word w) s v h e f m b = cc
column_class int (lexeme.Name w) s v h e f m b = cc
column_class str (lexeme.Word w) s v h e f m b = cc
column_class str (lexeme.Name w) s v h e f m b = cc
column_class national (lexeme.Word w) s v h e f m b = cc
column_class national (lexeme.Name w) s v h e f m b = cc
column_class hex (lexeme.Word w) s v h e f m b = cc
column_class hex (lexeme.Name w) s v h e f m b = cc
column_class _ (lexeme.Int n) s v h e f m b = cc
column_class _ (lexeme.Str n) s v h e f m b = cc
column_class _ (lexeme.National n) s v h e f m b = cc
column_class _ (lexeme.Hex n) s v h e f m b = cc
column_class _ (lexeme.Sym n) s v h e f m b = cc

sees_column : (t : Token) (v : List Token) → IsTrue (is_lexeme_of name t.kind)
    → begins_call (t ∷ v) ≡ false → begins_string (t ∷ v) ≡ false
    → Sees language 2 (t ∷ v) (λ k. may_be_alone k)
sees_column t v h e f = record {
  sees = λ w same k m. lets k ((sees_two language sound (t ∷ v)).sees w same k m);
}
  where
    lets : (k : Option (Admitted Class)) → IsTrue (is_met_whole language k (t ∷ v))
        → IsTrue (may_be_alone k)
    lets None m = cc
    lets (Some k) m =
        let q : IsTrue (is_lexeme_of k.class t.kind) × IsTrue (stands k.class v) =
        both_parts (is_lexeme_of k.class t.kind) (stands k.class v) m in
        column_class k.class t.kind t.span v h e f q.0 q.1

two_next : (a b : Bool) → IsTrue a → IsTrue b
    → IsTrue (elim a [ true ↦ elim b [ true ↦ true | false ↦ false ] | false ↦ false ])
two_next true true h k = refl
two_next true false h k = cc
two_next false b h k = cc

-- A name, and it may go on with a dot.
abbrev IsNamed : ℕ → Token → List Token → Type 0
IsNamed below t v =
    Inside language (behind rule.prim) 1 (at below rule.prim)
    (record {
      alternative = record { what = rule.column; room = suc below };
      left = [];
    } ∷ record {
      alternative = record { what = rule.table_column; room = suc below };
      left = one (record { class = mark sign.Dot; has_room = true })
          ∷ one (record { class = name; has_room = true }) ∷ [];
    } ∷ []) (a_token t ∷ []) (t ∷ v) (t ∷ []) v

named : (below : ℕ) (t : Token) (v : List Token) → IsTrue (is_lexeme_of name t.kind)
    → begins_call (t ∷ v) ≡ false → begins_string (t ∷ v) ≡ false → IsNamed below t v
unfolding behind behind_at keyword_of is_intro is_called
named below t v h e f =
    take_token language sound (choose language sound (sees_column t v h e f))
    (two_next (is_lexeme_of name t.kind) (is_lexeme_of name t.kind) h h)

column_here : (below : ℕ) (t : Token) (v : List Token) → IsTrue (is_lexeme_of name t.kind)
    → begins_call (t ∷ v) ≡ false → begins_string (t ∷ v) ≡ false
    → IsTrue (is_missing (mark sign.Dot) v)
    → IsRead (behind rule.prim) 1 rule.prim below (t ∷ v) v
    (operand (whole t.span (Name (lexeme_text t.kind)))) t.span
unfolding behind behind_at keyword_of is_intro is_called
column_here below t v h e f g =
    is_read (look language sound (named below t v h e f)
    (sees_missing (mark sign.Dot ∷ []) v (both_missing _ _ g refl))) refl

qualified_here : (below : ℕ) (t : Token) (s : Span) (u : Token) (v : List Token)
    → IsTrue (is_lexeme_of name t.kind)
    → begins_call (t ∷ (record { span = s; kind = lexeme.Sym sign.Dot } ∷ (u ∷ v))) ≡ false
    → begins_string (t ∷ (record { span = s; kind = lexeme.Sym sign.Dot } ∷ (u ∷ v))) ≡ false
    → IsTrue (is_lexeme_of name u.kind)
    → IsRead (behind rule.prim) 1 rule.prim below
    (t ∷ (record { span = s; kind = lexeme.Sym sign.Dot } ∷ (u ∷ v))) v
    (operand (whole (from_to t.span u.span) (Qualified (lexeme_text t.kind) (lexeme_text u.kind))))
    (from_to t.span u.span)
unfolding behind behind_at keyword_of is_intro is_called
qualified_here below t s u v h e f g =
    is_read (widen language sound (take_token language sound (take_token language sound
    (look language sound (named below t _ h e f) (sees_next language sound _)) refl)
    (only_next (is_lexeme_of name u.kind) g)) (omega arith)) refl

dot_missed_here : (below : ℕ) (t : Token) (s : Span) (v : List Token)
    → IsTrue (is_lexeme_of name t.kind)
    → begins_call (t ∷ (record { span = s; kind = lexeme.Sym sign.Dot } ∷ v)) ≡ false
    → begins_string (t ∷ (record { span = s; kind = lexeme.Sym sign.Dot } ∷ v)) ≡ false
    → IsTrue (is_missing name v)
    → IsFault (behind rule.prim) rule.prim below
    (t ∷ (record { span = s; kind = lexeme.Sym sign.Dot } ∷ v)) (NoReading (length v))
unfolding behind behind_at keyword_of is_intro is_called
dot_missed_here below t s v h e f g =
    is_missed (take_token language sound (look language sound (named below t _ h e f)
    (sees_next language sound _)) refl)
    (sees_missing (name ∷ []) v (both_missing _ _ g refl)) refl (omega arith)

-- The same, as a function meets it.
pub column_read : (below : ℕ) (tokens rest : List Token) (said text : List ℕ) (s : Span) (y : Found)
    → IsTextOf name tokens rest said → begins_call tokens ≡ false → begins_string tokens ≡ false
    → IsTrue (is_missing (mark sign.Dot) rest) → text ≡ said → s ≡ span_at tokens
    → as_operand y ≡ whole s (Name text) → IsOperand rule.prim below tokens rest y
column_read below tokens rest said text s y n e f g made at_token h =
    subst (λ (z : Operand). IsRead (behind rule.prim) 1 rule.prim below tokens rest
    (operand z) z.extent)
    (sym (h ∙ ap (λ (t : List ℕ). whole s (Name t)) (made ∙ n.says)
    ∙ ap (λ (t : Span). whole t (Name (lexeme_text n.token.kind))) (at_token ∙ ap span_at n.same)))
    (subst (λ (z : List Token). IsRead (behind rule.prim) 1 rule.prim below z rest
    (operand (whole n.token.span (Name (lexeme_text n.token.kind)))) n.token.span) (sym n.same)
    (column_here below n.token rest n.of_class
    (sym (ap (λ (z : List Token). begins_call z) n.same) ∙ e)
    (sym (ap (λ (z : List Token). begins_string z) n.same) ∙ f) g))

two_same : {tokens u v rest : List Token} {said second : List ℕ}
    → (n : IsTextOf name tokens u said) → (d : IsNext (lexeme.Sym sign.Dot) u v)
    → (k : IsTextOf name v rest second)
    → tokens ≡ n.token ∷ (record { span = d.span; kind = lexeme.Sym sign.Dot } ∷ (k.token ∷ rest))
two_same n d k =
    n.same ∙ ap (λ (z : List Token). n.token ∷ z)
    (d.same ∙ ap (λ (z : List Token). record { span = d.span; kind = lexeme.Sym sign.Dot } ∷ z)
    k.same)

pub qualified_read : (below : ℕ) (tokens u v rest : List Token) (said second table text : List ℕ)
    (s : Span) (y : Found)
    → IsTextOf name tokens u said → IsNext (lexeme.Sym sign.Dot) u v → IsTextOf name v rest second
    → begins_call tokens ≡ false → begins_string tokens ≡ false → table ≡ said → text ≡ second
    → s ≡ from_to (span_at tokens) (span_at v) → as_operand y ≡ whole s (Qualified table text)
    → IsOperand rule.prim below tokens rest y
qualified_read below tokens u v rest said second table text s y n d k e f made made' at_token h =
    let same : tokens ≡ n.token ∷ (record { span = d.span; kind = lexeme.Sym sign.Dot }
    ∷ (k.token ∷ rest)) = two_same n d k in
    subst (λ (z : Operand). IsRead (behind rule.prim) 1 rule.prim below tokens rest
    (operand z) z.extent)
    (sym (h ∙ ap (λ (t : List ℕ). whole s (Qualified t text)) (made ∙ n.says)
    ∙ ap (λ (t : List ℕ). whole s (Qualified (lexeme_text n.token.kind) t)) (made' ∙ k.says)
    ∙ ap (λ (t : Span). whole t (Qualified (lexeme_text n.token.kind) (lexeme_text k.token.kind)))
    (at_token ∙ ap (λ (z : List Token). from_to (span_at z) (span_at v)) n.same
    ∙ ap (λ (z : List Token). from_to n.token.span (span_at z)) k.same)))
    (subst (λ (z : List Token). IsRead (behind rule.prim) 1 rule.prim below z rest
    (operand (whole (from_to n.token.span k.token.span)
    (Qualified (lexeme_text n.token.kind) (lexeme_text k.token.kind))))
    (from_to n.token.span k.token.span)) (sym same)
    (qualified_here below n.token d.span k.token rest n.of_class
    (sym (ap (λ (z : List Token). begins_call z) same) ∙ e)
    (sym (ap (λ (z : List Token). begins_string z) same) ∙ f) k.of_class))

pub dot_missed : (below : ℕ) (tokens u v : List Token) (said : List ℕ) (left : ℕ)
    → IsTextOf name tokens u said → IsNext (lexeme.Sym sign.Dot) u v → begins_call tokens ≡ false
    → begins_string tokens ≡ false → IsTrue (is_missing name v) → left ≡ length v
    → IsFault (behind rule.prim) rule.prim below tokens (NoReading left)
dot_missed below tokens u v said left n d e f g l =
    let same : tokens ≡ n.token ∷ (record { span = d.span; kind = lexeme.Sym sign.Dot } ∷ v) =
    n.same ∙ ap (λ (z : List Token). n.token ∷ z) d.same in
    subst (λ (m : ℕ). IsFault (behind rule.prim) rule.prim below tokens (NoReading m)) (sym l)
    (subst (λ (z : List Token). IsFault (behind rule.prim) rule.prim below z (NoReading (length v)))
    (sym same)
    (dot_missed_here below n.token d.span v n.of_class
    (sym (ap (λ (z : List Token). begins_call z) same) ∙ e)
    (sym (ap (λ (z : List Token). begins_string z) same) ∙ f) g))

-- Parentheses

paren_here : (m : ℕ) (s e : Span) (v u : List Token) (x : Found)
    → IsOperandAt false rule.or m v (record { span = e; kind = lexeme.Sym sign.RightParen } ∷ u) x
    → IsRead (behind rule.prim) 1 rule.prim (suc m)
    (record { span = s; kind = lexeme.Sym sign.LeftParen } ∷ v) u
    (operand (record { expr = x.expr; extent = from_to s e })) (from_to s e)
unfolding behind behind_at keyword_of is_intro is_called
paren_here m s e v u x o =
    subst (λ (z : Span). IsRead (behind rule.prim) 1 rule.prim (suc m)
    (record { span = s; kind = lexeme.Sym sign.LeftParen } ∷ v) u
    (operand (record { expr = x.expr; extent = z })) z)
    (span_from-append s o.done.front (record { span = e; kind = lexeme.Sym sign.RightParen } ∷ [])
    ∙ start_kept s e o.done.front)
    (is_read (widen language sound (take_token language sound (read_rule language sound
    (take_token language sound (choose language sound (sees_next language sound _)) refl) o.done
    refl
    refl (omega arith)) refl) (omega arith)) refl)

pub paren_read : (m : ℕ) (tokens v w u : List Token) (s : Span) (x y : Found)
    → IsNext (lexeme.Sym sign.LeftParen) tokens v → IsOperandAt false rule.or m v w x
    → IsNext (lexeme.Sym sign.RightParen) w u → s ≡ from_to (span_at tokens) (span_at w)
    → as_operand y ≡ record { expr = x.expr; extent = s }
    → IsOperand rule.prim (suc m) tokens u y
paren_read m tokens v w u s x y n o k at_both h =
    subst (λ (z : Operand). IsRead (behind rule.prim) 1 rule.prim (suc m) tokens u
    (operand z) z.extent)
    (sym (h ∙ ap (λ (z : Span). record { expr = x.expr; extent = z })
    (at_both ∙ ap (λ (z : List Token). from_to (span_at z) (span_at w)) n.same
    ∙ ap (λ (z : List Token). from_to n.span (span_at z)) k.same)))
    (subst (λ (z : List Token). IsRead (behind rule.prim) 1 rule.prim (suc m) z u
    (operand (record { expr = x.expr; extent = from_to n.span k.span })) (from_to n.span k.span))
    (sym n.same)
    (paren_here m n.span k.span v u x
    (subst (λ (z : List Token). IsOperandAt false rule.or m v z x) k.same o)))

inner_missed_here : (m : ℕ) (s : Span) (v : List Token) (fault : Fault)
    → IsFault (behind_at false rule.or) rule.or m v fault
    → IsFault (behind rule.prim) rule.prim (suc m)
    (record { span = s; kind = lexeme.Sym sign.LeftParen } ∷ v) fault
unfolding behind behind_at keyword_of is_intro is_called
inner_missed_here m s v fault o =
    is_fault (take_token language sound (choose language sound (sees_next language sound _)) refl)
    o refl refl (omega arith)

pub inner_missed : (m : ℕ) (tokens v : List Token) (fault : Fault)
    → IsNext (lexeme.Sym sign.LeftParen) tokens v
    → IsFault (behind_at false rule.or) rule.or m v fault
    → IsFault (behind rule.prim) rule.prim (suc m) tokens fault
inner_missed m tokens v fault n o =
    subst (λ (z : List Token). IsFault (behind rule.prim) rule.prim (suc m) z fault) (sym n.same)
    (inner_missed_here m n.span v fault o)

close_missed_here : (m : ℕ) (s : Span) (v w : List Token) (x : Found)
    → IsOperandAt false rule.or m v w x → IsTrue (is_missing (mark sign.RightParen) w)
    → IsFault (behind rule.prim) rule.prim (suc m)
    (record { span = s; kind = lexeme.Sym sign.LeftParen } ∷ v) (NoReading (length w))
unfolding behind behind_at keyword_of is_intro is_called
close_missed_here m s v w x o h =
    is_missed (read_rule language sound (take_token language sound
    (choose language sound (sees_next language sound _)) refl) o.done refl refl (omega arith))
    (sees_missing (mark sign.RightParen ∷ []) w (both_missing _ _ h refl)) refl (omega arith)

pub close_missed : (m : ℕ) (tokens v w : List Token) (x : Found) (left : ℕ)
    → IsNext (lexeme.Sym sign.LeftParen) tokens v → IsOperandAt false rule.or m v w x
    → IsTrue (is_missing (mark sign.RightParen) w) → left ≡ length w
    → IsFault (behind rule.prim) rule.prim (suc m) tokens (NoReading left)
close_missed m tokens v w x left n o h e =
    subst (λ (k : ℕ). IsFault (behind rule.prim) rule.prim (suc m) tokens (NoReading k)) (sym e)
    (subst (λ (z : List Token). IsFault (behind rule.prim) rule.prim (suc m) z
    (NoReading (length w)))
    (sym n.same) (close_missed_here m n.span v w x o h))

paren_deep_here : (s : Span) (v : List Token)
    → IsFault (behind rule.prim) rule.prim 0
    (record { span = s; kind = lexeme.Sym sign.LeftParen } ∷ v)
    (TooDeep (length (record { span = s; kind = lexeme.Sym sign.LeftParen } ∷ v)))
unfolding behind behind_at keyword_of is_intro is_called
paren_deep_here s v =
    is_barred_here (choose language sound (sees_next language sound _)) refl (omega arith)

pub paren_deep : (below : ℕ) (tokens v : List Token) (left : ℕ) → below ≡ 0
    → IsNext (lexeme.Sym sign.LeftParen) tokens v → left ≡ length tokens
    → IsFault (behind rule.prim) rule.prim below tokens (TooDeep left)
paren_deep below tokens v left e n l =
    subst (λ (m : ℕ). IsFault (behind rule.prim) rule.prim below tokens (TooDeep m)) (sym l)
    (subst (λ (m : ℕ). IsFault (behind rule.prim) rule.prim m tokens (TooDeep (length tokens)))
    (sym e)
    (subst (λ (z : List Token). IsFault (behind rule.prim) rule.prim 0 z (TooDeep (length z)))
    (sym n.same) (paren_deep_here n.span v)))

-- One level less is left inside.
pub one_less : (below : ℕ) → (below ≡ 0 → ⊥) → suc (below - 1) ≡ below
one_less zero h = absurd (h refl)
one_less (suc m) h = omega arith

-- Nothing that an operand begins with

word_missed : (below : ℕ) (s : Span) (v : List Token) → IsTrue (is_missing (mark sign.LeftParen) v)
    → IsFault (behind rule.prim) rule.prim below
    (record { span = s; kind = lexeme.Word (codes "mod") } ∷ v) (NoReading (length v))
unfolding behind behind_at keyword_of is_intro is_called
word_missed below s v h =
    is_fault (choose language sound (sees_next language sound _))
    (is_missed {after = behind rule.call} {r = rule.call}
    (take_token language sound (choose language sound (sees_next language sound _)) refl)
    (sees_missing (mark sign.LeftParen ∷ []) v (both_missing _ _ h refl)) refl (omega arith))
    refl refl (omega arith)

convert_missed : (below : ℕ) (s : Span) (v : List Token) → IsTrue
    (is_missing (mark sign.LeftParen) v)
    → IsFault (behind rule.prim) rule.prim below
    (record { span = s; kind = lexeme.Word (codes "convert") } ∷ v) (NoReading (length v))
unfolding behind behind_at keyword_of is_intro is_called
convert_missed below s v h =
    is_fault (choose language sound (sees_next language sound _))
    (is_missed {after = behind rule.call} {r = rule.call}
    (take_token language sound (choose language sound (sees_next language sound _)) refl)
    (sees_missing (mark sign.LeftParen ∷ []) v (both_missing _ _ h refl)) refl (omega arith))
    refl refl (omega arith)

-- An introducer is a name.
intro_named : (w : List ℕ) → IsTrue (is_intro w) → IsTrue (not (is_reserved w))
intro_named w h = by_found (keyword_of w) refl
  where
    by_found : (o : Option AKeyword) → o ≡ keyword_of w
        → IsTrue (not (elim o [ Some k ↦ is_reserved_keyword k | None ↦ false ]))
    by_found None e = refl
    by_found (Some k) e =
        let no : false ≡ true = keyword_intro k
        ∙ ap (λ (y : List ℕ). is_intro y) (sym (keyword_exact (Some k) w e)) ∙ h in cc

-- What is no name is of none of these classes.
no_name : (k : Class) (tokens : List Token) → IsTrue (is_missing name tokens)
    → ((x : Lexeme) → IsTrue (is_lexeme_of k x) → IsTrue (is_lexeme_of name x))
    → IsTrue (is_missing k tokens)
no_name k [] h g = refl
no_name k (t ∷ v) h g = by_tests (is_lexeme_of k t.kind) (is_lexeme_of name t.kind) h
    (λ m. g t.kind m)
  where
    by_tests : (a b : Bool) → IsTrue (not b) → (IsTrue a → IsTrue b) → IsTrue (not a)
    by_tests true true e f = cc
    by_tests true false e f = absurd (bad (f refl))
      where
        bad : IsTrue false → ⊥
        bad q = cc
    by_tests false b e f = refl

intro_is_name : (x : Lexeme) → IsTrue (is_lexeme_of intro x) → IsTrue (is_lexeme_of name x)
intro_is_name (lexeme.Word w) h = intro_named w h
intro_is_name _ h = cc

word_is_name : (text : List ℕ) → IsTrue (not (is_reserved text)) → (x : Lexeme)
    → IsTrue (is_lexeme_of (word text) x) → IsTrue (is_lexeme_of name x)
word_is_name text g (lexeme.Word w) h =
    subst (λ (y : List ℕ). IsTrue (not (is_reserved y))) (sym ((bytes_eq-Decides w text).0 h)) g
word_is_name text g _ h = cc

called_missing : (tokens : List Token) → IsTrue (is_missing name tokens)
    → IsTrue (is_missing (word (codes "mod")) tokens) → IsTrue (is_missing called tokens)
unfolding is_called
called_missing [] h g = refl
called_missing (t ∷ v) h g = by_kind t.kind h g
  where
    by_tests : (a b d : Bool) → IsTrue (not (not b)) → IsTrue (not a)
        → IsTrue (not (a || (not b && not d)))
    by_tests true b d e f = cc
    by_tests false true d e f = refl
    by_tests false false d e f = cc

    by_kind : (x : Lexeme) → IsTrue (not (is_lexeme_of name x))
        → IsTrue (not (is_lexeme_of (word (codes "mod")) x)) → IsTrue (not (is_lexeme_of called x))
    by_kind (lexeme.Word w) e f =
        by_tests (bytes_eq w (codes "mod")) (is_reserved w) (bytes_eq w (codes "cast")) e f
    by_kind (lexeme.Name w) e f = refl
    by_kind (lexeme.Int w) e f = refl
    by_kind (lexeme.Str w) e f = refl
    by_kind (lexeme.National w) e f = refl
    by_kind (lexeme.Hex w) e f = refl
    by_kind (lexeme.Sym w) e f = refl

otherwise_missing : (tokens : List Token) → IsTrue (is_missing called tokens)
    → IsTrue (is_missing called_otherwise tokens)
otherwise_missing [] h = refl
otherwise_missing (t ∷ v) h = by_kind t.kind h
  where
    by_tests : (a b : Bool) → IsTrue (not a) → IsTrue (not (a && b))
    by_tests true b e = cc
    by_tests false b e = refl

    by_kind : (x : Lexeme) → IsTrue (not (is_lexeme_of called x))
        → IsTrue (not (is_lexeme_of called_otherwise x))
    by_kind (lexeme.Word w) e =
        by_tests (is_called w) (not (bytes_eq w (codes "weight_string"))) e
    by_kind (lexeme.Name w) e = refl
    by_kind (lexeme.Int w) e = refl
    by_kind (lexeme.Str w) e = refl
    by_kind (lexeme.National w) e = refl
    by_kind (lexeme.Hex w) e = refl
    by_kind (lexeme.Sym w) e = refl

-- No string is next, so none of its classes is.
not_so : (b : Bool) → b ≡ false → IsTrue (not b)
not_so true e = cc
not_so false e = refl

strings_missing : (tokens : List Token) → begins_string tokens ≡ false
    → IsTrue (are_missing (str ∷ national ∷ hex ∷ []) tokens)
strings_missing [] e = refl
strings_missing (t ∷ v) e =
    let f : (is_lexeme_of str t.kind || (is_lexeme_of national t.kind || is_lexeme_of hex t.kind))
    ≡ false = right_false (is_lexeme_of intro t.kind && begins_text v) _ e in
    let g : (is_lexeme_of national t.kind || is_lexeme_of hex t.kind) ≡ false =
    right_false (is_lexeme_of str t.kind) _ f in
    both_missing _ _ (not_so (is_lexeme_of str t.kind) (left_false (is_lexeme_of str t.kind) _ f))
    (both_missing _ _
    (not_so (is_lexeme_of national t.kind) (left_false (is_lexeme_of national t.kind) _ g))
    (both_missing _ _ (not_so (is_lexeme_of hex t.kind)
    (right_false (is_lexeme_of national t.kind) _ g))
    refl))

-- All that an operand begins with.
abbrev all_begin : List Class
all_begin =
    name ∷ mark sign.LeftParen ∷ intro ∷ word (codes "cast") ∷ word (codes "count") ∷
    word (codes "trim") ∷ word (codes "substring") ∷ word (codes "weight_string") ∷
    word (codes "convert") ∷ called ∷ called_otherwise ∷ int ∷ word (codes "true") ∷
    word (codes "false") ∷ word (codes "null") ∷ str ∷ national ∷ hex ∷ []

parts_of : (a b : Bool) → IsTrue (a && b) → IsTrue a × IsTrue b
parts_of true b h = (refl, h)
parts_of false b h = absurd (cc)

all_missing : (tokens : List Token) → IsTrue (is_missing name tokens)
    → IsTrue (is_missing (mark sign.LeftParen) tokens) → begins_string tokens ≡ false
    → IsTrue (is_missing (word (codes "mod")) tokens)
    → IsTrue (is_missing (word (codes "convert")) tokens)
    → IsTrue (are_missing plain_literals tokens) → IsTrue (are_missing all_begin tokens)
unfolding keyword_of
all_missing tokens h p e m c l =
    let i : IsTrue (is_missing int tokens) × IsTrue (are_missing (word (codes "true")
    ∷ word (codes "false") ∷ word (codes "null") ∷ []) tokens) = parts_of
    (is_missing int tokens) _ l in
    let a : IsTrue (is_missing (word (codes "true")) tokens) × IsTrue (are_missing
    (word (codes "false") ∷ word (codes "null") ∷ []) tokens) =
    parts_of (is_missing (word (codes "true")) tokens) _ i.1 in
    let f : IsTrue (is_missing (word (codes "false")) tokens) × IsTrue (are_missing
    (word (codes "null") ∷ []) tokens) = parts_of (is_missing (word (codes "false")) tokens) _ a.1
    in
    let n : IsTrue (is_missing (word (codes "null")) tokens) × IsTrue true =
    parts_of (is_missing (word (codes "null")) tokens) true f.1 in
    let d : IsTrue (is_missing called tokens) = called_missing tokens h m in
    both_missing _ _ h (both_missing _ _ p
    (both_missing _ _ (no_name intro tokens h (λ x q. intro_is_name x q))
    (both_missing _ _ (no_name (word (codes "cast")) tokens h
    (λ x q. word_is_name (codes "cast") refl x q))
    (both_missing _ _ (no_name (word (codes "count")) tokens h
    (λ x q. word_is_name (codes "count") refl x q))
    (both_missing _ _ (no_name (word (codes "trim")) tokens h
    (λ x q. word_is_name (codes "trim") refl x q))
    (both_missing _ _ (no_name (word (codes "substring")) tokens h
    (λ x q. word_is_name (codes "substring") refl x q))
    (both_missing _ _ (no_name (word (codes "weight_string")) tokens h
    (λ x q. word_is_name (codes "weight_string") refl x q))
    (both_missing _ _ c (both_missing _ _ d (both_missing _ _ (otherwise_missing tokens d)
    (both_missing _ _ i.0 (both_missing _ _ a.0 (both_missing _ _ f.0 (both_missing _ _ n.0
    (strings_missing tokens e)))))))))))))))

none_missed : (below : ℕ) (tokens : List Token) → IsTrue (are_missing all_begin tokens)
    → IsFault (behind rule.prim) rule.prim below tokens (NoReading (length tokens))
unfolding behind behind_at keyword_of is_intro is_called
none_missed below tokens h =
    is_missed (enter language _ _ _) (sees_missing all_begin tokens h) refl (omega arith)

mod_paren : (s : Span) (v : List Token)
    → begins_call (record { span = s; kind = lexeme.Word (codes "mod") } ∷ v) ≡ false
    → IsTrue (is_missing (mark sign.LeftParen) v)
unfolding is_called
mod_paren s v e = other_missing true (is_missing (mark sign.LeftParen) v) refl e

convert_paren : (s : Span) (v : List Token)
    → begins_call (record { span = s; kind = lexeme.Word (codes "convert") } ∷ v) ≡ false
    → IsTrue (is_missing (mark sign.LeftParen) v)
unfolding is_called keyword_of
convert_paren s v e = other_missing true (is_missing (mark sign.LeftParen) v) refl e

pub nothing_read : (below : ℕ) (tokens rest : List Token) (left : ℕ) → IsMissingAt tokens rest
    → begins_call tokens ≡ false → IsTrue (is_missing (mark sign.LeftParen) tokens)
    → begins_string tokens ≡ false → IsTrue (are_missing plain_literals tokens)
    → IsTrue (is_missing name tokens) → left ≡ length rest
    → IsFault (behind rule.prim) rule.prim below tokens (NoReading left)
nothing_read below tokens rest left m c p e l h at_left =
    subst (λ (k : ℕ). IsFault (behind rule.prim) rule.prim below tokens (NoReading k)) (sym at_left)
    (by_place m)
  where
    by_place : IsMissingAt tokens rest
        → IsFault (behind rule.prim) rule.prim below tokens (NoReading (length rest))
    by_place (inl n) = subst (λ (z : List Token). IsFault (behind rule.prim) rule.prim below z
        (NoReading (length rest))) (sym n.same) (word_missed below n.span rest
        (mod_paren n.span rest (sym (ap (λ (z : List Token). begins_call z) n.same) ∙ c)))
    by_place (inr (inl n)) = subst (λ (z : List Token). IsFault (behind rule.prim) rule.prim below z
        (NoReading (length rest))) (sym n.same) (convert_missed below n.span rest
        (convert_paren n.span rest (sym (ap (λ (z : List Token). begins_call z) n.same) ∙ c)))
    by_place (inr (inr n)) =
        let q : IsTrue (is_missing (word (codes "mod")) tokens)
        × IsTrue (are_missing (word (codes "convert") ∷ []) tokens) =
        parts_of (is_missing (word (codes "mod")) tokens) _ n.1 in
        let r : IsTrue (is_missing (word (codes "convert")) tokens) × IsTrue true =
        parts_of (is_missing (word (codes "convert")) tokens) true q.1 in
        subst (λ (z : List Token). IsFault (behind rule.prim) rule.prim below tokens
        (NoReading (length z))) (sym n.0)
        (none_missed below tokens (all_missing tokens h p e q.0 r.0 l))
