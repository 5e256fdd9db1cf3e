-- The ways through the functions that read an operand.
use Rattle.std.proofs.Common.{◌≡◌, ◌⊎◌, refl, sym, ap, ◌∙◌, subst, inl, inr, ℕ, zero, suc, ◌+◌, ◌<◌}
use Rattle.std.proofs.Common.{◌≤◌, Bool, true, false, not, ◌&&◌, ◌||◌, List, [], ◌∷◌, ◌++◌}
use Rattle.std.proofs.Common.{append-nil, IsTrue, length, map, Option, Some, None, arith, codes}
use Rattle.std.specs.List.{list_any}
use Rattle.std.specs.Str.{bytes_eq}
use Rattle.std.specs.Prelude.{ℤ}
use Rattle.std.proofs.lemmas.Slice.Eq.{bytes_eq-Decides}
use Rattle.mc_base.specs.declared.span.Span.{Span}
use Rattle.mc_token.specs.declared.lexeme.Lexeme.{Lexeme}
use Rattle.mc_token.specs.declared.lexeme.Lexeme.TheVariants as lexeme
use Rattle.mc_token.specs.declared.lexeme.Symbol.TheVariants as sign
use Rattle.mc_token.specs.declared.lexeme.Token.{Token}
use Rattle.mc_token.specs.Keywords.{keyword_of}
use Rattle.mc_grammar.specs.Grammar.{Symbol, one, rule as a_rule}
use Rattle.mc_grammar.specs.Reading.{leaf, IsOneOf}
use Rattle.mc_grammar.specs.Ahead.{Ahead, every, is_part, BeginsWhole, MeetsWhole}
use Rattle.mc_grammar.specs.Language.{Reads}
use Rattle.mc_grammar.specs.Descent.{Allows, Alike}
use Rattle.mc_grammar.specs.Places.{Place, behind_next, before, all_pass, all_out, is_met}
use Rattle.mc_grammar.specs.Places.{is_met_whole, stands_behind, Sees, Inside, Done, Fails}
use Rattle.mc_grammar.specs.Places.{IsTooDeep}
use Rattle.mc_grammar.specs.Completions.{completion}
use Rattle.mc_grammar.specs.Nest.{Marked, bound, free}
use Rattle.mc_grammar.specs.Room.{Roomed, Admitted, free_completions}
use Rattle.mc_grammar.proofs.Ahead.{begins_part}
use Rattle.mc_grammar.proofs.Completing.{completes}
use Rattle.mc_grammar.proofs.Paths.{allows_end}
use Rattle.mc_grammar.proofs.Steps.{reads_closed}
use Rattle.mc_grammar.proofs.Seeing.{sees_next, sees_two}
use Rattle.mc_grammar.proofs.Inside.{enter}
use Rattle.mc_grammar.proofs.Ways as step
use Rattle.mc_grammar.proofs.Ways.{choose, look, take_token, read_rule, read_rule_far, widen}
use Rattle.mc_sql.specs.Classes.{Class, word, mark, name, called, called_otherwise, intro, int, str}
use Rattle.mc_sql.specs.Classes.{national, hex, is_reserved, is_intro, is_called, is_lexeme_of}
use Rattle.mc_token.specs.Marks.{mark_text}
use Rattle.mc_sql.proofs.Spellings.{spelled, spelled-spelling}
use Rattle.mc_sql.specs.Completions.{completions}
use Rattle.mc_sql.specs.Rules as rule
use Rattle.mc_ast.specs.declared.expr.Form.{Form}
use Rattle.mc_ast.specs.declared.expr.Form.TheVariants.{Int, True, False, Null, Name, Qualified}
use Rattle.mc_ast.specs.Grouping.{whole}
use Rattle.mc_ast.specs.Spans.{from_to, span_from, span_of}
use Rattle.mc_ast.specs.Values.{Value, Operand, operand, lexeme_text}
use Rattle.mc_parse.specs.declared.fault.Fault.{Fault}
use Rattle.mc_parse.specs.declared.fault.Fault.TheVariants.{NoReading, TooDeep, NoMemory}
use Rattle.mc_parse.specs.declared.operand.Operand.{Operand as Found}
use Rattle.mc_parse.specs.Language.{language, at, behind, behind_at}
use Rattle.mc_parse.specs.Place.{is_missing, are_missing, span_at, IsNext, IsTextOf}
use Rattle.mc_parse.specs.Primary.{is_caller, begins_call, begins_text, begins_string}
use Rattle.mc_parse.specs.Primary.{plain_literals, IsMissingAt}
use Rattle.mc_parse.specs.Read.{IsRead, Cause, IsFault, as_operand, IsOperand, IsOperandAt}
use Rattle.mc_parse.proofs.Ways.{sound, complete, both_missing, sees_missing, is_read, is_fault}
use Rattle.mc_parse.proofs.Ways.{is_missed, is_barred_here, read_takes}
use Rattle.mc_parse.proofs.NameWays.{only_next}

-- A token that a rule can begin with is taken

-- The end of the tokens is among what may follow.
ends : (after : Ahead (Admitted Class)) → IsTrue (is_part language.tables (None ∷ []) after)
    → Allows language after []
ends after h = record {
  begins = λ w p. begins_part language.grammar language.tables sound.covers (None ∷ []) after w h
      ((allows_end language sound).begins w p);
}

-- A rule goes on behind a token that one of its alternatives begins with.
begins_with : (r : rule.Rule) (below : ℕ) (a : rule.Alternative) (k : Class)
    (ss : List (Symbol (Admitted Class) (Roomed rule.Rule))) (x : Marked Token)
    → IsOneOf (record { what = a; room = suc below }) (language.grammar.alternatives (at below r))
    → language.grammar.symbols (record { what = a; room = suc below })
    ≡ one (record { class = k; has_room = true }) ∷ ss
    → IsTrue (language.grammar.is_of (record { class = k; has_room = true }) x)
    → Reads language (a_rule (at below r) ∷ []) (x ∷ completion (free_completions completions) ss)
begins_with r below a k ss x i e h =
    reads_closed language (at below r) (record { what = a; room = suc below }) []
    (x ∷ completion (free_completions completions) ss) i
    (subst (λ (zz : List (Symbol (Admitted Class) (Roomed rule.Rule))). Reads language (zz ++ [])
    (x ∷ completion (free_completions completions) ss)) (sym e) begun)
  where
    rest : Reads language (ss ++ []) (completion (free_completions completions) ss)
    rest = subst (λ (zz : List (Symbol (Admitted Class) (Roomed rule.Rule))). Reads language zz
        (completion (free_completions completions) ss)) (sym (append-nil ss))
        (completes language (free_completions completions) complete ss)

    begun : Reads language ((one (record { class = k; has_room = true }) ∷ ss) ++ [])
        (x ∷ completion (free_completions completions) ss)
    begun = record {
      forest = leaf x rest.forest;
      fits = (h, rest.fits);
      same_tokens = ap (λ (z : List (Marked Token)). x ∷ z) rest.same_tokens;
    }

not_empty : (f w : List Token) (t : Token) (v : List Token) → t ∷ v ≡ f ++ w
    → (f ≡ [] → w ≡ t ∷ v → ⊥) → 1 ≤ length f
not_empty [] w t v e h = absurd (h refl (sym e))
not_empty (u ∷ f) w t v e h = omega arith

fails_past : (r : rule.Rule) (below : ℕ) (a : rule.Alternative) (k : Class)
    (ss : List (Symbol (Admitted Class) (Roomed rule.Rule))) (t : Token) (v w : List Token)
    → IsOneOf (record { what = a; room = suc below }) (language.grammar.alternatives (at below r))
    → language.grammar.symbols (record { what = a; room = suc below })
    ≡ one (record { class = k; has_room = true }) ∷ ss
    → IsTrue (is_lexeme_of k t.kind) → IsTrue (is_part language.tables (None ∷ []) (behind r))
    → (o : Fails language (behind r) (at below r) (t ∷ v) w) → 1 ≤ length o.front
fails_past r below a k ss t v w i e h g o =
    not_empty o.front w t v o.split (λ none rest. stopped none rest)
  where
    stopped : o.front ≡ [] → w ≡ t ∷ v → ⊥
    stopped none rest =
        o.stuck.stops [] (free t ∷ completion (free_completions completions) ss) (ends (behind r) g)
        (subst (λ (z : List Token). Alike language 1
        (free t ∷ completion (free_completions completions) ss) z) (sym rest) (inl refl, tt))
        (subst (λ (z : List Token). Reads language (a_rule (at below r) ∷ [])
        (map language.free z ++ (free t ∷ completion (free_completions completions) ss))) (sym none)
        (begins_with r below a k ss (free t) i e h))

deep_past : (r : rule.Rule) (below : ℕ) (a : rule.Alternative) (k : Class)
    (ss : List (Symbol (Admitted Class) (Roomed rule.Rule))) (t : Token) (v w : List Token)
    → IsOneOf (record { what = a; room = suc below }) (language.grammar.alternatives (at below r))
    → language.grammar.symbols (record { what = a; room = suc below })
    ≡ one (record { class = k; has_room = true }) ∷ ss
    → IsTrue (is_lexeme_of k t.kind) → IsTrue (is_part language.tables (None ∷ []) (behind r))
    → (o : IsTooDeep language (behind r) (at below r) (t ∷ v) w) → 1 ≤ length o.front
deep_past r below a k ss t v w i e h g o =
    not_empty o.front w t v o.split (λ none rest. stopped none (same_first (sym o.next ∙ rest)))
  where
    same_first : o.token ∷ o.behind ≡ t ∷ v → o.token ≡ t
    same_first q = cc

    stopped : o.front ≡ [] → o.token ≡ t → ⊥
    stopped none rest =
        o.deep.stops [] (completion (free_completions completions) ss) (ends (behind r) g)
        (subst (λ (z : List Token). Reads language (a_rule (at below r) ∷ [])
        (map language.bound z ++ (bound o.token ∷ completion (free_completions completions) ss)))
        (sym none)
        (subst (λ (z : Token). Reads language (a_rule (at below r) ∷ [])
        (bound z ∷ completion (free_completions completions) ss)) (sym rest)
        (begins_with r below a k ss (bound t) i e h)))

-- A rule is not read that all places want next, where more tokens were looked at.
pub is_fault_far : {after after' : Ahead (Admitted Class)} {n : ℕ} {r q : rule.Rule}
    {below below' : ℕ}
    {place : Place (Admitted Class) (Roomed rule.Rule) (Roomed rule.Alternative)}
    {places : List (Place (Admitted Class) (Roomed rule.Rule) (Roomed rule.Alternative))}
    {vs : List Value} {tokens front rest : List Token} {fault : Fault}
    → Inside language after n (at below r) (place ∷ places) vs tokens front rest
    → IsFault after' q below' rest fault
    → place ∷ places ≡ before (a_rule (at below' q)) (behind_next (place ∷ places))
    → IsTrue (all_pass language after (behind_next (place ∷ places)) after')
    → ((w : List Token) (o : Fails language after' (at below' q) rest w) → n ≤ length o.front + 1)
    → ((w : List Token) (o : IsTooDeep language after' (at below' q) rest w)
    → n ≤ length o.front + 1)
    → IsFault after r below tokens fault
is_fault_far {after = after} {after' = after'} {r = r} {q = q} {below = below} {below' = below'}
    {place = place} {places = places} {tokens = tokens} {rest = rest} {fault = fault} p o e h lt
    le =
    record { cause = by_cause fault o.cause }
  where
    by_cause : (f : Fault) → Cause after' q below' rest f → Cause after r below tokens f
    by_cause (NoReading left) c = record {
      rest = c.rest;
      fails = step.rule_fails_far language sound (free_completions completions) complete p c.fails e
          h (lt c.rest c.fails);
      place = c.place;
    }
    by_cause (TooDeep left) c = record {
      rest = c.rest;
      deep = step.rule_too_deep_far language sound (free_completions completions) complete p c.deep
          e
          h (le c.rest c.deep);
      place = c.place;
    }
    by_cause NoMemory c = tt

-- What is read, with its form

at_next : (x : Lexeme) (form : Form) (below : ℕ) (tokens rest : List Token) (s : Span) (y : Found)
    → (n : IsNext x tokens rest)
    → IsRead (behind rule.prim) 1 rule.prim below (record { span = n.span; kind = x } ∷ rest) rest
    (operand (whole n.span form)) n.span
    → s ≡ span_at tokens → as_operand y ≡ whole s form
    → IsOperand rule.prim below tokens rest y
at_next x form below tokens rest s y n p at_token h =
    subst (λ (z : Operand). IsRead (behind rule.prim) 1 rule.prim below tokens rest
    (operand z) z.extent)
    (sym h)
    (subst (λ (z : Span). IsRead (behind rule.prim) 1 rule.prim below tokens rest
    (operand (whole z form)) z) (sym (at_token ∙ ap span_at n.same))
    (subst (λ (z : List Token). IsRead (behind rule.prim) 1 rule.prim below z rest
    (operand (whole n.span form)) n.span) (sym n.same) p))

-- Literals

number_here : (below : ℕ) (s : Span) (n : ℤ) (v : List Token)
    → IsRead (behind rule.prim) 1 rule.prim below (record { span = s; kind = lexeme.Int n } ∷ v) v
    (operand (whole s (Int n))) s
unfolding behind behind_at keyword_of is_intro is_called
number_here below s n v =
    is_read (widen language sound (take_token language sound
    (choose language sound (sees_next language sound _)) refl) (omega arith)) refl

pub number_read : (below : ℕ) (n : ℤ) (tokens rest : List Token) (s : Span) (y : Found)
    → IsNext (lexeme.Int n) tokens rest → s ≡ span_at tokens → as_operand y ≡ whole s (Int n)
    → IsOperand rule.prim below tokens rest y
number_read below n tokens rest s y next e h =
    at_next (lexeme.Int n) (Int n) below tokens rest s y next
    (number_here below next.span n rest) e h

true_here : (below : ℕ) (s : Span) (v : List Token)
    → IsRead (behind rule.prim) 1 rule.prim below
    (record { span = s; kind = lexeme.Word (codes "true") } ∷ v) v
    (operand (whole s True)) s
unfolding behind behind_at keyword_of is_intro is_called
true_here below s v =
    is_read (widen language sound (take_token language sound
    (choose language sound (sees_next language sound _)) refl) (omega arith)) refl

pub true_read : (below : ℕ) (tokens rest : List Token) (s : Span) (y : Found)
    → IsNext (lexeme.Word (codes "true")) tokens rest → s ≡ span_at tokens
    → as_operand y ≡ whole s True
    → IsOperand rule.prim below tokens rest y
true_read below tokens rest s y next e h =
    at_next (lexeme.Word (codes "true")) True below tokens rest s y next
    (true_here below next.span rest) e h

false_here : (below : ℕ) (s : Span) (v : List Token)
    → IsRead (behind rule.prim) 1 rule.prim below
    (record { span = s; kind = lexeme.Word (codes "false") } ∷ v) v
    (operand (whole s False)) s
unfolding behind behind_at keyword_of is_intro is_called
false_here below s v =
    is_read (widen language sound (take_token language sound
    (choose language sound (sees_next language sound _)) refl) (omega arith)) refl

pub false_read : (below : ℕ) (tokens rest : List Token) (s : Span) (y : Found)
    → IsNext (lexeme.Word (codes "false")) tokens rest → s ≡ span_at tokens
    → as_operand y ≡ whole s False
    → IsOperand rule.prim below tokens rest y
false_read below tokens rest s y next e h =
    at_next (lexeme.Word (codes "false")) False below tokens rest s y next
    (false_here below next.span rest) e h

null_here : (below : ℕ) (s : Span) (v : List Token)
    → IsRead (behind rule.prim) 1 rule.prim below
    (record { span = s; kind = lexeme.Word (codes "null") } ∷ v) v
    (operand (whole s Null)) s
unfolding behind behind_at keyword_of is_intro is_called
null_here below s v =
    is_read (widen language sound (take_token language sound
    (choose language sound (sees_next language sound _)) refl) (omega arith)) refl

pub null_read : (below : ℕ) (tokens rest : List Token) (s : Span) (y : Found)
    → IsNext (lexeme.Word (codes "null")) tokens rest → s ≡ span_at tokens
    → as_operand y ≡ whole s Null
    → IsOperand rule.prim below tokens rest y
null_read below tokens rest s y next e h =
    at_next (lexeme.Word (codes "null")) Null below tokens rest s y next
    (null_here below next.span rest) e h

-- Strings

not_false : (b : Bool) → IsTrue (not b) → b ≡ false
not_false true h = cc
not_false false h = refl

both_parts : (a b : Bool) → IsTrue (a && b) → IsTrue a × IsTrue b
both_parts true b h = (refl, h)
both_parts false b h = absurd (cc)

either : (a b : Bool) → IsTrue (a || b) → IsTrue a ⊎ IsTrue b
either true b h = inl refl
either false b h = inr h

neither : (a b : Bool) → (a || b) ≡ false → (a ≡ false) × (b ≡ false)
neither true b h = cc
neither false b h = (refl, h)

-- A class that a string may begin with.
abbrev string_class : Class → Bool
string_class (word text) = is_intro text
string_class str = true
string_class national = true
string_class hex = true
string_class intro = true
string_class _ = false

abbrev may_be_string : Option (Admitted Class) → Bool
may_be_string None = false
may_be_string (Some k) = string_class k.class

-- A class that a literal is of.
literal_class : (k : Class) (x : Lexeme)
    → IsTrue (is_lexeme_of str x || (is_lexeme_of national x || is_lexeme_of hex x))
    → IsTrue (is_lexeme_of k x) → IsTrue (string_class k)
literal_class k (lexeme.Word w) h m = cc
literal_class k (lexeme.Name w) h m = cc
literal_class k (lexeme.Int n) h m = cc
literal_class k (lexeme.Sym o) h m = cc
literal_class str (lexeme.Str w) h m = refl
literal_class _ (lexeme.Str w) h m = cc
literal_class national (lexeme.National w) h m = refl
literal_class _ (lexeme.National w) h m = cc
literal_class hex (lexeme.Hex w) h m = refl
literal_class _ (lexeme.Hex w) h m = cc

-- What stands behind a class.
abbrev pub stands : Class → List Token → Bool
stands k v = stands_behind language
    (language.tables.behind (record { class = k; has_room = true })) v

-- A string stands behind no name and no word of a call.
text_behind : (k : Class) (v : List Token) → IsTrue (begins_text v)
    → IsTrue (stands name v || stands called v) → ⊥
unfolding behind behind_at keyword_of is_intro is_called
text_behind k [] h m = cc
text_behind k (u ∷ v) h m = by_kind u.span u.kind h m
  where
    by_kind : (s : Span) (x : Lexeme) → IsTrue (begins_text (record { span = s; kind = x } ∷ v))
        → IsTrue (stands name (record { span = s; kind = x } ∷ v)
        || stands called (record { span = s; kind = x } ∷ v)) → ⊥
    by_kind s (lexeme.Str w) g n = cc
    by_kind s (lexeme.Hex w) g n = cc
    by_kind s (lexeme.Word w) g n = cc
    by_kind s (lexeme.Name w) g n = cc
    by_kind s (lexeme.Int w) g n = cc
    by_kind s (lexeme.National w) g n = cc
    by_kind s (lexeme.Sym w) g n = cc

left_true : (a b : Bool) → IsTrue a → IsTrue (a || b)
left_true true b h = refl
left_true false b h = cc

right_true : (a b : Bool) → IsTrue b → IsTrue (a || b)
right_true true b h = refl
right_true false b h = h

-- A class that an introducer before a string is of.
intro_class : (k : Class) (x : Lexeme) (v : List Token) → IsTrue (is_lexeme_of intro x)
    → IsTrue (begins_text v) → IsTrue (is_lexeme_of k x) → IsTrue (stands k v)
    → IsTrue (string_class k)
intro_class (word text) (lexeme.Word w) v h g m b =
    subst (λ (y : List ℕ). IsTrue (is_intro y)) ((bytes_eq-Decides w text).0 m) h
intro_class name (lexeme.Word w) v h g m b =
    absurd (text_behind name v g (left_true (stands name v) (stands called v) b))
intro_class called (lexeme.Word w) v h g m b =
    absurd (text_behind name v g (right_true (stands name v) (stands called v) b))
intro_class called_otherwise (lexeme.Word w) v h g m b =
    absurd (text_behind name v g (right_true (stands name v) (stands called v) b))
intro_class intro (lexeme.Word w) v h g m b = refl
intro_class str (lexeme.Word w) v h g m b = cc
intro_class national (lexeme.Word w) v h g m b = cc
intro_class hex (lexeme.Word w) v h g m b = cc
intro_class int (lexeme.Word w) v h g m b = cc
intro_class (mark o) (lexeme.Word w) v h g m b = cc
intro_class k (lexeme.Name w) v h g m b = cc
intro_class k (lexeme.Int w) v h g m b = cc
intro_class k (lexeme.Str w) v h g m b = cc
intro_class k (lexeme.National w) v h g m b = cc
intro_class k (lexeme.Hex w) v h g m b = cc
intro_class k (lexeme.Sym w) v h g m b = cc

sees_string : (t : Token) (v : List Token) → IsTrue (begins_string (t ∷ v))
    → Sees language 2 (t ∷ v) (λ k. may_be_string k)
sees_string t v h = record {
  sees = λ w same k m. lets k ((sees_two language sound (t ∷ v)).sees w same k m);
}
  where
    lets : (k : Option (Admitted Class)) → IsTrue (is_met_whole language k (t ∷ v))
        → IsTrue (may_be_string k)
    lets None m = cc
    lets (Some k) m =
        let q : IsTrue (is_lexeme_of k.class t.kind) × IsTrue (stands k.class v) =
        both_parts (is_lexeme_of k.class t.kind) (stands k.class v) m in
        elim (either (is_lexeme_of intro t.kind && begins_text v)
        (is_lexeme_of str t.kind || (is_lexeme_of national t.kind || is_lexeme_of hex t.kind)) h) [
          | inl i ↦ intro_class k.class t.kind v
              (both_parts (is_lexeme_of intro t.kind) (begins_text v) i).0
              (both_parts (is_lexeme_of intro t.kind) (begins_text v) i).1 q.0 q.1
          | inr l ↦ literal_class k.class t.kind l q.0
        ]

string_here : (below : ℕ) (t : Token) (v rest : List Token) (x : Found)
    → IsTrue (begins_string (t ∷ v)) → IsOperand rule.string below (t ∷ v) rest x
    → IsOperand rule.prim below (t ∷ v) rest x
unfolding behind behind_at keyword_of is_intro is_called
string_here below t v rest x h o =
    let lt : 1 ≤ length o.done.front = read_takes o refl in
    is_read (read_rule_far language sound (choose language sound (sees_string t v h)) o.done refl
    refl
    (omega (arith, lt))) o.whole

pub string_read : (below : ℕ) (tokens rest : List Token) (x : Found)
    → IsTrue (begins_string tokens) → IsOperand rule.string below tokens rest x
    → IsOperand rule.prim below tokens rest x
string_read below [] rest x h o = cc
string_read below (t ∷ v) rest x h o = string_here below t v rest x h o

-- Of which class of a string the first token is.
string_first : (t : Token) (v : List Token) → IsTrue (begins_string (t ∷ v))
    → IsTrue (is_lexeme_of intro t.kind) ⊎ (IsTrue (is_lexeme_of str t.kind)
    ⊎ (IsTrue (is_lexeme_of national t.kind) ⊎ IsTrue (is_lexeme_of hex t.kind)))
string_first t v h =
    elim (either (is_lexeme_of intro t.kind && begins_text v)
    (is_lexeme_of str t.kind || (is_lexeme_of national t.kind || is_lexeme_of hex t.kind)) h) [
      | inl i ↦ inl (both_parts (is_lexeme_of intro t.kind) (begins_text v) i).0
      | inr l ↦ inr (elim (either (is_lexeme_of str t.kind)
          (is_lexeme_of national t.kind || is_lexeme_of hex t.kind) l) [
            | inl i ↦ inl i
            | inr k ↦ inr (either (is_lexeme_of national t.kind) (is_lexeme_of hex t.kind) k)
          ])
    ]

string_fails_past : (below : ℕ) (t : Token) (v w : List Token) → IsTrue (is_lexeme_of intro t.kind)
    ⊎ (IsTrue (is_lexeme_of str t.kind)
    ⊎ (IsTrue (is_lexeme_of national t.kind) ⊎ IsTrue (is_lexeme_of hex t.kind)))
    → (o : Fails language (behind rule.string) (at below rule.string) (t ∷ v) w)
    → 1 ≤ length o.front
unfolding behind behind_at keyword_of is_intro is_called
string_fails_past below t v w (inl h) o =
    fails_past rule.string below rule.intro_string (intro) _ t v w
    (inr (inr (inr (inl refl)))) refl h refl o
string_fails_past below t v w (inr (inl h)) o =
    fails_past rule.string below rule.plain_string (str) _ t v w (inl refl) refl h refl o
string_fails_past below t v w (inr (inr (inl h))) o =
    fails_past rule.string below rule.national_string (national) _ t v w
    (inr (inl refl)) refl h refl o
string_fails_past below t v w (inr (inr (inr h))) o =
    fails_past rule.string below rule.hex_string (hex) _ t v w (inr (inr (inl refl))) refl h refl o

string_deep_past : (below : ℕ) (t : Token) (v w : List Token) → IsTrue (is_lexeme_of intro t.kind)
    ⊎ (IsTrue (is_lexeme_of str t.kind)
    ⊎ (IsTrue (is_lexeme_of national t.kind) ⊎ IsTrue (is_lexeme_of hex t.kind)))
    → (o : IsTooDeep language (behind rule.string) (at below rule.string) (t ∷ v) w)
    → 1 ≤ length o.front
unfolding behind behind_at keyword_of is_intro is_called
string_deep_past below t v w (inl h) o =
    deep_past rule.string below rule.intro_string (intro) _ t v w
    (inr (inr (inr (inl refl)))) refl h refl o
string_deep_past below t v w (inr (inl h)) o =
    deep_past rule.string below rule.plain_string (str) _ t v w (inl refl) refl h refl o
string_deep_past below t v w (inr (inr (inl h))) o =
    deep_past rule.string below rule.national_string (national) _ t v w
    (inr (inl refl)) refl h refl o
string_deep_past below t v w (inr (inr (inr h))) o =
    deep_past rule.string below rule.hex_string (hex) _ t v w (inr (inr (inl refl))) refl h refl o

string_missed_here : (below : ℕ) (t : Token) (v : List Token) (fault : Fault)
    → IsTrue (begins_string (t ∷ v)) → IsFault (behind rule.string) rule.string below (t ∷ v) fault
    → IsFault (behind rule.prim) rule.prim below (t ∷ v) fault
unfolding behind behind_at keyword_of is_intro is_called
string_missed_here below t v fault h o =
    is_fault_far (choose language sound (sees_string t v h)) o refl refl
    (λ w f. let lt : 1 ≤ length f.front = string_fails_past below t v w (string_first t v h) f in
    omega (arith, lt))
    (λ w f. let lt : 1 ≤ length f.front = string_deep_past below t v w (string_first t v h) f in
    omega (arith, lt))

pub string_missed : (below : ℕ) (tokens : List Token) (fault : Fault) → IsTrue
    (begins_string tokens)
    → IsFault (behind rule.string) rule.string below tokens fault
    → IsFault (behind rule.prim) rule.prim below tokens fault
string_missed below [] fault h o = cc
string_missed below (t ∷ v) fault h o = string_missed_here below t v fault h o

-- Calls

-- A class that the word of a call may be of.
abbrev call_class : Class → Bool
call_class (word text) = is_caller (lexeme.Word text)
call_class called = true
call_class called_otherwise = true
call_class _ = false

abbrev may_be_call : Option (Admitted Class) → Bool
may_be_call None = false
may_be_call (Some k) = call_class k.class

-- A parenthesis that opens stands behind no name and no introducer.
paren_behind : (s : Span) (u : List Token)
    → IsTrue (stands name (record { span = s; kind = lexeme.Sym sign.LeftParen } ∷ u)
    || stands intro (record { span = s; kind = lexeme.Sym sign.LeftParen } ∷ u)) → ⊥
unfolding behind behind_at keyword_of is_intro is_called
paren_behind s u m = cc

caller_class : (k : Class) (x : Lexeme) (s : Span) (u : List Token) → IsTrue (is_caller x)
    → IsTrue (is_lexeme_of k x)
    → IsTrue (stands k (record { span = s; kind = lexeme.Sym sign.LeftParen } ∷ u))
    → IsTrue (call_class k)
caller_class (word text) (lexeme.Word w) s u h m b =
    subst (λ (y : List ℕ). IsTrue (is_caller (lexeme.Word y))) ((bytes_eq-Decides w text).0 m) h
caller_class name (lexeme.Word w) s u h m b = absurd (paren_behind s u (left_true
    (stands name (record { span = s; kind = lexeme.Sym sign.LeftParen } ∷ u))
    (stands intro (record { span = s; kind = lexeme.Sym sign.LeftParen } ∷ u)) b))
caller_class intro (lexeme.Word w) s u h m b = absurd (paren_behind s u (right_true
    (stands name (record { span = s; kind = lexeme.Sym sign.LeftParen } ∷ u))
    (stands intro (record { span = s; kind = lexeme.Sym sign.LeftParen } ∷ u)) b))
caller_class called (lexeme.Word w) s u h m b = refl
caller_class called_otherwise (lexeme.Word w) s u h m b = refl
caller_class str (lexeme.Word w) s u h m b = cc
caller_class national (lexeme.Word w) s u h m b = cc
caller_class hex (lexeme.Word w) s u h m b = cc
caller_class int (lexeme.Word w) s u h m b = cc
caller_class (mark o) (lexeme.Word w) s u h m b = cc
caller_class k (lexeme.Name w) s u h m b = cc
caller_class k (lexeme.Int w) s u h m b = cc
caller_class k (lexeme.Str w) s u h m b = cc
caller_class k (lexeme.National w) s u h m b = cc
caller_class k (lexeme.Hex w) s u h m b = cc
caller_class k (lexeme.Sym w) s u h m b = cc

sees_call : (t : Token) (s : Span) (u : List Token) → IsTrue (is_caller t.kind)
    → Sees language 2 (t ∷ (record { span = s; kind = lexeme.Sym sign.LeftParen } ∷ u))
    (λ k. may_be_call k)
sees_call t s u h = record {
  sees = λ w same k m. lets k ((sees_two language sound
      (t ∷ (record { span = s; kind = lexeme.Sym sign.LeftParen } ∷ u))).sees w same k m);
}
  where
    lets : (k : Option (Admitted Class)) → IsTrue (is_met_whole language k
        (t ∷ (record { span = s; kind = lexeme.Sym sign.LeftParen } ∷ u)))
        → IsTrue (may_be_call k)
    lets None m = cc
    lets (Some k) m =
        let q : IsTrue (is_lexeme_of k.class t.kind)
        × IsTrue (stands k.class (record { span = s; kind = lexeme.Sym sign.LeftParen } ∷ u)) =
        both_parts (is_lexeme_of k.class t.kind)
        (stands k.class (record { span = s; kind = lexeme.Sym sign.LeftParen } ∷ u)) m in
        caller_class k.class t.kind s u h q.0 q.1

-- The word of a call and its parenthesis.
record IsCall (tokens : List Token) : Type 0 where
  token : Token
  span : Span
  rest : List Token
  same : tokens ≡ token ∷ (record { span = span; kind = lexeme.Sym sign.LeftParen } ∷ rest)
  is_call : IsTrue (is_caller token.kind)

one_mark : (o : _) → IsTrue (is_lexeme_of (mark sign.LeftParen) (lexeme.Sym o))
    → o ≡ sign.LeftParen
one_mark o h = sym (spelled-spelling o) ∙ ap spelled
    ((bytes_eq-Decides (mark_text o) (mark_text sign.LeftParen)).0 h)

call_of : (tokens : List Token) → IsTrue (begins_call tokens) → IsCall tokens
call_of [] h = cc
call_of (t ∷ v) h =
    let q : IsTrue (is_caller t.kind) × IsTrue (not (is_missing (mark sign.LeftParen) v)) =
    both_parts (is_caller t.kind) (not (is_missing (mark sign.LeftParen) v)) h in
    by_rest v q.1 q.0
  where
    by_kind : (s : Span) (x : Lexeme) (u : List Token)
        → IsTrue (not (not (is_lexeme_of (mark sign.LeftParen) x))) → IsTrue (is_caller t.kind)
        → IsCall (t ∷ (record { span = s; kind = x } ∷ u))
    by_kind s (lexeme.Sym o) u g c = record {
      token = t;
      span = s;
      rest = u;
      same = ap (λ z. t ∷ (record { span = s; kind = lexeme.Sym z } ∷ u)) (one_mark o
          (twice (is_lexeme_of (mark sign.LeftParen) (lexeme.Sym o)) g));
      is_call = c;
    }
      where
        twice : (b : Bool) → IsTrue (not (not b)) → IsTrue b
        twice true e = refl
        twice false e = cc
    by_kind s (lexeme.Word w) u g c = cc
    by_kind s (lexeme.Name w) u g c = cc
    by_kind s (lexeme.Int w) u g c = cc
    by_kind s (lexeme.Str w) u g c = cc
    by_kind s (lexeme.National w) u g c = cc
    by_kind s (lexeme.Hex w) u g c = cc

    by_rest : (v : List Token) → IsTrue (not (is_missing (mark sign.LeftParen) v))
        → IsTrue (is_caller t.kind) → IsCall (t ∷ v)
    by_rest [] g c = cc
    by_rest (p ∷ u) g c = by_kind p.span p.kind u g c

call_here : (below : ℕ) (t : Token) (s : Span) (u rest : List Token) (x : Found)
    → IsTrue (is_caller t.kind)
    → IsOperand rule.call below (t ∷ (record { span = s; kind = lexeme.Sym sign.LeftParen } ∷ u))
    rest x
    → IsOperand rule.prim below (t ∷ (record { span = s; kind = lexeme.Sym sign.LeftParen } ∷ u))
    rest x
unfolding behind behind_at keyword_of is_intro is_called
call_here below t s u rest x h o =
    let lt : 1 ≤ length o.done.front = read_takes o refl in
    is_read (read_rule_far language sound (choose language sound (sees_call t s u h)) o.done refl
    refl
    (omega (arith, lt))) o.whole

pub call_read : (below : ℕ) (tokens rest : List Token) (x : Found) → IsTrue (begins_call tokens)
    → IsOperand rule.call below tokens rest x → IsOperand rule.prim below tokens rest x
call_read below tokens rest x h o =
    let c : IsCall tokens = call_of tokens h in
    subst (λ (z : List Token). IsOperand rule.prim below z rest x) (sym c.same)
    (call_here below c.token c.span c.rest rest x c.is_call
    (subst (λ (z : List Token). IsOperand rule.call below z rest x) c.same o))

call_first : (x : Lexeme) → IsTrue (is_caller x) → IsTrue (is_lexeme_of called x)
    ⊎ (IsTrue (is_lexeme_of (word (codes "cast")) x) ⊎ IsTrue
    (is_lexeme_of (word (codes "convert")) x))
call_first x h =
    elim (either (is_lexeme_of called x)
    (is_lexeme_of (word (codes "cast")) x || is_lexeme_of (word (codes "convert")) x) h) [
      | inl i ↦ inl i
      | inr k ↦ inr (either (is_lexeme_of (word (codes "cast")) x)
          (is_lexeme_of (word (codes "convert")) x) k)
    ]

call_fails_past : (below : ℕ) (t : Token) (v w : List Token) → IsTrue (is_lexeme_of called t.kind)
    ⊎ (IsTrue (is_lexeme_of (word (codes "cast")) t.kind)
    ⊎ IsTrue (is_lexeme_of (word (codes "convert")) t.kind))
    → (o : Fails language (behind rule.call) (at below rule.call) (t ∷ v) w) → 1 ≤ length o.front
unfolding behind behind_at keyword_of is_intro is_called
call_fails_past below t v w (inl h) o =
    fails_past rule.call below rule.empty_call (called) _ t v w
    (inr (inr (inr (inr (inr (inr (inr (inr (inr (inl refl)))))))))) refl h refl o
call_fails_past below t v w (inr (inl h)) o =
    fails_past rule.call below rule.cast_binary_call (word (codes "cast")) _ t v w
    (inr (inr (inl refl))) refl h refl o
call_fails_past below t v w (inr (inr h)) o =
    fails_past rule.call below rule.convert_call (word (codes "convert")) _ t v w
    (inl refl) refl h refl o

call_deep_past : (below : ℕ) (t : Token) (v w : List Token) → IsTrue (is_lexeme_of called t.kind)
    ⊎ (IsTrue (is_lexeme_of (word (codes "cast")) t.kind)
    ⊎ IsTrue (is_lexeme_of (word (codes "convert")) t.kind))
    → (o : IsTooDeep language (behind rule.call) (at below rule.call) (t ∷ v) w)
    → 1 ≤ length o.front
unfolding behind behind_at keyword_of is_intro is_called
call_deep_past below t v w (inl h) o =
    deep_past rule.call below rule.empty_call (called) _ t v w
    (inr (inr (inr (inr (inr (inr (inr (inr (inr (inl refl)))))))))) refl h refl o
call_deep_past below t v w (inr (inl h)) o =
    deep_past rule.call below rule.cast_binary_call (word (codes "cast")) _ t v w
    (inr (inr (inl refl))) refl h refl o
call_deep_past below t v w (inr (inr h)) o =
    deep_past rule.call below rule.convert_call (word (codes "convert")) _ t v w
    (inl refl) refl h refl o

call_missed_here : (below : ℕ) (t : Token) (s : Span) (u : List Token) (fault : Fault)
    → IsTrue (is_caller t.kind)
    → IsFault (behind rule.call) rule.call below
    (t ∷ (record { span = s; kind = lexeme.Sym sign.LeftParen } ∷ u)) fault
    → IsFault (behind rule.prim) rule.prim below
    (t ∷ (record { span = s; kind = lexeme.Sym sign.LeftParen } ∷ u)) fault
unfolding behind behind_at keyword_of is_intro is_called
call_missed_here below t s u fault h o =
    is_fault_far (choose language sound (sees_call t s u h)) o refl refl
    (λ w f. let lt : 1 ≤ length f.front = call_fails_past below t _ w (call_first t.kind h) f in
    omega (arith, lt))
    (λ w f. let lt : 1 ≤ length f.front = call_deep_past below t _ w (call_first t.kind h) f in
    omega (arith, lt))

pub call_missed : (below : ℕ) (tokens : List Token) (fault : Fault) → IsTrue (begins_call tokens)
    → IsFault (behind rule.call) rule.call below tokens fault
    → IsFault (behind rule.prim) rule.prim below tokens fault
call_missed below tokens fault h o =
    let c : IsCall tokens = call_of tokens h in
    subst (λ (z : List Token). IsFault (behind rule.prim) rule.prim below z fault) (sym c.same)
    (call_missed_here below c.token c.span c.rest fault c.is_call
    (subst (λ (z : List Token). IsFault (behind rule.call) rule.call below z fault) c.same o))
