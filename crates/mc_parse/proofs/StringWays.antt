-- The ways through the functions that read strings.
use Rattle.std.proofs.Common.{◌≡◌, refl, sym, ap, ◌∙◌, subst, ℕ, suc, ◌+◌, ◌<◌, ◌≤◌, Bool, true}
use Rattle.std.proofs.Common.{false, not, ◌&&◌, List, [], ◌∷◌, ◌++◌, IsTrue, Option, Some, None}
use Rattle.std.proofs.Common.{length, drop, append_assoc, append-nil, arith}
use Rattle.mc_base.specs.declared.span.Span.{Span}
use Rattle.mc_token.specs.declared.lexeme.Lexeme.{Lexeme}
use Rattle.mc_token.specs.declared.lexeme.Lexeme.TheVariants as lexeme
use Rattle.mc_token.specs.declared.lexeme.Token.{Token}
use Rattle.mc_grammar.specs.Places.{is_met, Sees, Inside}
use Rattle.mc_grammar.specs.Chains.{Chain}
use Rattle.mc_grammar.specs.Room.{Admitted}
use Rattle.mc_grammar.proofs.Seeing.{sees_next}
use Rattle.mc_grammar.proofs.Inside.{enter}
use Rattle.mc_grammar.proofs.Links.{chain_start, chain_widen, chain_end, chain_step}
use Rattle.mc_grammar.proofs.Ways.{choose, take_token, read_rule, look, widen}
use Rattle.mc_sql.specs.Classes.{Class, word, mark, name, called, called_otherwise, intro, int, str}
use Rattle.mc_sql.specs.Classes.{national, hex, is_intro, is_lexeme_of}
use Rattle.mc_sql.specs.Rules as rule
use Rattle.mc_ast.specs.Grouping.{whole}
use Rattle.mc_ast.specs.Spans.{from_to, span_from, span_of}
use Rattle.mc_ast.specs.Values.{Value, Operand, operand, text, lexeme_text}
use Rattle.mc_ast.specs.declared.expr.Form.{Form}
use Rattle.mc_ast.specs.declared.expr.Form.TheVariants.{Str, National, Hex, IntroStr, IntroHex}
use Rattle.mc_parse.specs.declared.fault.Fault.{Fault}
use Rattle.mc_parse.specs.declared.fault.Fault.TheVariants.{NoReading, NoMemory}
use Rattle.mc_parse.specs.declared.operand.Operand.{Operand as Found}
use Rattle.mc_parse.specs.Language.{language, at, behind}
use Rattle.mc_parse.specs.Place.{is_missing, span_at, IsNext, IsTextOf}
use Rattle.mc_parse.specs.Read.{IsRead, IsFault, as_operand, IsOperand}
use Rattle.mc_parse.specs.Strings.{IsJoined}
use Rattle.mc_parse.proofs.Spans.{span_from-append}
use Rattle.mc_parse.proofs.Folds.{append_same}
use Rattle.mc_parse.proofs.Ways.{sound, both_missing, sees_missing, is_read, is_missed}

-- Texts side by side.
abbrev pub all_of : List (List ℕ) → List ℕ
all_of [] = []
all_of (x ∷ xs) = x ++ all_of xs

all_of-last : (xs : List (List ℕ)) (x : List ℕ) → all_of (xs ++ (x ∷ [])) ≡ all_of xs ++ x
all_of-last [] x = append-nil x
all_of-last (y ∷ ys) x =
    ap (λ (z : List ℕ). y ++ z) (all_of-last ys x) ∙ sym (append_assoc y (all_of ys) x)

-- Strings are read, and joined to a text.
pub record IsJoining (below : ℕ) (tokens rest : List Token) (first now : List ℕ)
    (from to : Span) : Type 0 where
  pub links : List (List ℕ)
  pub front : List Token
  pub chain : Chain language (behind rule.more_strs) 1 (at below rule.more_strs)
      (λ xs. text (all_of xs)) links tokens front rest
  pub joined : now ≡ first ++ all_of links
  pub whole : to ≡ span_from from front

pub joins_none : {below : ℕ} {tokens : List Token} {first : List ℕ} {from : Span}
    → IsJoining below tokens tokens first first from from
joins_none {first = first} = record {
  links = [];
  front = [];
  chain = chain_widen language _ 0 _ _ _ _ _ _ _ (chain_start language _ _ _ _) (omega arith);
  joined = sym (append-nil first);
  whole = refl;
}

str_here : (below : ℕ) (tokens : List Token) (s : Span) (more : List ℕ) (v : List Token)
    (first now : List ℕ) (from to : Span)
    → IsJoining below tokens (record { span = s; kind = lexeme.Str more } ∷ v) first now from to
    → IsJoining below tokens v first (now ++ more) from (from_to to s)
unfolding behind
str_here below tokens s more v first now from to p = record {
  links = p.links ++ (more ∷ []);
  front = p.front ++ (record { span = s; kind = lexeme.Str more } ∷ []);
  chain = chain_step language sound _ _ 1 _ _ _ _ _ _ _ _ more _ _ p.chain
      (widen language sound (take_token language sound
      (choose language sound (sees_next language sound _)) refl) (omega arith))
      (λ later others. refl) (omega arith);
  joined = ap (λ (z : List ℕ). z ++ more) p.joined ∙ append_assoc first (all_of p.links) more
      ∙ ap (λ (z : List ℕ). first ++ z) (sym (all_of-last p.links more));
  whole = ap (λ (e : Span). from_to e s) p.whole
      ∙ sym (span_from-append from p.front (record { span = s; kind = lexeme.Str more } ∷ []));
}

pub str_read : (below : ℕ) (tokens rest v : List Token) (first now next more : List ℕ)
    (from to last : Span) → IsJoining below tokens rest first now from to
    → IsNext (lexeme.Str more) rest v → next ≡ now ++ more → last ≡ from_to to (span_at rest)
    → IsJoining below tokens v first next from last
str_read below tokens rest v first now next more from to last p n e s =
    subst (λ (x : List ℕ). IsJoining below tokens v first x from last) (sym e)
    (subst (λ (x : Span). IsJoining below tokens v first (now ++ more) from x)
    (sym (s ∙ ap (λ (z : List Token). from_to to (span_at z)) n.same))
    (str_here below tokens n.span more v first now from to
    (subst (λ (x : List Token). IsJoining below tokens x first now from to) n.same p)))

pub strs_read : (below : ℕ) (tokens rest : List Token) (first now : List ℕ) (from to : Span)
    → IsJoining below tokens rest first now from to → IsTrue (is_missing str rest)
    → IsJoined below tokens rest first now from to
unfolding behind
strs_read below tokens rest first now from to p h = ended (choose language sound
    (sees_missing (str ∷ []) rest (both_missing _ _ h refl)))
  where
    ended : Inside language (behind rule.more_strs) 1 (at below rule.more_strs)
        (record { alternative = record { what = rule.no_more_strs; room = suc below }; left = [] }
        ∷ [])
        [] rest [] rest
        → IsJoined below tokens rest first now from to
    ended q = record {
      more = all_of p.links;
      done = chain_end language sound _ _ _ _ _ _ _ _ _ _ p.chain q refl (omega arith);
      joined = p.joined;
      whole = p.whole ∙ ap (λ (x : List Token). span_from from x)
          (append_same p.front _ rest (sym p.chain.split ∙
          (chain_end language sound _ _ _ _ _ _ _ _ _ _ p.chain q refl (omega arith)).split));
    }

-- Strings without an introducer

-- A string that is read is this operand.
string_found : {below : ℕ} {tokens rest : List Token} {e : Span} {form : Form} (x : Found)
    → IsRead (behind rule.string) 1 rule.string below tokens rest (operand (whole e form)) e
    → as_operand x ≡ whole e form → IsOperand rule.string below tokens rest x
string_found {below = below} {tokens = tokens} {rest = rest} x p h =
    subst (λ (z : Operand). IsRead (behind rule.string) 1 rule.string below tokens rest (operand z)
    z.extent) (sym h) p

plain_here : (below : ℕ) (s : Span) (w : List ℕ) (v u : List Token) (t : List ℕ) (e : Span)
    → IsJoined below v u w t s e
    → IsRead (behind rule.string) 1 rule.string below
    (record { span = s; kind = lexeme.Str w } ∷ v) u (operand (whole e (Str t))) e
unfolding behind
plain_here below s w v u t e o =
    subst (λ (z : Span). IsRead (behind rule.string) 1 rule.string below
    (record { span = s; kind = lexeme.Str w } ∷ v) u (operand (whole z (Str t))) z) (sym o.whole)
    (subst (λ (z : List ℕ). IsRead (behind rule.string) 1 rule.string below
    (record { span = s; kind = lexeme.Str w } ∷ v) u
    (operand (whole (span_from s o.done.front) (Str z))) (span_from s o.done.front)) (sym o.joined)
    (is_read (read_rule language sound (take_token language sound
    (choose language sound (sees_next language sound _)) refl) o.done refl refl (omega arith))
    refl))

pub plain_read : (below : ℕ) (tokens v u : List Token) (w t : List ℕ) (s e : Span) (x : Found)
    → IsNext (lexeme.Str w) tokens v → s ≡ span_at tokens → IsJoined below v u w t s e
    → as_operand x ≡ whole e (Str t) → IsOperand rule.string below tokens u x
plain_read below tokens v u w t s e x n stands o h =
    string_found x (subst (λ (z : List Token). IsRead (behind rule.string) 1 rule.string below z u
    (operand (whole e (Str t))) e) (sym n.same)
    (plain_here below n.span w v u t e
    (subst (λ (z : Span). IsJoined below v u w t z e) (stands ∙ ap span_at n.same) o))) h

national_here : (below : ℕ) (s : Span) (w : List ℕ) (v u : List Token) (t : List ℕ) (e : Span)
    → IsJoined below v u w t s e
    → IsRead (behind rule.string) 1 rule.string below
    (record { span = s; kind = lexeme.National w } ∷ v) u (operand (whole e (National t))) e
unfolding behind
national_here below s w v u t e o =
    subst (λ (z : Span). IsRead (behind rule.string) 1 rule.string below
    (record { span = s; kind = lexeme.National w } ∷ v) u (operand (whole z (National t))) z)
    (sym o.whole)
    (subst (λ (z : List ℕ). IsRead (behind rule.string) 1 rule.string below
    (record { span = s; kind = lexeme.National w } ∷ v) u
    (operand (whole (span_from s o.done.front) (National z))) (span_from s o.done.front))
    (sym o.joined)
    (is_read (read_rule language sound (take_token language sound
    (choose language sound (sees_next language sound _)) refl) o.done refl refl (omega arith))
    refl))

pub national_read : (below : ℕ) (tokens v u : List Token) (w t : List ℕ) (s e : Span) (x : Found)
    → IsNext (lexeme.National w) tokens v → s ≡ span_at tokens → IsJoined below v u w t s e
    → as_operand x ≡ whole e (National t) → IsOperand rule.string below tokens u x
national_read below tokens v u w t s e x n stands o h =
    string_found x (subst (λ (z : List Token). IsRead (behind rule.string) 1 rule.string below z u
    (operand (whole e (National t))) e) (sym n.same)
    (national_here below n.span w v u t e
    (subst (λ (z : Span). IsJoined below v u w t z e) (stands ∙ ap span_at n.same) o))) h

hex_here : (below : ℕ) (s : Span) (w : List ℕ) (v : List Token)
    → IsRead (behind rule.string) 1 rule.string below
    (record { span = s; kind = lexeme.Hex w } ∷ v) v (operand (whole s (Hex w))) s
unfolding behind
hex_here below s w v =
    is_read (widen language sound (take_token language sound
    (choose language sound (sees_next language sound _)) refl) (omega arith)) refl

pub hex_read : (below : ℕ) (tokens v : List Token) (w t : List ℕ) (s : Span) (x : Found)
    → IsNext (lexeme.Hex w) tokens v → s ≡ span_at tokens → t ≡ w
    → as_operand x ≡ whole s (Hex t) → IsOperand rule.string below tokens v x
hex_read below tokens v w t s x n stands made h =
    string_found x (subst (λ (z : List Token). IsRead (behind rule.string) 1 rule.string below z v
    (operand (whole n.span (Hex w))) n.span) (sym n.same) (hex_here below n.span w v))
    (h ∙ ap (λ (z : List ℕ). whole s (Hex z)) made
    ∙ ap (λ (z : Span). whole z (Hex w)) (stands ∙ ap span_at n.same))

pub string_missed : (below : ℕ) (tokens : List Token) (left : ℕ)
    → IsTrue (is_missing str tokens) → IsTrue (is_missing national tokens)
    → IsTrue (is_missing hex tokens) → IsTrue (is_missing intro tokens) → left ≡ length tokens
    → IsFault (behind rule.string) rule.string below tokens (NoReading left)
unfolding behind
string_missed below tokens left a b c d e =
    subst (λ (n : ℕ). IsFault (behind rule.string) rule.string below tokens (NoReading n)) (sym e)
    (is_missed (enter language _ _ _)
    (sees_missing (str ∷ national ∷ hex ∷ intro ∷ []) tokens (both_missing _ _ a
    (both_missing _ _ b (both_missing _ _ c (both_missing _ _ d refl))))) refl (omega arith))

-- Want of memory.
pub string_dropped : (below : ℕ) (tokens : List Token) (fault : Fault) → fault ≡ NoMemory
    → IsFault (behind rule.string) rule.string below tokens fault
string_dropped below tokens fault e =
    subst (λ (f : Fault). IsFault (behind rule.string) rule.string below tokens f) (sym e)
    (record { cause = tt })

-- Strings with an introducer

-- A word is of the classes that have words.
abbrev pub is_worded : Class → Bool
is_worded (word said) = true
is_worded name = true
is_worded called = true
is_worded called_otherwise = true
is_worded intro = true
is_worded _ = false

abbrev pub may_be_worded : Option (Admitted Class) → Bool
may_be_worded None = false
may_be_worded (Some k) = is_worded k.class

class_worded : (k : Class) (w : List ℕ) → IsTrue (is_lexeme_of k (lexeme.Word w))
    → IsTrue (is_worded k)
class_worded (word said) w m = refl
class_worded name w m = refl
class_worded called w m = refl
class_worded called_otherwise w m = refl
class_worded intro w m = refl
class_worded _ w m = cc

sees_word : (s : Span) (w : List ℕ) (ts : List Token)
    → Sees language 1 (record { span = s; kind = lexeme.Word w } ∷ ts) (λ k. may_be_worded k)
sees_word s w ts = record {
  sees = λ u same k m. lets k
      ((sees_next language sound (record { span = s; kind = lexeme.Word w } ∷ ts)).sees u same k m);
}
  where
    lets : (k : Option (Admitted Class))
        → IsTrue (is_met language k (record { span = s; kind = lexeme.Word w } ∷ ts))
        → IsTrue (may_be_worded k)
    lets None m = cc
    lets (Some k) m = class_worded k.class w m

both_next : (a b : Bool) → IsTrue a → IsTrue b
    → IsTrue (elim a [ true ↦ elim b [ true ↦ true | false ↦ false ] | false ↦ false ])
both_next true true h k = refl
both_next true false h k = cc
both_next false b h k = cc

-- An introducer that is next.
pub record IsIntro (tokens rest : List Token) (w : List ℕ) : Type 0 where
  pub span : Span
  pub same : tokens ≡ record { span = span; kind = lexeme.Word w } ∷ rest
  pub introduces : IsTrue (is_intro w)

pub an_intro : {tokens rest : List Token} {w : List ℕ} → IsTextOf intro tokens rest w
    → IsIntro tokens rest w
an_intro {tokens = tokens} {rest = rest} {w = w} n = by_kind n.token.kind refl n.of_class
  where
    by_kind : (x : Lexeme) → n.token.kind ≡ x → IsTrue (is_lexeme_of intro x)
        → IsIntro tokens rest w
    by_kind (lexeme.Word y) e m = record {
      span = n.token.span;
      same = n.same ∙ ap (λ (z : Lexeme). record { span = n.token.span; kind = z } ∷ rest)
          (e ∙ ap (λ (z : List ℕ). lexeme.Word z) (sym (n.says ∙ ap lexeme_text e)));
      introduces = subst (λ (z : List ℕ). IsTrue (is_intro z)) (sym (n.says ∙ ap lexeme_text e)) m;
    }
    by_kind _ e m = cc

intro_here : (below : ℕ) (s : Span) (i : List ℕ) (s' : Span) (w : List ℕ) (v u : List Token)
    (t : List ℕ) (e : Span) → IsTrue (is_intro i)
    → IsJoined below v u w t (from_to s s') e
    → IsRead (behind rule.string) 1 rule.string below
    (record { span = s; kind = lexeme.Word i } ∷ record { span = s'; kind = lexeme.Str w } ∷ v) u
    (operand (whole e (IntroStr (drop 1 i) t))) e
unfolding behind
intro_here below s i s' w v u t e h o =
    subst (λ (z : Span). IsRead (behind rule.string) 1 rule.string below
    (record { span = s; kind = lexeme.Word i } ∷ record { span = s'; kind = lexeme.Str w } ∷ v) u
    (operand (whole z (IntroStr (drop 1 i) t))) z)
    (sym (o.whole ∙ sym (span_from-append s
    (record { span = s'; kind = lexeme.Str w } ∷ []) o.done.front)))
    (subst (λ (z : List ℕ). IsRead (behind rule.string) 1 rule.string below
    (record { span = s; kind = lexeme.Word i } ∷ record { span = s'; kind = lexeme.Str w } ∷ v) u
    (operand (whole (from_to s (span_from s' o.done.front)) (IntroStr (drop 1 i) z)))
    (from_to s (span_from s' o.done.front))) (sym o.joined)
    (is_read (read_rule language sound (take_token language sound
    (look language sound (take_token language sound (choose language sound (sees_word s i _))
    (both_next (is_intro i) (is_intro i) h h)) (sees_next language sound _)) refl) o.done refl refl
    (omega arith))
    refl))

pub intro_read : (below : ℕ) (tokens r v u : List Token) (i w set t : List ℕ) (s e : Span)
    (x : Found)
    → IsTextOf intro tokens r i → IsNext (lexeme.Str w) r v
    → s ≡ from_to (span_at tokens) (span_at r) → set ≡ drop 1 i
    → IsJoined below v u w t s e → as_operand x ≡ whole e (IntroStr set t)
    → IsOperand rule.string below tokens u x
intro_read below tokens r v u i w set t s e x a n stands made o h =
    string_found x
    (subst (λ (z : List Token). IsRead (behind rule.string) 1 rule.string below z u
    (operand (whole e (IntroStr (drop 1 i) t))) e)
    (sym ((an_intro a).same ∙ ap (λ (z : List Token).
    record { span = (an_intro a).span; kind = lexeme.Word i } ∷ z) n.same))
    (intro_here below (an_intro a).span i n.span w v u t e (an_intro a).introduces
    (subst (λ (z : Span). IsJoined below v u w t z e)
    (stands ∙ ap (λ (z : List Token). from_to (span_at z) (span_at r)) (an_intro a).same
    ∙ ap (λ (z : List Token). from_to (an_intro a).span (span_at z)) n.same) o)))
    (h ∙ ap (λ (z : List ℕ). whole e (IntroStr z t)) made)

intro_hex_here : (below : ℕ) (s : Span) (i : List ℕ) (s' : Span) (w : List ℕ) (v : List Token)
    → IsTrue (is_intro i)
    → IsRead (behind rule.string) 1 rule.string below
    (record { span = s; kind = lexeme.Word i } ∷ record { span = s'; kind = lexeme.Hex w } ∷ v) v
    (operand (whole (from_to s s') (IntroHex (drop 1 i) w))) (from_to s s')
unfolding behind
intro_hex_here below s i s' w v h =
    is_read (widen language sound (take_token language sound
    (look language sound (take_token language sound (choose language sound (sees_word s i _))
    (both_next (is_intro i) (is_intro i) h h)) (sees_next language sound _)) refl) (omega arith))
    refl

pub intro_hex_read : (below : ℕ) (tokens r v : List Token) (i w set t : List ℕ) (s : Span)
    (x : Found)
    → IsTextOf intro tokens r i → IsNext (lexeme.Hex w) r v
    → s ≡ from_to (span_at tokens) (span_at r) → set ≡ drop 1 i → t ≡ w
    → as_operand x ≡ whole s (IntroHex set t) → IsOperand rule.string below tokens v x
intro_hex_read below tokens r v i w set t s x a n stands made same h =
    string_found x
    (subst (λ (z : List Token). IsRead (behind rule.string) 1 rule.string below z v
    (operand (whole (from_to (an_intro a).span n.span) (IntroHex (drop 1 i) w)))
    (from_to (an_intro a).span n.span))
    (sym ((an_intro a).same ∙ ap (λ (z : List Token).
    record { span = (an_intro a).span; kind = lexeme.Word i } ∷ z) n.same))
    (intro_hex_here below (an_intro a).span i n.span w v (an_intro a).introduces))
    (h ∙ ap (λ (z : List ℕ). whole s (IntroHex z t)) made
    ∙ ap (λ (z : List ℕ). whole s (IntroHex (drop 1 i) z)) same
    ∙ ap (λ (z : Span). whole z (IntroHex (drop 1 i) w))
    (stands ∙ ap (λ (z : List Token). from_to (span_at z) (span_at r)) (an_intro a).same
    ∙ ap (λ (z : List Token). from_to (an_intro a).span (span_at z)) n.same))

intro_missed_here : (below : ℕ) (s : Span) (i : List ℕ) (v : List Token) → IsTrue (is_intro i)
    → IsTrue (is_missing str v) → IsTrue (is_missing hex v)
    → IsFault (behind rule.string) rule.string below
    (record { span = s; kind = lexeme.Word i } ∷ v) (NoReading (length v))
unfolding behind
intro_missed_here below s i v h a b =
    is_missed (take_token language sound (choose language sound (sees_word s i _))
    (both_next (is_intro i) (is_intro i) h h))
    (sees_missing (str ∷ hex ∷ []) v (both_missing _ _ a (both_missing _ _ b refl))) refl
    (omega arith)

pub intro_missed : (below : ℕ) (tokens r : List Token) (i : List ℕ) (left : ℕ)
    → IsTextOf intro tokens r i → IsTrue (is_missing str r) → IsTrue (is_missing hex r)
    → left ≡ length r → IsFault (behind rule.string) rule.string below tokens (NoReading left)
intro_missed below tokens r i left a h k e =
    subst (λ (n : ℕ). IsFault (behind rule.string) rule.string below tokens (NoReading n)) (sym e)
    (subst (λ (z : List Token). IsFault (behind rule.string) rule.string below z
    (NoReading (length r))) (sym (an_intro a).same)
    (intro_missed_here below (an_intro a).span i r (an_intro a).introduces h k))
