-- The ways through a function that reads a name.
use Rattle.std.proofs.Common.{◌≡◌, refl, sym, ap, ◌∙◌, subst, inl, inr, ℕ, ◌≤◌, Bool, true, false}
use Rattle.std.proofs.Common.{not, ◌&&◌, List, [], ◌∷◌, IsTrue, Option, Some, None, length, arith}
use Rattle.std.proofs.Common.{codes}
use Rattle.std.specs.Str.{bytes_eq}
use Rattle.std.proofs.lemmas.Slice.Eq.{bytes_eq-Decides}
use Rattle.mc_base.specs.declared.span.Span.{Span}
use Rattle.mc_token.specs.declared.lexeme.Lexeme.{Lexeme}
use Rattle.mc_token.specs.declared.lexeme.Lexeme.TheVariants as lexeme
use Rattle.mc_token.specs.declared.lexeme.Token.{Token}
use Rattle.mc_token.specs.Keywords.{keyword_of}
use Rattle.mc_grammar.specs.Ahead.{every}
use Rattle.mc_grammar.specs.Places.{is_met, Sees}
use Rattle.mc_grammar.specs.Room.{Admitted}
use Rattle.mc_grammar.proofs.Seeing.{sees_next}
use Rattle.mc_grammar.proofs.Inside.{enter}
use Rattle.mc_grammar.proofs.Ways.{choose, take_token, widen}
use Rattle.mc_sql.specs.Classes.{Class, word, mark, name, called, called_otherwise, intro, int, str}
use Rattle.mc_sql.specs.Classes.{national, hex, is_reserved, is_intro, is_called, is_lexeme_of}
use Rattle.mc_sql.specs.Rules as rule
use Rattle.mc_ast.specs.Values.{Value, lexeme_text, collation}
use Rattle.mc_parse.specs.declared.fault.Fault.TheVariants.{NoReading}
use Rattle.mc_parse.specs.Language.{language, behind}
use Rattle.mc_parse.specs.Place.{is_missing, span_at, IsNext, IsTextOf}
use Rattle.mc_parse.specs.Read.{IsRead, IsFault}
use Rattle.mc_parse.proofs.Ways.{sound, sees_missing, is_read, is_missed, both_missing}

-- A class of which a name may be.
abbrev pub named_class : Class → Bool
named_class (word text) = not (is_reserved text)
named_class name = true
named_class called = true
named_class called_otherwise = true
named_class intro = true
named_class _ = false

abbrev pub may_be_named : Option (Admitted Class) → Bool
may_be_named None = false
may_be_named (Some k) = named_class k.class

-- What a name is of.
class_named : (k : Class) (x : Lexeme) → IsTrue (is_lexeme_of name x) → IsTrue (is_lexeme_of k x)
    → IsTrue (named_class k)
class_named (word text) (lexeme.Word w) h m =
    subst (λ (y : List ℕ). IsTrue (not (is_reserved y))) ((bytes_eq-Decides w text).0 m) h
class_named name x h m = refl
class_named called x h m = refl
class_named called_otherwise x h m = refl
class_named intro x h m = refl
class_named (mark s) (lexeme.Word w) h m = cc
class_named (mark s) (lexeme.Name w) h m = cc
class_named int (lexeme.Word w) h m = cc
class_named int (lexeme.Name w) h m = cc
class_named str (lexeme.Word w) h m = cc
class_named str (lexeme.Name w) h m = cc
class_named national (lexeme.Word w) h m = cc
class_named national (lexeme.Name w) h m = cc
class_named hex (lexeme.Word w) h m = cc
class_named hex (lexeme.Name w) h m = cc
class_named _ _ h m = cc

-- A name tells that what may be met is of it.
pub sees_name : (t : Token) (ts : List Token) → IsTrue (is_lexeme_of name t.kind)
    → Sees language 1 (t ∷ ts) (λ k. may_be_named k)
sees_name t ts h = record
    { sees = λ w same k m. lets k ((sees_next language sound (t ∷ ts)).sees w same k m) }
  where
    lets : (k : Option (Admitted Class)) → IsTrue (is_met language k (t ∷ ts))
        → IsTrue (may_be_named k)
    lets None m = cc
    lets (Some k) m = class_named k.class t.kind h m

-- The one place wants the next token.
pub only_next : (b : Bool) → IsTrue b → IsTrue (elim b [ true ↦ true | false ↦ false ])
only_next true h = refl
only_next false h = cc

-- NAME
named : (below : ℕ) (t : Token) (ts : List Token) → IsTrue (is_lexeme_of name t.kind)
    → IsRead (behind rule.name_or_binary) 1 rule.name_or_binary below (t ∷ ts) ts
    (collation (record { name = lexeme_text t.kind; extent = t.span })) t.span
unfolding behind keyword_of is_intro is_called
named below t ts h =
    is_read (widen language sound (take_token language sound
    (choose language sound (sees_name t ts h)) (only_next (is_lexeme_of name t.kind) h))
    (omega arith)) refl

pub name_read : (below : ℕ) (tokens rest : List Token) (said text : List ℕ) (span : Span)
    → IsTextOf name tokens rest said → text ≡ said → span ≡ span_at tokens
    → IsRead (behind rule.name_or_binary) 1 rule.name_or_binary below tokens rest
    (collation (record { name = text; extent = span })) span
name_read below tokens rest said text span n made e =
    subst (λ (x : List ℕ). IsRead (behind rule.name_or_binary) 1 rule.name_or_binary below tokens
    rest (collation (record { name = x; extent = span })) span) (sym (made ∙ n.says))
    (subst (λ (x : Span). IsRead (behind rule.name_or_binary) 1 rule.name_or_binary below tokens
    rest (collation (record { name = lexeme_text n.token.kind; extent = x })) x)
    (sym (e ∙ ap span_at n.same))
    (subst (λ (x : List Token). IsRead (behind rule.name_or_binary) 1 rule.name_or_binary below x
    rest (collation (record { name = lexeme_text n.token.kind; extent = n.token.span }))
    n.token.span) (sym n.same) (named below n.token rest n.of_class)))

-- BINARY
binary : (below : ℕ) (s : Span) (ts : List Token)
    → IsRead (behind rule.name_or_binary) 1 rule.name_or_binary below
    (record { span = s; kind = lexeme.Word (codes "binary") } ∷ ts) ts
    (collation (record { name = codes "binary"; extent = s })) s
unfolding behind keyword_of is_intro is_called
binary below s ts =
    is_read (widen language sound (take_token language sound
    (choose language sound (sees_next language sound _)) refl) (omega arith)) refl

pub binary_read : (below : ℕ) (tokens rest : List Token) (text : List ℕ) (span : Span)
    → IsNext (lexeme.Word (codes "binary")) tokens rest → text ≡ codes "binary"
    → span ≡ span_at tokens
    → IsRead (behind rule.name_or_binary) 1 rule.name_or_binary below tokens rest
    (collation (record { name = text; extent = span })) span
binary_read below tokens rest text span n made e =
    subst (λ (x : List ℕ). IsRead (behind rule.name_or_binary) 1 rule.name_or_binary below tokens
    rest (collation (record { name = x; extent = span })) span) (sym made)
    (subst (λ (x : Span). IsRead (behind rule.name_or_binary) 1 rule.name_or_binary below tokens
    rest (collation (record { name = codes "binary"; extent = x })) x)
    (sym (e ∙ ap span_at n.same))
    (subst (λ (x : List Token). IsRead (behind rule.name_or_binary) 1 rule.name_or_binary below x
    rest (collation (record { name = codes "binary"; extent = n.span })) n.span) (sym n.same)
    (binary below n.span rest)))

-- Neither.
pub name_missed : (below : ℕ) (tokens : List Token) (left : ℕ)
    → IsTrue (is_missing name tokens) → IsTrue (is_missing (word (codes "binary")) tokens)
    → left ≡ length tokens
    → IsFault (behind rule.name_or_binary) rule.name_or_binary below tokens (NoReading left)
unfolding behind keyword_of is_intro is_called
name_missed below tokens left h k e =
    subst (λ (n : ℕ). IsFault (behind rule.name_or_binary) rule.name_or_binary below tokens
    (NoReading n)) (sym e)
    (is_missed (enter language _ _ _)
    (sees_missing (name ∷ word (codes "binary") ∷ []) tokens
    (both_missing _ _ h (both_missing _ _ k refl)))
    refl (omega arith))
