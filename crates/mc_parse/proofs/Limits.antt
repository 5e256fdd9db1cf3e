-- The ways through LIMIT.
use Rattle.std.proofs.Common.{◌≡◌, refl, sym, ap, ◌∙◌, subst, ℕ, ℤ, List, [], ◌∷◌, IsTrue, Option}
use Rattle.std.proofs.Common.{Some, None}
use Rattle.std.proofs.Common.{codes, length, arith}
use Rattle.std.specs.Prelude.{nat_abs}
use Rattle.mc_base.specs.declared.span.Span.{Span}
use Rattle.mc_token.specs.Keywords.{keyword_of}
use Rattle.mc_token.specs.declared.lexeme.Lexeme.TheVariants.{Word, Int, Sym}
use Rattle.mc_token.specs.declared.lexeme.Symbol.TheVariants.{Comma}
use Rattle.mc_token.specs.declared.lexeme.Token.{Token}
use Rattle.mc_grammar.proofs.Seeing.{sees_next}
use Rattle.mc_grammar.proofs.Ways.{choose, take_token, read_rule}
use Rattle.mc_sql.specs.Classes.{word, mark, int, is_intro, is_called}
use Rattle.mc_sql.specs.Rules.{limit_option, no_limit, offset_option, no_offset}
use Rattle.mc_ast.specs.Values.{Value, ill, limit, no_number, the_count, the_offset}
use Rattle.mc_parse.specs.declared.fault.Fault.{Fault}
use Rattle.mc_parse.specs.declared.fault.Fault.TheVariants.{NoReading}
use Rattle.mc_parse.specs.Clauses.{IsClause, IsClauseFault, HasOffset, rows_of}
use Rattle.mc_parse.specs.Language.{language, behind}
use Rattle.mc_parse.specs.Place.{is_missing, IsNext}
use Rattle.mc_parse.proofs.Ways.{sound, sees_missing, is_fault, is_missed}
use Rattle.mc_parse.proofs.ClauseSteps.{the_token, clause_read, option_left, one_missing}
use Rattle.mc_parse.proofs.ClauseSteps.{two_missing}

-- What stands behind the first number
comma_here : (s u : Span) (n : ℤ) (v : List Token)
    → IsClause offset_option (the_token s (Sym Comma) ∷ the_token u (Int n) ∷ v) v
    (the_count (nat_abs n))
unfolding behind keyword_of is_intro is_called
comma_here s u n v =
    clause_read (take_token language sound (take_token language sound
    (choose language sound (sees_next language sound
    (the_token s (Sym Comma) ∷ the_token u (Int n) ∷ v))) refl) refl) (omega arith)

pub count_read : (first : ℕ) (tokens v w : List Token) (n : ℤ) → IsNext (Sym Comma) tokens v
    → IsNext (Int n) v w → HasOffset first tokens w (first, nat_abs n)
count_read first tokens v w n p q = record {
  number = the_count (nat_abs n);
  clause = subst (λ (ts : List Token). IsClause offset_option ts w (the_count (nat_abs n)))
      (sym (p.same ∙ ap (λ (ts : List Token). the_token p.span (Sym Comma) ∷ ts) q.same))
      (comma_here p.span q.span n w);
  same = refl;
}

offset_here : (s u : Span) (n : ℤ) (v : List Token)
    → IsClause offset_option
    (the_token s (Word (codes "offset")) ∷ the_token u (Int n) ∷ v) v (the_offset (nat_abs n))
unfolding behind keyword_of is_intro is_called
offset_here s u n v =
    clause_read (take_token language sound (take_token language sound
    (choose language sound (sees_next language sound
    (the_token s (Word (codes "offset")) ∷ the_token u (Int n) ∷ v))) refl) refl) (omega arith)

pub offset_read : (first : ℕ) (tokens v w : List Token) (n : ℤ)
    → IsNext (Word (codes "offset")) tokens v → IsNext (Int n) v w
    → HasOffset first tokens w (nat_abs n, first)
offset_read first tokens v w n p q = record {
  number = the_offset (nat_abs n);
  clause = subst (λ (ts : List Token). IsClause offset_option ts w (the_offset (nat_abs n)))
      (sym (p.same
      ∙ ap (λ (ts : List Token). the_token p.span (Word (codes "offset")) ∷ ts) q.same))
      (offset_here p.span q.span n w);
  same = refl;
}

pub offset_left : (first : ℕ) (tokens : List Token) → IsTrue (is_missing (mark Comma) tokens)
    → IsTrue (is_missing (word (codes "offset")) tokens) → HasOffset first tokens tokens (0, first)
unfolding behind keyword_of is_intro is_called
offset_left first tokens h g = record {
  number = no_number;
  clause = option_left offset_option no_offset (mark Comma ∷ word (codes "offset") ∷ []) tokens
      (two_missing (mark Comma) (word (codes "offset")) tokens h g) refl;
  same = refl;
}

comma_alone : (s : Span) (v : List Token) → IsTrue (is_missing int v)
    → IsClauseFault offset_option (the_token s (Sym Comma) ∷ v) (NoReading (length v))
unfolding behind keyword_of is_intro is_called
comma_alone s v h =
    is_missed (take_token language sound
    (choose language sound (sees_next language sound (the_token s (Sym Comma) ∷ v))) refl)
    (sees_missing (int ∷ []) v (one_missing int v h)) refl (omega arith)

pub count_missed : (tokens v : List Token) (left : ℕ) → IsNext (Sym Comma) tokens v
    → IsTrue (is_missing int v) → left ≡ length v
    → IsClauseFault offset_option tokens (NoReading left)
count_missed tokens v left p h e =
    subst (λ (m : ℕ). IsClauseFault offset_option tokens (NoReading m)) (sym e)
    (subst (λ (ts : List Token). IsClauseFault offset_option ts (NoReading (length v)))
    (sym p.same) (comma_alone p.span v h))

offset_alone : (s : Span) (v : List Token) → IsTrue (is_missing int v)
    → IsClauseFault offset_option (the_token s (Word (codes "offset")) ∷ v) (NoReading (length v))
unfolding behind keyword_of is_intro is_called
offset_alone s v h =
    is_missed (take_token language sound
    (choose language sound (sees_next language sound (the_token s (Word (codes "offset")) ∷ v)))
    refl) (sees_missing (int ∷ []) v (one_missing int v h)) refl (omega arith)

pub offset_missed : (tokens v : List Token) (left : ℕ) → IsNext (Word (codes "offset")) tokens v
    → IsTrue (is_missing int v) → left ≡ length v
    → IsClauseFault offset_option tokens (NoReading left)
offset_missed tokens v left p h e =
    subst (λ (m : ℕ). IsClauseFault offset_option tokens (NoReading m)) (sym e)
    (subst (λ (ts : List Token). IsClauseFault offset_option ts (NoReading (length v)))
    (sym p.same) (offset_alone p.span v h))

-- LIMIT
rows_here : (s u : Span) (n : ℤ) (v w : List Token) (number : Value) (rows : ℕ × ℕ)
    → IsClause offset_option v w number → rows_of (nat_abs n) number ≡ Some rows
    → IsClause limit_option (the_token s (Word (codes "limit")) ∷ the_token u (Int n) ∷ v) w
    (limit (Some rows))
unfolding behind keyword_of is_intro is_called
rows_here s u n v w no_number rows o e =
    subst (λ (x : Option (ℕ × ℕ)). IsClause limit_option
    (the_token s (Word (codes "limit")) ∷ the_token u (Int n) ∷ v) w (limit x)) e
    (clause_read (read_rule language sound (take_token language sound (take_token language sound
    (choose language sound (sees_next language sound
    (the_token s (Word (codes "limit")) ∷ the_token u (Int n) ∷ v))) refl) refl)
    o.done refl refl (omega arith)) (omega arith))
rows_here s u n v w (the_count m) rows o e =
    subst (λ (x : Option (ℕ × ℕ)). IsClause limit_option
    (the_token s (Word (codes "limit")) ∷ the_token u (Int n) ∷ v) w (limit x)) e
    (clause_read (read_rule language sound (take_token language sound (take_token language sound
    (choose language sound (sees_next language sound
    (the_token s (Word (codes "limit")) ∷ the_token u (Int n) ∷ v))) refl) refl)
    o.done refl refl (omega arith)) (omega arith))
rows_here s u n v w (the_offset m) rows o e =
    subst (λ (x : Option (ℕ × ℕ)). IsClause limit_option
    (the_token s (Word (codes "limit")) ∷ the_token u (Int n) ∷ v) w (limit x)) e
    (clause_read (read_rule language sound (take_token language sound (take_token language sound
    (choose language sound (sees_next language sound
    (the_token s (Word (codes "limit")) ∷ the_token u (Int n) ∷ v))) refl) refl)
    o.done refl refl (omega arith)) (omega arith))
rows_here s u n v w _ rows o e = cc

pub limit_read : (tokens v u w : List Token) (n : ℤ) (rows : ℕ × ℕ)
    → IsNext (Word (codes "limit")) tokens v → IsNext (Int n) v u
    → HasOffset (nat_abs n) u w rows → IsClause limit_option tokens w (limit (Some rows))
limit_read tokens v u w n rows p q o =
    subst (λ (ts : List Token). IsClause limit_option ts w (limit (Some rows)))
    (sym (p.same ∙ ap (λ (ts : List Token). the_token p.span (Word (codes "limit")) ∷ ts) q.same))
    (rows_here p.span q.span n u w o.number rows o.clause o.same)

pub limit_left : (tokens : List Token) → IsTrue (is_missing (word (codes "limit")) tokens)
    → IsClause limit_option tokens tokens (limit None)
unfolding behind keyword_of is_intro is_called
limit_left tokens h =
    option_left limit_option no_limit (word (codes "limit") ∷ []) tokens
    (one_missing (word (codes "limit")) tokens h) refl

limit_alone : (s : Span) (v : List Token) → IsTrue (is_missing int v)
    → IsClauseFault limit_option (the_token s (Word (codes "limit")) ∷ v) (NoReading (length v))
unfolding behind keyword_of is_intro is_called
limit_alone s v h =
    is_missed (take_token language sound
    (choose language sound (sees_next language sound (the_token s (Word (codes "limit")) ∷ v)))
    refl) (sees_missing (int ∷ []) v (one_missing int v h)) refl (omega arith)

pub limit_missed : (tokens v : List Token) (left : ℕ) → IsNext (Word (codes "limit")) tokens v
    → IsTrue (is_missing int v) → left ≡ length v
    → IsClauseFault limit_option tokens (NoReading left)
limit_missed tokens v left p h e =
    subst (λ (m : ℕ). IsClauseFault limit_option tokens (NoReading m)) (sym e)
    (subst (λ (ts : List Token). IsClauseFault limit_option ts (NoReading (length v)))
    (sym p.same) (limit_alone p.span v h))

offset_fault_here : (s u : Span) (n : ℤ) (v : List Token) (fault : Fault)
    → IsClauseFault offset_option v fault
    → IsClauseFault limit_option
    (the_token s (Word (codes "limit")) ∷ the_token u (Int n) ∷ v) fault
unfolding behind keyword_of is_intro is_called
offset_fault_here s u n v fault o =
    is_fault (take_token language sound (take_token language sound
    (choose language sound (sees_next language sound
    (the_token s (Word (codes "limit")) ∷ the_token u (Int n) ∷ v))) refl) refl)
    o refl refl (omega arith)

pub offset_fault : (tokens v u : List Token) (n : ℤ) (fault : Fault)
    → IsNext (Word (codes "limit")) tokens v → IsNext (Int n) v u
    → IsClauseFault offset_option u fault → IsClauseFault limit_option tokens fault
offset_fault tokens v u n fault p q o =
    subst (λ (ts : List Token). IsClauseFault limit_option ts fault)
    (sym (p.same ∙ ap (λ (ts : List Token). the_token p.span (Word (codes "limit")) ∷ ts) q.same))
    (offset_fault_here p.span q.span n u fault o)

-- The ways through each function, by its name.
pub ruleset offset_option_ways = (count_read, offset_read, offset_left, count_missed, offset_missed)

pub ruleset limit_option_ways = (limit_read, limit_left, limit_missed, offset_fault)
