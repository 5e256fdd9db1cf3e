-- The ways through the functions that read calls.
use Rattle.std.proofs.Common.{◌≡◌, refl, sym, ap, ◌∙◌, subst, ℕ, suc, ◌+◌, ◌≤◌, Bool, true, false}
use Rattle.std.proofs.Common.{not, ◌&&◌, ◌||◌, List, [], ◌∷◌, ◌++◌, IsTrue, length, map, append-nil}
use Rattle.std.proofs.Common.{append_assoc, arith, codes}
use Rattle.std.specs.Str.{bytes_eq}
use Rattle.mc_base.specs.declared.span.Span.{Span}
use Rattle.mc_token.specs.Keywords.{keyword_of}
use Rattle.mc_token.specs.declared.lexeme.Lexeme.{Lexeme}
use Rattle.mc_token.specs.declared.lexeme.Lexeme.TheVariants.{Word, Sym}
use Rattle.mc_token.specs.declared.lexeme.Symbol.TheVariants.{LeftParen, RightParen, Star, Comma}
use Rattle.mc_token.specs.declared.lexeme.Token.{Token}
use Rattle.mc_grammar.proofs.Inside.{enter}
use Rattle.mc_grammar.proofs.Seeing.{sees_next}
use Rattle.mc_grammar.proofs.Ways.{choose, take_token, read_rule, widen}
use Rattle.mc_sql.specs.Classes.{Class, word, mark, called, called_otherwise, is_lexeme_of}
use Rattle.mc_sql.specs.Classes.{is_intro, is_called}
use Rattle.mc_sql.specs.Rules as rule
use Rattle.mc_ast.specs.declared.expr.Form.TheVariants as form
use Rattle.mc_ast.specs.Grouping.{whole}
use Rattle.mc_ast.specs.Values.{Value, Operand, operand, Collation, collation, lexeme_text}
use Rattle.mc_parse.specs.declared.call.CallWord.{CallWord}
use Rattle.mc_parse.specs.declared.call.CallWord.TheVariants.{Convert, Cast, Count, Trim, Substring}
use Rattle.mc_parse.specs.declared.call.CallWord.TheVariants.{WeightString, Other}
use Rattle.mc_parse.specs.declared.fault.Fault.{Fault}
use Rattle.mc_parse.specs.declared.fault.Fault.TheVariants.{NoReading, TooDeep}
use Rattle.mc_parse.specs.declared.operand.Operand.{Operand as Found}
use Rattle.mc_parse.specs.Language.{language, at, behind, behind_at}
use Rattle.mc_parse.specs.Place.{is_missing, are_missing, span_at, IsNext, IsTextOf}
use Rattle.mc_parse.specs.Read.{IsRead, IsFault, as_operand, IsOperand, IsOperandAt}
use Rattle.mc_parse.specs.Calls.{call_words, call_places, IsOther, IsCallWord, IsOpened, IsInCall}
use Rattle.mc_parse.specs.Calls.{IsCallRead, IsCallFault, IsClosed, IsUnclosed}
use Rattle.mc_parse.proofs.TokenKinds.{both_parts}
use Rattle.mc_parse.proofs.Ways.{sound, both_missing, sees_missing, is_fault, is_missed}
use Rattle.mc_parse.proofs.Ways.{is_barred_here}
use Rattle.mc_parse.proofs.CallSteps.{in_token, in_rule, in_next, in_missing, in_fault, in_missed}
use Rattle.mc_parse.proofs.CallSteps.{in_closed, in_unclosed, call_found}

-- Words and parentheses

missing_more : (ks ls : List Class) (ts : List Token) → IsTrue (are_missing ks ts)
    → IsTrue (are_missing ls ts) → IsTrue (are_missing (ks ++ ls) ts)
missing_more [] ls ts h k = k
missing_more (c ∷ ks) ls ts h k =
    let p : IsTrue (is_missing c ts) × IsTrue (are_missing ks ts) =
    both_parts (is_missing c ts) (are_missing ks ts) h in
    both_missing (is_missing c ts) (are_missing (ks ++ ls) ts) p.0 (missing_more ks ls ts p.1 k)

otherwise_missing : (ts : List Token) → IsTrue (is_missing called ts)
    → IsTrue (is_missing called_otherwise ts)
otherwise_missing [] h = refl
otherwise_missing (t ∷ ts) h = by_kind t.kind h
  where
    by_parts : (a b : Bool) → IsTrue (not a) → IsTrue (not (a && b))
    by_parts true b k = cc
    by_parts false b k = refl

    by_kind : (x : Lexeme) → IsTrue (not (is_lexeme_of called x))
        → IsTrue (not (is_lexeme_of called_otherwise x))
    by_kind (Word w) k = by_parts (is_called w) (not (bytes_eq w (codes "weight_string"))) k
    by_kind _ k = refl

pub call_missed : (below : ℕ) (tokens : List Token) (left : ℕ)
    → IsTrue (are_missing call_words tokens) → IsTrue (is_missing called tokens)
    → left ≡ length tokens
    → IsFault (behind rule.call) rule.call below tokens (NoReading left)
unfolding behind
call_missed below tokens left h k e =
    subst (λ (n : ℕ). IsFault (behind rule.call) rule.call below tokens (NoReading n)) (sym e)
    (is_missed (enter language _ _ _)
    (sees_missing (call_words ++ (called ∷ called_otherwise ∷ [])) tokens
    (missing_more call_words (called ∷ called_otherwise ∷ []) tokens h (both_missing _ _ k
    (both_missing _ _ (otherwise_missing tokens k) refl)))) refl (omega arith))

convert_opened : (below : ℕ) (tokens v w : List Token)
    → IsNext (Word (codes "convert")) tokens v → IsNext (Sym LeftParen) v w
    → IsInCall (codes "convert") below 2
    (rule.convert_call ∷ []) [] tokens w
unfolding behind keyword_of is_intro is_called
convert_opened below tokens v w n o =
    subst (λ (z : List Token). IsInCall (codes "convert") below 2
    (rule.convert_call ∷ []) [] z w)
    (sym (n.same ∙ ap (λ (z : List Token).
    record { span = n.span; kind = Word (codes "convert") } ∷ z) o.same))
    (record {
      first = n.span;
      second = o.span;
      others = [];
      inside = widen language sound (take_token language sound (take_token language sound
          (choose language sound (sees_next language sound _)) refl) refl) (omega arith);
    })

pub opened_convert : {below : ℕ} {kind : CallWord} {name : List ℕ} {tokens rest : List Token}
    → kind ≡ Convert → IsOpened kind name tokens rest
    → IsInCall (codes "convert") below 2
    (rule.convert_call ∷ []) [] tokens rest
opened_convert {below = below} {name = name} {tokens = tokens} {rest = rest} e o =
    by_kind (subst (λ (k : CallWord). IsOpened k name tokens rest) e o)
  where
    by_kind : IsOpened Convert name tokens rest → IsInCall (codes "convert") below 2
        (rule.convert_call ∷ []) [] tokens rest
    by_kind p = convert_opened below tokens p.between rest p.begins.1 p.opens

convert_unopened : (below : ℕ) (s : Span) (v : List Token) → IsTrue (is_missing (mark LeftParen) v)
    → IsFault (behind rule.call) rule.call below
    (record { span = s; kind = Word (codes "convert") } ∷ v) (NoReading (length v))
unfolding behind keyword_of is_intro is_called
convert_unopened below s v h =
    is_missed (take_token language sound (choose language sound (sees_next language sound _)) refl)
    (sees_missing (mark LeftParen ∷ []) v (both_missing _ _ h refl)) refl (omega arith)

convert_deep : (s s' : Span) (v : List Token)
    → IsFault (behind rule.call) rule.call 0 (record { span = s; kind = Word (codes "convert") }
    ∷ record { span = s'; kind = Sym LeftParen } ∷ v)
    (TooDeep (length (record { span = s'; kind = Sym LeftParen } ∷ v)))
unfolding behind keyword_of is_intro is_called
convert_deep s s' v =
    is_barred_here (take_token language sound (choose language sound (sees_next language sound _))
    refl) refl (omega arith)

cast_opened : (below : ℕ) (tokens v w : List Token)
    → IsNext (Word (codes "cast")) tokens v → IsNext (Sym LeftParen) v w
    → IsInCall (codes "cast") below 2
    (rule.cast_char_call ∷ rule.cast_binary_call ∷ []) [] tokens w
unfolding behind keyword_of is_intro is_called
cast_opened below tokens v w n o =
    subst (λ (z : List Token). IsInCall (codes "cast") below 2
    (rule.cast_char_call ∷ rule.cast_binary_call ∷ []) [] z w)
    (sym (n.same ∙ ap (λ (z : List Token).
    record { span = n.span; kind = Word (codes "cast") } ∷ z) o.same))
    (record {
      first = n.span;
      second = o.span;
      others = [];
      inside = widen language sound (take_token language sound (take_token language sound
          (choose language sound (sees_next language sound _)) refl) refl) (omega arith);
    })

pub opened_cast : {below : ℕ} {kind : CallWord} {name : List ℕ} {tokens rest : List Token}
    → kind ≡ Cast → IsOpened kind name tokens rest
    → IsInCall (codes "cast") below 2
    (rule.cast_char_call ∷ rule.cast_binary_call ∷ []) [] tokens rest
opened_cast {below = below} {name = name} {tokens = tokens} {rest = rest} e o =
    by_kind (subst (λ (k : CallWord). IsOpened k name tokens rest) e o)
  where
    by_kind : IsOpened Cast name tokens rest → IsInCall (codes "cast") below 2
        (rule.cast_char_call ∷ rule.cast_binary_call ∷ []) [] tokens rest
    by_kind p = cast_opened below tokens p.between rest p.begins.1 p.opens

cast_unopened : (below : ℕ) (s : Span) (v : List Token) → IsTrue (is_missing (mark LeftParen) v)
    → IsFault (behind rule.call) rule.call below
    (record { span = s; kind = Word (codes "cast") } ∷ v) (NoReading (length v))
unfolding behind keyword_of is_intro is_called
cast_unopened below s v h =
    is_missed (take_token language sound (choose language sound (sees_next language sound _)) refl)
    (sees_missing (mark LeftParen ∷ []) v (both_missing _ _ h refl)) refl (omega arith)

cast_deep : (s s' : Span) (v : List Token)
    → IsFault (behind rule.call) rule.call 0 (record { span = s; kind = Word (codes "cast") }
    ∷ record { span = s'; kind = Sym LeftParen } ∷ v)
    (TooDeep (length (record { span = s'; kind = Sym LeftParen } ∷ v)))
unfolding behind keyword_of is_intro is_called
cast_deep s s' v =
    is_barred_here (take_token language sound (choose language sound (sees_next language sound _))
    refl) refl (omega arith)

count_opened : (below : ℕ) (tokens v w : List Token)
    → IsNext (Word (codes "count")) tokens v → IsNext (Sym LeftParen) v w
    → IsInCall (codes "count") below 2
    (rule.count_all_call ∷ rule.count_distinct_call ∷ rule.empty_call ∷ rule.single_call ∷
    rule.many_call ∷ []) [] tokens w
unfolding behind keyword_of is_intro is_called
count_opened below tokens v w n o =
    subst (λ (z : List Token). IsInCall (codes "count") below 2
    (rule.count_all_call ∷ rule.count_distinct_call ∷ rule.empty_call ∷ rule.single_call ∷
    rule.many_call ∷ []) [] z w)
    (sym (n.same ∙ ap (λ (z : List Token).
    record { span = n.span; kind = Word (codes "count") } ∷ z) o.same))
    (record {
      first = n.span;
      second = o.span;
      others = [];
      inside = widen language sound (take_token language sound (take_token language sound
          (choose language sound (sees_next language sound _)) refl) refl) (omega arith);
    })

pub opened_count : {below : ℕ} {kind : CallWord} {name : List ℕ} {tokens rest : List Token}
    → kind ≡ Count → IsOpened kind name tokens rest
    → IsInCall (codes "count") below 2
    (rule.count_all_call ∷ rule.count_distinct_call ∷ rule.empty_call ∷ rule.single_call ∷
    rule.many_call ∷ []) [] tokens rest
opened_count {below = below} {name = name} {tokens = tokens} {rest = rest} e o =
    by_kind (subst (λ (k : CallWord). IsOpened k name tokens rest) e o)
  where
    by_kind : IsOpened Count name tokens rest → IsInCall (codes "count") below 2
        (rule.count_all_call ∷ rule.count_distinct_call ∷ rule.empty_call ∷ rule.single_call
        ∷ rule.many_call ∷ []) [] tokens rest
    by_kind p = count_opened below tokens p.between rest p.begins.1 p.opens

count_unopened : (below : ℕ) (s : Span) (v : List Token) → IsTrue (is_missing (mark LeftParen) v)
    → IsFault (behind rule.call) rule.call below
    (record { span = s; kind = Word (codes "count") } ∷ v) (NoReading (length v))
unfolding behind keyword_of is_intro is_called
count_unopened below s v h =
    is_missed (take_token language sound (choose language sound (sees_next language sound _)) refl)
    (sees_missing (mark LeftParen ∷ []) v (both_missing _ _ h refl)) refl (omega arith)

count_deep : (s s' : Span) (v : List Token)
    → IsFault (behind rule.call) rule.call 0 (record { span = s; kind = Word (codes "count") }
    ∷ record { span = s'; kind = Sym LeftParen } ∷ v)
    (TooDeep (length (record { span = s'; kind = Sym LeftParen } ∷ v)))
unfolding behind keyword_of is_intro is_called
count_deep s s' v =
    is_barred_here (take_token language sound (choose language sound (sees_next language sound _))
    refl) refl (omega arith)

trim_opened : (below : ℕ) (tokens v w : List Token)
    → IsNext (Word (codes "trim")) tokens v → IsNext (Sym LeftParen) v w
    → IsInCall (codes "trim") below 2
    (rule.trim_side_call ∷ rule.trim_call ∷ rule.empty_call ∷ rule.single_call ∷ rule.many_call ∷
    []) [] tokens w
unfolding behind keyword_of is_intro is_called
trim_opened below tokens v w n o =
    subst (λ (z : List Token). IsInCall (codes "trim") below 2
    (rule.trim_side_call ∷ rule.trim_call ∷ rule.empty_call ∷ rule.single_call ∷ rule.many_call ∷
    []) [] z w)
    (sym (n.same ∙ ap (λ (z : List Token).
    record { span = n.span; kind = Word (codes "trim") } ∷ z) o.same))
    (record {
      first = n.span;
      second = o.span;
      others = [];
      inside = widen language sound (take_token language sound (take_token language sound
          (choose language sound (sees_next language sound _)) refl) refl) (omega arith);
    })

pub opened_trim : {below : ℕ} {kind : CallWord} {name : List ℕ} {tokens rest : List Token}
    → kind ≡ Trim → IsOpened kind name tokens rest
    → IsInCall (codes "trim") below 2
    (rule.trim_side_call ∷ rule.trim_call ∷ rule.empty_call ∷ rule.single_call ∷ rule.many_call ∷
    []) [] tokens rest
opened_trim {below = below} {name = name} {tokens = tokens} {rest = rest} e o =
    by_kind (subst (λ (k : CallWord). IsOpened k name tokens rest) e o)
  where
    by_kind : IsOpened Trim name tokens rest → IsInCall (codes "trim") below 2
        (rule.trim_side_call ∷ rule.trim_call ∷ rule.empty_call ∷ rule.single_call ∷ rule.many_call
        ∷ []) [] tokens rest
    by_kind p = trim_opened below tokens p.between rest p.begins.1 p.opens

trim_unopened : (below : ℕ) (s : Span) (v : List Token) → IsTrue (is_missing (mark LeftParen) v)
    → IsFault (behind rule.call) rule.call below
    (record { span = s; kind = Word (codes "trim") } ∷ v) (NoReading (length v))
unfolding behind keyword_of is_intro is_called
trim_unopened below s v h =
    is_missed (take_token language sound (choose language sound (sees_next language sound _)) refl)
    (sees_missing (mark LeftParen ∷ []) v (both_missing _ _ h refl)) refl (omega arith)

trim_deep : (s s' : Span) (v : List Token)
    → IsFault (behind rule.call) rule.call 0 (record { span = s; kind = Word (codes "trim") }
    ∷ record { span = s'; kind = Sym LeftParen } ∷ v)
    (TooDeep (length (record { span = s'; kind = Sym LeftParen } ∷ v)))
unfolding behind keyword_of is_intro is_called
trim_deep s s' v =
    is_barred_here (take_token language sound (choose language sound (sees_next language sound _))
    refl) refl (omega arith)

substring_opened : (below : ℕ) (tokens v w : List Token)
    → IsNext (Word (codes "substring")) tokens v → IsNext (Sym LeftParen) v w
    → IsInCall (codes "substring") below 2
    (rule.substring_call ∷ rule.empty_call ∷ rule.single_call ∷ rule.many_call ∷ []) [] tokens w
unfolding behind keyword_of is_intro is_called
substring_opened below tokens v w n o =
    subst (λ (z : List Token). IsInCall (codes "substring") below 2
    (rule.substring_call ∷ rule.empty_call ∷ rule.single_call ∷ rule.many_call ∷ []) [] z w)
    (sym (n.same ∙ ap (λ (z : List Token).
    record { span = n.span; kind = Word (codes "substring") } ∷ z) o.same))
    (record {
      first = n.span;
      second = o.span;
      others = [];
      inside = widen language sound (take_token language sound (take_token language sound
          (choose language sound (sees_next language sound _)) refl) refl) (omega arith);
    })

pub opened_substring : {below : ℕ} {kind : CallWord} {name : List ℕ} {tokens rest : List Token}
    → kind ≡ Substring → IsOpened kind name tokens rest
    → IsInCall (codes "substring") below 2
    (rule.substring_call ∷ rule.empty_call ∷ rule.single_call ∷ rule.many_call ∷ []) [] tokens rest
opened_substring {below = below} {name = name} {tokens = tokens} {rest = rest} e o =
    by_kind (subst (λ (k : CallWord). IsOpened k name tokens rest) e o)
  where
    by_kind : IsOpened Substring name tokens rest → IsInCall (codes "substring") below 2
        (rule.substring_call ∷ rule.empty_call ∷ rule.single_call ∷ rule.many_call ∷ []) [] tokens
        rest
    by_kind p = substring_opened below tokens p.between rest p.begins.1 p.opens

substring_unopened : (below : ℕ) (s : Span) (v : List Token) → IsTrue
    (is_missing (mark LeftParen) v)
    → IsFault (behind rule.call) rule.call below
    (record { span = s; kind = Word (codes "substring") } ∷ v) (NoReading (length v))
unfolding behind keyword_of is_intro is_called
substring_unopened below s v h =
    is_missed (take_token language sound (choose language sound (sees_next language sound _)) refl)
    (sees_missing (mark LeftParen ∷ []) v (both_missing _ _ h refl)) refl (omega arith)

substring_deep : (s s' : Span) (v : List Token)
    → IsFault (behind rule.call) rule.call 0 (record { span = s; kind = Word (codes "substring") }
    ∷ record { span = s'; kind = Sym LeftParen } ∷ v)
    (TooDeep (length (record { span = s'; kind = Sym LeftParen } ∷ v)))
unfolding behind keyword_of is_intro is_called
substring_deep s s' v =
    is_barred_here (take_token language sound (choose language sound (sees_next language sound _))
    refl) refl (omega arith)

weight_string_opened : (below : ℕ) (tokens v w : List Token)
    → IsNext (Word (codes "weight_string")) tokens v → IsNext (Sym LeftParen) v w
    → IsInCall (codes "weight_string") below 2
    (rule.weight_string_call ∷ rule.empty_call ∷ rule.many_call ∷ []) [] tokens w
unfolding behind keyword_of is_intro is_called
weight_string_opened below tokens v w n o =
    subst (λ (z : List Token). IsInCall (codes "weight_string") below 2
    (rule.weight_string_call ∷ rule.empty_call ∷ rule.many_call ∷ []) [] z w)
    (sym (n.same ∙ ap (λ (z : List Token).
    record { span = n.span; kind = Word (codes "weight_string") } ∷ z) o.same))
    (record {
      first = n.span;
      second = o.span;
      others = [];
      inside = widen language sound (take_token language sound (take_token language sound
          (choose language sound (sees_next language sound _)) refl) refl) (omega arith);
    })

pub opened_weight_string : {below : ℕ} {kind : CallWord} {name : List ℕ} {tokens rest : List Token}
    → kind ≡ WeightString → IsOpened kind name tokens rest
    → IsInCall (codes "weight_string") below 2
    (rule.weight_string_call ∷ rule.empty_call ∷ rule.many_call ∷ []) [] tokens rest
opened_weight_string {below = below} {name = name} {tokens = tokens} {rest = rest} e o =
    by_kind (subst (λ (k : CallWord). IsOpened k name tokens rest) e o)
  where
    by_kind : IsOpened WeightString name tokens rest → IsInCall (codes "weight_string") below 2
        (rule.weight_string_call ∷ rule.empty_call ∷ rule.many_call ∷ []) [] tokens rest
    by_kind p = weight_string_opened below tokens p.between rest p.begins.1 p.opens

weight_string_unopened : (below : ℕ) (s : Span) (v : List Token) → IsTrue
    (is_missing (mark LeftParen) v)
    → IsFault (behind rule.call) rule.call below
    (record { span = s; kind = Word (codes "weight_string") } ∷ v) (NoReading (length v))
unfolding behind keyword_of is_intro is_called
weight_string_unopened below s v h =
    is_missed (take_token language sound (choose language sound (sees_next language sound _)) refl)
    (sees_missing (mark LeftParen ∷ []) v (both_missing _ _ h refl)) refl (omega arith)

weight_string_deep : (s s' : Span) (v : List Token)
    → IsFault (behind rule.call) rule.call 0
    (record { span = s; kind = Word (codes "weight_string") }
    ∷ record { span = s'; kind = Sym LeftParen } ∷ v)
    (TooDeep (length (record { span = s'; kind = Sym LeftParen } ∷ v)))
unfolding behind keyword_of is_intro is_called
weight_string_deep s s' v =
    is_barred_here (take_token language sound (choose language sound (sees_next language sound _))
    refl) refl (omega arith)

-- Any other word

three_next : (a b c : Bool) → IsTrue a → IsTrue b → IsTrue c
    → IsTrue (elim a [
      | true ↦ elim b
          [ true ↦ elim c [ true ↦ true | false ↦ false ] | false ↦ false ]
      | false ↦ false
    ])
three_next true true true h k l = refl
three_next true true false h k l = cc
three_next true false c h k l = cc
three_next false b c h k l = cc

sixth : (a b c d e f : Bool) → IsTrue (a && (b && (c && (d && (e && (f && true)))))) → IsTrue f
sixth a b c d e f h =
    (both_parts f true (both_parts e (f && true) (both_parts d (e && (f && true))
    (both_parts c (d && (e && (f && true))) (both_parts b (c && (d && (e && (f && true))))
    (both_parts a (b && (c && (d && (e && (f && true))))) h).1).1).1).1).1).0

-- A word that may stand with one argument too.
otherwise : (name : List ℕ) (s : Span) (v : List Token) → IsTrue (is_called name)
    → IsTrue (are_missing call_words (record { span = s; kind = Word name } ∷ v))
    → IsTrue (is_called name && not (bytes_eq name (codes "weight_string")))
otherwise name s v h k =
    both_missing (is_called name) (not (bytes_eq name (codes "weight_string"))) h
    (sixth (not (bytes_eq name (codes "convert"))) (not (bytes_eq name (codes "cast")))
    (not (bytes_eq name (codes "count"))) (not (bytes_eq name (codes "trim")))
    (not (bytes_eq name (codes "substring"))) (not (bytes_eq name (codes "weight_string"))) k)

other_opened : (below : ℕ) (name : List ℕ) (s s' : Span) (w : List Token) → IsTrue (is_called name)
    → IsTrue (are_missing call_words (record { span = s; kind = Word name }
    ∷ record { span = s'; kind = Sym LeftParen } ∷ w))
    → IsInCall name below 2 (rule.empty_call ∷ rule.single_call ∷ rule.many_call ∷ [])
    [] (record { span = s; kind = Word name } ∷ record { span = s'; kind = Sym LeftParen } ∷ w) w
unfolding behind
other_opened below name s s' w h k =
    record {
      first = s;
      second = s';
      others = [];
      inside = widen language sound (take_token language sound (take_token language sound
          (choose language sound (sees_missing call_words _ k))
          (three_next (is_called name)
          (is_called name && not (bytes_eq name (codes "weight_string")))
          (is_called name) h (otherwise name s (record { span = s'; kind = Sym LeftParen } ∷ w) h k)
          h)) refl) (omega arith);
    }

pub opened_other : {below : ℕ} {kind : CallWord} {name : List ℕ} {tokens rest : List Token}
    → kind ≡ Other → IsOpened kind name tokens rest
    → IsInCall name below 2 (rule.empty_call ∷ rule.single_call ∷ rule.many_call ∷ []) [] tokens
    rest
opened_other {below = below} {name = name} {tokens = tokens} {rest = rest} e o =
    by_kind (subst (λ (k : CallWord). IsOpened k name tokens rest) e o)
  where
    by_kind : IsOpened Other name tokens rest
        → IsInCall name below 2 (rule.empty_call ∷ rule.single_call ∷ rule.many_call ∷ []) [] tokens
        rest
    by_kind p =
        let same : tokens ≡ record { span = p.begins.next.span; kind = Word name }
        ∷ record { span = p.opens.span; kind = Sym LeftParen } ∷ rest =
        p.begins.next.same ∙ ap (λ (z : List Token).
        record { span = p.begins.next.span; kind = Word name } ∷ z) p.opens.same in
        subst (λ (z : List Token). IsInCall name below 2
        (rule.empty_call ∷ rule.single_call ∷ rule.many_call ∷ []) [] z rest) (sym same)
        (other_opened below name p.begins.next.span p.opens.span rest p.begins.calls
        (subst (λ (z : List Token). IsTrue (are_missing call_words z)) same p.begins.others))

other_unopened : (below : ℕ) (name : List ℕ) (s : Span) (v : List Token) → IsTrue (is_called name)
    → IsTrue (are_missing call_words (record { span = s; kind = Word name } ∷ v))
    → IsTrue (is_missing (mark LeftParen) v)
    → IsFault (behind rule.call) rule.call below
    (record { span = s; kind = Word name } ∷ v) (NoReading (length v))
unfolding behind
other_unopened below name s v h k g =
    is_missed (take_token language sound (choose language sound (sees_missing call_words _ k))
    (three_next (is_called name) (is_called name && not (bytes_eq name (codes "weight_string")))
    (is_called name) h (otherwise name s v h k) h))
    (sees_missing (mark LeftParen ∷ []) v (both_missing _ _ g refl)) refl (omega arith)

other_deep : (name : List ℕ) (s s' : Span) (v : List Token) → IsTrue (is_called name)
    → IsTrue (are_missing call_words (record { span = s; kind = Word name }
    ∷ record { span = s'; kind = Sym LeftParen } ∷ v))
    → IsFault (behind rule.call) rule.call 0 (record { span = s; kind = Word name }
    ∷ record { span = s'; kind = Sym LeftParen } ∷ v)
    (TooDeep (length (record { span = s'; kind = Sym LeftParen } ∷ v)))
unfolding behind
other_deep name s s' v h k =
    is_barred_here (take_token language sound (choose language sound (sees_missing call_words _ k))
    (three_next (is_called name) (is_called name && not (bytes_eq name (codes "weight_string")))
    (is_called name) h (otherwise name s (record { span = s'; kind = Sym LeftParen } ∷ v) h k) h))
    refl (omega arith)

-- The word is read, and no `(` is next.
pub call_unopened : (kind : CallWord) (below : ℕ) (name : List ℕ) (tokens v : List Token) (left : ℕ)
    → IsCallWord kind name tokens v → IsTrue (is_missing (mark LeftParen) v) → left ≡ length v
    → IsFault (behind rule.call) rule.call below tokens (NoReading left)
call_unopened kind below name tokens v left w h e =
    subst (λ (n : ℕ). IsFault (behind rule.call) rule.call below tokens (NoReading n)) (sym e)
    (by_kind kind w)
  where
    carried : (x : List ℕ) → (n : IsNext (Word x) tokens v)
        → IsFault (behind rule.call) rule.call below (record { span = n.span; kind = Word x } ∷ v)
        (NoReading (length v))
        → IsFault (behind rule.call) rule.call below tokens (NoReading (length v))
    carried x n f = subst (λ (z : List Token). IsFault (behind rule.call) rule.call below z
        (NoReading (length v))) (sym n.same) f

    by_kind : (k : CallWord) → IsCallWord k name tokens v
        → IsFault (behind rule.call) rule.call below tokens (NoReading (length v))
    by_kind Convert w = carried (codes "convert") w.1 (convert_unopened below w.1.span v h)
    by_kind Cast w = carried (codes "cast") w.1 (cast_unopened below w.1.span v h)
    by_kind Count w = carried (codes "count") w.1 (count_unopened below w.1.span v h)
    by_kind Trim w = carried (codes "trim") w.1 (trim_unopened below w.1.span v h)
    by_kind Substring w = carried (codes "substring") w.1 (substring_unopened below w.1.span v h)
    by_kind WeightString w = carried (codes "weight_string") w.1
        (weight_string_unopened below w.1.span v h)
    by_kind Other w = carried name w.next (other_unopened below name w.next.span v w.calls
        (subst (λ (z : List Token). IsTrue (are_missing call_words z)) w.next.same w.others) h)

-- The word is read, and its `(` stands too deep.
pub call_deep : (kind : CallWord) (below : ℕ) (name : List ℕ) (tokens v u : List Token) (left : ℕ)
    → below ≡ 0 → IsCallWord kind name tokens v → IsNext (Sym LeftParen) v u → left ≡ length v
    → IsFault (behind rule.call) rule.call below tokens (TooDeep left)
call_deep kind below name tokens v u left none w o e =
    subst (λ (n : ℕ). IsFault (behind rule.call) rule.call below tokens (TooDeep n)) (sym e)
    (subst (λ (b : ℕ). IsFault (behind rule.call) rule.call b tokens (TooDeep (length v)))
    (sym none)
    (by_kind kind w))
  where
    carried : (x : List ℕ) → (n : IsNext (Word x) tokens v)
        → IsFault (behind rule.call) rule.call 0
        (record { span = n.span; kind = Word x } ∷ record { span = o.span; kind = Sym LeftParen }
        ∷ u)
        (TooDeep (length (record { span = o.span; kind = Sym LeftParen } ∷ u)))
        → IsFault (behind rule.call) rule.call 0 tokens (TooDeep (length v))
    carried x n f =
        subst (λ (z : List Token). IsFault (behind rule.call) rule.call 0 tokens
        (TooDeep (length z)))
        (sym o.same)
        (subst (λ (z : List Token). IsFault (behind rule.call) rule.call 0 z
        (TooDeep (length (record { span = o.span; kind = Sym LeftParen } ∷ u))))
        (sym (n.same ∙ ap (λ (z : List Token). record { span = n.span; kind = Word x } ∷ z) o.same))
        f)

    by_kind : (k : CallWord) → IsCallWord k name tokens v
        → IsFault (behind rule.call) rule.call 0 tokens (TooDeep (length v))
    by_kind Convert w = carried (codes "convert") w.1 (convert_deep w.1.span o.span u)
    by_kind Cast w = carried (codes "cast") w.1 (cast_deep w.1.span o.span u)
    by_kind Count w = carried (codes "count") w.1 (count_deep w.1.span o.span u)
    by_kind Trim w = carried (codes "trim") w.1 (trim_deep w.1.span o.span u)
    by_kind Substring w = carried (codes "substring") w.1 (substring_deep w.1.span o.span u)
    by_kind WeightString w = carried (codes "weight_string") w.1
        (weight_string_deep w.1.span o.span u)
    by_kind Other w = carried name w.next (other_deep name w.next.span o.span u w.calls
        (subst (λ (z : List Token). IsTrue (are_missing call_words z))
        (w.next.same ∙ ap (λ (z : List Token). record { span = w.next.span; kind = Word name } ∷ z)
        o.same)
        w.others))

-- CONVERT

pub convert_operand : {below : ℕ} {tokens v w : List Token} {x : Found}
    → IsInCall (codes "convert") below 2 (rule.convert_call ∷ []) [] tokens v
    → IsOperandAt false rule.or below v w x
    → IsInCall (codes "convert") below 3 (rule.convert_call ∷ [])
    (operand (as_operand x) ∷ []) tokens w
unfolding behind behind_at keyword_of is_intro is_called
convert_operand p o = in_rule p o.done refl refl

pub convert_missed : {below : ℕ} {tokens v : List Token} {fault : Fault}
    → IsInCall (codes "convert") below 2 (rule.convert_call ∷ []) [] tokens v
    → IsFault (behind_at false rule.or) rule.or below v fault → IsCallFault below tokens fault
unfolding behind behind_at keyword_of is_intro is_called
convert_missed p o = in_fault p o refl refl

pub using_missed : {below : ℕ} {tokens v : List Token} {x : Operand} {left : ℕ}
    → IsTrue (is_missing (word (codes "using")) v) → left ≡ length v
    → IsInCall (codes "convert") below 3 (rule.convert_call ∷ []) (operand x ∷ []) tokens v
    → IsCallFault below tokens (NoReading left)
unfolding behind behind_at keyword_of is_intro is_called
using_missed h e p = in_missed (word (codes "using") ∷ []) p (both_missing _ _ h refl) refl e

pub using_name_missed : {below : ℕ} {tokens v w : List Token} {x : Operand} {fault : Fault}
    → IsNext (Word (codes "using")) v w
    → IsFault (behind rule.name_or_binary) rule.name_or_binary below w fault
    → IsInCall (codes "convert") below 3 (rule.convert_call ∷ []) (operand x ∷ []) tokens v
    → IsCallFault below tokens fault
unfolding behind behind_at keyword_of is_intro is_called
using_name_missed n o p = in_fault (in_token p n refl refl) o refl refl

pub using_read : {below : ℕ} {tokens v w u r : List Token} {x : Operand} {c : Collation}
    {span : Span}
    → IsNext (Word (codes "using")) v w
    → IsRead (behind rule.name_or_binary) 1 rule.name_or_binary below w u (collation c) c.extent
    → IsClosed tokens u r span
    → IsInCall (codes "convert") below 3 (rule.convert_call ∷ []) (operand x ∷ []) tokens v
    → IsCallRead below tokens r span (form.Convert x.expr c.name)
unfolding behind behind_at keyword_of is_intro is_called
using_read n o c p =
    in_closed (in_rule (in_token p n refl refl) o.done refl refl) c (λ s. refl) refl
    (λ e s t u. refl)

pub using_unclosed : {below : ℕ} {tokens v w u : List Token} {x : Operand} {c : Collation}
    {fault : Fault}
    → IsNext (Word (codes "using")) v w
    → IsRead (behind rule.name_or_binary) 1 rule.name_or_binary below w u (collation c) c.extent
    → IsUnclosed u fault
    → IsInCall (codes "convert") below 3 (rule.convert_call ∷ []) (operand x ∷ []) tokens v
    → IsCallFault below tokens fault
unfolding behind behind_at keyword_of is_intro is_called
using_unclosed n o u p = in_unclosed (in_rule (in_token p n refl refl) o.done refl refl) u refl

-- COUNT

pub star_read : {below : ℕ} {tokens v w u : List Token} {span : Span}
    → IsInCall (codes "count") below 2
    (rule.count_all_call ∷ rule.count_distinct_call ∷ rule.empty_call ∷ rule.single_call ∷
    rule.many_call ∷ []) [] tokens v
    → IsNext (Sym Star) v w → IsClosed tokens w u span
    → IsCallRead below tokens u span form.CountAll
unfolding behind behind_at keyword_of is_intro is_called
star_read p n c =
    in_closed (in_token (in_next {bs = rule.count_all_call ∷ []} p n refl) n refl refl) c
    (λ s. refl)
    refl (λ e s t u. refl)

pub star_unclosed : {below : ℕ} {tokens v w : List Token} {fault : Fault}
    → IsInCall (codes "count") below 2
    (rule.count_all_call ∷ rule.count_distinct_call ∷ rule.empty_call ∷ rule.single_call ∷
    rule.many_call ∷ []) [] tokens v
    → IsNext (Sym Star) v w → IsUnclosed w fault → IsCallFault below tokens fault
unfolding behind behind_at keyword_of is_intro is_called
star_unclosed p n u =
    in_unclosed (in_token (in_next {bs = rule.count_all_call ∷ []} p n refl) n refl refl) u refl

pub distinct_next : {below : ℕ} {tokens v w : List Token}
    → IsInCall (codes "count") below 2
    (rule.count_all_call ∷ rule.count_distinct_call ∷ rule.empty_call ∷ rule.single_call ∷
    rule.many_call ∷ []) [] tokens v
    → IsNext (Word (codes "distinct")) v w
    → IsInCall (codes "count") below 2 (rule.count_distinct_call ∷ []) [] tokens v
unfolding behind behind_at keyword_of is_intro is_called
distinct_next p n = in_next p n refl

pub count_plain : {below : ℕ} {tokens v : List Token}
    → IsInCall (codes "count") below 2
    (rule.count_all_call ∷ rule.count_distinct_call ∷ rule.empty_call ∷ rule.single_call ∷
    rule.many_call ∷ []) [] tokens v
    → IsTrue (is_missing (mark Star) v) → IsTrue (is_missing (word (codes "distinct")) v)
    → IsInCall (codes "count") below 2 (rule.empty_call ∷ rule.single_call ∷ rule.many_call ∷ [])
    [] tokens v
unfolding behind behind_at keyword_of is_intro is_called
count_plain p h k =
    in_missing (mark Star ∷ word (codes "distinct") ∷ []) p
    (both_missing _ _ h (both_missing _ _ k refl)) refl

pub distinct_read : {below : ℕ} {tokens v w r u : List Token} {x : Found} {span : Span}
    → IsInCall (codes "count") below 2 (rule.count_distinct_call ∷ []) [] tokens v
    → IsNext (Word (codes "distinct")) v w → IsOperandAt false rule.or below w r x
    → IsClosed tokens r u span → IsCallRead below tokens u span (form.CountDistinct x.expr)
unfolding behind behind_at keyword_of is_intro is_called
distinct_read p n o c =
    in_closed (in_rule (in_token p n refl refl) o.done refl refl) c (λ s. refl) refl
    (λ e s t u. refl)

pub distinct_missed : {below : ℕ} {tokens v w : List Token} {fault : Fault}
    → IsInCall (codes "count") below 2 (rule.count_distinct_call ∷ []) [] tokens v
    → IsNext (Word (codes "distinct")) v w → IsFault (behind_at false rule.or) rule.or below w fault
    → IsCallFault below tokens fault
unfolding behind behind_at keyword_of is_intro is_called
distinct_missed p n o = in_fault (in_token p n refl refl) o refl refl

pub distinct_unclosed : {below : ℕ} {tokens v w r : List Token} {x : Found} {fault : Fault}
    → IsInCall (codes "count") below 2 (rule.count_distinct_call ∷ []) [] tokens v
    → IsNext (Word (codes "distinct")) v w → IsOperandAt false rule.or below w r x
    → IsUnclosed r fault → IsCallFault below tokens fault
unfolding behind behind_at keyword_of is_intro is_called
distinct_unclosed p n o u =
    in_unclosed (in_rule (in_token p n refl refl) o.done refl refl) u refl

-- Arguments alone

pub empty_read : {below : ℕ} {name : List ℕ} {tokens v w : List Token} {span : Span}
    → IsInCall name below 2 (rule.empty_call ∷ rule.single_call ∷ rule.many_call ∷ []) [] tokens v
    → IsClosed tokens v w span → IsCallRead below tokens w span (form.Call name [])
unfolding behind behind_at
empty_read p c =
    in_closed (in_next {bs = rule.empty_call ∷ []} p c.next refl) c (λ s. refl) refl
    (λ e s t u. refl)

pub first_missed : {below : ℕ} {name : List ℕ} {tokens v : List Token} {fault other : Fault}
    → IsInCall name below 2 (rule.empty_call ∷ rule.single_call ∷ rule.many_call ∷ []) [] tokens v
    → IsUnclosed v other → IsFault (behind_at false rule.or) rule.or below v fault
    → IsCallFault below tokens fault
unfolding behind behind_at
first_missed p u o =
    in_fault (in_missing {bs = rule.single_call ∷ rule.many_call ∷ []} (mark RightParen ∷ []) p
    (both_missing _ _ u.missing refl) refl) o refl refl

pub first_read : {below : ℕ} {name : List ℕ} {tokens v w : List Token} {x : Found} {other : Fault}
    → IsInCall name below 2 (rule.empty_call ∷ rule.single_call ∷ rule.many_call ∷ []) [] tokens v
    → IsUnclosed v other → IsOperandAt false rule.or below v w x
    → IsInCall name below 3 (rule.single_call ∷ rule.many_call ∷ [])
    (operand (as_operand x) ∷ []) tokens w
unfolding behind behind_at
first_read p u o =
    in_rule (in_missing {bs = rule.single_call ∷ rule.many_call ∷ []} (mark RightParen ∷ []) p
    (both_missing _ _ u.missing refl) refl) o.done refl refl

pub single_read : {below : ℕ} {name : List ℕ} {tokens v w : List Token} {x : Operand} {span : Span}
    → IsInCall name below 3 (rule.single_call ∷ rule.many_call ∷ []) (operand x ∷ []) tokens v
    → IsClosed tokens v w span → IsCallRead below tokens w span (form.Call name (x.expr ∷ []))
unfolding behind behind_at
single_read p c =
    in_closed (in_next {bs = rule.single_call ∷ []} p c.next refl) c (λ s. refl) refl
    (λ e s t u. refl)

pub not_single : {below : ℕ} {name : List ℕ} {tokens v : List Token} {x : Operand} {other : Fault}
    → IsInCall name below 3 (rule.single_call ∷ rule.many_call ∷ []) (operand x ∷ []) tokens v
    → IsUnclosed v other
    → IsInCall name below 3 (rule.many_call ∷ []) (operand x ∷ []) tokens v
unfolding behind behind_at
not_single p u =
    in_missing (mark RightParen ∷ []) p (both_missing _ _ u.missing refl) refl

-- The word of a call that is none of those with arguments of their own.
pub other_word : {tokens rest : List Token} {w : List ℕ} → IsTextOf called tokens rest w
    → IsTrue (is_missing (word (codes "convert")) tokens)
    → IsTrue (is_missing (word (codes "cast")) tokens)
    → IsTrue (is_missing (word (codes "count")) tokens)
    → IsTrue (is_missing (word (codes "trim")) tokens)
    → IsTrue (is_missing (word (codes "substring")) tokens)
    → IsTrue (is_missing (word (codes "weight_string")) tokens)
    → IsOther w tokens rest
other_word {tokens = tokens} {rest = rest} {w = w} n a b c d e f = by_kind n.token.kind refl
    n.of_class
  where
    by_kind : (x : Lexeme) → n.token.kind ≡ x → IsTrue (is_lexeme_of called x)
        → IsOther w tokens rest
    by_kind (Word y) i m = record {
      next = record {
        span = n.token.span;
        same = n.same ∙ ap (λ (z : Lexeme). record { span = n.token.span; kind = z } ∷ rest)
            (i ∙ ap (λ (z : List ℕ). Word z) (sym (n.says ∙ ap lexeme_text i)));
      };
      calls = subst (λ (z : List ℕ). IsTrue (is_called z)) (sym (n.says ∙ ap lexeme_text i)) m;
      others = both_missing _ _ a (both_missing _ _ b (both_missing _ _ c (both_missing _ _ d
          (both_missing _ _ e (both_missing _ _ f refl)))));
    }
    by_kind _ i m = cc

-- A call inside parentheses that are there for it.
pub call_again : {below inner : ℕ} {tokens rest : List Token} {x : Found} → suc inner ≡ below
    → IsOperand rule.call (suc inner) tokens rest x → IsOperand rule.call below tokens rest x
call_again {tokens = tokens} {rest = rest} {x = x} e p =
    subst (λ (b : ℕ). IsOperand rule.call b tokens rest x) e p

pub call_fails : {below inner : ℕ} {tokens : List Token} {fault : Fault} → suc inner ≡ below
    → IsCallFault inner tokens fault → IsFault (behind rule.call) rule.call below tokens fault
call_fails {tokens = tokens} {fault = fault} e p =
    subst (λ (b : ℕ). IsFault (behind rule.call) rule.call b tokens fault) e p
