-- The texts of operands in a set, but those that are NULL.
use Rattle.std.proofs.Common.{◌≡◌, ℕ, ◌+◌, ◌<◌, true, false, List, [], ◌∷◌, ◌++◌, All, length, map, take, get_or, append-nil, refl, sym, ap, subst, ◌∙◌}
use Rattle.std.specs.Prelude.{not}
use Rattle.std.proofs.lemmas.List.{map-append, take_more}
use Rattle.std.proofs.lemmas.List.Elements.{All-push, filter-append}
use Rattle.mc_charset.specs.Chars.{chars, chars_behind, IsWellFormed}
use Rattle.mc_charset.specs.declared.charset.Charset.{Charset}
use Rattle.mc_strfun.specs.Joins.{joined}
use Rattle.mc_values.specs.declared.value.Value.{Value}
use Rattle.mc_values.specs.declared.value.Value.TheVariants.{Null, Int, Str}
use Rattle.mc_eval.specs.Held.{held_value, held_values}
use Rattle.mc_eval.specs.SetTexts.{set_text}
use Rattle.mc_eval.specs.TextFunctions.{given}
use Rattle.mc_eval.specs.Texts.{chars_in, is_null, text_in}
use Rattle.mc_eval.specs.declared.held.Held.{Held}
use Rattle.mc_eval.specs.declared.texts.SetText.{SetText}

abbrev pub held_texts : Charset → List Held → List (List ℕ)
held_texts set helds = map (text_in set) (given (held_values helds))

held_texts-append : (set : Charset) (helds more : List Held) → held_texts set (helds ++ more) ≡ held_texts set helds ++ held_texts set more
held_texts-append set helds more =
    ap (λ vs. map (text_in set) (given vs)) (map-append held_value helds more)
    ∙ ap (map (text_in set)) (filter-append (λ it. not (is_null it)) (held_values helds) (held_values more))
    ∙ map-append (text_in set) (given (held_values helds)) (given (held_values more))

no_text : (set : Charset) (v : Value) → is_null v ≡ true → map (text_in set) (given (v ∷ [])) ≡ []
no_text set Null e = refl
no_text set (Int number) e = absurd (cc)
no_text set (Str from text) e = absurd (cc)

a_text : (set : Charset) (v : Value) → is_null v ≡ false → map (text_in set) (given (v ∷ [])) ≡ text_in set v ∷ []
a_text set Null e = absurd (cc)
a_text set (Int number) e = refl
a_text set (Str from text) e = refl

-- What one operand more adds.
text_added : (set : Charset) (helds : List Held) (i : ℕ) (held : Held) → i < length helds → held ≡ get_or helds i held → is_null (held_value held) ≡ false
    → held_texts set (take (i + 1) helds) ≡ held_texts set (take i helds) ++ text_in set (held_value held) ∷ []
text_added set helds i held h g e =
    ap (held_texts set) (take_more helds i held h ∙ ap (λ x. take i helds ++ x ∷ []) (sym g))
    ∙ held_texts-append set (take i helds) (held ∷ [])
    ∙ ap (λ x. held_texts set (take i helds) ++ x) (a_text set (held_value held) e)

none_added : (set : Charset) (helds : List Held) (i : ℕ) (held : Held) → i < length helds → held ≡ get_or helds i held → is_null (held_value held) ≡ true
    → held_texts set (take (i + 1) helds) ≡ held_texts set (take i helds)
none_added set helds i held h g e =
    ap (held_texts set) (take_more helds i held h ∙ ap (λ x. take i helds ++ x ∷ []) (sym g))
    ∙ held_texts-append set (take i helds) (held ∷ [])
    ∙ ap (λ x. held_texts set (take i helds) ++ x) (no_text set (held_value held) e)
    ∙ append-nil (held_texts set (take i helds))

-- The texts are those of the first operands.
pub record AreTexts (set : Charset) (helds : List Held) (i : ℕ) (texts : List SetText) : Type 0 where
  pub are : map set_text texts ≡ held_texts set (take i helds)
  pub well_formed : All (λ text. IsWellFormed set (set_text text)) texts

pub one_text : (set : Charset) (helds : List Held) (i : ℕ) (held : Held) (v : Value) (text : SetText) (texts new : List SetText)
    → i < length helds → held ≡ get_or helds i held → v ≡ held_value held → is_null v ≡ false → set_text text ≡ text_in set v → IsWellFormed set (set_text text)
    → new ≡ texts ++ text ∷ [] → AreTexts set helds i texts → AreTexts set helds (i + 1) new
one_text set helds i held v text texts new h g k e t w n a = record {
  are = ap (map set_text) n ∙ map-append set_text texts (text ∷ []) ∙ ap (λ ts. ts ++ set_text text ∷ []) a.are
      ∙ ap (λ x. held_texts set (take i helds) ++ x ∷ []) (t ∙ ap (text_in set) k)
      ∙ sym (text_added set helds i held h g (ap is_null (sym k) ∙ e));
  well_formed = subst (λ (ts : List SetText). All (λ x. IsWellFormed set (set_text x)) ts) (sym n)
      (All-push (λ x. IsWellFormed set (set_text x)) texts text a.well_formed w);
}

pub no_more : (set : Charset) (helds : List Held) (i : ℕ) (held : Held) (v : Value) (texts new : List SetText)
    → i < length helds → held ≡ get_or helds i held → v ≡ held_value held → is_null v ≡ true → new ≡ texts → AreTexts set helds i texts → AreTexts set helds (i + 1) new
no_more set helds i held v texts new h g k e n a = record {
  are = ap (map set_text) n ∙ a.are ∙ sym (none_added set helds i held h g (ap is_null (sym k) ∙ e));
  well_formed = subst (λ (ts : List SetText). All (λ x. IsWellFormed set (set_text x)) ts) (sym n) a.well_formed;
}

chars_of_texts : (set : Charset) (texts : List SetText) → map (λ text. chars set (set_text text)) texts ≡ map (chars set) (map set_text texts)
chars_of_texts set [] = refl
chars_of_texts set (text ∷ texts) = ap (λ rest. chars set (set_text text) ∷ rest) (chars_of_texts set texts)

chars_of_values : (set : Charset) (vs : List Value) → map (chars set) (map (text_in set) vs) ≡ map (chars_in set) vs
chars_of_values set [] = refl
chars_of_values set (v ∷ vs) = ap (λ rest. chars_in set v ∷ rest) (chars_of_values set vs)

-- Their characters.
pub texts_chars : (set : Charset) (texts : List SetText) (vs : List Value) → map set_text texts ≡ map (text_in set) (given vs)
    → map (λ text. chars set (set_text text)) texts ≡ map (chars_in set) (given vs)
texts_chars set texts vs e = chars_of_texts set texts ∙ ap (map (chars set)) e ∙ chars_of_values set (given vs)

-- What is NULL has none.
joined-given : (set : Charset) (vs : List Value) → joined (map (chars_in set) (given vs)) ≡ joined (map (chars_in set) vs)
unfolding chars chars_behind
joined-given set [] = refl
joined-given set (Null ∷ vs) = joined-given set vs
joined-given set (Int number ∷ vs) = ap (λ rest. chars_in set (Int number) ++ rest) (joined-given set vs)
joined-given set (Str from text ∷ vs) = ap (λ rest. chars_in set (Str from text) ++ rest) (joined-given set vs)

pub texts_joined : (set : Charset) (texts : List SetText) (vs : List Value) → map set_text texts ≡ map (text_in set) (given vs)
    → joined (map (λ text. chars set (set_text text)) texts) ≡ joined (map (chars_in set) vs)
texts_joined set texts vs e = ap joined (texts_chars set texts vs e) ∙ joined-given set vs
