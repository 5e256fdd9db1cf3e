-- A value shows one thing, and no two values show the same.
use Rattle.std.proofs.Common.{◌≡◌, ℕ, List, Some, refl, sym, ap, ◌∙◌, subst}
use Rattle.mc_charset.specs.Chars.{Spells, chars, IsWellFormed}
use Rattle.mc_charset.specs.declared.charset.Charset.{Charset}
use Rattle.mc_values.specs.Shown.{Shown, Shows, shown}
use Rattle.mc_values.specs.Shown.Shown.{null, int, text}
use Rattle.mc_values.specs.Values.{IsTextOfSet}
use Rattle.mc_values.specs.declared.value.Value.{Value}
use Rattle.mc_values.specs.declared.value.Value.TheVariants.{Null, Int, Str}

-- What `chars_law` says.
abbrev pub Encodes : Type 0
Encodes = (set : Charset) (text : List ℕ) → IsWellFormed set text → Spells set (chars set text) text

abbrev pub Decodes : Type 0
Decodes = (set : Charset) (codes text : List ℕ) → Spells set codes text → chars set text ≡ codes

pub shows_shown : Encodes → (value : Value) → IsTextOfSet value → Shows value (shown value)
shows_shown e Null w = tt
shows_shown e (Int number) w = refl
shows_shown e (Str set bytes) w = (refl, e set bytes w)

pub shows_text : (value : Value) (it : Shown) → Shows value it → IsTextOfSet value
shows_text Null it h = tt
shows_text (Int number) it h = tt
shows_text (Str set bytes) (text other codes) h = (codes, h.1)
shows_text (Str set bytes) null h = absurd h
shows_text (Str set bytes) (int number) h = absurd h

pub shows_one : Decodes → (value : Value) (it : Shown) → Shows value it → it ≡ shown value
shows_one d Null null h = refl
shows_one d Null (int number) h = absurd h
shows_one d Null (text set codes) h = absurd h
shows_one d (Int number) null h = absurd h
shows_one d (Int number) (int other) h = ap int (sym h)
shows_one d (Int number) (text set codes) h = absurd h
shows_one d (Str set bytes) null h = absurd h
shows_one d (Str set bytes) (int number) h = absurd h
shows_one d (Str set bytes) (text other codes) h =
    ap (λ s. text s codes) (sym h.0) ∙ ap (λ cs. text set cs) (sym (d set codes bytes h.1))

same_bytes : (set : Charset) (codes bytes others : List ℕ) → Spells set codes bytes → Spells set codes others → bytes ≡ others
same_bytes set codes bytes others h k = let e : Some bytes ≡ Some others = sym h ∙ k in cc

pub shows_apart : (value other : Value) (it : Shown) → Shows value it → Shows other it → value ≡ other
shows_apart Null Null it h k = refl
shows_apart Null (Int number) null h k = absurd k
shows_apart Null (Int number) (int it) h k = absurd h
shows_apart Null (Int number) (text set codes) h k = absurd h
shows_apart Null (Str set bytes) null h k = absurd k
shows_apart Null (Str set bytes) (int it) h k = absurd h
shows_apart Null (Str set bytes) (text other codes) h k = absurd h
shows_apart (Int number) Null null h k = absurd h
shows_apart (Int number) Null (int it) h k = absurd k
shows_apart (Int number) Null (text set codes) h k = absurd h
shows_apart (Int number) (Int other) null h k = absurd h
shows_apart (Int number) (Int other) (int it) h k = ap (λ n. Int n) (h ∙ sym k)
shows_apart (Int number) (Int other) (text set codes) h k = absurd h
shows_apart (Int number) (Str set bytes) null h k = absurd h
shows_apart (Int number) (Str set bytes) (int it) h k = absurd k
shows_apart (Int number) (Str set bytes) (text other codes) h k = absurd h
shows_apart (Str set bytes) Null null h k = absurd h
shows_apart (Str set bytes) Null (int it) h k = absurd h
shows_apart (Str set bytes) Null (text other codes) h k = absurd k
shows_apart (Str set bytes) (Int number) null h k = absurd h
shows_apart (Str set bytes) (Int number) (int it) h k = absurd h
shows_apart (Str set bytes) (Int number) (text other codes) h k = absurd k
shows_apart (Str set bytes) (Str other others) null h k = absurd h
shows_apart (Str set bytes) (Str other others) (int it) h k = absurd h
shows_apart (Str set bytes) (Str other others) (text its codes) h k =
    let in_its : Spells its codes bytes = subst (λ s. Spells s codes bytes) h.0 h.1 in
    let others_in_its : Spells its codes others = subst (λ s. Spells s codes others) k.0 k.1 in
    ap (λ s. Str s bytes) (h.0 ∙ sym k.0) ∙ ap (λ t. Str other t) (same_bytes its codes bytes others in_its others_in_its)
