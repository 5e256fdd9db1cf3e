-- The reading of a pattern, character by character.
use Rattle.std.proofs.Common.{◌≡◌, ℕ, Bool, true, false, IsTrue, if◌then◌else◌, List, [], ◌∷◌, ◌++◌}
use Rattle.std.proofs.Common.{append_assoc, append-nil, length, Option, Some, None, refl, ap, ◌∙◌}
use Rattle.std.proofs.Common.{sym, arith}
use Rattle.std.specs.Option.{is_some}
use Rattle.std.proofs.lemmas.List.Elements.{All-head, All-tail}
use Rattle.mc_charset.specs.declared.charset.Charset.{Charset}
use Rattle.mc_charset.specs.Chars.{spell, spell_all, chars}
use Rattle.mc_order.specs.Meaning.{AreCharsOf, IsCharOf}
use Rattle.mc_like.specs.declared.item.PatternItem.{PatternItem}
use Rattle.mc_like.specs.declared.item.PatternItem.TheVariants.{Literal, One, Any}
use Rattle.mc_like.specs.Items.{item_of, is_escape, items_of, literal_front}
use Rattle.mc_like.specs.Pattern.{is_of_set, AreOfSet}
use Rattle.mc_like.specs.Read.{HasFirst, ReadsItem}

pub items_of-none : (escape : Option ℕ) → items_of escape [] ≡ []
unfolding items_of
items_of-none escape = refl

pub items_of-plain : (escape : Option ℕ) (code : ℕ) (codes : List ℕ) →
    is_escape escape code ≡ false →
    items_of escape (code ∷ codes) ≡ item_of code ∷ items_of escape codes
unfolding items_of
items_of-plain escape code [] e =
    ap (λ b. (if b then Literal code else item_of code) ∷ []) e
items_of-plain escape code (next ∷ codes) e =
    ap (λ b. if b then Literal next ∷ items_of escape codes
    else item_of code ∷ items_of escape (next ∷ codes)) e

pub items_of-escaped : (escape : Option ℕ) (code next : ℕ) (codes : List ℕ) →
    is_escape escape code ≡ true →
    items_of escape (code ∷ next ∷ codes) ≡ Literal next ∷ items_of escape codes
unfolding items_of
items_of-escaped escape code next codes e =
    ap (λ b. if b then Literal next ∷ items_of escape codes
    else item_of code ∷ items_of escape (next ∷ codes)) e

pub items_of-last : (escape : Option ℕ) (code : ℕ) → is_escape escape code ≡ true →
    items_of escape (code ∷ []) ≡ Literal code ∷ []
unfolding items_of
items_of-last escape code e = ap (λ b. (if b then Literal code else item_of code) ∷ []) e

pub items_of-no_characters : (escape : Option ℕ) (codes : List ℕ) → codes ≡ [] →
    items_of escape codes ≡ []
items_of-no_characters escape codes e = ap (items_of escape) e ∙ items_of-none escape

choice_of_set : (set : Charset) (code : ℕ) (a b : Bool) → IsTrue (is_some (spell set code)) →
    IsTrue (is_of_set set (if a then Any else (if b then One else Literal code)))
choice_of_set set code true b h = refl
choice_of_set set code false true h = refl
choice_of_set set code false false h = h

pub reads_plain : (set : Charset) (escape : Option ℕ) (text rest : List ℕ) (code : ℕ) →
    is_escape escape code ≡ false → HasFirst set text rest code →
    ReadsItem set escape text rest (item_of code)
reads_plain set escape text rest code e h = record {
  first = ap (items_of escape) h.first ∙ items_of-plain escape code (chars set rest) e;
  of_set = choice_of_set set code _ _ h.of_set;
  shorter = h.shorter;
}

pub reads_escaped : (set : Charset) (escape : Option ℕ) (text rest behind : List ℕ)
    (code next : ℕ) → is_escape escape code ≡ true → HasFirst set text rest code →
    HasFirst set rest behind next → ReadsItem set escape text behind (Literal next)
reads_escaped set escape text rest behind code next e h n = record {
  first = ap (items_of escape) (h.first ∙ ap (λ t. code ∷ t) n.first)
      ∙ items_of-escaped escape code next (chars set behind) e;
  of_set = n.of_set;
  shorter = omega (arith, h.shorter, n.shorter);
}

pub reads_last : (set : Charset) (escape : Option ℕ) (text rest : List ℕ) (code : ℕ) →
    is_escape escape code ≡ true → HasFirst set text rest code → chars set rest ≡ [] →
    ReadsItem set escape text rest (Literal code)
reads_last set escape text rest code e h none = record {
  first = ap (items_of escape) (h.first ∙ ap (λ t. code ∷ t) none)
      ∙ items_of-last escape code e
      ∙ ap (λ t. Literal code ∷ t) (sym (ap (items_of escape) none ∙ items_of-none escape));
  of_set = h.of_set;
  shorter = h.shorter;
}

some_spelling : (set : Charset) (code : ℕ) (spelling : Option (List ℕ)) →
    spell set code ≡ spelling → IsTrue (is_some spelling) → IsCharOf set code
some_spelling set code (Some text) e h = (text, e)
some_spelling set code None e h = absurd (let never : ⊥ = cc in never)

pub is_char : (set : Charset) (code : ℕ) → IsTrue (is_some (spell set code)) → IsCharOf set code
is_char set code h = some_spelling set code (spell set code) refl h

-- The literals in front of items of a set are characters of it.
front_of_set-cons : (set : Charset) (code : ℕ) (spelling : Option (List ℕ)) (codes : List ℕ) →
    spell set code ≡ spelling → IsTrue (is_some spelling) → AreCharsOf set codes →
    AreCharsOf set (code ∷ codes)
unfolding spell_all
front_of_set-cons set code (Some front) codes e h more = (front ++ more.0, rw (e, more.1) refl)
front_of_set-cons set code None codes e h more = cc

pub front_of_set : (set : Charset) (items : List PatternItem) → AreOfSet set items →
    AreCharsOf set (literal_front items)
unfolding literal_front spell_all
front_of_set set [] h = ([], refl)
front_of_set set (Literal code ∷ items) h =
    front_of_set-cons set code (spell set code) (literal_front items) refl
    (All-head (λ item. IsTrue (is_of_set set item)) (Literal code) items h)
    (front_of_set set items (All-tail (λ item. IsTrue (is_of_set set item)) (Literal code) items h))
front_of_set set (One ∷ items) h = ([], refl)
front_of_set set (Any ∷ items) h = ([], refl)

pub literal_front-none : literal_front [] ≡ []
unfolding literal_front
literal_front-none = refl

pub literal_front-literal : (code : ℕ) (items : List PatternItem) →
    literal_front (Literal code ∷ items) ≡ code ∷ literal_front items
unfolding literal_front
literal_front-literal code items = refl

pub literal_front-other : (item : PatternItem) (items : List PatternItem) →
    ((code : ℕ) → item ≡ Literal code → ⊥) → literal_front (item ∷ items) ≡ []
unfolding literal_front
literal_front-other (Literal code) items h = absurd (h code refl)
literal_front-other One items h = refl
literal_front-other Any items h = refl

pub ruleset fronts = (
  literal_front-none,
  literal_front-literal,
  literal_front-other,
)

-- What stands for no items at the end of a loop.
pub front_ends : (out all : List ℕ) (left : List PatternItem) → out ++ literal_front left ≡ all →
    literal_front left ≡ [] → out ≡ all
front_ends out all left e none = sym (append-nil out) ∙ ap (λ t. out ++ t) (sym none) ∙ e

pub front_goes_on : (out : List ℕ) (left : List PatternItem) (code : ℕ) (more : List PatternItem) →
    left ≡ Literal code ∷ more →
    (out ++ code ∷ []) ++ literal_front more ≡ out ++ literal_front left
front_goes_on out left code more e =
    append_assoc out (code ∷ []) (literal_front more)
    ∙ ap (λ t. out ++ t) (sym (ap literal_front e ∙ literal_front-literal code more))

pub no_items : (left : List PatternItem) → length left ≡ 0 → left ≡ []
no_items [] e = refl
no_items (item ∷ left) e = absurd (omega arith)
