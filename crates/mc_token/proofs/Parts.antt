-- The statements of the elements are those of the parts between the semicolons.
use Rattle.std.proofs.Common.{◌≡◌, ℕ, ◌+◌, Bool, true, false, not, ◌||◌, cond, List, [], ◌∷◌, ◌++◌, length, take, drop, suc, refl, ap, sym, ◌∙◌, arith}
use Rattle.std.specs.List.{list_any, onto_first, prefix_len, AllByRecursion}
use Rattle.std.specs.Prelude.{take_while}
use Rattle.std.proofs.lemmas.List.Splits.{slice_split-cons_yes, slice_split-cons_no}
use Rattle.mc_base.specs.declared.span.Span.{Span}
use Rattle.mc_token.specs.Cut.{IsElement, Cut}
use Rattle.mc_token.specs.Elements.{elements}
use Rattle.mc_token.specs.Parts.{len_of, parts_of, statement_of, statements_of}
use Rattle.mc_token.specs.Statements.{is_content, is_end, statement_len, statements_in, statements}
use Rattle.mc_token.specs.declared.element.Element.{Element}
use Rattle.mc_token.specs.declared.element.Kind.{Kind}
use Rattle.mc_token.specs.declared.element.Kind.TheVariants.{Space, Comment, Quoted, Unclosed, Semicolon, Other}
use Rattle.mc_token.proofs.CutWhole.{elements_are_cut}

-- A semicolon has one byte

-- The element has one byte, if it ends a statement.
abbrev IsOneEnd : Element → Type 0
IsOneEnd element = is_end element.kind ≡ true → element.len ≡ 1

end-one : (kind : Kind) (taken behind : List ℕ) (len : ℕ) → IsElement kind taken behind
    → len ≡ length taken → is_end kind ≡ true → len ≡ 1
end-one Semicolon taken behind len h e end = e ∙ ap length h
end-one Space taken behind len h e end = absurd (cc)
end-one Comment taken behind len h e end = absurd (cc)
end-one Quoted taken behind len h e end = absurd (cc)
end-one Unclosed taken behind len h e end = absurd (cc)
end-one Other taken behind len h e end = absurd (cc)

cut-ends : (bytes : List ℕ) (parts : List Element) → Cut bytes parts → AllByRecursion IsOneEnd parts
cut-ends bytes [] h = tt
cut-ends bytes (part ∷ parts) h = (
  end-one part.kind h.1.taken h.0 part.len h.1.is_element h.1.len_is,
  cut-ends h.0 parts h.2,
)

-- One element more

-- The parts of elements: the first, and those behind its semicolon.
record Split (rest : List Element) : Type 0 where
  first : List Element
  others : List (List Element)
  parts_are : parts_of rest ≡ first ∷ others

record Told (at : ℕ) (rest : List Element) : Type 0 where
  split : Split rest
  len : statement_len rest ≡ len_of split.first
  begun : statements_in true at rest
      ≡ statements_of (at + len_of split.first + 1) split.others
  fresh : statements_in false at rest ≡ statements_of at (split.first ∷ split.others)

none_told : (at : ℕ) → Told at []
unfolding statement_len statements_in
none_told at = record {
  split = record { first = []; others = []; parts_are = refl };
  len = refl;
  begun = refl;
  fresh = refl;
}

end_no_content : (kind : Kind) → is_end kind ≡ true → is_content kind ≡ false
end_no_content Semicolon e = refl
end_no_content Space e = refl
end_no_content Comment e = refl
end_no_content Quoted e = absurd (cc)
end_no_content Unclosed e = absurd (cc)
end_no_content Other e = absurd (cc)

-- a semicolon
end_told : (at : ℕ) (element : Element) (rest : List Element) → is_end element.kind ≡ true
    → element.len ≡ 1 → Told (at + element.len) rest → Told at (element ∷ rest)
unfolding statement_len statements_in
end_told at element rest end one t =
    let parts = t.split.first ∷ t.split.others in
    let place : at + element.len ≡ at + 0 + 1 = omega (arith, one) in
    let moved : statements_in false (at + element.len) rest ≡ statements_of (at + 0 + 1) parts =
    t.fresh ∙ ap (λ (p : ℕ). statements_of p parts) place in
    let blank = end_no_content element.kind end in
    record {
      split = record {
        first = [];
        others = parts;
        parts_are = slice_split-cons_yes (λ (e : Element). is_end e.kind) element rest end
            ∙ ap (λ (l : List (List Element)). [] ∷ l) t.split.parts_are;
      };
      len = rw end refl;
      begun = rw end moved;
      fresh = rw blank moved;
    }

-- The first part with one element more.
more_split : (element : Element) (rest : List Element) → is_end element.kind ≡ false
    → (s : Split rest) → parts_of (element ∷ rest) ≡ (element ∷ s.first) ∷ s.others
more_split element rest inside s =
    slice_split-cons_no (λ (e : Element). is_end e.kind) element rest inside
    ∙ ap (onto_first element) s.parts_are

take_more : (n : ℕ) (element : Element) (part : List Element)
    → len_of (take (1 + n) (element ∷ part)) ≡ element.len + len_of (take n part)
take_more n element part = let one : 1 + n ≡ suc n = omega arith in rw one refl

-- The element is none of content.
abbrev is_before : Element → Bool
is_before element = not (is_content element.kind)

before_more : (element : Element) (part : List Element) → is_content element.kind ≡ false
    → len_of (take_while is_before (element ∷ part))
    ≡ element.len + len_of (take_while is_before part)
before_more element part blank = rw blank (take_more (prefix_len is_before part) element part)

span_by : (some other : Bool) (start from end to : ℕ) → some ≡ other → start ≡ from → end ≡ to
    → ◌≡◌ {A = List Span} (cond some (record { start = start; end = end } ∷ []) [])
    (cond other (record { start = from; end = to } ∷ []) [])
span_by some other start from end to p q r = cc

-- The statement of a part with a blank before it.
blank_before : (at : ℕ) (element : Element) (part : List Element) → is_content element.kind ≡ false
    → statement_of (at + element.len) part ≡ statement_of at (element ∷ part)
blank_before at element part blank =
    let some = list_any (λ (e : Element). is_content e.kind) part in
    let before = len_of (take_while is_before part) in
    span_by some (is_content element.kind || some) (at + element.len + before)
    (at + len_of (take_while is_before (element ∷ part))) (at + element.len + len_of part)
    (at + (element.len + len_of part)) (ap (λ b. b || some) (sym blank))
    (omega (arith, before_more element part blank)) (omega arith)

blank_passed : (at : ℕ) (element : Element) (rest : List Element) → is_content element.kind ≡ false
    → statements_in false at (element ∷ rest) ≡ statements_in false (at + element.len) rest
unfolding statements_in
blank_passed at element rest blank = rw blank refl

-- an element that is part of a statement or stands before one
inside_told : (at : ℕ) (element : Element) (rest : List Element) → is_end element.kind ≡ false
    → (content : Bool) → is_content element.kind ≡ content → Told (at + element.len) rest
    → Told at (element ∷ rest)
unfolding statement_len statements_in
inside_told at element rest inside content c t =
    let first = t.split.first in
    let others = t.split.others in
    let place : at + element.len + len_of first + 1 ≡ at + (element.len + len_of first) + 1 =
    omega arith in
    let behind : statements_in true (at + element.len) rest
    ≡ statements_of (at + (element.len + len_of first) + 1) others =
    t.begun ∙ ap (λ (p : ℕ). statements_of p others) place in
    record {
      split = record {
        first = element ∷ first;
        others = others;
        parts_are = more_split element rest inside t.split;
      };
      len = rw inside (ap (λ n. element.len + n) t.len);
      begun = rw inside behind;
      fresh = fresh content c behind;
    }
  where
    fresh : (content : Bool) → is_content element.kind ≡ content
        → statements_in true (at + element.len) rest
        ≡ statements_of (at + (element.len + len_of t.split.first) + 1) t.split.others
        → statements_in false at (element ∷ rest)
        ≡ statements_of at ((element ∷ t.split.first) ∷ t.split.others)
    fresh true c behind =
        let start : at + 0 ≡ at = omega arith in
        let end : statement_len (element ∷ rest) ≡ element.len + len_of t.split.first =
        rw inside (ap (λ n. element.len + n) t.len) in
        rw (c, start, end, behind) refl
    fresh false c behind =
        let place : at + element.len + len_of t.split.first + 1
        ≡ at + (element.len + len_of t.split.first) + 1 = omega arith in
        let one = blank_before at element t.split.first c in
        blank_passed at element rest c ∙ (t.fresh ∙ ap (λ l. l ++ statements_of
        (at + element.len + len_of t.split.first + 1) t.split.others) one
        ∙ ap (λ (p : ℕ). statement_of at (element ∷ t.split.first)
        ++ statements_of p t.split.others) place)

told-by : (at : ℕ) (element : Element) (rest : List Element) (end : Bool)
    → is_end element.kind ≡ end → IsOneEnd element → Told (at + element.len) rest
    → Told at (element ∷ rest)
told-by at element rest true e one t = end_told at element rest e (one e) t
told-by at element rest false e one t =
    inside_told at element rest e (is_content element.kind) refl t

told : (at : ℕ) (rest : List Element) → AllByRecursion IsOneEnd rest → Told at rest
told at [] h = none_told at
told at (element ∷ rest) h =
    told-by at element rest (is_end element.kind) refl h.0
    (told (at + element.len) rest h.1)

-- The statements of a script are those of its parts.
pub statements_are : (script : List ℕ) (from : ℕ)
    → statements script from ≡ statements_of from (parts_of (elements (drop from script)))
unfolding statements
statements_are script from =
    let bytes = drop from script in
    let t = told from (elements bytes) (cut-ends bytes (elements bytes)
    (elements_are_cut bytes (elements bytes) refl)) in
    t.fresh ∙ ap (statements_of from) (sym t.split.parts_are)
