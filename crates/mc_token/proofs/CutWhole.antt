-- The elements of a script are the one cut of it.
use Rattle.std.proofs.Common.{◌≡◌, ℕ, ◌-◌, List, [], ◌∷◌, ◌++◌, length, drop, suc, zero, refl, ap, sym, subst, ◌∙◌, arith}
use Rattle.std.proofs.Math.Seq.{drop-append_seam}
use Rattle.mc_token.specs.Elements.{element_of, elements_behind, elements}
use Rattle.mc_token.specs.declared.element.Element.{Element}
use Rattle.mc_token.specs.declared.element.Kind.{Kind}
use Rattle.mc_token.specs.Cut.{IsElement, Takes, Cut}
use Rattle.mc_token.proofs.Elements.{elements_behind-drop}
use Rattle.mc_token.proofs.CutOpenings.{element_with, same_first}
use Rattle.mc_token.proofs.CutElements.{element_found}
use Rattle.mc_token.proofs.CutExists.{part_of}

-- No other list is a cut

pub front_element : (first : ℕ) (others behind : List ℕ) (kind : Kind)
    → element_of first (others ++ behind) ≡ element_with kind (suc (length others))
    → elements (first ∷ (others ++ behind))
    ≡ element_with kind (suc (length others)) ∷ elements behind
unfolding elements_behind
front_element first others behind kind h =
    let bytes = others ++ behind in
    let count : suc (length others) - 1 ≡ length others = omega arith in
    ap (λ (e : Element). e ∷ elements_behind (e.len - 1) bytes) h
    ∙ ap (λ (l : List Element). element_with kind (suc (length others)) ∷ l)
    (ap (λ (n : ℕ). elements_behind n bytes) count
    ∙ elements_behind-drop (length others) bytes ∙ ap elements (drop-append_seam others behind))

pub taken_front : (bytes : List ℕ) (part : Element) (behind : List ℕ) → Takes bytes part behind
    → elements bytes ≡ part ∷ elements behind
taken_front bytes part behind t =
    let f = element_found part.kind t.taken behind t.is_element in
    let whole : bytes ≡ f.first ∷ (f.others ++ behind) =
    t.bytes_are ∙ ap (λ l. l ++ behind) f.taken_is in
    let count : suc (length f.others) ≡ part.len = sym (t.len_is ∙ ap length f.taken_is) in
    ap elements whole ∙ front_element f.first f.others behind part.kind f.element_is
    ∙ ap (λ (n : ℕ). element_with part.kind n ∷ elements behind) count

pub cut_is_elements : (bytes : List ℕ) (parts : List Element) → Cut bytes parts
    → parts ≡ elements bytes
unfolding elements_behind
cut_is_elements bytes [] h = ap elements (sym h)
cut_is_elements bytes (part ∷ parts) h =
    ap (λ (l : List Element). part ∷ l) (cut_is_elements h.0 parts h.2)
    ∙ sym (taken_front bytes part h.0 h.1)

-- They are one

takes_by : (bytes taken behind left : List ℕ) (kind : Kind) (element : Element)
    → element ≡ element_with kind (length taken) → left ≡ behind → bytes ≡ taken ++ behind
    → IsElement kind taken behind → Takes bytes element left
takes_by bytes taken behind left kind element e same whole h =
    subst (λ (l : List ℕ). Takes bytes element l) (sym same)
    (subst (λ (one : Element). Takes bytes one behind) (sym e) (record {
      taken = taken;
      bytes_are = whole;
      len_is = refl;
      is_element = h;
    }))

pub takes_first : (first : ℕ) (rest : List ℕ)
    → Takes (first ∷ rest) (element_of first rest) (drop ((element_of first rest).len - 1) rest)
takes_first first rest =
    let p = part_of first rest in
    let f = element_found p.kind p.taken p.behind p.is_element in
    let same = same_first first f.first rest (f.others ++ p.behind)
    (p.bytes_are ∙ ap (λ l. l ++ p.behind) f.taken_is) in
    let element : element_of first rest ≡ element_with p.kind (suc (length f.others)) =
    ap (λ (b : ℕ). element_of b rest) same.0
    ∙ ap (λ (l : List ℕ). element_of f.first l) same.1 ∙ f.element_is in
    let len : (element_of first rest).len - 1 ≡ length f.others =
    ap (λ (e : Element). e.len - 1) element ∙ omega arith in
    let left : drop ((element_of first rest).len - 1) rest ≡ p.behind =
    ap (λ (n : ℕ). drop n rest) len ∙ ap (λ (l : List ℕ). drop (length f.others) l) same.1
    ∙ drop-append_seam f.others p.behind in
    takes_by (first ∷ rest) p.taken p.behind (drop ((element_of first rest).len - 1) rest) p.kind
    (element_of first rest)
    (element ∙ ap (λ (n : ℕ). element_with p.kind n) (sym (ap length f.taken_is)))
    left p.bytes_are p.is_element

cut_from : (skipped : ℕ) (bytes : List ℕ) → Cut (drop skipped bytes) (elements_behind skipped bytes)
unfolding elements_behind
cut_from zero [] = refl
cut_from (suc skipped) [] = refl
cut_from (suc skipped) (byte ∷ behind) = cut_from skipped behind
cut_from zero (byte ∷ behind) = (
  drop ((element_of byte behind).len - 1) behind,
  takes_first byte behind,
  cut_from ((element_of byte behind).len - 1) behind,
)

pub elements_are_cut : (bytes : List ℕ) (parts : List Element) → parts ≡ elements bytes
    → Cut bytes parts
elements_are_cut bytes parts h = subst (Cut bytes) (sym h) (cut_from zero bytes)
