-- Marked code points, and where no contraction reaches into a text.
use Rattle.std.proofs.Common.{◌≡◌, ℕ, suc, ◌<◌, ◌≤◌, Bool, true, false, List, [], ◌∷◌, ◌++◌, length, slice_index_or, refl, sym, ap, subst, ◌∙◌, arith}
use Rattle.std.specs.List.{Contains}
use Rattle.mc_charset.specs.declared.charset.Charset.{Charset}
use Rattle.mc_allkeys.specs.Fronts.{IsFresh}
use Rattle.mc_allkeys.specs.Table.{Entries, contractions_of}
use Rattle.mc_uca.specs.Inner.{inner_at, MarksInner}
use Rattle.mc_uca.specs.SetContractions.{of_table}
use Rattle.mc_uca.specs.Weighing.{set_contractions}

not_both : (b : Bool) → b ≡ true → b ≡ false → ⊥
not_both true e f = cc
not_both false e f = cc

unmarked_by : (set : Charset) (entries : Entries) (marks : List Bool) (code : ℕ)
    (front rest : List ℕ) → MarksInner (contractions_of entries) marks →
    inner_at marks code ≡ false → (front ≡ [] → ⊥) →
    Contains (set_contractions set entries) (front ++ code ∷ rest) → ⊥
unmarked_by set entries marks code [] rest m e some joined = some refl
unmarked_by set entries marks code (f ∷ fs) rest m e some joined =
    not_both (inner_at marks code)
    (m f code fs rest (of_table set entries (f ∷ fs ++ code ∷ rest) joined).0) e

-- A text is fresh that begins with a code point without a mark, and one without codes.
pub fresh_unmarked : (set : Charset) (entries : Entries) (marks : List Bool) (code : ℕ)
    (codes rest : List ℕ) → codes ≡ code ∷ rest → MarksInner (contractions_of entries) marks →
    inner_at marks code ≡ false → IsFresh (set_contractions set entries) codes
fresh_unmarked set entries marks code codes rest e m unmarked =
    subst (IsFresh (set_contractions set entries)) (sym e)
    (λ inner. unmarked_by set entries marks code inner.front inner.rest m unmarked inner.some_front
    inner.joined)

pub fresh_none : (contractions : List (List ℕ)) (codes : List ℕ) → codes ≡ [] →
    IsFresh contractions codes
fresh_none contractions codes e = subst (IsFresh contractions) (sym e) tt

at_seam : (front : List ℕ) (code : ℕ) (rest : List ℕ) →
    slice_index_or (front ++ code ∷ rest) (length front) 0 ≡ code
at_seam [] code rest = refl
at_seam (f ∷ fs) code rest = at_seam fs code rest

seam_within : (front : List ℕ) (code : ℕ) (rest : List ℕ) →
    length front < length (front ++ code ∷ rest)
seam_within [] code rest = omega arith
seam_within (f ∷ fs) code rest = let h = seam_within fs code rest in omega arith

-- A code point behind the first place of a text whose others are marked.
pub marked_at : (marks : List Bool) (text : List ℕ) (first code : ℕ) (front rest : List ℕ) →
    ((k : ℕ) → 1 ≤ k → k < length text → inner_at marks (slice_index_or text k 0) ≡ true) →
    text ≡ first ∷ front ++ code ∷ rest → inner_at marks code ≡ true
marked_at marks text first code front rest all e =
    let within = seam_within front code rest in
    let long = ap length e in
    let place : slice_index_or text (suc (length front)) 0 ≡ code =
    ap (λ t. slice_index_or t (suc (length front)) 0) e ∙ at_seam front code rest in
    ap (inner_at marks) (sym place) ∙ all (suc (length front)) (omega arith) (omega (arith, within, long))
