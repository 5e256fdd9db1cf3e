-- One token alone is spelled by a front of some bytes.
use Rattle.std.proofs.Common.{◌≡◌, ℕ, List, ◌++◌, length, take, ap, sym, ◌∙◌}
use Rattle.std.proofs.Math.Seq.{take-append_seam}
use Rattle.std.proofs.lemmas.Option.{same_Some}
use Rattle.mc_token.specs.Spelled.{IsSpelled}
use Rattle.mc_token.specs.Spellings.{spelling_of}
use Rattle.mc_token.specs.declared.spelling.Shape.{Shape}
use Rattle.mc_token.specs.declared.spelling.Spelling.{Spelling}
use Rattle.mc_token.proofs.CutOpenings.{same_first}
use Rattle.mc_token.proofs.SpelledOne.{longest, spelling_with}

pub one_spelling : (shape other : Shape) (taken behind front rest : List ℕ)
    → IsSpelled shape taken behind → IsSpelled other front rest → taken ++ behind ≡ front ++ rest
    → (shape ≡ other) × (taken ≡ front)
one_spelling shape other taken behind front rest one two same =
    let l = longest shape taken behind one in
    let m = longest other front rest two in
    let first = same_first l.first m.first l.others m.others (sym l.begins ∙ same ∙ m.begins) in
    let spelling = spelling_with shape (length taken) in
    let alike = same_Some spelling (spelling_with other (length front))
    (sym l.longest ∙ ap (λ b. spelling_of b l.others) first.0 ∙ ap (spelling_of m.first) first.1
    ∙ m.longest) in
    let len : length taken ≡ length front = ap (λ (s : Spelling). s.len) alike in (
      ap (λ (s : Spelling). s.shape) alike,
      sym (take-append_seam taken behind) ∙ ap (λ n. take n (taken ++ behind)) len
          ∙ ap (take (length front)) same ∙ take-append_seam front rest,
    )
