-- What a key keeps of a list: all of it but the spaces at its end.
use Rattle.std.proofs.Common.{◌≡◌, ◌≢◌, ℕ, zero, suc, ◌<◌, ◌≤◌, ◌-◌, if◌then◌else◌, List, [], ◌∷◌, ◌+◌, ◌++◌, drop, take, take_all, length, length-drop, slice_index_or, refl, sym, ap, ◌∙◌, ⊎_elim, arith}
use Rattle.std.proofs.Math.Seq.{drop-append_seam, take-append-add}
use Rattle.std.proofs.lemmas.Bool.Decides.{eqb_tells}
use Rattle.mc_order.specs.declared.pad.Pad.{Pad}
use Rattle.mc_order.specs.declared.pad.Pad.TheVariants.{PadSpace, NoPad}
use Rattle.mc_key.specs.Keys.{in_front, without_spaces, kept_list}

-- A space in front of nothing falls away, any other weight stays.
pub in_front_space : (space weight : ℕ) → weight ≡ space → in_front space weight [] ≡ []
in_front_space space weight e =
    ⊎_elim (λ t. ap (λ b. if b then [] else weight ∷ []) t.0) (λ f. absurd (f.1 e))
    (eqb_tells weight space)

pub in_front_other : (space weight : ℕ) → weight ≢ space →
    in_front space weight [] ≡ weight ∷ []
in_front_other space weight n =
    ⊎_elim (λ t. absurd (n t.1)) (λ f. ap (λ b. if b then [] else weight ∷ []) f.0)
    (eqb_tells weight space)

-- What is kept is kept once more.
in_front_again : (space weight : ℕ) (list : List ℕ) → without_spaces space list ≡ list →
    without_spaces space (in_front space weight list) ≡ in_front space weight list
unfolding without_spaces
in_front_again space weight [] h =
    ⊎_elim (λ t. ap (without_spaces space) (in_front_space space weight t.1)
    ∙ sym (in_front_space space weight t.1))
    (λ f. ap (without_spaces space) (in_front_other space weight f.1)
    ∙ in_front_other space weight f.1 ∙ sym (in_front_other space weight f.1))
    (eqb_tells weight space)
in_front_again space weight (next ∷ more) h = ap (in_front space weight) h

pub without_spaces_again : (space : ℕ) (list : List ℕ) →
    without_spaces space (without_spaces space list) ≡ without_spaces space list
unfolding without_spaces
without_spaces_again space [] = refl
without_spaces_again space (weight ∷ weights) =
    in_front_again space weight (without_spaces space weights) (without_spaces_again space weights)

pub kept_again : (pad : Pad) (space : ℕ) (list : List ℕ) →
    kept_list pad space (kept_list pad space list) ≡ kept_list pad space list
kept_again NoPad space list = refl
kept_again PadSpace space list = without_spaces_again space list

-- A space at the end falls away.
pub without_spaces_space : (space k : ℕ) (list : List ℕ) → k < length list →
    slice_index_or list k 0 ≡ space →
    without_spaces space (take (suc k) list) ≡ without_spaces space (take k list)
unfolding without_spaces
without_spaces_space space k [] h e = absurd (omega arith)
without_spaces_space space zero (weight ∷ weights) h e = in_front_space space weight e
without_spaces_space space (suc k) (weight ∷ weights) h e =
    ap (in_front space weight) (without_spaces_space space k weights (omega arith) e)

-- Where another weight stands at the end, all is kept.
pub without_spaces_other : (space k : ℕ) (list : List ℕ) → k < length list →
    slice_index_or list k 0 ≢ space →
    without_spaces space (take (suc k) list) ≡ take (suc k) list
unfolding without_spaces
without_spaces_other space k [] h n = absurd (omega arith)
without_spaces_other space zero (weight ∷ weights) h n = in_front_other space weight n
without_spaces_other space (suc k) (weight ∷ []) h n = absurd (omega arith)
without_spaces_other space (suc k) (weight ∷ next ∷ more) h n =
    ap (in_front space weight) (without_spaces_other space k (next ∷ more) (omega arith) n)

pub without_spaces_none : (space : ℕ) → without_spaces space [] ≡ []
unfolding without_spaces
without_spaces_none space = refl

pub ruleset steps = (
  without_spaces_space,
  without_spaces_other,
  without_spaces_none,
)

-- One space less at the end.
pub one_space_less : (space len : ℕ) (list : List ℕ) → 0 < len → len ≤ length list →
    slice_index_or list (len - 1) 0 ≡ space →
    without_spaces space (take len list) ≡ without_spaces space list →
    without_spaces space (take (len - 1) list) ≡ without_spaces space list
one_space_less space zero list some h e w = absurd (omega arith)
one_space_less space (suc k) list some h e w =
    let less : suc k - 1 ≡ k = omega arith in
    ap (λ n. without_spaces space (take n list)) less
    ∙ sym (without_spaces_space space k list (omega arith)
    (sym (ap (λ n. slice_index_or list n 0) less) ∙ e)) ∙ w

-- Behind other weights a list is kept as it is alone.
pub kept_behind : (pad other : Pad) (space more start len : ℕ) (old list now new : List ℕ) →
    other ≡ pad → more ≡ space → start ≡ length old → now ≡ old ++ list →
    take len (take (length now - start) (drop start now))
    ≡ kept_list other more (take (length now - start) (drop start now)) →
    new ≡ take (start + len) now → new ≡ old ++ kept_list pad space list
kept_behind pad other space more start len old list now new is_pad is_space is_start is_now kept
    is_new =
    let rest : take (length now - start) (drop start now) ≡ list =
    take_all (length now - start) (drop start now) (omega (arith, length-drop start now))
    ∙ ap (λ n. drop n now) is_start ∙ ap (drop (length old)) is_now ∙ drop-append_seam old list in
    is_new ∙ ap (λ n. take (n + len) now) is_start ∙ ap (take (length old + len)) is_now
    ∙ take-append-add old list len
    ∙ ap (λ l. old ++ l)
    (ap (take len) (sym rest) ∙ kept ∙ ap (kept_list other more) rest
    ∙ ap (λ p. kept_list p more list) is_pad ∙ ap (λ s. kept_list pad s list) is_space)
