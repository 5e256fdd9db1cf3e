-- The search over the code points decides whether each character has a weight of its own.
use Rattle.std.proofs.Common.{◌≡◌, ◌≢◌, ◌↔◌, ℕ, zero, suc, ◌<◌, Bool, true}
use Rattle.std.proofs.Common.{false, cond, ◌&&◌, ◌||◌}
use Rattle.std.proofs.Common.{not, List, [], ◌∷◌, Option, Some, None, refl, sym, ap}
use Rattle.std.proofs.Common.{◌∙◌, subst}
use Rattle.std.proofs.Common.{⊎_elim, arith}
use Rattle.std.specs.Option.{is_some}
use Rattle.std.proofs.lemmas.Bool.{cases_lt}
use Rattle.mc_charset.specs.Chars.{spell, code_points}
use Rattle.mc_charset.specs.CodePoints.{spelled_code_point}
use Rattle.mc_order.specs.Meaning.{Meaning}
use Rattle.mc_order.specs.Laws.{HasWeightPerChar, KeepsFloor}
use Rattle.mc_order.specs.Tails.{has_members}
use Rattle.mc_order.specs.Floor.{each_below, weighs_if_char, weighs, floor_of}

both : (a b : Bool) → (a && b) ≡ true → (a ≡ true) × (b ≡ true)
both true b e = (refl, e)
both false b e = absurd cc

join : (a b : Bool) → a ≡ true → b ≡ true → (a && b) ≡ true
join true b ea eb = eb
join false b ea eb = absurd cc

each_passes : (n : ℕ) (test : ℕ → Bool) → each_below n test ≡ true → (i : ℕ) → i < n
    → test i ≡ true
unfolding each_below
each_passes zero test e i below = absurd (omega arith)
each_passes (suc n) test e i below =
    let parts = both (test n) (each_below n test) e in
    ⊎_elim (λ less. each_passes n test parts.1 i less)
    (λ more. let is : n ≡ i = omega arith in subst (λ k. test k ≡ true) is parts.0)
    (cases_lt i n)

passes_each : (n : ℕ) (test : ℕ → Bool) → ((i : ℕ) → i < n → test i ≡ true) →
    each_below n test ≡ true
unfolding each_below
passes_each zero test h = refl
passes_each (suc n) test h =
    join (test n) (each_below n test) (h n (omega arith))
    (passes_each n test (λ i below. h i (omega arith)))

-- The test of a code point, by what the set spells it by and by its weights.
if_char : (spelling : Option (List ℕ)) (weights : List ℕ) →
    (not (is_some spelling) || has_members weights) ≡ true →
    ((text : List ℕ) × (spelling ≡ Some text)) → weights ≢ []
if_char None weights e is none = absurd cc
if_char (Some text) [] e is none = absurd cc
if_char (Some text) (w ∷ ws) e is none = absurd cc

char_if : (spelling : Option (List ℕ)) (weights : List ℕ) →
    (((text : List ℕ) × (spelling ≡ Some text)) → weights ≢ []) →
    (not (is_some spelling) || has_members weights) ≡ true
char_if None weights h = refl
char_if (Some text) [] h = absurd (h (text, refl) refl)
char_if (Some text) (w ∷ ws) h = refl

none_there : (contractions : List (List ℕ)) → not (has_members contractions) ≡ true →
    contractions ≡ []
none_there [] e = refl
none_there (c ∷ cs) e = absurd cc

there_none : (contractions : List (List ℕ)) → contractions ≡ [] →
    not (has_members contractions) ≡ true
there_none contractions e = ap (λ cs. not (has_members cs)) e

weighs_all : (m : Meaning) → weighs m.charset (m.level_list 1) m.contractions ≡ true →
    HasWeightPerChar m
unfolding weighs
weighs_all m e =
    let parts = both (not (has_members m.contractions)) _ e in (
      none_there m.contractions parts.0,
      λ code is. if_char (spell m.charset code) (m.level_list 1 (code ∷ []))
          (each_passes code_points (weighs_if_char m.charset (m.level_list 1)) parts.1 code
          (spelled_code_point m.charset code is.0 is.1)) is,
    )

all_weighs : (m : Meaning) → HasWeightPerChar m →
    weighs m.charset (m.level_list 1) m.contractions ≡ true
unfolding weighs
all_weighs m h =
    join (not (has_members m.contractions)) _ (there_none m.contractions h.0)
    (passes_each code_points (weighs_if_char m.charset (m.level_list 1))
    (λ code below. char_if (spell m.charset code) (m.level_list 1 (code ∷ [])) (h.1 code)))

-- The search decides it.
pub weighs_decides : (m : Meaning) →
    (weighs m.charset (m.level_list 1) m.contractions ≡ true) ↔ HasWeightPerChar m
weighs_decides m = (weighs_all m, all_weighs m)

floor_cases : (m : Meaning) (k floor : ℕ) (all : Bool) →
    weighs m.charset (m.level_list 1) m.contractions ≡ all → floor ≡ cond all k 0 →
    (HasWeightPerChar m → floor ≡ k) × ((HasWeightPerChar m → ⊥) → floor ≡ 0)
floor_cases m k floor true e is = ((λ h. is), λ none. absurd (none (weighs_all m e)))
floor_cases m k floor false e is =
    ((λ h. let t = all_weighs m h in let f : true ≡ false = sym t ∙ e in cc), λ none. is)

-- A collation whose floor is so keeps the law of the floor.
pub KeepsFloor-from : (m : Meaning) → ((k : ℕ) → m.floor k ≡ floor_of m k) → KeepsFloor m
KeepsFloor-from m e =
    λ k. floor_cases m k (m.floor k) (weighs m.charset (m.level_list 1) m.contractions) refl (e k)
