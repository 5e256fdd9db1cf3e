-- What patterns and LIKE keep.
use Rattle.std.proofs.Common.{◌≡◌, ◌≢◌, ◌↔◌, ℕ, zero, suc, ◌+◌, ◌-◌, ◌≤◌, true, false, List, []}
use Rattle.std.proofs.Common.{◌∷◌, ◌++◌, Some, None, length, take, drop, refl, sym, ap, ◌∙◌, subst}
use Rattle.std.proofs.Common.{inl, inr, arith}
use Rattle.std.proofs.lemmas.Bool.Decides.{nat_tests}
use Rattle.std.proofs.lemmas.List.{drop-drop, drop-take, drop_all, length-take}
use Rattle.std.proofs.lemmas.Bool.{cases_lt}
use Rattle.std.proofs.lemmas.List.Elements.{All-head, All-tail}
use Rattle.mc_order.specs.Meaning.{Meaning}
use Rattle.mc_like.specs.declared.item.PatternItem.{PatternItem}
use Rattle.mc_like.specs.declared.item.PatternItem.TheVariants.{Literal, One, Any}
use Rattle.mc_like.specs.Items.{item_of, is_escape, literal_front}
use Rattle.mc_like.specs.Laws.{EachIsItem, EachOtherIsItem, EscapedIsLiteral, LastEscapeIsLiteral}
use Rattle.mc_like.specs.Laws.{LiteralsMatchEach, JoinedMatchAtCut, BeginsLikeFront}
use Rattle.mc_like.specs.Like.{Like}
use Rattle.mc_like.proofs.Like.{IsSingle, Like-end, Like-end_left, Like-end_right, Like-single}
use Rattle.mc_like.proofs.Like.{Like-single_back, Like-any, Like-any_back}
use Rattle.mc_like.proofs.Items.{items_of-none, items_of-plain, items_of-escaped, items_of-last}

pub each_is_item : EachIsItem
each_is_item [] = items_of-none None
each_is_item (code ∷ codes) =
    items_of-plain None code codes refl ∙ ap (λ t. item_of code ∷ t) (each_is_item codes)

other_test : (code escape : ℕ) → code ≢ escape → is_escape (Some escape) code ≡ false
other_test code escape other = grind (arith, nat_tests)

pub each_other_is_item : EachOtherIsItem
each_other_is_item escape [] other = items_of-none (Some escape)
each_other_is_item escape (code ∷ codes) other =
    items_of-plain (Some escape) code codes
    (other_test code escape (All-head (λ c. c ≢ escape) code codes other))
    ∙ ap (λ t. item_of code ∷ t)
    (each_other_is_item escape codes (All-tail (λ c. c ≢ escape) code codes other))

same_test : (escape : ℕ) → is_escape (Some escape) escape ≡ true
same_test escape = grind (arith, nat_tests)

pub escaped_is_literal : EscapedIsLiteral
escaped_is_literal escape next [] more other =
    items_of-escaped (Some escape) escape next more (same_test escape)
escaped_is_literal escape next (code ∷ codes) more other =
    items_of-plain (Some escape) code (codes ++ escape ∷ next ∷ more)
    (other_test code escape (All-head (λ c. c ≢ escape) code codes other))
    ∙ ap (λ t. item_of code ∷ t)
    (escaped_is_literal escape next codes more
    (All-tail (λ c. c ≢ escape) code codes other))

pub last_escape_is_literal : LastEscapeIsLiteral
last_escape_is_literal escape [] other =
    items_of-last (Some escape) escape (same_test escape)
last_escape_is_literal escape (code ∷ codes) other =
    items_of-plain (Some escape) code (codes ++ escape ∷ [])
    (other_test code escape (All-head (λ c. c ≢ escape) code codes other))
    ∙ ap (λ t. item_of code ∷ t)
    (last_escape_is_literal escape codes (All-tail (λ c. c ≢ escape) code codes other))

pub literals_match_each : (m : Meaning) → LiteralsMatchEach m
unfolding Like
literals_match_each m [] [] = (λ h. h, λ h. h)
literals_match_each m [] (code ∷ codes) = (λ h. h, λ h. h)
literals_match_each m (literal ∷ literals) [] = (λ h. h, λ h. h)
literals_match_each m (literal ∷ literals) (code ∷ codes) =
    let more = literals_match_each m literals codes in
    (λ h. (h.0, more.0 h.1), λ h. (h.0, more.1 h.1))

pub begins_like_front : (m : Meaning) → BeginsLikeFront m
unfolding Like literal_front
begins_like_front m [] codes h = tt
begins_like_front m (Literal literal ∷ items) [] h = absurd h
begins_like_front m (Literal literal ∷ items) (code ∷ codes) h =
    (h.0, begins_like_front m items codes h.1)
begins_like_front m (One ∷ items) codes h = tt
begins_like_front m (Any ∷ items) codes h = tt

-- What matches at a cut matches joined, and the other way, for these items.
abbrev Cuts : Meaning → List PatternItem → List PatternItem → List ℕ → Type 0
Cuts m items more codes =
    (cut : ℕ) × Like m items (take cut codes) × Like m more (drop cut codes)

any_cut : (m : Meaning) (items more : List PatternItem) (codes : List ℕ) (k : ℕ) →
    Cuts m items more (drop k codes) → Cuts m (Any ∷ items) more codes
unfolding Like
any_cut m items more codes k h = (
  k + h.0,
  (k, subst (Like m items) (sym (drop-take k h.0 codes)) h.1),
  subst (Like m more) (drop-drop h.0 k codes) h.2,
)

behind_cut : (m : Meaning) (items more : List PatternItem) (codes : List ℕ) (k cut : ℕ) → k ≤ cut →
    Like m items (drop k (take cut codes)) → Like m more (drop cut codes) →
    Cuts m items more (drop k codes)
behind_cut m items more codes k cut within h n =
    let e : k + (cut - k) ≡ cut = omega arith in (
      cut - k,
      subst (Like m items)
          (ap (λ c. drop k (take c codes)) (sym e) ∙ drop-take k (cut - k) codes) h,
      subst (Like m more) (sym (drop-drop (cut - k) k codes ∙ ap (λ c. drop c codes) e)) n,
    )

before_cut : (m : Meaning) (items more : List PatternItem) (codes : List ℕ) (k cut : ℕ) → cut ≤ k →
    Like m items (drop k (take cut codes)) → Like m more (drop cut codes) →
    Cuts m items more (drop cut codes)
before_cut m items more codes k cut within h n =
    let short : length (take cut codes) ≤ k = omega (arith, length-take cut codes) in
    (zero, subst (Like m items) (drop_all k (take cut codes) short) h, n)

-- A cut that lies behind what the `%` passes over, or before its end.
any_join : (m : Meaning) (items more : List PatternItem) (codes : List ℕ) (k cut : ℕ) →
    Like m items (drop k (take cut codes)) → Like m more (drop cut codes) →
    (j : ℕ) × Cuts m items more (drop j codes)
any_join m items more codes k cut h n =
    elim (cases_lt k cut) [
      | inl less ↦ (k, behind_cut m items more codes k cut (omega arith) h n)
      | inr within ↦ (cut, before_cut m items more codes k cut within h n)
    ]

nil_join : (m : Meaning) (more : List PatternItem) (cut : ℕ) (codes : List ℕ) →
    Like m [] (take cut codes) → Like m more (drop cut codes) → Like m more codes
nil_join m more zero codes h n = n
nil_join m more (suc cut) [] h n = n
nil_join m more (suc cut) (code ∷ codes) h n =
    absurd (Like-end_left m code (take cut codes) h)

end_cut : (m : Meaning) (item : PatternItem) (items : List PatternItem) (cut : ℕ) → IsSingle item →
    Like m (item ∷ items) (take cut []) → ⊥
end_cut m item items zero single h = Like-end_right m item items single h
end_cut m item items (suc cut) single h = Like-end_right m item items single h

-- The law for the items behind the first.
abbrev Joins : Meaning → List PatternItem → List PatternItem → Type 0
Joins m items more = (codes : List ℕ) → Like m (items ++ more) codes ↔ Cuts m items more codes

single_join : (m : Meaning) (item : PatternItem) (items more : List PatternItem) (code : ℕ)
    (codes : List ℕ) → IsSingle item → Joins m items more → (cut : ℕ) →
    Like m (item ∷ items) (take cut (code ∷ codes)) → Like m more (drop cut (code ∷ codes)) →
    Like m (item ∷ (items ++ more)) (code ∷ codes)
single_join m item items more code codes single joins zero h n =
    absurd (Like-end_right m item items single h)
single_join m item items more code codes single joins (suc cut) h n =
    let parts = Like-single m item items code (take cut codes) single h in
    Like-single_back m item (items ++ more) code codes single parts.0
    ((joins codes).1 (cut, parts.1, n))

joined_single : (m : Meaning) (item : PatternItem) (items more : List PatternItem)
    (codes : List ℕ) →
    IsSingle item → Joins m items more →
    Like m (item ∷ (items ++ more)) codes ↔ Cuts m (item ∷ items) more codes
joined_single m item items more [] single joins = (
  λ h. absurd (Like-end_right m item (items ++ more) single h),
  λ h. absurd (end_cut m item items h.0 single h.1),
)
joined_single m item items more (code ∷ codes) single joins = (
  λ h. let parts = Like-single m item (items ++ more) code codes single h in
      let cut = (joins codes).0 parts.1 in (
        suc cut.0,
        Like-single_back m item items code (take cut.0 codes) single parts.0 cut.1,
        cut.2,
      ),
  λ h. single_join m item items more code codes single joins h.0 h.1 h.2,
)

joined_any : (m : Meaning) (items more : List PatternItem) (codes : List ℕ) → Joins m items more →
    Like m (Any ∷ (items ++ more)) codes ↔ Cuts m (Any ∷ items) more codes
joined_any m items more codes joins = (
  λ h. let some = Like-any m (items ++ more) codes h in
      any_cut m items more codes some.0 ((joins (drop some.0 codes)).0 some.1),
  λ h. let some = Like-any m items (take h.0 codes) h.1 in
      let join = any_join m items more codes some.0 h.0 some.1 h.2 in
      Like-any_back m (items ++ more) codes join.0 ((joins (drop join.0 codes)).1 join.1),
)

pub joined_match_at_cut : (m : Meaning) → JoinedMatchAtCut m
joined_match_at_cut m [] more codes =
    (λ h. (zero, Like-end m, h), λ h. nil_join m more h.0 codes h.1 h.2)
joined_match_at_cut m (Literal literal ∷ items) more codes =
    joined_single m (Literal literal) items more codes
    (record { other = λ e. let never : ⊥ = cc in never }) (joined_match_at_cut m items more)
joined_match_at_cut m (One ∷ items) more codes =
    joined_single m One items more codes
    (record { other = λ e. let never : ⊥ = cc in never }) (joined_match_at_cut m items more)
joined_match_at_cut m (Any ∷ items) more codes =
    joined_any m items more codes (joined_match_at_cut m items more)
