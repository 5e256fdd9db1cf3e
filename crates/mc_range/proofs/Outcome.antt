-- Where the first list of a text's first characters lies, beside the list of a constant.
use Rattle.std.proofs.Common.{◌≡◌, ◌≢◌, ℕ, ◌≤◌, ◌⊎◌, ◌&&◌, true}
use Rattle.std.proofs.Common.{List, [], ◌∷◌, ◌++◌, append_assoc, append-nil, refl, sym, ap, ◌∙◌}
use Rattle.std.proofs.Common.{subst, inl, inr, length, take, arith, is_gt}
use Rattle.std.specs.List.{All, Contains}
use Rattle.std.specs.declared.cmp.Ordering.{Ordering}
use Rattle.std.specs.declared.cmp.Ordering.TheVariants.{Less, Equal, Greater}
use Rattle.std.specs.Ordering.{nat_cmp, ordering_then}
use Rattle.std.proofs.lemmas.Bool.{cases_eq}
use Rattle.std.proofs.lemmas.List.Elements.{All-contains, Contains-append_right}
use Rattle.mc_order.specs.declared.pad.Pad.{Pad}
use Rattle.mc_order.specs.declared.pad.Pad.TheVariants.{PadSpace, NoPad}
use Rattle.mc_order.specs.Laws.{IsWeight, IsCut}
use Rattle.mc_order.specs.Meaning.{Meaning, separator}
use Rattle.mc_order.specs.Order.{list_order}
use Rattle.mc_order.specs.Tails.{has_members}
use Rattle.mc_key.specs.Keys.{top}
use Rattle.mc_key.specs.Laws.{TopIsAbove}
use Rattle.mc_range.specs.Candidates.{candidates, is_padded, may_pass}
use Rattle.mc_range.proofs.Candidates.{candidate, Contains-first, Contains-none}
use Rattle.mc_range.proofs.Compare.{FrontsFallAway, AreTotal, NotAbove, differ_order}
use Rattle.mc_range.proofs.Compare.{below_weight, longer_unpadded, more_padded}

-- The two lists differ at a place inside both.
record Differ (p u : List ℕ) : Type 0 where
  front : List ℕ
  one : ℕ
  other : ℕ
  ones : List ℕ
  others : List ℕ
  left : p ≡ front ++ one ∷ ones
  right : u ≡ front ++ other ∷ others
  unlike : one ≡ other → ⊥

-- They differ inside both, or one begins the other.
abbrev Parts : List ℕ → List ℕ → Type 0
Parts p u =
    Differ p u
    ⊎ (((rest : List ℕ) × (u ≡ p ++ rest)) ⊎ ((c : ℕ) × (more : List ℕ) × (p ≡ u ++ c ∷ more)))

cons_parts : (x : ℕ) (p u : List ℕ) → Parts p u → Parts (x ∷ p) (x ∷ u)
cons_parts x p u (inl d) =
    inl (record {
      front = x ∷ d.front;
      one = d.one;
      other = d.other;
      ones = d.ones;
      others = d.others;
      left = ap (λ l. x ∷ l) d.left;
      right = ap (λ l. x ∷ l) d.right;
      unlike = d.unlike;
    })
cons_parts x p u (inr (inl begins)) = inr (inl (begins.0, ap (λ l. x ∷ l) begins.1))
cons_parts x p u (inr (inr longer)) =
    inr (inr (longer.0, longer.1, ap (λ l. x ∷ l) longer.2))

parts : (p u : List ℕ) → Parts p u
parts [] u = inr (inl (u, refl))
parts (c ∷ more) [] = inr (inr (c, more, refl))
parts (x ∷ p) (y ∷ u) =
    elim (cases_eq x y) [
      | inl same ↦ subst (λ (z : ℕ). Parts (x ∷ p) (z ∷ u)) same (cons_parts x p u (parts p u))
      | inr unlike ↦ inl (record {
        front = [];
        one = x;
        other = y;
        ones = p;
        others = u;
        left = refl;
        right = refl;
        unlike = unlike;
      })
    ]

-- The list compares with u as the whole text's list y does, or is equal to u.
abbrev pub Follows : Meaning → List ℕ → List ℕ → List ℕ → Type 0
Follows m v y u =
    (list_order m.pad m.space v u ≡ list_order m.pad m.space y u)
    ⊎ (list_order m.pad m.space v u ≡ Equal)

-- The list goes on with weights where u has ended, padded and with a tail.
pub record Passes (m : Meaning) (v u : List ℕ) : Type 0 where
  pub may : may_pass m ≡ true
  pub padded : m.pad ≡ PadSpace
  pub low : NotAbove m.pad m.space (u ++ separator ∷ []) v
  pub high : NotAbove m.pad m.space v (u ++ top ∷ [])

abbrev pub Outcome : Meaning → ℕ → List ℕ → List ℕ → List ℕ → Type 0
Outcome m k v y u =
    Contains (candidates (m.floor k) m.tails u) v ⊎ (Follows m v y u ⊎ Passes m v u)

-- What is used of a collation and of orders.
pub record Given (m : Meaning) : Type 0 where
  pub fronts : FrontsFallAway
  pub total : AreTotal
  pub top_above : TopIsAbove
  pub no_floor : m.tails ≢ [] → (k : ℕ) → m.floor k ≡ 0

-- Lists that differ at a place inside both compare so whatever follows.
differing : (m : Meaning) → FrontsFallAway → (p u t : List ℕ) (d : Differ p u) →
    list_order m.pad m.space (p ++ t) u ≡ nat_cmp d.one d.other
differing m fronts p u t d =
    ap (λ l. list_order m.pad m.space (l ++ t) u) d.left
    ∙ ap (λ l. list_order m.pad m.space l u) (append_assoc d.front (d.one ∷ d.ones) t)
    ∙ ap (list_order m.pad m.space (d.front ++ d.one ∷ (d.ones ++ t))) d.right
    ∙ differ_order fronts m.pad m.space d.front d.one d.other (d.ones ++ t) d.others d.unlike

some_tails : (tails : List (List ℕ)) (tail : List ℕ) → Contains tails tail → tails ≢ []
some_tails tails tail among none =
    Contains-none tail (subst (λ (lists : List (List ℕ)). Contains lists tail) none among)

-- A front of u, alone or with a tail.
beginning : (m : Meaning) (k : ℕ) → Given m → (p rest t r : List ℕ) →
    (t ≡ []) ⊎ Contains m.tails t → (m.floor k ≤ length p) ⊎ (r ≡ []) →
    Outcome m k (p ++ t) (p ++ r) (p ++ rest)
beginning m k given p rest t r of (inl long) =
    inl (candidate (m.floor k) m.tails p rest t (omega arith) of)
beginning m k given p rest t r (inl none) (inr all) =
    inr (inl (inl (ap (λ l. list_order m.pad m.space (p ++ l) (p ++ rest)) (none ∙ sym all))))
beginning m k given p rest t r (inr among) (inr all) =
    let zero_floor : m.floor k ≡ 0 = given.no_floor (some_tails m.tails t among) k in
    inl (candidate (m.floor k) m.tails p rest t (omega arith) (inr among))

by_first : (o : Ordering) (a b r : Ordering) → a ≡ o → b ≡ ordering_then o r →
    (a ≡ b) ⊎ (a ≡ Equal)
by_first Less a b r ea eb = inl (ea ∙ sym eb)
by_first Equal a b r ea eb = inr ea
by_first Greater a b r ea eb = inl (ea ∙ sym eb)

-- Padded and without tails: the weights behind u decide for both, or are spaces.
padded_no_tails : (m : Meaning) → Given m → m.pad ≡ PadSpace → (u s t r : List ℕ) → t ≡ [] →
    Follows m ((u ++ s) ++ t) ((u ++ s) ++ r) u
padded_no_tails m given padded u s t r none =
    let one : list_order m.pad m.space ((u ++ s) ++ t) u
    ≡ list_order PadSpace m.space (u ++ s) u =
    ap (λ l. list_order m.pad m.space l u) (ap (λ l. (u ++ s) ++ l) none ∙ append-nil (u ++ s))
    ∙ ap (λ pad. list_order pad m.space (u ++ s) u) padded in
    let both : list_order m.pad m.space ((u ++ s) ++ r) u
    ≡ ordering_then (list_order PadSpace m.space (u ++ s) u) (list_order PadSpace m.space r []) =
    ap (λ l. list_order m.pad m.space l u) (append_assoc u s r)
    ∙ ap (λ pad. list_order pad m.space (u ++ (s ++ r)) u) padded
    ∙ more_padded given.fronts m.space u s r in
    by_first (list_order PadSpace m.space (u ++ s) u) _ _ (list_order PadSpace m.space r []) one
    both

-- Unpadded, what goes on is above.
unpadded : (m : Meaning) → Given m → m.pad ≡ NoPad → (u : List ℕ) (c : ℕ) (more t : List ℕ) →
    list_order m.pad m.space ((u ++ c ∷ more) ++ t) u ≡ Greater
unpadded m given bare u c more t =
    ap (λ l. list_order m.pad m.space l u) (append_assoc u (c ∷ more) t)
    ∙ ap (λ pad. list_order pad m.space (u ++ c ∷ (more ++ t)) u) bare
    ∙ longer_unpadded given.fronts m.space u c (more ++ t)

may_be : (m : Meaning) (tails : List (List ℕ)) → m.pad ≡ PadSpace → m.tails ≡ tails →
    has_members tails ≡ true → may_pass m ≡ true
may_be m tails padded e some =
    ap (λ pad. is_padded pad && has_members m.tails) padded ∙ ap has_members e ∙ some

first_weight : (m : Meaning) (u : List ℕ) (c : ℕ) (more : List ℕ) →
    All (IsWeight m) (u ++ c ∷ more) → IsWeight m c
first_weight m u c more all =
    All-contains (IsWeight m) (u ++ c ∷ more) c all
    (Contains-append_right u (c ∷ more) c (Contains-first c more))

passing : (m : Meaning) → Given m → (tails : List (List ℕ)) → m.pad ≡ PadSpace →
    m.tails ≡ tails → has_members tails ≡ true → (u : List ℕ) (c : ℕ) (more t : List ℕ) →
    All (IsWeight m) ((u ++ c ∷ more) ++ t) → Passes m ((u ++ c ∷ more) ++ t) u
passing m given tails padded e some u c more t all =
    let list = append_assoc u (c ∷ more) t in
    let weight = first_weight m u c (more ++ t) (subst (All (IsWeight m)) list all) in
    record {
      may = may_be m tails padded e some;
      padded = padded;
      low = ap (λ l. is_gt (list_order m.pad m.space (u ++ separator ∷ []) l)) list
          ∙ ap is_gt (below_weight given.fronts m.pad m.space u separator c [] (more ++ t)
          (let h = weight.0 in omega arith));
      high = ap (λ l. is_gt (list_order m.pad m.space l (u ++ top ∷ []))) list
          ∙ ap is_gt (given.top_above m.pad m.space c u (more ++ t) [] weight.1);
    }

-- What goes on where u has ended.
longer : (m : Meaning) (k : ℕ) → Given m → (pad : Pad) → m.pad ≡ pad →
    (tails : List (List ℕ)) → m.tails ≡ tails → (u : List ℕ) (c : ℕ) (more t r : List ℕ) →
    (t ≡ []) ⊎ Contains m.tails t → All (IsWeight m) ((u ++ c ∷ more) ++ t) →
    Outcome m k ((u ++ c ∷ more) ++ t) ((u ++ c ∷ more) ++ r) u
longer m k given NoPad bare tails e u c more t r of all =
    inr (inl (inl (unpadded m given bare u c more t ∙ sym (unpadded m given bare u c more r))))
longer m k given PadSpace padded (one ∷ tails) e u c more t r of all =
    inr (inr (passing m given (one ∷ tails) padded e refl u c more t all))
longer m k given PadSpace padded [] e u c more t r (inl none) all =
    inr (inl (padded_no_tails m given padded u (c ∷ more) t r none))
longer m k given PadSpace padded [] e u c more t r (inr among) all =
    absurd (some_tails m.tails t among e)

by_parts : (m : Meaning) (k : ℕ) → Given m → (u p t r : List ℕ) → Parts p u →
    (t ≡ []) ⊎ Contains m.tails t → (m.floor k ≤ length p) ⊎ (r ≡ []) →
    All (IsWeight m) (p ++ t) → Outcome m k (p ++ t) (p ++ r) u
by_parts m k given u p t r (inl d) of enough all =
    inr (inl (inl (differing m given.fronts p u t d ∙ sym (differing m given.fronts p u r d))))
by_parts m k given u p t r (inr (inl begins)) of enough all =
    subst (λ (list : List ℕ). Outcome m k (p ++ t) (p ++ r) list) (sym begins.1)
    (beginning m k given p begins.0 t r of enough)
by_parts m k given u p t r (inr (inr more)) of enough all =
    subst (λ (list : List ℕ). Outcome m k (list ++ t) (list ++ r) u) (sym more.2)
    (longer m k given m.pad refl m.tails refl u more.0 more.1 t r of
    (subst (λ (list : List ℕ). All (IsWeight m) (list ++ t)) more.2 all))

-- The first characters' list is a candidate, or compares as the text's, or goes on past u.
pub outcome : (m : Meaning) (k : ℕ) → Given m → (codes u : List ℕ) → IsCut m k codes →
    All (IsWeight m) (m.level_list 1 (take k codes)) →
    Outcome m k (m.level_list 1 (take k codes)) (m.level_list 1 codes) u
outcome m k given codes u cut all =
    subst (λ (v : List ℕ). Outcome m k v (m.level_list 1 codes) u) (sym cut.front)
    (subst (λ (y : List ℕ). Outcome m k (cut.kept ++ cut.tail) y u) (sym cut.whole)
    (by_parts m k given u cut.kept cut.tail cut.rest (parts cut.kept u) cut.none_or_tail
    cut.enough (subst (All (IsWeight m)) cut.front all)))
