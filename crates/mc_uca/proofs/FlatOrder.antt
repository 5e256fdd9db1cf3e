-- What both texts begin with decides on no level.
use Rattle.std.proofs.Common.{◌≡◌, ℕ, zero, suc, ◌<◌, ◌≤◌, List, ◌∷◌, ◌++◌, append_assoc, refl, sym, ap, subst, ◌∙◌, arith}
use Rattle.std.specs.List.{All}
use Rattle.std.specs.Ordering.{ordering_then}
use Rattle.mc_order.specs.Meaning.{separator, joined_levels}
use Rattle.mc_order.specs.Order.{list_order}
use Rattle.std.specs.declared.cmp.Ordering.{Ordering}
use Rattle.std.specs.declared.cmp.Ordering.TheVariants.{Less, Equal, Greater}
use Rattle.mc_order.specs.declared.pad.Pad.{Pad}
use Rattle.mc_order.specs.declared.pad.Pad.TheVariants.{NoPad}

-- Level by level the same lists.
pub joined-same : (n : ℕ) (g h : ℕ → List ℕ) → ((level : ℕ) → g level ≡ h level) →
    joined_levels n g ≡ joined_levels n h
joined-same zero g h e = e 1
joined-same (suc zero) g h e = e 1
joined-same (suc (suc zero)) g h e =
    ap (λ x. x ++ separator ∷ g 2) (e 1) ∙ ap (λ y. h 1 ++ separator ∷ y) (e 2)
joined-same (suc (suc (suc n))) g h e =
    ap (λ x. x ++ separator ∷ g 2 ++ separator ∷ g 3) (e 1)
    ∙ ap (λ y. h 1 ++ separator ∷ y ++ separator ∷ g 3) (e 2)
    ∙ ap (λ z. h 1 ++ separator ∷ h 2 ++ separator ∷ z) (e 3)

-- three lists, the later ones together
abbrev nested : (ℕ → List ℕ) → List ℕ
nested g = g 1 ++ separator ∷ (g 2 ++ separator ∷ g 3)

three : (n : ℕ) (g : ℕ → List ℕ) → joined_levels (suc (suc (suc n))) g ≡ nested g
three n g = append_assoc (g 1) (separator ∷ g 2) (separator ∷ g 3)

-- Each weight is above the separator.
abbrev pub AreWeights : (ℕ → List ℕ) → Type 0
AreWeights g = (level : ℕ) → All (λ weight. separator < weight) (g level)

module _ (front : (pad : Pad) (space : ℕ) (f a b : List ℕ) →
    list_order pad space (f ++ a) (f ++ b) ≡ list_order pad space a b)
    (levels : (space : ℕ) (a b more other : List ℕ) → All (λ weight. separator < weight) a →
    All (λ weight. separator < weight) b →
    list_order NoPad space (a ++ separator ∷ more) (b ++ separator ∷ other)
    ≡ ordering_then (list_order NoPad space a b) (list_order NoPad space more other)) where
  two : (space : ℕ) (f a b : List ℕ) (more other more' other' : List ℕ) →
      All (λ weight. separator < weight) (f ++ a) → All (λ weight. separator < weight) (f ++ b) →
      All (λ weight. separator < weight) a → All (λ weight. separator < weight) b →
      list_order NoPad space more other ≡ list_order NoPad space more' other' →
      list_order NoPad space ((f ++ a) ++ separator ∷ more) ((f ++ b) ++ separator ∷ other)
      ≡ list_order NoPad space (a ++ separator ∷ more') (b ++ separator ∷ other')
  two space f a b more other more' other' fa fb pa pb e =
      levels space (f ++ a) (f ++ b) more other fa fb
      ∙ ap (λ o. ordering_then o (list_order NoPad space more other)) (front NoPad space f a b)
      ∙ ap (ordering_then (list_order NoPad space a b)) e
      ∙ sym (levels space a b more' other' pa pb)

  unpadded : (n space : ℕ) (f a b : ℕ → List ℕ) → AreWeights (λ level. f level ++ a level) →
      AreWeights (λ level. f level ++ b level) → AreWeights a → AreWeights b →
      list_order NoPad space (joined_levels n (λ level. f level ++ a level))
      (joined_levels n (λ level. f level ++ b level))
      ≡ list_order NoPad space (joined_levels n a) (joined_levels n b)
  unpadded zero space f a b fa fb pa pb = front NoPad space (f 1) (a 1) (b 1)
  unpadded (suc zero) space f a b fa fb pa pb = front NoPad space (f 1) (a 1) (b 1)
  unpadded (suc (suc zero)) space f a b fa fb pa pb =
      two space (f 1) (a 1) (b 1) (f 2 ++ a 2) (f 2 ++ b 2) (a 2) (b 2) (fa 1) (fb 1) (pa 1) (pb 1)
      (front NoPad space (f 2) (a 2) (b 2))
  unpadded (suc (suc (suc n))) space f a b fa fb pa pb =
      let whole_a : ℕ → List ℕ = λ level. f level ++ a level in
      let whole_b : ℕ → List ℕ = λ level. f level ++ b level in
      ap (λ x. list_order NoPad space x (joined_levels (suc (suc (suc n))) whole_b)) (three n whole_a)
      ∙ ap (λ y. list_order NoPad space (nested whole_a) y) (three n whole_b)
      ∙ two space (f 1) (a 1) (b 1) (whole_a 2 ++ separator ∷ whole_a 3)
      (whole_b 2 ++ separator ∷ whole_b 3) (a 2 ++ separator ∷ a 3) (b 2 ++ separator ∷ b 3) (fa 1)
      (fb 1) (pa 1) (pb 1)
      (two space (f 2) (a 2) (b 2) (whole_a 3) (whole_b 3) (a 3) (b 3) (fa 2) (fb 2) (pa 2) (pb 2)
      (front NoPad space (f 3) (a 3) (b 3)))
      ∙ ap (λ x. list_order NoPad space x (nested b)) (sym (three n a))
      ∙ ap (λ y. list_order NoPad space (joined_levels (suc (suc (suc n))) a) y) (sym (three n b))

  by_pad : (n space : ℕ) (pad : Pad) (f a b : ℕ → List ℕ) → (1 < n → pad ≡ NoPad) →
      AreWeights (λ level. f level ++ a level) → AreWeights (λ level. f level ++ b level) →
      AreWeights a → AreWeights b →
      list_order pad space (joined_levels n (λ level. f level ++ a level))
      (joined_levels n (λ level. f level ++ b level))
      ≡ list_order pad space (joined_levels n a) (joined_levels n b)
  by_pad zero space pad f a b more fa fb pa pb = front pad space (f 1) (a 1) (b 1)
  by_pad (suc zero) space pad f a b more fa fb pa pb = front pad space (f 1) (a 1) (b 1)
  by_pad (suc (suc n)) space pad f a b more fa fb pa pb =
      subst (λ p. list_order p space (joined_levels (suc (suc n)) (λ level. f level ++ a level))
      (joined_levels (suc (suc n)) (λ level. f level ++ b level))
      ≡ list_order p space (joined_levels (suc (suc n)) a) (joined_levels (suc (suc n)) b))
      (sym (more (omega arith))) (unpadded (suc (suc n)) space f a b fa fb pa pb)

  -- The order of two texts is that of what is behind their shared front.
  pub behind_front : (n space : ℕ) (pad : Pad) (whole_a whole_b f a b : ℕ → List ℕ) →
      (1 < n → pad ≡ NoPad) → ((level : ℕ) → whole_a level ≡ f level ++ a level) →
      ((level : ℕ) → whole_b level ≡ f level ++ b level) → AreWeights whole_a →
      AreWeights whole_b → AreWeights a → AreWeights b →
      list_order pad space (joined_levels n a) (joined_levels n b)
      ≡ list_order pad space (joined_levels n whole_a) (joined_levels n whole_b)
  behind_front n space pad whole_a whole_b f a b more ea eb wa wb pa pb =
      sym (by_pad n space pad f a b more
      (λ level. subst (All (λ weight. separator < weight)) (ea level) (wa level))
      (λ level. subst (All (λ weight. separator < weight)) (eb level) (wb level)) pa pb)
      ∙ ap (λ x. list_order pad space x (joined_levels n (λ level. f level ++ b level)))
      (sym (joined-same n whole_a (λ level. f level ++ a level) ea))
      ∙ ap (λ y. list_order pad space (joined_levels n whole_a) y)
      (sym (joined-same n whole_b (λ level. f level ++ b level) eb))

-- The orders of so many levels: the first that differs decides.
abbrev pub levels_order : ℕ → (ℕ → Ordering) → Ordering
levels_order zero on = on 1
levels_order (suc zero) on = on 1
levels_order (suc (suc zero)) on = ordering_then (on 1) (on 2)
levels_order (suc (suc (suc n))) on = ordering_then (ordering_then (on 1) (on 2)) (on 3)

nested_order : (x y z : Ordering) →
    ordering_then x (ordering_then y z) ≡ ordering_then (ordering_then x y) z
nested_order Less y z = refl
nested_order Equal y z = refl
nested_order Greater y z = refl

module _ (levels : (space : ℕ) (a b more other : List ℕ) → All (λ weight. separator < weight) a →
    All (λ weight. separator < weight) b →
    list_order NoPad space (a ++ separator ∷ more) (b ++ separator ∷ other)
    ≡ ordering_then (list_order NoPad space a b) (list_order NoPad space more other)) where
  unpadded_levels : (n space : ℕ) (f g : ℕ → List ℕ) → AreWeights f → AreWeights g →
      list_order NoPad space (joined_levels n f) (joined_levels n g)
      ≡ levels_order n (λ level. list_order NoPad space (f level) (g level))
  unpadded_levels zero space f g pf pg = refl
  unpadded_levels (suc zero) space f g pf pg = refl
  unpadded_levels (suc (suc zero)) space f g pf pg =
      levels space (f 1) (g 1) (f 2) (g 2) (pf 1) (pg 1)
  unpadded_levels (suc (suc (suc n))) space f g pf pg =
      ap (λ x. list_order NoPad space x (joined_levels (suc (suc (suc n))) g)) (three n f)
      ∙ ap (λ y. list_order NoPad space (nested f) y) (three n g)
      ∙ levels space (f 1) (g 1) (f 2 ++ separator ∷ f 3) (g 2 ++ separator ∷ g 3) (pf 1) (pg 1)
      ∙ ap (ordering_then (list_order NoPad space (f 1) (g 1)))
      (levels space (f 2) (g 2) (f 3) (g 3) (pf 2) (pg 2))
      ∙ nested_order (list_order NoPad space (f 1) (g 1)) (list_order NoPad space (f 2) (g 2))
      (list_order NoPad space (f 3) (g 3))

  -- The order of the joined levels is that of the first level that differs.
  pub joined_levels-order : (n space : ℕ) (pad : Pad) (f g : ℕ → List ℕ) →
      (1 < n → pad ≡ NoPad) → AreWeights f → AreWeights g →
      list_order pad space (joined_levels n f) (joined_levels n g)
      ≡ levels_order n (λ level. list_order pad space (f level) (g level))
  joined_levels-order zero space pad f g more pf pg = refl
  joined_levels-order (suc zero) space pad f g more pf pg = refl
  joined_levels-order (suc (suc n)) space pad f g more pf pg =
      subst (λ p. list_order p space (joined_levels (suc (suc n)) f) (joined_levels (suc (suc n)) g)
      ≡ levels_order (suc (suc n)) (λ level. list_order p space (f level) (g level)))
      (sym (more (omega arith))) (unpadded_levels (suc (suc n)) space f g pf pg)

pub at_first : (n : ℕ) (on : ℕ → Ordering) → n < 2 → levels_order n on ≡ on 1
at_first zero on few = refl
at_first (suc zero) on few = refl
at_first (suc (suc n)) on few = absurd (omega arith)

pub at_second : (n : ℕ) (on : ℕ → Ordering) → 2 ≤ n → n < 3 →
    levels_order n on ≡ ordering_then (on 1) (on 2)
at_second zero on two few = absurd (omega arith)
at_second (suc zero) on two few = absurd (omega arith)
at_second (suc (suc zero)) on two few = refl
at_second (suc (suc (suc n))) on two few = absurd (omega arith)

pub at_third : (n : ℕ) (on : ℕ → Ordering) → 3 ≤ n →
    levels_order n on ≡ ordering_then (ordering_then (on 1) (on 2)) (on 3)
at_third zero on three = absurd (omega arith)
at_third (suc zero) on three = absurd (omega arith)
at_third (suc (suc zero)) on three = absurd (omega arith)
at_third (suc (suc (suc n))) on three = refl
