-- The lines that are shown by DISTINCT are those of the subjects that are picked.
use Rattle.std.proofs.Common.{◌≡◌, ℕ, Bool, true, false, List, map, Some, refl, sym, ap, ◌∙◌}
use Rattle.std.specs.Cmp.{IsEquivalence}
use Rattle.std.specs.List.{position_or_len}
use Rattle.std.specs.Prelude.{option_map, not, cond, [], ◌∷◌, ◌+◌}
use Rattle.mc_group.specs.Groups.{firsts, group_numbers, same_row}
use Rattle.mc_order.specs.Meaning.{Meaning}
use Rattle.mc_typing.specs.declared.typed.Typed.{Typed}
use Rattle.mc_values.specs.declared.value.Value.{Value}
use Rattle.mc_exec.specs.FullScan.{distinct}
use Rattle.mc_exec.specs.Given.{Subject, all_of}
use Rattle.mc_exec.specs.Grouped.{value_kinds}
use Rattle.mc_exec.specs.Shown.{Line, line_in}
use Rattle.mc_exec.specs.Steps.{picked}
use Rattle.mc_exec.proofs.CountRows.{firsts-map}
use Rattle.mc_exec.proofs.Firsts.{picked_firsts}
use Rattle.mc_exec.proofs.LineLists.{lines_of_items, picked_given}

position-map : {A B : Type 0} (f : A → B) (p : B → Bool) (xs : List A)
    → position_or_len p (map f xs) ≡ position_or_len (λ x. p (f x)) xs
position-map f p [] = refl
position-map f p (x ∷ xs) = elim (p (f x)) as (λ b.
    cond (not b) (1 + position_or_len p (map f xs)) 0
    ≡ cond (not b) (1 + position_or_len (λ y. p (f y)) xs) 0)
    [ true ↦ refl | false ↦ ap (λ n. 1 + n) (position-map f p xs) ]

each_position : {A B : Type 0} (f : A → B) (same : B → B → Bool) (all xs : List A)
    → map (λ y. position_or_len (same y) (map f all)) (map f xs)
    ≡ map (λ x. position_or_len (λ z. same (f x) (f z)) all) xs
each_position f same all [] = refl
each_position f same all (x ∷ xs) =
    ap (λ n. n ∷ map (λ y. position_or_len (same y) (map f all)) (map f xs))
    (position-map f (same (f x)) all)
    ∙ ap (λ l. position_or_len (λ z. same (f x) (f z)) all ∷ l) (each_position f same all xs)

numbers-map : {A B : Type 0} (f : A → B) (same : B → B → Bool) (xs : List A)
    → group_numbers same (map f xs) ≡ group_numbers (λ x y. same (f x) (f y)) xs
numbers-map f same xs =
    ap (λ l. map (λ y. position_or_len (same y) l) (map f xs)) (firsts-map f same xs)
    ∙ each_position f same (firsts (λ x y. same (f x) (f y)) xs) xs

seen_through : {A B : Type 0} (f : A → B) (same : B → B → Bool) → IsEquivalence same
    → IsEquivalence (λ x y. same (f x) (f y))
seen_through f same o = record {
  refl = λ x. o.refl (f x);
  symm = λ x y. o.symm (f x) (f y);
  congr = λ x y z e. o.congr (f x) (f y) (f z) e;
}

pub distinct_lines : (meaning : ℕ → Meaning) (q : Typed)
    → IsEquivalence (same_row meaning (value_kinds q.items)) → (subjects : List Subject)
    (rows : List (List Value)) (numbers : List ℕ)
    → all_of (λ s. option_map (λ l. l.items) (line_in meaning q s)) subjects ≡ Some rows
    → numbers ≡ group_numbers (same_row meaning (value_kinds q.items)) rows
    → all_of (line_in meaning q) (picked 0 numbers subjects)
    ≡ option_map (distinct meaning q true) (all_of (line_in meaning q) subjects)
distinct_lines meaning q o subjects rows numbers e n =
    let same = same_row meaning (value_kinds q.items) in
    let items = λ (l : Line). l.items in
    let ls = lines_of_items (line_in meaning q) subjects rows e in
    let is : numbers ≡ group_numbers (λ (x y : Line). same x.items y.items) ls.0 =
    n ∙ (ap (group_numbers same) ls.2 ∙ numbers-map items same ls.0) in
    picked_given (line_in meaning q) 0 numbers subjects ls.0 ls.1
    ∙ (ap (λ l. Some l) (ap (λ (k : List ℕ). picked 0 k ls.0) is
    ∙ picked_firsts (λ (x y : Line). same x.items y.items) (seen_through items same o) ls.0)
    ∙ sym (ap (option_map (distinct meaning q true)) ls.1))
