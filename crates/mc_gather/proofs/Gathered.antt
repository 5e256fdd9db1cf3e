-- The entries of rows, one row after the other.
use Rattle.std.proofs.Common.{◌≡◌, ◌≢◌, ℕ, zero, suc, ◌+◌, ◌<◌, List, [], ◌∷◌, ◌++◌, Some, None}
use Rattle.std.proofs.Common.{length, take, sym, ap, subst, ◌∙◌, inl, inr, arith, add-one}
use Rattle.std.proofs.lemmas.List.{append-nil, append_assoc, length-take}
use Rattle.std.proofs.lemmas.List.Elements.{All-from_recursion}
use Rattle.std.specs.Option.{option_to_list}
use Rattle.std.specs.Prelude.{All, Option, option_map, slice_get}
use Rattle.mc_catalog.specs.declared.catalog.IndexDecl.{IndexDecl}
use Rattle.mc_index.specs.Entries.{SeenEntry, SeenIndex, rows_of}
use Rattle.mc_order.specs.Meaning.{Meaning}
use Rattle.mc_order.specs.declared.pad.Pad.{Pad}
use Rattle.mc_values.specs.declared.value.Value.{Value}
use Rattle.mc_plan.specs.Entries.{value_at}
use Rattle.mc_gather.specs.Indexed.{entries_from, entry_of, gathered, text_of, weights_of}
use Rattle.mc_gather.proofs.Covered.{in_either, map_in}
use Rattle.mc_gather.proofs.Sorted.{In, all_in}

pub taken : {A : Type 0} (xs : List A) (i : ℕ) (x : A) → slice_get xs i ≡ Some x
    → take (suc i) xs ≡ take i xs ++ x ∷ []
taken [] i x e = absurd (cc)
taken (y ∷ xs) zero x e = let same : y ≡ x = cc in ap (λ z. z ∷ []) same
taken (y ∷ xs) (suc i) x e = ap (λ l. y ∷ l) (taken xs i x e)

pub get_below : {A : Type 0} (xs : List A) (i : ℕ) (x : A) → slice_get xs i ≡ Some x
    → i < length xs
get_below [] i x e = absurd (cc)
get_below (y ∷ xs) zero x e = omega arith
get_below (y ∷ xs) (suc i) x e = let low = get_below xs i x e in omega (arith, low)

module _ (m : Meaning) (index : IndexDecl) where
  entries_push : (n : ℕ) (xs : List (List Value)) (x : List Value)
      → entries_from m index n (xs ++ x ∷ [])
      ≡ entries_from m index n xs ++ option_to_list (entry_of m index (n + length xs) x)
  unfolding entries_from
  entries_push n [] x = append-nil (option_to_list (entry_of m index n x))
      ∙ ap (λ k. option_to_list (entry_of m index k x)) (omega arith)
  entries_push n (y ∷ xs) x =
      ap (λ l. option_to_list (entry_of m index n y) ++ l) (entries_push (suc n) xs x)
      ∙ sym (append_assoc (option_to_list (entry_of m index n y)) (entries_from m index (suc n) xs)
      (option_to_list (entry_of m index (suc n + length xs) x)))
      ∙ ap (λ k. (option_to_list (entry_of m index n y) ++ entries_from m index (suc n) xs)
      ++ option_to_list (entry_of m index k x)) (omega arith)

  row_is : (number r : ℕ) (o : Option (List ℕ)) → In r (rows_of (option_to_list
      (option_map (λ text. record { weights = weights_of m index.prefix text; row = number }) o)))
      → r ≡ number
  row_is number r None i = absurd i
  row_is number r (Some text) (inl e) = e
  row_is number r (Some text) (inr i) = absurd i

  entry_below : (n : ℕ) (xs : List (List Value)) (entry : SeenEntry)
      → In entry (entries_from m index n xs) → entry.row < n + length xs
  unfolding entries_from
  entry_below n [] entry i = absurd i
  entry_below n (x ∷ xs) entry i = elim (in_either entry (option_to_list (entry_of m index n x))
      (entries_from m index (suc n) xs) i) as (λ w. entry.row < n + length (x ∷ xs)) [
        | inl j ↦ by_value (text_of (value_at x index.column)) j
        | inr j ↦ let low = entry_below (suc n) xs entry j in omega (arith, low)
      ]
    where
      by_value : (o : Option (List ℕ)) → In entry (option_to_list
          (option_map (λ text. record { weights = weights_of m index.prefix text; row = n }) o))
          → entry.row < n + length (x ∷ xs)
      by_value None j = absurd j
      by_value (Some text) (inl e) =
          let same : entry.row ≡ n = ap (λ (y : SeenEntry). y.row) e in omega (arith, same)
      by_value (Some text) (inr j) = absurd j

  -- The number of a row differs from those of the rows in front of it.
  pub others_differ : (rows : List (List Value)) (i : ℕ) (builder : SeenIndex)
      → builder ≡ gathered m index (take i rows)
      → All (λ other. i ≢ other) (rows_of builder.entries)
  others_differ rows i builder e =
      subst (λ (b : SeenIndex). All (λ other. i ≢ other) (rows_of b.entries)) (sym e)
      (All-from_recursion (λ other. i ≢ other) (rows_of (entries_from m index 0 (take i rows)))
      (all_in (λ other. i ≢ other) (rows_of (entries_from m index 0 (take i rows))) (λ r j same.
      let at = map_in (λ (y : SeenEntry). y.row) r (entries_from m index 0 (take i rows)) j in
      let low = entry_below 0 (take i rows) at.0 at.1.0 in
      let len = length-take i rows in
      omega (arith, low, len, same, at.1.1))))

  same_index : (a b : SeenIndex) → a.pad ≡ b.pad → a.space ≡ b.space → a.entries ≡ b.entries
      → a ≡ b
  same_index a b e f h =
      ap (λ p. record { pad = p; space = a.space; entries = a.entries }) e
      ∙ ap (λ s. record { pad = b.pad; space = s; entries = a.entries }) f
      ∙ ap (λ l. record { pad = b.pad; space = b.space; entries = l }) h

  -- One more row.
  pub row_more : (rows : List (List Value)) (i : ℕ) (row : List Value) (old new : SeenIndex)
      → slice_get rows i ≡ Some row → old ≡ gathered m index (take i rows)
      → new.pad ≡ old.pad → new.space ≡ old.space
      → new.entries ≡ old.entries ++ option_to_list (entry_of m index i row)
      → new ≡ gathered m index (take (i + 1) rows)
  row_more rows i row old new at e pad space added =
      let within = get_below rows i row at in
      let len = length-take i rows in
      let count : 0 + length (take i rows) ≡ i = omega (arith, within, len) in
      same_index new (gathered m index (take (i + 1) rows))
      (pad ∙ ap (λ (b : SeenIndex). b.pad) e) (space ∙ ap (λ (b : SeenIndex). b.space) e)
      (added
      ∙ ap (λ (b : SeenIndex). b.entries ++ option_to_list (entry_of m index i row)) e
      ∙ ap (λ k. entries_from m index 0 (take i rows) ++ option_to_list (entry_of m index k row))
      (sym count)
      ∙ sym (entries_push 0 (take i rows) row)
      ∙ ap (entries_from m index 0) (sym (taken rows i row at))
      ∙ ap (λ k. entries_from m index 0 (take k rows)) (sym (add-one i)))

  -- No rows yet.
  pub no_rows : (pad : Pad) (space : ℕ) (new : SeenIndex)
      → new ≡ record { pad = pad; space = space; entries = [] } → pad ≡ m.pad → space ≡ m.space
      → new ≡ gathered m index []
  unfolding entries_from
  no_rows pad space new e f g =
      same_index new (gathered m index []) (ap (λ (b : SeenIndex). b.pad) e ∙ f)
      (ap (λ (b : SeenIndex). b.space) e ∙ g) (ap (λ (b : SeenIndex). b.entries) e)

  -- A row whose value is no text adds nothing.
  pub none_added : (number : ℕ) (row : List Value) (entries : List SeenEntry)
      → None ≡ text_of (value_at row index.column)
      → entries ≡ entries ++ option_to_list (entry_of m index number row)
  none_added number row entries e =
      sym (append-nil entries)
      ∙ ap (λ (o : Option (List ℕ)). entries ++ option_to_list
      (option_map (λ text. record { weights = weights_of m index.prefix text; row = number }) o)) e
