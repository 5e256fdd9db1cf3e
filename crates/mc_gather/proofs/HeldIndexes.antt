-- The index that is held for a table's, with an entry for each text.
use Rattle.std.proofs.Common.{◌≡◌, ℕ, suc, List, [], ◌∷◌, ◌++◌, Some, None, cond, length, refl}
use Rattle.std.proofs.Common.{sym, ap, subst, ◌∙◌}
use Rattle.std.proofs.lemmas.List.Sorted.{length_permutation}
use Rattle.std.specs.List.{filter}
use Rattle.std.specs.Option.{is_some, option_to_list}
use Rattle.std.specs.Prelude.{IfSome, IsSomeAnd, Option, option_and_then, option_map, slice_get}
use Rattle.std.specs.Prelude.{unwrap_or}
use Rattle.mc_catalog.specs.declared.catalog.ColumnDecl.{ColumnDecl}
use Rattle.mc_catalog.specs.declared.catalog.IndexDecl.{IndexDecl}
use Rattle.mc_catalog.specs.declared.catalog.TableDecl.{TableDecl}
use Rattle.mc_charset.specs.declared.collation_id.CollId.{CollId}
use Rattle.mc_index.specs.Entries.{IsSealed, SeenEntry, SeenIndex}
use Rattle.mc_order.specs.Meaning.{Meaning}
use Rattle.mc_values.specs.declared.value.Value.{Value}
use Rattle.mc_plan.specs.Entries.{value_at}
use Rattle.mc_plan.specs.Plans.{index_collation}
use Rattle.mc_gather.specs.Indexed.{AreIndexesOf, IsIndexOf, entries_from, gathered, rows_in}
use Rattle.mc_gather.specs.Indexed.{text_of, weights_of}
use Rattle.mc_gather.specs.PlanLaws.{HeldIsFound, IsHeldFor, held_at, text_count}
use Rattle.mc_gather.proofs.Zipped.{zip_get}

-- There are as many entries as texts.
module _ (m : Meaning) (index : IndexDecl) where
  one_more : (n : ℕ) (x : List Value) (xs : List (List Value)) (more : List SeenEntry)
      (o : Option (List ℕ)) → length more ≡ length xs
      → length (option_to_list (option_map
      (λ text. record { weights = weights_of m index.prefix text; row = n }) o) ++ more)
      ≡ length (cond (is_some o) (x ∷ xs) xs)
  one_more n x xs more None e = e
  one_more n x xs more (Some text) e = ap suc e

  entries_are : (n : ℕ) (xs : List (List Value))
      → length (entries_from m index n xs) ≡ text_count index xs
  unfolding entries_from
  entries_are n [] = refl
  entries_are n (x ∷ xs) =
      one_more n x (filter (λ row. is_some (text_of (value_at row index.column))) xs)
      (entries_from m index (suc n) xs) (text_of (value_at x index.column))
      (entries_are (suc n) xs)

-- What is sealed of a table's rows is held for its index.
held_for : (meaning : ℕ → Meaning) (columns : List ColumnDecl) (rows : List (List Value))
    (it : IndexDecl) (coll : CollId) (held : SeenIndex)
    → index_collation columns it ≡ Some coll → IsIndexOf meaning columns rows it held
    → IsHeldFor (meaning coll.0) it rows held
held_for meaning columns rows it coll held e h =
    let sealed : IsSealed (gathered (meaning coll.0) it rows) held =
    subst (λ (o : Option CollId).
    IfSome o (λ id. IsSealed (gathered (meaning id.0) it rows) held)) e h in
    record {
      pad = sealed.pad;
      space = sealed.space;
      counted = length_permutation (entries_from (meaning coll.0) it 0 rows) held.entries sealed.all
          ∙ entries_are (meaning coll.0) it 0 rows;
    }

-- Where a table has its indexes, each with a collation is held.
of_table : (meaning : ℕ → Meaning) (rows : List (List Value)) (table : TableDecl)
    (o : Option (List SeenIndex)) (index : ℕ) (it : IndexDecl) (coll : CollId)
    → IsSomeAnd o (AreIndexesOf meaning rows table) → slice_get table.indexes index ≡ Some it
    → index_collation table.columns it ≡ Some coll
    → IsSomeAnd (option_and_then (λ its. slice_get its index) o)
    (IsHeldFor (meaning coll.0) it rows)
of_table meaning rows table None index it coll h d e = absurd h
of_table meaning rows table (Some its) index it coll h d e =
    let at = zip_get (IsIndexOf meaning table.columns rows) table.indexes its h index it d in
    subst (λ (found : Option SeenIndex). IsSomeAnd found (IsHeldFor (meaning coll.0) it rows))
    (sym at.1.0) (held_for meaning table.columns rows it coll at.0 e at.1.1)

pub held_is_found : HeldIsFound
held_is_found c meaning rows indexes place index it coll fits declared named =
    by (slice_get c.tables place) refl declared named
  where
    by : (o : Option TableDecl) → slice_get c.tables place ≡ o
        → slice_get (unwrap_or (option_map (λ (t : TableDecl). t.indexes) o) []) index ≡ Some it
        → index_collation (unwrap_or (option_map (λ (t : TableDecl). t.columns) o) []) it
        ≡ Some coll
        → IsSomeAnd (held_at indexes place index)
        (IsHeldFor (meaning coll.0) it (rows_in rows place))
    by None e d k = absurd (cc)
    by (Some table) e d k =
        of_table meaning (rows_in rows place) table (slice_get indexes place) index it coll
        (fits place table e) d k
