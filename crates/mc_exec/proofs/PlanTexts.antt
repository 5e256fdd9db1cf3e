-- The texts of a plan's row: names of indexes are texts of ASCII.
use Rattle.std.proofs.Common.{◌≡◌, ℕ, ◌+◌, ◌-◌, ◌/◌, true, List, [], ◌∷◌, Option, None, Some}
use Rattle.std.proofs.Common.{ap, arith, length, refl, subst}
use Rattle.std.proofs.lemmas.Bool.{and_parts}
use Rattle.std.proofs.lemmas.Grind.{common_steps}
use Rattle.std.proofs.lemmas.List.Elements.{All-from_recursion}
use Rattle.std.proofs.lemmas.Option.{get_or_from_slice_get, slice_get_within}
use Rattle.std.specs.Char.{is_ascii}
use Rattle.std.specs.List.{list_all}
use Rattle.std.specs.Option.{option_map_or}
use Rattle.std.specs.Prelude.{All, IfSome, nat_le, option_map, slice_get, unwrap_or}
use Rattle.mc_catalog.specs.Lawful.{IsLawful, IsLawfulName, IsLawfulTable}
use Rattle.mc_catalog.specs.declared.catalog.Catalog.{Catalog}
use Rattle.mc_catalog.specs.declared.catalog.IndexDecl.{IndexDecl}
use Rattle.mc_catalog.specs.declared.catalog.TableDecl.{TableDecl}
use Rattle.mc_charset.specs.Chars.{Spells, spell, spell_all}
use Rattle.mc_charset.specs.declared.charset.Charset.TheVariants.{Ascii}
use Rattle.mc_plan.specs.Plans.{indexes_at}
use Rattle.mc_plan.specs.declared.plan.Plan.{Plan}
use Rattle.mc_plan.specs.declared.plan.Plan.TheVariants.{Scan, ByIndex}
use Rattle.mc_values.specs.Values.{IsTextOfSet}
use Rattle.mc_values.specs.declared.value.Value.TheVariants.{Null, Str}
use Rattle.mc_exec.specs.Explained.{plan_row}

one_at : (n : ℕ) → 0 + (n - 0) / 1 ≡ n
one_at n = omega arith

from_zero : (n : ℕ) → nat_le 0 n ≡ true
from_zero n = grind (arith, common_steps)

ascii_spelled : (b : ℕ) → is_ascii b ≡ true → spell Ascii b ≡ Some (b ∷ [])
unfolding spell
ascii_spelled b h = rw (from_zero b, h) (ap (λ n. Some (n ∷ [])) (one_at b))

ascii_spells : (text : List ℕ) → list_all is_ascii text ≡ true → Spells Ascii text text
unfolding spell_all
ascii_spells [] h = refl
ascii_spells (b ∷ text) h =
    let parts = and_parts (is_ascii b) (list_all is_ascii text) h in
    rw (ascii_spelled b parts.0, ascii_spells text parts.1) refl

at : {A : Type 0} (P : A → Type 0) (xs : List A) → All P xs → (i : ℕ) (o : Option A)
    → slice_get xs i ≡ o → IfSome o P
at P xs h i None e = tt
at P xs h i (Some x) e =
    subst P (get_or_from_slice_get xs i x x e) (h i x (slice_get_within xs i x e))

-- The names of the table's indexes are lawful.
names_of : (n : ℕ) (o : Option TableDecl) → IfSome o (IsLawfulTable n)
    → All (λ (index : IndexDecl). IsLawfulName index.name)
    (unwrap_or (option_map (λ (table : TableDecl). table.indexes) o) [])
names_of n None h = λ k d w. absurd (omega (arith, w))
names_of n (Some table) h = h.lawful_names

lawful_names : (c : Catalog) → IsLawful c → (table : Option ℕ)
    → All (λ (index : IndexDecl). IsLawfulName index.name) (indexes_at c table)
lawful_names c l None = λ k d w. absurd (omega (arith, w))
lawful_names c l (Some p) = names_of (length c.collations) (slice_get c.tables p)
    (at (IsLawfulTable (length c.collations)) c.tables l.so_far.tables p
    (slice_get c.tables p) refl)

name_text : (o : Option IndexDecl) → IfSome o (λ it. IsLawfulName it.name)
    → IsTextOfSet (option_map_or (λ it. Str Ascii it.name) o Null)
name_text None h = tt
name_text (Some it) h = (it.name, ascii_spells it.name h.1)

row_texts : (indexes : List IndexDecl) → All (λ index. IsLawfulName index.name) indexes
    → (plan : Plan) (count : ℕ) → All IsTextOfSet (plan_row indexes plan count)
row_texts indexes h Scan count =
    All-from_recursion IsTextOfSet (plan_row indexes Scan count) (tt, (tt, (tt, (tt, tt))))
row_texts indexes h (ByIndex index conjunct intervals) count =
    let name = name_text (slice_get indexes index) (at (λ (it : IndexDecl). IsLawfulName it.name)
    indexes h index (slice_get indexes index) refl) in
    All-from_recursion IsTextOfSet (plan_row indexes (ByIndex index conjunct intervals) count)
    (name, (tt, (tt, (tt, tt))))

-- The texts of the answer to EXPLAIN are texts of their sets.
pub plan_texts : (c : Catalog) → IsLawful c → (table : Option ℕ) (plan : Plan) (count : ℕ)
    → All (All IsTextOfSet) (plan_row (indexes_at c table) plan count ∷ [])
plan_texts c l table plan count =
    All-from_recursion (All IsTextOfSet) (plan_row (indexes_at c table) plan count ∷ [])
    (row_texts (indexes_at c table) (lawful_names c l table) plan count, tt)
