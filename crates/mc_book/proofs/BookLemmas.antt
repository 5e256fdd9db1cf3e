-- The book of a catalog: its sets, its count and the meanings of its collations.
use Rattle.std.proofs.Common.{◌≡◌, ℕ, zero, suc, ◌<◌, List, [], ◌∷◌, ◌++◌, length, take, drop, map, get_or, take-append-drop, sym, ap, ◌∙◌, arith}
use Rattle.std.proofs.lemmas.List.{length-map, map-append}
use Rattle.mc_book.specs.Any.{any_meaning}
use Rattle.mc_book.specs.Meanings.{meaning_at, meanings, any_set}
use Rattle.mc_book.specs.declared.any_collation.AnyCollation.{AnyCollation}
use Rattle.mc_book.specs.declared.any_collation.AnyCollation.TheVariants.{Bin}
use Rattle.mc_catalog.specs.BuiltIn.{built_in_collations}
use Rattle.mc_catalog.specs.declared.catalog.Catalog.{Catalog}
use Rattle.mc_catalog.specs.declared.catalog.CollDecl.{CollDecl}
use Rattle.mc_catalog.specs.Fits.{FitsCatalog}
use Rattle.mc_catalog.specs.LookUp.{collation_set}
use Rattle.mc_charset.specs.declared.charset.Charset.{Charset}
use Rattle.mc_order.specs.Bin.{bin_meaning, built_in}

-- What the built-in collations mean.
pub built_in_meanings : (collations : List AnyCollation) → collations ≡ map Bin built_in → meanings collations ≡ map bin_meaning built_in
built_in_meanings collations e = ap meanings e

built_in_sets : (collations : List AnyCollation) → collations ≡ map Bin built_in →
    map any_set collations ≡ map (λ declared. declared.charset) built_in_collations
built_in_sets collations e = ap (map any_set) e

-- The sets of all are those that the catalog declares.
pub all_sets : (built all : List AnyCollation) (collations : List CollDecl) → built ≡ map Bin built_in →
    take 9 collations ≡ built_in_collations →
    map any_set all ≡ map any_set built ++ map (λ declared. declared.charset) (drop 9 collations) →
    map any_set all ≡ map (λ declared. declared.charset) collations
all_sets built all collations e begins sets =
    sets
    ∙ ap (λ front. front ++ map (λ declared. declared.charset) (drop 9 collations))
    (built_in_sets built e ∙ sym (ap (map (λ declared. declared.charset)) begins))
    ∙ sym (map-append (λ declared. declared.charset) (take 9 collations) (drop 9 collations))
    ∙ ap (map (λ declared. declared.charset)) (take-append-drop 9 collations)

heads : (a b : Charset) (more rest : List Charset) → a ∷ more ≡ b ∷ rest → (a ≡ b) × (more ≡ rest)
heads a b more rest e = (cc, cc)

set_is : (all : List AnyCollation) (collations : List CollDecl) (id : ℕ) → map any_set all ≡ map (λ declared. declared.charset) collations →
    id < length all → (meaning_at (meanings all) id).charset ≡ collation_set collations id
set_is [] collations id e h = absurd (omega arith)
set_is (one ∷ all) [] id e h = absurd cc
set_is (one ∷ all) (other ∷ collations) zero e h = (heads _ _ _ _ e).0
set_is (one ∷ all) (other ∷ collations) (suc id) e h = set_is all collations id (heads _ _ _ _ e).1 (omega arith)

-- As many collations as the catalog has.
counted : (all : List AnyCollation) (collations : List CollDecl) → map any_set all ≡ map (λ declared. declared.charset) collations →
    length all ≡ length collations
counted all collations e = sym (length-map all any_set) ∙ ap length e ∙ length-map collations (λ declared. declared.charset)

-- They fit it.
pub fits : (all : List AnyCollation) (catalog : Catalog) → map any_set all ≡ map (λ declared. declared.charset) catalog.collations →
    FitsCatalog catalog (length all) (λ id. (meaning_at (meanings all) id).charset)
fits all catalog e = record { counted = counted all catalog.collations e; sets = λ id h. set_is all catalog.collations id e h }

-- What the collation of a number means is the meaning of that number.
pub meaning_is : (all : List AnyCollation) (id : ℕ) (found : AnyCollation) → id < length all → found ≡ get_or all id found →
    any_meaning found ≡ meaning_at (meanings all) id
meaning_is [] id found h e = absurd (omega arith)
meaning_is (one ∷ all) zero found h e = ap any_meaning e
meaning_is (one ∷ all) (suc id) found h e = meaning_is all id found (omega arith) e
