-- Files in memory whose names are known: they differ.
use Rattle.std.proofs.Common.{◌≡◌, ◌≢◌, ℕ, ◌<◌, List, [], ◌∷◌, ◌++◌, map, length, sym, ap, ◌∙◌, subst}
use Rattle.std.proofs.Common.{get_or, rules}
use Rattle.std.specs.Prelude.{codes}
use Rattle.std.specs.List.{AllPairs, IsDistinct}
use Rattle.std.specs.Str.{bytes_eq}
use Rattle.std.proofs.Math.ListN.{get_or-map}
use Rattle.std.proofs.lemmas.List.{length-map, map-append}
use Rattle.std.proofs.lemmas.Map.Made.{AllPairs-from_IsDistinct}
use Rattle.std.proofs.lemmas.Slice.Eq.{bytes_eq-Decides}

-- The names of files.
abbrev pub names : List (List ℕ × List ℕ) → List (List ℕ)
names files = map (λ file. file.0) files

pub no_names : (files : List (List ℕ × List ℕ)) → files ≡ [] → names files ≡ []
no_names files e = ap names e

pub one_more : (files more : List (List ℕ × List ℕ)) (file : List ℕ × List ℕ) (name : List ℕ)
    (before : List (List ℕ)) → more ≡ files ++ file ∷ [] → file.0 ≡ name → names files ≡ before
    → names more ≡ before ++ name ∷ []
one_more files more file name before e f h =
    ap names e ∙ map-append (λ file. file.0) files (file ∷ [])
    ∙ ap (λ ns. ns ++ file.0 ∷ []) h ∙ ap (λ n. before ++ n ∷ []) f

-- The names of the files of the worked examples.
abbrev worked : List (List ℕ)
worked = codes "cat.txt" ∷ codes "s.sql" ∷ codes "k9.txt" ∷ codes "k4.txt" ∷ codes "sw.txt"
    ∷ codes "g1.txt" ∷ codes "g2.txt" ∷ codes "gen.txt" ∷ codes "p.csv"
    ∷ codes "m.csv" ∷ codes "s.csv" ∷ codes "n.csv" ∷ codes "z.csv" ∷ []

distinct : IsDistinct bytes_eq worked
unfolding IsDistinct
distinct = search rules

name_at : (files : List (List ℕ × List ℕ)) → names files ≡ worked → (i : ℕ)
    (d : List ℕ × List ℕ) → get_or worked i d.0 ≡ (get_or files i d).0
name_at files e i d = sym (ap (λ ns. get_or ns i d.0) e) ∙ get_or-map (λ file. file.0) files i d

pub differ : (files : List (List ℕ × List ℕ)) → names files ≡ worked
    → AllPairs (λ a b. a.0 ≢ b.0) files
differ files e i j d before within same =
    AllPairs-from_IsDistinct bytes_eq-Decides worked distinct i j d.0 before
    (subst (λ n. j < n) (sym (length-map files (λ file. file.0)) ∙ ap length e) within)
    (name_at files e i d ∙ same ∙ sym (name_at files e j d))
