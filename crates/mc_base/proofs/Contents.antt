-- The content of a name stands at the place of the first file of that name.
use Rattle.std.proofs.Common.{◌≡◌, ℕ, ◌<◌, ◌≤◌, Bool, true, false, nat_lt, cond, List, [], length, get_or, Option, Some, None, option_map, unwrap_or, slice_get, MatchOption, position, refl, ◌∙◌, arith}
use Rattle.std.specs.List.{find, position_or_len}
use Rattle.std.specs.Str.{bytes_eq}
use Rattle.std.proofs.lemmas.List.Folds.{find_at}
use Rattle.std.proofs.lemmas.Option.{slice_get-get_or, slice_get_past}
use Rattle.std.proofs.lemmas.Bool.Decides.{nat_tests}
use Rattle.mc_base.specs.MemFiles.{contents_of}
use Rattle.mc_base.specs.Cursor.{bytes_at}

abbrev File : Type 0
File = List ℕ × List ℕ

-- A file that is there gives its bytes.
bytes_found : (o : Option File) (file : File) → o ≡ Some file → option_map (λ f. f.1) o ≡ Some ((unwrap_or o ([], [])).1)
bytes_found o file e = rw e refl

-- The first file that passes, by whether its index lies within the list.
at_first : (p : File → Bool) (files : List File) (b : Bool) → nat_lt (position_or_len p files) (length files) ≡ b → MatchOption (cond b (Some (position_or_len p files)) None) (option_map (λ f. f.1) (find p files) ≡ None) (λ i. option_map (λ f. f.1) (find p files) ≡ Some (bytes_at files i))
at_first p files true h =
    let k = position_or_len p files in
    let within : k < length files = grind (arith, nat_tests, h) in
    rw (find_at p files) (bytes_found (slice_get files k) (get_or files k ([], [])) (slice_get-get_or files k ([], []) within))
at_first p files false h =
    let k = position_or_len p files in
    let past : length files ≤ k = grind (arith, nat_tests, h) in
    let none = find_at p files ∙ slice_get_past files k past in
    rw none refl

-- Both cases of the search for a name.
contents_at : (files : List (List ℕ × List ℕ)) (name : List ℕ) (r : Option ℕ) → r ≡ position (λ file. bytes_eq file.0 name) files → MatchOption r (contents_of files name ≡ None) (λ i. contents_of files name ≡ Some (bytes_at files i))
contents_at files name r e =
    let p = λ (file : File). bytes_eq file.0 name in
    rw e (at_first p files (nat_lt (position_or_len p files) (length files)) refl)

-- The bytes of a file that was found are the content of its name.
pub contents_found : (files : List (List ℕ × List ℕ)) (name : List ℕ) (i : ℕ) → Some i ≡ position (λ file. bytes_eq file.0 name) files → contents_of files name ≡ Some (bytes_at files i)
contents_found files name i e = contents_at files name (Some i) e

-- A name that was not found has no content.
pub contents_absent : (files : List (List ℕ × List ℕ)) (name : List ℕ) → None ≡ position (λ file. bytes_eq file.0 name) files → contents_of files name ≡ None
contents_absent files name e = contents_at files name None e
