-- The longest contraction that begins a text: UTS #10, S2.1.
use Rattle.std.specs.Prelude.{◌≡◌, ℕ, ◌≤◌, ◌<◌, true, List, length, take, Some}
use Rattle.std.specs.Prelude.{None}
use Rattle.std.specs.FinMap as map
use Rattle.std.specs.List.{Contains}
use Rattle.mc_allkeys.specs.Table.{Entries}
use Rattle.mc_allkeys.specs.declared.element.Element.{Element}

-- No contraction longer than this begins the text.
abbrev pub HasNoLonger : Entries → List ℕ → ℕ → Type 0
HasNoLonger entries text len =
    (k : ℕ) → 2 ≤ k → len < k → k ≤ length text → map.get entries (take k text) ≡ None

-- The longest contraction that begins the text has this length and these elements.
pub record IsLongest (entries : Entries) (text : List ℕ) (len : ℕ) (elements : List Element) :
    Type 0 where
  pub is_contraction : 2 ≤ len
  pub within : len ≤ length text
  pub entry : map.get entries (take len text) ≡ Some elements
  pub longest : HasNoLonger entries text len

-- Of the texts that begin this one, the contractions are those with an entry.
pub record AreContractionsAt (entries : Entries) (contractions : List (List ℕ)) (text : List ℕ) :
    Type 0 where
  pub sound : (one : List ℕ) → Contains contractions one →
      (2 ≤ length one) × (map.contains_key entries one ≡ true)
  pub complete : (k : ℕ) → 2 ≤ k → k ≤ length text →
      map.contains_key entries (take k text) ≡ true → Contains contractions (take k text)
