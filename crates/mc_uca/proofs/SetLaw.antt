-- The pieces of a text of the set are the same by the set's contractions and by all of them.
use Rattle.std.proofs.Common.{◌≡◌, ◌⊎◌, ℕ, zero, suc, ◌≤◌, ◌&&◌, Bool, true, false, Option, Some, None, List, [], ◌∷◌, length, length-drop, take, drop, refl, sym, ap, ◌∙◌, inl, inr, arith}
use Rattle.std.specs.List.{Contains}
use Rattle.std.specs.Option.{is_some}
use Rattle.mc_charset.specs.declared.charset.Charset.{Charset}
use Rattle.mc_charset.specs.Chars.{spell}
use Rattle.mc_order.specs.Characters.{AreCharsOf-parts}
use Rattle.mc_order.specs.Meaning.{AreCharsOf}
use Rattle.mc_allkeys.specs.Fronts.{IsPieceLen}
use Rattle.mc_allkeys.specs.Pieces.{piece_len, pieces}
use Rattle.mc_allkeys.specs.Table.{Entries, contractions_of}
use Rattle.mc_uca.proofs.CodeLemmas.{all_behind}
use Rattle.mc_uca.specs.SetContractions.{of_table, of_set, all-take}
use Rattle.mc_uca.specs.Weighing.{is_of_set, set_contractions}

is_there : (found : Option (List ℕ)) (text : List ℕ) → found ≡ Some text → is_some found ≡ true
is_there None text e = absurd cc
is_there (Some t) text e = refl

both_hold : (a b : Bool) → a ≡ true → b ≡ true → (a && b) ≡ true
both_hold true b ea eb = eb
both_hold false b ea eb = absurd cc

-- The set has each of its characters.
pub of_chars : (set : Charset) (codes : List ℕ) → AreCharsOf set codes → is_of_set set codes ≡ true
of_chars set [] h = refl
of_chars set (c ∷ cs) h =
    let parts = AreCharsOf-parts set c cs h in
    both_hold (is_some (spell set c)) (is_of_set set cs)
    (is_there (spell set c) parts.0.0 parts.0.1) (of_chars set cs parts.1)

module _ (is : (contractions : List (List ℕ)) (codes : List ℕ) →
    IsPieceLen contractions codes (piece_len contractions codes))
    (one : (contractions : List (List ℕ)) (codes : List ℕ) (len : ℕ) →
    IsPieceLen contractions codes len → piece_len contractions codes ≡ len)
    (step : (contractions : List (List ℕ)) (code : ℕ) (rest : List ℕ) →
    pieces contractions (code ∷ rest)
    ≡ take (piece_len contractions (code ∷ rest)) (code ∷ rest)
    ∷ pieces contractions (drop (piece_len contractions (code ∷ rest)) (code ∷ rest))) where
  reached_in : (set : Charset) (entries : Entries) (codes : List ℕ) (len : ℕ) →
      is_of_set set codes ≡ true →
      (len ≡ 1) ⊎ ((len ≤ length codes) × Contains (contractions_of entries) (take len codes)) →
      (len ≡ 1) ⊎ ((len ≤ length codes) × Contains (set_contractions set entries) (take len codes))
  reached_in set entries codes len all (inl e) = inl e
  reached_in set entries codes len all (inr h) =
      inr (h.0, of_set set entries (take len codes) h.1 (all-take _ len codes all))

  same_len : (set : Charset) (entries : Entries) (codes : List ℕ) → is_of_set set codes ≡ true →
      piece_len (set_contractions set entries) codes ≡ piece_len (contractions_of entries) codes
  same_len set entries codes all =
      let h = is (contractions_of entries) codes in
      one (set_contractions set entries) codes (piece_len (contractions_of entries) codes) (record {
        some = h.some;
        reached = reached_in set entries codes _ all h.reached;
        greatest = λ front rest listed e.
            h.greatest front rest (of_table set entries front listed).0 e;
      })

  same_by : (set : Charset) (entries : Entries) (bound : ℕ) (codes : List ℕ) →
      length codes ≤ bound → is_of_set set codes ≡ true →
      pieces (set_contractions set entries) codes ≡ pieces (contractions_of entries) codes
  same_by set entries bound [] le all = refl
  same_by set entries zero (c ∷ cs) le all = absurd (omega arith)
  same_by set entries (suc bound) (c ∷ cs) le all =
      let T = set_contractions set entries in
      let len = piece_len (contractions_of entries) (c ∷ cs) in
      let some = (is (contractions_of entries) (c ∷ cs)).some in
      let shorter = length-drop len (c ∷ cs) in
      step T c cs
      ∙ ap (λ n. take n (c ∷ cs) ∷ pieces T (drop n (c ∷ cs))) (same_len set entries (c ∷ cs) all)
      ∙ ap (λ ps. take len (c ∷ cs) ∷ ps)
      (same_by set entries bound (drop len (c ∷ cs)) (omega (arith, le, some, shorter))
      (all_behind (λ code. is_some (spell set code)) len (c ∷ cs) all))
      ∙ sym (step (contractions_of entries) c cs)

  pub same_pieces : (set : Charset) (entries : Entries) (codes : List ℕ) → AreCharsOf set codes →
      pieces (set_contractions set entries) codes ≡ pieces (contractions_of entries) codes
  same_pieces set entries codes h =
      same_by set entries (length codes) codes (omega arith) (of_chars set codes h)
