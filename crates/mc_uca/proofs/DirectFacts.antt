-- Characters of one weight.
use Rattle.std.proofs.Common.{◌≡◌, ◌⊎◌, ℕ, zero, suc, ◌<◌, nat_le, Bool, false, List, [], ◌∷◌, ◌++◌, length, take, drop, refl, ap, ◌∙◌, inl, inr, arith}
use Rattle.std.proofs.lemmas.Bool.Decides.{nat_tests}
use Rattle.mc_charset.specs.declared.charset.Charset.{Charset}
use Rattle.mc_allkeys.specs.Fronts.{IsPieceLen, IsHead, IsFresh}
use Rattle.mc_allkeys.specs.Levels.{level_list, level_weights}
use Rattle.mc_allkeys.specs.Longest.{AreContractionsAt}
use Rattle.mc_allkeys.specs.Pieces.{piece_len, pieces}
use Rattle.mc_allkeys.specs.Table.{Entries, ElementTable, contractions_of}
use Rattle.mc_allkeys.specs.declared.element.Element.{Element}
use Rattle.mc_rules.specs.Elements.{elements_of}
use Rattle.mc_uca.specs.Direct.{direct_at, IsDirect}
use Rattle.mc_uca.specs.Kind.{family_of}
use Rattle.mc_uca.specs.Reach.{reach_at, Reaches}
use Rattle.mc_uca.specs.SetContractions.{of_table}
use Rattle.mc_uca.specs.Weighing.{set_contractions, uca_list}
use Rattle.mc_uca.specs.declared.direct.DirectWeight.{DirectWeight}
use Rattle.mc_uca.specs.declared.kind.UcaKind.{UcaKind}
use Rattle.mc_uca.proofs.PieceFacts.{one_code}

-- What the laws of the table's crate say of a character before others.
pub record Laws : Type 0 where
  pub is : (contractions : List (List ℕ)) (codes : List ℕ) →
      IsPieceLen contractions codes (piece_len contractions codes)
  pub step : (contractions : List (List ℕ)) (code : ℕ) (rest : List ℕ) →
      pieces contractions (code ∷ rest)
      ≡ take (piece_len contractions (code ∷ rest)) (code ∷ rest)
      ∷ pieces contractions (drop (piece_len contractions (code ∷ rest)) (code ∷ rest))
  pub all : (entries : Entries) (text : List ℕ) →
      AreContractionsAt entries (contractions_of entries) text
  pub alone : (contractions : List (List ℕ)) (elements : List ℕ → List Element)
      (level : ℕ) (code : ℕ) (rest : List ℕ) →
      (IsHead contractions code → ⊥) ⊎ IsFresh contractions rest →
      level_list contractions elements level (code ∷ rest)
      ≡ level_list contractions elements level (code ∷ [])
      ++ level_list contractions elements level rest

pub below_two : (n m : ℕ) → n ≡ m → nat_le 2 n ≡ false → m < 2
below_two n m e low = grind (arith, nat_tests)

-- A code point begins no contraction where none of two codes is noted for it.
no_head : (set : Charset) (entries : Entries) (lens : List ℕ) (code : ℕ) →
    ((entries : Entries) (text : List ℕ) →
    AreContractionsAt entries (contractions_of entries) text) →
    Reaches (contractions_of entries) lens → reach_at lens code < 2 →
    IsHead (set_contractions set entries) code → ⊥
no_head set entries lens code all reaches lt head =
    let one = (of_table set entries (code ∷ head.0) head.1).0 in
    let long = ((all entries (code ∷ head.0)).sound (code ∷ head.0) one).0 in
    let reached = reaches code head.0 one in
    omega (arith, long, reached, lt)

-- The one weight of a character that begins no contraction, or that none goes on behind.
pub is_direct : (set : Charset) (kind : UcaKind) (table : ElementTable) (lens : List ℕ)
    (level code weight : ℕ) (head : Bool) → Laws → Reaches (contractions_of table.entries) lens →
    (head ≡ false → reach_at lens code < 2) →
    level_weights level (elements_of table (family_of kind) (code ∷ [])) ≡ weight ∷ [] →
    IsDirect set kind table level code (record { weight = weight; is_head = head })
is_direct set kind table lens level code weight head laws reaches low one = λ rest some alone.
    laws.alone (set_contractions set table.entries) (elements_of table (family_of kind)) level code
    rest (kept rest alone)
    ∙ ap (λ weights. weights ++ uca_list set kind table level rest)
    (ap (level_weights level) (one_code set kind table code laws.is laws.step) ∙ one)
  where
    kept : (rest : List ℕ) → (head ≡ false) ⊎ IsFresh (set_contractions set table.entries) rest →
        (IsHead (set_contractions set table.entries) code → ⊥)
        ⊎ IsFresh (set_contractions set table.entries) rest
    kept rest (inl e) = inl (no_head set table.entries lens code laws.all reaches (low e))
    kept rest (inr fresh) = inr fresh

-- No weight is noted.
pub none_direct : (set : Charset) (kind : UcaKind) (table : ElementTable) (level code : ℕ)
    (head : Bool) → IsDirect set kind table level code (record { weight = 0; is_head = head })
none_direct set kind table level code head = λ rest some alone. absurd (some refl)

-- What holds of each of the notes, holds of them and one more.
pub direct_more : (P : ℕ → DirectWeight → Type 0) (direct : List DirectWeight) (one : DirectWeight) →
    ((code : ℕ) → P code (direct_at direct code)) → P (length direct) one →
    (code : ℕ) → P code (direct_at (direct ++ one ∷ []) code)
direct_more P [] one all here zero = here
direct_more P [] one all here (suc code) = all (suc code)
direct_more P (d ∷ ds) one all here zero = all zero
direct_more P (d ∷ ds) one all here (suc code) =
    direct_more (λ k. P (suc k)) ds one (λ k. all (suc k)) here code
