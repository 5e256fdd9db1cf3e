-- The general collations keep the laws.
use Rattle.std.proofs.Common.{ℕ, ◌+◌, ◌≤◌, List, [], ◌∷◌, map, length, take, drop, append-nil, refl}
use Rattle.std.proofs.Common.{sym, inl, arith}
use Rattle.std.specs.List.{All}
use Rattle.std.proofs.lemmas.List.Elements.{All-nil, All-cons}
use Rattle.mc_charset.specs.declared.charset.Charset.{Charset}
use Rattle.mc_order.specs.Meaning.{AreCharsOf}
use Rattle.mc_order.specs.Laws.{KeepsSettings, IsWeight, IsCut, HasWeightPerChar, IsLawful}
use Rattle.mc_order.specs.WithoutContractions.{without_tails, map-split, map-enough}
use Rattle.mc_table8.specs.General.{CodeTable, code_weight}
use Rattle.mc_table8.specs.GeneralMeaning.{general_meaning, CodeCollation}

settings : (set : Charset) (table : CodeTable) → KeepsSettings (general_meaning set table)
settings set table = record {
  some_level = omega arith;
  three_levels = omega arith;
  levels_unpadded = λ more. absurd (omega arith);
  some_width = omega arith;
  three_wide = omega arith;
  one_added = omega arith;
  space_weight = refl;
}

weight_fits : (set : Charset) (table : CodeTable) (number : ℕ) → number ≤ 0xFFFF →
    IsWeight (general_meaning set table) (number + 1)
weight_fits set table number less = (omega arith, omega arith, omega arith, omega arith)

bounds : (set : Charset) (table : CodeTable) (codes : List ℕ) →
    All (IsWeight (general_meaning set table))
    (map (λ code. code_weight table.weights code + 1) codes)
bounds set table [] = All-nil (IsWeight (general_meaning set table))
bounds set table (c ∷ cs) =
    All-cons (IsWeight (general_meaning set table)) (code_weight table.weights c + 1) (map
    (λ code. code_weight table.weights code + 1) cs)
    (weight_fits set table (code_weight table.weights c) (table.fits _)) (bounds set table cs)

cut : (set : Charset) (table : CodeTable) (k : ℕ) (codes : List ℕ) →
    IsCut (general_meaning set table) k codes
cut set table k codes =
    let f : ℕ → ℕ = λ code. code_weight table.weights code + 1 in record {
      kept = map f (take k codes);
      tail = [];
      rest = map f (drop k codes);
      front = sym (append-nil (map f (take k codes)));
      whole = map-split f k codes;
      none_or_tail = inl refl;
      enough = map-enough f k codes;
    }

per_char : (set : Charset) (table : CodeTable) → HasWeightPerChar (general_meaning set table)
per_char set table = (refl, λ code c e. cc)

pub general_lawful : (c : CodeCollation) → IsLawful (general_meaning c.charset c.table)
general_lawful c = record {
  settings = settings c.charset c.table;
  bounds = λ level codes some within chars. bounds c.charset c.table codes;
  empty = λ level some within. refl;
  cut = λ k codes chars. cut c.charset c.table k codes;
  head = λ level code codes some within chars head. refl;
  floor_of = λ k. ((λ weights. refl), λ none. absurd (none (per_char c.charset c.table)));
  contractions_of = All-nil (λ codes. (2 ≤ length codes) × AreCharsOf c.charset codes);
  tails_of = without_tails (general_meaning c.charset c.table) refl refl;
}
