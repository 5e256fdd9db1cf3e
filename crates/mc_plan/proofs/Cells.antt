-- Constants read one behind the other.
use Rattle.std.proofs.Common.{◌≡◌, ℕ, ◌+◌, ◌<◌, ◌≤◌, List, [], ◌∷◌, ◌++◌, Some, None, drop, get_or}
use Rattle.std.proofs.Common.{length, refl, sym, ap, ◌∙◌, append_assoc}
use Rattle.std.proofs.lemmas.List.{append-nil, drop_all, drop_more}
use Rattle.std.specs.Prelude.{Option, option_and_then, option_map}
use Rattle.mc_charset.specs.declared.charset.Charset.{Charset}
use Rattle.mc_range.specs.declared.condition.Cell.{Cell}
use Rattle.mc_typing.specs.declared.typed.TypedExpr.{TypedExpr}
use Rattle.mc_plan.specs.Constants.{cell, cells}

-- These constants, and those of the others behind them.
abbrev pub with_cells : Charset → List Cell → List TypedExpr → Option (List Cell)
with_cells set found xs = option_map (λ more. found ++ more) (cells set xs)

-- So far these were read.
pub record AreRead (set : Charset) (xs : List TypedExpr) (i : ℕ) (found : List Cell) : Type 0 where
  pub is : with_cells set found (drop i xs) ≡ cells set xs

bare : (o : Option (List Cell)) → option_map (λ more. [] ++ more) o ≡ o
bare None = refl
bare (Some more) = refl

pub read_none : (set : Charset) (xs : List TypedExpr) (found : List Cell) → found ≡ []
    → AreRead set xs 0 found
read_none set xs found e = record {
  is = ap (λ l. with_cells set l xs) e ∙ bare (cells set xs);
}

next : (xs : List TypedExpr) (i : ℕ) (x : TypedExpr) → i < length xs → x ≡ get_or xs i x
    → drop i xs ≡ x ∷ drop (i + 1) xs
next xs i x h e = drop_more xs i x h ∙ ap (λ y. y ∷ drop (i + 1) xs) (sym e)

moved : (found : List Cell) (c : Cell) (o : Option (List Cell))
    → option_map (λ more. found ++ more) (option_map (λ others. c ∷ others) o)
    ≡ option_map (λ more. (found ++ c ∷ []) ++ more) o
moved found c None = refl
moved found c (Some more) = simp append_assoc

step : (set : Charset) (found : List Cell) (x : TypedExpr) (rest : List TypedExpr)
    (one : Option Cell) → cell set x ≡ one → with_cells set found (x ∷ rest)
    ≡ option_map (λ more. found ++ more)
    (option_and_then (λ c. option_map (λ others. c ∷ others) (cells set rest)) one)
unfolding cells
step set found x rest one e = ap (λ o. option_map (λ more. found ++ more)
    (option_and_then (λ c. option_map (λ others. c ∷ others) (cells set rest)) o)) e

pub read_more : (set : Charset) (xs : List TypedExpr) (i : ℕ) (found more : List Cell)
    (x : TypedExpr) (c : Cell) → i < length xs → x ≡ get_or xs i x → Some c ≡ cell set x
    → more ≡ found ++ c ∷ [] → AreRead set xs i found → AreRead set xs (i + 1) more
read_more set xs i found more x c h e f k r = record {
  is = ap (λ l. with_cells set l (drop (i + 1) xs)) k
      ∙ (sym (ap (with_cells set found) (next xs i x h e)
      ∙ (step set found x (drop (i + 1) xs) (Some c) (sym f)
      ∙ moved found c (cells set (drop (i + 1) xs)))) ∙ r.is);
}

pub read_other : (set : Charset) (xs : List TypedExpr) (i : ℕ) (found : List Cell)
    (x : TypedExpr) → i < length xs → x ≡ get_or xs i x → None ≡ cell set x
    → AreRead set xs i found → None ≡ cells set xs
read_other set xs i found x h e f r = sym (step set found x (drop (i + 1) xs) None (sym f))
    ∙ (sym (ap (with_cells set found) (next xs i x h e)) ∙ r.is)

last : (set : Charset) (found : List Cell) → with_cells set found [] ≡ Some found
unfolding cells
last set found = ap (λ l. Some l) (append-nil found)

pub read_all : (set : Charset) (xs : List TypedExpr) (i : ℕ) (found : List Cell)
    → length xs ≤ i → AreRead set xs i found → Some found ≡ cells set xs
read_all set xs i found h r =
    sym (ap (with_cells set found) (drop_all i xs h) ∙ last set found) ∙ r.is
