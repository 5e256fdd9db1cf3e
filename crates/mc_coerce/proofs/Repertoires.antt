-- The repertoire of a result, and that no operand loses a character to it.
use Rattle.std.proofs.Common.{◌≡◌, ◌<◌, ◌≤◌, ◌⊎◌, Bool, true, cond, leb, List, [], ◌∷◌}
use Rattle.std.proofs.Common.{length, refl, sym, ap, ◌∙◌, subst, arith, inl, inr, zero}
use Rattle.std.specs.List.{All, Contains}
use Rattle.std.proofs.lemmas.Bool.{cases_Bool, leb-true, leb-false}
use Rattle.std.proofs.lemmas.List.Elements.{All-contains, All-nil, All-cons, All-tail}
use Rattle.mc_charset.specs.declared.charset.Charset.{Charset}
use Rattle.mc_charset.specs.declared.charset.Charset.TheVariants.{Latin1 as SetLatin1}
use Rattle.mc_charset.specs.declared.charset.Charset.TheVariants.{Ascii as SetAscii, Utf8mb3}
use Rattle.mc_charset.specs.declared.charset.Charset.TheVariants.{Utf8mb4, Ucs2, Utf16, Utf32}
use Rattle.mc_charset.specs.declared.charset.Charset.TheVariants.{Binary}
use Rattle.mc_convert.specs.Classes.{rank, cap_of}
use Rattle.mc_convert.specs.declared.repertoire.Repertoire.{Repertoire}
use Rattle.mc_convert.specs.declared.repertoire.Repertoire.TheVariants.{Ascii, Latin1, Bmp, Unicode}
use Rattle.mc_convert.specs.declared.repertoire.Repertoire.TheVariants.{Bytes}
use Rattle.mc_coerce.specs.declared.operand.Operand.{Operand}
use Rattle.mc_coerce.specs.declared.operand.Purpose.{Purpose}
use Rattle.mc_coerce.specs.declared.operand.Agg.TheVariants.{Uses}
use Rattle.mc_coerce.specs.declared.demand.Demand.{Demand}
use Rattle.mc_coerce.specs.declared.demand.Demand.TheVariants.{Beat, Share}
use Rattle.mc_coerce.specs.Levels.{ignorable}
use Rattle.mc_coerce.specs.Operand.{AgreeOnSet, AreOperands}
use Rattle.mc_coerce.specs.Demand.{meets, result_of}
use Rattle.mc_coerce.specs.Aggregate.{counted, later, greatest, class_in_set, of_bin}
use Rattle.mc_coerce.specs.Aggregate.{aggregate}
use Rattle.mc_coerce.proofs.PairTable.{Wins, wins, one_set, in_collation, in_set}
use Rattle.mc_coerce.proofs.PairTable.{across_sets}
use Rattle.mc_coerce.proofs.Election.{shares, agrees, meets_member}
use Rattle.mc_coerce.proofs.Origins.{AreOperands-counted, aggregate-from}

-- Classes of a set

twice : (set : Charset) (class : Repertoire)
    → class_in_set set (class_in_set set class) ≡ class_in_set set class
twice Binary Ascii = refl
twice Binary Latin1 = refl
twice Binary Bmp = refl
twice Binary Unicode = refl
twice Binary Bytes = refl
twice SetLatin1 class = refl
twice SetAscii class = refl
twice Utf8mb3 class = refl
twice Utf8mb4 class = refl
twice Ucs2 class = refl
twice Utf16 class = refl
twice Utf32 class = refl

at_least : (set : Charset) (class : Repertoire) → rank class ≤ rank (class_in_set set class)
at_least Binary Ascii = omega arith
at_least Binary Latin1 = omega arith
at_least Binary Bmp = omega arith
at_least Binary Unicode = omega arith
at_least Binary Bytes = omega arith
at_least SetLatin1 class = omega arith
at_least SetAscii class = omega arith
at_least Utf8mb3 class = omega arith
at_least Utf8mb4 class = omega arith
at_least Ucs2 class = omega arith
at_least Utf16 class = omega arith
at_least Utf32 class = omega arith

-- In binary, above Ascii there is Bytes alone.
bytes_above : (class : Repertoire) → 0 < rank class → class_in_set Binary class ≡ Bytes
bytes_above Ascii h = absurd (omega arith)
bytes_above Latin1 h = refl
bytes_above Bmp h = refl
bytes_above Unicode h = refl
bytes_above Bytes h = refl

binary_rises : (class other : Repertoire) → rank class ≤ rank other
    → rank (class_in_set Binary class) ≤ rank (class_in_set Binary other)
binary_rises Ascii other h = omega arith
binary_rises Latin1 other h = rw (bytes_above other (omega arith)) (omega arith)
binary_rises Bmp other h = rw (bytes_above other (omega arith)) (omega arith)
binary_rises Unicode other h = rw (bytes_above other (omega arith)) (omega arith)
binary_rises Bytes other h = rw (bytes_above other (omega arith)) (omega arith)

rises : (set : Charset) (class other : Repertoire) → rank class ≤ rank other
    → rank (class_in_set set class) ≤ rank (class_in_set set other)
rises Binary class other h = binary_rises class other h
rises SetLatin1 class other h = h
rises SetAscii class other h = h
rises Utf8mb3 class other h = h
rises Utf8mb4 class other h = h
rises Ucs2 class other h = h
rises Utf16 class other h = h
rises Utf32 class other h = h

-- The greatest class

abbrev AtMost : Repertoire → Operand → Type 0
AtMost class a = rank a.repertoire ≤ rank class

later_rank : (a b : Repertoire) → (rank a ≤ rank (later a b)) × (rank b ≤ rank (later a b))
later_rank a b =
    let P : Bool → Type 0 = λ t. (rank a ≤ rank (cond t b a)) × (rank b ≤ rank (cond t b a)) in
    elim (cases_Bool (leb (rank a) (rank b))) [
      | inl t ↦ let h = leb-true (rank a) (rank b) t in subst P (sym t) (h, omega arith)
      | inr f ↦ let h = leb-false (rank a) (rank b) f in subst P (sym f) (omega arith, omega arith)
    ]

later_below : (a b class : Repertoire) → rank a ≤ rank class → rank b ≤ rank class
    → rank (later a b) ≤ rank class
later_below a b class h k =
    let P : Bool → Type 0 = λ t. rank (cond t b a) ≤ rank class in
    elim (cases_Bool (leb (rank a) (rank b))) [
      | inl t ↦ subst P (sym t) k
      | inr f ↦ subst P (sym f) h
    ]

greatest-above : (list : List Operand) → All (AtMost (greatest list)) list
greatest-above [] = All-nil (AtMost Ascii)
greatest-above (x ∷ xs) =
    let r = later_rank x.repertoire (greatest xs) in
    let more : All (AtMost (greatest (x ∷ xs))) xs =
    λ k d l. (let h = greatest-above xs k d l in let m = r.1 in omega arith) in
    All-cons (AtMost (greatest (x ∷ xs))) x xs r.0 more

greatest-least : (list : List Operand) (class : Repertoire) → All (AtMost class) list
    → rank (greatest list) ≤ rank class
greatest-least [] class h = omega arith
greatest-least (x ∷ xs) class h =
    later_below x.repertoire (greatest xs) class (h zero x (omega arith))
    (greatest-least xs class (All-tail (AtMost class) x xs h))

-- Results

-- What is told of the repertoire of a result.
pub record IsLeast (operands : List Operand) (together : Operand) : Type 0 where
  pub of_set : class_in_set together.charset together.repertoire ≡ together.repertoire
  pub above : All (λ (a : Operand). rank a.repertoire ≤ rank together.repertoire) operands
  pub least : (class : Repertoire) → class_in_set together.charset class ≡ class
      → All (λ (a : Operand). rank a.repertoire ≤ rank class) operands
      → rank together.repertoire ≤ rank class

least_in_set : (operands : List Operand) (set : Charset) (class : Repertoire)
    → class_in_set set class ≡ class → All (AtMost class) operands
    → rank (class_in_set set (greatest operands)) ≤ rank class
least_in_set operands set class e h =
    let r = rises set (greatest operands) class (greatest-least operands class h) in
    let f = ap rank e in omega arith

above_in_set : (operands : List Operand) (set : Charset)
    → All (AtMost (class_in_set set (greatest operands))) operands
above_in_set operands set k d l =
    let h = greatest-above operands k d l in
    let m = at_least set (greatest operands) in omega arith

result_of-least : (demand : Demand) (operands : List Operand) (a : Operand)
    → IsLeast operands (result_of demand operands a)
result_of-least Beat operands a = record {
  of_set = twice a.charset (greatest operands);
  above = above_in_set operands a.charset;
  least = least_in_set operands a.charset;
}
result_of-least Share operands a = record {
  of_set = twice a.charset (greatest operands);
  above = above_in_set operands a.charset;
  least = least_in_set operands a.charset;
}

none-least : (operands : List Operand) → operands ≡ []
    → IsLeast operands (of_bin Binary ignorable Ascii)
none-least operands e =
    let P : List Operand → Type 0 = λ xs. IsLeast xs (of_bin Binary ignorable Ascii) in
    subst P (sym e) (record {
      of_set = refl;
      above = All-nil (AtMost Ascii);
      least = λ class h k. omega arith;
    })

pub aggregate-least : (list : List Operand) (purpose : Purpose) (together : Operand)
    → aggregate list purpose ≡ Uses together → IsLeast (counted list) together
aggregate-least list purpose together h =
    elim (aggregate-from list purpose together h) [
      | inl k ↦ subst (IsLeast (counted list)) (sym k.1) (none-least (counted list) k.0)
      | inr k ↦ subst (IsLeast (counted list)) (sym k.2.is)
          (result_of-least k.0 (counted list) k.1)
    ]

-- No character is lost

abbrev Keeps : Operand → Charset → Type 0
Keeps a set = (a.charset ≡ set) ⊎ (rank a.repertoire ≤ rank (cap_of set))

wins_keeps : (b a : Operand) → AgreeOnSet b a → Wins b a → Keeps a b.charset
wins_keeps b a f (in_collation h k) = inl (sym (one_set b a f h))
wins_keeps b a f (in_set h k l) = inl (sym k)
wins_keeps b a f (across_sets h k l m) = inr l

meets_keeps : (demand : Demand) (b a : Operand) → AgreeOnSet b a → meets demand b a ≡ true
    → Keeps a b.charset
meets_keeps Beat b a f h = wins_keeps b a f (wins b a h)
meets_keeps Share b a f h =
    elim (shares b a h).either [
      | inl k ↦ wins_keeps b a f k
      | inr k ↦ inl (sym k.0)
    ]

result_of-charset : (demand : Demand) (operands : List Operand) (b : Operand)
    → b.charset ≡ (result_of demand operands b).charset
result_of-charset Beat operands b = refl
result_of-charset Share operands b = refl

no_member : (operands : List Operand) (a : Operand) → operands ≡ [] → Contains operands a → ⊥
no_member operands a e c = let l = c.1 in let f = ap length e in omega arith

pub aggregate-keeps : (list : List Operand) (purpose : Purpose) (together a : Operand)
    → AreOperands list → aggregate list purpose ≡ Uses together → Contains (counted list) a
    → (a.charset ≡ together.charset) ⊎ (rank a.repertoire ≤ rank (cap_of together.charset))
aggregate-keeps list purpose together a ops h c =
    elim (aggregate-from list purpose together h) [
      | inl k ↦ absurd (no_member (counted list) a k.0 c)
      | inr k ↦
          let agree : AgreeOnSet k.1 a = All-contains (AgreeOnSet k.1) (counted list) a
          (agrees (counted list) k.1 (AreOperands-counted list ops) k.2.within) c in
          subst (Keeps a)
          (result_of-charset k.0 (counted list) k.1 ∙ ap (λ (r : Operand). r.charset) (sym k.2.is))
          (meets_keeps k.0 k.1 a agree
          (meets_member k.0 (counted list) k.1 a c k.2.decides_all))
    ]
