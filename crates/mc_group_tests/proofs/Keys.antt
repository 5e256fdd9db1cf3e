-- Key rows of two values, and lists of key rows.
use Rattle.std.proofs.Common.{◌≡◌, ℕ, List, [], ◌∷◌, ◌++◌, sym, subst, arith}
use Rattle.std.specs.List.{All}
use Rattle.std.proofs.lemmas.List.Elements.{All-append, All-cons, All-nil}
use Rattle.mc_group.specs.Kinds.{IsInBook, IsKeyRow, IsOfKind}
use Rattle.mc_group.specs.declared.kind.KeyKind.{KeyKind}
use Rattle.mc_group.specs.declared.kind.KeyKind.TheVariants as kind
use Rattle.mc_order.specs.Meaning.{Meaning}
use Rattle.mc_values.specs.declared.value.Value.{Value}

pub two : (meaning : ℕ → Meaning) (one other : KeyKind) (v w : Value) (row : List Value) →
    IsOfKind meaning one v → IsOfKind meaning other w → row ≡ v ∷ w ∷ [] →
    IsKeyRow meaning (one ∷ other ∷ []) row
two meaning one other v w row hv hw e =
    subst (IsKeyRow meaning (one ∷ other ∷ [])) (sym e) (hv, (hw, tt))

pub one_more : (P : List Value → Type 0) (rows new : List (List Value)) (row : List Value) →
    All P rows → P row → new ≡ rows ++ row ∷ [] → All P new
one_more P rows new row all more e =
    subst (All P) (sym e) (All-append P rows (row ∷ []) all (All-cons P row [] more (All-nil P)))

pub in_book : (kinds : List KeyKind) → kinds ≡ kind.Int ∷ kind.Text (record { 0 = 0 }) ∷ [] →
    All (IsInBook 1) kinds
in_book kinds e =
    subst (All (IsInBook 1)) (sym e)
    (All-cons (IsInBook 1) kind.Int (kind.Text (record { 0 = 0 }) ∷ []) tt
    (All-cons (IsInBook 1) (kind.Text (record { 0 = 0 })) [] (omega arith)
    (All-nil (IsInBook 1))))

pub at_kinds : (meaning : ℕ → Meaning) (kinds wanted : List KeyKind) (keys : List (List Value)) →
    kinds ≡ wanted → All (IsKeyRow meaning wanted) keys → All (IsKeyRow meaning kinds) keys
at_kinds meaning kinds wanted keys e all =
    subst (λ (ks : List KeyKind). All (IsKeyRow meaning ks) keys) (sym e) all
