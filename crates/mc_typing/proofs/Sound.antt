-- Operands of typed expressions keep to what their aggregate asks for, and so does it.
use Rattle.std.proofs.Common.{◌≡◌, ◌⊎◌, ◌<◌, List, length, refl, sym, ap, ◌∙◌, subst, inl, inr, arith}
use Rattle.std.proofs.lemmas.List.Elements.{All-filter, All-map}
use Rattle.std.specs.Prelude.{All, IfOk, Result, Ok, Err}
use Rattle.std.specs.List.{Any}
use Rattle.mc_charset.specs.Names.{bin_number}
use Rattle.mc_charset.specs.declared.charset.Charset.{Charset}
use Rattle.mc_charset.specs.declared.charset.Charset.TheVariants as set
use Rattle.mc_charset.specs.declared.collation_id.CollId.{CollId}
use Rattle.mc_coerce.specs.Aggregate.{counted, takes_part}
use Rattle.mc_coerce.specs.Sets.{bin_collation_of}
use Rattle.mc_charset.specs.declared.charset.Charset.TheVariants.{Binary}
use Rattle.mc_coerce.specs.Operand.{IsOperand}
use Rattle.mc_coerce.specs.declared.operand.Operand.{Operand}
use Rattle.mc_catalog.specs.Lawful.{IsLawful}
use Rattle.mc_catalog.specs.LookUp.{collation_set}
use Rattle.mc_catalog.specs.declared.catalog.Catalog.{Catalog}
use Rattle.mc_typing.specs.declared.typed.Ty.{Ty}
use Rattle.mc_typing.specs.declared.typed.Ty.TheVariants.{Null, Int, Str}
use Rattle.mc_typing.specs.declared.typed.TypedExpr.{TypedExpr}
use Rattle.mc_typing.specs.Operands.{AreTyped, IsTextOf, IsTyOf, of_null, text_operand, text_operands}
use Rattle.mc_typing.proofs.Usual.{bin_set, bin_within}

null_lawful : IsOperand of_null
null_lawful = record { level = omega arith; bin = ((λ t. omega arith), (λ e. refl)) }

null_sound : (c : Catalog) → IsLawful c → IsTextOf c of_null
null_sound c h = record {
  within = bin_within c Binary h;
  set = sym (bin_set c Binary h);
  lawful = null_lawful;
}

text_sound : (c : Catalog) (ty : Ty) → IsLawful c → IsTyOf c ty → IsTextOf c (text_operand ty)
text_sound c Null h t = null_sound c h
text_sound c Int h t = null_sound c h
text_sound c (Str a) h t = t

pub texts_sound : (c : Catalog) (xs : List TypedExpr) → IsLawful c → AreTyped c xs
    → All (IsTextOf c) (text_operands xs)
texts_sound c xs h all = All-map (IsTextOf c) (λ x. text_operand x.ty) xs
    (λ k x e. text_sound c _ h (all k x e))

pub made_sound : {E : Type 0} (c : Catalog) (xs : List TypedExpr) (made : Result (List Operand) E) → IsLawful c
    → AreTyped c xs → IfOk made (λ list. list ≡ text_operands xs) → IfOk made (All (IsTextOf c))
made_sound c xs (Ok list) h all e = subst (All (IsTextOf c)) (sym e) (texts_sound c xs h all)
made_sound c xs (Err error) h all e = tt

-- The result of the aggregate

abbrev Shares : Operand → Operand → Type 0
Shares a b = (b.charset ≡ a.charset) × (b.collation ≡ a.collation)

of_member : (c : Catalog) (list : List Operand) (a : Operand) → All (IsTextOf c) list → IsOperand a
    → Any (Shares a) list → IsTextOf c a
of_member c list a all own (k, x, within, is, (charset, collation)) =
    let b = subst (IsTextOf c) is (all k x within) in
    record {
      within = subst (λ (id : CollId). id.0 < length c.collations) collation b.within;
      set = sym charset ∙ (b.set ∙ ap (λ (id : CollId). collation_set c.collations id.0) collation);
      lawful = own;
    }

bins_agree : (set : Charset) → bin_collation_of set ≡ bin_number set
bins_agree set.Binary = refl
bins_agree set.Latin1 = refl
bins_agree set.Ascii = refl
bins_agree set.Utf8mb3 = refl
bins_agree set.Utf8mb4 = refl
bins_agree set.Ucs2 = refl
bins_agree set.Utf16 = refl
bins_agree set.Utf32 = refl

of_bin_number : (c : Catalog) (a : Operand) → IsLawful c → IsOperand a
    → a.collation.0 ≡ bin_number a.charset → IsTextOf c a
of_bin_number c a h own e = record {
  within = subst (λ n. n < length c.collations) (sym e) (bin_within c a.charset h);
  set = sym (ap (collation_set c.collations) e ∙ bin_set c a.charset h);
  lawful = own;
}

either : (c : Catalog) (list : List Operand) (a : Operand) → IsLawful c → All (IsTextOf c) list → IsOperand a
    → Any (Shares a) list ⊎ (a.collation.0 ≡ bin_collation_of a.charset) → IsTextOf c a
either c list a h all own (inl any) = of_member c list a all own any
either c list a h all own (inr e) = of_bin_number c a h own (e ∙ bins_agree a.charset)

pub result_sound : (c : Catalog) (list : List Operand) (a : Operand) → IsLawful c → All (IsTextOf c) list
    → IsOperand a → Any (Shares a) (counted list) ⊎ (a.collation.0 ≡ bin_collation_of a.charset)
    → IsTextOf c a
result_sound c list a h all own found =
    either c (counted list) a h (All-filter takes_part (IsTextOf c) list all) own found
