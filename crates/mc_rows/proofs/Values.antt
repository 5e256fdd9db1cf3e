-- The values of a record's fields, one after the other.
use Rattle.std.proofs.Common.{◌≡◌, ℕ, zero, suc, ◌+◌, ◌<◌, ◌≤◌, ◌^◌, List, [], ◌∷◌, ◌++◌, take, drop, length, get_or, Some, None, Result, Ok, Err, IsUtf8, refl, sym, ap, subst, ◌∙◌, append_assoc, arith}
use Rattle.std.proofs.lemmas.List.{append-nil, length-append, drop_more, take_more, take_all, drop_all}
use Rattle.std.proofs.lemmas.Option.{none-some, same_Some}
use Rattle.std.specs.List.{AllZip}
use Rattle.csv.specs.Records.{field_at}
use Rattle.mc_base.specs.Results.{result_and_then}
use Rattle.mc_catalog.specs.declared.catalog.CollDecl.{CollDecl}
use Rattle.mc_catalog.specs.declared.catalog.ColumnDecl.{ColumnDecl}
use Rattle.mc_values.specs.declared.value.Value.{Value}
use Rattle.mc_rows.specs.Fields.{field_value, IsOfType}
use Rattle.mc_rows.specs.Records.{Record, IsOfColumns, values_of, with_first}
use Rattle.mc_rows.specs.Told.{AreTexts}
use Rattle.mc_rows.specs.declared.fault.RowsFaultKind.{RowsFaultKind}

-- values behind others, if there are any
abbrev pub behind_row : List Value → Result (List Value) RowsFaultKind → Result (List Value) RowsFaultKind
behind_row row rest = result_and_then (λ more. Ok (row ++ more)) rest

-- The first fields of a record have these values.
pub record HasValues (collations : List CollDecl) (columns : List ColumnDecl) (fields : Record) (row : List Value) (count : ℕ) : Type 0 where
  pub counted : length row ≡ count
  pub within : count ≤ length columns
  pub as_many : length fields ≡ length columns
  pub reads : values_of collations columns fields ≡ behind_row row (values_of collations (drop count columns) (drop count fields))
  pub of_columns : IsOfColumns collations (take count columns) row

of_none : (rest : Result (List Value) RowsFaultKind) → rest ≡ behind_row [] rest
of_none (Ok more) = refl
of_none (Err kind) = refl

pub values_none : (collations : List CollDecl) (columns : List ColumnDecl) (fields : Record) → length fields ≡ length columns → HasValues collations columns fields [] 0
values_none collations columns fields e = record {
  counted = refl;
  within = omega arith;
  as_many = e;
  reads = of_none (values_of collations columns fields);
  of_columns = tt;
}

pub field_there : (fields : Record) (i : ℕ) (field : List ℕ) → Some field ≡ field_at fields i → drop i fields ≡ field ∷ drop (i + 1) fields
unfolding field_at
field_there [] i field e = absurd (none-some field (sym e))
field_there (f ∷ fs) zero field e = ap (λ x. x ∷ fs) (sym (same_Some field f e))
field_there (f ∷ fs) (suc i) field e =
    let next : suc i + 1 ≡ suc (i + 1) = omega arith in
    rw next (field_there fs i field e)

pub field_missing : (fields : Record) (i : ℕ) → None ≡ field_at fields i → i < length fields → ⊥
unfolding field_at
field_missing [] i e h = omega (arith, h)
field_missing (f ∷ fs) zero e h = none-some f e
field_missing (f ∷ fs) (suc i) e h = field_missing fs i e (omega (arith, h))

pub text_at : (fields : Record) (i : ℕ) (field : List ℕ) → AreTexts fields → Some field ≡ field_at fields i → IsUtf8 field × (length field < 2 ^ 32)
unfolding field_at
text_at [] i field texts e = absurd (none-some field (sym e))
text_at (f ∷ fs) zero field texts e = subst (λ (x : List ℕ). IsUtf8 x × (length x < 2 ^ 32)) (sym (same_Some field f e)) (texts.0, texts.1)
text_at (f ∷ fs) (suc i) field texts e = text_at fs i field texts.2 e

zip_more : {A B : Type 0} (R : A → B → Type 0) (xs : List A) (ys : List B) (x : A) (y : B) → AllZip R xs ys → R x y → AllZip R (xs ++ x ∷ []) (ys ++ y ∷ [])
zip_more R [] [] x y h r = (r, tt)
zip_more R [] (b ∷ ys) x y h r = absurd h
zip_more R (a ∷ xs) [] x y h r = absurd h
zip_more R (a ∷ xs) (b ∷ ys) x y h r = (h.0, zip_more R xs ys x y h.1 r)

one_behind : (row : List Value) (value : Value) (rest : Result (List Value) RowsFaultKind) → behind_row row (with_first value rest) ≡ behind_row (row ++ value ∷ []) rest
one_behind row value (Ok more) = ap (λ l. Ok l) (sym (append_assoc row (value ∷ []) more))
one_behind row value (Err kind) = refl

module _ (collations : List CollDecl) (columns : List ColumnDecl) (fields : Record) (row : List Value) (count : ℕ) (d : ColumnDecl) (field : List ℕ) where
  -- what the fields from here on give, by the next one
  next_values : count < length columns → Some field ≡ field_at fields count
      → values_of collations (drop count columns) (drop count fields)
      ≡ result_and_then (λ value. with_first value (values_of collations (drop (count + 1) columns) (drop (count + 1) fields))) (field_value collations (get_or columns count d).ty field)
  unfolding values_of
  next_values h e = rw (drop_more columns count d h, field_there fields count field e) refl

  pub value_more : (value : Value) → HasValues collations columns fields row count → count < length columns → Some field ≡ field_at fields count
      → field_value collations (get_or columns count d).ty field ≡ Ok value → IsOfType collations (get_or columns count d).ty value
      → HasValues collations columns fields (row ++ value ∷ []) (count + 1)
  value_more value has h e v of_type =
      let rest = values_of collations (drop (count + 1) columns) (drop (count + 1) fields) in record {
        counted = omega (arith, has.counted, length-append row (value ∷ []));
        within = omega (arith, h);
        as_many = has.as_many;
        reads = has.reads ∙ ap (behind_row row) (next_values h e ∙ ap (result_and_then (λ value. with_first value rest)) v) ∙ one_behind row value rest;
        of_columns = rw (take_more columns count d h) (zip_more (λ column value. IsOfType collations column.ty value) (take count columns) row (get_or columns count d) value has.of_columns of_type);
      }

  pub value_fault : (kind : RowsFaultKind) → HasValues collations columns fields row count → count < length columns → Some field ≡ field_at fields count
      → field_value collations (get_or columns count d).ty field ≡ Err kind → values_of collations columns fields ≡ Err kind
  value_fault kind has h e v =
      let rest = values_of collations (drop (count + 1) columns) (drop (count + 1) fields) in
      has.reads ∙ ap (behind_row row) (next_values h e ∙ ap (result_and_then (λ value. with_first value rest)) v)

pub values_all : (collations : List CollDecl) (columns : List ColumnDecl) (fields : Record) (row : List Value) (count : ℕ) → HasValues collations columns fields row count → length columns ≤ count
    → (values_of collations columns fields ≡ Ok row) × IsOfColumns collations columns row
unfolding values_of
values_all collations columns fields row count has h =
    let none = drop_all count columns h in
    let no_field = drop_all count fields (omega (arith, has.as_many, h)) in
    let ended : values_of collations (drop count columns) (drop count fields) ≡ Ok [] = rw (none, no_field) refl in
    let all = take_all count columns h in (
      has.reads ∙ ap (behind_row row) ended ∙ ap (λ l. Ok l) (append-nil row),
      subst (λ (cols : List ColumnDecl). IsOfColumns collations cols row) all has.of_columns,
    )
