-- Constants are sound: numbers, strings and the texts of the system.
use Rattle.std.proofs.Common.{◌≡◌, ℕ, ℤ, ◌+◌, ◌-◌, ◌≤◌, ◌/◌, ◌&&◌, ◌∷◌, get_or, ap}
use Rattle.std.proofs.Common.{Bool, true, false, cond, List, [], Option}
use Rattle.std.proofs.Common.{None, Some, length, refl, subst, arith}
use Rattle.std.proofs.lemmas.Grind.{common_steps}
use Rattle.std.proofs.lemmas.Option.{get_or_from_slice_get, slice_get_within}
use Rattle.std.specs.Prelude.{Result, Ok, Err, IfOk, nat_le, option_map, pos, slice_get}
use Rattle.std.specs.Prelude.{unwrap_or}
use Rattle.std.specs.Option.{option_map_or}
use Rattle.std.specs.List.{list_all}
use Rattle.std.specs.Char.{is_ascii}
use Rattle.mc_charset.specs.Chars.{IsWellFormed, Spells, chars, chars_behind, is_spelled, spell}
use Rattle.mc_charset.specs.Chars.{spell_all}
use Rattle.mc_charset.specs.Names.{name_of, set_named}
use Rattle.mc_charset.specs.declared.charset.Charset.{Charset}
use Rattle.mc_charset.specs.declared.charset.Charset.TheVariants as set
use Rattle.mc_charset.specs.declared.collation_id.CollId.{CollId}
use Rattle.mc_convert.specs.Conversion.{converted_text, taken_for}
use Rattle.mc_convert.specs.declared.repertoire.Repertoire.{Repertoire}
use Rattle.mc_convert.specs.declared.repertoire.Repertoire.TheVariants.{Ascii}
use Rattle.mc_coerce.specs.Levels.{coercible, ignorable}
use Rattle.mc_coerce.specs.declared.operand.Operand.{Operand}
use Rattle.mc_catalog.specs.declared.catalog.Catalog.{Catalog}
use Rattle.mc_catalog.specs.declared.catalog.CollDecl.{CollDecl}
use Rattle.mc_catalog.specs.Lawful.{IsLawful, IsLawfulName}
use Rattle.mc_values.specs.Values.{IsWithinLimit, greatest_string, within_limit}
use Rattle.mc_values.specs.declared.value.Value.{Value}
use Rattle.mc_values.specs.declared.value.Value.TheVariants as value
use Rattle.mc_typing.specs.declared.callee.Callee.{Callee}
use Rattle.mc_typing.specs.declared.callee.Callee.TheVariants as callee
use Rattle.mc_typing.specs.declared.scope.Scope.{Scope}
use Rattle.mc_typing.specs.declared.typed.Node.{Node, Node-F}
use Rattle.mc_typing.specs.declared.typed.Node.TheVariants as node
use Rattle.mc_typing.specs.declared.typed.Ty.{Ty}
use Rattle.mc_typing.specs.declared.typed.Ty.TheVariants.{Null, Int, Str}
use Rattle.mc_typing.specs.declared.typed.TypedExpr.{TypedExpr}
use Rattle.mc_typing.specs.Calls.{shown, system_text, version_text}
use Rattle.mc_typing.specs.Literals.{hex_string, int_const, introduced, introduced_in}
use Rattle.mc_typing.specs.Literals.{national_string, null_const, plain_string, string_of}
use Rattle.mc_typing.specs.Literals.{text_value, usual_string}
use Rattle.mc_typing.specs.Messages.{bad_string, collation_name, no_set}
use Rattle.mc_typing.specs.OfType.{IsOfType}
use Rattle.mc_typing.specs.Operands.{IsTextOf, IsTyOf, of_collation, of_usual, repertoire_in, usual}
use Rattle.mc_typing.specs.Scope.{IsScope, connection_set}
use Rattle.mc_typing.specs.SoundStatements.{row_types}
use Rattle.mc_typing.proofs.Known.{Known}
use Rattle.mc_typing.proofs.Repertoires.{below_from, below_to}
use Rattle.mc_typing.proofs.SoundTrees.{IsFine, fine_made}
use Rattle.mc_typing.proofs.Usual.{IsOfSet, bin_of_set, usual_of_set}

and_parts : (a b : Bool) → (a && b) ≡ true → (a ≡ true) × (b ≡ true)
and_parts true b e = (refl, e)
and_parts false b e = absurd (let f : false ≡ true = e in cc)

pub le_to : (a b : ℕ) → nat_le a b ≡ true → a ≤ b
le_to a b e = grind (arith, common_steps)

-- A text of a collation of the catalog
pub of_collation_sound : (c : Catalog) (s : Charset) (id : CollId) (level : ℕ) (class : Repertoire)
    → level ≤ ignorable → IsOfSet c s id.0 → IsTextOf c (of_collation s id level class)
of_collation_sound c s id level class few h = record {
  within = h.0;
  set = h.1;
  lawful = record {
    level = few;
    bin = ((λ t. below_to id.0 9 t), (λ t. below_from id.0 9 t));
  };
}

-- A constant of its type, within the limit
abbrev IsConstantOf : Ty → Value → Type 0
IsConstantOf ty v = IsOfType ty v × IsWithinLimit v

limited : (s : Charset) (id : CollId) (class : Repertoire) (text : List ℕ) (b : Bool)
    → nat_le (length text) greatest_string ≡ b → IsWellFormed s text
    → IsConstantOf (Str (of_collation s id coercible class))
    (option_map_or (λ kept. value.Str s kept) (cond b (Some text) None) value.Null)
limited s id class text true e h = ((refl, h), le_to (length text) greatest_string e)
limited s id class text false e h = (tt, tt)

value_at : Known → (s : Charset) (id : CollId) (class : Repertoire) (text : List ℕ) (b : Bool)
    → is_spelled s text ≡ b
    → IsConstantOf (Str (of_collation s id coercible class))
    (option_map_or (λ kept. value.Str s kept) (cond b (within_limit text) None) value.Null)
value_at known s id class text true e = limited s id class text
    (nat_le (length text) greatest_string) refl ((known.tells s text).0 e)
value_at known s id class text false e = (tt, tt)

-- Names of sets
name_spelled : (s : Charset) → is_spelled set.Utf8mb3 (name_of s) ≡ true
unfolding is_spelled chars chars_behind spell spell_all
name_spelled set.Binary = refl
name_spelled set.Latin1 = refl
name_spelled set.Ascii = refl
name_spelled set.Utf8mb3 = refl
name_spelled set.Utf8mb4 = refl
name_spelled set.Ucs2 = refl
name_spelled set.Utf16 = refl
name_spelled set.Utf32 = refl

name_short : (s : Charset) → length (name_of s) ≤ greatest_string
name_short set.Binary = omega arith
name_short set.Latin1 = omega arith
name_short set.Ascii = omega arith
name_short set.Utf8mb3 = omega arith
name_short set.Utf8mb4 = omega arith
name_short set.Ucs2 = omega arith
name_short set.Utf16 = omega arith
name_short set.Utf32 = omega arith

version_spelled : is_spelled set.Utf8mb3 version_text ≡ true
unfolding is_spelled chars chars_behind spell spell_all
version_spelled = refl

empty_formed : IsWellFormed set.Utf8mb3 []
unfolding spell_all
empty_formed = ([], refl)

-- A text of the system's set that is no longer than a string may be.
abbrev IsShort : List ℕ → Type 0
IsShort text = IsWellFormed set.Utf8mb3 text × (length text ≤ greatest_string)

-- Names of collations
one_at : (n : ℕ) → 0 + (n - 0) / 1 ≡ n
one_at n = omega arith

from_zero : (n : ℕ) → nat_le 0 n ≡ true
from_zero n = grind (arith, common_steps)

ascii_spelled : (b : ℕ) → is_ascii b ≡ true → spell set.Utf8mb3 b ≡ Some (b ∷ [])
unfolding spell
ascii_spelled b h = rw (from_zero b, h) (ap (λ n. Some (n ∷ [])) (one_at b))

ascii_spells : (text : List ℕ) → list_all is_ascii text ≡ true → Spells set.Utf8mb3 text text
unfolding spell_all
ascii_spells [] h = refl
ascii_spells (b ∷ text) h =
    let parts = and_parts (is_ascii b) (list_all is_ascii text) h in
    rw (ascii_spelled b parts.0, ascii_spells text parts.1) refl

named_short : (name : List ℕ) → IsLawfulName name → IsShort name
named_short name h = ((name, ascii_spells name h.1), omega (arith, h.0))

found_short : (c : Catalog) (n : ℕ) (found : Option CollDecl) → IsLawful c
    → slice_get c.collations n ≡ found
    → IsShort (unwrap_or (option_map (λ collation. collation.name) found) [])
found_short c n None lawful e = (empty_formed, omega arith)
found_short c n (Some d) lawful e =
    subst (λ (x : CollDecl). IsShort x.name) (get_or_from_slice_get c.collations n d d e)
    (named_short (get_or c.collations n d).name
    (lawful.so_far.lawful_names n d (slice_get_within c.collations n d e)))

-- An answer by a choice is as wanted where each choice is.
pub chosen : {A B E : Type 0} (P : B → Type 0) (o : Option A) (f : A → Result B E)
    (other : Result B E) → ((a : A) → o ≡ Some a → IfOk (f a) P) → IfOk other P
    → IfOk (option_map_or f o other) P
chosen P None f other h k = k
chosen P (Some a) f other h k = h a refl

module _ (known : Known) (c : Catalog) (s : Scope) (scope : IsScope c s)
    (aggregates : List Ty) where
  abbrev pub Sound : TypedExpr → Type 0
  Sound x = IsFine c (row_types c s.table) aggregates x

  const_sound : (v : Value) (ty : Ty) → IsTyOf c ty → IsConstantOf ty v
      → Sound (record { node = node.Const v; ty = ty })
  const_sound v ty t h = subst (λ (n : Node). Sound (record { node = n; ty = ty }))
      (node.rolls-Const v)
      (fine_made c (row_types c s.table) aggregates (Node-F.Const v) ty t h tt)

  pub int_sound : (number : ℤ) → Sound (int_const number)
  int_sound number = const_sound (value.Int number) Int tt (tt, tt)

  pub null_sound : Sound null_const
  null_sound = const_sound value.Null Null tt (tt, tt)

  string_sound : (own : Charset) (id : CollId) (text : List ℕ) → IsOfSet c own id.0
      → Sound (string_of own id text)
  string_sound own id text of = const_sound (text_value own text)
      (Str (of_collation own id coercible (repertoire_in own text)))
      (of_collation_sound c own id coercible (repertoire_in own text) (omega arith) of)
      (value_at known own id (repertoire_in own text) text (is_spelled own text) refl)

  usual_sound : (own : Charset) (text : List ℕ) → Sound (usual_string c own text)
  usual_sound own text = string_sound own (record { 0 = usual c own }) text
      (usual_of_set known.named c own scope.lawful)

  pub plain_sound : (text : List ℕ) → Sound (plain_string c s text)
  plain_sound text = string_sound (connection_set c s) s.connection
      (converted_text set.Utf8mb4 (connection_set c s) text) (scope.connection, refl)

  pub national_sound : (text : List ℕ) → Sound (national_string c text)
  national_sound text = usual_sound set.Utf8mb3 (converted_text set.Utf8mb4 set.Utf8mb3 text)

  pub hex_sound : (bytes : List ℕ) → Sound (hex_string bytes)
  hex_sound bytes = string_sound set.Binary (record { 0 = 0 }) bytes
      (bin_of_set c set.Binary scope.lawful)

  introduced_in_good : (own : Charset) (bytes : List ℕ)
      → IfOk (introduced_in c own (Err (bad_string own)) bytes) Sound
  introduced_in_good own bytes = chosen Sound (taken_for own bytes)
      (λ text. Ok (usual_string c own text)) (Err (bad_string own))
      (λ text e. usual_sound own text) tt

  pub introduced_good : (name bytes : List ℕ) → IfOk (introduced c name bytes) Sound
  introduced_good name bytes = chosen Sound (set_named name)
      (λ own. introduced_in c own (Err (bad_string own)) bytes) (Err (no_set name))
      (λ own e. introduced_in_good own bytes) tt

  system_sound : (level : ℕ) (text : List ℕ) → level ≤ ignorable → IsShort text
      → Sound (system_text c level text)
  system_sound level text few h = const_sound (value.Str set.Utf8mb3 text)
      (Str (of_usual c set.Utf8mb3 level Ascii))
      (of_collation_sound c set.Utf8mb3 (record { 0 = usual c set.Utf8mb3 }) level Ascii few
      (usual_of_set known.named c set.Utf8mb3 scope.lawful))
      ((refl, h.0), h.1)

  pub version_sound : Sound (system_text c 3 version_text)
  version_sound = system_sound 3 version_text (omega arith)
      ((known.tells set.Utf8mb3 version_text).0 version_spelled, omega arith)

  pub shown_sound : (which : Callee) (a : Operand) → Sound (shown c which a)
  shown_sound callee.Charset a = system_sound coercible (name_of a.charset) (omega arith) (
    (known.tells set.Utf8mb3 (name_of a.charset)).0 (name_spelled a.charset),
    name_short a.charset,
  )
  shown_sound callee.Collation a = system_sound coercible (collation_name c a.collation.0)
      (omega arith)
      (found_short c a.collation.0 (slice_get c.collations a.collation.0) scope.lawful refl)
  shown_sound which a = int_sound (pos a.level)
