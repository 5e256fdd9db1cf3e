-- The definitions at worked expressions, without declared collations: the connection is utf8mb4_bin.
use Rattle.std.proofs.Common.{◌≡◌, ℕ, ◌+◌, pos, [], ◌∷◌, List, None, Some, codes, map, ap, ◌∙◌}
use Rattle.std.specs.Prelude.{Err, Ok}
use Prim.Native.String.{String}
use Rattle.mc_base.specs.Results.{result_and_then}
use Rattle.mc_charset.specs.Chars.{chars, chars_behind, is_spelled, spell, spell_all}
use Rattle.mc_charset.specs.Names.{same_set, set_named}
use Rattle.mc_charset.specs.declared.charset.Charset.TheVariants.{Latin1, Utf16, Utf8mb4}
use Rattle.mc_convert.specs.Conversion.{converted_text, taken_for}
use Rattle.mc_coerce.specs.Aggregate.{aggregate}
use Rattle.mc_ast.specs.Written.{at}
use Rattle.mc_ast.specs.declared.expr.Expr.{Expr}
use Rattle.mc_ast.specs.declared.expr.Form.{Form, Form-F, out-Form}
use Rattle.mc_ast.specs.declared.expr.Form.TheVariants as form
use Rattle.mc_ast.specs.declared.operators.CmpOp.TheVariants.{Eq}
use Rattle.mc_catalog.specs.BuiltIn.{plain}
use Rattle.mc_typing.specs.declared.place.Place.{Place}
use Rattle.mc_typing.specs.declared.place.Place.TheVariants.{Row}
use Rattle.mc_typing.specs.declared.scope.Scope.{Scope}
use Rattle.mc_typing.specs.declared.typed.Node.TheVariants as node
use Rattle.mc_typing.specs.Aggregates.{aggregate_count, total}
use Rattle.mc_typing.specs.Calls.{system_text, version_text}
use Rattle.mc_typing.specs.Exprs.{Typing, in_row, operands, taker_of, typed_node, typings}
use Rattle.mc_typing.specs.Forms.{parts}
use Rattle.mc_typing.specs.Functions.{callee_of}
use Rattle.mc_typing.specs.Literals.{int_const, null_const, plain_string, usual_string}
use Rattle.mc_typing.specs.Operands.{repertoire_in, usual}
use Rattle.mc_typing.specs.Operators.{number_expr}
use Rattle.mc_typing.specs.Places.{place_below}
use Rattle.mc_typing.specs.Walk.{form_typing}
use Rattle.mc_typing.proofs.RowNumbers.{row_below, row_typings}
use Rattle.mc_typing.proofs.Trees.{typing_is}

-- No table, and the plain catalog's connection.
abbrev scope : Scope
scope = record { table = None; connection = record { 0 = 4 } }

abbrev tree : Form → Expr
tree f = at 0 0 f

abbrev called : String → List Expr → Expr
called name args = tree (form.Call (codes name) args)

abbrev letter_a : Expr
letter_a = tree (form.Str (codes "a"))

abbrev a_of : String → Expr
a_of set = tree (form.IntroStr (codes set) (codes "a"))

abbrev bytes_of : String → List ℕ → Expr
bytes_of set bytes = tree (form.IntroHex (codes set) bytes)

-- What comes of a form, over what comes of its operands.
abbrev node_of : Form-F Form Expr → List Typing → Typing
node_of x ts = result_and_then
    (typed_node plain scope Row (0 + total aggregate_count (parts x)) x)
    (operands plain scope (taker_of x) ts)

in_place : (place : Place) (es : List Expr) → place ≡ Row
    → typings plain scope [] place 0 es ≡ map (in_row plain scope) es
in_place place es e = ap (λ (p : Place). typings plain scope [] p 0 es) e
    ∙ row_typings plain scope 0 es

layer : (f : Form) (x : Form-F Form Expr) → out-Form f ≡ x
    → in_row plain scope (tree f) ≡ node_of x (map (in_row plain scope) (parts x))
layer f x is = typing_is plain scope [] (tree f) Row 0
    ∙ (ap (form_typing plain scope [] Row 0) is
    ∙ ap (node_of x) (in_place (place_below Row x) (parts x) (row_below x)))

-- Literals
int_is : (n : ℕ) → in_row plain scope (tree (form.Int (pos n))) ≡ Ok (int_const (pos n))
int_is n = layer (form.Int (pos n)) (Form-F.Int (pos n)) (form.outs-Int (pos n))

null_is : in_row plain scope (tree form.Null) ≡ Ok null_const
null_is = layer form.Null Form-F.Null form.outs-Null

letter_is : in_row plain scope letter_a ≡ Ok (plain_string plain scope (codes "a"))
letter_is = layer (form.Str (codes "a")) (Form-F.Str (codes "a")) (form.outs-Str (codes "a"))

version_is : in_row plain scope (called "version" []) ≡ Ok (system_text plain 3 version_text)
unfolding same_set set_named taken_for converted_text chars chars_behind spell spell_all
    is_spelled repertoire_in usual aggregate callee_of
version_is = layer (form.Call (codes "version") []) (Form-F.Call (codes "version") []) (form.outs-Call (codes "version") [])

-- A call of one argument, and of two
called_one : (name : String) (e : Expr) → in_row plain scope (called name (e ∷ []))
    ≡ node_of (Form-F.Call (codes name) (e ∷ [])) (in_row plain scope e ∷ [])
called_one name e = layer (form.Call (codes name) (e ∷ [])) (Form-F.Call (codes name) (e ∷ [])) (form.outs-Call (codes name) (e ∷ []))

called_two : (name : String) (e f : Expr) → in_row plain scope (called name (e ∷ f ∷ []))
    ≡ node_of (Form-F.Call (codes name) (e ∷ f ∷ []))
    (in_row plain scope e ∷ in_row plain scope f ∷ [])
called_two name e f = layer (form.Call (codes name) (e ∷ f ∷ [])) (Form-F.Call (codes name) (e ∷ f ∷ [])) (form.outs-Call (codes name) (e ∷ f ∷ []))

called_on : (name : String) (e : Expr) (t : Typing) → in_row plain scope e ≡ t
    → in_row plain scope (called name (e ∷ [])) ≡ node_of (Form-F.Call (codes name) (e ∷ [])) (t ∷ [])
called_on name e t is =
    called_one name e ∙ ap (λ u. node_of (Form-F.Call (codes name) (e ∷ [])) (u ∷ [])) is

compared_on : (e f : Expr) (t u : Typing) → in_row plain scope e ≡ t → in_row plain scope f ≡ u
    → in_row plain scope (tree (form.Compare Eq e f)) ≡ node_of (Form-F.Compare Eq e f) (t ∷ u ∷ [])
compared_on e f t u is also = layer (form.Compare Eq e f) (Form-F.Compare Eq e f) (form.outs-Compare Eq e f)
    ∙ ap (λ v. node_of (Form-F.Compare Eq e f) (v ∷ in_row plain scope f ∷ [])) is
    ∙ ap (λ v. node_of (Form-F.Compare Eq e f) (t ∷ v ∷ [])) also

-- COERCIBILITY of VERSION(), 'a', 1000 and NULL
of_version : in_row plain scope (called "coercibility" (called "version" [] ∷ [])) ≡ Ok (int_const (pos 3))
unfolding same_set set_named taken_for converted_text chars chars_behind spell spell_all
    is_spelled repertoire_in usual aggregate callee_of
of_version = called_on "coercibility" (called "version" []) (Ok (system_text plain 3 version_text)) version_is

of_literal : in_row plain scope (called "coercibility" (letter_a ∷ [])) ≡ Ok (int_const (pos 4))
unfolding same_set set_named taken_for converted_text chars chars_behind spell spell_all
    is_spelled repertoire_in usual aggregate callee_of
of_literal = called_on "coercibility" letter_a (Ok (plain_string plain scope (codes "a"))) letter_is

of_number : in_row plain scope (called "coercibility" (tree (form.Int (pos 1000)) ∷ [])) ≡ Ok (int_const (pos 5))
unfolding same_set set_named taken_for converted_text chars chars_behind spell spell_all
    is_spelled repertoire_in usual aggregate callee_of
of_number = called_on "coercibility" (tree (form.Int (pos 1000))) (Ok (int_const (pos 1000))) (int_is 1000)

of_null : in_row plain scope (called "coercibility" (tree form.Null ∷ [])) ≡ Ok (int_const (pos 6))
unfolding same_set set_named taken_for converted_text chars chars_behind spell spell_all
    is_spelled repertoire_in usual aggregate callee_of
of_null = called_on "coercibility" (tree form.Null) (Ok null_const) null_is

-- CHARSET(NULL)
set_of_null : in_row plain scope (called "charset" (tree form.Null ∷ []))
    ≡ Ok (system_text plain 4 (codes "binary"))
unfolding same_set set_named taken_for converted_text chars chars_behind spell spell_all
    is_spelled repertoire_in usual aggregate callee_of
set_of_null = called_on "charset" (tree form.Null) (Ok null_const) null_is

-- 'a' COLLATE utf8mb4_bin, and its COERCIBILITY
collate_on : (e : Expr) (name : String) (t : Typing) → in_row plain scope e ≡ t
    → in_row plain scope (tree (form.Collate e (codes name))) ≡ node_of (Form-F.Collate e (codes name)) (t ∷ [])
collate_on e name t is = layer (form.Collate e (codes name)) (Form-F.Collate e (codes name)) (form.outs-Collate e (codes name))
    ∙ ap (λ v. node_of (Form-F.Collate e (codes name)) (v ∷ [])) is

of_collate : in_row plain scope (called "coercibility" (tree (form.Collate letter_a (codes "utf8mb4_bin")) ∷ []))
    ≡ Ok (int_const (pos 0))
unfolding same_set set_named taken_for converted_text chars chars_behind spell spell_all
    is_spelled repertoire_in usual aggregate callee_of
of_collate = called_on "coercibility" (tree (form.Collate letter_a (codes "utf8mb4_bin")))
    (node_of (Form-F.Collate letter_a (codes "utf8mb4_bin"))
    (Ok (plain_string plain scope (codes "a")) ∷ []))
    (collate_on letter_a "utf8mb4_bin" (Ok (plain_string plain scope (codes "a"))) letter_is)

-- COERCIBILITY(CONCAT(1, 2))
abbrev one : Expr
one = tree (form.Int (pos 1))

abbrev two : Expr
two = tree (form.Int (pos 2))

abbrev concat_of : List Typing → Typing
concat_of ts = node_of (Form-F.Call (codes "concat") (one ∷ two ∷ [])) ts

concat_is : in_row plain scope (called "concat" (one ∷ two ∷ []))
    ≡ concat_of (Ok (int_const (pos 1)) ∷ Ok (int_const (pos 2)) ∷ [])
concat_is = called_two "concat" one two
    ∙ ap (λ t. concat_of (t ∷ in_row plain scope two ∷ [])) (int_is 1)
    ∙ ap (λ t. concat_of (Ok (int_const (pos 1)) ∷ t ∷ [])) (int_is 2)

of_numbers : in_row plain scope (called "coercibility" (called "concat" (one ∷ two ∷ []) ∷ []))
    ≡ Ok (int_const (pos 4))
unfolding same_set set_named taken_for converted_text chars chars_behind spell spell_all
    is_spelled repertoire_in usual aggregate callee_of
of_numbers = called_on "coercibility" (called "concat" (one ∷ two ∷ []))
    (concat_of (Ok (int_const (pos 1)) ∷ Ok (int_const (pos 2)) ∷ [])) concat_is

-- _latin1'a' = _utf16 X'0061'
latin1_a : in_row plain scope (a_of "latin1") ≡ Ok (usual_string plain Latin1 (codes "a"))
unfolding same_set set_named taken_for converted_text chars chars_behind spell spell_all
    is_spelled repertoire_in usual aggregate callee_of
latin1_a = layer (form.IntroStr (codes "latin1") (codes "a")) (Form-F.IntroStr (codes "latin1") (codes "a")) (form.outs-IntroStr (codes "latin1") (codes "a"))

utf16_a : in_row plain scope (bytes_of "utf16" (0 ∷ 0x61 ∷ [])) ≡ Ok (usual_string plain Utf16 (0 ∷ 0x61 ∷ []))
unfolding same_set set_named taken_for converted_text chars chars_behind spell spell_all
    is_spelled repertoire_in usual aggregate callee_of
utf16_a = layer (form.IntroHex (codes "utf16") (0 ∷ 0x61 ∷ [])) (Form-F.IntroHex (codes "utf16") (0 ∷ 0x61 ∷ [])) (form.outs-IntroHex (codes "utf16") (0 ∷ 0x61 ∷ []))

latin1_is_converted : in_row plain scope (tree (form.Compare Eq (a_of "latin1") (bytes_of "utf16" (0 ∷ 0x61 ∷ []))))
    ≡ Ok (number_expr (node.Compare Eq (Some (record { 0 = 6 }))
    (usual_string plain Latin1 (codes "a") ∷ usual_string plain Utf16 (0 ∷ 0x61 ∷ []) ∷ [])))
unfolding same_set set_named taken_for converted_text chars chars_behind spell spell_all
    is_spelled repertoire_in usual aggregate callee_of
latin1_is_converted = compared_on (a_of "latin1") (bytes_of "utf16" (0 ∷ 0x61 ∷ []))
    (Ok (usual_string plain Latin1 (codes "a"))) (Ok (usual_string plain Utf16 (0 ∷ 0x61 ∷ []))) latin1_a utf16_a

-- _utf8mb4 X'D18F' = _utf16 X'044F'
utf8_ya : in_row plain scope (bytes_of "utf8mb4" (0xD1 ∷ 0x8F ∷ []))
    ≡ Ok (usual_string plain Utf8mb4 (0xD1 ∷ 0x8F ∷ []))
unfolding same_set set_named taken_for converted_text chars chars_behind spell spell_all
    is_spelled repertoire_in usual aggregate callee_of
utf8_ya = layer (form.IntroHex (codes "utf8mb4") (0xD1 ∷ 0x8F ∷ [])) (Form-F.IntroHex (codes "utf8mb4") (0xD1 ∷ 0x8F ∷ [])) (form.outs-IntroHex (codes "utf8mb4") (0xD1 ∷ 0x8F ∷ []))

utf16_ya : in_row plain scope (bytes_of "utf16" (0x04 ∷ 0x4F ∷ []))
    ≡ Ok (usual_string plain Utf16 (0x04 ∷ 0x4F ∷ []))
unfolding same_set set_named taken_for converted_text chars chars_behind spell spell_all
    is_spelled repertoire_in usual aggregate callee_of
utf16_ya = layer (form.IntroHex (codes "utf16") (0x04 ∷ 0x4F ∷ [])) (Form-F.IntroHex (codes "utf16") (0x04 ∷ 0x4F ∷ [])) (form.outs-IntroHex (codes "utf16") (0x04 ∷ 0x4F ∷ []))

two_letters_mix : in_row plain scope (tree (form.Compare Eq (bytes_of "utf8mb4" (0xD1 ∷ 0x8F ∷ []))
    (bytes_of "utf16" (0x04 ∷ 0x4F ∷ []))))
    ≡ Err (record {
      number = 1267;
      text = codes
          "Illegal mix of collations (utf8mb4_bin,COERCIBLE) and (utf16_bin,COERCIBLE) for operation '='";
    })
unfolding same_set set_named taken_for converted_text chars chars_behind spell spell_all
    is_spelled repertoire_in usual aggregate callee_of
two_letters_mix = compared_on (bytes_of "utf8mb4" (0xD1 ∷ 0x8F ∷ [])) (bytes_of "utf16" (0x04 ∷ 0x4F ∷ []))
    (Ok (usual_string plain Utf8mb4 (0xD1 ∷ 0x8F ∷ []))) (Ok (usual_string plain Utf16 (0x04 ∷ 0x4F ∷ [])))
    utf8_ya utf16_ya

-- 'a' = 1
text_against_number : in_row plain scope (tree (form.Compare Eq letter_a (tree (form.Int (pos 1)))))
    ≡ Err (record { number = 9002; text = codes "wrong argument for '='" })
unfolding same_set set_named taken_for converted_text chars chars_behind spell spell_all
    is_spelled repertoire_in usual aggregate callee_of
text_against_number = compared_on letter_a (tree (form.Int (pos 1)))
    (Ok (plain_string plain scope (codes "a"))) (Ok (int_const (pos 1))) letter_is (int_is 1)
