-- Values of a type, and operations that give them.
use Rattle.std.proofs.Common.{◌≡◌, ℕ, List, [], ◌∷◌, Option, Some}
use Rattle.std.proofs.Common.{None, ℤ, pos, sym, ◌∙◌, subst}
use Rattle.std.specs.Ordering.{int_eq}
use Rattle.std.specs.Prelude.{◌+ℤ◌, ◌-ℤ◌, ◌*ℤ◌, IsSomeAnd, int_div, int_rem, neg_ℤ}
use Rattle.std.specs.Option.{option_map_or}
use Rattle.std.proofs.lemmas.Bool.{cond_both}
use Rattle.mc_ast.specs.declared.operators.ArithOp.{ArithOp}
use Rattle.mc_ast.specs.declared.operators.ArithOp.TheVariants.{Add, Sub, Mul, Div, Mod}
use Rattle.mc_charset.specs.declared.charset.Charset.{Charset}
use Rattle.mc_strfun.specs.Joins.{spelled_within}
use Rattle.mc_typing.specs.OfType.{IsOfType, IsTextIn, KeepsSet}
use Rattle.mc_typing.specs.declared.typed.Ty.{Ty}
use Rattle.mc_typing.specs.declared.typed.Ty.TheVariants as ty
use Rattle.mc_values.specs.declared.value.Value.{Value}
use Rattle.mc_values.specs.declared.value.Value.TheVariants as value
use Rattle.mc_eval.specs.Arithmetic.{arithmetic, has_64_bits, negative, on_numbers, ranged}
use Rattle.mc_eval.specs.Arithmetic.{remainder}
use Rattle.mc_eval.specs.Node.{Valued, of_pair, xor}
use Rattle.mc_eval.specs.Outcomes.{IsKept, Outcome, all_given, of_all, of_one, of_two}
use Rattle.mc_eval.specs.Outcomes.Outcome.{fault, gives}
use Rattle.mc_eval.specs.Texts.{spelled, text_or_null}
use Rattle.mc_eval.specs.Truths.{one_of, told, truth}
use Rattle.mc_eval.specs.Typed.{GivesType, HasType}
use Rattle.mc_eval.specs.declared.truth.Truth.{Truth}
use Rattle.mc_eval.specs.declared.truth.Truth.TheVariants.{No, Faulty, Unknown, Yes}

-- Types of values

pub of_type : (type : Ty) (it : Value) → IsOfType type it → HasType type it
of_type type value.Null h = tt
of_type ty.Int (value.Int number) h = tt
of_type ty.Null (value.Int number) h = absurd h
of_type (ty.Str a) (value.Int number) h = absurd h
of_type (ty.Str a) (value.Str set text) h = h.0
of_type ty.Null (value.Str set text) h = absurd h
of_type ty.Int (value.Str set text) h = absurd h

pub is_of_type : (type : Ty) (it : Value) → HasType type it → IsKept it → IsOfType type it
is_of_type type value.Null h kept = tt
is_of_type ty.Int (value.Int number) h kept = tt
is_of_type ty.Null (value.Int number) h kept = absurd h
is_of_type (ty.Str a) (value.Int number) h kept = absurd h
is_of_type (ty.Str a) (value.Str set text) h kept = (h, kept.text)
is_of_type ty.Null (value.Str set text) h kept = absurd h
is_of_type ty.Int (value.Str set text) h kept = absurd h

pub at_type : (type : Ty) (found : Option Value) → IsSomeAnd found (IsOfType type)
    → HasType type (option_map_or (λ it. it) found value.Null)
at_type type None h = tt
at_type type (Some it) h = of_type type it h

pub keeps_type : (a b : Ty) → KeepsSet a b → (it : Value) → HasType a it → HasType b it
keeps_type a b k value.Null h = tt
keeps_type ty.Null ty.Null k (value.Int number) h = absurd h
keeps_type ty.Null ty.Int k (value.Int number) h = absurd h
keeps_type ty.Null (ty.Str b) k (value.Int number) h = absurd h
keeps_type ty.Null b k (value.Str set text) h = absurd h
keeps_type ty.Int b k (value.Int number) h = absurd k
keeps_type ty.Int b k (value.Str set text) h = absurd h
keeps_type (ty.Str a) b k (value.Int number) h = absurd h
keeps_type (ty.Str a) ty.Null k (value.Str set text) h = absurd k
keeps_type (ty.Str a) ty.Int k (value.Str set text) h = absurd k
keeps_type (ty.Str a) (ty.Str b) k (value.Str set text) h = h ∙ sym k

pub keeps_outcome : (a b : Ty) → KeepsSet a b → (o : Outcome) → GivesType a o → GivesType b o
keeps_outcome a b k fault h = tt
keeps_outcome a b k (gives it) h = keeps_type a b k it h

pub text_type : (set : Charset) (type : Ty) → IsTextIn set type → (text : Option (List ℕ))
    → HasType type (text_or_null set text)
text_type set type h None = tt
text_type set ty.Null h (Some text) = absurd h
text_type set ty.Int h (Some text) = absurd h
text_type set (ty.Str a) h (Some text) = sym h

pub spelled_type : (set : Charset) (type : Ty) → IsTextIn set type → (codes : List ℕ)
    → HasType type (spelled set codes)
spelled_type set type h codes = text_type set type h (spelled_within set codes)

-- Numbers and truth values

pub told_int : (t : Truth) → GivesType ty.Int (told t)
told_int No = tt
told_int Faulty = tt
told_int Unknown = tt
told_int Yes = tt

abbrev pub GivesInt : Outcome → Type 0
GivesInt o = GivesType ty.Int o

pub as_int : (type : Ty) (o : Outcome) → type ≡ ty.Int → GivesInt o → GivesType type o
as_int type o e h = subst (λ t. GivesType t o) (sym e) h

pub int_value : (type : Ty) (it : Value) → type ≡ ty.Int → HasType ty.Int it → HasType type it
int_value type it e h = subst (λ t. HasType t it) (sym e) h

pub ranged_int : (z : ℤ) → GivesInt (ranged z)
ranged_int z = cond_both (has_64_bits z) (gives (value.Int z)) fault GivesInt (λ e. tt) (λ e. tt)

pub remainder_int : (x y : ℤ) → HasType ty.Int (remainder x y)
remainder_int x y = cond_both (int_eq y (pos 0)) value.Null (value.Int (int_rem x y))
    (HasType ty.Int) (λ e. tt) (λ e. tt)

pub arithmetic_int : (op : ArithOp) (x y : ℤ) → GivesInt (arithmetic op x y)
arithmetic_int Add x y = ranged_int (x +ℤ y)
arithmetic_int Sub x y = ranged_int (x -ℤ y)
arithmetic_int Mul x y = ranged_int (x *ℤ y)
arithmetic_int Div x y =
    cond_both (int_eq y (pos 0)) (gives value.Null) (ranged (int_div x y)) GivesInt (λ e. tt)
    (λ e. ranged_int (int_div x y))
arithmetic_int Mod x y = remainder_int x y

pub numbers_int : (op : ArithOp) (a b : Value) → GivesInt (on_numbers (arithmetic op) a b)
numbers_int op (value.Int x) (value.Int y) = arithmetic_int op x y
numbers_int op a b = tt

pub negative_int : (it : Value) → GivesInt (negative it)
negative_int (value.Int x) = ranged_int (neg_ℤ x)
negative_int it = tt

-- Operations on operands

pub one_type : (type : Ty) (f : Value → Outcome) (o : Outcome)
    → ((it : Value) → GivesType type (f it)) → GivesType type (of_one f o)
one_type type f fault h = tt
one_type type f (gives it) h = h it

pub two_type : (type : Ty) (f : Value → Value → Outcome) (o p : Outcome)
    → ((a b : Value) → GivesType type (f a b)) → GivesType type (of_two f o p)
two_type type f fault p h = tt
two_type type f (gives it) p h = one_type type (f it) p (h it)

pub pair_type : (type : Ty) (f : Value → Value → Outcome) (xs : List Valued)
    → ((a b : Value) → GivesType type (f a b)) → GivesType type (of_pair f xs)
pair_type type f (x ∷ y ∷ []) h = two_type type f x.outcome y.outcome h
pair_type type f xs h = tt

pub xor_int : (xs : List Valued) → GivesInt (xor xs)
xor_int (x ∷ y ∷ []) = told_int (one_of (truth x.outcome) (truth y.outcome))
xor_int xs = tt

pub given_type : (type : Ty) (f : List Value → Outcome) (given : Option (List Value))
    → ((values : List Value) → GivesType type (f values))
    → GivesType type (option_map_or f given fault)
given_type type f None h = tt
given_type type f (Some values) h = h values

pub all_type : (type : Ty) (f : List Value → Outcome) (os : List Outcome)
    → ((values : List Value) → GivesType type (f values)) → GivesType type (of_all f os)
all_type type f os h = given_type type f (all_given os) h
