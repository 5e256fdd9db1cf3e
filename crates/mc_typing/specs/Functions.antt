-- The functions by their names, how many arguments each takes, and where these may be texts: MySQL
-- 8.0 manual, 12.8, 12.6.2, 12.15 and 12.19.1.
use Rattle.std.specs.Prelude.{ℕ, Bool, true, false, not, ◌&&◌, List, [], ◌∷◌, Option, Some, codes}
use Rattle.std.specs.Prelude.{nat_eq, nat_le, option_map}
use Rattle.std.specs.List.{find}
use Rattle.std.specs.Option.{option_or}
use Rattle.std.specs.Str.{bytes_eq}
use Rattle.mc_ast.specs.declared.operators.TrimSide.{TrimSide}
use Rattle.mc_ast.specs.declared.operators.TrimSide.TheVariants.{Both, Leading, Trailing}
use Rattle.mc_typing.specs.declared.callee.Callee.{Callee}
use Rattle.mc_typing.specs.declared.callee.Callee.TheVariants.{Of, Charset, Collation, Coercibility}
use Rattle.mc_typing.specs.declared.callee.Callee.TheVariants.{Version, Weights, Aggregate}
use Rattle.mc_typing.specs.declared.typed.AggName.TheVariants.{Count, Min, Max, Sum}
use Rattle.mc_typing.specs.declared.typed.Func.{Func}
use Rattle.mc_typing.specs.declared.typed.Func.TheVariants.{Concat, ConcatWs, CharLength, Length}
use Rattle.mc_typing.specs.declared.typed.Func.TheVariants.{Hex, Substring, Left, Right, TrimBoth}
use Rattle.mc_typing.specs.declared.typed.Func.TheVariants.{TrimLeading, TrimTrailing, Lpad, Rpad}
use Rattle.mc_typing.specs.declared.typed.Func.TheVariants.{Repeat, Reverse, Replace, Strcmp, Mod}

-- The functions that give a text of their texts.
abbrev pub text_functions : List (List ℕ × Callee)
text_functions = (codes "concat", Of Concat) ∷ (codes "concat_ws", Of ConcatWs)
    ∷ (codes "substring", Of Substring) ∷ (codes "substr", Of Substring)
    ∷ (codes "left", Of Left) ∷ (codes "right", Of Right) ∷ (codes "trim", Of TrimBoth)
    ∷ (codes "lpad", Of Lpad) ∷ (codes "rpad", Of Rpad) ∷ (codes "repeat", Of Repeat)
    ∷ (codes "reverse", Of Reverse) ∷ (codes "replace", Of Replace) ∷ []

-- The other functions of values.
abbrev pub other_functions : List (List ℕ × Callee)
other_functions = (codes "char_length", Of CharLength) ∷ (codes "length", Of Length)
    ∷ (codes "hex", Of Hex) ∷ (codes "strcmp", Of Strcmp) ∷ (codes "mod", Of Mod) ∷ []

-- The functions of types, and those that aren't of a row's values alone.
abbrev pub special_functions : List (List ℕ × Callee)
special_functions = (codes "charset", Charset) ∷ (codes "collation", Collation)
    ∷ (codes "coercibility", Coercibility) ∷ (codes "version", Version)
    ∷ (codes "weight_string", Weights) ∷ (codes "count", Aggregate Count)
    ∷ (codes "min", Aggregate Min) ∷ (codes "max", Aggregate Max)
    ∷ (codes "sum", Aggregate Sum) ∷ []

-- The first of the name in a list.
abbrev pub listed : List (List ℕ × Callee) → List ℕ → Option Callee
listed functions name =
    option_map (λ function. function.1) (find (λ function. bytes_eq name function.0) functions)

-- The function of a name.
unfoldable pub callee_of : List ℕ → Option Callee
callee_of name = option_or (listed text_functions name)
    (option_or (listed other_functions name) (listed special_functions name))

-- TRIM by its side.
abbrev pub trim_of : TrimSide → Func
trim_of Both = TrimBoth
trim_of Leading = TrimLeading
trim_of Trailing = TrimTrailing

-- The function takes so many arguments. Of `weight_string` the parser makes a form of its own where
-- it has one.
abbrev pub takes : Callee → ℕ → Bool
takes (Of Concat) n = nat_le 1 n
takes (Of ConcatWs) n = nat_le 2 n
takes (Of Substring) n = nat_le 2 n && nat_le n 3
takes (Of Left) n = nat_eq n 2
takes (Of Right) n = nat_eq n 2
takes (Of Lpad) n = nat_eq n 3
takes (Of Rpad) n = nat_eq n 3
takes (Of Repeat) n = nat_eq n 2
takes (Of Replace) n = nat_eq n 3
takes (Of Strcmp) n = nat_eq n 2
takes (Of Mod) n = nat_eq n 2
takes (Of function) n = nat_eq n 1
takes Version n = nat_eq n 0
takes Weights n = false
takes callee n = nat_eq n 1

-- Where a text may stand among the arguments, counted from 0; elsewhere stand numbers.
abbrev pub takes_text : Func → ℕ → Bool
takes_text Substring n = nat_eq n 0
takes_text Left n = nat_eq n 0
takes_text Right n = nat_eq n 0
takes_text Repeat n = nat_eq n 0
takes_text Lpad n = not (nat_eq n 1)
takes_text Rpad n = not (nat_eq n 1)
takes_text Mod n = false
takes_text function n = true

-- Where a number is taken for a text: HEX has a value of its own for numbers.
abbrev pub turns_to_text : Option Callee → ℕ → Bool
turns_to_text (Some (Of Hex)) n = false
turns_to_text (Some (Of function)) n = takes_text function n
turns_to_text callee n = false
