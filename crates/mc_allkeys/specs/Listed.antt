-- A line of an element table that lists a text and its elements: UTS #10, 9.1.
use Rattle.std.specs.Prelude.{ℕ, ◌==◌, ◌||◌, Bool, nat_le, List, [], ◌∷◌, length, Option}
use Rattle.std.specs.Prelude.{Some, None, option_map, if◌then◌else◌}
use Rattle.std.specs.List.{list_all}
use Rattle.std.specs.Option.{option_and_then}
use Rattle.mc_base.specs.Blanks.{is_blank, without_leading}
use Rattle.mc_base.specs.Fields.{fields_of}
use Rattle.mc_base.specs.Hex.{hex_number_of}
use Rattle.mc_allkeys.specs.Cuts.{parts_at}
use Rattle.mc_allkeys.specs.declared.element.Element.{Element}

-- what each member gives, if each of them gives something
abbrev pub all_of : {A B : Type 0} → (A → Option B) → List A → Option (List B)
all_of f [] = Some []
all_of f (x ∷ xs) = option_and_then (λ y. option_map (λ ys. y ∷ ys) (all_of f xs)) (f x)

-- a number, if it is at most the greatest
abbrev pub up_to : ℕ → ℕ → Option ℕ
up_to greatest number = if nat_le number greatest then Some number else None

-- the code point that a field is: one to six hexadecimal digits, at most 10FFFF
abbrev pub code_of : List ℕ → Option ℕ
code_of field = option_and_then (up_to 0x10FFFF) (hex_number_of field)

-- the number of one to six hexadecimal digits, at most FFFF
abbrev pub small_of : List ℕ → Option ℕ
small_of digits = option_and_then (up_to 0xFFFF) (hex_number_of digits)

-- the weight that a text is: one to four hexadecimal digits
abbrev pub weight_of : List ℕ → Option ℕ
weight_of digits = if nat_le (length digits) 4 then small_of digits else None

-- an element of three weights
abbrev pub element_of_three : List ℕ → List ℕ → List ℕ → Option Element
element_of_three first second third =
    option_and_then
    (λ a. option_and_then
    (λ b. option_map (λ c. record { p = a; s = b; t = c }) (weight_of third)) (weight_of second))
    (weight_of first)

-- an element of what stands between its dots: three weights, and maybe a fourth number, which is
-- dropped
abbrev pub element_of_parts : List (List ℕ) → Option Element
element_of_parts (first ∷ second ∷ third ∷ []) = element_of_three first second third
element_of_parts (first ∷ second ∷ third ∷ fourth ∷ []) =
    option_and_then (λ number. element_of_three first second third) (hex_number_of fourth)
element_of_parts _ = None

-- whether a byte is `.` or `*`
abbrev pub is_mark : ℕ → Bool
is_mark byte = (byte == 46) || (byte == 42)

-- an element of what stands behind its `[`
abbrev pub element_behind : List ℕ → Option Element
element_behind [] = None
element_behind (mark ∷ numbers) =
    if is_mark mark then element_of_parts (parts_at 46 numbers) else None

-- the element that stands before a `]`, if it is one
abbrev pub element_at : List ℕ → Option Element
element_at [] = None
element_at (byte ∷ bytes) = if byte == 91 then element_behind bytes else None

-- the elements of what stands between the `]`: an element before each, and blanks behind the last
abbrev pub elements_of_parts : List (List ℕ) → Option (List Element)
elements_of_parts [] = None
elements_of_parts (last ∷ []) = if list_all is_blank last then Some [] else None
elements_of_parts (part ∷ next ∷ parts) =
    option_and_then
    (λ element. option_map (λ elements. element ∷ elements) (elements_of_parts (next ∷ parts)))
    (element_at (without_leading part))

-- the elements that a text is
abbrev pub elements_of : List ℕ → Option (List Element)
elements_of text = elements_of_parts (parts_at 93 text)

-- the code points that a text is
abbrev pub codes_of : List ℕ → Option (List ℕ)
codes_of text = all_of code_of (fields_of text)
