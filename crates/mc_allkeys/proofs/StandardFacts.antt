-- The definitions at worked lines and texts: the forms of a line, ranges, pieces and weight lists.
use Rattle.std.proofs.Common.{◌≡◌, ℕ, ◌==◌, List, [], ◌∷◌, Option, Some, None, if◌then◌else◌, refl}
use Rattle.std.specs.Prelude.{codes}
use Rattle.mc_allkeys.specs.Levels.{level_list}
use Rattle.mc_allkeys.specs.Pieces.{piece_len, pieces}
use Rattle.mc_allkeys.specs.Said.{said_of}
use Rattle.mc_allkeys.specs.Said.Said.{Bad, Skipped, Surrogate, Ranged, Listed}
use Rattle.mc_allkeys.specs.Table.{implicit_of}
use Rattle.mc_allkeys.specs.declared.element.Element.{Element}
use Rattle.mc_allkeys.specs.declared.range.Range.{Range}

-- an element by its weights
abbrev weights : ℕ → ℕ → ℕ → Element
weights p s t = record { p = p; s = s; t = t }

-- A letter with a mark has two elements.
two_elements : said_of (codes "00E4 ; [.1C47.0020.0002][.0000.002B.0002]")
    ≡ Listed (0xE4 ∷ []) (weights 0x1C47 0x20 2 ∷ weights 0 0x2B 2 ∷ [])
unfolding said_of
two_elements = refl

-- A star is read as a dot, and a fourth number counts for nothing.
star_line : said_of (codes "0009 ; [*0201.0020.0002.0009]")
    ≡ Listed (9 ∷ []) (weights 0x201 0x20 2 ∷ [])
unfolding said_of
star_line = refl

-- Two code points are a contraction.
contraction_line : said_of (codes "0063 0068 ; [.0E60.0020.0002]")
    ≡ Listed (0x63 ∷ 0x68 ∷ []) (weights 0xE60 0x20 2 ∷ [])
unfolding said_of
contraction_line = refl

-- A surrogate makes no entry.
surrogate_line : said_of (codes "D800 ; [.1.2.3]") ≡ Surrogate
unfolding said_of
surrogate_line = refl

-- A line that is cut off.
short_line : said_of (codes "0009 ; [*0201.00") ≡ Bad
unfolding said_of
short_line = refl

-- The version counts for nothing.
version_line : said_of (codes "@version 9.0.0") ≡ Skipped
unfolding said_of
version_line = refl

-- the range of Tangut
abbrev tangut : Range
tangut = record { first = 0x17000; last = 0x18AFF; base = 0xFB00 }

-- A range of implicit weights.
range_line : said_of (codes "@implicitweights 17000..18AFF; FB00") ≡ Ranged tangut
unfolding said_of
range_line = refl

-- A second range of one base is numbered from the first one's start.
later_range : implicit_of
    (tangut ∷ record { first = 0x18B00; last = 0x18CFF; base = 0xFB00 } ∷ []) 0x18B01
    ≡ Some (0xFB00, 0x1B01)
later_range = refl

-- contractions of small letters: aa, ab, abcd
abbrev small : List (List ℕ)
small = (97 ∷ 97 ∷ []) ∷ (97 ∷ 98 ∷ []) ∷ (97 ∷ 98 ∷ 99 ∷ 100 ∷ []) ∷ []

-- The longest one is the piece.
four_letters : pieces small (97 ∷ 98 ∷ 99 ∷ 100 ∷ []) ≡ (97 ∷ 98 ∷ 99 ∷ 100 ∷ []) ∷ []
unfolding piece_len
four_letters = refl

-- Without its last letter, a shorter one is.
three_letters : pieces small (97 ∷ 98 ∷ 99 ∷ []) ≡ (97 ∷ 98 ∷ []) ∷ (99 ∷ []) ∷ []
unfolding piece_len
three_letters = refl

-- A piece before decides which letters are left.
odd_letters : pieces small (97 ∷ 97 ∷ 97 ∷ 98 ∷ []) ≡ (97 ∷ 97 ∷ []) ∷ (97 ∷ 98 ∷ []) ∷ []
unfolding piece_len
odd_letters = refl

-- the elements of ä, and of any other piece
abbrev umlaut : List ℕ → List Element
umlaut (code ∷ []) =
    if code == 0xE4 then weights 0x1C47 0x20 2 ∷ weights 0 0x2B 2 ∷ []
    else weights 0x1DAA 0x20 2 ∷ []
umlaut _ = []

-- A weight of zero is dropped, on each level by itself.
first_level : level_list [] umlaut 1 (0xE4 ∷ 0x6D ∷ []) ≡ 0x1C47 ∷ 0x1DAA ∷ []
unfolding piece_len
first_level = refl

second_level : level_list [] umlaut 2 (0xE4 ∷ 0x6D ∷ []) ≡ 0x20 ∷ 0x2B ∷ 0x20 ∷ []
unfolding piece_len
second_level = refl
