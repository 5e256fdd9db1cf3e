-- The definitions at worked examples, computed: MySQL 8.0 manual, 12.8.1, LIKE.
use Rattle.std.proofs.Common.{◌≡◌, ℕ, Bool, true, false, List, [], ◌∷◌, Option, Some, None, refl}
use Rattle.mc_charset.specs.declared.charset.Charset.TheVariants.{Utf8mb4}
use Rattle.mc_order.specs.Bin.{bin_meaning, bin_number}
use Rattle.mc_order.specs.declared.pad.Pad.TheVariants.{PadSpace}
use Rattle.mc_like.specs.declared.item.PatternItem.TheVariants.{Literal, One, Any}
use Rattle.mc_like.specs.Items.{items_of, percent_sign}
use Rattle.mc_like.specs.Like.{is_like}

-- the backslash
abbrev backslash : ℕ
backslash = 0x5C

-- whether a text of utf8mb4 matches a pattern under utf8mb4_bin, both as code points
abbrev answer : Option ℕ → List ℕ → List ℕ → Bool
answer escape pattern text =
    is_like (bin_meaning (Utf8mb4, PadSpace)) (items_of escape pattern) text

-- 'a\\' LIKE 'a\\': the escape at the end stands for itself.
last_escape : answer (Some backslash) (0x61 ∷ 0x5C ∷ []) (0x61 ∷ 0x5C ∷ []) ≡ true
unfolding items_of is_like bin_number
last_escape = refl

-- 'a%' LIKE 'a\%' and 'ab' LIKE 'a\%': an escaped `%` is a percent sign alone.
escaped_percent : answer (Some backslash) (0x61 ∷ 0x5C ∷ 0x25 ∷ []) (0x61 ∷ 0x25 ∷ []) ≡ true
unfolding items_of is_like bin_number
escaped_percent = refl

escaped_percent_alone :
    answer (Some backslash) (0x61 ∷ 0x5C ∷ 0x25 ∷ []) (0x61 ∷ 0x62 ∷ []) ≡ false
unfolding items_of is_like bin_number
escaped_percent_alone = refl

-- 'a%' LIKE 'a\%' ESCAPE '': with no escape the backslash is a literal.
no_escape : answer None (0x61 ∷ 0x5C ∷ 0x25 ∷ []) (0x61 ∷ 0x25 ∷ []) ≡ false
unfolding items_of is_like bin_number
no_escape = refl

-- 'ab' LIKE 'a_ ': the space counts, though utf8mb4_bin pads.
space_counts : answer (Some backslash) (0x61 ∷ 0x5F ∷ 0x20 ∷ []) (0x61 ∷ 0x62 ∷ []) ≡ false
unfolding items_of is_like bin_number
space_counts = refl

-- 'abcabd' LIKE '%abd': a later place behind `%` matches.
later_place :
    answer (Some backslash) (0x25 ∷ 0x61 ∷ 0x62 ∷ 0x64 ∷ [])
    (0x61 ∷ 0x62 ∷ 0x63 ∷ 0x61 ∷ 0x62 ∷ 0x64 ∷ []) ≡ true
unfolding items_of is_like bin_number
later_place = refl

-- a\%b: three literals.
escaped_inside :
    items_of (Some backslash) (0x61 ∷ 0x5C ∷ 0x25 ∷ 0x62 ∷ [])
    ≡ Literal 0x61 ∷ Literal 0x25 ∷ Literal 0x62 ∷ []
unfolding items_of
escaped_inside = refl

-- a%% with ESCAPE '%': the first `%` escapes the second.
percent_escapes :
    items_of (Some percent_sign) (0x61 ∷ 0x25 ∷ 0x25 ∷ []) ≡ Literal 0x61 ∷ Literal 0x25 ∷ []
unfolding items_of
percent_escapes = refl

-- _%a: one item each.
each_item : items_of (Some backslash) (0x5F ∷ 0x25 ∷ 0x61 ∷ []) ≡ One ∷ Any ∷ Literal 0x61 ∷ []
unfolding items_of
each_item = refl
