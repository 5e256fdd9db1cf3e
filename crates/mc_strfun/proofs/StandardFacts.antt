-- The definitions at the examples of the MySQL 8.0 manual, 12.8, and others, computed.
use Rattle.std.proofs.Common.{◌≡◌, [], ◌∷◌, Some, None, codes, refl}
use Rattle.std.specs.Prelude.{pos, negsuc}
use Rattle.mc_strfun.specs.Joins.{joined_with}
use Rattle.mc_strfun.specs.Pads.{left_padded, right_padded}
use Rattle.mc_strfun.specs.Replaced.{replaced, replaced_behind}
use Rattle.mc_strfun.specs.Slices.{left_of, right_of, substring_of}
use Rattle.mc_strfun.specs.Trimmed.{behind_copies, trimmed, without_trailing}
use Rattle.mc_strfun.specs.declared.trimming.Side.TheVariants.{Both, Leading, Trailing}

-- SUBSTRING('Quadratically',5), ('Quadratically',5,6), ('Sakila',-3), and the number 0.
behind_four : substring_of (pos 5) None (codes "Quadratically") ≡ codes "ratically"
unfolding substring_of
behind_four = refl

six_of_them : substring_of (pos 5) (Some (pos 6)) (codes "Quadratically") ≡ codes "ratica"
unfolding substring_of
six_of_them = refl

from_the_end : substring_of (negsuc 2) None (codes "Sakila") ≡ codes "ila"
unfolding substring_of
from_the_end = refl

none_has_0 : substring_of (pos 0) None (codes "Sakila") ≡ []
unfolding substring_of
none_has_0 = refl

before_the_first : substring_of (negsuc 6) None (codes "Sakila") ≡ []
unfolding substring_of
before_the_first = refl

-- LEFT('foobarbar', 5) and RIGHT('foobarbar', 4).
first_five : left_of (pos 5) (codes "foobarbar") ≡ codes "fooba"
unfolding left_of
first_five = refl

last_four : right_of (pos 4) (codes "foobarbar") ≡ codes "rbar"
unfolding right_of
last_four = refl

-- CONCAT_WS(',','First name','Second name').
comma : joined_with (codes ",") (codes "First name" ∷ codes "Second name" ∷ []) ≡ codes "First name,Second name"
comma = refl

-- LPAD('hi',4,'??'), LPAD('hi',1,'??'), RPAD('hi',5,'?'), and a last copy that is cut.
two_marks : left_padded (pos 4) (codes "??") (codes "hi") ≡ Some (codes "??hi")
unfolding left_padded
two_marks = refl

cut_to_one : left_padded (pos 1) (codes "??") (codes "hi") ≡ Some (codes "h")
unfolding left_padded
cut_to_one = refl

three_marks : right_padded (pos 5) (codes "?") (codes "hi") ≡ Some (codes "hi???")
unfolding right_padded
three_marks = refl

last_copy_cut : right_padded (pos 5) (codes "ab") (codes "hi") ≡ Some (codes "hiaba")
unfolding right_padded
last_copy_cut = refl

nothing_to_pad_with : left_padded (pos 4) [] (codes "hi") ≡ None
unfolding left_padded
nothing_to_pad_with = refl

-- REPLACE('www.mysql.com', 'w', 'Ww'), and copies that overlap.
each_w : replaced (codes "w") (codes "Ww") (codes "www.mysql.com") ≡ codes "WwWwWw.mysql.com"
unfolding replaced_behind
each_w = refl

without_overlap : replaced (codes "aa") (codes "b") (codes "aaa") ≡ codes "ba"
unfolding replaced_behind
without_overlap = refl

-- TRIM('  bar   '), TRIM(LEADING 'x' FROM 'xxxbarxxx'), TRIM(BOTH 'x' FROM 'xxxbarxxx'),
-- TRIM(TRAILING 'xyz' FROM 'barxxyz').
both_spaces : trimmed Both (codes " ") (codes "  bar   ") ≡ codes "bar"
unfolding behind_copies without_trailing
both_spaces = refl

leading_x : trimmed Leading (codes "x") (codes "xxxbarxxx") ≡ codes "barxxx"
unfolding behind_copies
leading_x = refl

both_x : trimmed Both (codes "x") (codes "xxxbarxxx") ≡ codes "bar"
unfolding behind_copies without_trailing
both_x = refl

trailing_xyz : trimmed Trailing (codes "xyz") (codes "barxxyz") ≡ codes "barx"
unfolding behind_copies without_trailing
trailing_xyz = refl

-- Whole copies alone, the leading ones first, and nothing that is removed.
two_each : trimmed Both (codes "ab") (codes "abababcbabab") ≡ codes "cb"
unfolding behind_copies without_trailing
two_each = refl

leading_first : trimmed Both (codes "aba") (codes "ababa") ≡ codes "ba"
unfolding behind_copies without_trailing
leading_first = refl

nothing_removed : trimmed Both [] (codes " bar ") ≡ codes " bar "
unfolding without_trailing
nothing_removed = refl
