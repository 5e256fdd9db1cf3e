-- The names that a catalog's fields are: short words of ASCII.
use Rattle.std.proofs.Common.{◌≡◌, ◌≤◌, ◌&&◌, ℕ, Bool, true, false, not, nat_le}
use Rattle.std.proofs.Common.{List, [], ◌∷◌, length, map, refl, arith}
use Rattle.std.specs.List.{list_all}
use Rattle.std.specs.Char.{is_ascii, to_ascii_lowercase}
use Rattle.std.proofs.lemmas.Bool.Decides.{nat_tests}
use Rattle.std.proofs.lemmas.List.{length-map}
use Rattle.mc_catalog.specs.Lawful.{IsLawfulName}
use Rattle.mc_catalog.specs.Words.{begins_with_digit, is_name, is_name_byte}

-- a choice that is true is true on both sides
both : (a b : Bool) → (a && b) ≡ true → (a ≡ true) × (b ≡ true)
both true b e = (refl, e)
both false b e = absurd (let f : false ≡ true = e in cc)

-- a byte of a name is below 80, and so in lower case
lower_ascii : (byte : ℕ) → is_name_byte byte ≡ true → is_ascii (to_ascii_lowercase byte) ≡ true
lower_ascii byte h = grind (arith, nat_tests)

-- so are all of them
all_ascii : (field : List ℕ) → list_all is_name_byte field ≡ true
    → list_all is_ascii (map to_ascii_lowercase field) ≡ true
all_ascii [] h = refl
all_ascii (byte ∷ field) h =
    let parts = both (is_name_byte byte) (list_all is_name_byte field) h in
    rw (lower_ascii byte parts.0) (all_ascii field parts.1)

short : (field : List ℕ) → nat_le (length field) 64 ≡ true → length (map to_ascii_lowercase field) ≤ 64
short field h = rw (length-map field to_ascii_lowercase) (grind (arith, nat_tests))

-- A name in lower case is lawful.
pub lower_lawful : (field : List ℕ) → is_name field ≡ true → IsLawfulName (map to_ascii_lowercase field)
lower_lawful field h =
    let some = nat_le 1 (length field) in
    let within = nat_le (length field) 64 in
    let bytes = both (some && within && not (begins_with_digit field)) (list_all is_name_byte field) h in
    let sized = both (some && within) (not (begins_with_digit field)) bytes.0 in
    (short field (both some within sized.0).1, all_ascii field bytes.1)
