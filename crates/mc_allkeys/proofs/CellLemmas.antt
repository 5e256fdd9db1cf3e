-- Parts of a list that grows, and the elements that cells name in it.
use Rattle.std.proofs.Common.{◌≡◌, ◌≤◌, ◌+◌, List, ◌++◌, length, Option, Some, None, option_map, refl, ap, arith}
use Rattle.std.proofs.lemmas.Grind.{common_steps}
use Rattle.mc_allkeys.specs.Cells.{part_of, IsPartOf}
use Rattle.mc_allkeys.specs.declared.page.Part.{Part}

-- A part of what was there.
pub part-append : {X : Type 0} (xs ys : List X) (part : Part) → part.start + part.len ≤ length xs →
    part_of (xs ++ ys) part ≡ part_of xs part
part-append xs ys part h = grind (arith, common_steps)

-- What there is at a part that there may be.
pub found-append : {X : Type 0} (xs ys : List X) (found : Option Part) →
    IsPartOf (length xs) found →
    option_map (part_of (xs ++ ys)) found ≡ option_map (part_of xs) found
found-append xs ys None h = refl
found-append xs ys (Some part) h = ap (λ part. Some part) (part-append xs ys part (h part refl))

-- What is appended is the part behind what was there.
pub part-new : {X : Type 0} (xs ys : List X) (part : Part) → part.start ≡ length xs →
    part.len ≡ length ys → part_of (xs ++ ys) part ≡ ys
part-new xs ys part e d = grind (arith, common_steps)
