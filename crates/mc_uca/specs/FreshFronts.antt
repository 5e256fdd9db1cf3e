-- Where two texts may be cut that share what they have in front.
use Rattle.std.specs.Prelude.{ℕ, List, drop}
use Rattle.mc_charset.specs.declared.charset.Charset.{Charset}
use Rattle.mc_charset.specs.Chars.{chars}
use Rattle.mc_order.specs.Boundary.{SharesFront}
use Rattle.mc_allkeys.specs.Fronts.{IsFresh}

-- Two texts share so many bytes in front, and no contraction reaches into what stands behind these.
pub record IsFreshFront (set : Charset) (contractions : List (List ℕ)) (a b : List ℕ) (at : ℕ) :
    Type 0 where
  pub shared : SharesFront set a b at
  pub first : IsFresh contractions (chars set (drop at a))
  pub second : IsFresh contractions (chars set (drop at b))
