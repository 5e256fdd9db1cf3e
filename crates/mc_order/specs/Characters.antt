-- Characters of a set, one by one and as lists.
use Rattle.std.proofs.Common.{◌≡◌, ℕ, List, [], ◌∷◌, ◌++◌, Option, Some, None}
use Rattle.std.proofs.Common.{refl}
use Rattle.std.specs.Prelude.{option_and_then}
use Rattle.mc_charset.specs.declared.charset.Charset.{Charset}
use Rattle.mc_charset.specs.Chars.{spell, spell_all}
use Rattle.mc_order.specs.Meaning.{IsCharOf, AreCharsOf}

both_there : (front rest : Option (List ℕ)) (text : List ℕ) →
    option_and_then (λ f. option_and_then (λ r. Some (f ++ r)) rest) front ≡ Some text →
    ((t : List ℕ) × (front ≡ Some t)) × ((t : List ℕ) × (rest ≡ Some t))
both_there None rest text h = cc
both_there (Some f) None text h = cc
both_there (Some f) (Some r) text h = ((f, refl), (r, refl))

-- Of a list of characters of the set the first is one, and the rest are.
pub AreCharsOf-parts : (set : Charset) (code : ℕ) (codes : List ℕ) →
    AreCharsOf set (code ∷ codes) → IsCharOf set code × AreCharsOf set codes
unfolding spell_all
AreCharsOf-parts set code codes h = both_there (spell set code) (spell_all set codes) h.0 h.1

both_join : (front rest : Option (List ℕ)) (f r : List ℕ) → front ≡ Some f
    → rest ≡ Some r →
    option_and_then (λ x. option_and_then (λ y. Some (x ++ y)) rest) front ≡ Some (f ++ r)
both_join front rest f r e d = rw (e, d) refl

pub AreCharsOf-cons : (set : Charset) (code : ℕ) (codes : List ℕ) → IsCharOf set code →
    AreCharsOf set codes → AreCharsOf set (code ∷ codes)
unfolding spell_all
AreCharsOf-cons set code codes c h =
    (c.0 ++ h.0, both_join (spell set code) (spell_all set codes) c.0 h.0 c.1 h.1)

pub AreCharsOf-none : (set : Charset) → AreCharsOf set []
unfolding spell_all
AreCharsOf-none set = ([], refl)

pub AreCharsOf-one : (set : Charset) (code : ℕ) → IsCharOf set code
    → AreCharsOf set (code ∷ [])
AreCharsOf-one set code c = AreCharsOf-cons set code [] c (AreCharsOf-none set)

-- Characters of the set, joined and split.
pub AreCharsOf-join : (set : Charset) (codes more : List ℕ) → AreCharsOf set codes →
    AreCharsOf set more → AreCharsOf set (codes ++ more)
AreCharsOf-join set [] more h k = k
AreCharsOf-join set (c ∷ cs) more h k =
    let parts = AreCharsOf-parts set c cs h in
    AreCharsOf-cons set c (cs ++ more) parts.0 (AreCharsOf-join set cs more parts.1 k)

pub AreCharsOf-split : (set : Charset) (codes more : List ℕ)
    → AreCharsOf set (codes ++ more) →
    AreCharsOf set codes × AreCharsOf set more
AreCharsOf-split set [] more h = (AreCharsOf-none set, h)
AreCharsOf-split set (c ∷ cs) more h =
    let parts = AreCharsOf-parts set c (cs ++ more) h in
    let rest = AreCharsOf-split set cs more parts.1 in
    (AreCharsOf-cons set c cs parts.0 rest.0, rest.1)
