-- A code point that the set spells is a character of it.
use Rattle.std.proofs.Common.{◌≡◌, ℕ, Bool, true, false, List, Option, Some, None, is_some, refl, sym, ap, ◌∙◌}
use Rattle.std.specs.Bool.{OnTrue}
use Rattle.mc_charset.specs.Chars.{spell}
use Rattle.mc_charset.specs.declared.charset.Charset.{Charset}
use Rattle.mc_order.specs.Meaning.{IsCharOf}
use Rattle.mc_uca_tests.proofs.padded_tests.is_char_of.Goals as goal

some_spelling : (set : Charset) (code : ℕ) (spelling : Option (List ℕ)) →
    spell set code ≡ spelling → is_some spelling ≡ true → IsCharOf set code
some_spelling set code (Some text) e h = (text, e)
some_spelling set code None e h = absurd (let never : ⊥ = cc in never)

on_true : (set : Charset) (code : ℕ) (b : Bool) → b ≡ is_some (spell set code) →
    OnTrue b (IsCharOf set code)
on_true set code true e = some_spelling set code (spell set code) refl (sym e)
on_true set code false e = tt

pub returns : goal.returns
returns g c =
    on_true (g.C.Collation.meaning c.args.uca.now).charset c.args.c c.has_char.result
    (c.has_char.ensures ∙ ap (λ set. is_some (spell set c.args.c)) c.charset.ensures)
