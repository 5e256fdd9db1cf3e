-- Each pair of digits is one byte more.
use Rattle.std.proofs.Common.{◌≡◌, ◌-◌, ◌++◌, ℕ, List, length, take, drop, sym, subst}
use Rattle.std.specs.Prelude.{option_map}
use Rattle.mc_rows.specs.HexBytes.{hex_bytes}
use Rattle.mc_rows.proofs.Written.{no_pair, pair_more, pairs_end, two_front}
use Rattle.mc_rows.proofs.hex.push_bytes.Goals as goal

pub returns-in_default-pair_byte : goal.returns-in_default-pair_byte
returns-in_default-pair_byte c =
    let rest = c.loop-rest.rest.now in
    no_pair c.args.field.now c.loop-rest.bytes rest _ _ _ (two_front rest c.in-len2-up.len_at_least) c.in_default-pair_byte.ensures c.loop-rest.invariant

pub loop-rest-preserved : goal.loop-rest-preserved
loop-rest-preserved c =
    let rest = c.loop-rest.rest.now in
    subst (λ (b : List ℕ). hex_bytes c.args.field.now ≡ option_map (λ more. b ++ more) (hex_bytes (take (length rest - 2) (drop 2 rest)))) (sym c.in_ok-push.ensures.ok)
    (pair_more c.args.field.now c.loop-rest.bytes rest _ _ _ c.in-Some.byte (two_front rest c.in-len2-up.len_at_least) c.in-Some.ensures c.loop-rest.invariant)

pub returns : goal.returns
returns c = pairs_end c.args.field.now c.loop-rest.bytes c.loop-rest.rest.now c.is_empty.result c.in_default.len_below c.is_empty.ensures c.loop-rest.invariant
