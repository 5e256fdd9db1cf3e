use Rattle.std.proofs.Common.{arith}
use Rattle.mc_charset.specs.declared.charset.Charset.TheVariants.{Ascii, Utf8mb3, Utf8mb4}
use Rattle.mc_charset.proofs.WellFormed.{Tells_set, every_text, ascii_tells, utf8mb4_tells, utf8mb3_tells, no_utf8_tells}
use Rattle.mc_charset.proofs.well_formed.is_well_formed.Goals as goal

pub returns-in-Latin1 : goal.returns-in-Latin1
returns-in-Latin1 c =
    every_text c.args.set c.args.text.now c.in-Latin1.is (λ i. omega (arith, c.type_inv.text i))

pub returns-in-Ascii : goal.returns-in-Ascii
returns-in-Ascii c =
    let text = c.args.text.now in
    let answer = c.is_ascii.result in
    Tells_set answer c.args.set Ascii text c.in-Ascii.is (ascii_tells answer text c.is_ascii.ensures.cases)

pub returns-in-Utf8mb4 : goal.returns-in-Utf8mb4
returns-in-Utf8mb4 c =
    let text = c.args.text.now in
    let answer = c.is_utf8.result in
    Tells_set answer c.args.set Utf8mb4 text c.in-Utf8mb4.is (utf8mb4_tells answer text c.is_utf8.ensures)

pub returns-then-is_utf8 : goal.returns-then-is_utf8
returns-then-is_utf8 c =
    let text = c.args.text.now in
    let answer = c.is_below_f0.result in
    let utf8 = c.is_utf8-in-Utf8mb3.ensures.0 c.if-is_utf8.true in
    Tells_set answer c.args.set Utf8mb3 text c.in-Utf8mb3.is (utf8mb3_tells answer text utf8 c.is_below_f0.ensures)

pub returns-else-is_utf8 : goal.returns-else-is_utf8
returns-else-is_utf8 c =
    let text = c.args.text.now in
    let answer = c.is_utf8-in-Utf8mb3.result in
    Tells_set answer c.args.set Utf8mb3 text c.in-Utf8mb3.is (no_utf8_tells answer text c.if-is_utf8.false c.is_utf8-in-Utf8mb3.ensures)
