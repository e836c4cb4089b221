-- `lines::hex::bytes_of` meets its contract: each turn stores the byte of a pair.
use Rattle.std.proofs.Common.{◌≡◌, ℕ, ◌+◌, ◌*◌, ◌/◌, ◌<◌, min, true, false, length, refl, sym, ◌∙◌, arith, lit<, length-take}
use Rattle.laws.specs.Tables.{table}
use Rattle.laws.proofs.Tables.{length_table}
use Rattle.lines.specs.Hex.{is_hex, hex_byte, hex_values, bytes_of_hex}
use Rattle.lines.proofs.Pairs.{letter_of, table_more, table_taken}
use Rattle.lines.proofs.hex.bytes_of.Goals as goal

pub loop-high-init : goal.loop-high-init
unfolding table
loop-high-init c = c.new-bytes.ensures

pub push-requires : goal.push-requires
push-requires c =
    let n = length_table c.loop-high.high-index (hex_byte c.args.w.now) in
    let room : length c.loop-high.bytes.items < 128 = rw (c.loop-high.invariant, n) (omega (arith, length-take c.min.result c.as_chunks.result.0.now)) in
    (lit< tt, room)

pub loop-high-preserved : goal.loop-high-preserved
loop-high-preserved c =
    let w = c.args.w.now in
    let k = c.loop-high.high-index in
    let pairs = c.as_chunks.ensures.front in
    let within : k < min (length w / 2) 128 = omega (arith, length-take c.min.result c.as_chunks.result.0.now) in
    let letter = λ (i j : ℕ) (h : i < 2) (e : 2 * k + i ≡ j). letter_of (length w / 2) c.min.result k i j w (omega arith) (omega arith) h e in
    let byte : c.value_of.result * 16 + c.value_of-in-loop-high.result ≡ hex_byte w k
    = rw (c.value_of.ensures.value, c.value_of-in-loop-high.ensures.value, pairs, letter 0 (2 * k) (lit< tt) (omega arith), letter 1 (2 * k + 1) (lit< tt) refl)
    in
    c.push.ensures.items ∙ table_more (hex_byte w) k _ _ c.loop-high.invariant byte

pub returns-after-loop-high : goal.returns-after-loop-high
unfolding bytes_of_hex hex_values
returns-after-loop-high c =
    let hex : is_hex c.args.w.now ≡ true = sym c.is_hex.ensures ∙ c.if-is_hex.true in
    let all : c.loop-high.high-index ≡ min (length c.args.w.now / 2) 128 = omega (arith, length-take c.min.result c.as_chunks.result.0.now) in
    rw (hex, table_taken, ← all) c.loop-high.invariant

pub returns-else-is_hex : goal.returns-else-is_hex
unfolding bytes_of_hex
returns-else-is_hex c =
    let none : is_hex c.args.w.now ≡ false = sym c.is_hex.ensures ∙ c.if-is_hex.false in
    rw none c.new-bytes.ensures
