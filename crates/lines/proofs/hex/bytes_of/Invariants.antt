-- `lines::hex::bytes_of` meets its contract. The loop's invariant: a byte is stored for each pair before.
use Rattle.std.proofs.Common.{◌≡◌}
use Rattle.laws.specs.Tables.{table}
use Rattle.lines.specs.Hex.{hex_byte}
use Rattle.lines.proofs.hex.bytes_of.Given as goal

abbrev pub invariant-loop-high : goal.invariant-loop-high
invariant-loop-high l = l.bytes.items ≡ table l.high-index (hex_byte l.w)
