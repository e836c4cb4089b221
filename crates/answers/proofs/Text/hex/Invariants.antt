-- `answers::Text::hex` meets its contract. The invariant: with the digits of the bytes that are left, the text is the whole.
use lib.ListN.{drop}
use mathlib.Core.Path.{◌≡◌}
use Rattle.answers.specs.Texts.{with_bytes}
use Rattle.answers.specs.Numbers.{hex_of}
use Rattle.answers.proofs.Text.hex.Given as goal

abbrev pub invariant-loop-byte : goal.invariant-loop-byte
invariant-loop-byte l = with_bytes l.self (hex_of (drop l.byte-index l.bytes)) ≡ with_bytes l.initial.self (hex_of l.bytes)
