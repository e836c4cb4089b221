-- `answers::Text::hex` meets its contract. The invariant: with the digits of the bytes that are left, the text is the whole.
use borrow.Author.Rules.{rules}
use mathlib.Core.Path.{sym, ◌∙◌}
use Rattle.answers.proofs.Laws.{hex_turn, hex_done}
use Rattle.answers.proofs.Text.hex.Goals as goal

pub loop-byte-preserved : goal.loop-byte-preserved
loop-byte-preserved c =
    let l = c.loop-byte in
    rw (c.put_hex.ensures, ← hex_turn l.self c.args.bytes.now l.byte-index (search rules)) l.invariant

pub returns : goal.returns
returns c =
    let l = c.loop-byte in
    sym (hex_done l.self c.args.bytes.now l.byte-index (search rules)) ∙ l.invariant
