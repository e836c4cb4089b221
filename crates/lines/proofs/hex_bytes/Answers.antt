-- `lines::hex_bytes` meets its contract: the bytes that are held stand in front of the zeros.
use Rattle.std.proofs.Common.{◌≡◌, ap, ◌∙◌}
use Rattle.lines.specs.Hex.{hex_bytes, as_bytes}
use Rattle.lines.proofs.Pairs.{by_value}
use Rattle.lines.proofs.hex_bytes.Goals as goal

pub returns-clause-value : goal.returns-clause-value
returns-clause-value c =
    let held : c.bytes_of-held.result.items ≡ hex_bytes c.args.k c.args.text.now
    = rw (c.bytes_of-held.ensures, c.word.ensures, c.without_return-line.ensures.value)
    in
    let put : c.copy_from_slice.new.self ≡ c.bytes_of-held.result.items = c.copy_from_slice.ensures.after ∙ c.as_slice.ensures.value in
    by_value _ _ _ put c.len-count.ensures.value c.len-count.ensures.fits ∙ ap as_bytes held
