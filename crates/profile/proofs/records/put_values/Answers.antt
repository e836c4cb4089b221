-- `profile::records::put_values` meets its contract. The loop's invariant: the values before k are stored.
use mathlib.Core.Path.{◌≡◌, ap, ◌∙◌}
use Prim.Native.Nat.{◌+◌, ◌-◌, ◌*◌}
use native.Mathlib.Omega.{arith}
use borrow.Author.Rules.{rules}
use lib.IntN.{pos}
use lib.ListN.{length, get_or}
use mir.Syntax.{w64}
use mir.Val.{to_z, of_z}
use mir.Facts.{to_z-of_z}
use Rattle.laws.proofs.Arrays.{elem_sfits}
use Rattle.laws.specs.Bytes.{bytes_of}
use Rattle.laws.proofs.Bytes.{length_bytes_of}
use Rattle.laws.proofs.Runs.{stored_none, stored_more}
use Rattle.profile.specs.Records.{value_bytes}
use Rattle.profile.proofs.Bytes.{le_bytes, copied}
use Rattle.profile.proofs.records.put_values.Goals as goal

pub loop-k-init : goal.loop-k-init
loop-k-init c = stored_none _ _ _ _ (search rules)

pub loop-k-preserved : goal.loop-k-preserved
loop-k-preserved c =
    let l = c.loop-k in
    let value = get_or c.args.values l.k (pos 0) in
    let back : to_z w64 (of_z w64 value) ≡ value = to_z-of_z {w = w64} {z = value} (search elem_sfits) in
    let bytes : c.copy_from_slice.new.self ≡ value_bytes value = c.copy_from_slice.ensures.after ∙ c.to_le_bytes.ensures ∙ le_bytes 8 _ ∙ ap (bytes_of 8) c.bits64.ensures ∙ ap value_bytes back in
    let from = c.args.at + 8 * l.k in
    let size : from + 8 - from ≡ 8 = omega arith in
    let long : length (value_bytes value) ≡ 8 = length_bytes_of 8 (of_z w64 value) in
    stored_more 8 (λ v. length_bytes_of 8 (of_z w64 v)) (pos 0) l.invariant c.loop-k-test.true (rw (bytes, size) (copied l.buffer from 8 (value_bytes value) long (omega arith)))
