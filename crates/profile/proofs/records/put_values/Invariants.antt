-- `profile::records::put_values` meets its contract. The loop's invariant: the values before k are stored.
use Rattle.laws.proofs.Runs.{Stored}
use Rattle.profile.specs.Records.{value_bytes}
use Rattle.profile.proofs.records.put_values.Given as goal

abbrev pub invariant-loop-k : goal.invariant-loop-k
invariant-loop-k l = Stored value_bytes 8 l.initial.buffer l.at l.value-items l.buffer l.k
