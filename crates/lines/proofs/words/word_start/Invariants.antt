-- `lines::words::word_start` meets its contract. The loop's invariant: as many words are passed as turns were made.
use Rattle.std.proofs.Common.{◌≡◌, ◌+◌, ◌-◌, ◌≤◌, length, drop}
use Rattle.std.specs.Prelude.{option_map}
use Rattle.lines.specs.Words.{word_place}
use Rattle.lines.proofs.words.word_start.Given as goal

abbrev pub invariant-loop : goal.invariant-loop
invariant-loop l =
    (l.counter ≤ l.k) × (l.start ≤ length l.text) × (word_place l.k l.text ≡ option_map (λ n. l.start + n) (word_place (l.k - l.counter) (drop l.start l.text)))
