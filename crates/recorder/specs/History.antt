-- "The recorder's state comes only from the start call and the calls after it." A call, the recorder after it, and the recorder after a history of calls.
use Rattle.std.specs.Prelude.{List, [], ◌∷◌, ℕ, ℤ}
use Rattle.recorder.specs.Calls.{sample_reply, set_reply, reading_reply, reset_reply}
use Rattle.recorder.specs.declared.Recorder.{Recorder}

-- a call on a recorder that has started
pub data Call : Type 0 where
  sample : ℕ → Call
  set : ℕ → Call
  reading : ℕ → ℤ → ℕ → ℕ → Call
  reset : Call

-- the recorder after a call, lent a buffer as long as at the start where it is lent one; a refused one leaves it
abbrev pub after : Recorder → Call → Recorder
after r (sample bits) = (sample_reply r bits).after
after r (set time) = (set_reply r time).after
after r (reading meter value status seq) = (reading_reply r meter value status seq).after
after r reset = reset_reply r

-- the recorder after a history of calls, the newest first
unfoldable pub after_all : Recorder → List Call → Recorder
after_all r [] = r
after_all r (call ∷ earlier) = after (after_all r earlier) call
