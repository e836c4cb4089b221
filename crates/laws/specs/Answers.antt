-- An answer in the words of document 01: what was asked for, or a refusal with its number and the offset that goes with it.
use Rattle.std.specs.Prelude.{ℕ}

pub data Answer (A : Type 0) : Type 0 where
  given : A → Answer A
  refused : ℕ → ℕ → Answer A

-- document 01's number of an answer: that of the refusal, 0 where there is none
abbrev pub number_in : {A : Type 0} → Answer A → ℕ
number_in (given x) = 0
number_in (refused n offset) = n

-- a reply to a call: document 01's number, 0 where the call was taken, and what is there after it
pub record Reply (S : Type 0) : Type 0 where
  pub number : ℕ
  pub after : S

-- a reply to a run of samples: how many were taken, too
pub record RunReply (S : Type 0) : Type 0 where
  pub taken : ℕ
  pub number : ℕ
  pub after : S

-- a refused call leaves what was there
abbrev pub reply_to : {S : Type 0} → S → Answer S → Reply S
reply_to s (given next) = record { number = 0; after = next }
reply_to s (refused n offset) = record { number = n; after = s }
