-- Line 10 of document 01's table: limit 900, stamp 1000.
use Rattle.std.specs.Prelude.{◌≡◌, true, false, List, [], ◌∷◌, ℕ, pos, get_or, replicate}
use Rattle.image.specs.Image.{blank_program}
use Rattle.settings.specs.declared.Config.{Config}
use Rattle.sampling.specs.declared.Meter.{Meter}
use Rattle.recorder.specs.Lists.{empty_list}
use Rattle.recorder.specs.declared.Recorder.{Recorder}
use Rattle.registers.specs.Fleet.{class_at}
use Rattle.registers.specs.Registers.{register_reply}

-- meter 0 is fitted with limit 900, and nothing else is
abbrev one_meter : Config
one_meter =
    record {
      period = 15;
      inputs = replicate 16 (record { kind = 0; shortest = 0; longest = 0; numerator = 0; denominator = 0 });
      sums = replicate 8 0;
      coefficients = replicate 32 (pos 0);
      slots = replicate 16 (record { level = 255; index = 0 });
      limits = 900 ∷ replicate 31 0;
      program = blank_program;
      registers = replicate 16 (record { sum = 255; rule = 255 });
    }

-- the recorder at a time, with what its meter sent
abbrev pub one_heard : ℕ → Meter → Recorder
one_heard clock meter =
    record {
      config = one_meter;
      setup = record { slots = replicate 8 0; lists = replicate 3 empty_list };
      profile = record { length = 69; next = 0; held = 0 };
      state =
          record {
            clock = clock;
            samples = 0;
            first = 0;
            lines = replicate 16 (record { run = 0; rejected = 0; remainder = 0; units = 0 });
            bills = replicate 16 (record { amount = 0; closed = 0; stamp = 0; reset = false });
            meters = meter ∷ replicate 31 (record { read = false; stamp = 0; value = pos 0; status = 0; seq = 0 });
            closed = record { state = 0; stamp = 0; values = replicate 16 (pos 0) };
          };
    }

-- heard with STATUS 6 at 1000
abbrev heard_at1000 : ℕ → Recorder
heard_at1000 clock = one_heard clock (record { read = true; stamp = 1000; value = pos 0; status = 6; seq = 0 })

-- a case of the table: at a time the meter is of a class; at a time its STATUS reads
pub data AgeCase : Type 0 where
  class_case : ℕ → ℕ → AgeCase
  status_at : ℕ → ℕ → AgeCase

-- what a case claims: of the class, and of the ninth byte of its register
abbrev pub AgeClaim : AgeCase → Type 0
AgeClaim (class_case clock class) =
    let r = heard_at1000 clock in
    class_at r.config.limits r.state.meters r.state.clock 0 ≡ class
AgeClaim (status_at clock status) = get_or (register_reply (heard_at1000 clock) 82 0 (replicate 10 0)).buffer 8 0 ≡ status

-- line 10: 0 is awake, 1 is stale
abbrev pub age_cases : List AgeCase
age_cases = class_case 1900 0 ∷ class_case 1901 1 ∷ status_at 1900 6 ∷ status_at 1901 7 ∷ []
