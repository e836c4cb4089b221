-- What a start that is not refused gives: a configuration that each demand over histories is about, and the fresh start of a history.
use Rattle.std.specs.Prelude.{◌≡◌, List, ℕ, ◌<◌, ◌≤◌, get_or}
use Rattle.laws.specs.Bytes.{Bytes}
use Rattle.laws.specs.Answers.{given}
use Rattle.image.specs.Answers.{image_config}
use Rattle.settings.specs.declared.Config.{Config}
use Rattle.counting.specs.Filter.{input_at}
use Rattle.recorder.specs.Calls.{fresh_start, start_reply}
use Rattle.recorder.specs.Laws.{Good}
use Rattle.profile.specs.declared.Profile.{Profile}
use Rattle.recorder.specs.declared.Setup.{Setup}

-- a configuration that the image check accepts: each entry keeps its rule, and the longest runs are bytes, as the image has them
pub record Accepted (c : Config) : Type 0 where
  pub good : Good c
  pub bytes : (i : ℕ) → i < 16 → (input_at c.inputs i).longest < 256

-- the buffer that is lent has a length "of 69 to 65,536 bytes"
abbrev pub LegalLength : ℕ → Type 0
LegalLength n = (69 ≤ n) × (n ≤ 65_536)

-- one that is lent after the start is within these limits and as long as it was then
abbrev pub AsAtStart : Profile → ℕ → Type 0
AsAtStart p n = LegalLength n × (n ≡ p.length)

-- each chosen slot is one of the sixteen
abbrev pub SlotsFit : Setup → Type 0
SlotsFit setup = (k : ℕ) → k < 8 → get_or setup.slots k 0 < 16

-- a start call that is not refused gives such a configuration and the fresh start of a history: so no more is asked below than each start in the field has
abbrev pub StartIsFresh : Type 0
StartIsFresh =
    (setup : Setup) (lent : ℕ) (image : List ℕ) → Bytes image → (time : ℕ) → (start_reply setup lent image time).answer ≡ given tt
    → LegalLength lent × SlotsFit setup × Accepted (image_config image)
    × ((start_reply setup lent image time).recorder ≡ fresh_start setup lent (image_config image) time)
