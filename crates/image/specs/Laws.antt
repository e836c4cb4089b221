-- What is proved of the image (proofs/Laws.antt), for the layers above and for a reader who doubts the definitions.
use Rattle.std.specs.Prelude.{◌↔◌, List, ◌≡◌, ℕ, ◌<◌}
use Rattle.laws.specs.Answers.{given, refused}
use Rattle.laws.specs.Each.{Each}
use Rattle.laws.specs.Bytes.{Bytes}
use Rattle.image.specs.Image.{encode, Counted, Typed}
use Rattle.settings.specs.Check.{sections, checked, Holds, FirstBadAt}
use Rattle.image.specs.Answers.{image_answer, image_config}
use Rattle.settings.specs.declared.Config.{Config}

-- "A configuration written and read back is the same configuration": each good one, whose numbers fit their fields
abbrev pub WrittenIsRead : Type 0
WrittenIsRead = (c : Config) → Counted c → Typed c → checked c ≡ given tt → (image_answer (encode c) ≡ given tt) × (image_config (encode c) ≡ c)

-- "an accepted image read and written is the same bytes"
abbrev pub ReadIsWritten : Type 0
ReadIsWritten = (b : List ℕ) → Bytes b → image_answer b ≡ given tt → encode (image_config b) ≡ b

-- the configuration of an accepted image breaks no rule
abbrev pub ReadIsGood : Type 0
ReadIsGood = (b : List ℕ) → image_answer b ≡ given tt → checked (image_config b) ≡ given tt

-- an image has one configuration
abbrev pub OneConfig : Type 0
OneConfig = (c d : Config) → Counted c → Typed c → Counted d → Typed d → encode c ≡ encode d → c ≡ d

-- the refusals of an image have one digit, and offsets within the image
abbrev pub RefusalWithin : Type 0
RefusalWithin = (b : List ℕ) (n offset : ℕ) → image_answer b ≡ refused n offset → (n < 10) × (offset < 1126)

-- a check finds nothing exactly if each entry of each section keeps its rule
abbrev pub GoodExactly : Type 0
GoodExactly = (c : Config) → (checked c ≡ given tt) ↔ Each Holds (sections c)

-- "4 VALUE: an entry breaks its rule; with the offset of the first such entry", exactly
abbrev pub ValueExactly : Type 0
ValueExactly = (c : Config) (offset : ℕ) → (checked c ≡ refused 4 offset) ↔ FirstBadAt (sections c) offset

-- what is read is valid: each entry of an accepted image keeps its rule
abbrev pub ReadHolds : Type 0
ReadHolds = (b : List ℕ) → image_answer b ≡ given tt → Each Holds (sections (image_config b))
