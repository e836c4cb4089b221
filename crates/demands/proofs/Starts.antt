-- The length of a lent buffer. A start call that is answered without a refusal: its configuration is accepted, and its recorder is the fresh start of a history. A refused one gives the blank recorder.
use mathlib.Core.Path.{◌≡◌, refl}
use mathlib.Core.Bool.{true}
use mathlib.Core.List.{List, [], ◌∷◌, ◌++◌}
use Prim.Native.Nat.{ℕ, zero, suc, ◌*◌, ◌<◌}
use native.Mathlib.Omega.{arith}
use borrow.Author.Tests.{le-leb, eq-eqb, ltb-false, not-true}
use lib.Dec.{leb, eqb}
use lib.ListN.{get_or, drop}
use Rattle.laws.proofs.Tests.{by_test, and_left, and_both}
use Rattle.laws.proofs.Any.{any_not}
use Rattle.laws.specs.Answers.{Answer, given, refused}
use Rattle.laws.specs.Bytes.{Bytes, le}
use Rattle.laws.proofs.Bytes.{bytes_drop}
use Rattle.laws.specs.Runs.{entries}
use Rattle.calendar.specs.Moments.{moment_of}
use Rattle.calendar.specs.declared.Moment.{Moment}
use Rattle.settings.specs.Rules.{zero_input}
use Rattle.image.specs.Entries.{input_of}
use Rattle.image.specs.Image.{decode}
use Rattle.image.specs.Answers.{image_answer, image_config}
use Rattle.settings.specs.declared.Input.{Input}
use Rattle.image.proofs.Found.{read_holds}
use Rattle.profile.specs.Records.{slots_fit}
use Rattle.profile.specs.Room.{legal_length, as_at_start}
use Rattle.profile.specs.declared.Profile.{Profile}
use Rattle.profile.proofs.Places.{legal_is, start_is}
use Rattle.recorder.specs.Calls.{fresh_start, blank_recorder, start_dated, start_from, start_reply}
use Rattle.recorder.specs.declared.Setup.{Setup}
use Rattle.demands.specs.Starts.{Accepted, LegalLength, AsAtStart, SlotsFit, StartIsFresh}
use Rattle.demands.specs.Profile.{BlankRefuses}

-- the tests of a length are what they say
pub legal_test : (n : ℕ) → LegalLength n → legal_length n ≡ true
legal_test n h = and_both (leb 69 n) (leb n 65_536) (le-leb 69 n h.0) (le-leb n 65_536 h.1)

pub start_test : (p : Profile) (n : ℕ) → AsAtStart p n → as_at_start p n ≡ true
start_test p n h = and_both (legal_length n) _ (legal_test n h.0) (eq-eqb n p.length h.1)

pub as_at_start_lem : (p : Profile) (n : ℕ) → as_at_start p n ≡ true → AsAtStart p n
as_at_start_lem p n t = (legal_is n (and_left (legal_length n) (eqb n p.length) t), start_is p n t)

-- the longest run is a byte
abbrev ByteRun : Input → Type 0
ByteRun x = x.longest < 256

one_more_lem : (xs : List Input) (x : Input) → ((i : ℕ) → ByteRun (get_or xs i zero_input)) → ByteRun x → (i : ℕ) → ByteRun (get_or (xs ++ (x ∷ [])) i zero_input)
one_more_lem [] x h k zero = k
one_more_lem [] x h k (suc i) = omega arith
one_more_lem (y ∷ xs) x h k zero = h 0
one_more_lem (y ∷ xs) x h k (suc i) = one_more_lem xs x (λ i. h (suc i)) k i

read_run : (b : List ℕ) → Bytes b → ByteRun (input_of 1 b)
unfolding input_of le
read_run b bytes = let low = bytes_drop 2 b bytes 0 in omega arith

read_runs : (b : List ℕ) → Bytes b → (n i : ℕ) → ByteRun (get_or (entries (input_of 1) 7 n b) i zero_input)
unfolding entries
read_runs b bytes zero i = omega arith
read_runs b bytes (suc n) i =
    one_more_lem (entries (input_of 1) 7 n b) (input_of 1 (drop (7 * n) b)) (read_runs b bytes n) (read_run (drop (7 * n) b) (bytes_drop (7 * n) b bytes)) i

image_accepted : (b : List ℕ) → Bytes b → image_answer b ≡ given tt → Accepted (image_config b)
unfolding image_config decode
image_accepted b bytes e =
    record { good = read_holds b e; bytes = λ i l. rw e (read_runs (drop 6 b) (bytes_drop 6 b bytes) 16 i) }

-- slots of which none is above 15
slots_fit_lem : (setup : Setup) → slots_fit setup.slots ≡ true → SlotsFit setup
slots_fit_lem setup e k l = let below = ltb-false 15 (get_or setup.slots k 0) (any_not 8 _ (not-true _ e) k l) in omega arith

pub start_is_fresh : StartIsFresh
unfolding start_reply
start_is_fresh setup lent b bytes time e =
    by_test (legal_length lent)
    (λ legal.
    by_test (slots_fit setup.slots)
    (λ fit.
    let whole = go (image_answer b) refl (rw (legal, fit) at e) in
    (legal_is lent legal, slots_fit_lem setup fit, whole.0, rw (legal, fit) whole.1))
    (λ f. no_start_lem 8 (rw (legal, f) at e)))
    (λ f. no_start_lem 14 (rw f at e))
  where
    no_start_lem : {P : Type 0} (n : ℕ) → ◌≡◌ {A = Answer (Unit {0})} (refused n 0) (given tt) → P
    no_start_lem n e = let z : ◌≡◌ {A = ℕ} 0 1 = cc in absurd (omega arith)

    dated : (m : Answer Moment) → (start_dated m setup lent (image_config b) time).answer ≡ given tt
        → (start_dated m setup lent (image_config b) time).recorder ≡ fresh_start setup lent (image_config b) time
    dated (given m) e = refl
    dated (refused n offset) e = let z : ◌≡◌ {A = ℕ} 0 1 = cc in absurd (omega arith)

    go : (a : Answer (Unit {0})) → image_answer b ≡ a → (start_from a setup lent (image_config b) time).answer ≡ given tt
        → Accepted (image_config b) × ((start_from a setup lent (image_config b) time).recorder ≡ fresh_start setup lent (image_config b) time)
    go (given u) i e = (image_accepted b bytes i, dated (moment_of time) e)
    go (refused n offset) i e = let z : ◌≡◌ {A = ℕ} 0 1 = cc in absurd (omega arith)

-- a start that is refused with a number and an offset
module _ (setup : Setup) (lent : ℕ) (b : List ℕ) (time n offset : ℕ) where
  not_dated : (m : Answer Moment) → (start_dated m setup lent (image_config b) time).answer ≡ refused n offset → (start_dated m setup lent (image_config b) time).recorder ≡ blank_recorder
  not_dated (given m) e = let z : ◌≡◌ {A = ℕ} 0 1 = cc in absurd (omega arith)
  not_dated (refused k o) e = refl

  not_accepted : (a : Answer (Unit {0})) → (start_from a setup lent (image_config b) time).answer ≡ refused n offset → (start_from a setup lent (image_config b) time).recorder ≡ blank_recorder
  not_accepted (given u) e = not_dated (moment_of time) e
  not_accepted (refused k o) e = refl

  start_refused : (start_reply setup lent b time).answer ≡ refused n offset → (start_reply setup lent b time).recorder ≡ blank_recorder
  unfolding start_reply
  start_refused e =
      by_test (legal_length lent)
      (λ legal.
      by_test (slots_fit setup.slots)
      (λ fit. rw (legal, fit) (not_accepted (image_answer b) (rw (legal, fit) at e)))
      (λ f. rw (legal, f)))
      (λ f. rw f)

pub blank_refuses : BlankRefuses
unfolding blank_recorder
blank_refuses = record { start_refused = start_refused; no_length = λ n h. let (legal, none) = h in let low = legal.0 in omega arith }
