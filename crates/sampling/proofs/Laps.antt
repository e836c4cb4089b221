-- Runs of samples that end at a closing: how one goes on, and that such runs with the closings between them are the whole run, with the periods that it closes.
use Rattle.std.specs.Prelude.{if◌then◌else◌}
use mathlib.Core.Path.{◌≡◌, refl, sym, ap, ◌∙◌}
use mathlib.Core.Bool.{Bool, true, false, true≢false}
use mathlib.Core.List.{List, [], ◌∷◌, ◌++◌}
use Prim.Native.Nat.{ℕ, suc, ◌+◌, ◌<◌, ◌≤◌, zero-le}
use native.Mathlib.Nat.{add-zero, le_antisymm}
use native.Mathlib.Numerals.{add-one}
use native.Mathlib.Omega.{arith}
use lib.Dec.{leb}
use lib.ListN.{length, get_or, drop, drop_of_length-le}
use lib.Seq.{drop-cons, drop-length}
use borrow.Author.Tests.{ne_eqb}
use Rattle.laws.proofs.Tests.{by_test}
use Rattle.laws.specs.Answers.{Answer, given, refused, RunReply}
use Rattle.settings.specs.declared.Config.{Config}
use Rattle.sampling.specs.Periods.{multiple, tick_of}
use Rattle.sampling.specs.Samples.{booking_on, counted_of, clock_end, sample_of, onward, samples_of}
use Rattle.sampling.specs.Laps.{counted_open, sample_open, closing, closed_here, LapReply, one_more_taken, lap_on, lap_of}
use Rattle.sampling.specs.Closed.{closed_by, closed_on, closed_in}
use Rattle.sampling.specs.declared.Period.{Period}
use Rattle.sampling.specs.declared.State.{State}

-- the samples of a run that went before, counted in
abbrev pub after : ℕ → LapReply → LapReply
after k t = record { taken = k + t.taken; number = t.number; closes = t.closes; state = t.state }

module _ (c : Config) (start s : State) (bits : List ℕ) (k : ℕ) (so_far : lap_of c start bits ≡ after k (lap_of c s (drop k bits))) where
  -- the next sample was taken and brings no closing
  pub goes_on : (next : State) → k < length bits → sample_open c s (get_or bits k 0) ≡ given next → closing c next ≡ false
      → lap_of c start bits ≡ after (k + 1) (lap_of c next (drop (k + 1) bits))
  unfolding lap_of
  goes_on next h g e =
      let r = lap_of c next (drop (suc k) bits) in
      let count : k + suc r.taken ≡ suc k + r.taken = omega arith in
      so_far ∙ rw (add-one k, drop-cons bits k 0 h, g, e) (λ i. record { taken = count i; number = r.number; closes = r.closes; state = r.state })

  -- the next sample was taken and brings one
  pub closes_there : (next : State) → k < length bits → sample_open c s (get_or bits k 0) ≡ given next → closing c next ≡ true
      → lap_of c start bits ≡ record { taken = k + 1; number = 0; closes = true; state = next }
  unfolding lap_of
  closes_there next h g e = so_far ∙ rw (drop-cons bits k 0 h, g, e)

  -- the next sample was refused
  pub is_refused : (n offset : ℕ) → k < length bits → sample_open c s (get_or bits k 0) ≡ refused n offset
      → lap_of c start bits ≡ record { taken = k; number = n; closes = false; state = s }
  unfolding lap_of
  is_refused n offset h g = so_far ∙ rw (drop-cons bits k 0 h, g, add-zero)

  -- there is no next sample
  pub is_done : k ≤ length bits → length bits ≤ k → lap_of c start bits ≡ record { taken = k; number = 0; closes = false; state = s }
  unfolding lap_of
  is_done l g = let e : k ≡ length bits = le_antisymm l g in so_far ∙ rw (e, drop-length bits, add-zero)

-- a sample's answer with the closing that it brings
abbrev closed_answer : Config → Answer State → Answer State
closed_answer c (given s) = given (if closing c s then closed_here c s else s)
closed_answer c (refused n offset) = refused n offset

-- a sample and its closing are document 01's sample
sample_closes : (c : Config) (s : State) (bits : ℕ) → sample_of c s bits ≡ closed_answer c (sample_open c s bits)
unfolding sample_of sample_open counted_of counted_open tick_of closed_here
sample_closes c s bits =
    by_test (clock_end s) (λ e. rw e)
    (λ e.
    by_test (booking_on c s bits).full (λ f. rw (e, f))
    (λ f.
    by_test (leb 99 s.samples)
    (λ h. rw (e, f, h) (by_test (multiple c.period (s.clock + 1)) (λ m. rw m) (λ m. rw m)))
    (λ h. rw (e, f, h, ne_eqb (s.samples + 1) 0 (λ z. omega arith)))))

-- the samples of a run that went before, counted in
abbrev pub later : ℕ → RunReply State → RunReply State
later k r = record { taken = k + r.taken; number = r.number; after = r.after }

-- a run to the first closing, the closing, and the rest of the samples
abbrev pub joined : Config → List ℕ → LapReply → RunReply State
joined c bits t =
    if t.closes then later t.taken (samples_of c (closed_here c t.state) (drop t.taken bits))
    else record { taken = t.taken; number = t.number; after = t.state }

-- one sample in front of a joined run
one_more_lem : (c : Config) (b : ℕ) (more : List ℕ) (t : LapReply)
    → record { taken = suc (joined c more t).taken; number = (joined c more t).number; after = (joined c more t).after } ≡ joined c (b ∷ more) (one_more_taken t)
one_more_lem c b more t =
    by_test t.closes
    (λ e.
    let r = samples_of c (closed_here c t.state) (drop t.taken more) in
    let count : suc (t.taken + r.taken) ≡ suc t.taken + r.taken = omega arith in
    rw e (λ i. record { taken = count i; number = r.number; after = r.after }))
    (λ e. rw e)

-- a run goes on after its first sample, with the closing that it brings
first_on : (c : Config) (s : State) (b : ℕ) (more : List ℕ) → ((n : State) → samples_of c n more ≡ joined c more (lap_of c n more)) → (a : Answer State)
    → onward s (closed_answer c a) (λ n. samples_of c n more) ≡ joined c (b ∷ more) (lap_on c s a (λ n. lap_of c n more))
first_on c s b more on (refused n offset) = refl
first_on c s b more on (given next) =
    by_test (closing c next)
    (λ e.
    let r = samples_of c (closed_here c next) more in
    let count : suc r.taken ≡ 1 + r.taken = omega arith in
    rw e (λ i. record { taken = count i; number = r.number; after = r.after }))
    (λ e. rw (e, on next) (one_more_lem c b more (lap_of c next more)))

-- a run of samples is a run to the first closing, the closing, and the rest
pub by_laps : (c : Config) (s : State) (bits : List ℕ) → samples_of c s bits ≡ joined c bits (lap_of c s bits)
unfolding samples_of lap_of
by_laps c s [] = refl
by_laps c s (b ∷ more) = rw (sample_closes c s b) (first_on c s b more (λ n. by_laps c n more) (sample_open c s b))

-- after its first sample a run has taken no more than there are
first_within : (c : Config) (s : State) (n : ℕ) (a : Answer State) (rest : State → LapReply) → ((x : State) → (rest x).taken ≤ n) → (lap_on c s a rest).taken ≤ suc n
first_within c s n (refused k offset) rest on = zero-le
first_within c s n (given next) rest on = by_test (closing c next) (λ e. rw e (omega arith)) (λ e. rw e (omega (arith, on next)))

-- a run takes no more samples than there are
pub taken_within : (c : Config) (s : State) (bits : List ℕ) → (lap_of c s bits).taken ≤ length bits
unfolding lap_of
taken_within c s [] = zero-le
taken_within c s (b ∷ more) = first_within c s (length more) (sample_open c s b) (λ n. lap_of c n more) (λ n. taken_within c n more)

-- a run that goes on with one that took some where it closes took some
first_some : (c : Config) (s : State) (a : Answer State) (rest : State → LapReply) → (lap_on c s a rest).closes ≡ true → 0 < (lap_on c s a rest).taken
first_some c s (refused k offset) rest e = let z : ◌≡◌ {A = Bool} true false = sym e in absurd (true≢false z)
first_some c s (given next) rest e = by_test (closing c next) (λ t. rw t (omega arith)) (λ t. rw t (omega arith))

-- a run that ends with a closing took a sample
pub closes_some : (c : Config) (s : State) (bits : List ℕ) → (lap_of c s bits).closes ≡ true → 0 < (lap_of c s bits).taken
unfolding lap_of
closes_some c s [] e = absurd (true≢false (sym e))
closes_some c s (b ∷ more) e = first_some c s (sample_open c s b) (λ n. lap_of c n more) e

-- a run that goes on with one that was not refused where it closes was not refused
first_unrefused : (c : Config) (s : State) (a : Answer State) (rest : State → LapReply) → ((x : State) → (rest x).closes ≡ true → (rest x).number ≡ 0) → (lap_on c s a rest).closes ≡ true → (lap_on c s a rest).number ≡ 0
first_unrefused c s (refused k offset) rest on e = absurd (true≢false (sym e))
first_unrefused c s (given next) rest on e = by_test (closing c next) (λ t. rw t) (λ f. rw f (on next (rw f at e)))

-- a run that ends with a closing was not refused
pub closes_unrefused : (c : Config) (s : State) (bits : List ℕ) → (lap_of c s bits).closes ≡ true → (lap_of c s bits).number ≡ 0
unfolding lap_of
closes_unrefused c s [] e = refl
closes_unrefused c s (b ∷ more) e = first_unrefused c s (sample_open c s b) (λ n. lap_of c n more) (λ n. closes_unrefused c n more) e

module _ (c : Config) (s : State) (bits : List ℕ) (t : LapReply) (is : lap_of c s bits ≡ t) where
  -- a run to its end
  pub run_ends : t.closes ≡ false → samples_of c s bits ≡ record { taken = t.taken; number = t.number; after = t.state }
  run_ends e = by_laps c s bits ∙ rw (is, e)

  -- a run to a closing, the closing, and the rest
  pub run_closes : t.closes ≡ true → samples_of c s bits ≡ later t.taken (samples_of c (closed_here c t.state) (drop t.taken bits))
  run_closes e = by_laps c s bits ∙ rw (is, e)

-- a period that closed has closed: the state is at the same second
still_closing : (c : Config) (s : State) → closing c (closed_here c s) ≡ closing c s
unfolding closed_here
still_closing c s = refl

-- the periods of a run, given those of a run to the first closing
abbrev closed_after : Config → List ℕ → LapReply → List Period
closed_after c bits t =
    if t.closes then (closed_here c t.state).closed ∷ closed_in c (closed_here c t.state) (drop t.taken bits) else []

-- a run goes on after its first sample, with the period that it closes
first_closed : (c : Config) (s : State) (b : ℕ) (more : List ℕ) → ((n : State) → closed_in c n more ≡ closed_after c more (lap_of c n more)) → (a : Answer State)
    → closed_by c (closed_answer c a) ++ closed_on (closed_answer c a) (λ n. closed_in c n more) ≡ closed_after c (b ∷ more) (lap_on c s a (λ n. lap_of c n more))
first_closed c s b more on (refused n offset) = refl
first_closed c s b more on (given next) =
    by_test (closing c next)
    (λ e. rw (e, still_closing c next ∙ e))
    (λ e. rw (e, e) (on next))

-- the periods of a run are that of its first closing, and those of the rest
closed_by_laps : (c : Config) (s : State) (bits : List ℕ) → closed_in c s bits ≡ closed_after c bits (lap_of c s bits)
unfolding closed_in lap_of
closed_by_laps c s [] = refl
closed_by_laps c s (b ∷ more) = rw (sample_closes c s b) (first_closed c s b more (λ n. closed_by_laps c n more) (sample_open c s b))

module _ (c : Config) (s : State) (bits : List ℕ) (t : LapReply) (is : lap_of c s bits ≡ t) where
  -- a run to its end closes nothing
  pub ends_open : t.closes ≡ false → closed_in c s bits ≡ []
  ends_open e = closed_by_laps c s bits ∙ rw (is, e)

  -- a run to a closing closes that period, and then those of the rest
  pub closes_first : t.closes ≡ true → closed_in c s bits ≡ (closed_here c t.state).closed ∷ closed_in c (closed_here c t.state) (drop t.taken bits)
  closes_first e = closed_by_laps c s bits ∙ rw (is, e)

-- samples that went before, counted in twice
pub later_later : (k n : ℕ) (r : RunReply State) → later k (later n r) ≡ later (k + n) r
later_later k n r = let e : k + (n + r.taken) ≡ k + n + r.taken = omega arith in (λ i. record { taken = e i; number = r.number; after = r.after })

-- a run of one sample that ends with a closing
pub one_closes : (c : Config) (s : State) (bits : ℕ) (t : LapReply) → lap_of c s (bits ∷ []) ≡ t → t.closes ≡ true
    → samples_of c s (bits ∷ []) ≡ record { taken = t.taken; number = t.number; after = closed_here c t.state }
unfolding samples_of
one_closes c s bits t is e =
    let most : t.taken ≤ 1 = rw is at (taken_within c s (bits ∷ [])) in
    let least : 0 < t.taken = rw is at (closes_some c s (bits ∷ []) (rw is e)) in
    let one : t.taken ≡ 1 = omega arith in
    let number : t.number ≡ 0 = rw is at (closes_unrefused c s (bits ∷ []) (rw is e)) in
    run_closes c s (bits ∷ []) t is e ∙ rw (one, number)

-- it closes one period
pub one_closed : (c : Config) (s : State) (bits : ℕ) (t : LapReply) → lap_of c s (bits ∷ []) ≡ t → t.closes ≡ true
    → closed_in c s (bits ∷ []) ≡ (closed_here c t.state).closed ∷ []
unfolding closed_in
one_closed c s bits t is e =
    let least : 0 < t.taken = rw is at (closes_some c s (bits ∷ []) (rw is e)) in
    closes_first c s (bits ∷ []) t is e ∙ ap (λ (l : List ℕ). (closed_here c t.state).closed ∷ closed_in c (closed_here c t.state) l) (drop_of_length-le (bits ∷ []) least)
