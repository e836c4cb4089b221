-- Demand 1: each call test by test, and what a refusal leaves.
use mathlib.Core.Path.{◌≡◌, refl, sym, ap, ap₂, ◌∙◌}
use mathlib.Core.Bool.{Bool, true, false, true≢false, not, ◌&&◌, ◌||◌}
use mathlib.Core.List.{List, [], ◌∷◌, ◌++◌}
use mathlib.Core.Logic.{◌⊎◌, inl, inr, ⊎_elim}
use Prim.Native.Nat.{ℕ, zero, suc, ◌+◌, ◌*◌, ◌<◌, ◌≤◌}
use native.Mathlib.Nat.{le_refl}
use native.Mathlib.Omega.{arith}
use borrow.Author.Tests.{not-true, not-false, eqb-true, eqb-false, eq-eqb, ltb-true, lt-ltb, leb-true, leb-false, le-leb, lt-leb}
use lib.Dec.{eqb, ltb, leb}
use lib.IntN.{ℤ}
use lib.ListN.{length, get_or, take, drop}
use Rattle.laws.proofs.Tests.{by_test, and_left, and_right, and_both, or_right}
use Rattle.laws.specs.Any.{any}
use Rattle.laws.proofs.Any.{any_not}
use Rattle.laws.specs.Answers.{Answer, given, refused, reply_to, RunReply}
use Rattle.laws.specs.Broken.{first_broken}
use Rattle.laws.specs.Bytes.{le}
use Rattle.laws.specs.Each.{Each}
use Rattle.calendar.specs.Moments.{moment_of}
use Rattle.calendar.specs.declared.Moment.{Moment}
use Rattle.image.specs.Image.{decode}
use Rattle.settings.specs.Check.{Section, sections, FirstBadAt, first_bad, checked}
use Rattle.image.specs.Answers.{marked, image_answer, write_answer, after_write}
use Rattle.settings.specs.declared.Config.{Config}
use Rattle.calendar.proofs.Moments.{dated_or_not}
use Rattle.image.proofs.Found.{value_exactly}
use Rattle.counting.specs.Bills.{fills_up, booked_of}
use Rattle.sampling.specs.Samples.{booking_of, booking_on, clock_end, sample_of, samples_of}
use Rattle.recorder.specs.Clock.{set_of}
use Rattle.recorder.specs.Meters.{class_of, age_of, meter_at, Stamping, stamping_of, reading_answer, after_reading}
use Rattle.profile.specs.Records.{slots_fit}
use Rattle.profile.specs.Room.{legal_length, as_at_start, kept, with_records}
use Rattle.profile.specs.Reading.{held_in, record_reply}
use Rattle.profile.specs.declared.Profile.{Profile}
use Rattle.profile.proofs.Places.{legal_is}
use Rattle.sampling.specs.Closed.{closed_by, closed_in}
use Rattle.sampling.specs.declared.Period.{Period}
use Rattle.recorder.specs.Profile.{records_of, closed_by_set, moved}
use Rattle.laws.proofs.Answers.{by_answer}
use Rattle.readout.specs.Answers.{line_number}
use Rattle.readout.specs.Blocks.{is_block}
use Rattle.recorder.specs.Readout.{readout_reply, block_readout_reply}
use Rattle.recorder.specs.Calls.{start_reply, sample_reply, reading_reply, sample_lent, samples_lent, set_lent}
use Rattle.recorder.specs.Lists.{list_of}
use Rattle.recorder.specs.declared.MakerList.{MakerList}
use Rattle.recorder.specs.declared.Recorder.{Recorder}
use Rattle.recorder.specs.declared.Setup.{Setup}
use Rattle.sampling.specs.declared.State.{State}
use Rattle.registers.specs.Registers.{Group, groups, look_up, group_of, registers_of, reply_of, register_reply}
use Rattle.registers.proofs.Groups.{none_found}
use Rattle.registers.proofs.Laws.{refused_leaves}
use Rattle.makers.specs.Lists.{list_reply}
use Rattle.makers.specs.Requests.{on_list, only_meters, maker_reply}
use Rattle.makers.proofs.Laws.{refused_to_maker}
use Rattle.display.specs.Fields.{read_by}
use Rattle.display.proofs.Laws.{refused_display}
use Rattle.demands.proofs.DisplayRefusals.{displays}
use Rattle.demands.proofs.Sent.{line_then, block_then, lines, blocks, readout_refused, readout_given}
use Rattle.demands.proofs.Starts.{legal_test, start_test, as_at_start_lem}
use Rattle.demands.specs.Demand1.{Refusal, at, Ordered, numbered, image_refusals, no_date, sample_refusals, reading_refusals, request_refusals, register_refusals, OffList, no_maker, maker_refusals, write_refusals, age_refusals, bad_length, other_length, bad_slot, record_refusals, bad_block, line_refusals, RunEnds, Left, SameLeft, NumbersExact, RefusedChangesNothing, Demand1}

-- a refusal whose condition is a test, and what comes after it
next : {A : Type 0} (n o : ℕ) {when : Type 0} (rest : List Refusal) (test : Bool) (a : Answer A)
    → (test ≡ true → when) → (test ≡ false → when → ⊥) → (test ≡ true → a ≡ refused n o) → (test ≡ false → Ordered rest a)
    → Ordered (at n o when ∷ rest) a
unfolding Ordered
next n o rest test a due not-due is after =
    by_test test (λ t. inl (o, (refl, due t), is t)) (λ f. inr ((λ offset d. not-due f d.1), after f))

-- where no refusal is due the answer is given
done : {A : Type 0} (x : A) (a : Answer A) → a ≡ given x → Ordered [] a
unfolding Ordered
done x a e = (x, e)

-- whether an answer is given
abbrev is_given_lem : {A : Type 0} → Answer A → Bool
is_given_lem (given x) = true
is_given_lem (refused n o) = false

-- a check finds nothing, or a bad entry, which is 4
good_or_4 : (ss : List Section) → (first_bad ss ≡ given tt) ⊎ ((o : ℕ) × (first_bad ss ≡ refused 4 o))
unfolding first_bad
good_or_4 [] = inl refl
good_or_4 (s ∷ ss) =
    by_test (ltb (first_broken s.count s.good) s.count)
    (λ t. rw t (inr (s.base + s.size * first_broken s.count s.good, refl)))
    (λ f. rw f (good_or_4 ss))

-- 4 VALUE, and what comes after it
value : (c : Config) (rest : List Refusal) (a : Answer (Unit {0}))
    → ((offset : ℕ) → checked c ≡ refused 4 offset → a ≡ refused 4 offset)
    → (checked c ≡ given tt → Ordered rest a)
    → Ordered (record { number = 4; due = FirstBadAt (sections c) } ∷ rest) a
unfolding Ordered checked
value c rest a is after =
    ⊎_elim
    (λ good. inr ((λ offset bad. absurd (true≢false (ap is_given_lem (sym good ∙ (value_exactly c offset).1 bad)))), after good))
    (λ bad. inl (bad.0, (value_exactly c bad.0).0 bad.1, is bad.0 bad.1))
    (good_or_4 (sections c))

-- the letters, as a test
letters : (b : List ℕ) → marked b ≡ true → (get_or b 0 0 ≡ 75) × (get_or b 1 0 ≡ 82) × (get_or b 2 0 ≡ 67)
letters b t =
    let k = eqb (get_or b 0 0) 75 in
    let r = eqb (get_or b 1 0) 82 in
    let c = eqb (get_or b 2 0) 67 in
    let front : (k && r) ≡ true = and_left (k && r) c t in
    (eqb-true _ _ (and_left k r front), eqb-true _ _ (and_right k r front), eqb-true _ _ (and_right (k && r) c t))

-- an image's refusals, and what comes after them: `a` answers as the image does where that is refused
image_then : (b : List ℕ) (rest : List Refusal) (a : Answer (Unit {0})) → ((n o : ℕ) → image_answer b ≡ refused n o → a ≡ refused n o)
    → (image_answer b ≡ given tt → Ordered rest a) → Ordered (image_refusals b ++ rest) a
unfolding image_answer
image_then b rest a is after =
    next 1 0 _ (not (eqb (length b) 1126)) a
    (λ t e. true≢false (sym (eq-eqb _ _ e) ∙ not-true _ t)) (λ f other. other (eqb-true _ _ (not-false _ f)))
    (λ t. is 1 0 (rw (not-true (eqb (length b) 1126) t)))
    (λ f.
    let long = not-false (eqb (length b) 1126) f in
    next 2 0 _ (not (marked b)) a
    (λ t e. true≢false (sym (and_both _ _ (and_both _ _ (eq-eqb _ _ e.0) (eq-eqb _ _ e.1)) (eq-eqb _ _ e.2)) ∙ not-true _ t))
    (λ g other. other (letters b (not-false _ g)))
    (λ t. is 2 0 (rw (long, not-true (marked b) t)))
    (λ g.
    let mark = not-false (marked b) g in
    next 3 3 _ (not (eqb (le 2 (drop 3 b)) 1)) a
    (λ t e. true≢false (sym (eq-eqb _ _ e) ∙ not-true _ t)) (λ h other. other (eqb-true _ _ (not-false _ h)))
    (λ t. is 3 3 (rw (long, mark, not-true (eqb (le 2 (drop 3 b)) 1) t)))
    (λ h.
    let version = not-false (eqb (le 2 (drop 3 b)) 1) h in
    value (decode b) rest a
    (λ o e. is 4 o (rw (long, mark, version) e))
    (λ e. after (rw (long, mark, version) e)))))

pub images : (b : List ℕ) → Ordered (image_refusals b) (image_answer b)
images b = image_then b [] (image_answer b) (λ n o e. e) (λ e. done tt _ e)

-- a refusal for want of a date, and what comes after it
date_then : {A : Type 0} (time : ℕ) (rest : List Refusal) (a : Answer A) → (moment_of time ≡ refused 9 0 → a ≡ refused 9 0)
    → ((m : Moment) → moment_of time ≡ given m → Ordered rest a) → Ordered (no_date time ∷ rest) a
unfolding Ordered
date_then time rest a is after =
    ⊎_elim (λ d. inr ((λ offset none. none.1 d.0 d.1), after d.0 d.1))
    (λ e. inl (0, (refl, λ m f. true≢false (sym (ap is_given_lem (sym e ∙ f)))), is e))
    (dated_or_not time)

or_left : (a b : Bool) → b ≡ false → (a || b) ≡ true → a ≡ true
or_left true b f e = refl
or_left false b f e = sym f ∙ e

-- some place at which a test holds
any_some : (n : ℕ) (p : ℕ → Bool) → any n p ≡ true → (j : ℕ) × (j < n) × (p j ≡ true)
unfolding any
any_some zero p e = absurd (true≢false (sym e))
any_some (suc n) p e =
    by_test (p n) (λ t. (n, le_refl (suc n), t))
    (λ f.
    let rest = any_some n p (or_left _ _ f e) in
    let l = rest.1 in
    (rest.0, omega arith, rest.2))

-- 14 where the length of a lent buffer is not that of the start, and what comes after it
lent_then : {A : Type 0} (p : Profile) (buffer : List ℕ) (rest : List Refusal) (a : Answer A) → (as_at_start p (length buffer) ≡ false → a ≡ refused 14 0)
    → (as_at_start p (length buffer) ≡ true → Ordered rest a) → Ordered (other_length p buffer ∷ rest) a
lent_then p buffer rest a is after =
    let n = length buffer in
    next 14 0 rest (not (as_at_start p n)) a
    (λ t right. true≢false (sym (start_test p n right) ∙ not-true _ t))
    (λ f other. other (as_at_start_lem p n (not-false _ f)))
    (λ t. is (not-true _ t))
    (λ f. after (not-false _ f))

pub starts : (setup : Setup) (lent : ℕ) (b : List ℕ) (time : ℕ)
    → Ordered (bad_length lent ∷ bad_slot setup ∷ image_refusals b ++ (no_date time ∷ [])) (start_reply setup lent b time).answer
unfolding start_reply
starts setup lent b time =
    next 14 0 _ (not (legal_length lent)) _
    (λ t legal. true≢false (sym (legal_test lent legal) ∙ not-true _ t))
    (λ f other. other (legal_is lent (not-false _ f)))
    (λ t. rw (not-true (legal_length lent) t))
    (λ f.
    let legal = not-false (legal_length lent) f in
    next 8 0 _ (not (slots_fit setup.slots)) _
    (λ t. let some = any_some 8 _ (not-false _ (not-true (slots_fit setup.slots) t)) in (some.0, some.1, ltb-true _ _ some.2))
    (λ g due. true≢false (sym (lt-ltb _ _ due.2) ∙ any_not 8 _ (not-true _ (not-false (slots_fit setup.slots) g)) due.0 due.1))
    (λ t. rw (legal, not-true (slots_fit setup.slots) t))
    (λ g.
    let fit = not-false (slots_fit setup.slots) g in
    image_then b (no_date time ∷ []) _ (λ n o e. rw (legal, fit, e))
    (λ e. date_then time [] _ (λ d. rw (legal, fit, e, d)) (λ m d. done tt _ (rw (legal, fit, e, d))))))

pub sets : (r : Recorder) (time : ℕ) (buffer : List ℕ) → Ordered (other_length r.profile buffer ∷ no_date time ∷ []) (numbered (set_lent r time buffer).reply.number)
unfolding set_lent set_of
sets r time buffer =
    lent_then r.profile buffer _ _ (λ f. rw f)
    (λ t. date_then time [] _ (λ d. rw (t, d)) (λ m d. done tt _ (rw (t, d))))

pub records : (p : Profile) (index : ℕ) (buffer result : List ℕ) → Ordered (record_refusals p index buffer result) (record_reply p index buffer result).answer
unfolding record_reply
records p index buffer result =
    lent_then p buffer _ _ (λ f. rw f)
    (λ right.
    next 15 0 _ (leb (held_in p) index) _ (λ t. leb-true _ _ t) (λ f l. true≢false (sym (le-leb _ _ l) ∙ f)) (λ t. rw (right, t))
    (λ f.
    next 13 0 _ (ltb (length result) 69) _ (λ t. ltb-true _ _ t) (λ g l. true≢false (sym (lt-ltb _ _ l) ∙ g)) (λ t. rw (right, f, t))
    (λ g. done tt _ (rw (right, f, g)))))

-- a refused request for a record leaves the result
record_leaves : (p : Profile) (index : ℕ) (buffer result : List ℕ) (n o : ℕ) → (record_reply p index buffer result).answer ≡ refused n o → (record_reply p index buffer result).result ≡ result
unfolding record_reply
record_leaves p index buffer result n o e =
    by_test (as_at_start p (length buffer))
    (λ right.
    by_test (leb (held_in p) index) (λ t. rw (right, t))
    (λ f.
    by_test (ltb (length result) 69) (λ t. rw (right, f, t))
    (λ g. absurd (true≢false (ap is_given_lem (rw (right, f, g) at e))))))
    (λ f. rw f)

-- a register is filled
full_some : (amount due : ℕ) → fills_up amount due ≡ true → (0 < due) × (999_999_999 < amount + due)
full_some amount due t =
    let some = ltb 0 due in
    let past = ltb 999_999_999 (amount + due) in
    (ltb-true _ _ (and_left some past t), ltb-true _ _ (and_right some past t))

full_is : (amount due : ℕ) → 0 < due → 999_999_999 < amount + due → fills_up amount due ≡ true
full_is amount due some past = and_both _ _ (lt-ltb _ _ some) (lt-ltb _ _ past)

-- a sample that is lent a buffer as long as at the start
samples_right : (r : Recorder) (bits : ℕ) → Ordered (sample_refusals r bits) (numbered (sample_reply r bits).number)
unfolding sample_of booking_of booked_of
samples_right r bits =
    next 5 0 _ (clock_end r.state) _
    (λ t.
    let last = eqb r.state.clock 4_294_967_295 in
    let hundredth = leb 99 r.state.samples in
    (eqb-true _ _ (and_left last hundredth t), leb-true _ _ (and_right last hundredth t)))
    (λ f e. true≢false (sym (and_both _ _ (eq-eqb _ _ e.0) (le-leb _ _ e.1)) ∙ f))
    (λ t. rw t)
    (λ f.
    let full = (booking_on r.config r.state bits).full in
    next 6 0 _ full _
    (λ t. let some = any_some 16 _ t in (some.0, some.1, (full_some _ _ some.2).0, (full_some _ _ some.2).1))
    (λ g e. true≢false (sym (full_is _ _ e.2 e.3) ∙ any_not 16 _ g e.0 e.1))
    (λ t. rw (f, t)) (λ g. done tt _ (rw (f, g))))

pub samples : (r : Recorder) (bits : ℕ) (buffer : List ℕ) → Ordered (other_length r.profile buffer ∷ sample_refusals r bits) (numbered (sample_lent r bits buffer).reply.number)
unfolding sample_lent
samples r bits buffer = lent_then r.profile buffer _ _ (λ f. rw f) (λ t. rw t (samples_right r bits))

pub readings : (r : Recorder) (meter : ℕ) (v : ℤ) (status seq : ℕ)
    → Ordered (reading_refusals r meter status seq) (reading_reply r meter v status seq).answer
unfolding reading_answer
readings r meter v status seq =
    next 7 0 _ (ltb 31 meter) _ (λ t. ltb-true _ _ t) (λ f l. true≢false (sym (lt-ltb _ _ l) ∙ f)) (λ t. rw t)
    (λ f.
    next 8 0 _ (eqb (get_or r.config.limits meter 0) 0) _ (λ t. eqb-true _ _ t) (λ g e. eqb-false _ _ g e) (λ t. rw (f, t))
    (λ g.
    next 10 0 _ (ltb 7 status || ltb 31 seq) _
    (λ t. by_test (ltb 7 status) (λ a. inl (ltb-true _ _ a)) (λ a. inr (ltb-true _ _ (or_right _ _ a t))))
    (λ h. ⊎_elim (λ l. true≢false (sym (or_first (ltb 7 status) (ltb 31 seq) (lt-ltb _ _ l)) ∙ h)) (λ l. true≢false (sym (or_second (ltb 7 status) (ltb 31 seq) (lt-ltb _ _ l)) ∙ h)))
    (λ t. rw (f, g, t)) (λ h. done (stamping_of (meter_at r.state.meters meter) seq) _ (rw (f, g, h)))))
  where
    or_first : (a b : Bool) → a ≡ true → (a || b) ≡ true
    or_first a b e = rw e

    or_second : (a b : Bool) → b ≡ true → (a || b) ≡ true
    or_second true b e = refl
    or_second false b e = e

pub readouts : (r : Recorder) (meter status seq decimals : ℕ) (line : List ℕ)
    → Ordered (line_refusals line decimals ++ reading_refusals r meter status seq) (readout_reply r meter status seq decimals line).answer
readouts r meter status seq decimals line =
    line_then line decimals (reading_refusals r meter status seq) (readout_reply r meter status seq decimals line).answer
    (λ n h e. rw (readout_refused r meter status seq decimals line n e))
    (λ z e. rw (readout_given r meter status seq decimals line z e) (readings r meter z status seq))

pub block_readouts : (r : Recorder) (meter status seq decimals : ℕ) (block line : List ℕ)
    → Ordered (bad_block block ∷ line_refusals line decimals ++ reading_refusals r meter status seq) (block_readout_reply r meter status seq decimals block line).answer
unfolding block_readout_reply
block_readouts r meter status seq decimals block line =
    block_then block (line_refusals line decimals ++ reading_refusals r meter status seq) (block_readout_reply r meter status seq decimals block line).answer (λ t. rw t)
    (λ t. rw t (readouts r meter status seq decimals line))

pub ages : (limit : ℕ) (read : Bool) (stamp status clock : ℕ) → Ordered (age_refusals limit status) (age_of limit read stamp status clock)
unfolding age_of
ages limit read stamp status clock =
    next 8 0 _ (eqb limit 0) _ (λ t. eqb-true _ _ t) (λ f e. eqb-false _ _ f e) (λ t. rw t)
    (λ f. next 10 0 _ (ltb 7 status) _ (λ t. ltb-true _ _ t) (λ g l. true≢false (sym (lt-ltb _ _ l) ∙ g)) (λ t. rw (f, t)) (λ g. done (class_of limit read stamp status clock) _ (rw (f, g))))

pub writes : (c : Config) (buffer : List ℕ) → Ordered (write_refusals c buffer) (write_answer c (length buffer))
unfolding write_answer
writes c buffer =
    value c _ (write_answer c (length buffer)) (λ o e. rw e)
    (λ good. next 13 0 _ (ltb (length buffer) 1126) _ (λ t. ltb-true _ _ t) (λ f l. true≢false (sym (lt-ltb _ _ l) ∙ f)) (λ t. rw (good, t)) (λ f. done tt _ (rw (good, f))))

-- a number that finds no line is in none
not_in_table : (gs : List Group) (n m o : ℕ) → look_up gs n ≡ refused m o → Each (λ g. n ≡ g.number → ⊥) gs
unfolding look_up
not_in_table [] n m o e = tt
not_in_table (g ∷ gs) n m o e =
    by_test (eqb n g.number)
    (λ t. absurd (true≢false (ap is_given_lem (rw t at e))))
    (λ f. (eqb-false _ _ f, not_in_table gs n m o (rw f at e)))

-- the refusals of a request of a group that is in the table
in_table : (r : Recorder) (register : ℕ) (buffer : List ℕ) (g : Group)
    → Ordered (at 12 0 (g.registers ≤ register) ∷ at 8 0 (g.in_use r.config register ≡ false) ∷ at 13 0 (length buffer < g.bytes) ∷ []) (reply_of (given g) r register buffer).answer
in_table r register buffer g =
    next 12 0 _ (leb g.registers register) _ (λ t. leb-true _ _ t) (λ f l. true≢false (sym (le-leb _ _ l) ∙ f)) (λ t. rw t)
    (λ f.
    next 8 0 _ (not (g.in_use r.config register)) _ (λ t. not-true _ t) (λ h u. true≢false (sym (ap not u) ∙ h)) (λ t. rw (f, t))
    (λ h.
    next 13 0 _ (not (leb g.bytes (length buffer))) _ (λ t. leb-false _ _ (not-true _ t)) (λ k l. true≢false (sym (ap not (lt-leb _ _ l)) ∙ k)) (λ t. rw (f, h, t))
    (λ k. done g.bytes _ (rw (f, h, k)))))

pub registers : (r : Recorder) (group register : ℕ) (buffer : List ℕ)
    → Ordered (register_refusals r group register buffer) (register_reply r group register buffer).answer
unfolding Ordered register_reply
registers r group register buffer = go (group_of group) refl
  where
    go : (a : Answer Group) → group_of group ≡ a → Ordered (register_refusals r group register buffer) (reply_of (group_of group) r register buffer).answer
    go (refused n o) e =
        let none = not_in_table groups group n o e in
        inl (0, (refl, none), ap (λ a. (reply_of a r register buffer).answer) (none_found groups group none))
    go (given g) e =
        inr ((λ offset due. true≢false (ap is_given_lem (sym e ∙ none_found groups group due.1))), rw e (in_table r register buffer g))

-- a maker's request

-- a register that is on the list is not off it
on_not_off : (list : MakerList) (group register : ℕ) → on_list list group register ≡ true → OffList list group register → ⊥
unfolding on_list
on_not_off list group register on off =
    ⊎_elim (λ x. true≢false (sym (rw x.0 at on) ∙ x.1))
    (λ others.
    ⊎_elim (λ x. true≢false (sym (rw x.0 at on) ∙ x.1))
    (λ rest. ⊎_elim (λ x. true≢false (sym (rw x.0 at on) ∙ x.1)) (λ x. true≢false (sym (rw x.0 at on) ∙ x.1)) rest) others) off

-- one that is not on the list is off it, and its group is in the table
off_in_table : (list : MakerList) (group register : ℕ) → on_list list group register ≡ false → OffList list group register × (Each (λ g. group ≡ g.number → ⊥) groups → ⊥)
unfolding on_list groups
off_in_table list group register off =
    by_test (eqb group 82) (λ t. let q = eqb-true group 82 t in (inl (q, rw t at off), λ none. none.0 q))
    (λ f₁.
    by_test (eqb group 201) (λ t. let q = eqb-true group 201 t in (inr (inl (q, rw (f₁, t) at off)), λ none. none.1.1.1.1.0 q))
    (λ f₂.
    by_test (eqb group 202) (λ t. let q = eqb-true group 202 t in (inr (inr (inl (q, rw (f₁, f₂, t) at off))), λ none. none.1.1.1.1.1.0 q))
    (λ f₃.
    by_test (eqb group 203) (λ t. let q = eqb-true group 203 t in (inr (inr (inr (q, rw (f₁, f₂, f₃, t) at off))), λ none. none.1.1.1.1.1.1.0 q))
    (λ f₄. absurd (true≢false (rw (f₁, f₂, f₃, f₄) at off))))))

-- what is asked of the operator's table is asked of a maker's, where the register is not off the list
not_off : (off : Type 0) → (off → ⊥) → (r : Recorder) (group register : ℕ) (buffer : List ℕ) (a : Answer ℕ)
    → Ordered (register_refusals r group register buffer) a → Ordered (request_refusals ((registers_of group ≤ register) ⊎ off) r group register buffer) a
unfolding Ordered
not_off off on r group register buffer a =
    ⊎_elim inl
    (λ x.
    inr (x.0, ⊎_elim (λ due. inl (due.0, (due.1.0, inl due.1.1), due.2)) (λ later. inr ((λ offset due. ⊎_elim (λ past. later.0 offset (due.0, past)) on due.1), later.1)) x.1))

-- where it is off the list, 12 is due, and 11 is not
no_register : (off : Type 0) → off → (r : Recorder) (group register : ℕ) (buffer : List ℕ) → (Each (λ g. group ≡ g.number → ⊥) groups → ⊥)
    → Ordered {A = ℕ} (request_refusals ((registers_of group ≤ register) ⊎ off) r group register buffer) (refused 12 0)
unfolding Ordered
no_register off is r group register buffer some = inr ((λ offset due. some due.1), inl (0, (refl, inr is), refl))

-- the fleet of a list's meters is refused as that of all
fleet_refused : (r : Recorder) (mask group register : ℕ) (buffer : List ℕ) → eqb group 204 ≡ true
    → Ordered (register_refusals r group register buffer) (register_reply (only_meters r mask) group register buffer).answer
unfolding Ordered look_up groups
fleet_refused r mask group register buffer t = rw (eqb-true group 204 t) (registers (only_meters r mask) 204 register buffer)

makers : (r : Recorder) (maker group register : ℕ) (buffer : List ℕ)
    → Ordered (maker_refusals r maker group register buffer) (maker_reply r maker group register buffer).answer
unfolding maker_reply
makers r maker group register buffer =
    next 20 0 _ (ltb 2 maker) _ (λ t. ltb-true 2 maker t) (λ f l. true≢false (sym (lt-ltb 2 maker l) ∙ f)) (λ t. rw t)
    (λ there.
    let list = list_of r.setup.lists maker in
    by_test (on_list list group register)
    (λ on.
    by_test (eqb group 204)
    (λ t. rw (there, on, t) (not_off (OffList list group register) (on_not_off list group register on) r group register buffer _ (fleet_refused r list.meters group register buffer t)))
    (λ f. rw (there, on, f) (not_off (OffList list group register) (on_not_off list group register on) r group register buffer _ (registers r group register buffer))))
    (λ off. let is = off_in_table list group register off in rw (there, off) (no_register (OffList list group register) is.0 r group register buffer is.1)))

lists : (setup : Setup) (maker : ℕ) (list : MakerList) → Ordered (no_maker maker ∷ []) (numbered (list_reply setup maker list).number)
unfolding list_reply
lists setup maker list =
    next 20 0 _ (ltb 2 maker) _ (λ t. ltb-true 2 maker t) (λ f l. true≢false (sym (lt-ltb 2 maker l) ∙ f)) (λ t. rw t) (λ f. done tt _ (rw f))

list_leaves : (setup : Setup) (maker : ℕ) (list : MakerList) → ((list_reply setup maker list).number ≡ 0 → ⊥) → (list_reply setup maker list).after ≡ setup
unfolding list_reply
list_leaves setup maker list some = by_test (ltb 2 maker) (λ t. rw t) (λ f. absurd (some (rw f)))

-- Runs of samples

-- no refusal of a sample has the number 0
pub refused_some : (c : Config) (s : State) (bits n o : ℕ) → sample_of c s bits ≡ refused n o → n ≡ 0 → ⊥
unfolding sample_of
refused_some c s bits n o e z =
    by_test (clock_end s)
    (λ t. let five : refused 5 0 ≡ refused n o = rw t at e in let q : 5 ≡ n = cc in omega arith)
    (λ f.
    by_test (booking_on c s bits).full
    (λ t. let six : refused 6 0 ≡ refused n o = rw (f, t) at e in let q : 6 ≡ n = cc in omega arith)
    (λ g. let none = rw (f, g) at e in let q : ◌≡◌ {A = ℕ} 0 1 = cc in omega arith))

-- a recorder with another state
abbrev on : Recorder → State → Recorder
on r s = record { config = r.config; setup = r.setup; state = s; profile = r.profile }

-- how a run on a state ends
abbrev Ends : Recorder → List ℕ → RunReply State → Type 0
Ends r run reply =
    ((reply.taken ≡ length run) × (reply.number ≡ 0))
    ⊎ ((reply.taken < length run) × (reply.number ≡ 0 → ⊥) × Ordered (sample_refusals (on r reply.after) (get_or run reply.taken 0)) (numbered reply.number))

run_ends : (r : Recorder) (s : State) (run : List ℕ) → Ends r run (samples_of r.config s run)
unfolding samples_of
run_ends r s [] = inl (refl, refl)
run_ends r s (bits ∷ more) = go (λ later. run_ends r later more) (sample_of r.config s bits) refl
  where
    go : ((later : State) → Ends r more (samples_of r.config later more)) → (a : Answer State) → sample_of r.config s bits ≡ a → Ends r (bits ∷ more) (samples_of r.config s (bits ∷ more))
    go rest (given later) e =
        rw e (⊎_elim (λ all. inl (ap suc all.0, all.1)) (λ some. inr (omega (arith, some.0), some.1, some.2)) (rest later))
    go rest (refused n o) e = rw e (inr (omega arith, refused_some r.config s bits n o e, rw e at (samples_right (on r s) bits)))

pub runs : (r : Recorder) (run buffer : List ℕ) → RunEnds r run buffer
unfolding samples_lent
runs r run buffer =
    by_test (as_at_start r.profile (length buffer))
    (λ t. rw t (inr (as_at_start_lem r.profile (length buffer) t, run_ends r r.state run)))
    (λ f. rw f (inl ((λ right. true≢false (sym (start_test r.profile (length buffer) right) ∙ f)), refl, refl)))

-- a run is the run of those samples that it takes: the state, and the periods that it closes
run_leaves : (c : Config) (s : State) (run : List ℕ) →
    let taken = take (samples_of c s run).taken run in ((samples_of c s run).after ≡ (samples_of c s taken).after) × (closed_in c s run ≡ closed_in c s taken)
unfolding samples_of closed_in
run_leaves c s [] = (refl, refl)
run_leaves c s (bits ∷ more) = go (λ later. run_leaves c later more) (sample_of c s bits) refl
  where
    go : ((later : State) → let taken = take (samples_of c later more).taken more in ((samples_of c later more).after ≡ (samples_of c later taken).after) × (closed_in c later more ≡ closed_in c later taken))
        → (a : Answer State) → sample_of c s bits ≡ a
        → let taken = take (samples_of c s (bits ∷ more)).taken (bits ∷ more) in
        ((samples_of c s (bits ∷ more)).after ≡ (samples_of c s taken).after) × (closed_in c s (bits ∷ more) ≡ closed_in c s taken)
    go rest (given later) e = rw (e, e) ((rest later).0, ap (λ (periods : List Period). closed_by c (given later) ++ periods) (rest later).1)
    go rest (refused n o) e = rw e (refl, refl)

runs_leave : (r : Recorder) (run buffer : List ℕ) → SameLeft (samples_lent r run buffer) (samples_lent r (take (samples_lent r run buffer).reply.taken run) buffer)
unfolding samples_lent
runs_leave r run buffer =
    by_test (as_at_start r.profile (length buffer))
    (λ t.
    let same = run_leaves r.config r.state run in
    rw t (ap₂ (moved r) same.0 same.1, ap (λ (periods : List Period). (with_records (kept r.profile buffer) (records_of r.setup periods)).buffer) same.1))
    (λ f. rw f (refl, refl))

pub numbers_exact : NumbersExact
numbers_exact =
    record { images = images; starts = starts; samples = samples; runs = runs; sets = sets; readings = readings; lines = lines; blocks = blocks; readouts = readouts; block_readouts = block_readouts; registers = registers; makers = makers; displays = displays; lists = lists; records = records; ages = ages; writes = writes }

-- a refused sample leaves the recorder and the buffer
sample_leaves : (r : Recorder) (bits : ℕ) (buffer : List ℕ) → ((sample_lent r bits buffer).reply.number ≡ 0 → ⊥) → Left r buffer (sample_lent r bits buffer)
unfolding sample_lent
sample_leaves r bits buffer h =
    by_test (as_at_start r.profile (length buffer))
    (λ t. rw t (go (sample_of r.config r.state bits) (rw t at h)))
    (λ f. rw f (refl, refl))
  where
    go : (a : Answer State) → ((reply_to r.state a).number ≡ 0 → ⊥)
        → (moved r (reply_to r.state a).after (closed_by r.config a) ≡ r) × ((with_records (kept r.profile buffer) (records_of r.setup (closed_by r.config a))).buffer ≡ buffer)
    go (given later) some = absurd (some refl)
    go (refused n o) some = (refl, refl)

-- and so does a refused clock set
set_leaves : (r : Recorder) (time : ℕ) (buffer : List ℕ) → ((set_lent r time buffer).reply.number ≡ 0 → ⊥) → Left r buffer (set_lent r time buffer)
unfolding set_lent
set_leaves r time buffer h =
    by_test (as_at_start r.profile (length buffer))
    (λ t. rw t (go (set_of r.config r.state time) (rw t at h)))
    (λ f. rw f (refl, refl))
  where
    go : (a : Answer State) → ((reply_to r.state a).number ≡ 0 → ⊥)
        → (moved r (reply_to r.state a).after (closed_by_set a) ≡ r) × ((with_records (kept r.profile buffer) (records_of r.setup (closed_by_set a))).buffer ≡ buffer)
    go (given later) some = absurd (some refl)
    go (refused n o) some = (refl, refl)

-- and so do a refused reading and a refused data set
reading_leaves : (r : Recorder) (meter : ℕ) (v : ℤ) (status seq n offset : ℕ) → (reading_reply r meter v status seq).answer ≡ refused n offset → (reading_reply r meter v status seq).after ≡ r
reading_leaves r meter v status seq n offset e = ap (λ (a : Answer Stamping). moved r (after_reading r.state meter v status seq a) []) e

readout_leaves : (r : Recorder) (meter status seq decimals : ℕ) (line : List ℕ) (n offset : ℕ)
    → (readout_reply r meter status seq decimals line).answer ≡ refused n offset → (readout_reply r meter status seq decimals line).after ≡ r
unfolding readout_reply
readout_leaves r meter status seq decimals line n offset h =
    by_answer (line_number line decimals) (λ z e. rw e (reading_leaves r meter z status seq n offset (rw e at h))) (λ m o e. rw e)

block_readout_leaves : (r : Recorder) (meter status seq decimals : ℕ) (block line : List ℕ)
    → (n offset : ℕ) → (block_readout_reply r meter status seq decimals block line).answer ≡ refused n offset → (block_readout_reply r meter status seq decimals block line).after ≡ r
unfolding block_readout_reply
block_readout_leaves r meter status seq decimals block line n offset h =
    by_test (is_block block) (λ t. rw t (readout_leaves r meter status seq decimals line n offset (rw t at h))) (λ t. rw t)

pub refused_changes_nothing : RefusedChangesNothing
unfolding after_write
refused_changes_nothing =
    record {
      samples = sample_leaves;
      runs = runs_leave;
      sets = set_leaves;
      records = record_leaves;
      readings = reading_leaves;
      readouts = readout_leaves;
      block_readouts = block_readout_leaves;
      registers = refused_leaves;
      makers = refused_to_maker;
      displays = λ r. refused_display r.state.clock (read_by r);
      lists = list_leaves;
      writes = λ c buffer n o e. rw e;
    }

pub demand_1 : Demand1
demand_1 = record { numbers = numbers_exact; refused_changes_nothing = refused_changes_nothing }
