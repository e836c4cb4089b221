-- CR 5 over histories: what readings are answered, what a kept stamp comes to, and which reading an awake meter was heard by.
use mathlib.Core.Path.{◌≡◌, refl, sym, ap, subst, ◌∙◌}
use mathlib.Core.Bool.{Bool, true, false, true≢false, not, ◌&&◌, ◌||◌}
use mathlib.Core.List.{List, [], ◌∷◌, ◌++◌}
use mathlib.Core.Logic.{◌⊎◌, ⊎_elim}
use Prim.Native.Nat.{ℕ, ◌+◌, ◌*◌, ◌/◌, ◌%◌}
use native.Mathlib.Omega.{arith}
use borrow.Author.Tests.{eq-eqb, ne_eqb, ltb-false, eqb-true, eqb-false}
use lib.Dec.{ltb, eqb}
use lib.IntN.{ℤ}
use lib.ListN.{get_or, take, drop}
use mir.Syntax.{w32}
use mir.Val.{of_z}
use Rattle.laws.specs.Answers.{given}
use Rattle.laws.specs.Bytes.{bytes_of}
use Rattle.laws.specs.Each.{Each}
use Rattle.laws.proofs.Tests.{by_test, and_left, and_right}
use Rattle.laws.proofs.Total.{total_cong}
use Rattle.settings.specs.declared.Config.{Config}
use Rattle.recorder.specs.History.{Call, sample, set, reading, reset}
use Rattle.recorder.specs.Meters.{meter_at, Stamping, renewed, kept, stamping_of, reading_answer}
use Rattle.recorder.specs.declared.Setup.{Setup}
use Rattle.recorder.proofs.Sound.{config_stays}
use Rattle.sampling.specs.declared.State.{State}
use Rattle.registers.specs.Registers.{register_reply}
use Rattle.demands.specs.Account.{Entry, took, ended, cleared, heard, Heard, Reading, readings_of, renews, stamp_of, left_by, last_reading, Account, number_of_reading, answer_of_reading, answer_of, with_call, account_of, journal_of}
use Rattle.demands.specs.ClockBack.{read_in, ahead_in, past_in, fresh_in}
use Rattle.demands.specs.Demand2.{reached}
use Rattle.demands.specs.Repeats.{KeptExactly, Silent, Repeats, RepeatsKeep, AwakeWasHeard, AnswersOfReadings, FirstRenews, RepeatsShown, KeptNeverWakes, UnmarkedWasHeard, NoSignOfLife}
use Rattle.demands.specs.Shown.{awake_in, serial_shown, shown}
use Rattle.demands.proofs.Agrees.{Agrees, agrees, stamping_is}
use Rattle.demands.proofs.ClockBack.{one_later, is_given, is_kept, kept_is, taken_is, Taken, entered_is, read, others_read, stale_count, stale_is, fresh_awake}
use Rattle.demands.proofs.Shown.{registers_of_history}

-- Answers

-- a reading that is given says what becomes of the stamp
said_is : (c : Config) (s : State) (meter status seq : ℕ) (x : Stamping) → reading_answer c s meter status seq ≡ given x → given (stamping_of (meter_at s.meters meter) seq) ≡ given x
unfolding reading_answer
said_is c s meter status seq x e =
    by_test (ltb 31 meter) (λ t. none (ap is_given (rw t at e)))
    (λ f.
    by_test (eqb (get_or c.limits meter 0) 0) (λ t. none (ap is_given (rw (f, t) at e)))
    (λ g. by_test (ltb 7 status || ltb 31 seq) (λ t. none (ap is_given (rw (f, g, t) at e))) (λ h. rw (f, g, h) at e)))
  where
    none : {A : Type 0} → false ≡ true → A
    none e = absurd (true≢false (sym e))

pub kept_exactly : KeptExactly
unfolding stamping_of
kept_exactly =
    record {
      kept_is = λ r meter value status seq e.
          let m = meter_at r.state.meters meter in
          let said = said_is r.config r.state meter status seq kept e in
          by_test (m.read && eqb m.seq seq) (λ t. (and_left m.read (eqb m.seq seq) t, eqb-true _ _ (and_right m.read (eqb m.seq seq) t)))
          (λ f. absurd (true≢false (sym (ap is_kept (rw f at said)))));
      renewed_is = λ r meter value status seq e same.
          let m = meter_at r.state.meters meter in
          let said = said_is r.config r.state meter status seq renewed e in
          true≢false (ap is_kept (rw (same.0, eq-eqb m.seq seq same.1) at said));
    }

-- the recorder's answer is the account's
reading_answer_lem : (c : Config) (s : State) (a : Account) (meter status seq : ℕ) → Agrees c s a → reading_answer c s meter status seq ≡ answer_of_reading c a.journal meter status seq
unfolding reading_answer answer_of_reading number_of_reading
reading_answer_lem c s a meter status seq old =
    by_test (ltb 31 meter) (λ t. rw t)
    (λ f.
    by_test (eqb (get_or c.limits meter 0) 0) (λ t. rw (f, t))
    (λ g.
    by_test (ltb 7 status || ltb 31 seq) (λ t. rw (f, g, t))
    (λ h.
    rw (f, g, h, old.meters meter (omega (arith, ltb-false 31 meter f)), stamping_is (readings_of a.journal meter) seq)
    (by_test (renews seq (readings_of a.journal meter)) (λ t. rw t) (λ n. rw n)))))

-- The account

-- readings after which a SEQ is no sign of life are some, and the last of them had it
record Standing (seq : ℕ) (h : List Heard) : Type 0 where
  read : (left_by h).read ≡ true
  same : (left_by h).seq ≡ seq

standing : (seq : ℕ) (h : List Heard) → renews seq h ≡ false → Standing seq h
standing seq [] f = absurd (true≢false f)
standing seq (last ∷ earlier) f =
    by_test (eqb last.seq seq) (λ t. record { read = refl; same = eqb-true last.seq seq t }) (λ n. absurd (true≢false (rw n at f)))

no_renewal : (seq : ℕ) (h : List Heard) → Standing seq h → renews seq h ≡ false
no_renewal seq [] s = absurd (true≢false (sym s.read))
no_renewal seq (last ∷ earlier) s = rw (eq-eqb last.seq seq s.same)

-- the stamp of a meter that was read
stamp_left : (h : List Heard) → (left_by h).stamp ≡ stamp_of h
stamp_left [] = refl
stamp_left (last ∷ earlier) = refl

-- and after one reading more with the same SEQ
pub kept_left : (seq : ℕ) (h : List Heard) (now : ℕ) (v : ℤ) (status : ℕ) → renews seq h ≡ false
    → left_by (record { second = now; value = v; status = status; seq = seq } ∷ h) ≡ record { read = true; stamp = (left_by h).stamp; value = v; status = status; seq = seq }
kept_left seq h now v status f = rw (f, stamp_left h)

-- a clock set and a billing reset leave all readings, a refused reading everything
set_readings : (c : Config) (a : Account) (seconds i : ℕ) → readings_of (with_call c a (set seconds)).journal i ≡ readings_of a.journal i
unfolding with_call
set_readings c a seconds i = by_test (eqb (answer_of c a (set seconds)) 0) (λ t. rw t) (λ f. rw f)

reset_readings : (c : Config) (a : Account) (i : ℕ) → readings_of (with_call c a reset).journal i ≡ readings_of a.journal i
unfolding with_call
reset_readings c a i = refl

refused_is : (c : Config) (a : Account) (meter : ℕ) (value : ℤ) (status seq : ℕ) → eqb (number_of_reading c meter status seq) 0 ≡ false → with_call c a (reading meter value status seq) ≡ a
unfolding with_call
refused_is c a meter value status seq f = rw f

-- a call that is no reading of a meter leaves its readings
silent_call : (c : Config) (a : Account) (call : Call) (i : ℕ) → Silent i call → readings_of (with_call c a call).journal i ≡ readings_of a.journal i
silent_call c a (sample bits) i silent = (one_later c a bits).readings i
silent_call c a (set seconds) i silent = set_readings c a seconds i
silent_call c a reset i silent = reset_readings c a i
silent_call c a (reading meter value status seq) i silent =
    let readings : Account → List Heard = λ x. readings_of x.journal i in
    by_test (eqb (number_of_reading c meter status seq) 0)
    (λ t. ap readings (entered_is c a meter value status seq (eqb-true _ _ t)) ∙ rw (ne_eqb meter i silent))
    (λ f. ap readings (refused_is c a meter value status seq f))

none_heard : (c : Config) (time : ℕ) (calls : List Call) (i : ℕ) → Each (Silent i) calls → readings_of (journal_of c time calls) i ≡ []
unfolding account_of
none_heard c time [] i each = refl
none_heard c time (call ∷ calls) i each = silent_call c (account_of c time calls) call i each.0 ∙ none_heard c time calls i each.1

-- a call that is no reading of a meter with another SEQ leaves its stamp and its SEQ
call_keeps : (c : Config) (a : Account) (call : Call) (i seq stamp : ℕ) → Repeats i seq call → Standing seq (readings_of a.journal i) → (left_by (readings_of a.journal i)).stamp ≡ stamp
    → Standing seq (readings_of (with_call c a call).journal i) × ((left_by (readings_of (with_call c a call).journal i)).stamp ≡ stamp)
call_keeps c a (sample bits) i seq stamp repeats s e = rw ((one_later c a bits).readings i) (s, e)
call_keeps c a (set seconds) i seq stamp repeats s e = rw (set_readings c a seconds i) (s, e)
call_keeps c a reset i seq stamp repeats s e = rw (reset_readings c a i) (s, e)
call_keeps c a (reading meter value status other) i seq stamp repeats s e =
    by_test (eqb (number_of_reading c meter status other) 0)
    (λ t.
    rw (entered_is c a meter value status other (eqb-true _ _ t))
    (by_test (eqb meter i)
    (λ same.
    let again = repeats (eqb-true meter i same) in
    rw (same, again) (record { read = refl; same = refl }, rw (no_renewal seq _ s) (sym (stamp_left (readings_of a.journal i)) ∙ e)))
    (λ f. rw f (s, e))))
    (λ f. rw (refused_is c a meter value status other f) (s, e))

calls_keep : (c : Config) (time : ℕ) (calls later : List Call) (i seq : ℕ) → Standing seq (readings_of (journal_of c time calls) i) → Each (Repeats i seq) later
    → Standing seq (readings_of (journal_of c time (later ++ calls)) i) × ((last_reading (journal_of c time (later ++ calls)) i).stamp ≡ (last_reading (journal_of c time calls) i).stamp)
unfolding account_of
calls_keep c time calls [] i seq s each = (s, refl)
calls_keep c time calls (call ∷ later) i seq s each =
    let (standing, stamp) = calls_keep c time calls later i seq s each.1 in
    call_keeps c (account_of c time (later ++ calls)) call i seq _ each.0 standing stamp

repeats_keep : RepeatsKeep
repeats_keep c time calls later i read each = (calls_keep c time calls later i _ (record { read = read; same = refl }) each).1

-- Which reading an awake meter was heard by

-- a meter that was read has a stamp that some reading renewed
record Renewed (journal : List Entry) (i : ℕ) : Type 0 where
  later : List Entry
  earlier : List Entry
  value : ℤ
  status : ℕ
  seq : ℕ
  among : journal ≡ later ++ (heard (last_reading journal i).stamp i value status seq ∷ earlier)
  renewing : renews seq (readings_of earlier i) ≡ true

-- the same with an entry more that leaves the stamp
one_more_lem : (x : Entry) (journal : List Entry) (i : ℕ) → (last_reading (x ∷ journal) i).stamp ≡ (last_reading journal i).stamp → Renewed journal i → Renewed (x ∷ journal) i
one_more_lem x journal i e r =
    record {
      later = x ∷ r.later;
      earlier = r.earlier;
      value = r.value;
      status = r.status;
      seq = r.seq;
      among = rw e (ap (λ (l : List Entry). x ∷ l) r.among);
      renewing = r.renewing;
    }

some_renewed : (journal : List Entry) (i : ℕ) → (last_reading journal i).read ≡ true → Renewed journal i
some_renewed [] i e = absurd (true≢false (sym e))
some_renewed (took bits second ∷ l) i e = one_more_lem (took bits second) l i refl (some_renewed l i e)
some_renewed (ended state stamp ∷ l) i e = one_more_lem (ended state stamp) l i refl (some_renewed l i e)
some_renewed (cleared second ∷ l) i e = one_more_lem (cleared second) l i refl (some_renewed l i e)
some_renewed (heard second meter value status seq ∷ l) i e =
    by_test (eqb meter i)
    (λ same.
    by_test (renews seq (readings_of l i))
    (λ fresh.
    record {
      later = [];
      earlier = l;
      value = value;
      status = status;
      seq = seq;
      among = rw (same, fresh, eqb-true meter i same);
      renewing = fresh;
    })
    (λ again.
    let s = standing seq (readings_of l i) again in
    one_more_lem (heard second meter value status seq) l i (rw (same, again) (sym (stamp_left (readings_of l i)))) (some_renewed l i s.read)))
    (λ other. one_more_lem (heard second meter value status seq) l i (rw other) (some_renewed l i (rw other at e)))

awake_was_heard : AwakeWasHeard
unfolding fresh_in ahead_in past_in
awake_was_heard c time calls i e =
    let a = account_of c time calls in
    let m = last_reading a.journal i in
    let limit = get_or c.limits i 0 in
    let told = parts (not (eqb limit 0)) m.read (ltb a.time.second m.stamp) (ltb (m.stamp + limit) a.time.second) (eqb (m.status % 2) 1) (sym (fresh_awake c a i) ∙ e) in
    let r = some_renewed a.journal i told.0 in
    record {
      later = r.later;
      earlier = r.earlier;
      second = m.stamp;
      value = r.value;
      status = r.status;
      seq = r.seq;
      among = r.among;
      renewing = r.renewing;
      stamped = refl;
      not_ahead = ltb-false a.time.second m.stamp told.1;
      not_past = ltb-false (m.stamp + limit) a.time.second told.2;
    }
  where
    parts : (fitted read ahead past marked : Bool) → ((fitted && read) && (not ((fitted && read) && ahead) && (not ((fitted && read) && past) && not marked))) ≡ true
        → (read ≡ true) × (ahead ≡ false) × (past ≡ false)
    parts false read ahead past marked e = absurd (true≢false (sym e))
    parts true false ahead past marked e = absurd (true≢false (sym e))
    parts true true true past marked e = absurd (true≢false (sym e))
    parts true true false true marked e = absurd (true≢false (sym e))
    parts true true false false marked e = (refl, refl, refl)

-- the register of one that is not awake has the mark
marked_byte : (m : Reading) (rest : List ℕ) → get_or (serial_shown m false ++ rest) 8 0 % 2 ≡ 1
unfolding bytes_of
marked_byte m rest = omega arith

-- A reading that kept the stamp

module _ (c : Config) (a : Account) (meter : ℕ) (value : ℤ) (status seq : ℕ) (again : renews seq (readings_of a.journal meter) ≡ false) where
  -- the account with it
  abbrev keeping : Account
  keeping = read c a meter value status seq

  before_read : (last_reading a.journal meter).read ≡ true
  before_read = (standing seq (readings_of a.journal meter) again).read

  after_read : last_reading keeping.journal meter ≡ record { read = true; stamp = (last_reading a.journal meter).stamp; value = value; status = status; seq = seq }
  after_read = rw (eq-eqb meter meter refl) (kept_left seq (readings_of a.journal meter) a.time.second value status again)

  ahead_kept : ahead_in c keeping meter ≡ ahead_in c a meter
  unfolding ahead_in
  ahead_kept = rw (after_read, before_read)

  past_kept : past_in c keeping meter ≡ past_in c a meter
  unfolding past_in
  past_kept = rw (after_read, before_read)

  stale_kept : stale_count c keeping ≡ stale_count c a
  stale_kept =
      total_cong 32 _ _
      (λ j l.
      by_test (eqb meter j)
      (λ t. rw (← eqb-true meter j t, ahead_kept, past_kept))
      (λ f. let other = others_read c a meter value status seq j (λ e. eqb-false meter j f (sym e)) in rw (other.0, other.1)))

  -- one that was stale is not awake
  asleep : (ahead_in c a meter ≡ true) ⊎ (past_in c a meter ≡ true) → awake_in c keeping meter ≡ false
  unfolding fresh_in
  asleep stale =
      fresh_awake c keeping meter
      ∙ ⊎_elim
      (λ t. let ahead : ahead_in c keeping meter ≡ true = ahead_kept ∙ t in rw ahead (by_test (read_in c keeping meter) (λ t. rw t) (λ f. rw f)))
      (λ t.
      let past : past_in c keeping meter ≡ true = past_kept ∙ t in
      rw past (by_test (read_in c keeping meter) (λ t. rw t (by_test (ahead_in c keeping meter) (λ t. rw t) (λ f. rw f))) (λ f. rw f)))
      stale

  -- IV is shown where it was sent, of one that was not stale
  shown_as_sent : Taken c meter → ahead_in c a meter ≡ false → past_in c a meter ≡ false
      → shown c keeping 82 meter ≡ bytes_of 4 (last_reading a.journal meter).stamp ++ (bytes_of 4 (of_z w32 value) ++ (bytes_of 1 status ++ bytes_of 1 seq))
  unfolding fresh_in shown
  shown_as_sent taken no_ahead no_past =
      let ahead : ahead_in c keeping meter ≡ false = ahead_kept ∙ no_ahead in
      let past : past_in c keeping meter ≡ false = past_kept ∙ no_past in
      rw (fresh_awake c keeping meter, ahead, past, after_read, taken.fitted)
      (by_test (eqb (status % 2) 1)
      (λ marked. let same : status / 2 * 2 + 1 ≡ status = omega (arith, eqb-true (status % 2) 1 marked) in rw (marked, same))
      (λ clear. rw clear))

module _ (setup : Setup) (lent : ℕ) where
  pub answers_of_readings : AnswersOfReadings setup lent
  answers_of_readings c time calls meter value status seq =
      let s = (reached setup lent c time calls).state in
      subst (λ (k : Config). reading_answer k s meter status seq ≡ answer_of_reading c (journal_of c time calls) meter status seq) (sym (config_stays setup lent c time calls))
      (reading_answer_lem c s (account_of c time calls) meter status seq (agrees setup lent c time calls))

  first_renews : FirstRenews setup lent
  first_renews c time calls meter value status seq silent e =
      let again = (kept_is c (journal_of c time calls) meter status seq (sym (answers_of_readings c time calls meter value status seq) ∙ e)).1 in
      true≢false (rw (none_heard c time calls meter silent) at again)

  repeats_shown : RepeatsShown setup lent
  unfolding bytes_of shown
  repeats_shown c accepted time calls later i buffer n read each answered =
      ap (take 4) (registers_of_history setup lent c accepted time (later ++ calls) 82 i buffer n answered) ∙ ap (bytes_of 4) (repeats_keep c time calls later i read each)

  kept_never_wakes : KeptNeverWakes setup lent
  unfolding account_of shown
  kept_never_wakes c accepted time calls meter value status seq e =
      let call = reading meter value status seq in
      let a = account_of c time calls in
      let (number, again) = kept_is c a.journal meter status seq e in
      let is : account_of c time (call ∷ calls) ≡ read c a meter value status seq = entered_is c a meter value status seq number in
      record {
        ahead = ap (λ (x : Account). ahead_in c x meter) is ∙ ahead_kept c a meter value status seq again;
        past = ap (λ (x : Account). past_in c x meter) is ∙ past_kept c a meter value status seq again;
        as_many =
            stale_is setup lent c accepted time (call ∷ calls) ∙ ap (λ (x : Account). stale_count c x) is ∙ stale_kept c a meter value status seq again
            ∙ sym (stale_is setup lent c accepted time calls);
        marked = λ buffer n stale answered.
            registers_of_history setup lent c accepted time (call ∷ calls) 82 meter buffer n answered
            ∙ ap (λ (x : Account). serial_shown (last_reading x.journal meter) (awake_in c x meter) ++ drop n buffer) is
            ∙ rw (asleep c a meter value status seq again stale, after_read c a meter value status seq again);
        as_sent = λ buffer n no_ahead no_past answered.
            registers_of_history setup lent c accepted time (call ∷ calls) 82 meter buffer n answered
            ∙ ap (λ (x : Account). shown c x 82 meter ++ drop n buffer) is
            ∙ ap (λ (bytes : List ℕ). bytes ++ drop n buffer) (shown_as_sent c a meter value status seq again (taken_is c meter status seq number) no_ahead no_past);
      }

  unmarked_was_heard : UnmarkedWasHeard setup lent
  unfolding shown
  unmarked_was_heard c accepted time calls meter buffer n answered even =
      let a = account_of c time calls in
      by_test (awake_in c a meter) (awake_was_heard c time calls meter)
      (λ f.
      let bytes : (register_reply (reached setup lent c time calls) 82 meter buffer).buffer ≡ serial_shown (last_reading a.journal meter) false ++ drop n buffer =
      registers_of_history setup lent c accepted time calls 82 meter buffer n answered
      ∙ ap (λ (awake : Bool). serial_shown (last_reading a.journal meter) awake ++ drop n buffer) f in
      absurd (omega (arith, even, ap (λ (b : List ℕ). get_or b 8 0 % 2) bytes, marked_byte (last_reading a.journal meter) (drop n buffer))))

  pub no_sign_of_life : NoSignOfLife setup lent
  no_sign_of_life =
      record {
        exactly = kept_exactly;
        answers = answers_of_readings;
        first = first_renews;
        keep = repeats_keep;
        shown = repeats_shown;
        never_wakes = kept_never_wakes;
        heard = awake_was_heard;
        unmarked = unmarked_was_heard;
      }
