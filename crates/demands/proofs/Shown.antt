-- What the registers show: classes, fleet and bytes of the state that the account spells out.
use Rattle.std.specs.Prelude.{if◌then◌else◌}
use mathlib.Core.Path.{◌≡◌, refl, sym, ap, ◌∙◌}
use mathlib.Core.Bool.{Bool, true, false, true≢false, not, ◌&&◌, ◌||◌, cond}
use mathlib.Core.List.{List, [], ◌∷◌, ◌++◌}
use Prim.Native.Nat.{ℕ, ◌+◌, ◌%◌, ◌<◌}
use native.Mathlib.Nat.{not-suc-le-zero}
use native.Mathlib.Omega.{arith}
use borrow.Author.Tests.{eqb-true, leb-false, not-true}
use lib.Dec.{ltb, leb, eqb}
use lib.IntN.{pos}
use lib.ListN.{get_or, drop}
use Rattle.laws.proofs.Tests.{by_test, and_left, and_right, cond_both}
use Rattle.laws.specs.Answers.{Answer, given, refused}
use Rattle.laws.specs.Counts.{count_of}
use Rattle.laws.specs.SignedTotal.{totalℤ}
use Rattle.laws.proofs.Tables.{table_at}
use Rattle.laws.proofs.Counts.{count_cong}
use Rattle.laws.proofs.SignedTotal.{totalℤ-cong}
use Rattle.settings.specs.declared.Config.{Config}
use Rattle.recorder.specs.Meters.{class_of, meter_at}
use Rattle.sampling.specs.declared.Meter.{Meter}
use Rattle.profile.specs.declared.Profile.{Profile}
use Rattle.recorder.specs.declared.Recorder.{Recorder}
use Rattle.recorder.specs.declared.Setup.{Setup}
use Rattle.registers.specs.Fleet.{meter_class, class_at, has_class, has_any, awake_value, awake_sum, classes_of, fleet_of}
use Rattle.registers.specs.Contents.{status_shown, serial_bytes, meter_bytes, map_bytes, result_bytes, daily_bytes, weekly_bytes, level9_bytes, level_bytes, bill_bytes, filter_bytes, fleet_bytes, clock_bytes}
use Rattle.registers.specs.Registers.{Group, groups, look_up, group_of, registers_in, registers_of, contents_of, reply_of, register_reply}
use Rattle.registers.proofs.Laws.{given_first, marked_by_class, unmarked_by_class}
use Rattle.demands.specs.Account.{Entry, took, ended, cleared, heard, Heard, readings_of, left_by, Account, Reading, last_reading, last_reset, in_use, account_of}
use Rattle.demands.specs.State.{line_in, bill_in, meter_in, state_in}
use Rattle.demands.specs.Shown.{is_never, is_stale, is_invalid, awake_in, fleet_among, fleet_in, serial_shown, bill_shown, shown}
use Rattle.demands.specs.Demand2.{reached, RegistersOfHistory, FleetOfHistory, InvalidMark, AwakeUnmarked}
use Rattle.demands.proofs.Levels.{recorder_is}

-- Classes

-- the numbers of the classes are the conditions spelled out: not fitted, read, late, marked
record Classes (none read late marked : Bool) (class : ℕ) : Type 0 where
  awake : eqb class 0 ≡ ((not none && (read && not (not none && (read && late)))) && not marked)
  stale : eqb class 1 ≡ (not none && (read && late))
  invalid : eqb class 2 ≡ ((not none && (read && not (not none && (read && late)))) && marked)
  never : eqb class 3 ≡ (not none && not read)
  fitted : ltb class 4 ≡ not none

four : (none read late marked : Bool) → Classes none read late marked (if none then 4 else if not read then 3 else if late then 1 else if marked then 2 else 0)
four true read late marked = record { awake = refl; stale = refl; invalid = refl; never = refl; fitted = refl }
four false false late marked = record { awake = refl; stale = refl; invalid = refl; never = refl; fitted = refl }
four false true true marked = record { awake = refl; stale = refl; invalid = refl; never = refl; fitted = refl }
four false true false true = record { awake = refl; stale = refl; invalid = refl; never = refl; fitted = refl }
four false true false false = record { awake = refl; stale = refl; invalid = refl; never = refl; fitted = refl }

-- a stamp is ahead of the clock, or the clock past it by more than the limit
abbrev late : ℕ → ℕ → ℕ → Bool
late limit stamp clock = ltb clock stamp || ltb (stamp + limit) clock

classes : (limit : ℕ) (m : Meter) (clock : ℕ) → Classes (eqb limit 0) m.read (late limit m.stamp clock) (eqb (m.status % 2) 1) (meter_class limit m clock)
unfolding meter_class class_of
classes limit m clock = four (eqb limit 0) m.read (late limit m.stamp clock) (eqb (m.status % 2) 1)

pub invalid_mark : InvalidMark
unfolding class_at
invalid_mark r meter buffer n e dead =
    let m = meter_at r.state.meters meter in
    marked_by_class r meter buffer n e
    (λ zero. true≢false (sym (ap (λ (k : ℕ). eqb k 0) zero) ∙ ((classes (get_or r.config.limits meter 0) m r.state.clock).awake ∙ dead)))

pub awake_unmarked : AwakeUnmarked
unfolding class_at
awake_unmarked r meter buffer n e alive =
    let m = meter_at r.state.meters meter in
    unmarked_by_class r meter buffer n e (eqb-true _ 0 ((classes (get_or r.config.limits meter 0) m r.state.clock).awake ∙ alive))

-- The recorder that the account spells out

module _ (setup : Setup) (profile : Profile) (c : Config) (a : Account) where
  abbrev pub spelled : Recorder
  spelled = record { config = c; setup = setup; state = state_in c a; profile = profile }

  abbrev limit : ℕ → ℕ
  limit i = get_or c.limits i 0

  abbrev last : ℕ → Reading
  last i = last_reading a.journal i

  meter_is : (i : ℕ) → i < 32 → meter_at (state_in c a).meters i ≡ meter_in (last i)
  unfolding state_in
  meter_is i l = table_at 32 (λ i. meter_in (last i)) i _ l

  -- the class of meter i
  class_is : (i : ℕ) → i < 32 → class_at c.limits (state_in c a).meters (state_in c a).clock i ≡ meter_class (limit i) (meter_in (last i)) a.time.second
  unfolding class_at state_in
  class_is i l = ap (λ (m : Meter). meter_class (limit i) m a.time.second) (meter_is i l)

  listed : (i : ℕ) → i < 32 → get_or (classes_of spelled) i 0 ≡ meter_class (limit i) (meter_in (last i)) a.time.second
  listed i l = table_at 32 (class_at c.limits (state_in c a).meters (state_in c a).clock) i 0 l ∙ class_is i l

  -- the conditions on meter i
  conditions : (i : ℕ) → Classes (eqb (limit i) 0) (last i).read (late (limit i) (last i).stamp a.time.second) (eqb ((last i).status % 2) 1) (meter_class (limit i) (meter_in (last i)) a.time.second)
  conditions i = classes (limit i) (meter_in (last i)) a.time.second

  awake_is : (i : ℕ) → i < 32 → has_class (classes_of spelled) 0 i ≡ awake_in c a i
  unfolding has_class awake_in
  awake_is i l = rw (listed i l) (conditions i).awake

  -- the fleet of the meters that a test names
  pub fleet_counts : (own : ℕ → Bool)
      → record {
        fitted = count_of 32 (λ i. own i && has_any (classes_of spelled) i);
        awake = count_of 32 (λ i. own i && has_class (classes_of spelled) 0 i);
        stale = count_of 32 (λ i. own i && has_class (classes_of spelled) 1 i);
        invalid = count_of 32 (λ i. own i && has_class (classes_of spelled) 2 i);
        never = count_of 32 (λ i. own i && has_class (classes_of spelled) 3 i);
        sum = totalℤ 32 (λ i. cond (own i) (awake_value (classes_of spelled) (state_in c a).meters i) (pos 0));
      }
      ≡ fleet_among own c a
  unfolding has_class has_any awake_value
  fleet_counts own =
      let count : (p q : ℕ → Bool) → ((i : ℕ) → i < 32 → p i ≡ q i) → count_of 32 (λ i. own i && p i) ≡ count_of 32 (λ i. own i && q i) =
      λ p q same. count_cong 32 _ _ (λ i l. ap (λ (x : Bool). own i && x) (same i l)) in
      let fitted = count (λ i. ltb (get_or (classes_of spelled) i 0) 4) (λ i. not (eqb (limit i) 0)) (λ i l. rw (listed i l) (conditions i).fitted) in
      let awake = count (λ i. eqb (get_or (classes_of spelled) i 0) 0) (awake_in c a) awake_is in
      let stale = count (λ i. eqb (get_or (classes_of spelled) i 0) 1) (λ i. is_stale (limit i) (last i).read (last i).stamp a.time.second) (λ i l. rw (listed i l) (conditions i).stale) in
      let invalid = count (λ i. eqb (get_or (classes_of spelled) i 0) 2) (λ i. is_invalid (limit i) (last i).read (last i).stamp (last i).status a.time.second) (λ i l. rw (listed i l) (conditions i).invalid) in
      let never = count (λ i. eqb (get_or (classes_of spelled) i 0) 3) (λ i. is_never (limit i) (last i).read) (λ i l. rw (listed i l) (conditions i).never) in
      let sum : totalℤ 32 (λ i. cond (own i) (cond (has_class (classes_of spelled) 0 i) (meter_at (state_in c a).meters i).value (pos 0)) (pos 0)) ≡ totalℤ 32 (λ i. cond (own i && awake_in c a i) (last i).value (pos 0)) =
      totalℤ-cong 32 _ _ (λ i l. rw (awake_is i l, meter_is i l) (sym (cond_both (own i) (awake_in c a i) (last i).value (pos 0)))) in
      rw (fitted, awake, stale, invalid, never, sum)

  fleet_is : fleet_of spelled ≡ fleet_in c a
  unfolding fleet_of fleet_in awake_sum
  fleet_is = fleet_counts (λ i. true)

  -- Bytes

  -- readings that leave a meter unread are none
  none_left : (h : List Heard) → (left_by h).read ≡ false → left_by h ≡ record { read = false; stamp = 0; value = pos 0; status = 0; seq = 0 }
  none_left [] e = refl
  none_left (last ∷ earlier) e = absurd (true≢false e)

  -- a meter that was never read has zeros
  unread : (journal : List Entry) (i : ℕ) → (last_reading journal i).read ≡ false → last_reading journal i ≡ record { read = false; stamp = 0; value = pos 0; status = 0; seq = 0 }
  unread journal i e = none_left (readings_of journal i) e

  -- a bill that was never reset has no closed amount
  unclosed : (j : ℕ) (journal : List Entry) → (last_reset c j journal).reset ≡ false → last_reset c j journal ≡ record { reset = false; amount = 0; stamp = 0 }
  unclosed j [] e = refl
  unclosed j (took bits t ∷ l) e = unclosed j l e
  unclosed j (ended state t ∷ l) e = unclosed j l e
  unclosed j (cleared t ∷ l) e = absurd (true≢false e)
  unclosed j (heard t meter v status seq ∷ l) e = unclosed j l e

  serial_is : (i : ℕ) → i < 32 → meter_bytes c (state_in c a) i ≡ serial_shown (last i) (awake_in c a i)
  unfolding meter_bytes serial_bytes status_shown awake_in
  serial_is i l =
      rw (class_is i l, meter_is i l)
      (by_test (eqb (meter_class (limit i) (meter_in (last i)) a.time.second) 3)
      (λ never.
      let both : (not (eqb (limit i) 0) && not (last i).read) ≡ true = sym (conditions i).never ∙ never in
      rw (never, unread a.journal i (not-true _ (and_right (not (eqb (limit i) 0)) (not (last i).read) both)), and_left (not (eqb (limit i) 0)) (not (last i).read) both))
      (λ heard. rw (heard, (conditions i).awake)))

  bill_is : (j : ℕ) → bill_bytes (bill_in c a.journal j) ≡ bill_shown (bill_in c a.journal j)
  unfolding bill_bytes bill_in
  bill_is j =
      by_test (in_use c j)
      (λ u.
      by_test (last_reset c j a.journal).reset (λ t. rw (u, t)) (λ f. rw (u, unclosed j a.journal f)))
      (λ f. rw f)

  -- each line of the table holds what the account shows, in as many registers as it has
  pub contents_are : (group i : ℕ) → i < registers_of group → contents_of spelled group i ≡ shown c a group i
  unfolding groups look_up shown map_bytes daily_bytes weekly_bytes result_bytes level_bytes level9_bytes filter_bytes fleet_bytes clock_bytes state_in
  contents_are group i l =
      by_test (eqb group 82) (λ t. rw t (serial_is i (rw t at l)))
      (λ a₁.
      by_test (eqb group 89) (λ t. rw (a₁, t))
      (λ a₂.
      by_test (eqb group 90) (λ t. rw (a₁, a₂, t))
      (λ a₃.
      by_test (eqb group 91) (λ t. rw (a₁, a₂, a₃, t))
      (λ a₄.
      by_test (eqb group 201) (λ t. rw (a₁, a₂, a₃, a₄, t))
      (λ a₅.
      by_test (eqb group 202) (λ t. rw (a₁, a₂, a₃, a₄, a₅, t) (ap bill_bytes (table_at 16 (bill_in c a.journal) i _ (rw (a₁, a₂, a₃, a₄, a₅, t) at l)) ∙ bill_is i))
      (λ a₆.
      by_test (eqb group 203) (λ t. rw (a₁, a₂, a₃, a₄, a₅, a₆, t) (ap filter_bytes (table_at 16 (line_in c a.journal) i _ (rw (a₁, a₂, a₃, a₄, a₅, a₆, t) at l))))
      (λ a₇.
      by_test (eqb group 204) (λ t. rw (a₁, a₂, a₃, a₄, a₅, a₆, a₇, t) (ap fleet_bytes fleet_is))
      (λ a₈.
      by_test (eqb group 206) (λ t. rw (a₁, a₂, a₃, a₄, a₅, a₆, a₇, a₈, t))
      (λ a₉. absurd (not-suc-le-zero (rw (a₁, a₂, a₃, a₄, a₅, a₆, a₇, a₈, a₉) at l)))))))))))

-- a register that was given is one of its group's
in_group : (r : Recorder) (group i : ℕ) (buffer : List ℕ) (n : ℕ) → (register_reply r group i buffer).answer ≡ given n → i < registers_of group
unfolding register_reply
in_group r group i buffer n = go (group_of group)
  where
    go : (g : Answer Group) → (reply_of g r i buffer).answer ≡ given n → i < registers_in g
    go (refused m o) e = let q : ◌≡◌ {A = ℕ} 0 1 = cc in absurd (omega arith)
    go (given g) e =
        by_test (leb g.registers i)
        (λ t. let none : ◌≡◌ {A = Answer ℕ} (refused 12 0) (given n) = rw t at e in let q : ◌≡◌ {A = ℕ} 0 1 = cc in absurd (omega arith))
        (λ f. leb-false g.registers i f)

-- A start with any chosen slots and a buffer of any length
module _ (setup : Setup) (lent : ℕ) where
  pub registers_of_history : RegistersOfHistory setup lent
  registers_of_history c accepted time calls group i buffer n e =
      let a = account_of c time calls in
      let r = reached setup lent c time calls in
      (given_first r group i buffer n e).2
      ∙ ap (λ (bytes : List ℕ). bytes ++ drop n buffer)
      (ap (λ (x : Recorder). contents_of x group i) (recorder_is setup lent c accepted.good time calls) ∙ contents_are setup r.profile c a group i (in_group r group i buffer n e))

  pub fleet_of_history : FleetOfHistory setup lent
  fleet_of_history c accepted time calls =
      ap fleet_of (recorder_is setup lent c accepted.good time calls) ∙ fleet_is setup (reached setup lent c time calls).profile c (account_of c time calls)
