-- The laws of specs/Laws.antt on requests.
use mathlib.Core.Path.{◌≡◌, refl, ◌∙◌}
use mathlib.Core.Bool.{true, not}
use mathlib.Core.List.{List, ◌++◌}
use Prim.Native.Nat.{ℕ, ◌%◌, ◌≤◌}
use native.Mathlib.Omega.{arith}
use borrow.Author.Tests.{not-false, leb-true, ne_eqb}
use lib.Dec.{eqb, leb}
use lib.IntN.{ℤ}
use lib.ListN.{length, get_or, drop}
use Rattle.laws.proofs.If.{if_cases}
use Rattle.laws.proofs.Tests.{by_test}
use Rattle.laws.specs.Answers.{Answer, given, refused}
use Rattle.laws.specs.Bytes.{bytes_of}
use Rattle.recorder.proofs.Ages.{class_cases}
use Rattle.recorder.specs.declared.Recorder.{Recorder}
use Rattle.counting.specs.declared.Bill.{Bill}
use Rattle.sampling.specs.declared.Meter.{Meter}
use Rattle.registers.specs.Contents.{status_shown, serial_bytes, meter_bytes, map_bytes, result_bytes, daily_bytes, weekly_bytes, level9_bytes, level_bytes, bill_bytes, filter_bytes, fleet_bytes, clock_bytes}
use Rattle.recorder.specs.Meters.{meter_at}
use Rattle.registers.specs.Fleet.{meter_class, class_at}
use Rattle.registers.specs.Registers.{Group, groups, look_up, group_of, held_by, RegisterReply, refusal, register_read, reply_of, register_reply}
use Rattle.registers.specs.Laws.{BytesAsTable, RefusedLeaves, GivenFirst, MarkedByClass, UnmarkedByClass}
use Rattle.registers.proofs.Groups.{each_found}

serial_long : (m : Meter) (class : ℕ) → length (serial_bytes m class) ≡ 10
unfolding bytes_of serial_bytes
serial_long m class = by_test (eqb class 3) (λ e. rw e) (λ e. rw e)

level9_long : (state stamp : ℕ) (value : ℤ) → length (level9_bytes state stamp value) ≡ 13
unfolding bytes_of level9_bytes
level9_long state stamp value = by_test (eqb state 0) (λ e. rw e) (λ e. rw e)

bill_long : (b : Bill) → length (bill_bytes b) ≡ 13
unfolding bytes_of bill_bytes
bill_long b = by_test b.reset (λ e. rw e) (λ e. rw e)

pub bytes_as_table : BytesAsTable
unfolding groups bytes_of meter_bytes map_bytes result_bytes daily_bytes weekly_bytes level_bytes filter_bytes fleet_bytes clock_bytes
bytes_as_table = (
  λ r i. serial_long _ _,
  (
    λ r i. refl,
    (
      λ r i. refl,
      (
        λ r i. refl,
        (
          λ r i. level9_long _ _ _,
          (
            λ r i. bill_long _,
            (
              λ r i. refl,
              (
                λ r i. refl,
                (λ r i. refl, tt),
              ),
            ),
          ),
        ),
      ),
    ),
  ),
)

-- a register that the table has holds as many bytes as its line says
pub held_long : (group : ℕ) (g : Group) → group_of group ≡ given g → (r : Recorder) (i : ℕ) → length (g.holds r i) ≡ g.bytes
held_long group g found = each_found (λ x. (r : Recorder) (i : ℕ) → length (x.holds r i) ≡ x.bytes) groups group g found bytes_as_table

-- a claim on replies, by the way that a request goes
by_way : (P : RegisterReply → Type 0) (g : Group) (r : Recorder) (i : ℕ) (buffer : List ℕ)
    → P (refusal 12 buffer) → P (refusal 8 buffer) → P (refusal 13 buffer)
    → (leb g.bytes (length buffer) ≡ true → P (register_read g.bytes (g.holds r i) buffer))
    → P (reply_of (given g) r i buffer)
by_way P g r i buffer no_register not_fitted no_room read =
    if_cases P (leb g.registers i) (λ e. no_register)
    (λ e.
    if_cases P (not (g.in_use r.config i)) (λ f. not_fitted)
    (λ f. if_cases P (not (leb g.bytes (length buffer))) (λ t. no_room) (λ t. read (not-false _ t))))

pub refused_leaves : RefusedLeaves
unfolding register_reply
refused_leaves r group register buffer n offset = leaves (group_of group)
  where
    leaves : (a : Answer Group) → (reply_of a r register buffer).answer ≡ refused n offset → (reply_of a r register buffer).buffer ≡ buffer
    leaves (refused m at) = λ e. refl
    leaves (given g) =
        by_way (λ reply. reply.answer ≡ refused n offset → reply.buffer ≡ buffer) g r register buffer
        (λ e. refl) (λ e. refl) (λ e. refl) (λ room e. absurd cc)

-- what a request that was answered has given
pub given_first : GivenFirst
unfolding register_reply
given_first r group register buffer n = first (group_of group) refl
  where
    first : (a : Answer Group) → group_of group ≡ a → (reply_of a r register buffer).answer ≡ given n
        → (length (held_by a r register) ≡ n) × (n ≤ length buffer) × ((reply_of a r register buffer).buffer ≡ held_by a r register ++ drop n buffer)
    first (refused m at) q = λ e. absurd cc
    first (given g) q =
        by_way (λ reply. reply.answer ≡ given n → (length (g.holds r register) ≡ n) × (n ≤ length buffer) × (reply.buffer ≡ g.holds r register ++ drop n buffer)) g r register buffer
        (λ e. absurd cc) (λ e. absurd cc) (λ e. absurd cc)
        (λ room e.
        let same : g.bytes ≡ n = cc in
        (held_long group g q r register ∙ same, rw (← same) (leb-true _ _ room), rw same))

-- the STATUS byte of a meter that is not awake is odd
serial_mark : (m : Meter) (class : ℕ) (rest : List ℕ) → (class ≡ 0 → ⊥) → get_or (serial_bytes m class ++ rest) 8 0 % 2 ≡ 1
unfolding bytes_of status_shown serial_bytes
serial_mark m class rest h = by_test (eqb class 3) (λ e. rw e) (λ e. rw (e, ne_eqb class 0 h) (omega arith))

pub marked_by_class : MarkedByClass
unfolding look_up groups meter_bytes
marked_by_class r meter buffer n e h =
    let read = given_first r 82 meter buffer n e in
    rw read.2 (serial_mark (meter_at r.state.meters meter) (class_at r.config.limits r.state.meters r.state.clock meter) (drop n buffer) h)

-- an awake meter has no IV
awake_even : (limit : ℕ) (m : Meter) (clock : ℕ) → meter_class limit m clock ≡ 0 → m.status % 2 ≡ 0
unfolding meter_class
awake_even limit m clock =
    let P : ℕ → Type 0 = λ k. k ≡ 0 → m.status % 2 ≡ 0 in
    if_cases P (eqb limit 0) (λ a e. absurd (omega arith))
    (λ a.
    class_cases P limit m.read m.stamp m.status clock (λ e. absurd (omega arith)) (λ e. absurd (omega arith)) (λ d e. absurd (omega arith)) (λ d e. omega (arith, d)))

pub unmarked_by_class : UnmarkedByClass
unfolding look_up groups bytes_of status_shown serial_bytes meter_bytes class_at
unmarked_by_class r meter buffer n e h =
    let read = given_first r 82 meter buffer n e in
    let even = awake_even _ (meter_at r.state.meters meter) _ h in
    rw (read.2, h) (omega arith)
