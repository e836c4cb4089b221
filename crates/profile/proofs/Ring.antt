-- The buffer holds the last records. The j-th newest stands j places before the newest, from the last place again before the first.
use Rattle.std.specs.Prelude.{if◌then◌else◌}
use mathlib.Core.Path.{◌≡◌, refl, sym, ap, subst, ◌∙◌}
use mathlib.Core.Bool.{true}
use mathlib.Core.List.{List, [], ◌∷◌}
use Prim.Native.Nat.{ℕ, zero, suc, ◌+◌, ◌-◌, ◌*◌, ◌%◌, ◌<◌, ◌≤◌, min}
use native.Mathlib.Nat.{mod-lt, mod-le, mod-eq_of_lt}
use native.Mathlib.Omega.{arith}
use lib.Dec.{ltb}
use lib.ListN.{length, get_or, take, drop, length-append, length-take, length-reverse}
use lib.Seq.{sets, get_or-take}
use mir.Syntax.{w64}
use mir.Val.{of_z}
use borrow.Author.Tests.{lt-ltb, le-ltb, ltb-true, ltb-false, eq-eqb}
use Rattle.laws.specs.Each.{Each}
use Rattle.laws.proofs.Tests.{by_test, and_both}
use Rattle.laws.proofs.Bytes.{length_bytes_of}
use Rattle.laws.proofs.Runs.{length_joined}
use Rattle.laws.proofs.Stores.{part_stored, drop_later, drop_behind, part_before}
use Rattle.laws.proofs.Cycles.{round, reversed}
use Rattle.profile.specs.Records.{value_bytes, record_bytes}
use Rattle.profile.specs.Room.{legal_length, as_at_start, room_for, within, next_place, moved_on, written, Kept, kept, with_record, fresh_profile}
use Rattle.profile.specs.Reading.{place_at, record_at}
use Rattle.profile.specs.Laws.{profile_after, MovesOn, put_all, last_of, EightValues, RoomAlone, HoldsLast, LastRecords}
use Rattle.profile.specs.declared.Profile.{Profile}
use Rattle.profile.specs.declared.records.Record.{Record}
use Rattle.profile.proofs.Places.{some_room, legal_is, start_is, next_fits}
use Rattle.profile.proofs.Puts.{put_is, put_long, written_long}

-- a record with eight values has 69 bytes
pub record_long : (r : Record) → EightValues r → length (record_bytes r) ≡ 69
unfolding record_bytes
record_long r eight =
    rw (length-append, length-append, length_bytes_of, length_bytes_of, length_joined value_bytes 8 (λ v. length_bytes_of 8 (of_z w64 v)) r.values, eight)

-- a record that is put leaves what stands past the room
past_room : (k : Kept) (r : Record) → EightValues r →
    let past = 69 * room_for (length k.buffer) in drop past (with_record k r).buffer ≡ drop past k.buffer
unfolding with_record written
past_room k r eight =
    let p = k.profile in
    let n = length k.buffer in
    by_test (as_at_start p n)
    (λ t. rw t (drop_behind k.buffer (69 * next_place p) (69 * room_for n) (record_bytes r) (rw (record_long r eight) (omega (arith, start_is p n t, next_fits p n t)))))
    (λ f. rw f)

pub room_alone : RoomAlone
room_alone k [] e = (refl, refl)
room_alone k (r ∷ later) e =
    let long = put_long k r in
    let rest = room_alone (with_record k r) later e.1 in
    ((rw long at rest.0) ∙ past_room k r e.0, rest.1 ∙ long)

-- the place of the j-th newest record
abbrev back : ℕ → ℕ → ℕ → ℕ
back room next j = if ltb j next then next - suc j else next + room - suc j

-- where the next place is within the room it is the place
within_is : (room next : ℕ) → next < room → within room next ≡ next
unfolding within
within_is room next h = rw (lt-ltb next room h)

-- a place behind it, from the first again
abbrev following : ℕ → ℕ → ℕ
following room next = if ltb (next + 1) room then next + 1 else 0

-- the newest stands in the place before the next
newest_back : (room next : ℕ) → next < room → back room (following room next) 0 ≡ next
newest_back room next h =
    by_test (ltb (next + 1) room)
    (λ t. rw (t, lt-ltb 0 (next + 1) (omega arith)) (omega arith))
    (λ f. rw f (omega (arith, ltb-false (next + 1) room f)))

-- each other stands where it stood
other_back : (room next j : ℕ) → next < room → suc j < room → back room (following room next) (suc j) ≡ back room next j
other_back room next j h k =
    by_test (ltb (next + 1) room)
    (λ t.
    by_test (ltb j next)
    (λ u. rw (t, u, lt-ltb (suc j) (next + 1) (omega (arith, ltb-true j next u))) (omega arith))
    (λ u. rw (t, u, le-ltb (suc j) (next + 1) (omega (arith, ltb-false j next u))) (omega arith)))
    (λ f.
    let last = ltb-false (next + 1) room f in
    rw (f, lt-ltb j next (omega (arith, last)), le-ltb (suc j) 0 (omega arith)) (omega (arith, last)))

-- and that is another place than the newest's
back_other : (room next j : ℕ) → next < room → suc j < room → back room next j ≡ next → ⊥
back_other room next j h k =
    by_test (ltb j next)
    (λ u. rw u (λ e. omega (arith, ltb-true j next u)))
    (λ u. rw u (λ e. omega (arith, ltb-false j next u)))

-- a record that is put leaves each other place as it was
other_place : (b : List ℕ) (next q : ℕ) (bytes : List ℕ) → length bytes ≡ 69 → (q ≡ next → ⊥) → record_at (sets b (69 * next) bytes) q ≡ record_at b q
other_place b next q bytes long other =
    by_test (ltb q next)
    (λ t. part_before b (69 * next) (69 * q) 69 bytes (omega (arith, ltb-true q next t)))
    (λ f.
    by_test (ltb next q)
    (λ t. ap (take 69) (drop_behind b (69 * next) (69 * q) bytes (omega (arith, ltb-true next q t))))
    (λ g. absurd (other (omega (arith, ltb-false q next f, ltb-false next q g)))))

pub moves_on : MovesOn
unfolding moved_on within
moves_on n count h =
    let room = room_for n in
    let some : 0 < room = omega arith in
    let next : within room (within room (count % room) + 1) ≡ suc count % room =
    rw (lt-ltb (count % room) room (mod-lt count some)) (sym (round count room some)) in
    let held : min (min count room + 1) room ≡ min (suc count) room = omega arith in
    (λ i. record { length = n; next = next i; held = held i })

-- what a profile and its buffer are after records, newest first
record Ring (buffer : List ℕ) (records : List Record) (k : Kept) : Type 0 where
  profile : k.profile ≡ profile_after (length buffer) (length records)
  each : (none : Record) (j : ℕ) → j < min (length records) (room_for (length buffer))
      → record_at k.buffer (back (room_for (length buffer)) (length records % room_for (length buffer)) j) ≡ record_bytes (get_or records j none)
  rest : let held = min (length records) (room_for (length buffer)) in drop (69 * held) k.buffer ≡ drop (69 * held) buffer
  same : length k.buffer ≡ length buffer

module _ (buffer : List ℕ) (legal : legal_length (length buffer) ≡ true) where
  -- the room, and that there is some
  abbrev room : ℕ
  room = room_for (length buffer)

  some : 0 < room
  some = some_room (length buffer) legal

  started : Ring buffer [] (kept (fresh_profile (length buffer)) buffer)
  started =
      record {
        profile = let next : 0 ≡ 0 % room = sym (mod-eq_of_lt some) in let held : 0 ≡ min 0 room = omega arith in (λ i. record { length = length buffer; next = next i; held = held i });
        each = λ none j h. absurd (omega arith);
        rest = refl;
        same = refl;
      }

  module _ (records : List Record) (b : List ℕ) (old : Ring buffer records (kept (profile_after (length buffer) (length records)) b)) (r : Record) (eight : EightValues r) where
    -- the profile before, its next place, and that it is within the room
    abbrev before : Profile
    before = profile_after (length buffer) (length records)

    abbrev next : ℕ
    next = length records % room

    next_small : next < room
    next_small = mod-lt (length records) some

    right : as_at_start before (length b) ≡ true
    right = and_both (legal_length (length b)) _ (rw old.same legal) (eq-eqb _ _ old.same)

    put_here : written before r b ≡ sets b (69 * next) (record_bytes r)
    unfolding written
    put_here = ap (λ (n : ℕ). sets b (69 * n) (record_bytes r)) (within_is room next next_small)

    bytes : length (record_bytes r) ≡ 69
    bytes = record_long r eight

    fits : 69 * next + 69 ≤ length b
    fits = omega (arith, next_small, old.same)

    next_is : suc (length records) % room ≡ following room next
    next_is = round (length records) room some

    -- what stands behind the records, of which there may be one more
    rest_more : let held = min (length (r ∷ records)) room in drop (69 * held) (written before r b) ≡ drop (69 * held) buffer
    rest_more =
        let held = min (length (r ∷ records)) room in
        let few : next ≤ length records = mod-le (length records) room in
        rw put_here
        (drop_behind b (69 * next) (69 * held) (record_bytes r) (rw bytes (omega (arith, next_small, few)))
        ∙ drop_later (69 * min (length records) room) (69 * held) b buffer (omega arith) old.rest)

    each_more : (none : Record) (j : ℕ) → j < min (length (r ∷ records)) room
        → record_at (written before r b) (back room (length (r ∷ records) % room) j) ≡ record_bytes (get_or (r ∷ records) j none)
    each_more none zero h =
        rw (put_here, next_is, newest_back room next next_small)
        (ap (λ (n : ℕ). take n (drop (69 * next) (sets b (69 * next) (record_bytes r)))) (sym bytes) ∙ part_stored b (69 * next) (record_bytes r) (rw bytes fits))
    each_more none (suc j) h =
        rw (put_here, next_is, other_back room next j next_small (omega arith))
        (other_place b next (back room next j) (record_bytes r) bytes (back_other room next j next_small (omega arith)) ∙ old.each none j (omega arith))

    one_more_lem : Ring buffer (r ∷ records) (kept (moved_on before) (written before r b))
    one_more_lem =
        record {
          profile = moves_on (length buffer) (length records) (legal_is (length buffer) legal).0;
          each = each_more;
          rest = rest_more;
          same = written_long before r b ∙ old.same;
        }

  -- after all records
  ring : (records : List Record) → Each EightValues records → Ring buffer records (put_all buffer records)
  ring [] e = started
  ring (r ∷ records) e =
      let k = put_all buffer records in
      let q = profile_after (length buffer) (length records) in
      let known = ring records e.1 in
      let there : put_all buffer records ≡ kept q k.buffer = ap (λ (p : Profile). kept p k.buffer) known.profile in
      let old : Ring buffer records (kept q k.buffer) = subst (Ring buffer records) there known in
      rw (there, put_is q k.buffer (right records k.buffer old r e.0) r) (one_more_lem records k.buffer old r e.0)

  module _ (records : List Record) where
    -- an index from the oldest is one from the newest
    from_oldest : (i : ℕ) → i < min (length records) room → place_at (profile_after (length buffer) (length records)) i ≡ back room (length records % room) (min (length records) room - suc i)
    unfolding place_at
    from_oldest i h =
        let n = length records in
        let m = room in
        let small : n % m < m = mod-lt n some in
        by_test (ltb (min n m) m)
        (λ t.
        let few : n < m = omega (arith, ltb-true (min n m) m t) in
        let next : n % m ≡ n = mod-eq_of_lt few in
        rw (t, lt-ltb (0 + i) m (omega arith), lt-ltb (min n m - suc i) (n % m) (omega (arith, next))) (omega (arith, next)))
        (λ f.
        let full : m ≤ n = omega (arith, ltb-false (min n m) m f) in
        by_test (ltb (n % m + i) m)
        (λ u. rw (f, within_is m (n % m) small, u, le-ltb (min n m - suc i) (n % m) (omega (arith, ltb-true (n % m + i) m u))) (omega arith))
        (λ u. rw (f, within_is m (n % m) small, u, lt-ltb (min n m - suc i) (n % m) (omega (arith, ltb-false (n % m + i) m u))) (omega (arith, small, ltb-false (n % m + i) m u))))

    -- how many are held
    last_long : length (last_of (length buffer) records) ≡ min (length records) room
    last_long = length-reverse (take room records) ∙ length-take room records ∙ omega arith

    holds : (k : Kept) → Ring buffer records k → HoldsLast buffer records k
    holds k is =
        record {
          profile = is.profile;
          each = λ none i h.
              let n = min (length records) room in
              let in_list : i < length (take room records) = rw (← length-reverse (take room records)) h in
              let few : i < n = rw last_long at h in
              let count : length (take room records) - suc i ≡ n - suc i = ap (λ (k : ℕ). k - suc i) (sym (length-reverse (take room records)) ∙ last_long) in
              rw (is.profile, from_oldest i few, reversed (take room records) i none in_list, count, get_or-take room records (n - suc i) none (omega arith)) (is.each none (n - suc i) (omega arith));
          rest = is.rest;
          same = is.same;
        }

pub last_records : LastRecords
last_records buffer legal records e = holds buffer legal records (put_all buffer records) (ring buffer legal records e)
