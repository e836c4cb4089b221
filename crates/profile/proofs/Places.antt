-- The places of records: what the code works out step by step, and that they are within the room.
use mathlib.Core.Path.{◌≡◌, sym, ◌∙◌}
use mathlib.Core.Bool.{Bool, true}
use Prim.Native.Nat.{ℕ, ◌+◌, ◌*◌, ◌<◌, ◌≤◌}
use native.Mathlib.Omega.{arith}
use lib.Dec.{ltb, leb, eqb}
use borrow.Author.Tests.{ltb-true, ltb-false, leb-true, eqb-true}
use Rattle.laws.proofs.Tests.{by_test, and_left, and_right}
use Rattle.profile.specs.Room.{legal_length, as_at_start, room_for, room_of, within, next_place}
use Rattle.profile.specs.Reading.{held_in, oldest_of, place_at}
use Rattle.profile.specs.declared.Profile.{Profile}

-- a place is within a room that there is
within_room : (room place : ℕ) → 0 < room → within room place < room
unfolding within
within_room room place h = by_test (ltb place room) (λ t. rw t (ltb-true place room t)) (λ f. rw f h)

-- and never past it
pub within_small : (room place : ℕ) → within room place ≤ room
unfolding within
within_small room place = by_test (ltb place room) (λ t. rw t (omega (arith, ltb-true place room t))) (λ f. rw f (omega arith))

-- the oldest place is never past the room
pub oldest_small : (p : Profile) → oldest_of p ≤ room_of p
oldest_small p = by_test (ltb p.held (room_of p)) (λ t. rw t (omega arith)) (λ f. rw f (within_small (room_of p) p.next))

-- a length that is within the limits
pub legal_is : (n : ℕ) → legal_length n ≡ true → (69 ≤ n) × (n ≤ 65_536)
legal_is n e = (leb-true 69 n (and_left (leb 69 n) (leb n 65_536) e), leb-true n 65_536 (and_right (leb 69 n) (leb n 65_536) e))

-- a length that is that of the start
pub start_is : (p : Profile) (n : ℕ) → as_at_start p n ≡ true → n ≡ p.length
start_is p n e = eqb-true n p.length (and_right (legal_length n) (eqb n p.length) e)

-- it has room for a record
pub some_room : (n : ℕ) → legal_length n ≡ true → 0 < room_for n
some_room n e = omega (arith, (legal_is n e).0)

-- a place within the room is within the buffer
place_fits : (p : Profile) (n place : ℕ) → as_at_start p n ≡ true → place < room_of p → 69 * place + 69 ≤ n
place_fits p n place e h = omega (arith, start_is p n e, h)

-- the next place is within the room
pub next_fits : (p : Profile) (n : ℕ) → as_at_start p n ≡ true → next_place p < room_of p
next_fits p n e = within_room (room_of p) p.next (rw (← start_is p n e) (some_room n (and_left (legal_length n) (eqb n p.length) e)))

-- and so is the place of each record
index_fits : (p : Profile) (n index : ℕ) → as_at_start p n ≡ true → index < room_of p → place_at p index < room_of p
unfolding place_at
index_fits p n index e h =
    let room = room_of p in
    let place = oldest_of p + index in
    by_test (ltb place room) (λ t. rw t (ltb-true place room t)) (λ f. rw f (omega (arith, ltb-false place room f, oldest_small p)))

-- so the bytes of the next record, and of each that is held, are within the buffer, as the code finds its place
module _ (p : Profile) (n : ℕ) {right : Bool} (is : right ≡ as_at_start p n) (e : right ≡ true) where
  abbrev start : as_at_start p n ≡ true
  start = sym is ∙ e

  pub next_bytes : {place : ℕ} → place ≡ next_place p → 69 * place + 69 ≤ n
  next_bytes at = rw at (place_fits p n (next_place p) start (next_fits p n start))

  pub held_bytes : (index : ℕ) {held place : ℕ} → held ≡ held_in p → index < held → place ≡ place_at p index → 69 * place + 69 ≤ n
  held_bytes index count h at = rw at (place_fits p n (place_at p index) start (index_fits p n index start (omega (arith, count))))
