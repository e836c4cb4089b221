-- Blocks (specs/Blocks.antt): what the tests of the code come to, one after another; that a block is what stands around bytes, and that one changed byte shows (specs/Laws.antt, BlockAroundBytes and OneByteChanged).
use mathlib.Core.Path.{◌≡◌, refl, sym, ap, ◌∙◌}
use mathlib.Core.Bool.{true, false, ◌&&◌, true≢false}
use mathlib.Core.List.{List, [], ◌∷◌, ◌++◌, append_assoc}
use Prim.Native.Nat.{ℕ, zero, suc, ◌+◌, ◌-◌, ◌≤◌, ◌<◌}
use native.Mathlib.Nat.{le_of_suc-le-suc, not-suc-le-zero}
use native.Mathlib.Numerals.{add-one}
use native.Mathlib.Omega.{arith}
use Rattle.std.specs.List.{list_any}
use borrow.Author.Tests.{eq-eqb, eqb-true, not-true}
use lib.Bits.{bit_xor, xor_comm, xor_self}
use lib.Dec.{eqb}
use lib.ListN.{length, get_or, set, take, drop, length-drop, length-append, take-append-drop, drop_of_length-le}
use lib.Seq.{get_or-drop, take-suc, take-append_seam, drop-append_seam, length-take-le}
use Rattle.laws.specs.Leading.{leading}
use Rattle.laws.proofs.Leading.{leading_exactly, leading_each}
use Rattle.laws.proofs.Suffixes.{head_at, next_at, length_at, from_letter, at_letter}
use Rattle.laws.proofs.Tests.{by_test, and_left, and_right}
use Rattle.laws.proofs.Xor.{xor_same}
use Rattle.readout.specs.DataSets.{AllOf}
use Rattle.readout.specs.Blocks.{xor_from, not_etx, block_around, is_block}
use Rattle.readout.specs.Laws.{BlockAroundBytes, OneByteChanged}

-- Bytes that are a block, taken apart from both ends

-- ETX is found nowhere among bytes that are all others
no_etx : (l : List ℕ) → AllOf not_etx l → list_any (λ b. eqb b 3) l ≡ false
no_etx [] h = refl
no_etx (b ∷ rest) h = rw (not-true (eqb b 3) h.0) (no_etx rest h.1)

others : (l : List ℕ) → list_any (λ b. eqb b 3) l ≡ false → AllOf not_etx l
others [] e = tt
others (b ∷ rest) e = by_test (eqb b 3) (λ t. absurd (true≢false (rw t at e))) (λ t. (rw t refl, others rest (rw t at e)))

-- STX, bytes other than ETX, ETX, and the exclusive or of all between the first byte and the last
pub record Parts (b : List ℕ) : Type 0 where
  pub long : 3 ≤ length b
  pub stx : get_or b 0 0 ≡ 2
  pub etx : get_or b (length b - 2) 0 ≡ 3
  pub inside : list_any (λ b. eqb b 3) (take (length b - 2 - 1) (drop 1 b)) ≡ false
  pub check : get_or b (length b - 1) 0 ≡ xor_from 0 (take (length b - 1 - 1) (drop 1 b))

module _ (b : List ℕ) where
  abbrev n : ℕ
  n = leading not_etx (drop 1 b)

  pub parts : is_block b ≡ true → Parts b
  unfolding is_block
  parts t =
      let stx = eqb (get_or b 0 0) 2 in
      let long = eqb (length b) (n + 3) in
      let etx = eqb (get_or b (n + 1) 0) 3 in
      let check = eqb (get_or b (n + 2) 0) (xor_from 0 (take (n + 1) (drop 1 b))) in
      let front = and_left (stx && long && etx) check t in
      let size = eqb-true (length b) (n + 3) (and_right stx long (and_left (stx && long) etx front)) in
      let e₁ : length b - 2 ≡ n + 1 = omega arith in
      let e₂ : length b - 2 - 1 ≡ n = omega arith in
      let e₃ : length b - 1 ≡ n + 2 = omega arith in
      let e₄ : length b - 1 - 1 ≡ n + 1 = omega arith in
      record {
        long = omega arith;
        stx = eqb-true (get_or b 0 0) 2 (and_left stx long (and_left (stx && long) etx front));
        etx = rw e₁ (eqb-true (get_or b (n + 1) 0) 3 (and_right (stx && long) etx front));
        inside = rw e₂ (no_etx (take n (drop 1 b)) (leading_each not_etx (drop 1 b)));
        check = rw (e₄, e₃) (eqb-true (get_or b (n + 2) 0) (xor_from 0 (take (n + 1) (drop 1 b))) (and_right (stx && long && etx) check t));
      }

  pub whole : Parts b → is_block b ≡ true
  unfolding is_block
  whole p =
      let k = length b - 2 - 1 in
      let rest = drop 1 b in
      let size : length rest ≡ length b - 1 = length-drop 1 b in
      let place : length b - 2 ≡ 1 + k = let l = p.long in omega arith in
      let etx : get_or rest k 0 ≡ 3 = get_or-drop 1 b k 0 ∙ ap (λ i. get_or b i 0) (sym place) ∙ p.etx in
      let split : rest ≡ take k rest ++ (3 ∷ drop (k + 1) rest) = sym (take-append-drop k rest) ∙ ap (λ r. take k rest ++ r) (at_letter rest k 3 (omega arith) etx) in
      let front : length (take k rest) ≡ k = length-take-le k rest (let l = p.long in omega arith) in
      let all : n ≡ k = ap (leading not_etx) split ∙ leading_exactly not_etx (take k rest) 3 (drop (k + 1) rest) (others (take k rest) p.inside) refl ∙ front in
      let e₁ : k + 1 ≡ length b - 2 = let l = p.long in omega arith in
      let e₂ : k + 2 ≡ length b - 1 = let l = p.long in omega arith in
      let e₃ : length b - 2 ≡ length b - 1 - 1 = omega arith in
      rw (all, eq-eqb (get_or b 0 0) 2 p.stx, eq-eqb (length b) (k + 3) (let l = p.long in omega arith), e₁, e₂, eq-eqb (get_or b (length b - 2) 0) 3 p.etx, e₃)
      (eq-eqb _ _ p.check)

-- The block around bytes

-- the check byte is the last
check_last : (bytes : List ℕ) (check : ℕ) → bytes ++ (3 ∷ check ∷ []) ≡ (bytes ++ (3 ∷ [])) ++ (check ∷ [])
check_last bytes check = sym (append_assoc bytes (3 ∷ []) (check ∷ []))

each_block : (bytes : List ℕ) → AllOf not_etx bytes → is_block (block_around bytes) ≡ true
unfolding is_block
each_block bytes h =
    let block = block_around bytes in
    let n = length bytes in
    let check = xor_from 0 (bytes ++ (3 ∷ [])) in
    let tail = bytes ++ (3 ∷ check ∷ []) in
    let e : leading not_etx tail ≡ n = leading_exactly not_etx bytes 3 (check ∷ []) h refl in
    let etx : drop (n + 1) block ≡ 3 ∷ check ∷ [] = ap (λ k. drop k block) (add-one n) ∙ drop-append_seam bytes (3 ∷ check ∷ []) in
    let next : n + 1 + 1 ≡ n + 2 = omega arith in
    let last : drop (n + 2) block ≡ check ∷ [] = ap (λ k. drop k block) (sym next) ∙ next_at block (n + 1) 3 (check ∷ []) etx in
    let size : length (bytes ++ (3 ∷ [])) ≡ n + 1 = length-append bytes (3 ∷ []) in
    let part : take (n + 1) tail ≡ bytes ++ (3 ∷ []) =
    ap (λ k. take k tail) (sym size) ∙ ap (take (length (bytes ++ (3 ∷ [])))) (check_last bytes check) ∙ take-append_seam (bytes ++ (3 ∷ [])) (check ∷ []) in
    rw (
      e,
      eq-eqb (length block) (n + 3) (length_at block (n + 1) 3 (check ∷ []) etx ∙ (omega arith)),
      head_at block (n + 1) 3 (check ∷ []) etx,
      head_at block (n + 2) check [] last,
      part,
      eq-eqb check check refl,
    )

-- the parts of a block say how it is put together
found_block : (block : List ℕ) → is_block block ≡ true → (bytes : List ℕ) × AllOf not_etx bytes × (block_around bytes ≡ block)
found_block block t =
    let p = parts block t in
    let long = p.long in
    let rest = drop 1 block in
    let size : length rest ≡ length block - 1 = length-drop 1 block in
    let k = length block - 2 - 1 in
    let bytes = take k rest in
    let e₁ : 1 + k ≡ length block - 2 = omega arith in
    let e₂ : 1 + (k + 1) ≡ length block - 1 = omega arith in
    let e₃ : length block - 1 - 1 ≡ k + 1 = omega arith in
    let past : length rest ≤ k + 1 + 1 = omega arith in
    let etx : get_or rest k 0 ≡ 3 = get_or-drop 1 block k 0 ∙ ap (λ i. get_or block i 0) e₁ ∙ p.etx in
    let check : get_or rest (k + 1) 0 ≡ xor_from 0 (take (k + 1) rest) =
    get_or-drop 1 block (k + 1) 0 ∙ ap (λ i. get_or block i 0) e₂ ∙ p.check ∙ ap (λ i. xor_from 0 (take i rest)) e₃ in
    let tail : drop k rest ≡ 3 ∷ get_or rest (k + 1) 0 ∷ [] =
    at_letter rest k 3 (omega arith) etx
    ∙ ap (λ r. 3 ∷ r) (from_letter rest (k + 1) (omega arith) ∙ ap (λ r. get_or rest (k + 1) 0 ∷ r) (drop_of_length-le rest past)) in
    let part : take (k + 1) rest ≡ bytes ++ (3 ∷ []) = ap (λ i. take i rest) (add-one k) ∙ take-suc rest k 0 (omega arith) ∙ ap (λ x. bytes ++ (x ∷ [])) etx in (
      bytes,
      others bytes p.inside,
      ap (λ x. 2 ∷ bytes ++ (3 ∷ x ∷ [])) (ap (xor_from 0) (sym part) ∙ sym check)
          ∙ ap (λ r. 2 ∷ bytes ++ r) (sym tail)
          ∙ ap (λ r. 2 ∷ r) (take-append-drop k rest)
          ∙ sym (at_letter block 0 2 (omega arith) p.stx),
    )

pub block_around_bytes : BlockAroundBytes
block_around_bytes = record { each = each_block; found = found_block }

-- One byte changed

-- bytes one after another
xor_append : (n : ℕ) (xs ys : List ℕ) → xor_from n (xs ++ ys) ≡ xor_from (xor_from n xs) ys
unfolding xor_from
xor_append n [] ys = refl
xor_append n (b ∷ rest) ys = xor_append (bit_xor n b) rest ys

-- what was there before is told by what comes of it
xor_before : (m n : ℕ) (l : List ℕ) → xor_from m l ≡ xor_from n l → m ≡ n
unfolding xor_from
xor_before m n [] e = e
xor_before m n (b ∷ rest) e =
    let f = xor_before (bit_xor m b) (bit_xor n b) rest e in
    xor_same b m n (xor_comm b m ∙ f ∙ xor_comm n b)

-- and so is a byte that was changed
xor_changed : (n : ℕ) (l : List ℕ) (i b : ℕ) → i < length l → xor_from n (set l i b) ≡ xor_from n l → b ≡ get_or l i 0
unfolding xor_from
xor_changed n [] i b h e = absurd (not-suc-le-zero h)
xor_changed n (c ∷ rest) zero b h e = xor_same n b c (xor_before (bit_xor n b) (bit_xor n c) rest e)
xor_changed n (c ∷ rest) (suc i) b h e = xor_changed (bit_xor n c) rest i b (le_of_suc-le-suc h) e

-- the exclusive or of all behind STX is 0, and STX stands in front
pub record Sound (block : List ℕ) : Type 0 where
  pub stx : get_or block 0 0 ≡ 2
  pub none : xor_from 0 (drop 1 block) ≡ 0

sound : (block : List ℕ) → is_block block ≡ true → Sound block
unfolding xor_from
sound block t =
    let f = found_block block t in
    let bytes = f.0 in
    let check = xor_from 0 (bytes ++ (3 ∷ [])) in
    rw (← f.2)
    (record { stx = refl; none = ap (xor_from 0) (check_last bytes check) ∙ xor_append 0 (bytes ++ (3 ∷ [])) (check ∷ []) ∙ xor_self check })

changed : (block : List ℕ) → is_block block ≡ true → (i b : ℕ) → i < length block → is_block (set block i b) ≡ true → b ≡ get_or block i 0
changed [] t i b h s = absurd (not-suc-le-zero h)
changed (c ∷ rest) t zero b h s = (sound (b ∷ rest) s).stx ∙ sym (sound (c ∷ rest) t).stx
changed (c ∷ rest) t (suc i) b h s =
    xor_changed 0 rest i b (le_of_suc-le-suc h) ((sound (c ∷ set rest i b) s).none ∙ sym (sound (c ∷ rest) t).none)

pub one_byte_changed : OneByteChanged
one_byte_changed block t i b h n = by_test (is_block (set block i b)) (λ s. absurd (n (changed block t i b h s))) (λ s. s)
