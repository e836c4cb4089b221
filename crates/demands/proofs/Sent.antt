-- Demand 1 for data sets and blocks (CR 4): each of 16 to 19 is given exactly when the papers say, in this order, before the refusals of a reading.
use mathlib.Core.Path.{◌≡◌, refl, sym, ap, ◌∙◌}
use mathlib.Core.Bool.{Bool, true, false, true≢false}
use mathlib.Core.List.{List, [], ◌∷◌, ◌++◌}
use mathlib.Core.Logic.{inl, inr, ⊎_elim}
use Prim.Native.Nat.{ℕ, ◌<◌}
use native.Mathlib.Omega.{arith}
use borrow.Author.Tests.{leb-false, lt-leb}
use lib.Dec.{leb}
use lib.IntN.{ℤ}
use Rattle.laws.specs.Answers.{Answer, given, refused}
use Rattle.laws.proofs.Answers.{by_answer}
use Rattle.laws.proofs.Tests.{by_test}
use Rattle.readout.specs.DataSets.{DataSet, IsDataSet, line_of, value_place}
use Rattle.readout.specs.Numbers.{Decimal, most, signed, in32_bits, whole_number}
use Rattle.readout.specs.Blocks.{is_block}
use Rattle.readout.specs.Answers.{line_number, block_answer}
use Rattle.readout.specs.Laws.{Sent}
use Rattle.readout.proofs.Places.{only_17}
use Rattle.readout.proofs.Splits.{one_split}
use Rattle.readout.proofs.Written.{number_as_written}
use Rattle.readout.proofs.Framed.{block_around_bytes}
use Rattle.recorder.specs.Readout.{readout_reply}
use Rattle.recorder.specs.Calls.{reading_reply}
use Rattle.recorder.specs.declared.Recorder.{Recorder}
use Rattle.demands.specs.Demand1.{Refusal, Ordered, bad_block, not_a_number, does_not_fit, line_refusals}

-- a number that was read is not 18
not_18 : (minus : Bool) (n : ℕ) → in32_bits minus (given n) ≡ refused 18 0 → ⊥
not_18 minus n e =
    by_test (leb n (most minus)) (λ t. let g = rw t at e in let z : ◌≡◌ {A = ℕ} 0 1 = cc in omega arith)
    (λ t. let g = rw t at e in let z : ◌≡◌ {A = ℕ} 18 19 = cc in omega arith)

module _ (line : List ℕ) (decimals : ℕ) (d : DataSet) (r : IsDataSet d) (s : line_of d ≡ line) where
  -- whatever number is sent in the line is written in this value
  same_value : (n : ℕ) (w : Decimal) → Sent line decimals n w → whole_number d.value decimals ≡ in32_bits w.minus (given n)
  same_value n w sent =
      let same : sent.set ≡ d = one_split.only sent.set d sent.rules r (sent.split ∙ sym s) in
      ap (λ x. whole_number x.value decimals) (sym same) ∙ number_as_written.each sent.set.value decimals n w sent.decimals_most sent.number

  -- a number that fits is not sent as one that does not
  one_size : (n m : ℕ) (v w : Decimal) → Sent line decimals n v → Sent line decimals m w → leb n (most v.minus) ≡ true → most w.minus < m → ⊥
  one_size n m v w x y t l =
      let e = rw t at (same_value n v x) in
      let f = rw (lt-leb m (most w.minus) l) at (same_value m w y) in
      let z : ◌≡◌ {A = ℕ} 0 1 = cc in
      omega arith

  -- 18 and 19, where the value is this one, and what comes after them
  number_then : {A : Type 0} (rest : List Refusal) (a : Answer A)
      → ((n : ℕ) → 0 < n → whole_number d.value decimals ≡ refused n 0 → a ≡ refused n 0)
      → ((z : ℤ) → whole_number d.value decimals ≡ given z → Ordered rest a)
      → Ordered (not_a_number line decimals ∷ does_not_fit line decimals ∷ rest) a
  unfolding Ordered
  number_then rest a is after =
      ⊎_elim
      (λ none. inl (0, (refl, λ n w sent. not_18 w.minus n (sym (same_value n w sent) ∙ none)), is 18 (omega arith) none))
      (λ some.
      let n = some.1 in
      let w = some.2 in
      let sent : Sent line decimals n w = record { set = d; rules = r; split = s; decimals_most = some.0; number = some.3 } in
      inr (
        (λ offset due. due.1 n w sent),
        by_test (leb n (most w.minus))
            (λ t. inr ((λ offset due. let k = due.1 in one_size n k.0 w k.1 sent k.2 t k.3), after (signed w.minus n) (same_value n w sent ∙ rw t)))
            (λ t. inl (0, (refl, (n, w, sent, leb-false n (most w.minus) t)), is 19 (omega arith) (same_value n w sent ∙ rw t))),
      ))
      (number_as_written.found d.value decimals)

-- the refusals of a line, and what comes after them
pub line_then : {A : Type 0} (line : List ℕ) (decimals : ℕ) (rest : List Refusal) (a : Answer A)
    → ((n : ℕ) → 0 < n → line_number line decimals ≡ refused n 0 → a ≡ refused n 0)
    → ((z : ℤ) → line_number line decimals ≡ given z → Ordered rest a)
    → Ordered (line_refusals line decimals ++ rest) a
unfolding Ordered line_number
line_then line decimals rest a is after =
    by_answer (value_place line)
    (λ p e.
    let f = one_split.found line p e in
    let same : line_number line decimals ≡ whole_number f.set.value decimals = rw e (ap (λ t. whole_number t decimals) f.value) in
    inr (
      (λ offset due. due.1 f.set f.rules f.split),
      number_then line decimals f.set f.rules f.split rest a (λ n h k. is n h (same ∙ k)) (λ z k. after z (same ∙ k)),
    ))
    (λ n offset e.
    let o = only_17 line n offset e in
    let none : value_place line ≡ refused 17 0 = e ∙ rw (o.0, o.1) in
    inl (
      0,
      (refl, λ d r s. let g = sym (ap value_place s) ∙ one_split.each d r in let z : ◌≡◌ {A = ℕ} 0 1 = cc in omega arith),
      is 17 (omega arith) (rw none),
    ))

pub lines : (line : List ℕ) (decimals : ℕ) → Ordered (line_refusals line decimals) (line_number line decimals)
unfolding Ordered
lines line decimals = line_then line decimals [] (line_number line decimals) (λ n h e. e) (λ z e. (z, e))

-- 16 BLOCK, and what comes after it
pub block_then : {A : Type 0} (block : List ℕ) (rest : List Refusal) (a : Answer A)
    → (is_block block ≡ false → a ≡ refused 16 0) → (is_block block ≡ true → Ordered rest a) → Ordered (bad_block block ∷ rest) a
unfolding Ordered
block_then block rest a is after =
    by_test (is_block block)
    (λ t. let f = block_around_bytes.found block t in inr ((λ offset due. due.1 f.0 f.1 f.2), after t))
    (λ t.
    inl (0, (refl, λ bytes h e. true≢false (sym (ap is_block (sym e) ∙ block_around_bytes.each bytes h) ∙ t)), is t))

pub blocks : (block : List ℕ) → Ordered (bad_block block ∷ []) (block_answer block)
unfolding Ordered
blocks block = block_then block [] (block_answer block) (λ t. rw t) (λ t. rw t (tt, refl))

-- where a data set is refused its number is that of the line
module _ (r : Recorder) (meter status seq decimals : ℕ) (line : List ℕ) where
  pub readout_refused : (n : ℕ) → line_number line decimals ≡ refused n 0 → readout_reply r meter status seq decimals line ≡ record { answer = refused n 0; after = r }
  unfolding readout_reply
  readout_refused n e = rw e

  pub readout_given : (z : ℤ) → line_number line decimals ≡ given z → readout_reply r meter status seq decimals line ≡ reading_reply r meter z status seq
  unfolding readout_reply
  readout_given z e = rw e
