-- That the account's definitions say what document 01 says: stretches may be counted at either end, and the scale is exact. And the third demand in one.
use Rattle.std.specs.Prelude.{if◌then◌else◌}
use mathlib.Core.Path.{◌≡◌, refl, sym, ap, ◌∙◌}
use mathlib.Core.Bool.{Bool, true, false, not, ◌&&◌, and-false}
use mathlib.Core.List.{List, [], ◌∷◌, ◌++◌}
use mathlib.Core.Logic.{⊎_elim}
use Prim.Native.Nat.{ℕ, zero, suc, ◌+◌, ◌*◌, ◌/◌, ◌<◌, min}
use native.Mathlib.Nat.{mul_assoc, mul_comm, mul-one, mul-div_cancel_left, eq-or-lt_of_le, le_of_suc-le-suc}
use native.Mathlib.Omega.{arith}
use lib.Dec.{ltb, leb}
use borrow.Author.Tests.{leb-true, leb-false, lt-leb}
use Rattle.laws.proofs.Tests.{by_test}
use Rattle.laws.specs.Masks.{bit, bit_at}
use Rattle.settings.specs.declared.Config.{Config}
use Rattle.counting.specs.Filter.{input_at}
use Rattle.sampling.specs.Samples.{active_at}
use Rattle.recorder.specs.declared.Setup.{Setup}
use Rattle.demands.specs.Account.{Entry, took, ended, cleared, heard, Sample, run_of, whole, since, feeding}
use Rattle.demands.specs.Energy.{running, stretches_of, product_of}
use Rattle.demands.specs.Demand3.{ends_of, oldest_on, StretchesThatCount, ScaleIsExact, run_on_and_on, HoldIsHarmless, Demand3}
use Rattle.demands.proofs.Demand3.{feeds_divide, open_amount, plain_bills, amounts_add_up, amounts_are_the_sums}

ends_step : (t w r : Bool) (n m : ℕ) → n + bit (t && r) ≡ m → bit (t && not w) + n + bit (w && t) ≡ m + bit (t && not r)
ends_step true true true n m h = omega arith
ends_step true true false n m h = omega arith
ends_step true false true n m h = omega arith
ends_step true false false n m h = omega arith
ends_step false true r n m h = omega arith
ends_step false false r n m h = omega arith

ends_running : (on : ℕ → Bool) (w : Bool) (es : List Sample) → ends_of on w es + bit (w && running on es) ≡ stretches_of on es
ends_running on true [] = refl
ends_running on false [] = refl
ends_running on w (e ∷ es) = ends_step (on e.second) w (running on es) _ _ (ends_running on (on e.second) es)

-- either end gives the same count
either_end : (on : ℕ → Bool) (es : List Sample) → stretches_of on es ≡ ends_of on false es
either_end on es = omega (arith, ends_running on false es)

ends_append : (on : ℕ → Bool) (w : Bool) (new old : List Sample) → ends_of on w (new ++ old) ≡ ends_of on w new + ends_of on (oldest_on on w new) old
ends_append on w [] old = omega arith
ends_append on w (e ∷ new) old = omega (arith, ends_append on (on e.second) new old)

split : (on : ℕ → Bool) (new old : List Sample) → stretches_of on (new ++ old) ≡ stretches_of on new + ends_of on (oldest_on on false new) old
split on new old = omega (arith, either_end on (new ++ old), either_end on new, ends_append on false new old)

-- the samples since the last reset are the newer ones of all
since_front : (c : Config) (l : List Entry) → (older : List Sample) × (whole c l ≡ since c l ++ older)
since_front c [] = ([], refl)
since_front c (took bits t ∷ l) = let (older, e) = since_front c l in (older, rw e)
since_front c (ended state t ∷ l) = since_front c l
since_front c (cleared t ∷ l) = (whole c l, refl)
since_front c (heard t meter v status seq ∷ l) = since_front c l

pub stretches_that_count : StretchesThatCount
stretches_that_count c on journal =
    let (older, e) = since_front c journal in (older, e, ap (stretches_of on) e ∙ split on (since c journal) older)

-- a product of denominators is a multiple of each, here with a factor m
exact_times : (named : ℕ → Bool) (d : ℕ → ℕ) (n m i : ℕ) → i < n → named i ≡ true → 0 < d i → product_of named d n * m / d i * d i ≡ product_of named d n * m
unfolding product_of
exact_times named d zero m i l e pos = absurd (omega arith)
exact_times named d (suc n) m i l e pos =
    ⊎_elim
    (λ q. here q)
    (λ k.
    let f = if named n then d n else 1 in
    ap (λ (x : ℕ). x / d i * d i) (mul_assoc (product_of named d n) f m) ∙ (exact_times named d n (f * m) i k e pos ∙ sym (mul_assoc (product_of named d n) f m)))
    (eq-or-lt_of_le (le_of_suc-le-suc l))
  where
    own : (p m d : ℕ) → 0 < d → p * d * m / d * d ≡ p * d * m
    own p m d pos =
        let e : p * d * m ≡ d * (p * m) = ap (λ (x : ℕ). x * m) (mul_comm p d) ∙ mul_assoc d p m in
        rw (e, mul-div_cancel_left (p * m) pos) (mul_comm (p * m) d)

    here : i ≡ n → product_of named d n * (if named n then d n else 1) * m / d i * d i ≡ product_of named d n * (if named n then d n else 1) * m
    here q = rw (← q, e) (own (product_of named d i) m (d i) pos)

pub scale_is_exact : ScaleIsExact
scale_is_exact c a j used i l e =
    simp mul-one at (exact_times (bit_at (feeding c j)) (λ k. (input_at c.inputs k).denominator) 16 1 i l e (feeds_divide c a j used i l e))

-- a run that is held at 256, above the longest, ends an impulse exactly when the full run does
held_range : (short long run : ℕ) (off : Bool) → long < 256
    → ((off && ltb 0 (min 256 run)) && (leb short (min 256 run) && leb (min 256 run) long)) ≡ ((off && ltb 0 run) && (leb short run && leb run long))
held_range short long run off h =
    by_test (leb run 256)
    (λ e. let same : min 256 run ≡ run = omega (arith, leb-true run 256 e) in rw same)
    (λ e.
    let more = leb-false run 256 e in
    let a : leb (min 256 run) long ≡ false = lt-leb (min 256 run) long (omega arith) in
    let b : leb run long ≡ false = lt-leb run long (omega arith) in
    rw (a, b) (simp and-false))

-- the run of the account is the full run, held
run_held : (c : Config) (i : ℕ) (journal : List Entry) → run_of c i journal ≡ min 256 (run_on_and_on c i journal)
run_held c i [] = omega arith
run_held c i (took bits t ∷ l) =
    by_test (active_at c.inputs bits i) (λ on. rw on (omega (arith, run_held c i l))) (λ off. rw off (omega arith))
run_held c i (ended state t ∷ l) = run_held c i l
run_held c i (cleared t ∷ l) = run_held c i l
run_held c i (heard t meter v status seq ∷ l) = run_held c i l

pub hold_is_harmless : HoldIsHarmless
hold_is_harmless c accepted bits journal i l =
    rw (run_held c i journal)
    (held_range (input_at c.inputs i).shortest (input_at c.inputs i).longest (run_on_and_on c i journal) (not (active_at c.inputs bits i)) (accepted.bytes i l))

-- all of it
pub demand_3 : (setup : Setup) (lent : ℕ) → Demand3 setup lent
demand_3 setup lent =
    record {
      open_amount = open_amount setup lent;
      plain_bills = plain_bills setup lent;
      amounts_add_up = amounts_add_up setup lent;
      amounts_are_the_sums = amounts_are_the_sums setup lent;
      stretches_that_count = stretches_that_count;
      scale_is_exact = scale_is_exact;
      hold_is_harmless = hold_is_harmless;
    }
