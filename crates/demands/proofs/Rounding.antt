-- One input over a list of samples (newest first): the remainder it ends with, the units it pays while `on`, and how far these may be from the exact energy.
use Rattle.std.specs.Prelude.{if◌then◌else◌}
use mathlib.Core.Path.{◌≡◌, refl, ap, ◌∙◌}
use mathlib.Core.Bool.{Bool, true, false, not, ◌&&◌}
use mathlib.Core.List.{List, [], ◌∷◌}
use Prim.Native.Nat.{ℕ, zero, suc, pred, ◌+◌, ◌*◌, ◌/◌, ◌%◌, ◌≤◌, ◌<◌}
use native.Mathlib.Nat.{add-mul, add-zero, one-mul, zero-mul, mul-suc, mul_comm, mod-lt, div-add-mod'}
use native.Mathlib.Omega.{arith}
use Rattle.laws.specs.Masks.{bit}
use Rattle.demands.specs.Account.{Sample, impulses_of}
use Rattle.demands.specs.Energy.{running, stretches_of, product_of}
use Rattle.demands.specs.Demand3.{Near}
use Rattle.demands.proofs.Sums.{added, scaled, added_zero, added_same, added_some, scaled_whole, scaled_add, scaled_zero, scaled_less, scaled_direct}

-- the remainder after a sample, with or without an impulse
abbrev pub next_rem : (num den : ℕ) → Bool → ℕ → ℕ
next_rem num den p r = if p then (r + num) % den else r

-- the units that leave it
abbrev pub paid_units : (num den : ℕ) → Bool → ℕ → ℕ
paid_units num den p r = if p then (r + num) / den else 0

-- the remainder after the samples, from the remainder r before them
abbrev pub rem : (num den i : ℕ) → ℕ → List Sample → ℕ
rem num den i r [] = r
rem num den i r (e ∷ es) = next_rem num den (e.impulse i) (rem num den i r es)

-- the units that leave the remainder at samples whose second is `on`
abbrev pub units : (num den i : ℕ) → (ℕ → Bool) → ℕ → List Sample → ℕ
units num den i on r [] = 0
units num den i on r (e ∷ es) = units num den i on r es + (if on e.second then paid_units num den (e.impulse i) (rem num den i r es) else 0)

-- a remainder stays below the denominator
next_lt : (num den : ℕ) → 0 < den → (p : Bool) (r : ℕ) → r < den → next_rem num den p r < den
next_lt num den pos true r h = mod-lt (r + num) pos
next_lt num den pos false r h = h

pub rem_lt : (num den i : ℕ) → 0 < den → (r : ℕ) → r < den → (es : List Sample) → rem num den i r es < den
rem_lt num den i pos r h [] = h
rem_lt num den i pos r h (e ∷ es) = next_lt num den pos (e.impulse i) (rem num den i r es) (rem_lt num den i pos r h es)

-- units u, impulses n and stretches s agree up to m = den - 1 for each stretch; in a stretch that still runs the remainder r counts
abbrev Bound : (num den m : ℕ) → Bool → ℕ → ℕ → ℕ → ℕ → Type 0
Bound num den m true u n s r = (u * den + r ≤ n * num + s * m) × (n * num + m ≤ u * den + r + s * m)
Bound num den m false u n s r = (u * den ≤ n * num + s * m) × (n * num ≤ u * den + s * m)

-- one more sample: in the rule or not (t), after one that was or was not (w), with an impulse or none (p)
bound_step : (num den m : ℕ) → den ≡ suc m → (t w p : Bool) (u n s r : ℕ) → r < den → Bound num den m w u n s r
    → Bound num den m t (u + (if t then paid_units num den p r else 0)) (n + bit (t && p)) (s + bit (t && not w)) (next_rem num den p r)
bound_step num den m e true true true u n s r h b = simp (add-mul, add-zero) (omega (arith, div-add-mod' (r + num) den, one-mul num))
bound_step num den m e true true false u n s r h b = simp add-zero b
bound_step num den m e true false true u n s r h b = simp add-mul (omega (arith, div-add-mod' (r + num) den, one-mul num))
bound_step num den m e true false false u n s r h b = simp (add-mul, add-zero) (omega arith)
bound_step num den m e false true p u n s r h b = simp add-zero (omega arith)
bound_step num den m e false false p u n s r h b = simp add-zero (omega arith)

-- strictly within one unit for each stretch, whether or not the last one still runs
bound_near : (num den m : ℕ) → den ≡ suc m → (w : Bool) (u n s r : ℕ) → r < den → Bound num den m w u n s r → 0 < s
    → (u * den < n * num + s * den) × (n * num < u * den + s * den)
bound_near num den m e true u n s r h b pos = omega (arith, ap (λ (d : ℕ). s * d) e ∙ mul-suc s m)
bound_near num den m e false u n s r h b pos = omega (arith, ap (λ (d : ℕ). s * d) e ∙ mul-suc s m)

-- with no stretch nothing is booked and nothing is owed; a sample in the rule is in a stretch
abbrev Quiet : Bool → ℕ → ℕ → ℕ → Type 0
Quiet true u n s = 0 < s
Quiet false u n s = s ≡ 0 → (u ≡ 0) × (n ≡ 0)

quiet_step : (t w p : Bool) (u n s q : ℕ) → Quiet w u n s → Quiet t (u + (if t then q else 0)) (n + bit (t && p)) (s + bit (t && not w))
quiet_step true true p u n s q h = omega arith
quiet_step true false p u n s q h = omega arith
quiet_step false true p u n s q h = omega arith
quiet_step false false p u n s q h = λ e. let z : (u ≡ 0) × (n ≡ 0) = h (omega arith) in omega arith

quiet_end : (w : Bool) (u n s : ℕ) → Quiet w u n s → s ≡ 0 → (u ≡ 0) × (n ≡ 0)
quiet_end true u n s h e = omega arith
quiet_end false u n s h e = h e

-- the factors of a product
pos_left : (a b : ℕ) → 0 < a * b → 0 < a
pos_left zero b h = absurd (omega (arith, zero-mul b))
pos_left (suc a) b h = omega arith

pos_right : (a b : ℕ) → 0 < a * b → 0 < b
pos_right a b h = pos_left b a (rw mul_comm h)

zero_right : (a b : ℕ) → 0 < a → a * b ≡ 0 → b ≡ 0
zero_right a zero pos h = refl
zero_right a (suc b) pos h = absurd (omega (arith, mul-suc a b))

-- one input with s stretches: its units, its energy, its denominator
pub record NearOne (s units energy den : ℕ) : Type 0 where
  pub pos : 0 < den
  pub not_above : 0 < s → units * den < energy + s * den
  pub not_below : 0 < s → energy < units * den + s * den
  pub none : s ≡ 0 → (units ≡ 0) × (energy ≡ 0)

-- what holds of one input over any samples, from any remainder
module _ (num den i : ℕ) (on : ℕ → Bool) (pos : 0 < den) (r : ℕ) (start : r < den) where
  bound : (m : ℕ) → den ≡ suc m → (es : List Sample)
      → Bound num den m (running on es) (units num den i on r es) (impulses_of on i es) (stretches_of on es) (rem num den i r es)
  bound m e [] = omega arith
  bound m e (x ∷ es) =
      bound_step num den m e (on x.second) (running on es) (x.impulse i) _ _ _ (rem num den i r es) (rem_lt num den i pos r start es) (bound m e es)

  silent : (es : List Sample) → Quiet (running on es) (units num den i on r es) (impulses_of on i es) (stretches_of on es)
  silent [] = λ e. omega arith
  silent (x ∷ es) = quiet_step (on x.second) (running on es) (x.impulse i) _ _ _ _ (silent es)

  near : (es : List Sample) → 0 < stretches_of on es
      → (units num den i on r es * den < impulses_of on i es * num + stretches_of on es * den)
      × (impulses_of on i es * num < units num den i on r es * den + stretches_of on es * den)
  near es h =
      let e : den ≡ suc (pred den) = omega arith in
      bound_near num den (pred den) e (running on es) _ _ _ _ (rem_lt num den i pos r start es) (bound (pred den) e es) h

  pub near_one : (es : List Sample) → NearOne (stretches_of on es) (units num den i on r es) (impulses_of on i es * num) den
  near_one es =
      record {
        pos = pos;
        not_above = λ h. (near es h).0;
        not_below = λ h. (near es h).1;
        none = λ e. let q = quiet_end (running on es) _ _ _ (silent es) e in (q.0, rw q.1 (zero-mul num));
      }

-- from one input to all that are named: what each keeps, their sum keeps
module _ (named : ℕ → Bool) (u a d : ℕ → ℕ) (s n : ℕ) (each : (i : ℕ) → i < n → named i ≡ true → NearOne s (u i) (a i) (d i)) where
  limit : scaled named (λ i. s * d i) d n ≡ added named (λ i. 1) n * s * product_of named d n
  limit = scaled_whole named (λ i. s) d n ∙ ap (λ (k : ℕ). k * product_of named d n) (added_same named s n)

  -- with no stretch, or with none named, each named input has no units and no energy
  zeros : added named (λ i. 1) n * s ≡ 0 → (i : ℕ) → i < n → named i ≡ true → (u i ≡ 0) × (a i ≡ 0)
  zeros h i l e = (each i l e).none (zero_right (added named (λ i. 1) n) s (added_some named n i l e) h)

  pub near_all : Near (added named u n) (added named (λ i. a i * (product_of named d n / d i)) n) (product_of named d n) (added named (λ i. 1) n * s)
  near_all =
      let k = added named (λ i. 1) n in
      let pos : (i : ℕ) → i < n → named i ≡ true → 0 < d i = λ i l e. (each i l e).pos in
      rw (scaled_direct named a d n pos)
      record {
        not_above = λ h.
            let less = scaled_less named (λ i. u i * d i) (λ i. a i + s * d i) d n pos (λ i l e. (each i l e).not_above (pos_right k s h)) in
            omega (arith, scaled_whole named u d n, scaled_add named a (λ i. s * d i) d n, limit, pos_left k s h);
        not_below = λ h.
            let less = scaled_less named a (λ i. u i * d i + s * d i) d n pos (λ i l e. (each i l e).not_below (pos_right k s h)) in
            omega (arith, scaled_whole named u d n, scaled_add named (λ i. u i * d i) (λ i. s * d i) d n, limit, pos_left k s h);
        none = λ h. (added_zero named u n (λ i l e. (zeros h i l e).0), scaled_zero named a d n (λ i l e. (zeros h i l e).1));
      }
