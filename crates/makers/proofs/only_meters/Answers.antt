-- `makers::only_meters` meets its contract: the limits are those that the closure gives, index by index.
use Rattle.std.specs.Prelude.{if◌then◌else◌}
use mathlib.Core.Path.{◌≡◌, refl, sym, ◌∙◌}
use mathlib.Core.List.{List}
use Prim.Native.Nat.{ℕ, zero, suc, ◌+◌, ◌<◌}
use native.Mathlib.Nat.{zero-add}
use native.Mathlib.Omega.{arith}
use borrow.Author.Rules.{rules}
use denote.Param.Members.{Mut, Called}
use lib.ListN.{get_or}
use Rattle.std.specs.Array.{IsFromFnResultFrom}
use Rattle.laws.specs.Masks.{bit_at}
use Rattle.laws.specs.Tables.{table}
use Rattle.laws.proofs.Tables.{table_cong, table_self}
use Rattle.makers.specs.Requests.{only_meters}
use Rattle.makers.proofs.only_meters.Goals as goal

-- what each call gives, where no call changes what the closure has captured
module _ {F B : Type 0} (g : Mut F (ℕ × Unit {0}) B) (Kept : F → Type 0) (R : ℕ → B → Type 0)
    (call : (p q : F) (i : ℕ) (y : B) → Kept p → Called g p (i, tt) y q → R i y × Kept q) where
  each_at : (n : ℕ) (f : F) (ys : List B) (i : ℕ) → Kept f → IsFromFnResultFrom g f ys i n → (k j : ℕ) (d : B) → i + k ≡ j → k < n → R j (get_or ys j d)
  each_at zero f ys i kept t k j d e h = absurd (omega arith)
  each_at (suc n) f ys i kept t zero j d e h = let here : j ≡ i = omega arith in rw (here, t.2.1 d) (call f t.0 i t.1 kept t.3).0
  each_at (suc n) f ys i kept t (suc k) j d e h = each_at n t.0 ys (i + 1) (call f t.0 i t.1 kept t.3).1 t.4 k j d (omega arith) (omega arith)

pub returns : goal.returns
unfolding only_meters
returns c =
    let m = c.args.mask in
    let l = c.args.recorder.config.limits in
    let own = c.from_fn-own in
    let each = each_at _ (λ p. (p.0.now ≡ m) × (p.1.now ≡ l)) (λ i y. y ≡ (if bit_at m i then get_or l i 0 else 0))
    (λ p q i y kept called. search rules) 32 _ own.result 0 (refl, refl) own.ensures.items.each in
    let limits : own.result ≡ table 32 (λ i. if bit_at m i then get_or l i 0 else 0) =
    sym (table_self 32 own.result 0 own.ensures.items.long) ∙ table_cong 32 _ _ (λ i h. each i i 0 (zero-add i) h) in
    rw limits
