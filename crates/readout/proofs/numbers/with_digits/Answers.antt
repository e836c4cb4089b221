-- `readout::numbers::with_digits` meets its contract: it is held after each digit, which makes no difference.
use mathlib.Core.Path.{◌≡◌, subst}
use mathlib.Core.List.{List, [], ◌∷◌, ◌++◌}
use Prim.Native.Nat.{ℕ, ◌+◌, ◌*◌, ◌-◌}
use native.Mathlib.Omega.{arith}
use borrow.Author.Rules.{rules}
use Rattle.std.proofs.lemmas.Fn.{fold_over, slice_gives, fronts}
use Rattle.laws.specs.Decimals.{value_from}
use Rattle.laws.proofs.Decimals.{value_append}
use Rattle.readout.specs.Held.{held}
use Rattle.readout.proofs.numbers.with_digits.Goals as goal

-- one digit more
one_more : (n : ℕ) (ys : List ℕ) (a x b : ℕ) → a ≡ held (value_from n ys) → b ≡ held (a * 10 + (x - 48)) → b ≡ held (value_from n (ys ++ (x ∷ [])))
unfolding value_from
one_more n ys a x b e g = rw (value_append n ys (x ∷ [])) (omega arith)

pub returns : goal.returns
unfolding value_from
returns c =
    subst (λ l. c.fold.result ≡ held (value_from c.args.n l)) c.iter.ensures.rest
    (fold_over fronts (λ y. y.now) _ (λ ys n. n ≡ held (value_from c.args.n ys)) _ (λ ys a x b f' j k. (one_more c.args.n ys a x.now b j (search rules), search rules))
    _ _ _ _ (slice_gives c.iter.result) (omega arith) c.fold.ensures.ran)
