-- `display::fields::most_of` meets its contract: width by width.
use mathlib.Core.Path.{◌≡◌, refl}
use Prim.Native.Nat.{◌+◌, ◌-◌, ◌*◌, ◌/◌, ◌^◌}
use native.Mathlib.Omega.{arith}
use Rattle.laws.proofs.Keys.{in_range_lem}
use Rattle.display.proofs.fields.most_of.Goals as goal

pub returns : goal.returns
returns c =
    in_range_lem (λ n. 18446744073709551615 / 2 ^ (64 - 8 * n) + 1 ≡ 256 ^ n) 1 8 c.args.n (refl, (refl, (refl, (refl, (refl, (refl, (refl, (refl, tt)))))))) c.requires.0 (omega (arith, c.requires.1))
