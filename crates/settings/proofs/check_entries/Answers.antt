-- `settings::check_entries` meets its contract: the place that is found is the first at which the rule is broken.
use mathlib.Core.Path.{◌≡◌}
use mathlib.Core.Bool.{true, false}
use Prim.Native.Nat.{ℕ, ◌<◌}
use borrow.Author.Rules.{rules}
use lib.ListN.{get_or}
use Rattle.settings.proofs.Verdicts.{found, none_found}
use Rattle.settings.proofs.check_entries.Goals as goal

pub returns-in-Some : goal.returns-in-Some
returns-in-Some g c rule d h =
    let within : c.in-Some.i < g.row.N = search rules in
    let broken : rule (get_or c.args.entries.now c.in-Some.i d) ≡ false = search rules in
    let before : (j : ℕ) → j < c.in-Some.i → rule (get_or c.args.entries.now j d) ≡ true = search rules in
    found _ _ within broken before

pub returns : goal.returns
returns g c rule d h =
    let holds : (j : ℕ) → j < g.row.N → rule (get_or c.args.entries.now j d) ≡ true = search rules in
    none_found _ _ holds
