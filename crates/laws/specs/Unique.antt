-- What it is for a contract that no second result fits it. A contract's claim, `Reads.Post` of a function, is made of lifetimes, arguments, the
-- result, and the parameters at exit.
use Rattle.std.specs.Prelude.{List, ◌≡◌, ℕ}

-- for all arguments, two results that fit what the function ensures are the same
abbrev pub OneResult {ℓ} : {L : Type ℓ} {Args Result Exit : L → Type 0} → ((κs : L) → Args κs → Result κs → Exit κs → Type 0) → Type ℓ
OneResult {L = L} {Args} {Result} {Exit} ensured =
    (κs : L) (args : Args κs) (x y : Result κs) (e f : Exit κs) → ensured κs args x e → ensured κs args y f → x ≡ y

-- and for a lent buffer: whatever the results, what stands in it at exit is the same; `seen` reads it off the parameters at exit
abbrev pub OneExit {ℓ} : {L : Type ℓ} {Args Result Exit : L → Type 0} → ((κs : L) → Exit κs → List ℕ)
    → ((κs : L) → Args κs → Result κs → Exit κs → Type 0) → Type ℓ
OneExit {L = L} {Args} {Result} {Exit} seen ensured =
    (κs : L) (args : Args κs) (x y : Result κs) (e f : Exit κs) → ensured κs args x e → ensured κs args y f → seen κs e ≡ seen κs f

-- and for a reference, whose ghost name no contract fixes: two results that fit are seen as the same; `seen` reads it off the result
abbrev pub OneSeen {ℓ} : {L : Type ℓ} {Args Result Exit : L → Type 0} {X : Type 0} → ((κs : L) → Result κs → X)
    → ((κs : L) → Args κs → Result κs → Exit κs → Type 0) → Type ℓ
OneSeen {L = L} {Args} {Result} {Exit} seen ensured =
    (κs : L) (args : Args κs) (x y : Result κs) (e f : Exit κs) → ensured κs args x e → ensured κs args y f → seen κs x ≡ seen κs y
