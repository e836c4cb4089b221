-- The loops that write and that read entries one after another. A record says how far a loop has come; three laws say that it starts, goes on and is done.
use mathlib.Core.Path.{◌≡◌, refl, sym, ap, ◌∙◌}
use mathlib.Core.List.{List, [], ◌∷◌, ◌++◌, append_assoc, append-nil}
use Prim.Native.Nat.{ℕ, suc, ◌+◌, ◌*◌, ◌≤◌, ◌<◌, zero-le}
use native.Mathlib.Nat.{mul-suc, add-zero, suc-add, add-suc}
use native.Mathlib.Numerals.{add-one}
use native.Mathlib.Omega.{arith}
use lib.ListN.{length, take, drop, get_or, set, length-append, length-set}
use lib.Seq.{sets, drop-drop, take-suc, take-suc-set, take_all, length-sets, length-take-le}
use Rattle.laws.specs.Runs.{joined, entries}

-- places as the code has them and as `sets` counts them
pub next : (i : ℕ) → (i + 1 ≡ suc i) × (i + 2 ≡ suc (suc i)) × (i + 3 ≡ suc (suc (suc i)))
next i = (omega arith, omega arith, omega arith)

module _ {A : Type 0} where
  -- what is stored in two steps is stored in one
  pub sets_append : (l : List A) (i : ℕ) (xs ys : List A) → sets (sets l i xs) (i + length xs) ys ≡ sets l i (xs ++ ys)
  sets_append l i [] ys = rw add-zero
  sets_append l i (x ∷ xs) ys = rw (add-suc, ← suc-add) (sets_append (set l i x) (suc i) xs ys)

  -- the same, where the length of the first run is known
  pub sets_then : (l : List A) (at n : ℕ) (xs ys : List A) → length xs ≡ n → sets (sets l at xs) (at + n) ys ≡ sets l at (xs ++ ys)
  sets_then l at n xs ys h = rw (← h, sets_append)

module _ {A : Type 0} where
  -- two runs of entries
  pub joined_append : (enc : A → List ℕ) (xs ys : List A) → joined enc (xs ++ ys) ≡ joined enc xs ++ joined enc ys
  unfolding joined
  joined_append enc [] ys = refl
  joined_append enc (x ∷ xs) ys = rw (joined_append enc xs ys, append_assoc)

  -- how many bytes they are
  pub length_joined : (enc : A → List ℕ) (size : ℕ) → ((x : A) → length (enc x) ≡ size) → (xs : List A) → length (joined enc xs) ≡ size * length xs
  unfolding joined
  length_joined enc size e [] = omega arith
  length_joined enc size e (x ∷ xs) = rw (length-append, e x, length_joined enc size e xs, mul-suc) (omega arith)

  -- a loop writes the entries xs into l₀, from the place `base` on: the first i are stored
  pub record Stored (enc : A → List ℕ) (n : ℕ) (l₀ : List ℕ) (base : ℕ) (xs : List A) (l : List ℕ) (i : ℕ) : Type 0 where
    pub count : length xs ≡ n
    pub within : i ≤ n
    pub long : length l ≡ length l₀
    pub done : l ≡ sets l₀ base (joined enc (take i xs))

  -- before the first turn
  pub stored_none : (enc : A → List ℕ) (n : ℕ) (l : List ℕ) (base : ℕ) {xs : List A} → length xs ≡ n → Stored enc n l base xs l 0
  unfolding joined
  stored_none enc n l base {xs} e = record { count = e; within = zero-le; long = refl; done = refl }

  -- a turn that stores entry i
  pub stored_more : {enc : A → List ℕ} {n : ℕ} (size : ℕ) → ((x : A) → length (enc x) ≡ size) → (d : A)
      → {l₀ : List ℕ} {base : ℕ} {xs : List A} {l l' : List ℕ} {i : ℕ} → Stored enc n l₀ base xs l i
      → i < n → l' ≡ sets l (base + size * i) (enc (get_or xs i d)) → Stored enc n l₀ base xs l' (i + 1)
  unfolding joined
  stored_more {enc} {n} size each-size d {l₀} {base} {xs} {l} {l'} {i} f h e = record {
    count = f.count;
    within = omega arith;
    long = ap length e ∙ length-sets l (base + size * i) (enc (get_or xs i d)) ∙ f.long;
    done =
        let k : i < length xs = rw f.count h in
        let m : length (take i xs) ≡ i = length-take-le i xs (omega arith) in
        let s : length (joined enc (take i xs)) ≡ size * i = length_joined enc size each-size (take i xs) ∙ ap (λ (j : ℕ). size * j) m in
        rw (e, f.done, ← s, sets_append, add-one, take-suc xs i d, joined_append, append-nil);
  }

  -- after the last turn
  pub stored_all : {enc : A → List ℕ} {n : ℕ} {l₀ : List ℕ} {base : ℕ} {xs : List A} {l : List ℕ} {i : ℕ} → Stored enc n l₀ base xs l i
      → n ≤ i → l ≡ sets l₀ base (joined enc xs)
  stored_all {enc} {n} {l₀} {base} {xs} {l} {i} f h =
      f.done ∙ ap (λ (ys : List A). sets l₀ base (joined enc ys)) (take_all i xs (omega (arith, f.count)))

  -- a loop reads n entries of s, from the place `base` on, into r: the first i are there
  pub record Filled (dec : List ℕ → A) (size n : ℕ) (s : List ℕ) (base : ℕ) (r : List A) (i : ℕ) : Type 0 where
    pub within : i ≤ n
    pub long : length r ≡ n
    pub done : take i r ≡ entries dec size i (drop base s)

  -- before the first turn
  pub filled_none : (dec : List ℕ → A) (size : ℕ) (s : List ℕ) (base : ℕ) (r : List A) → Filled dec size (length r) s base r 0
  unfolding entries
  filled_none dec size s base r = record { within = zero-le; long = refl; done = refl }

  -- a turn that reads entry i
  pub filled_more : {dec : List ℕ → A} {size n : ℕ} {s : List ℕ} {base : ℕ} {r : List A} {i : ℕ} → Filled dec size n s base r i
      → (x : A) → i < n → x ≡ dec (drop (base + size * i) s) → Filled dec size n s base (set r i x) (i + 1)
  unfolding entries
  filled_more {dec} {size} {n} {s} {base} {r} {i} f x h e = record {
    within = omega arith;
    long = length-set r i x ∙ f.long;
    done =
        let k : i < length r = rw f.long h in
        rw (add-one, take-suc-set r i x, f.done, e, drop-drop);
  }

  -- after the last turn
  pub filled_all : {dec : List ℕ → A} {size n : ℕ} {s : List ℕ} {base : ℕ} {r : List A} {i : ℕ} → Filled dec size n s base r i
      → n ≤ i → r ≡ entries dec size n (drop base s)
  filled_all {dec} {size} {n} {s} {base} {r} {i} f h =
      let e : i ≡ n = omega arith in
      sym (take_all n r (omega (arith, f.long))) ∙ ap (λ (k : ℕ). take k r) (sym e) ∙ f.done ∙ ap (λ (k : ℕ). entries dec size k (drop base s)) e
