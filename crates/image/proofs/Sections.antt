-- A section: entries one after another, read one by one and written one by one.
use mathlib.Core.Path.{◌≡◌, refl, sym, subst, ◌∙◌}
use mathlib.Core.List.{List, [], ◌++◌, append_assoc, append-nil}
use Prim.Native.Nat.{ℕ, zero, suc, ◌+◌, ◌-◌, ◌*◌, ◌≤◌, ◌<◌}
use native.Mathlib.Numerals.{add-one}
use native.Mathlib.Omega.{arith}
use borrow.Author.Tests.{ltb-true, ltb-false}
use lib.Dec.{ltb}
use borrow.Rule.Slice.PartMut.{put_mid}
use denote.Param.Members.{Mut, Called}
use lib.ListN.{length, take, drop, get_or, length-drop, length-append, take-append-drop}
use lib.Seq.{take-suc, take_all, take_at, drop_at, drop-drop, length-take-le}
use Rattle.std.proofs.lemmas.List.{drop_all}
use Rattle.std.specs.Array.{IsFromFnResult, IsFromFnResultFrom}
use Rattle.laws.specs.Runs.{joined, entries}
use Rattle.laws.proofs.Runs.{joined_append}
use Rattle.laws.proofs.Tests.{by_test}

-- the part from a place on, as the code cuts it
pub rest_of : (at : ℕ) (b : List ℕ) → take (length b - at) (drop at b) ≡ drop at b
rest_of at b = take_all (length b - at) (drop at b) (omega (arith, length-drop at b))

-- calls that leave the closure as it was, one for each place of an array, each with the value for its place
module _ {F B : Type 0} (g : Mut F (ℕ × Unit {0}) B) (f : F) (value : ℕ → B)
    (says : (i : ℕ) (y : B) (q : F) → Called g f (i, tt) y q → (q ≡ f) × (y ≡ value i)) where
  made_from : (ys : List B) (i n : ℕ) (p : F) → p ≡ f → IsFromFnResultFrom g p ys i n → (j : ℕ) (d : B) → i ≤ j → j < i + n → get_or ys j d ≡ value j
  made_from ys i zero p e r j d h k = absurd (omega arith)
  made_from ys i (suc n) p e (q, y, at, called, rest) j d h k =
      let s = says i y q (subst (λ (m : F). Called g m (i, tt) y q) e called) in
      by_test (ltb i j)
      (λ t. made_from ys (i + 1) n q s.0 rest j d (omega (arith, ltb-true i j t)) (omega arith))
      (λ t. let here : j ≡ i = omega (arith, ltb-false i j t) in rw here (at.1 d ∙ s.1))

  pub made : (ys : List B) (n : ℕ) → IsFromFnResult g f ys n → (j : ℕ) (d : B) → j < n → get_or ys j d ≡ value j
  made ys n r j d h = made_from ys 0 n f refl r.each j d (omega arith) (omega arith)

module _ {A : Type 0} (dec : List ℕ → A) (size : ℕ) (b : List ℕ) (r : List A) {n : ℕ} (long : length r ≡ n)
    (each : (i : ℕ) (d : A) → i < n → get_or r i d ≡ dec (drop (size * i) b)) where
  -- the first i
  first_read : (i : ℕ) → i ≤ n → take i r ≡ entries dec size i b
  unfolding entries
  first_read zero h = refl
  first_read (suc i) h =
      let d = dec b in
      rw (take-suc r i d (omega (arith, long)), first_read i (omega arith), each i d h)

  -- each entry is the one that stands in its place: they are the entries
  pub all_read : r ≡ entries dec size n b
  all_read = sym (take_all n r (omega (arith, long))) ∙ first_read n (omega arith)

-- bytes l in which the first n of l₀ stand anew, as x
pub record Begun (l₀ l x : List ℕ) (n : ℕ) : Type 0 where
  pub wide : length x ≡ n
  pub is : l ≡ x ++ drop n l₀

-- nothing is written anew
pub not_begun : (l : List ℕ) → Begun l l [] 0
not_begun l = record { wide = refl; is = refl }

-- the first n as they were
pub begun_with : (l : List ℕ) (n : ℕ) → n ≤ length l → Begun l l (take n l) n
begun_with l n h = record { wide = length-take-le n l h; is = sym (take-append-drop n l) }

module _ {l₀ l x : List ℕ} {n : ℕ} (b : Begun l₀ l x n) where
  before : take n l ≡ x
  before = rw b.is (take_at x (drop n l₀) n b.wide)

  behind : drop n l ≡ drop n l₀
  behind = rw b.is (drop_at x (drop n l₀) n b.wide)

  -- the bytes y follow
  pub followed : (y : List ℕ) (k : ℕ) → length y ≡ k → {l' : List ℕ} → l' ≡ take n l ++ (y ++ drop (n + k) l) → Begun l₀ l' (x ++ y) (n + k)
  followed y k e f = record {
    wide = rw (length-append, b.wide, e);
    is = rw (f, before, ← drop-drop k n l, behind, drop-drop, append_assoc);
  }

  -- the bytes y of the part that begins there
  pub more : (y : List ℕ) (k : ℕ) → length y ≡ k → Begun l₀ (put_mid n k l y) (x ++ y) (n + k)
  more y k e = record {
    wide = rw (length-append, b.wide, e);
    is = rw (before, behind, drop-drop, append_assoc);
  }

  -- the same, of a part that goes on to the end and begins with y
  pub more_of : {l' : List ℕ} (y : List ℕ) (k : ℕ) → length y ≡ k → l' ≡ y ++ drop k (take (length l - n) (drop n l)) → Begun l₀ (put_mid n (length l - n) l l') (x ++ y) (n + k)
  more_of y k e h = record {
    wide = rw (length-append, b.wide, e);
    is =
        let rest : drop (length l - n) (drop n l) ≡ [] = drop_all (length l - n) (drop n l) (omega (arith, length-drop n l)) in
        rw (h, rest, rest_of n l, before, behind, append-nil, drop-drop, append_assoc);
  }

-- the first i of the entries xs are written into l₀
pub record Written {A : Type 0} (enc : A → List ℕ) (size : ℕ) (l₀ : List ℕ) (xs : List A) (l : List ℕ) (i : ℕ) : Type 0 where
  pub begun : Begun l₀ l (joined enc (take i xs)) (size * i)

module _ {A : Type 0} {enc : A → List ℕ} {size : ℕ} where
  -- before the first turn
  pub none_written : (l : List ℕ) (xs : List A) → Written enc size l xs l 0
  unfolding joined
  none_written l xs = let e : size * 0 ≡ 0 = omega arith in record { begun = rw e (not_begun l) }

  module _ {l₀ l : List ℕ} {xs : List A} {i : ℕ} (w : Written enc size l₀ xs l i) where
    -- a turn that writes entry i
    pub one_written : ((x : A) → length (enc x) ≡ size) → (d : A) → i < length xs → {y : List ℕ} {k : ℕ} → y ≡ enc (get_or xs i d) → k ≡ size
        → Written enc size l₀ xs (put_mid (size * i) k l y) (i + 1)
    unfolding joined
    one_written wide d h {y} {k} e f =
        let next : size * (i + 1) ≡ size * i + k = omega (arith, f) in
        record { begun = rw (next, add-one, take-suc xs i d h, joined_append, append-nil, ← e) (more w.begun y k (rw (e, f) (wide (get_or xs i d)))) }

    -- after the last turn
    pub all_written : {n : ℕ} → length xs ≡ n → i ≡ n → l ≡ joined enc xs ++ drop (size * n) l₀
    all_written e f = rw (take_all i xs (omega (arith, e, f)), f) at w.begun.is
