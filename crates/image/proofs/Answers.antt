-- The answers, test by test: what each return of the code has to show.
use mathlib.Core.Path.{◌≡◌, refl, sym, ◌∙◌}
use mathlib.Core.Bool.{Bool, true, false, and_assoc}
use mathlib.Core.List.{List, [], ◌∷◌, ◌++◌}
use Rattle.std.specs.List.{starts_with}
use Prim.Native.Nat.{ℕ, ◌+◌, ◌*◌, ◌≤◌, ◌<◌}
use native.Mathlib.Omega.{arith}
use borrow.Author.Tests.{eq-eqb, ne_eqb, eqb-true, lt-ltb, le-ltb}
use lib.Dec.{eqb}
use lib.ListN.{length, drop, get_or}
use Rattle.std.specs.Prelude.{Result, Err, IsErrAnd}
use Rattle.std.proofs.lemmas.Result.{err_from_is_err_and}
use Rattle.laws.proofs.Tests.{by_test}
use Rattle.laws.specs.Answers.{Answer, given, refused}
use Rattle.laws.specs.Bytes.{le}
use Rattle.laws.proofs.Bytes.{le_2}
use Rattle.image.specs.Image.{encode, decode}
use Rattle.settings.specs.Check.{checked}
use Rattle.image.specs.Answers.{image_said, marked, image_answer, image_read, image_config, or_refused, write_answer, after_write}
use Rattle.settings.specs.declared.Config.{Config}
use Rattle.image.specs.declared.ImageError.{ImageError}
use Rattle.image.specs.declared.ImageError.TheVariants as image

-- the letters, as the code compares them
same_letters : (b : List ℕ) → 3 ≤ length b → starts_with eqb b (75 ∷ 82 ∷ 67 ∷ []) ≡ marked b
same_letters [] h = absurd (omega arith)
same_letters (x ∷ []) h = absurd (omega arith)
same_letters (x ∷ y ∷ []) h = absurd (omega arith)
same_letters (x ∷ y ∷ z ∷ t) h = grind (arith, and_assoc)

module _ (b : List ℕ) where
  pub letters : length b ≡ 1126 → {r : Bool} → r ≡ starts_with eqb b (75 ∷ 82 ∷ 67 ∷ []) → marked b ≡ r
  letters n e = sym (same_letters b (omega (arith, n))) ∙ sym e

  -- the version, as the code reads it
  pub version_is : {v : ℕ} → v ≡ get_or b 3 0 + get_or b 4 0 * 256 → v ≡ le 2 (drop 3 b)
  version_is e = omega (arith, e, le_2 b 3)

  pub answer_length : (length b ≡ 1126 → ⊥) → image_answer b ≡ refused 1 0
  unfolding image_answer
  answer_length n = rw (ne_eqb (length b) 1126 n)

  module _ (n : length b ≡ 1126) where
    pub answer_mark : marked b ≡ false → image_answer b ≡ refused 2 0
    unfolding image_answer
    answer_mark m = rw (eq-eqb (length b) 1126 n, m)

    pub answer_version : marked b ≡ true → (le 2 (drop 3 b) ≡ 1 → ⊥) → image_answer b ≡ refused 3 3
    unfolding image_answer
    answer_version m v = rw (eq-eqb (length b) 1126 n, m, ne_eqb (le 2 (drop 3 b)) 1 v)

    pub answer_checked : marked b ≡ true → le 2 (drop 3 b) ≡ 1 → image_answer b ≡ checked (decode b)
    unfolding image_answer
    answer_checked m v = rw (eq-eqb (length b) 1126 n, m, eq-eqb (le 2 (drop 3 b)) 1 v)

  -- an image that is accepted has its length
  pub accepted_length : image_answer b ≡ given tt → length b ≡ 1126
  unfolding image_answer
  accepted_length e =
      by_test (eqb (length b) 1126) (λ t. eqb-true (length b) 1126 t)
      (λ f.
      let q : refused 1 0 ≡ given tt = rw f at e in
      let z : ◌≡◌ {A = ℕ} 0 1 = cc in
      absurd (omega arith))

module _ (c : Config) (l : List ℕ) where
  -- an entry breaks its rule: nothing is written
  pub write_value : {k o : ℕ} → checked c ≡ refused k o → (refused k o ≡ write_answer c (length l)) × (l ≡ after_write c l)
  unfolding write_answer after_write
  write_value e = (rw e, rw e)

  -- the buffer is too short: nothing is written
  pub write_no_room : checked c ≡ given tt → length l < 1126 → (refused 13 0 ≡ write_answer c (length l)) × (l ≡ after_write c l)
  unfolding write_answer after_write
  write_no_room e h = (rw (e, lt-ltb (length l) 1126 h), rw (e, lt-ltb (length l) 1126 h))

  -- the image is written, and no byte after it
  pub write_image : checked c ≡ given tt → 1126 ≤ length l → {l' : List ℕ} → l' ≡ encode c ++ drop 1126 l
      → (given tt ≡ write_answer c (length l)) × (l' ≡ after_write c l)
  unfolding write_answer after_write
  write_image e h s = (rw (e, le-ltb (length l) 1126 h), rw (e, le-ltb (length l) 1126 h) s)

-- what the exit of a `?` hands back: the refusal of the call, or of the check of a configuration
pub err_is : {A E : Type 0} (r : Result A E) {e : E} → IsErrAnd r (λ x. x ≡ e) → r ≡ Err e
err_is r h = let p = err_from_is_err_and r h in rw (p.1, p.2)

module _ {A : Type 0} (x : A) where
  -- a refusal of the check is that of what stands on it
  pub refused_on : (a : Answer (Unit {0})) (e : ImageError) → image_said {A = Unit {0}} (Err e) ≡ a → image_said {A = A} (Err e) ≡ or_refused a x
  refused_on a image.Length h = rw (← h)
  refused_on a image.Mark h = rw (← h)
  refused_on a image.Version h = rw (← h)
  refused_on a (image.Value offset) h = rw (← h)

  -- and the other way round
  pub refused_by : (a : Answer (Unit {0})) (e : ImageError) → image_said {A = A} (Err e) ≡ or_refused a x → image_said {A = Unit {0}} (Err e) ≡ a
  refused_by (given u) image.Length h = cc
  refused_by (given u) image.Mark h = cc
  refused_by (given u) image.Version h = cc
  refused_by (given u) (image.Value offset) h = cc
  refused_by (refused n o) image.Length h = cc
  refused_by (refused n o) image.Mark h = cc
  refused_by (refused n o) image.Version h = cc
  refused_by (refused n o) (image.Value offset) h = cc

  -- what is given is what was asked for, and nothing was refused
  pub given_by : (a : Answer (Unit {0})) (y : A) → given y ≡ or_refused a x → (a ≡ given tt) × (y ≡ x)
  given_by (given u) y h = (refl, cc)
  given_by (refused n o) y h = cc

module _ (b : List ℕ) where
  -- a configuration that was read is that of an accepted image
  pub read_given : {c : Config} → given c ≡ image_read b → (image_answer b ≡ given tt) × (c ≡ image_config b)
  unfolding image_read image_config
  read_given {c} r = let p = given_by (decode b) (image_answer b) c r in (p.0, p.1 ∙ rw p.0)

  -- and a refusal of reading is that of the check
  pub read_refused : (e : ImageError) → image_said {A = Config} (Err e) ≡ image_read b → image_said {A = Unit {0}} (Err e) ≡ image_answer b
  unfolding image_read
  read_refused e h = refused_by (decode b) (image_answer b) e h
