-- Writing and then reading, reading and then writing: what the two functions over real values have to show.
use mathlib.Core.Path.{◌≡◌, refl, sym, ap, ◌∙◌}
use mathlib.Core.List.{List, [], ◌∷◌, append-nil}
use Prim.Native.Nat.{ℕ}
use native.Mathlib.Omega.{arith}
use lib.Dec.{ltb}
use lib.ListN.{replicate}
use Rattle.std.specs.Prelude.{Result, Ok, Err, IsOk}
use Rattle.laws.proofs.Tests.{by_test}
use Rattle.laws.specs.Broken.{first_broken}
use Rattle.laws.specs.Answers.{Answer, given, refused}
use Rattle.laws.specs.Bytes.{Bytes}
use Rattle.image.specs.Image.{encode, Counted, Typed}
use Rattle.settings.specs.Check.{Section, or_else, sections, first_bad, checked}
use Rattle.image.specs.Answers.{write_said, image_read, image_config, write_answer, after_write, come_back, image_copy}
use Rattle.settings.specs.declared.Config.{Config}
use Rattle.image.specs.declared.WriteError.{WriteError}
use Rattle.image.specs.declared.WriteError.TheVariants.{Value, NoRoom}
use Rattle.image.proofs.Answers.{read_given}
use Rattle.image.proofs.Laws.{never, written_is_read, read_is_written, read_is_good}

-- zeros, as many as an image has bytes
abbrev zeros : List ℕ
zeros = replicate 1126 0

-- a check refuses with 4 alone
value_only : (ss : List Section) (k o : ℕ) → first_bad ss ≡ refused k o → k ≡ 4
unfolding first_bad
value_only [] k o e = absurd (never k o (sym e))
value_only (s ∷ rest) k o e =
    by_test (ltb (first_broken s.count s.good) s.count)
    (λ t. let q = rw t at e in cc)
    (λ t. value_only rest k o (rw t at e))

-- where there is room, the answer to writing is the check's
with_room : (c : Config) → write_answer c 1126 ≡ checked c
unfolding write_answer
with_room c = alone (checked c)
  where
    alone : (a : Answer (Unit {0})) → or_else a (given tt) ≡ a
    alone (given u) = refl
    alone (refused n offset) = refl

module _ (c : Config) where
  -- a configuration that breaks a rule is refused
  pub value_back : {o : ℕ} → refused 4 o ≡ write_answer c 1126 → refused 4 o ≡ come_back c
  unfolding come_back
  value_back h = let e = h ∙ with_room c in rw (← e)

  -- there is room
  pub room : refused 13 0 ≡ write_answer c 1126 → ⊥
  unfolding checked
  room h = let e : ◌≡◌ {A = ℕ} 13 4 = value_only (sections c) 13 0 (sym (h ∙ with_room c)) in omega arith

  -- a configuration that was written comes back
  pub comes_back : Counted c → Typed c → given tt ≡ write_answer c 1126 → {b : List ℕ} → b ≡ after_write c zeros → image_read b ≡ come_back c
  unfolding after_write image_read come_back image_config
  comes_back n t h {b} a =
      let e : checked c ≡ given tt = sym (h ∙ with_room c) in
      let whole : b ≡ encode c = (rw (← h) at a) ∙ append-nil (encode c) in
      let w = written_is_read c n t e in
      let back = rw w.0 at w.1 in
      rw (whole, w.0, e, back)

module _ (b : List ℕ) {c : Config} (r : given c ≡ image_read b) where
  -- what was read breaks no rule
  good : checked c ≡ given tt
  good = let p = read_given b r in ap checked p.1 ∙ read_is_good b p.0

  -- so it is written
  pub written : (w : Result (Unit {0}) WriteError) → write_said w ≡ write_answer c 1126 → IsOk w
  written (Ok u) s = refl
  written (Err (Value o)) s = absurd (never 4 o (s ∙ with_room c ∙ good))
  written (Err NoRoom) s = absurd (never 13 0 (s ∙ with_room c ∙ good))

  -- an accepted image comes back byte by byte
  pub copy_is : Bytes b → {l : List ℕ} → l ≡ after_write c zeros → given l ≡ image_copy b
  unfolding after_write image_copy
  copy_is byte {l} g =
      let p = read_given b r in
      let same : encode c ≡ b = ap encode p.1 ∙ read_is_written b byte p.0 in
      rw p.0 (ap given ((rw (with_room c, good) at g) ∙ append-nil (encode c) ∙ same))
