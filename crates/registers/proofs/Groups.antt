-- The table of groups, line by line; and the reply to a request by the line that was found for it.
use mathlib.Core.Path.{◌≡◌, refl, sym, ap, ◌∙◌}
use mathlib.Core.Bool.{Bool, true, false, not}
use mathlib.Core.List.{List, [], ◌∷◌, ◌++◌}
use mathlib.Core.Logic.{◌⊎◌, ⊎_elim}
use Prim.Native.Nat.{ℕ, ◌≤◌, ◌<◌}
use borrow.Author.Tests.{eqb-true, ne_eqb, le-leb, lt-leb}
use lib.Dec.{eqb, leb}
use lib.ListN.{length, take, drop}
use lib.Seq.{take-append_seam}
use Rattle.laws.specs.Answers.{Answer, given, refused}
use Rattle.laws.specs.Each.{Each}
use Rattle.laws.proofs.Tests.{by_test}
use Rattle.settings.specs.declared.Config.{Config}
use Rattle.recorder.specs.declared.Recorder.{Recorder}
use Rattle.registers.specs.Contents.{padded}
use Rattle.std.specs.Prelude.{Option, Some, None, Ok, Err}
use Rattle.std.specs.Option.{ok_or}
use borrow.Author.Rules.{rules}
use Rattle.registers.specs.declared.Layout.{Layout}
use Rattle.registers.specs.declared.RegisterError.{RegisterError}
use Rattle.registers.specs.declared.RegisterError.TheVariants.{NoGroup}
use Rattle.registers.specs.Registers.{groups, group_of, layout_of, layout_said, Group, look_up, used_in, held_by, Shape, shape_of, refusal, register_read, reply_of}

-- a number that no line has finds nothing
pub none_found : (gs : List Group) (n : ℕ) → Each (λ g. n ≡ g.number → ⊥) gs → look_up gs n ≡ refused 11 0
unfolding look_up
none_found [] n each = refl
none_found (g ∷ gs) n each = rw (ne_eqb n _ each.0) (none_found gs n each.1)

-- a number whose line, if there is one, has registers that are there always
pub always_there : (gs : List Group) (n : ℕ) (c : Config) (i : ℕ) → Each (λ g. (n ≡ g.number → ⊥) ⊎ (g.in_use c i ≡ true)) gs → true ≡ used_in (look_up gs n) c i
unfolding look_up
always_there [] n c i each = refl
always_there (g ∷ gs) n c i each =
    by_test (eqb n g.number)
    (λ e. rw e (⊎_elim (λ other. absurd (other (eqb-true n g.number e))) (λ there. sym there) each.0))
    (λ e. rw e (always_there gs n c i each.1))

-- whether an answer is given
abbrev pub is_given_lem : {A : Type 0} → Answer A → Bool
is_given_lem (given x) = true
is_given_lem (refused n offset) = false

-- what is given; of a refusal something else
abbrev pub the : {A : Type 0} → A → Answer A → A
the other (given x) = x
the other (refused n offset) = other

-- what holds of each line holds of the one that is found
pub each_found : (P : Group → Type 0) (gs : List Group) (n : ℕ) (g : Group) → look_up gs n ≡ given g → Each P gs → P g
unfolding look_up
each_found P [] n g e each = absurd cc
each_found P (l ∷ gs) n g e each =
    by_test (eqb n l.number)
    (λ t. let same : l ≡ g = cc (rw t at e) in rw (← same) each.0)
    (λ f. each_found P gs n g (rw f at e) each.1)

-- the line behind a layout
pub record Found (a : Answer Group) (registers bytes : ℕ) : Type 0 where
  pub group : Group
  pub is : a ≡ given group
  pub has : group.registers ≡ registers
  pub long : group.bytes ≡ bytes

-- there is one where the layout is given
pub found : (a : Answer Group) (registers bytes : ℕ) → given (record { registers = registers; bytes = bytes }) ≡ shape_of a → Found a registers bytes
found (given g) registers bytes e =
    let laid : Shape = record { registers = registers; bytes = bytes } in
    let same : record { registers = g.registers; bytes = g.bytes } ≡ laid = cc in
    record { group = g; is = refl; has = ap (λ (s : Shape). s.registers) same; long = ap (λ (s : Shape). s.bytes) same }
found (refused n offset) registers bytes e = absurd cc

-- there is none where it is refused
pub not_found : (a : Answer Group) (r : Recorder) (i : ℕ) (buffer : List ℕ) → refused 11 0 ≡ shape_of a → refusal 11 buffer ≡ reply_of a r i buffer
not_found (given g) r i buffer e = absurd cc
not_found (refused n offset) r i buffer e = cc

module _ {a : Answer Group} {registers bytes : ℕ} (line : Found a registers bytes) (r : Recorder) (i : ℕ) (buffer : List ℕ) where
  -- 12 NO REGISTER
  pub reply_12 : registers ≤ i → refusal 12 buffer ≡ reply_of a r i buffer
  reply_12 h = rw (line.is, line.has, le-leb _ _ h)

  -- 8 NOT FITTED
  pub reply_8 : i < registers → not (used_in a r.config i) ≡ true → refusal 8 buffer ≡ reply_of a r i buffer
  reply_8 h t = let u = rw line.is at t in rw (line.is, line.has, lt-leb _ _ h, u)

  -- 13 NO ROOM
  pub reply_13 : i < registers → not (used_in a r.config i) ≡ false → not (leb bytes (length buffer)) ≡ true → refusal 13 buffer ≡ reply_of a r i buffer
  reply_13 h t s = let u = rw line.is at t in rw (line.is, line.has, line.long, lt-leb _ _ h, u, s)

  -- the register
  pub reply_read : i < registers → not (used_in a r.config i) ≡ false → not (leb bytes (length buffer)) ≡ false
      → register_read bytes (held_by a r i) buffer ≡ reply_of a r i buffer
  reply_read h t s = let u = rw line.is at t in rw (line.is, line.has, line.long, lt-leb _ _ h, u, s)

-- the buffer after its first bytes were taken from the register's, which have zeros after them
pub given_out : (n : ℕ) (held old : List ℕ) {bytes after : List ℕ} → length held ≡ n → bytes ≡ padded held → after ≡ take n bytes ++ drop n old
    → after ≡ held ++ drop n old
given_out n held old long b e = let t : take n (padded held) ≡ held = rw (← long) (take-append_seam held _) in e ∙ rw (b, t)

-- the line of the table behind a layout, and the refusal where there is none
pub laid : (n : ℕ) (o : Option Layout) (l : Layout) → layout_said o ≡ layout_of n → Ok l ≡ ok_or o NoGroup → Found (group_of n) l.registers l.bytes
laid n o l said e = found (group_of n) l.registers l.bytes (same o e ∙ said)
  where
    same : (o : Option Layout) → Ok l ≡ ok_or o NoGroup → given (record { registers = l.registers; bytes = l.bytes }) ≡ layout_said o
    same (Some m) e = search rules
    same None e = search rules

pub none_laid : (o : Option Layout) (e : RegisterError) → Err e ≡ ok_or o NoGroup → (e ≡ NoGroup) × (refused 11 0 ≡ layout_said o)
none_laid (Some m) x e = search rules
none_laid None x e = search rules

-- no register has more than 13 bytes
pub few : (n : ℕ) {registers bytes : ℕ} → Found (group_of n) registers bytes → bytes ≤ 13
unfolding groups
few n found = rw (← found.long) (each_found (λ g. g.bytes ≤ 13) groups n _ found.is (search rules))

-- what a refused request asks for
pub ruleset refusals = (laid, none_laid, not_found, reply_12, reply_8, reply_13)
