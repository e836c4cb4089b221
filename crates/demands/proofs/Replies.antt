-- A register request by the bytes that its register holds: the reply, what can be read, and a field of it.
use Rattle.std.specs.Prelude.{if◌then◌else◌}
use mathlib.Core.Path.{◌≡◌, refl}
use mathlib.Core.Bool.{Bool, true, false, not, ◌&&◌}
use mathlib.Core.List.{List, ◌++◌}
use Prim.Native.Nat.{ℕ, ◌<◌}
use borrow.Author.Tests.{lt-leb, le-leb, ltb-true, ltb-false, leb-false}
use lib.Dec.{leb, ltb, eqb}
use lib.ListN.{length, take, drop, replicate}
use lib.Seq.{take-append_seam}
use Rattle.laws.specs.Answers.{Answer, given, refused}
use Rattle.laws.specs.Each.{Each}
use Rattle.laws.proofs.Tests.{by_test}
use Rattle.settings.specs.declared.Config.{Config}
use Rattle.recorder.specs.declared.Recorder.{Recorder}
use Rattle.registers.specs.Registers.{Group, groups, look_up, group_of, held_by, contents_of, RegisterReply, refusal, register_read, reply_of}
use Rattle.registers.proofs.Groups.{each_found}
use Rattle.registers.proofs.Laws.{held_long}
use Rattle.display.specs.Fields.{field_given, bytes_given}
use Rattle.demands.specs.Shown.{readable}

-- The reply

-- the reply to a request of a line of the table, by the bytes that its register holds
abbrev pub reply_with : Answer Group → Config → List ℕ → ℕ → List ℕ → RegisterReply
reply_with (refused n offset) c bytes i buffer = refusal n buffer
reply_with (given g) c bytes i buffer =
    if leb g.registers i then refusal 12 buffer
    else if not (g.in_use c i) then refusal 8 buffer
    else if not (leb g.bytes (length buffer)) then refusal 13 buffer
    else register_read g.bytes bytes buffer

-- it is the reply
pub reply_with_lem : (g : Answer Group) (r : Recorder) (i : ℕ) (buffer : List ℕ) → reply_of g r i buffer ≡ reply_with g r.config (held_by g r i) i buffer
reply_with_lem (refused n offset) r i buffer = refl
reply_with_lem (given g) r i buffer = refl

-- What can be read

-- by the line of the table: there is one, it has the register, and that is in use
abbrev pub used_by : Answer Group → Config → ℕ → Bool
used_by (given g) c i = not (leb g.registers i) && g.in_use c i
used_by (refused n offset) c i = false

-- a register below a count
below : (i n : ℕ) → ltb i n ≡ not (leb n i)
below i n = by_test (ltb i n) (λ t. rw (t, lt-leb n i (ltb-true i n t)) refl) (λ t. rw (t, le-leb n i (ltb-false i n t)) refl)

-- a test that always holds
and_true : (b : Bool) → b ≡ (b && true)
and_true true = refl
and_true false = refl

-- the two say the same
pub readable_is : (c : Config) (group i : ℕ) → readable c group i ≡ used_by (group_of group) c i
unfolding readable look_up groups
readable_is c group i =
    by_test (eqb group 82) (λ t. rw (t, below i 32) refl)
    (λ a.
    by_test (eqb group 89) (λ t. rw (a, t, below i 1) (and_true _))
    (λ b.
    by_test (eqb group 90) (λ t. rw (a, b, t, below i 32) (and_true _))
    (λ d.
    by_test (eqb group 91) (λ t. rw (a, b, d, t, below i 16) (and_true _))
    (λ e.
    by_test (eqb group 201) (λ t. rw (a, b, d, e, t, below i 16) refl)
    (λ f.
    by_test (eqb group 202) (λ t. rw (a, b, d, e, f, t, below i 16) refl)
    (λ g.
    by_test (eqb group 203) (λ t. rw (a, b, d, e, f, g, t, below i 16) refl)
    (λ h.
    by_test (eqb group 204) (λ t. rw (a, b, d, e, f, g, h, t, below i 1) (and_true _))
    (λ j. by_test (eqb group 206) (λ t. rw (a, b, d, e, f, g, h, j, t, below i 1) (and_true _)) (λ k. rw (a, b, d, e, f, g, h, j, k) refl)))))))))

-- What is read

-- no register has more than 13 bytes
short : Each (λ g. leb g.bytes 13 ≡ true) groups
unfolding groups
short = (refl, (refl, (refl, (refl, (refl, (refl, (refl, (refl, (refl, tt)))))))))

-- and each holds as many as the table says
pub long : (r : Recorder) (group i : ℕ) (g : Group) → group_of group ≡ given g → (length (contents_of r group i) ≡ g.bytes) × (leb g.bytes 13 ≡ true)
long r group i g found = (rw found (held_long group g found r i), each_found (λ x. leb x.bytes 13 ≡ true) groups group g found short)

-- a field of the reply to a request, by the bytes that its register holds
pub by_line : (l : Answer Group) (c : Config) (bytes : List ℕ) (group i field : ℕ)
    → ((g : Group) → l ≡ given g → i < g.registers → (length bytes ≡ g.bytes) × (leb g.bytes 13 ≡ true)) →
    let reply = reply_with l c bytes i (replicate 13 0) in
    field_given group field (bytes_given reply.answer reply.buffer) ≡ field_given group field (if used_by l c i then given bytes else refused 22 0)
by_line (refused n offset) c bytes group i field fits = refl
by_line (given g) c bytes group i field fits =
    by_test (leb g.registers i) (λ t. rw t refl)
    (λ f.
    by_test (g.in_use c i)
    (λ u.
    let long = fits g refl (leb-false g.registers i f) in
    let whole : take g.bytes (bytes ++ drop g.bytes (replicate 13 0)) ≡ bytes = rw (← long.0) (take-append_seam bytes (drop (length bytes) (replicate 13 0))) in
    rw (f, u, long.1, whole) refl)
    (λ u. rw (f, u) refl))
