-- The laws of specs/Laws.antt.
use Rattle.std.specs.Prelude.{if◌then◌else◌}
use mathlib.Core.Path.{◌≡◌, refl, sym, ap, ◌∙◌}
use mathlib.Core.Bool.{Bool, true, false, true≢false, not, ◌&&◌, cond}
use mathlib.Core.List.{List, [], ◌∷◌}
use Prim.Native.Nat.{ℕ, ◌-◌, ◌^◌, ◌<◌, ◌≤◌}
use native.Mathlib.Omega.{arith}
use borrow.Author.Tests.{not-true, le-ltb, lt-ltb, ltb-true, ltb-false, eqb-true, ne_eqb, le-leb}
use lib.Dec.{eqb, ltb}
use lib.IntN.{ℤ, pos}
use lib.ListN.{get_or}
use Rattle.laws.specs.Answers.{given, refused}
use Rattle.laws.specs.Bytes.{bytes_of}
use Rattle.laws.specs.Counts.{count_of}
use Rattle.laws.specs.Each.{Each}
use Rattle.laws.specs.Masks.{bit, bit_at, mask_of}
use Rattle.laws.specs.SignedTotal.{totalℤ}
use Rattle.laws.proofs.If.{if_cases}
use Rattle.laws.proofs.Masks.{bit_at_lem, bit_zero}
use Rattle.laws.proofs.Tables.{table_at}
use Rattle.laws.proofs.Tests.{by_test, cond_both}
use Rattle.laws.proofs.Total.{total_zero}
use Rattle.laws.proofs.Counts.{count_cong}
use Rattle.laws.proofs.SignedTotal.{totalℤ-cong}
use Rattle.recorder.specs.Lists.{list_of}
use Rattle.recorder.specs.Meters.{meter_at}
use Rattle.recorder.specs.declared.Recorder.{Recorder}
use Rattle.registers.specs.Fleet.{meter_class, class_at, has_class, has_any, awake_value, awake_sum, classes_of, fleet_of}
use Rattle.registers.specs.Contents.{fleet_bytes}
use Rattle.registers.specs.Registers.{groups, look_up, RegisterReply, refusal, register_reply}
use Rattle.registers.proofs.Laws.{refused_leaves}
use Rattle.makers.specs.Requests.{on_list, only_meters, maker_reply}
use Rattle.makers.specs.Laws.{everything, RefusedToMaker, AsTheOperator, FleetOfList, EverythingListed, NothingListed}

-- a claim on replies, by the way that a maker's request goes
by_way : (P : RegisterReply → Type 0) (r : Recorder) (maker group register : ℕ) (buffer : List ℕ)
    → (ltb 2 maker ≡ true → P (refusal 20 buffer))
    → (on_list (list_of r.setup.lists maker) group register ≡ false → P (refusal 12 buffer))
    → (eqb group 204 ≡ true → P (register_reply (only_meters r (list_of r.setup.lists maker).meters) group register buffer))
    → (eqb group 204 ≡ false → P (register_reply r group register buffer))
    → P (maker_reply r maker group register buffer)
unfolding maker_reply
by_way P r maker group register buffer no-maker not_listed fleet other =
    if_cases P (ltb 2 maker) no-maker
    (λ e.
    if_cases P (not (on_list (list_of r.setup.lists maker) group register)) (λ t. not_listed (not-true _ t))
    (λ f. if_cases P (eqb group 204) fleet other))

pub refused_to_maker : RefusedToMaker
refused_to_maker r maker group register buffer n offset =
    by_way (λ reply. reply.answer ≡ refused n offset → reply.buffer ≡ buffer) r maker group register buffer
    (λ t e. refl) (λ f e. refl) (λ t. refused_leaves _ group register buffer n offset) (λ f. refused_leaves r group register buffer n offset)

pub as_the_operator : AsTheOperator
as_the_operator r maker group register buffer n other =
    by_way (λ reply. reply.answer ≡ given n → reply ≡ register_reply r group register buffer) r maker group register buffer
    (λ t e. absurd cc) (λ f e. absurd cc)
    (λ t. absurd (true≢false (sym t ∙ ne_eqb group 204 other))) (λ f e. refl)

-- The fleet

-- a meter off the list has no class, 4
has_class_lem : (listed : Bool) (class k : ℕ) → k < 4 → eqb (if listed then class else 4) k ≡ (listed && eqb class k)
has_class_lem true class k l = refl
has_class_lem false class k l = ne_eqb 4 k (λ e. omega arith)

has_any_lem : (listed : Bool) (class : ℕ) → ltb (if listed then class else 4) 4 ≡ (listed && ltb class 4)
has_any_lem true class = refl
has_any_lem false class = refl

module _ (r : Recorder) (mask : ℕ) where
  -- the class of meter i: none where it is off the list
  class_is : (i : ℕ) → i < 32 → get_or (classes_of (only_meters r mask)) i 0 ≡ (if bit_at mask i then get_or (classes_of r) i 0 else 4)
  unfolding only_meters class_at meter_class
  class_is i l =
      let limit : get_or (only_meters r mask).config.limits i 0 ≡ (if bit_at mask i then get_or r.config.limits i 0 else 0) = table_at 32 _ i 0 l in
      let own = table_at 32 (class_at (only_meters r mask).config.limits r.state.meters r.state.clock) i 0 l in
      let all = table_at 32 (class_at r.config.limits r.state.meters r.state.clock) i 0 l in
      own ∙ by_test (bit_at mask i) (λ t. rw (limit, t, all)) (λ f. rw (limit, f))

  -- so it is counted where it is on the list
  class_counted : (k : ℕ) → k < 4 → count_of 32 (has_class (classes_of (only_meters r mask)) k) ≡ count_of 32 (λ i. bit_at mask i && has_class (classes_of r) k i)
  unfolding has_class
  class_counted k few = count_cong 32 _ _ (λ i l. ap (λ class. eqb class k) (class_is i l) ∙ has_class_lem (bit_at mask i) (get_or (classes_of r) i 0) k few)

  fitted_counted : count_of 32 (has_any (classes_of (only_meters r mask))) ≡ count_of 32 (λ i. bit_at mask i && has_any (classes_of r) i)
  unfolding has_any
  fitted_counted = count_cong 32 _ _ (λ i l. ap (λ class. ltb class 4) (class_is i l) ∙ has_any_lem (bit_at mask i) (get_or (classes_of r) i 0))

  value_added : awake_sum (classes_of (only_meters r mask)) r.state.meters ≡ totalℤ 32 (λ i. cond (bit_at mask i) (awake_value (classes_of r) r.state.meters i) (pos 0))
  unfolding awake_sum awake_value has_class
  value_added =
      totalℤ-cong 32 _ _
      (λ i l.
      let value : ℤ = (meter_at r.state.meters i).value in
      ap (λ (awake : Bool). cond awake value (pos 0)) (ap (λ class. eqb class 0) (class_is i l) ∙ has_class_lem (bit_at mask i) (get_or (classes_of r) i 0) 0 (omega arith))
      ∙ cond_both (bit_at mask i) (eqb (get_or (classes_of r) i 0) 0) value (pos 0))

pub fleet_of_list : FleetOfList
unfolding fleet_of only_meters
fleet_of_list r mask =
    rw (fitted_counted r mask, class_counted r mask 0 (omega arith), class_counted r mask 1 (omega arith), class_counted r mask 2 (omega arith), class_counted r mask 3 (omega arith), value_added r mask)

-- Everything, and nothing

-- every bit of the mask of everything is on
all_on : (n i : ℕ) → i < n → mask_of n (λ j. true) ≡ 2 ^ n - 1 → bit_at (2 ^ n - 1) i ≡ true
all_on n i l same = ap (λ mask. bit_at mask i) (sym same) ∙ bit_at_lem n (λ j. true) i ∙ rw (lt-ltb i n l)

ones_32 : mask_of 32 (λ j. true) ≡ 2 ^ 32 - 1
unfolding mask_of
ones_32 = refl

ones_16 : mask_of 16 (λ j. true) ≡ 2 ^ 16 - 1
unfolding mask_of
ones_16 = refl

-- the fleet of all meters is the operator's
whole_fleet : (r : Recorder) → fleet_of (only_meters r (2 ^ 32 - 1)) ≡ fleet_of r
unfolding fleet_of awake_sum
whole_fleet r =
    let on : (i : ℕ) → i < 32 → bit_at (2 ^ 32 - 1) i ≡ true = λ i l. all_on 32 i l ones_32 in
    let same : (p : ℕ → Bool) → count_of 32 (λ i. bit_at (2 ^ 32 - 1) i && p i) ≡ count_of 32 p =
    λ p. count_cong 32 _ _ (λ i l. ap (λ (listed : Bool). listed && p i) (on i l)) in
    let sum : totalℤ 32 (λ i. cond (bit_at (2 ^ 32 - 1) i) (awake_value (classes_of r) r.state.meters i) (pos 0)) ≡ totalℤ 32 (awake_value (classes_of r) r.state.meters) =
    totalℤ-cong 32 _ _ (λ i l. ap (λ (listed : Bool). cond listed (awake_value (classes_of r) r.state.meters i) (pos 0)) (on i l)) in
    fleet_of_list r (2 ^ 32 - 1)
    ∙ rw (same (has_any (classes_of r)), same (has_class (classes_of r) 0), same (has_class (classes_of r) 1), same (has_class (classes_of r) 2), same (has_class (classes_of r) 3), sum)

-- group 204 goes by the fleet alone
same_fleet : (r q : Recorder) (register : ℕ) (buffer : List ℕ) → fleet_of q ≡ fleet_of r → register_reply q 204 register buffer ≡ register_reply r 204 register buffer
unfolding register_reply look_up groups
same_fleet r q register buffer same = rw same

-- a register past the end of its group: of 82, or of 201, 202 or 203
past_82 : (r : Recorder) (register : ℕ) (buffer : List ℕ) → 32 ≤ register → register_reply r 82 register buffer ≡ refusal 12 buffer
unfolding register_reply look_up groups
past_82 r register buffer l = rw (le-leb _ _ l)

past_16 : (r : Recorder) (register : ℕ) (buffer : List ℕ) → 16 ≤ register
    → Each (λ group. register_reply r group register buffer ≡ refusal 12 buffer) (201 ∷ 202 ∷ 203 ∷ [])
unfolding register_reply look_up groups
past_16 r register buffer l = let past = le-leb 16 register l in (rw past, (rw past, (rw past, tt)))

-- what is not on a list of everything is not in the table
not_in_table : (r : Recorder) (group register : ℕ) (buffer : List ℕ) → on_list everything group register ≡ false → refusal 12 buffer ≡ register_reply r group register buffer
unfolding on_list
not_in_table r group register buffer off =
    by_test (eqb group 82)
    (λ t₁. rw (eqb-true group 82 t₁) (sym (past_82 r register buffer (past 32 ones_32 (rw t₁ at off)))))
    (λ f₁.
    by_test (eqb group 201)
    (λ t₂. rw (eqb-true group 201 t₂) (sym (past_16 r register buffer (past 16 ones_16 (rw (f₁, t₂) at off))).0))
    (λ f₂.
    by_test (eqb group 202)
    (λ t₃. rw (eqb-true group 202 t₃) (sym (past_16 r register buffer (past 16 ones_16 (rw (f₁, f₂, t₃) at off))).1.0))
    (λ f₃.
    by_test (eqb group 203)
    (λ t₄. rw (eqb-true group 203 t₄) (sym (past_16 r register buffer (past 16 ones_16 (rw (f₁, f₂, f₃, t₄) at off))).1.1.0))
    (λ f₄. absurd (true≢false (rw (f₁, f₂, f₃, f₄) at off))))))
  where
    past : (n : ℕ) → mask_of n (λ j. true) ≡ 2 ^ n - 1 → bit_at (2 ^ n - 1) register ≡ false → n ≤ register
    past n same e = by_test (ltb register n) (λ t. absurd (true≢false (sym (all_on n register (ltb-true register n t) same) ∙ e))) (λ f. ltb-false register n f)

pub everything_listed : EverythingListed
everything_listed r maker few all group register buffer =
    by_way (λ reply. reply ≡ register_reply r group register buffer) r maker group register buffer
    (λ t. absurd (true≢false (sym t ∙ le-ltb 2 maker (omega arith))))
    (λ f. not_in_table r group register buffer (rw all at f))
    (λ t. rw (eqb-true group 204 t, all) (same_fleet r (only_meters r (2 ^ 32 - 1)) register buffer (whole_fleet r)))
    (λ f. refl)

-- no meter of an empty mask is counted
empty_fleet : (r : Recorder) → fleet_of (only_meters r 0) ≡ record { fitted = 0; awake = 0; stale = 0; invalid = 0; never = 0; sum = pos 0 }
unfolding totalℤ
empty_fleet r = fleet_of_list r 0 ∙ rw (none (has_any (classes_of r)), none (has_class (classes_of r) 0), none (has_class (classes_of r) 1), none (has_class (classes_of r) 2), none (has_class (classes_of r) 3), sum)
  where
    none : (p : ℕ → Bool) → count_of 32 (λ i. bit_at 0 i && p i) ≡ 0
    none p = total_zero 32 _ (λ i l. ap (λ (listed : Bool). bit (listed && p i)) (bit_zero i))

    sum : totalℤ 32 (λ i. cond (bit_at 0 i) (awake_value (classes_of r) r.state.meters i) (pos 0)) ≡ pos 0
    sum = totalℤ-cong 32 _ (λ i. pos 0) (λ i l. ap (λ (listed : Bool). cond listed (awake_value (classes_of r) r.state.meters i) (pos 0)) (bit_zero i))

pub nothing_listed : NothingListed
unfolding maker_reply on_list register_reply look_up groups fleet_bytes bytes_of
nothing_listed r maker few none register buffer =
    let there = le-ltb 2 maker (omega arith) in
    let off = bit_zero register in (
      (rw (there, none, off), (rw (there, none, off), (rw (there, none, off), (rw (there, none, off), tt)))),
      (rw there, (rw there, (rw there, (rw there, tt)))),
      (λ room. rw (there, none, empty_fleet r, le-leb _ _ room)),
    )
