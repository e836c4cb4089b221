-- CR 6 worked out, by hand: two histories that differ in everything that a maker must not see; and for each clause of what a maker sees a pair of histories which differ in that alone, with the register in
-- which the maker is answered otherwise.
use Rattle.std.specs.Prelude.{◌≡◌, List, [], ◌∷◌, ◌++◌, reverse, ℕ, pos, length, replicate}
use Rattle.laws.specs.Each.{Each}
use Rattle.settings.specs.declared.Config.{Config}
use Rattle.recorder.specs.History.{Call, sample, set, reading, reset}
use Rattle.recorder.specs.Lists.{empty_list}
use Rattle.recorder.specs.declared.MakerList.{MakerList}
use Rattle.recorder.specs.declared.Setup.{Setup}
use Rattle.registers.specs.Registers.{RegisterReply, refusal, register_read, register_reply}
use Rattle.makers.specs.Requests.{maker_reply}
use Rattle.demands.specs.Demand2.{reached, reply_number}
use Rattle.worked.specs.Example.{day_and_night, full_maker, nearly_full, start}
use Rattle.demands.specs.Makers.{seen_of, view_of}

-- inputs 0 to 6, S1a with runs of 1 to 8; 5 has 1/2 units an impulse, 6 has 5/2, the others 1. Sums 0 to 4 are inputs 1, 2, 3, 4 and 6; function 0 is twice sum 1, and all other coefficients are 0, that of
-- sum 3 too. Slots 0 to 3 are input 0, sum 0, function 0 and input 6. Bill register 0 is on sum 2 without a tariff, 1 on sum 4 by night. Serial meters 0 and 1 are fitted
abbrev pub shared_hall : Config
shared_hall =
    record {
      period = 15;
      inputs =
          replicate 5 (record { kind = 1; shortest = 1; longest = 8; numerator = 1; denominator = 1 })
          ++ (record { kind = 1; shortest = 1; longest = 8; numerator = 1; denominator = 2 }
          ∷ record { kind = 1; shortest = 1; longest = 8; numerator = 5; denominator = 2 }
          ∷ replicate 9 (record { kind = 0; shortest = 0; longest = 0; numerator = 0; denominator = 0 }));
      sums = 2 ∷ 4 ∷ 8 ∷ 16 ∷ 64 ∷ replicate 3 0;
      coefficients = pos 0 ∷ pos 2 ∷ replicate 30 (pos 0);
      slots =
          record { level = 0; index = 0 }
          ∷ record { level = 1; index = 0 }
          ∷ record { level = 2; index = 0 }
          ∷ record { level = 0; index = 6 }
          ∷ replicate 12 (record { level = 255; index = 0 });
      limits = 900 ∷ 900 ∷ replicate 30 0;
      program = day_and_night;
      registers = record { sum = 2; rule = 255 } ∷ record { sum = 4; rule = 1 } ∷ replicate 14 (record { sum = 255; rule = 255 });
    }

-- maker 0 has meter 0, input 5, slots 0, 1 and 2 and bill register 0. So inputs 0, 1, 2, 3 and 5 feed the maker, each by one way alone; 4 does not, as its sum has the coefficient 0
abbrev pub of_maker0 : MakerList
of_maker0 = record { meters = 1; inputs = 32; slots = 7; bills = 1 }

-- maker 1 has meter 1, input 6, slot 3 and bill register 1, maker 2 nothing
abbrev pub three_lists : Setup
three_lists =
    record {
      slots = replicate 8 0;
      lists = of_maker0 ∷ record { meters = 2; inputs = 64; slots = 8; bills = 2 } ∷ empty_list ∷ [];
    }

-- Two histories that maker 0 cannot tell apart

-- maker 0 alone: a reading of meter 0 and an impulse of each input that feeds the maker at noon; at 23:00 one of inputs 3 and 5, a reset, and one more
abbrev pub alone : List Call
alone =
    reverse
    (reading 0 (pos 21) 0 5 ∷ sample 47 ∷ sample 0 ∷ set 82_800
    ∷ sample 40 ∷ sample 0 ∷ reset ∷ sample 40 ∷ sample 0 ∷ [])

-- the same with maker 1's night shift on input 6, with input 4, with readings of meter 1, and with refused readings: a STATUS of 8, of a meter above 31, of one that is not fitted
abbrev pub with_others : List Call
with_others =
    reverse
    (reading 1 (pos 500) 1 7 ∷ reading 0 (pos 21) 0 5 ∷ reading 0 (pos 99) 8 6 ∷ sample 63 ∷ sample 80 ∷ reading 40 (pos 1) 0 0 ∷ set 82_800
    ∷ sample 104 ∷ sample 0 ∷ reading 2 (pos 3) 0 0 ∷ reading 1 (pos 510) 0 8 ∷ reset ∷ sample 104 ∷ sample 0 ∷ [])

-- a register that is asked for, and its bytes
pub record Figure : Type 0 where
  pub group : ℕ
  pub register : ℕ
  pub bytes : List ℕ

-- the reply with these bytes, in a buffer of 13 zeros
abbrev pub reply_is : List ℕ → RegisterReply
reply_is bytes = register_read (length bytes) bytes (replicate 13 0)

-- what a maker is answered after calls from noon on
abbrev pub answered : ℕ → ℕ → List Call → ℕ → ℕ → RegisterReply
answered lent maker calls group register = maker_reply (reached three_lists lent shared_hall start calls) maker group register (replicate 13 0)

-- what the operator is answered
abbrev pub told : ℕ → List Call → ℕ → ℕ → RegisterReply
told lent calls group register = register_reply (reached three_lists lent shared_hall start calls) group register (replicate 13 0)

-- maker 0's registers at the end. Meter 0 was heard at noon, 168 * 256 + 192, and is stale. The period to 23:00 was closed at noon as short: 1 unit of input 0, 1 of sum 0, twice 1 of sum 1. Two impulses
-- of input 3 were closed with the reset at 23:00, (256 + 67) * 256 + 112, and one is open. Three impulses of input 5 have left 1/2. The fleet has one meter, stale. It is night, and four samples into the second
abbrev pub of_both : List Figure
of_both =
    record { group = 82; register = 0; bytes = 192 ∷ 168 ∷ 0 ∷ 0 ∷ 21 ∷ 0 ∷ 0 ∷ 0 ∷ 1 ∷ 5 ∷ [] }
    ∷ record { group = 89; register = 0; bytes = 2 ∷ 0 ∷ [] }
    ∷ record { group = 90; register = 1; bytes = 1 ∷ [] }
    ∷ record { group = 91; register = 0; bytes = 0 ∷ [] }
    ∷ record { group = 201; register = 0; bytes = 1 ∷ 192 ∷ 168 ∷ 0 ∷ 0 ∷ 1 ∷ replicate 7 0 }
    ∷ record { group = 201; register = 1; bytes = 1 ∷ 192 ∷ 168 ∷ 0 ∷ 0 ∷ 1 ∷ replicate 7 0 }
    ∷ record { group = 201; register = 2; bytes = 1 ∷ 192 ∷ 168 ∷ 0 ∷ 0 ∷ 2 ∷ replicate 7 0 }
    ∷ record { group = 202; register = 0; bytes = 1 ∷ 1 ∷ 0 ∷ 0 ∷ 0 ∷ 2 ∷ 0 ∷ 0 ∷ 0 ∷ 112 ∷ 67 ∷ 1 ∷ 0 ∷ [] }
    ∷ record { group = 203; register = 5; bytes = 0 ∷ 0 ∷ 1 ∷ 0 ∷ [] }
    ∷ record { group = 204; register = 0; bytes = 1 ∷ 0 ∷ 1 ∷ replicate 10 0 }
    ∷ record { group = 206; register = 0; bytes = 112 ∷ 67 ∷ 1 ∷ 0 ∷ 4 ∷ [] }
    ∷ []

-- the operator's registers of maker 1: meter 1 was never read, or heard at 23:00 with 510, 256 + 254; nothing, or 2 units closed and 3 open of input 6 by night; the fleet of both meters
abbrev pub of_alone : List Figure
of_alone =
    record { group = 82; register = 1; bytes = replicate 8 0 ++ (1 ∷ 0 ∷ []) }
    ∷ record { group = 202; register = 1; bytes = 1 ∷ replicate 8 0 ++ (112 ∷ 67 ∷ 1 ∷ 0 ∷ []) }
    ∷ record { group = 204; register = 0; bytes = 2 ∷ 0 ∷ 1 ∷ 0 ∷ 1 ∷ replicate 8 0 }
    ∷ []

-- and with the others
abbrev pub of_others : List Figure
of_others =
    record { group = 82; register = 1; bytes = 112 ∷ 67 ∷ 1 ∷ 0 ∷ 254 ∷ 1 ∷ 0 ∷ 0 ∷ 0 ∷ 8 ∷ [] }
    ∷ record { group = 202; register = 1; bytes = 1 ∷ 3 ∷ 0 ∷ 0 ∷ 0 ∷ 2 ∷ 0 ∷ 0 ∷ 0 ∷ 112 ∷ 67 ∷ 1 ∷ 0 ∷ [] }
    ∷ record { group = 204; register = 0; bytes = 2 ∷ 1 ∷ 1 ∷ 0 ∷ 0 ∷ 254 ∷ 1 ∷ replicate 6 0 }
    ∷ []

-- the witness
pub record NotSeen (lent : ℕ) : Type 0 where
  -- the views are the same: so every request of maker 0 has the same answer, by `MakersApart`
  pub same_view : view_of shared_hall of_maker0 start alone ≡ view_of shared_hall of_maker0 start with_others
  pub same : (group register : ℕ) (buffer : List ℕ)
      → maker_reply (reached three_lists lent shared_hall start alone) 0 group register buffer ≡ maker_reply (reached three_lists lent shared_hall start with_others) 0 group register buffer
  -- these are the answers, in numbers; and what is maker 1's is refused
  pub own : Each (λ (x : Figure). answered lent 0 alone x.group x.register ≡ reply_is x.bytes) of_both
  pub own_with_others : Each (λ (x : Figure). answered lent 0 with_others x.group x.register ≡ reply_is x.bytes) of_both
  pub not_own : Each (λ (x : Figure). answered lent 0 with_others x.group x.register ≡ refusal 12 (replicate 13 0))
      (record { group = 82; register = 1; bytes = [] } ∷ record { group = 201; register = 3; bytes = [] } ∷ record { group = 202; register = 1; bytes = [] } ∷ record { group = 203; register = 6; bytes = [] } ∷ [])
  -- while the histories do differ
  pub operator : Each (λ (x : Figure). told lent alone x.group x.register ≡ reply_is x.bytes) of_alone
  pub operator_with_others : Each (λ (x : Figure). told lent with_others x.group x.register ≡ reply_is x.bytes) of_others

-- Nothing that a maker sees can be left out

-- two histories from noon on, a register that maker 0 asks for, and its bytes in the one and in the other
pub record Pair : Type 0 where
  pub one : List Call
  pub other : List Call
  pub group : ℕ
  pub register : ℕ
  pub bytes : List ℕ
  pub other_bytes : List ℕ

-- an impulse of some inputs, and at 13:00, 182 * 256 + 208, the period is closed
abbrev pulse : ℕ → List Call
pulse bits = set 46_800 ∷ sample 0 ∷ sample bits ∷ []

-- level 9 of the period that was closed at noon
abbrev level9 : ℕ → List ℕ
level9 value = 1 ∷ 192 ∷ 168 ∷ 0 ∷ 0 ∷ value ∷ replicate 7 0

-- one bit: of the input on the list, of that of the slot of level 0, of the sum of level 1, of the sum with a coefficient that is not 0, of the bill register's sum; one reading; one clock set; one reset; one
-- sample; and the order of a reading and a clock set
abbrev pub pairs : List Pair
pairs =
    record { one = pulse 32; other = pulse 0; group = 203; register = 5; bytes = 0 ∷ 0 ∷ 1 ∷ 0 ∷ []; other_bytes = 0 ∷ 0 ∷ 0 ∷ 0 ∷ [] }
    ∷ record { one = pulse 1; other = pulse 0; group = 201; register = 0; bytes = level9 1; other_bytes = level9 0 }
    ∷ record { one = pulse 2; other = pulse 0; group = 201; register = 1; bytes = level9 1; other_bytes = level9 0 }
    ∷ record { one = pulse 4; other = pulse 0; group = 201; register = 2; bytes = level9 2; other_bytes = level9 0 }
    ∷ record { one = pulse 8; other = pulse 0; group = 202; register = 0; bytes = 0 ∷ 1 ∷ replicate 11 0; other_bytes = replicate 13 0 }
    ∷ record { one = reading 0 (pos 21) 0 5 ∷ []; other = []; group = 82; register = 0; bytes = 192 ∷ 168 ∷ 0 ∷ 0 ∷ 21 ∷ 0 ∷ 0 ∷ 0 ∷ 0 ∷ 5 ∷ []; other_bytes = replicate 8 0 ++ (1 ∷ 0 ∷ []) }
    ∷ record { one = set 46_800 ∷ []; other = []; group = 206; register = 0; bytes = 208 ∷ 182 ∷ 0 ∷ 0 ∷ 0 ∷ []; other_bytes = 192 ∷ 168 ∷ 0 ∷ 0 ∷ 0 ∷ [] }
    ∷ record { one = reset ∷ []; other = []; group = 202; register = 0; bytes = 1 ∷ replicate 8 0 ++ (192 ∷ 168 ∷ 0 ∷ 0 ∷ []); other_bytes = replicate 13 0 }
    ∷ record { one = sample 0 ∷ []; other = []; group = 206; register = 0; bytes = 192 ∷ 168 ∷ 0 ∷ 0 ∷ 1 ∷ []; other_bytes = 192 ∷ 168 ∷ 0 ∷ 0 ∷ 0 ∷ [] }
    ∷ record { one = set 46_800 ∷ reading 0 (pos 21) 0 5 ∷ []; other = reading 0 (pos 21) 0 5 ∷ set 46_800 ∷ []; group = 82; register = 0; bytes = 192 ∷ 168 ∷ 0 ∷ 0 ∷ 21 ∷ 0 ∷ 0 ∷ 0 ∷ 1 ∷ 5 ∷ []; other_bytes = 208 ∷ 182 ∷ 0 ∷ 0 ∷ 21 ∷ 0 ∷ 0 ∷ 0 ∷ 0 ∷ 5 ∷ [] }
    ∷ []

-- maker 0 is answered so, and the two answers differ
abbrev pub PairClaim : ℕ → Pair → Type 0
PairClaim lent p =
    (answered lent 0 p.one p.group p.register ≡ reply_is p.bytes)
    × (answered lent 0 p.other p.group p.register ≡ reply_is p.other_bytes)
    × (p.bytes ≡ p.other_bytes → ⊥)

-- "FULL strikes whole samples": after 12,499 samples (Example.antt) one opens all lines, which would fill the bill register, or leaves them closed. A maker with nothing on the list sees the same of all
-- 12,500; but one of the two is refused, and the clock, which is common, shows it: 124 s and 99 samples, or 125 s
pub record StruckInOne (lent : ℕ) : Type 0 where
  pub offered : seen_of full_maker empty_list (sample 0 ∷ nearly_full) ≡ seen_of full_maker empty_list (sample 65_535 ∷ nearly_full)
  pub struck : reply_number (reached three_lists lent full_maker 0 nearly_full) (sample 0) ≡ 6
  pub taken : reply_number (reached three_lists lent full_maker 0 nearly_full) (sample 65_535) ≡ 0
  pub clock : maker_reply (reached three_lists lent full_maker 0 (sample 0 ∷ nearly_full)) 2 206 0 (replicate 13 0) ≡ reply_is (124 ∷ 0 ∷ 0 ∷ 0 ∷ 99 ∷ [])
  pub other_clock : maker_reply (reached three_lists lent full_maker 0 (sample 65_535 ∷ nearly_full)) 2 206 0 (replicate 13 0) ≡ reply_is (125 ∷ 0 ∷ 0 ∷ 0 ∷ 0 ∷ [])

-- the cases
pub record MakersCases (lent : ℕ) : Type 0 where
  pub not_seen : NotSeen lent
  pub needed : Each (PairClaim lent) pairs
  pub full : StruckInOne lent
