-- CR 6 over histories: a maker's reply is worked out from configuration, list and view.
use Rattle.std.specs.Prelude.{if◌then◌else◌}
use mathlib.Core.Path.{◌≡◌, refl, sym, ap, ◌∙◌}
use mathlib.Core.Bool.{true, true≢false, not}
use mathlib.Core.List.{List, ◌++◌}
use Prim.Native.Nat.{ℕ, ◌<◌}
use borrow.Author.Tests.{eqb-true, leb-false}
use lib.Dec.{leb, ltb, eqb}
use lib.ListN.{length, drop}
use Rattle.laws.specs.Answers.{Answer, given, refused}
use Rattle.laws.specs.Masks.{bit_at}
use Rattle.laws.proofs.If.{if_cases}
use Rattle.laws.proofs.Tests.{by_test}
use Rattle.settings.specs.declared.Config.{Config}
use Rattle.profile.specs.declared.Profile.{Profile}
use Rattle.recorder.specs.History.{Call}
use Rattle.recorder.specs.Lists.{list_of}
use Rattle.recorder.specs.declared.MakerList.{MakerList}
use Rattle.recorder.specs.declared.Recorder.{Recorder}
use Rattle.recorder.specs.declared.Setup.{Setup}
use Rattle.registers.specs.Contents.{fleet_bytes}
use Rattle.registers.specs.Fleet.{fleet_of}
use Rattle.registers.specs.Registers.{Group, groups, look_up, group_of, registers_in, registers_of, contents_of, RegisterReply, refusal, register_reply}
use Rattle.registers.proofs.Groups.{is_given_lem, the}
use Rattle.makers.specs.Requests.{on_list, only_meters, maker_reply}
use Rattle.makers.proofs.Laws.{as_the_operator, fleet_of_list, everything_listed, nothing_listed}
use Rattle.demands.specs.Account.{Account, account_of}
use Rattle.demands.specs.Starts.{Accepted}
use Rattle.demands.specs.Shown.{fleet_among, fleet_shown, shown}
use Rattle.demands.specs.Demand2.{reached}
use Rattle.demands.specs.Profile.{calls_of}
use Rattle.demands.specs.Makers.{view_of, shown_to, account_of_view, MakersApart, ApartInSequences, MakersOfHistory, ShownByView, EachTheirOwn}
use Rattle.demands.proofs.Levels.{recorder_is}
use Rattle.demands.proofs.Profile.{recorder_of_sequence}
use Rattle.demands.proofs.Replies.{reply_with, reply_with_lem}
use Rattle.demands.proofs.Shown.{spelled, fleet_counts, contents_are}
use Rattle.demands.proofs.Views.{shown_by_view}

-- of a reply only the bytes of a register that its group has matter
same_bytes : (g : Answer Group) (c : Config) (x y : List ℕ) (i : ℕ) (buffer : List ℕ) → (i < registers_in g → x ≡ y) → reply_with g c x i buffer ≡ reply_with g c y i buffer
same_bytes (refused n offset) c x y i buffer same = refl
same_bytes (given g) c x y i buffer same = by_test (leb g.registers i) (λ t. rw t) (λ f. rw (same (leb-false g.registers i f)))

-- a maker's reply, by the bytes that are shown
abbrev pub maker_with : Config → MakerList → ℕ → ℕ → ℕ → List ℕ → List ℕ → RegisterReply
maker_with c list maker group register bytes buffer =
    if ltb 2 maker then refusal 20 buffer
    else if not (on_list list group register) then refusal 12 buffer
    else reply_with (group_of group) c bytes register buffer

module _ (setup : Setup) (profile : Profile) (c : Config) (a : Account) (maker : ℕ) where
  abbrev list : MakerList
  list = list_of setup.lists maker

  abbrev r : Recorder
  r = spelled setup profile c a

  fleet_shown_lem : fleet_bytes (fleet_of (only_meters r list.meters)) ≡ fleet_shown (fleet_among (bit_at list.meters) c a)
  unfolding fleet_bytes
  fleet_shown_lem = ap fleet_shown (fleet_of_list r list.meters ∙ fleet_counts setup profile c a (bit_at list.meters))

  -- the fleet of the list's meters
  own_fleet : (register : ℕ) (buffer : List ℕ) → register_reply (only_meters r list.meters) 204 register buffer ≡ reply_with (group_of 204) c (shown_to list c a 204 register) register buffer
  unfolding register_reply look_up groups
  own_fleet register buffer = rw fleet_shown_lem

  -- the operator's reply
  register_with : (group register : ℕ) (buffer : List ℕ) → register_reply r group register buffer ≡ reply_with (group_of group) c (shown c a group register) register buffer
  unfolding register_reply
  register_with group register buffer =
      reply_with_lem (group_of group) r register buffer
      ∙ same_bytes (group_of group) c (contents_of r group register) (shown c a group register) register buffer (λ l. contents_are setup profile c a group register l)

  -- the reply of the recorder that the account spells out
  maker_with_lem : (group register : ℕ) (buffer : List ℕ) → maker_reply r maker group register buffer ≡ maker_with c list maker group register (shown_to list c a group register) buffer
  unfolding maker_reply
  maker_with_lem group register buffer =
      by_test (eqb group 204)
      (λ t. let q = eqb-true group 204 t in rw q (rw (own_fleet register buffer)))
      (λ f. rw (register_with group register buffer, f))

-- the reply after a history, by what the account shows
pub maker_by_account : (setup : Setup) (lent : ℕ) (c : Config) → Accepted c → (time : ℕ) (calls : List Call) (maker group register : ℕ) (buffer : List ℕ) →
    let list = list_of setup.lists maker in
    maker_reply (reached setup lent c time calls) maker group register buffer ≡ maker_with c list maker group register (shown_to list c (account_of c time calls) group register) buffer
maker_by_account setup lent c accepted time calls maker group register buffer =
    ap (λ (x : Recorder). maker_reply x maker group register buffer) (recorder_is setup lent c accepted.good time calls)
    ∙ maker_with_lem setup (reached setup lent c time calls).profile c (account_of c time calls) maker group register buffer

pub operator_by_account : (setup : Setup) (lent : ℕ) (c : Config) → Accepted c → (time : ℕ) (calls : List Call) (group register : ℕ) (buffer : List ℕ)
    → register_reply (reached setup lent c time calls) group register buffer ≡ reply_with (group_of group) c (shown c (account_of c time calls) group register) register buffer
operator_by_account setup lent c accepted time calls group register buffer =
    ap (λ (x : Recorder). register_reply x group register buffer) (recorder_is setup lent c accepted.good time calls)
    ∙ register_with setup (reached setup lent c time calls).profile c (account_of c time calls) 0 group register buffer

-- what is not shown does not matter
same_shown : (c : Config) (list : MakerList) (maker group register : ℕ) (x y buffer : List ℕ)
    → (register < registers_of group → on_list list group register ≡ true → x ≡ y) → maker_with c list maker group register x buffer ≡ maker_with c list maker group register y buffer
same_shown c list maker group register x y buffer same =
    by_test (on_list list group register)
    (λ on. rw (same_bytes (group_of group) c x y register buffer (λ l. same l on)))
    (λ off. rw off)

-- a maker's reply after calls that an account spells out, by the view
by_view : (setup : Setup) (profile : Profile) (c : Config) (time : ℕ) (calls : List Call) (maker group register : ℕ) (buffer : List ℕ) →
    let list = list_of setup.lists maker in
    maker_reply (spelled setup profile c (account_of c time calls)) maker group register buffer
    ≡ maker_with c list maker group register (shown_to list c (account_of_view c time (view_of c list time calls)) group register) buffer
by_view setup profile c time calls maker group register buffer =
    let list = list_of setup.lists maker in
    maker_with_lem setup profile c (account_of c time calls) maker group register buffer
    ∙ same_shown c list maker group register _ _ buffer (λ l on. shown_by_view c list time calls group register l on)

-- two recorders whose views are the same
both : (c : Config) (time maker : ℕ) (list : MakerList)
    → (setup : Setup) → list_of setup.lists maker ≡ list → (profile : Profile) (calls : List Call)
    → (setup' : Setup) → list_of setup'.lists maker ≡ list → (profile' : Profile) (calls' : List Call)
    → view_of c list time calls ≡ view_of c list time calls'
    → (group register : ℕ) (buffer : List ℕ)
    → maker_reply (spelled setup profile c (account_of c time calls)) maker group register buffer ≡ maker_reply (spelled setup' profile' c (account_of c time calls')) maker group register buffer
both c time maker list setup own profile calls setup' own' profile' calls' view group register buffer =
    let one = rw own at (by_view setup profile c time calls maker group register buffer) in
    let other = rw own' at (by_view setup' profile' c time calls' maker group register buffer) in
    one
    ∙ (ap (λ (v : List Call). maker_with c list maker group register (shown_to list c (account_of_view c time v) group register) buffer) view
    ∙ sym other)

pub makers_apart : MakersApart
makers_apart c accepted time maker list setup own lent calls setup' own' lent' calls' view group register buffer =
    let r = recorder_is setup lent c accepted.good time calls in
    let r' = recorder_is setup' lent' c accepted.good time calls' in
    let reply : Recorder → RegisterReply = λ x. maker_reply x maker group register buffer in
    ap reply r
    ∙ (both c time maker list setup own (reached setup lent c time calls).profile calls setup' own' (reached setup' lent' c time calls').profile calls' view group register buffer
    ∙ sym (ap reply r'))

pub apart_in_sequences : ApartInSequences
apart_in_sequences c accepted time maker list setup own fit lent legal sequence lends setup' own' fit' lent' legal' sequence' lends' view group register buffer =
    let r = recorder_of_sequence setup fit c accepted time lent legal sequence lends in
    let r' = recorder_of_sequence setup' fit' c accepted time lent' legal' sequence' lends' in
    let reply : Recorder → RegisterReply = λ x. maker_reply x maker group register buffer in
    ap reply r ∙ (both c time maker list setup own _ (calls_of c time sequence) setup' own' _ (calls_of c time sequence') view group register buffer ∙ sym (ap reply r'))

-- what a reply that is given has put into the buffer
put : (c : Config) (list : MakerList) (maker group register : ℕ) (bytes buffer : List ℕ) (n : ℕ)
    → (maker_with c list maker group register bytes buffer).answer ≡ given n → (maker_with c list maker group register bytes buffer).buffer ≡ bytes ++ drop n buffer
put c list maker group register bytes buffer n =
    let P : RegisterReply → Type 0 = λ reply. reply.answer ≡ given n → reply.buffer ≡ bytes ++ drop n buffer in
    let none : (k : ℕ) → P (refusal k buffer) = λ k e. absurd (true≢false (sym (ap is_given_lem e))) in
    if_cases P (ltb 2 maker) (λ t. none 20) (λ there. if_cases P (not (on_list list group register)) (λ t. none 12) (λ on. first (group_of group)))
  where
    first : (g : Answer Group) → (reply_with g c bytes register buffer).answer ≡ given n → (reply_with g c bytes register buffer).buffer ≡ bytes ++ drop n buffer
    first (refused k offset) = λ e. absurd (true≢false (sym (ap is_given_lem e)))
    first (given g) =
        let P : RegisterReply → Type 0 = λ reply. reply.answer ≡ given n → reply.buffer ≡ bytes ++ drop n buffer in
        let none : (k : ℕ) → P (refusal k buffer) = λ k e. absurd (true≢false (sym (ap is_given_lem e))) in
        if_cases P (leb g.registers register) (λ t. none 12)
        (λ there.
        if_cases P (not (g.in_use c register)) (λ t. none 8)
        (λ used. if_cases P (not (leb g.bytes (length buffer))) (λ t. none 13) (λ room e. ap (λ k. bytes ++ drop k buffer) (ap (the 0) e))))

pub makers_of_history : MakersOfHistory
makers_of_history setup lent c accepted time calls maker group register buffer n e =
    let list = list_of setup.lists maker in
    let a = account_of c time calls in
    let is = maker_by_account setup lent c accepted time calls maker group register buffer in
    ap (λ (x : RegisterReply). x.buffer) is ∙ put c list maker group register (shown_to list c a group register) buffer n (sym (ap (λ (x : RegisterReply). x.answer) is) ∙ e)

pub shown_by_own : ShownByView
shown_by_own setup lent c accepted time calls maker group register buffer n e =
    let list = list_of setup.lists maker in
    let is = ap (λ (x : Recorder). maker_reply x maker group register buffer) (recorder_is setup lent c accepted.good time calls)
    ∙ by_view setup (reached setup lent c time calls).profile c time calls maker group register buffer in
    ap (λ (x : RegisterReply). x.buffer) is
    ∙ put c list maker group register (shown_to list c (account_of_view c time (view_of c list time calls)) group register) buffer n (sym (ap (λ (x : RegisterReply). x.answer) is) ∙ e)

pub cr_6 : EachTheirOwn
cr_6 =
    record {
      apart = makers_apart;
      apart_in_sequences = apart_in_sequences;
      shown = makers_of_history;
      by_view = shown_by_own;
      as_operator = as_the_operator;
      fleet = fleet_of_list;
      all_listed = everything_listed;
      none_listed = nothing_listed;
    }
