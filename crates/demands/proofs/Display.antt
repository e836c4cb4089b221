-- CR 7 over histories: what a register request gives after a history is what the account shows, so the display shows that.
use Rattle.std.specs.Prelude.{if◌then◌else◌}
use mathlib.Core.Path.{◌≡◌, sym, ap, ◌∙◌}
use mathlib.Core.Bool.{Bool, true}
use mathlib.Core.List.{List}
use Prim.Native.Nat.{ℕ, ◌<◌}
use lib.Dec.{leb, ltb}
use lib.ListN.{length, replicate}
use Rattle.laws.specs.Answers.{Answer, given, refused}
use Rattle.settings.specs.declared.Config.{Config}
use Rattle.recorder.specs.History.{Call}
use Rattle.recorder.specs.declared.Recorder.{Recorder}
use Rattle.recorder.specs.declared.Setup.{Setup}
use Rattle.registers.specs.Registers.{Group, group_of, registers_of, RegisterReply, refusal}
use Rattle.display.specs.Fields.{field_given, field_of, bytes_given, read_by}
use Rattle.display.specs.Formats.{meaning}
use Rattle.display.specs.Displays.{Mark, displayed, display_with, display_reply}
use Rattle.display.proofs.Grammar.{means_as_written}
use Rattle.display.proofs.Registered.{fields_in_order}
use Rattle.display.proofs.NumberLaws.{numbers_read, read_by_meters, fields_fill_all, signed_back, dates_read}
use Rattle.display.proofs.Laws.{shown_cong, arguments_in_order, lines_as_broken, only_two_lines, refused_display, shown_first}
use Rattle.demands.specs.Account.{Account, account_of}
use Rattle.demands.specs.Starts.{Accepted}
use Rattle.demands.specs.Shown.{shown}
use Rattle.demands.specs.State.{state_in}
use Rattle.demands.specs.Demand2.{reached}
use Rattle.demands.specs.Profile.{calls_of}
use Rattle.demands.specs.Display.{read_by_account, DisplayOfHistory, DisplayOfSequence, HallDisplay}
use Rattle.demands.proofs.Levels.{recorder_is}
use Rattle.demands.proofs.Makers.{operator_by_account}
use Rattle.demands.proofs.Profile.{reaches}
use Rattle.demands.proofs.Replies.{readable_is, long, by_line}
use Rattle.demands.proofs.Shown.{spelled, contents_are}

module _ (setup : Setup) (lent : ℕ) (c : Config) (accepted : Accepted c) (time : ℕ) (calls : List Call) where
  abbrev r : Recorder
  r = reached setup lent c time calls

  abbrev a : Account
  a = account_of c time calls

  -- the bytes that the account shows are as many as the register has
  shown_long : (group i : ℕ) (g : Group) → group_of group ≡ given g → i < g.registers → (length (shown c a group i) ≡ g.bytes) × (leb g.bytes 13 ≡ true)
  shown_long group i g found low =
      let own : Recorder = spelled setup r.profile c a in
      let in_group : i < registers_of group = rw found low in
      let held = long own group i g found in
      (ap length (sym (contents_are setup r.profile c a group i in_group)) ∙ held.0, held.1)

  same_field : (group register field : ℕ) → field_of (read_by r) group register field ≡ field_of (read_by_account c a) group register field
  unfolding read_by
  same_field group register field =
      ap (λ (x : RegisterReply). field_given group field (bytes_given x.answer x.buffer)) (operator_by_account setup lent c accepted time calls group register (replicate 13 0))
      ∙ by_line (group_of group) c (shown c a group register) group register field (shown_long group register)
      ∙ ap (λ (b : Bool). field_given group field (if b then given (shown c a group register) else refused 22 0)) (sym (readable_is c group register))

  shows : (format arguments buffer : List ℕ) → display_reply r format arguments buffer ≡ display_with a.time.second (read_by_account c a) format arguments buffer
  unfolding display_with state_in
  shows format arguments buffer =
      let clock : r.state.clock ≡ a.time.second = ap (λ (x : Recorder). x.state.clock) (recorder_is setup lent c accepted.good time calls) in
      ap (λ (t : ℕ). display_with t (read_by r) format arguments buffer) clock
      ∙ ap (λ (m : Answer (List Mark)). if ltb (length buffer) 32 then refusal 13 buffer else displayed m buffer)
      (shown_cong a.time.second (read_by r) (read_by_account c a) same_field arguments (meaning format))

pub display_of_history : DisplayOfHistory
display_of_history setup lent c accepted time calls format arguments buffer = shows setup lent c accepted time calls format arguments buffer

display_of_sequence : DisplayOfSequence
display_of_sequence setup fit c accepted time lent limits sequence own =
    rw (reaches setup fit c accepted time lent limits sequence own)
    (λ format arguments buffer. shows setup _ c accepted time (calls_of c time sequence) format arguments buffer)

pub cr_7 : HallDisplay
cr_7 =
    record {
      of_history = display_of_history;
      of_sequence = display_of_sequence;
      means = means_as_written;
      numbers = numbers_read;
      read_by_meters = read_by_meters;
      fields = fields_fill_all;
      order = fields_in_order;
      signed = signed_back;
      dates = dates_read;
      arguments = arguments_in_order;
      broken = lines_as_broken;
      lines = only_two_lines;
      refused_leaves = refused_display;
      shown_first = shown_first;
    }
