-- `recorder::Recorder::reset_bills` meets its contract: the closure closes a bill.
use borrow.Author.Rules.{rules}
use Rattle.counting.specs.Bills.{register_at, bill_at}
use Rattle.recorder.specs.Clock.{closed_bill, reset_of}
use Rattle.recorder.proofs.Made.{made_table}
use Rattle.recorder.proofs.Recorder.reset_bills.Goals as goal

pub returns : goal.returns
unfolding reset_of
returns c =
    let r = c.args.self in
    let made = made_table _ _ (λ j. closed_bill (register_at r.config.registers j) (bill_at r.state.bills j) r.state.clock) (λ j y q k. search rules) _ 16 c.from_fn-bills.ensures.items in
    rw made
