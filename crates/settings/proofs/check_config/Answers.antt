-- `settings::check_config` meets its contract: the sections, one after another.
use mathlib.Core.Path.{refl}
use lib.IntN.{pos}
use Rattle.laws.specs.First.{first}
use borrow.Author.Rules.{rules}
use Rattle.settings.specs.Check.{sections, checked}
use Rattle.settings.specs.Rules.{period_good, input_good, fitted_in, sum_good, coefficient_good, slot_good, window_good, week_good, season_good, holiday_good, rule_good, register_good, zero_input, zero_slot, zero_window, zero_season, zero_holiday, zero_rule, zero_register}
use Rattle.settings.proofs.Verdicts.{past, stop, past_any, last, failed}
use Rattle.settings.proofs.check_config.Goals as goal

pub returns-in_err-check_entries : goal.returns-in_err-check_entries
unfolding checked sections first
returns-in_err-check_entries c =
    failed _ c.from_residual.ensures.1
    (stop (c.in_err-check_entries.ensures period_good 0 (λ x r p. p)))

pub returns-in_err-check_entries-2 : goal.returns-in_err-check_entries-2
unfolding checked sections first
returns-in_err-check_entries-2 c =
    failed _ c.from_residual-in_err-check_entries-2.ensures.1
    (past (c.in_ok-check_entries.ensures period_good 0 (λ x r p. p))
    (stop (c.in_err-check_entries-2.ensures input_good zero_input (λ x r p. p))))

pub returns-in_err-check_entries-3 : goal.returns-in_err-check_entries-3
unfolding checked sections first
returns-in_err-check_entries-3 c =
    failed _ c.from_residual-in_err-check_entries-3.ensures.1
    (past (c.in_ok-check_entries.ensures period_good 0 (λ x r p. p))
    (past (c.in_ok-check_entries-2.ensures input_good zero_input (λ x r p. p))
    (stop (c.in_err-check_entries-3.ensures (sum_good (fitted_in c.args.config.inputs)) 0 (λ x r p. rw (← c.fitted-fitted.ensures) (search rules))))))

pub returns-in_err-check_entries-4 : goal.returns-in_err-check_entries-4
unfolding checked sections first
returns-in_err-check_entries-4 c =
    failed _ c.from_residual-in_err-check_entries-4.ensures.1
    (past (c.in_ok-check_entries.ensures period_good 0 (λ x r p. p))
    (past (c.in_ok-check_entries-2.ensures input_good zero_input (λ x r p. p))
    (past (c.in_ok-check_entries-3.ensures (sum_good (fitted_in c.args.config.inputs)) 0 (λ x r p. rw (← c.fitted-fitted.ensures) (search rules)))
    (stop (c.in_err-check_entries-4.ensures coefficient_good (pos 0) (λ x r p. p))))))

pub returns-in_err-check_entries-5 : goal.returns-in_err-check_entries-5
unfolding checked sections first
returns-in_err-check_entries-5 c =
    failed _ c.from_residual-in_err-check_entries-5.ensures.1
    (past (c.in_ok-check_entries.ensures period_good 0 (λ x r p. p))
    (past (c.in_ok-check_entries-2.ensures input_good zero_input (λ x r p. p))
    (past (c.in_ok-check_entries-3.ensures (sum_good (fitted_in c.args.config.inputs)) 0 (λ x r p. rw (← c.fitted-fitted.ensures) (search rules)))
    (past (c.in_ok-check_entries-4.ensures coefficient_good (pos 0) (λ x r p. p))
    (stop (c.in_err-check_entries-5.ensures (slot_good (fitted_in c.args.config.inputs)) zero_slot (λ x r p. rw (← c.fitted-fitted.ensures) (search rules))))))))

pub returns-in_err-check_entries-6 : goal.returns-in_err-check_entries-6
unfolding checked sections first
returns-in_err-check_entries-6 c =
    failed _ c.from_residual-in_err-check_entries-6.ensures.1
    (past (c.in_ok-check_entries.ensures period_good 0 (λ x r p. p))
    (past (c.in_ok-check_entries-2.ensures input_good zero_input (λ x r p. p))
    (past (c.in_ok-check_entries-3.ensures (sum_good (fitted_in c.args.config.inputs)) 0 (λ x r p. rw (← c.fitted-fitted.ensures) (search rules)))
    (past (c.in_ok-check_entries-4.ensures coefficient_good (pos 0) (λ x r p. p))
    (past (c.in_ok-check_entries-5.ensures (slot_good (fitted_in c.args.config.inputs)) zero_slot (λ x r p. rw (← c.fitted-fitted.ensures) (search rules)))
    (past_any (λ i. refl)
    (stop (c.in_err-check_entries-6.ensures window_good zero_window (λ x r p. p)))))))))

pub returns-in_err-check_entries-7 : goal.returns-in_err-check_entries-7
unfolding checked sections first
returns-in_err-check_entries-7 c =
    failed _ c.from_residual-in_err-check_entries-7.ensures.1
    (past (c.in_ok-check_entries.ensures period_good 0 (λ x r p. p))
    (past (c.in_ok-check_entries-2.ensures input_good zero_input (λ x r p. p))
    (past (c.in_ok-check_entries-3.ensures (sum_good (fitted_in c.args.config.inputs)) 0 (λ x r p. rw (← c.fitted-fitted.ensures) (search rules)))
    (past (c.in_ok-check_entries-4.ensures coefficient_good (pos 0) (λ x r p. p))
    (past (c.in_ok-check_entries-5.ensures (slot_good (fitted_in c.args.config.inputs)) zero_slot (λ x r p. rw (← c.fitted-fitted.ensures) (search rules)))
    (past_any (λ i. refl)
    (past (c.in_ok-check_entries-6.ensures window_good zero_window (λ x r p. p))
    (stop (c.in_err-check_entries-7.ensures week_good 0 (λ x r p. p))))))))))

pub returns-in_err-check_entries-8 : goal.returns-in_err-check_entries-8
unfolding checked sections first
returns-in_err-check_entries-8 c =
    failed _ c.from_residual-in_err-check_entries-8.ensures.1
    (past (c.in_ok-check_entries.ensures period_good 0 (λ x r p. p))
    (past (c.in_ok-check_entries-2.ensures input_good zero_input (λ x r p. p))
    (past (c.in_ok-check_entries-3.ensures (sum_good (fitted_in c.args.config.inputs)) 0 (λ x r p. rw (← c.fitted-fitted.ensures) (search rules)))
    (past (c.in_ok-check_entries-4.ensures coefficient_good (pos 0) (λ x r p. p))
    (past (c.in_ok-check_entries-5.ensures (slot_good (fitted_in c.args.config.inputs)) zero_slot (λ x r p. rw (← c.fitted-fitted.ensures) (search rules)))
    (past_any (λ i. refl)
    (past (c.in_ok-check_entries-6.ensures window_good zero_window (λ x r p. p))
    (past (c.in_ok-check_entries-7.ensures week_good 0 (λ x r p. p))
    (stop (c.in_err-check_entries-8.ensures season_good zero_season (λ x r p. p)))))))))))

pub returns-in_err-check_entries-9 : goal.returns-in_err-check_entries-9
unfolding checked sections first
returns-in_err-check_entries-9 c =
    failed _ c.from_residual-in_err-check_entries-9.ensures.1
    (past (c.in_ok-check_entries.ensures period_good 0 (λ x r p. p))
    (past (c.in_ok-check_entries-2.ensures input_good zero_input (λ x r p. p))
    (past (c.in_ok-check_entries-3.ensures (sum_good (fitted_in c.args.config.inputs)) 0 (λ x r p. rw (← c.fitted-fitted.ensures) (search rules)))
    (past (c.in_ok-check_entries-4.ensures coefficient_good (pos 0) (λ x r p. p))
    (past (c.in_ok-check_entries-5.ensures (slot_good (fitted_in c.args.config.inputs)) zero_slot (λ x r p. rw (← c.fitted-fitted.ensures) (search rules)))
    (past_any (λ i. refl)
    (past (c.in_ok-check_entries-6.ensures window_good zero_window (λ x r p. p))
    (past (c.in_ok-check_entries-7.ensures week_good 0 (λ x r p. p))
    (past (c.in_ok-check_entries-8.ensures season_good zero_season (λ x r p. p))
    (stop (c.in_err-check_entries-9.ensures holiday_good zero_holiday (λ x r p. p))))))))))))

pub returns-in_err-check_entries-10 : goal.returns-in_err-check_entries-10
unfolding checked sections first
returns-in_err-check_entries-10 c =
    failed _ c.from_residual-in_err-check_entries-10.ensures.1
    (past (c.in_ok-check_entries.ensures period_good 0 (λ x r p. p))
    (past (c.in_ok-check_entries-2.ensures input_good zero_input (λ x r p. p))
    (past (c.in_ok-check_entries-3.ensures (sum_good (fitted_in c.args.config.inputs)) 0 (λ x r p. rw (← c.fitted-fitted.ensures) (search rules)))
    (past (c.in_ok-check_entries-4.ensures coefficient_good (pos 0) (λ x r p. p))
    (past (c.in_ok-check_entries-5.ensures (slot_good (fitted_in c.args.config.inputs)) zero_slot (λ x r p. rw (← c.fitted-fitted.ensures) (search rules)))
    (past_any (λ i. refl)
    (past (c.in_ok-check_entries-6.ensures window_good zero_window (λ x r p. p))
    (past (c.in_ok-check_entries-7.ensures week_good 0 (λ x r p. p))
    (past (c.in_ok-check_entries-8.ensures season_good zero_season (λ x r p. p))
    (past (c.in_ok-check_entries-9.ensures holiday_good zero_holiday (λ x r p. p))
    (stop (c.in_err-check_entries-10.ensures rule_good zero_rule (λ x r p. p)))))))))))))

pub returns : goal.returns
unfolding checked sections first
returns c =
    (past (c.in_ok-check_entries.ensures period_good 0 (λ x r p. p))
    (past (c.in_ok-check_entries-2.ensures input_good zero_input (λ x r p. p))
    (past (c.in_ok-check_entries-3.ensures (sum_good (fitted_in c.args.config.inputs)) 0 (λ x r p. rw (← c.fitted-fitted.ensures) (search rules)))
    (past (c.in_ok-check_entries-4.ensures coefficient_good (pos 0) (λ x r p. p))
    (past (c.in_ok-check_entries-5.ensures (slot_good (fitted_in c.args.config.inputs)) zero_slot (λ x r p. rw (← c.fitted-fitted.ensures) (search rules)))
    (past_any (λ i. refl)
    (past (c.in_ok-check_entries-6.ensures window_good zero_window (λ x r p. p))
    (past (c.in_ok-check_entries-7.ensures week_good 0 (λ x r p. p))
    (past (c.in_ok-check_entries-8.ensures season_good zero_season (λ x r p. p))
    (past (c.in_ok-check_entries-9.ensures holiday_good zero_holiday (λ x r p. p))
    (past (c.in_ok-check_entries-10.ensures rule_good zero_rule (λ x r p. p))
    (last (c.check_entries-11.ensures register_good zero_register (λ x r p. p)))))))))))))).is
