-- The list of specs/Tightness.antt: each crate proves it of its own functions in its proofs/Unique.antt; what an error becomes above is an equation, proved here.
use mathlib.Core.Path.{sym, ◌∙◌}
use Prim.Native.Nat.{ℕ, ◌*◌, ◌<◌}
use native.Mathlib.Omega.{arith}
use borrow.Author.Rules.{rules}
use Rattle.tariff.proofs.mask_of.Reads as tariff_mask_of
use Rattle.calendar.proofs.Unique as calendar
use Rattle.tariff.proofs.Unique as tariff
use Rattle.settings.proofs.Unique as settings
use Rattle.image.proofs.Unique as image
use Rattle.counting.proofs.Unique as counting
use Rattle.sampling.proofs.Unique as sampling
use Rattle.profile.proofs.Unique as profile
use Rattle.readout.proofs.Unique as readout
use Rattle.recorder.proofs.Unique as recorder
use Rattle.registers.proofs.Unique as registers
use Rattle.makers.proofs.Unique as makers
use Rattle.display.proofs.Unique as display
use Rattle.lines.proofs.Unique as lines
use Rattle.answers.proofs.Unique as answers
use Rattle.host.proofs.Unique as host
use Rattle.demands.specs.Tightness.{Tight}

-- what the mask of an array asks: that there is such an array
mask_asks : (n : ℕ) (fits : _) → n < 9_223_372_036_854_775_808 → (κs : _) (args : _) → tariff_mask_of.Asked n fits κs args
mask_asks n fits room κs args = let bytes : n * 1 < 9_223_372_036_854_775_808 = omega arith in search rules

pub tight : Tight
tight =
    record {
      calendar_is_leap = (calendar.is_leap, λ κs args. tt);
      calendar_month_length = (calendar.month_length_lem, λ κs args. tt);
      calendar_day_exists = (calendar.day_exists_lem, λ κs args. tt);
      calendar_exists_in_some_year = (calendar.exists_in_some_year_lem, λ κs args. tt);
      calendar_moment_of = (calendar.moment_of_lem, λ κs args. tt);
      tariff_bit_at = (tariff.bit_at_lem, λ κs args. tt);
      tariff_with_bit = (tariff.with_bit_lem, λ κs args. tt);
      tariff_mask_of = λ n fits room. (tariff.mask_of_lem n fits, mask_asks n fits room);
      tariff_daily_active = (tariff.daily_active_lem, λ κs args. tt);
      tariff_daily_map = (tariff.daily_map_lem, λ κs args. tt);
      tariff_holiday_on = (tariff.holiday_on_lem, λ κs args. tt);
      tariff_weekly_active = (tariff.weekly_active_lem, λ κs args. tt);
      tariff_weekly_map = (tariff.weekly_map_lem, λ κs args. tt);
      tariff_force_map = (tariff.force_map_lem, λ κs args. tt);
      tariff_force_map_at = (tariff.force_map_at_lem, λ κs args. tt);
      settings_check_config = (settings.check_config, λ κs args. tt);
      image_blank_config = (image.blank_config_lem, λ κs args. tt);
      image_read_image = (image.read_image, λ κs args. tt);
      image_check_image = (image.check_image, λ κs args. tt);
      image_write_image = (image.write_image, (image.write_image_exit, λ κs args. tt));
      image_write_then_read = (image.write_then_read, λ κs args. tt);
      image_read_then_write = (image.read_then_write, λ κs args. tt);
      image_image_error_from = (λ κs a x y e f p q. p ∙ sym q, λ κs args. tt);
      image_write_error_from = (λ κs a x y e f p q. p ∙ sym q, λ κs args. tt);
      counting_next = (counting.next_once, (counting.next_exit, λ κs args. tt));
      counting_advance = (counting.advance_exit, λ κs args. tt);
      counting_kind_mask = (counting.kind_mask_lem, λ κs args. tt);
      counting_running_lines = (counting.running_lines_lem, λ κs args. tt);
      counting_settle = (counting.settle, λ κs args. tt);
      counting_sums_units = (counting.sums_units, λ κs args. tt);
      counting_fed_registers = (counting.fed_registers_lem, λ κs args. tt);
      counting_register_units = (counting.register_units_lem, λ κs args. tt);
      counting_some_full = (counting.some_full_lem, λ κs args. tt);
      counting_amounts_of = (counting.amounts_of_lem, λ κs args. tt);
      counting_put_amounts = (counting.put_amounts, λ κs args. tt);
      counting_level9 = (counting.level9, λ κs args. tt);
      sampling_take = (sampling.take_once, λ κs args. tt);
      sampling_close = (sampling.close, λ κs args. tt);
      sampling_close_with = (sampling.close_with, λ κs args. tt);
      profile_legal_length = (profile.legal_length_lem, λ κs args. tt);
      profile_as_at_start = (profile.as_at_start_lem, λ κs args. tt);
      profile_put = (profile.put, (profile.put_exit, λ κs args. tt));
      profile_read = (profile.read, (profile.read_exit, λ κs args. tt));
      profile_bits64 = (profile.bits64, λ κs args. tt);
      profile_slots_fit = (profile.slots_fit_lem, λ κs args. tt);
      profile_choose = (profile.choose, λ κs args. tt);
      readout_value_place = (readout.value_place_lem, λ κs args. tt);
      readout_value_text = (readout.value_text, λ κs args. tt);
      readout_whole_number = (readout.whole_number_lem, λ κs args. tt);
      readout_line_number = (readout.line_number_lem, λ κs args. tt);
      readout_check_block = (readout.check_block, λ κs args. tt);
      readout_line_error_from = (λ κs a x y e f p q. p ∙ sym q, λ κs args. tt);
      recorder_start = (recorder.start_once, λ κs args. tt);
      recorder_sample = (recorder.sample_once, (recorder.sample_exit, λ κs args. tt));
      recorder_samples = (recorder.samples_once, (recorder.samples_exit, λ κs args. tt));
      recorder_set_clock = (recorder.set_clock_once, (recorder.set_clock_exit, λ κs args. tt));
      recorder_reading = (recorder.reading_once, λ κs args. tt);
      recorder_readout = (recorder.readout_once, λ κs args. tt);
      recorder_block_readout = (recorder.block_readout_once, λ κs args. tt);
      recorder_reset_bills = (recorder.reset_bills_once, λ κs args. tt);
      recorder_read_record = (recorder.read_record_once, (recorder.read_record_exit, λ κs args. tt));
      recorder_age_class = (recorder.age_class_once, λ κs args. tt);
      recorder_age_answer = (recorder.age_answer_once, λ κs args. tt);
      recorder_start_error_from = (λ κs a x y e f p q. p ∙ sym q, λ κs args. tt);
      recorder_readout_error_from_block = (λ κs a x y e f p q. p ∙ sym q, λ κs args. tt);
      recorder_readout_error_from_line = (λ κs a x y e f p q. p ∙ sym q, λ κs args. tt);
      recorder_readout_error_from_reading = (λ κs a x y e f p q. p ∙ sym q, λ κs args. tt);
      registers_read_register = (registers.read_register_once, (registers.read_register_exit, λ κs args. tt));
      registers_fleet_of = (registers.fleet_of_once, λ κs args. tt);
      makers_give_list = (makers.give_list_once, λ κs args. tt);
      makers_read_own = (makers.read_own_once, (makers.read_own_exit, λ κs args. tt));
      makers_maker_error_from = (λ κs a x y e f p q. p ∙ sym q, λ κs args. tt);
      display_show = (display.show_once, (display.show_exit, λ κs args. tt));
      lines_line_of = (lines.line_of, λ κs args. tt);
      lines_text_after = (lines.text_after_lem, λ κs args. tt);
      lines_hex_bytes = (lines.hex_bytes_lem, λ κs args. tt);
      answers_ok = (answers.ok, λ κs args. tt);
      answers_check_line = (answers.check_line, λ κs args. tt);
      answers_start_line = (answers.start_line_lem, λ κs args. tt);
      answers_samples_line = (answers.samples_line_lem, λ κs args. tt);
      answers_set_line = (answers.set_line, λ κs args. tt);
      answers_reading_line = (answers.reading_line_lem, λ κs args. tt);
      answers_dataset_line = (answers.dataset_line, λ κs args. tt);
      answers_readout_line = (answers.readout_line, λ κs args. tt);
      answers_block_line = (answers.block_line_lem, λ κs args. tt);
      answers_register_line = (answers.register_line_lem, λ κs args. tt);
      answers_list_line = (answers.list_line, λ κs args. tt);
      answers_maker_line = (answers.maker_line, λ κs args. tt);
      answers_record_line = (answers.record_line_lem, λ κs args. tt);
      answers_display_line = (answers.display_line_lem, λ κs args. tt);
      answers_image_part = (answers.image_part_lem, λ κs args. tt);
      answers_date_line = (answers.date_line_lem, λ κs args. tt);
      answers_fleet_line = (answers.fleet_line_lem, λ κs args. tt);
      answers_error_line = (answers.error_line_lem, λ κs args. tt);
      host_recorder_image_check = (host.image_check, λ κs args. tt);
      host_recorder_calendar = (host.calendar, λ κs args. tt);
      host_recorder_age_class = (host.age_class, λ κs args. tt);
    }
