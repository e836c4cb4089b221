-- "Every public function promises its result and the state and buffer after it for each input, refused ones too; that no second result fits is proved": one entry for every public function of every crate.
-- `Post` is the claim that the checker itself reads off a contract in the source, and `Asked` what a caller has to show before a call.
use Rattle.std.specs.Prelude.{List, [], ◌∷◌, ℕ, ◌<◌}
use Rattle.laws.specs.Parts.{part_of}
use Rattle.laws.specs.Unique.{OneResult, OneExit, OneSeen}
use Rattle.calendar.proofs.is_leap.Reads as calendar_is_leap
use Rattle.calendar.proofs.month_length.Reads as calendar_month_length
use Rattle.calendar.proofs.day_exists.Reads as calendar_day_exists
use Rattle.calendar.proofs.exists_in_some_year.Reads as calendar_exists_in_some_year
use Rattle.calendar.proofs.moment_of.Reads as calendar_moment_of
use Rattle.tariff.proofs.bit_at.Reads as tariff_bit_at
use Rattle.tariff.proofs.with_bit.Reads as tariff_with_bit
use Rattle.tariff.proofs.mask_of.Reads as tariff_mask_of
use Rattle.tariff.proofs.daily_active.Reads as tariff_daily_active
use Rattle.tariff.proofs.daily_map.Reads as tariff_daily_map
use Rattle.tariff.proofs.holiday_on.Reads as tariff_holiday_on
use Rattle.tariff.proofs.weekly_active.Reads as tariff_weekly_active
use Rattle.tariff.proofs.weekly_map.Reads as tariff_weekly_map
use Rattle.tariff.proofs.force_map.Reads as tariff_force_map
use Rattle.tariff.proofs.force_map_at.Reads as tariff_force_map_at
use Rattle.settings.proofs.check_config.Reads as settings_check_config
use Rattle.image.proofs.blank_config.Reads as image_blank_config
use Rattle.image.proofs.read_image.Reads as image_read_image
use Rattle.image.proofs.check_image.Reads as image_check_image
use Rattle.image.proofs.write_image.Reads as image_write_image
use Rattle.image.proofs.write_then_read.Reads as image_write_then_read
use Rattle.image.proofs.read_then_write.Reads as image_read_then_write
use Rattle.image.proofs.ImageErrorFromBadValue.from.Reads as image_image_error_from
use Rattle.image.proofs.WriteErrorFromBadValue.from.Reads as image_write_error_from
use Rattle.counting.proofs.bits.BitsIterator.next.Reads as counting_next
use Rattle.counting.proofs.filter.advance.Reads as counting_advance
use Rattle.counting.proofs.filter.kind_mask.Reads as counting_kind_mask
use Rattle.counting.proofs.filter.running_lines.Reads as counting_running_lines
use Rattle.counting.proofs.units.settle.Reads as counting_settle
use Rattle.counting.proofs.bills.sums_units.Reads as counting_sums_units
use Rattle.counting.proofs.bills.fed_registers.Reads as counting_fed_registers
use Rattle.counting.proofs.bills.register_units.Reads as counting_register_units
use Rattle.counting.proofs.bills.some_full.Reads as counting_some_full
use Rattle.counting.proofs.bills.amounts_of.Reads as counting_amounts_of
use Rattle.counting.proofs.bills.put_amounts.Reads as counting_put_amounts
use Rattle.counting.proofs.levels.level9.Reads as counting_level9
use Rattle.sampling.proofs.samples.take.Reads as sampling_take
use Rattle.sampling.proofs.clock.close.Reads as sampling_close
use Rattle.sampling.proofs.clock.close_with.Reads as sampling_close_with
use Rattle.profile.proofs.legal_length.Reads as profile_legal_length
use Rattle.profile.proofs.Profile.as_at_start.Reads as profile_as_at_start
use Rattle.profile.proofs.Profile.put.Reads as profile_put
use Rattle.profile.proofs.Profile.read.Reads as profile_read
use Rattle.profile.proofs.bits64.Reads as profile_bits64
use Rattle.profile.proofs.slots_fit.Reads as profile_slots_fit
use Rattle.profile.proofs.choose.Reads as profile_choose
use Rattle.readout.proofs.value_place.Reads as readout_value_place
use Rattle.readout.proofs.value_text.Reads as readout_value_text
use Rattle.readout.proofs.whole_number.Reads as readout_whole_number
use Rattle.readout.proofs.line_number.Reads as readout_line_number
use Rattle.readout.proofs.check_block.Reads as readout_check_block
use Rattle.readout.proofs.LineErrorFromNumberError.from.Reads as readout_line_error_from
use Rattle.recorder.proofs.Recorder.start.Reads as recorder_start
use Rattle.recorder.proofs.Recorder.sample.Reads as recorder_sample
use Rattle.recorder.proofs.Recorder.samples.Reads as recorder_samples
use Rattle.recorder.proofs.Recorder.set_clock.Reads as recorder_set_clock
use Rattle.recorder.proofs.Recorder.reading.Reads as recorder_reading
use Rattle.recorder.proofs.Recorder.readout.Reads as recorder_readout
use Rattle.recorder.proofs.Recorder.block_readout.Reads as recorder_block_readout
use Rattle.recorder.proofs.Recorder.reset_bills.Reads as recorder_reset_bills
use Rattle.recorder.proofs.Recorder.read_record.Reads as recorder_read_record
use Rattle.recorder.proofs.age_class.Reads as recorder_age_class
use Rattle.recorder.proofs.age_answer.Reads as recorder_age_answer
use Rattle.recorder.proofs.errors.StartErrorFromImageError.from.Reads as recorder_start_error_from
use Rattle.recorder.proofs.errors.ReadoutErrorFromNoBlock.from.Reads as recorder_readout_error_from_block
use Rattle.recorder.proofs.errors.ReadoutErrorFromLineError.from.Reads as recorder_readout_error_from_line
use Rattle.recorder.proofs.errors.ReadoutErrorFromReadingError.from.Reads as recorder_readout_error_from_reading
use Rattle.registers.proofs.read_register.Reads as registers_read_register
use Rattle.registers.proofs.fleet_of.Reads as registers_fleet_of
use Rattle.makers.proofs.give_list.Reads as makers_give_list
use Rattle.makers.proofs.read_own.Reads as makers_read_own
use Rattle.makers.proofs.MakerErrorFromRegisterError.from.Reads as makers_maker_error_from
use Rattle.display.proofs.show.Reads as display_show
use Rattle.lines.proofs.line_of.Reads as lines_line_of
use Rattle.lines.proofs.text_after.Reads as lines_text_after
use Rattle.lines.proofs.hex_bytes.Reads as lines_hex_bytes
use Rattle.answers.proofs.ok.Reads as answers_ok
use Rattle.answers.proofs.check_line.Reads as answers_check_line
use Rattle.answers.proofs.start_line.Reads as answers_start_line
use Rattle.answers.proofs.samples_line.Reads as answers_samples_line
use Rattle.answers.proofs.set_line.Reads as answers_set_line
use Rattle.answers.proofs.reading_line.Reads as answers_reading_line
use Rattle.answers.proofs.dataset_line.Reads as answers_dataset_line
use Rattle.answers.proofs.readout_line.Reads as answers_readout_line
use Rattle.answers.proofs.block_line.Reads as answers_block_line
use Rattle.answers.proofs.register_line.Reads as answers_register_line
use Rattle.answers.proofs.list_line.Reads as answers_list_line
use Rattle.answers.proofs.maker_line.Reads as answers_maker_line
use Rattle.answers.proofs.record_line.Reads as answers_record_line
use Rattle.answers.proofs.display_line.Reads as answers_display_line
use Rattle.answers.proofs.image_part.Reads as answers_image_part
use Rattle.answers.proofs.date_line.Reads as answers_date_line
use Rattle.answers.proofs.fleet_line.Reads as answers_fleet_line
use Rattle.answers.proofs.error_line.Reads as answers_error_line
use Rattle.host.proofs.recorder_image_check.Reads as host_recorder_image_check
use Rattle.host.proofs.recorder_calendar.Reads as host_recorder_calendar
use Rattle.host.proofs.recorder_age_class.Reads as host_recorder_age_class

-- "No caller has to check anything first": what a contract asks is so for all arguments
abbrev pub AsksNothing {ℓ} : {L : Type ℓ} {Args : L → Type 0} → ((κs : L) → Args κs → Type 0) → Type ℓ
AsksNothing {L = L} {Args} asked = (κs : L) (args : Args κs) → asked κs args

-- an entry: no second result fits, and nothing is asked
abbrev pub Alone {ℓ} : {L : Type ℓ} {Args Result Exit : L → Type 0} → ((κs : L) → Args κs → Result κs → Exit κs → Type 0) → ((κs : L) → Args κs → Type 0) → Type ℓ
Alone post asked = OneResult post × AsksNothing asked

-- of a function that changes what it is lent: no second state of that fits, and nothing is asked; `seen` reads it off the parameters at exit
abbrev pub Lent {ℓ} : {L : Type ℓ} {Args Result Exit : L → Type 0} → ((κs : L) → Exit κs → List ℕ)
    → ((κs : L) → Args κs → Result κs → Exit κs → Type 0) → ((κs : L) → Args κs → Type 0) → Type ℓ
Lent seen post asked = OneExit seen post × AsksNothing asked

-- of one that does so and has a result: neither has a second
abbrev pub AloneAndLent {ℓ} : {L : Type ℓ} {Args Result Exit : L → Type 0} → ((κs : L) → Exit κs → List ℕ)
    → ((κs : L) → Args κs → Result κs → Exit κs → Type 0) → ((κs : L) → Args κs → Type 0) → Type ℓ
AloneAndLent seen post asked = OneResult post × Lent seen post asked

-- of one that hands back a part of what it is lent: no second part fits, neither another place nor other bytes; `seen` reads both off the reference
abbrev pub Handed {ℓ} : {L : Type ℓ} {Args Result Exit : L → Type 0} {X : Type 0} → ((κs : L) → Result κs → X)
    → ((κs : L) → Args κs → Result κs → Exit κs → Type 0) → ((κs : L) → Args κs → Type 0) → Type ℓ
Handed seen post asked = OneSeen seen post × AsksNothing asked

-- the list
pub record Tight : Type 1 where
  -- crate calendar
  pub calendar_is_leap : Alone calendar_is_leap.Post calendar_is_leap.Asked
  pub calendar_month_length : Alone calendar_month_length.Post calendar_month_length.Asked
  pub calendar_day_exists : Alone calendar_day_exists.Post calendar_day_exists.Asked
  pub calendar_exists_in_some_year : Alone calendar_exists_in_some_year.Post calendar_exists_in_some_year.Asked
  pub calendar_moment_of : Alone calendar_moment_of.Post calendar_moment_of.Asked
  -- crate tariff
  pub tariff_bit_at : Alone tariff_bit_at.Post tariff_bit_at.Asked
  pub tariff_with_bit : Alone tariff_with_bit.Post tariff_with_bit.Asked
  -- of an array of any length that there can be: no memory has 2 ^ 63 bytes
  pub tariff_mask_of : (n : ℕ) (fits : _) → n < 9_223_372_036_854_775_808 → Alone (tariff_mask_of.Post n fits) (tariff_mask_of.Asked n fits)
  pub tariff_daily_active : Alone tariff_daily_active.Post tariff_daily_active.Asked
  pub tariff_daily_map : Alone tariff_daily_map.Post tariff_daily_map.Asked
  pub tariff_holiday_on : Alone tariff_holiday_on.Post tariff_holiday_on.Asked
  pub tariff_weekly_active : Alone tariff_weekly_active.Post tariff_weekly_active.Asked
  pub tariff_weekly_map : Alone tariff_weekly_map.Post tariff_weekly_map.Asked
  pub tariff_force_map : Alone tariff_force_map.Post tariff_force_map.Asked
  pub tariff_force_map_at : Alone tariff_force_map_at.Post tariff_force_map_at.Asked
  -- crate settings
  pub settings_check_config : Alone settings_check_config.Post settings_check_config.Asked
  -- crate image
  pub image_blank_config : Alone image_blank_config.Post image_blank_config.Asked
  pub image_read_image : Alone image_read_image.Post image_read_image.Asked
  pub image_check_image : Alone image_check_image.Post image_check_image.Asked
  pub image_write_image : AloneAndLent (λ κs e. e.1.0.now) image_write_image.Post image_write_image.Asked
  pub image_write_then_read : Alone image_write_then_read.Post image_write_then_read.Asked
  pub image_read_then_write : Alone image_read_then_write.Post image_read_then_write.Asked
  pub image_image_error_from : Alone image_image_error_from.Post image_image_error_from.Asked
  pub image_write_error_from : Alone image_write_error_from.Post image_write_error_from.Asked
  -- crate counting
  pub counting_next : AloneAndLent (λ κs e. e.0.now.0 ∷ []) counting_next.Post counting_next.Asked
  pub counting_advance : Lent (λ κs e. e.0.now ∷ []) counting_advance.Post counting_advance.Asked
  pub counting_kind_mask : Alone counting_kind_mask.Post counting_kind_mask.Asked
  pub counting_running_lines : Alone counting_running_lines.Post counting_running_lines.Asked
  pub counting_settle : Alone counting_settle.Post counting_settle.Asked
  pub counting_sums_units : Alone counting_sums_units.Post counting_sums_units.Asked
  pub counting_fed_registers : Alone counting_fed_registers.Post counting_fed_registers.Asked
  pub counting_register_units : Alone counting_register_units.Post counting_register_units.Asked
  pub counting_some_full : Alone counting_some_full.Post counting_some_full.Asked
  pub counting_amounts_of : Alone counting_amounts_of.Post counting_amounts_of.Asked
  pub counting_put_amounts : Alone counting_put_amounts.Post counting_put_amounts.Asked
  pub counting_level9 : Alone counting_level9.Post counting_level9.Asked
  -- crate sampling
  pub sampling_take : Alone sampling_take.Post sampling_take.Asked
  pub sampling_close : Alone sampling_close.Post sampling_close.Asked
  pub sampling_close_with : Alone sampling_close_with.Post sampling_close_with.Asked
  -- crate profile
  pub profile_legal_length : Alone profile_legal_length.Post profile_legal_length.Asked
  pub profile_as_at_start : Alone profile_as_at_start.Post profile_as_at_start.Asked
  pub profile_put : AloneAndLent (λ κs e. e.1.1.0.now) profile_put.Post profile_put.Asked
  pub profile_read : AloneAndLent (λ κs e. e.1.1.1.0.now) profile_read.Post profile_read.Asked
  pub profile_bits64 : Alone profile_bits64.Post profile_bits64.Asked
  pub profile_slots_fit : Alone profile_slots_fit.Post profile_slots_fit.Asked
  pub profile_choose : Alone profile_choose.Post profile_choose.Asked
  -- crate readout
  pub readout_value_place : Alone readout_value_place.Post readout_value_place.Asked
  pub readout_value_text : Handed (λ κs r. part_of r) readout_value_text.Post readout_value_text.Asked
  pub readout_whole_number : Alone readout_whole_number.Post readout_whole_number.Asked
  pub readout_line_number : Alone readout_line_number.Post readout_line_number.Asked
  pub readout_check_block : Alone readout_check_block.Post readout_check_block.Asked
  pub readout_line_error_from : Alone readout_line_error_from.Post readout_line_error_from.Asked
  -- crate recorder
  pub recorder_start : Alone recorder_start.Post recorder_start.Asked
  pub recorder_sample : AloneAndLent (λ κs e. e.1.1.0.now) recorder_sample.Post recorder_sample.Asked
  pub recorder_samples : AloneAndLent (λ κs e. e.1.1.0.now) recorder_samples.Post recorder_samples.Asked
  pub recorder_set_clock : AloneAndLent (λ κs e. e.1.1.0.now) recorder_set_clock.Post recorder_set_clock.Asked
  pub recorder_reading : Alone recorder_reading.Post recorder_reading.Asked
  pub recorder_readout : Alone recorder_readout.Post recorder_readout.Asked
  pub recorder_block_readout : Alone recorder_block_readout.Post recorder_block_readout.Asked
  pub recorder_reset_bills : Alone recorder_reset_bills.Post recorder_reset_bills.Asked
  pub recorder_read_record : AloneAndLent (λ κs e. e.1.1.1.0.now) recorder_read_record.Post recorder_read_record.Asked
  pub recorder_age_class : Alone recorder_age_class.Post recorder_age_class.Asked
  pub recorder_age_answer : Alone recorder_age_answer.Post recorder_age_answer.Asked
  pub recorder_start_error_from : Alone recorder_start_error_from.Post recorder_start_error_from.Asked
  pub recorder_readout_error_from_block : Alone recorder_readout_error_from_block.Post recorder_readout_error_from_block.Asked
  pub recorder_readout_error_from_line : Alone recorder_readout_error_from_line.Post recorder_readout_error_from_line.Asked
  pub recorder_readout_error_from_reading : Alone recorder_readout_error_from_reading.Post recorder_readout_error_from_reading.Asked
  -- crate registers
  pub registers_read_register : AloneAndLent (λ κs e. e.1.1.1.0.now) registers_read_register.Post registers_read_register.Asked
  pub registers_fleet_of : Alone registers_fleet_of.Post registers_fleet_of.Asked
  -- crate makers
  pub makers_give_list : Alone makers_give_list.Post makers_give_list.Asked
  pub makers_read_own : AloneAndLent (λ κs e. e.1.1.1.1.0.now) makers_read_own.Post makers_read_own.Asked
  pub makers_maker_error_from : Alone makers_maker_error_from.Post makers_maker_error_from.Asked
  -- crate display
  pub display_show : AloneAndLent (λ κs e. e.1.1.1.0.now) display_show.Post display_show.Asked
  -- crate lines
  pub lines_line_of : Alone lines_line_of.Post lines_line_of.Asked
  pub lines_text_after : Handed (λ κs r. part_of r) lines_text_after.Post lines_text_after.Asked
  pub lines_hex_bytes : Alone lines_hex_bytes.Post lines_hex_bytes.Asked
  -- crate answers
  pub answers_ok : Alone answers_ok.Post answers_ok.Asked
  pub answers_check_line : Alone answers_check_line.Post answers_check_line.Asked
  pub answers_start_line : Alone answers_start_line.Post answers_start_line.Asked
  pub answers_samples_line : Alone answers_samples_line.Post answers_samples_line.Asked
  pub answers_set_line : Alone answers_set_line.Post answers_set_line.Asked
  pub answers_reading_line : Alone answers_reading_line.Post answers_reading_line.Asked
  pub answers_dataset_line : Alone answers_dataset_line.Post answers_dataset_line.Asked
  pub answers_readout_line : Alone answers_readout_line.Post answers_readout_line.Asked
  pub answers_block_line : Alone answers_block_line.Post answers_block_line.Asked
  pub answers_register_line : Alone answers_register_line.Post answers_register_line.Asked
  pub answers_list_line : Alone answers_list_line.Post answers_list_line.Asked
  pub answers_maker_line : Alone answers_maker_line.Post answers_maker_line.Asked
  pub answers_record_line : Alone answers_record_line.Post answers_record_line.Asked
  pub answers_display_line : Alone answers_display_line.Post answers_display_line.Asked
  pub answers_image_part : Alone answers_image_part.Post answers_image_part.Asked
  pub answers_date_line : Alone answers_date_line.Post answers_date_line.Asked
  pub answers_fleet_line : Alone answers_fleet_line.Post answers_fleet_line.Asked
  pub answers_error_line : Alone answers_error_line.Post answers_error_line.Asked
  -- crate host
  pub host_recorder_image_check : Alone host_recorder_image_check.Post host_recorder_image_check.Asked
  pub host_recorder_calendar : Alone host_recorder_calendar.Post host_recorder_calendar.Asked
  pub host_recorder_age_class : Alone host_recorder_age_class.Post host_recorder_age_class.Asked
