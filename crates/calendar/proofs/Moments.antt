-- The laws of specs/Laws.antt: what `moment_of` means, and how moments follow each other.
use mathlib.Core.Path.{◌≡◌, refl, sym, ap, subst, ◌∙◌}
use mathlib.Core.Logic.{inl, inr}
use Prim.Native.Nat.{ℕ, suc, ◌+◌, ◌-◌, ◌*◌, ◌/◌, ◌%◌, ◌<◌, ◌≤◌}
use native.Mathlib.Nat.{le_refl}
use native.Mathlib.Omega.{arith}
use lib.Dec.{ltb, leb, eqb}
use borrow.Author.Tests.{ltb-true, ltb-false, leb-true, le-leb, eqb-true}
use Rattle.laws.proofs.If.{if_cases}
use Rattle.laws.proofs.Tests.{by_test, and_left, and_right, and_both}
use Rattle.laws.specs.Total.{total}
use Rattle.laws.proofs.Total.{total_more, total_grows}
use Rattle.laws.specs.Spans.{span}
use Rattle.laws.proofs.Spans.{span_low, span_high, span_below}
use Rattle.laws.specs.Answers.{given, refused}
use Rattle.calendar.specs.Dates.{leap_year, month_length, year_length, day_number, weekday_of}
use Rattle.calendar.specs.Moments.{DateExists, day_of, IsMoment, year_day, moment_at, moment_of, on_date, day_after}
use Rattle.calendar.specs.Laws.{FoundIsMoment, MomentIsFound, OneMoment, NoDateExactly, DatedOrNot, AlwaysDated, OneDate, NextDay, SameMinute, SomeYear}
use Rattle.calendar.specs.declared.Moment.{Moment}
use Rattle.calendar.proofs.Months.{no_month, few_days, months_fill, year_is, year_below, left_below, month_is, no_year, has_days, year_begins, year_ends}

-- a day of a month of the clock's years exists
exists : (y m d : ℕ) → 1970 ≤ y → y ≤ 2106 → 1 ≤ d → d ≤ month_length y m → DateExists y m d
exists y m d f l low high = record { first_year = f; last_year = l; in_month = and_both _ _ (le-leb 1 d low) (le-leb d (month_length y m) high) }

module _ (y m d : ℕ) (v : DateExists y m d) where
  -- a day that exists is at least the first
  pub day_low : 1 ≤ d
  day_low = leb-true 1 d (and_left _ _ v.in_month)

  -- and at most the last of its month
  pub day_high : d ≤ month_length y m
  day_high = leb-true d (month_length y m) (and_right (leb 1 d) _ v.in_month)

  -- its month is one of the twelve
  pub month_high : m ≤ 12
  month_high = by_test (ltb m 13) (λ t. omega (arith, ltb-true m 13 t)) (λ f. omega (arith, no_month y m (ltb-false m 13 f), day_low, day_high))

  -- so it is at most the 31st
  pub day_few : d ≤ 31
  day_few = omega (arith, day_high, few_days y m month_high)

  -- the day lies in its year
  in_year : total m (month_length y) + (d - 1) < year_length (y - 1970)
  unfolding total
  in_year =
      let e : 1970 + (y - 1970) ≡ y = omega (arith, v) in
      omega (arith, day_low, day_high, total_grows (month_length y) (suc m) 13 (omega (arith, month_high)), rw e at (months_fill (y - 1970)))

  -- and is found there
  day_found : record { years = y - 1970; left = total m (month_length y) + (d - 1) } ≡ year_day (day_number y m d)
  unfolding day_number total
  day_found = year_is _ (y - 1970) (total m (month_length y) + (d - 1)) (omega (arith, v)) (omega arith) (omega (arith, in_year))

pub moment_is_found : MomentIsFound
moment_is_found t m i =
    let v = i.date in
    let low = day_low _ _ _ v in
    let left = total m.month (month_length m.year) + (m.day - 1) in
    let days : t / 86_400 ≡ day_of m = omega arith in
    let year : m.year ≡ 1970 + (m.year - 1970) = omega (arith, v) in
    let day : m.day ≡ m.day - 1 + 1 = omega arith in
    let weekday : m.weekday ≡ weekday_of (t / 86_400) = i.weekday ∙ ap weekday_of (sym days) in
    let hour : m.hour ≡ t / 3_600 % 24 = omega arith in
    let minute : m.minute ≡ t / 60 % 60 = omega arith in
    let second : m.second ≡ t % 60 = omega arith in
    (λ j. given (record { year = year j; month = m.month; day = day j; weekday = weekday j; hour = hour j; minute = minute j; second = second j }))
    ∙ month_is t (record { years = m.year - 1970; left = left }) m.month (m.day - 1) (day_found _ _ _ v ∙ ap year_day (sym days)) (omega (arith, v)) (month_high _ _ _ v) (rw (← year) refl) (rw (← year) (omega (arith, day_high _ _ _ v)))

-- the moment in the year and the month that hold the day of t is the moment of t
made : (t k m left : ℕ) → k < 137 → total k year_length + left ≡ t / 86_400 → total m (month_length (1970 + k)) ≤ left
    → left < total (suc m) (month_length (1970 + k)) → IsMoment t (moment_at t (1970 + k) m (left - total m (month_length (1970 + k)) + 1))
unfolding day_number total
made t k m left h year low high =
    let y = 1970 + k in
    let d = left - total m (month_length y) + 1 in
    let same : y - 1970 ≡ k = omega arith in
    let days : day_number y m d ≡ t / 86_400 = rw same (omega arith) in
    record {
      date = exists y m d (omega arith) (omega arith) (omega arith) (omega arith);
      weekday = ap weekday_of (sym days);
      hour = omega arith;
      minute = omega arith;
      second = omega arith;
      counts = rw days (omega arith);
    }

-- a moment is no refusal
not_refused : (m : Moment) (n : ℕ) → given m ≡ refused n 0 → ⊥
not_refused m n e = let z : ◌≡◌ {A = ℕ} 0 1 = cc in omega arith

-- the year and the month of a day before 2107 are found
found : (t : ℕ) → t / 86_400 < 50_038 → (m : Moment) × (given m ≡ moment_of t) × IsMoment t m
unfolding year_day
found t h =
    let n = t / 86_400 in
    let a = year_day n in
    let lengths = month_length (1970 + a.years) in
    let m = span 13 lengths a.left in
    let year = year_below n h in
    let month = span_below 13 lengths a.left (left_below n h) in
    let low = span_low 13 lengths a.left in
    let high = span_high 13 lengths a.left month in
    let i = made t a.years m a.left year (omega (arith, span_low 137 year_length n)) low high in
    (_, moment_is_found t _ i, i)

-- each second has a moment of the years to 2106, or its day is past them
by_date : {P : Type 0} (t : ℕ) → ((m : Moment) → given m ≡ moment_of t → IsMoment t m → P) → (refused 9 0 ≡ moment_of t → P) → P
by_date t on none =
    by_test (ltb (t / 86_400) 50_038)
    (λ l. let f = found t (ltb-true _ _ l) in on f.0 f.1 f.2)
    (λ g. none (no_year t (ltb-false _ _ g)))

pub found_is_moment : FoundIsMoment
found_is_moment t m e = by_date t (λ n f i. subst (IsMoment t) (cc) i) (λ r. absurd (not_refused m 9 (cc)))

pub dated_or_not : DatedOrNot
dated_or_not t = by_date t (λ m e i. inl (m, sym e)) (λ e. inr (sym e))

pub one_moment : OneMoment
one_moment t m n i j = let e : given m ≡ given n = moment_is_found t m i ∙ sym (moment_is_found t n j) in cc

pub no_date_exactly : NoDateExactly
no_date_exactly t = (
  λ e m i. not_refused m 9 (moment_is_found t m i ∙ sym e),
  λ h. by_date t (λ m f i. absurd (h m i)) (λ r. r),
)

pub always_dated : AlwaysDated
always_dated t h = let f = found t (omega arith) in (f.0, f.1)

-- the first moment of a date
midnight : ℕ → ℕ → ℕ → Moment
midnight y m d = record { year = y; month = m; day = d; weekday = weekday_of (day_number y m d); hour = 0; minute = 0; second = 0 }

-- it is the moment of the day's first second
at_midnight : (y m d : ℕ) → DateExists y m d → IsMoment (day_number y m d * 86_400) (midnight y m d)
unfolding midnight
at_midnight y m d v = record { date = v; weekday = refl; hour = omega arith; minute = omega arith; second = omega arith; counts = omega arith }

pub one_date : OneDate
unfolding midnight
one_date y m d y' m' d' v v' e =
    let p = one_moment _ (midnight y m d) (midnight y' m' d') (at_midnight y m d v) (rw e (at_midnight y' m' d' v')) in
    (ap (λ (x : Moment). x.year) p, ap (λ (x : Moment). x.month) p, ap (λ (x : Moment). x.day) p)

pub same_minute : SameMinute
same_minute t u m i e =
    record { date = i.date; weekday = i.weekday; hour = i.hour; minute = i.minute; second = omega arith; counts = omega arith }

module _ (y m d : ℕ) (v : DateExists y m d) where
  -- the next day of the month has the next number
  next_in_month : d < month_length y m → day_number y m (d + 1) ≡ day_number y m d + 1
  unfolding day_number
  next_in_month l = omega (arith, day_low y m d v)

  -- after the month's last day, so has the first of the next month
  next_month : month_length y m ≤ d → day_number y (m + 1) 1 ≡ day_number y m d + 1
  unfolding day_number
  next_month l = omega (arith, day_low y m d v, day_high y m d v, total_more m (month_length y))

  -- after the year's last day, so has 1 January of the next year
  next_year : month_length y m ≤ d → 12 ≤ m → day_number (y + 1) 1 1 ≡ day_number y m d + 1
  unfolding day_number total
  next_year l b =
      let e : 1970 + (y - 1970) ≡ y = omega (arith, v) in
      let n : y + 1 - 1970 ≡ suc (y - 1970) = omega (arith, v) in
      let last : m + 1 ≡ 13 = omega (arith, month_high y m d v) in
      rw n
      (omega
      (arith, day_low y m d v, day_high y m d v, total_more m (month_length y), ap (λ k. total k (month_length y)) last, rw e at (months_fill (y - 1970)), year_begins (y + 1)))

-- the same time on the date of the next day number is 86,400 seconds later
day_later : (t : ℕ) (m : Moment) → IsMoment t m → (y mo d : ℕ) → DateExists y mo d → day_number y mo d ≡ day_of m + 1
    → IsMoment (t + 86_400) (on_date m y mo d)
day_later t m i y mo d v e =
    record { date = v; weekday = omega arith; hour = i.hour; minute = i.minute; second = i.second; counts = rw e (omega arith) }

pub next_day : NextDay
unfolding day_after
next_day t m i h =
    let v = i.date in
    let y = m.year in
    let mo = m.month in
    let d = m.day in
    if_cases (IsMoment (t + 86_400)) (ltb d (month_length y mo))
    (λ l.
    let more = ltb-true d (month_length y mo) l in
    day_later t m i y mo (d + 1) (exists y mo (d + 1) v.first_year v.last_year (omega arith) (omega arith)) (next_in_month y mo d v more))
    (λ l.
    let last = ltb-false d (month_length y mo) l in
    if_cases (IsMoment (t + 86_400)) (ltb mo 12)
    (λ b.
    let more = ltb-true mo 12 b in
    day_later t m i y (mo + 1) 1 (exists y (mo + 1) 1 v.first_year v.last_year (omega arith) (has_days y (mo + 1) (omega arith) (omega arith)))
    (next_month y mo d v last))
    (λ b.
    let e = next_year y mo d v last (ltb-false mo 12 b) in
    day_later t m i (y + 1) 1 1 (exists (y + 1) 1 1 (omega (arith, v)) (year_ends (y + 1) 1 1 (omega arith)) (omega arith) (has_days (y + 1) 1 (omega arith) (omega arith))) e))

-- no month is longer in a year than in a leap year
longest : (y m : ℕ) → month_length y m ≤ month_length 2000 m
unfolding month_length
longest y m =
    by_test (eqb m 2)
    (λ e. rw (e, eqb-true m 2 e) (by_test (leap_year y) (λ l. rw l (omega arith)) (λ l. rw l (omega arith))))
    (λ e. rw e (le_refl _))

pub some_year : SomeYear
some_year d m = (
  λ e. (2000, e),
  λ (y, e).
      let high = leb-true d (month_length y m) (and_right (leb 1 d) _ e) in
      and_both (leb 1 d) _ (and_left (leb 1 d) _ e) (le-leb d (month_length 2000 m) (omega (arith, longest y m))),
)
