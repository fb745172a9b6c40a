-- What the holiday list of every year has. Assumes nothing.
use Rattle.calendar_movable_days.specs.Inside.{InSpan}
use Rattle.calendar_public_holidays.specs.YearHolidays.{chosen_days, year_holidays}
use Rattle.calendar_public_holidays.proofs.InOrder.{order-rising}
use Rattle.calendar_public_holidays_laws.specs.List.{EveryList}
use Rattle.calendar_public_holidays_laws.proofs.Members.{has_chosen}
use Rattle.calendar_public_holidays_laws.proofs.Eves.{no-eves}
use Rattle.calendar_public_holidays_laws.proofs.Length.{at-most-17, at-least-10}
use Rattle.calendar_public_holidays_laws.proofs.Question.{list-passes}

pub every-list : EveryList
unfolding EveryList year_holidays
every-list year choice a b =
    let s : InSpan year = record { from = a; to = b } in
    record {
      has_chosen = has_chosen year choice;
      rising = order-rising (chosen_days year choice);
      at_least = at-least-10 year choice s;
      at_most = at-most-17 year choice;
      no_eves = no-eves year choice s;
      passes = list-passes year choice s;
    }
