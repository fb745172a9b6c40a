-- `Periods::new` meets its contract: questions 7, 8 and 18 tell all that has to hold of the first dates.
use mathlib.Core.Path.{◌∙◌, sym}
use Rattle.calendar_reading_periods.proofs.ReadingPeriods.{all-left}
use Rattle.calendar_reading_periods.proofs.adjacent.Periods.new.Goals as goal

pub of_first_dates-requires : goal.of_first_dates-requires
of_first_dates-requires c =
    all-left c.args.first c.args.last c.args.starts.now c.requires (sym c.first_dates_question.ensures ∙ c.in_ok-first_dates_question.was)
