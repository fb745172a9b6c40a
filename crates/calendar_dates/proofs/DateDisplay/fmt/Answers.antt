use Rattle.calendar_dates.proofs.DateDisplay.fmt.Goals as goal
use Rattle.calendar_dates.proofs.Printed.{zeros}

pub returns-clause-writes : goal.returns-clause-writes
returns-clause-writes g c =
    let date = c.args.self.now in
    rw (c.laid_out.ensures, c.laid_out-2.ensures, c.laid_out-3.ensures, zeros 4 date.year, zeros 2 date.month, zeros 2 date.day)
    at c.write.ensures.writes
