-- `call_request::room_question` meets its contract: no days have more than 100 quarter hours each.
use Rattle.std.proofs.Common.{sym, arith}
use Rattle.refusal.proofs.Questions.{room-enough}
use Rattle.calendar_period.proofs.Periods.{values-small}
use Rattle.call_request.proofs.room_question.Goals as goal

pub returns-then-days-room : goal.returns-then-days-room
returns-then-days-room c =
    let period = c.args.period in
    sym (room-enough _ _ (omega (arith, values-small period.days period.first)))
