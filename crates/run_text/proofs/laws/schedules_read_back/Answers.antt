use Rattle.run_text.proofs.ScheduleLaws.{schedule-written}
use Rattle.run_text.proofs.laws.schedules_read_back.Goals as goal

pub returns : goal.returns
returns c = λ nodes number turns small fit few. schedule-written nodes number turns small fit few
