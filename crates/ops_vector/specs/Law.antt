-- what the answer owes the one kernel
use Rattle.std.specs.Prelude.{ℕ, ◌≡◌, List, Some}
use Rattle.unix_names.specs.declared.Pid.{Pid}
use Rattle.unix_names.specs.Sets.{IsSignals}
use Rattle.unix_calls.specs.declared.Job.{Job}
use Rattle.signal_state.specs.declared.Own.{Own}
use Rattle.record_bag.specs.declared.bag.Bag.{Bag}
use Rattle.record_bag.specs.declared.vector.Site.{Site}
use Rattle.process_table.specs.declared.Row.{Row}
use Rattle.process_table.specs.Rows.{row_of}
use Rattle.decide_law.specs.Law.{Asks}
use Rattle.decide_law.specs.Vector.{IsAnswer}
use Rattle.ops_vector.specs.Answer.{unix_answer}

-- each question that fits is answered as the law has it, whatever table was asked of
abbrev pub QuestionsAnswered : Type 0
QuestionsAnswered = (nodes : ℕ) (rows : List Row) (p : Pid) (job : Job) (own : Own) (bag : Bag) (site : Site) → Asks nodes rows p job own bag site →
    IsAnswer nodes rows p job site bag (unix_answer p job own bag site).bag (unix_answer p job own bag site).outcome
