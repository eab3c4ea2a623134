use Rattle.ops_vector.proofs.Lawful.{is_vector}
use Rattle.worker_tests.proofs.served.what_was_served_is_the_run_of_its_turns.Goals as goal

pub run-requires-clause-decides : goal.run-requires-clause-decides
run-requires-clause-decides g c = record { lawful = is_vector _; asked = λ pid job own bag site h. h }
