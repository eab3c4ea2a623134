use Rattle.signal_state.proofs.OneSignal.{kill_pends, cont_or_stop, cont_due, mask_unread}
use Rattle.signal_state.proofs.Folds.{generated_all-append}
use Rattle.signal_state.proofs.laws.generating.Goals as goal

pub returns-clause-kill : goal.returns-clause-kill
returns-clause-kill c = kill_pends

pub returns-clause-cont : goal.returns-clause-cont
returns-clause-cont c = cont_or_stop

pub returns-clause-due : goal.returns-clause-due
returns-clause-due c = cont_due

pub returns-clause-mask : goal.returns-clause-mask
returns-clause-mask c = mask_unread

pub returns-clause-fold : goal.returns-clause-fold
returns-clause-fold c = generated_all-append
