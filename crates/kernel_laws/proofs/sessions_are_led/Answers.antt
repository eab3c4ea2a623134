use Rattle.kernel_laws.proofs.Leaders.{sessions_led}
use Rattle.kernel_laws.proofs.sessions_are_led.Goals as goal

pub returns : goal.returns
returns c = sessions_led
