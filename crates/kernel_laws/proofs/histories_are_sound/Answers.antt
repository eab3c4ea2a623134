use Rattle.kernel_laws.proofs.Boot.{boot_sound, legal_sound}
use Rattle.kernel_laws.proofs.histories_are_sound.Goals as goal

pub returns-clause-first : goal.returns-clause-first
returns-clause-first c = boot_sound

pub returns-clause-later : goal.returns-clause-later
returns-clause-later c = legal_sound
