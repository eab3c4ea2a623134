use Rattle.orphan_laws.proofs.Told.{links_agree, orphaned_agrees, newly_agrees}
use Rattle.orphan_laws.proofs.members_tell_what_the_table_tells.Goals as goal

pub returns-clause-links : goal.returns-clause-links
returns-clause-links c = links_agree

pub returns-clause-orphaned : goal.returns-clause-orphaned
returns-clause-orphaned c = orphaned_agrees

pub returns-clause-newly : goal.returns-clause-newly
returns-clause-newly c = newly_agrees
