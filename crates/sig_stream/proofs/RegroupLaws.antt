-- settling and regrouping, as laws on what they leave
use Rattle.std.proofs.Common.{◌≡◌, ℕ, true, false, List, [], ◌++◌, refl, sym, ap, ◌∙◌, append-nil}
use Rattle.unix_names.specs.declared.Pid.{Pid}
use Rattle.unix_names.specs.declared.Signal.{Signal}
use Rattle.vproc_record.specs.declared.Vproc.{Vproc}
use Rattle.group_record.specs.declared.Group.{Group}
use Rattle.group_record.specs.Members.{has_member}
use Rattle.group_record.specs.Groups.{joined, left, settled}
use Rattle.group_record.specs.Log.{log_part}
use Rattle.group_record.proofs.LogLaws.{log_part-joined_own, log_part-settled_own}
use Rattle.group_record.proofs.MemberLaws.{left-settled, settled-joined}
use Rattle.sig_stream.specs.Streams.{stream, regrouped}

abbrev pub without_backlog : Vproc → Vproc
without_backlog v = record v { backlog = [] }

-- a process that has settled has nothing on its way
pub stream-settled : (v : Vproc) (g : Group) → has_member g.members v.pid ≡ true → stream (without_backlog v) (settled g v.pid) ≡ []
stream-settled v g has = log_part-settled_own g v.pid v.uid has

-- one that changes groups keeps its stream
pub stream-regrouped : (v : Vproc) (old new : Group) → has_member new.members v.pid ≡ false → stream (regrouped v old new.id) (joined new v.pid v.uid) ≡ stream v old
stream-regrouped v old new absent = ap (λ (l : List Signal). stream v old ++ l) (log_part-joined_own new v.pid v.uid v.uid absent) ∙ append-nil (stream v old)

-- settling before a change of groups and after it leave the same three records
pub record SettlesAndRegroups (v : Vproc) (old new : Group) : Type 0 where
  pub vproc : regrouped (without_backlog v) (settled old v.pid) new.id ≡ without_backlog (regrouped v old new.id)
  pub from : left (settled old v.pid) v.pid ≡ left old v.pid
  pub to : joined new v.pid v.uid ≡ settled (joined new v.pid v.uid) v.pid

pub settles_and_regroups : (v : Vproc) (old new : Group) → has_member old.members v.pid ≡ true → has_member new.members v.pid ≡ false → SettlesAndRegroups v old new
settles_and_regroups v old new has absent = record {
  vproc = ap (λ (l : List Signal). record v { group = new.id; backlog = l }) (stream-settled v old has);
  from = left-settled old v.pid;
  to = sym (settled-joined new v.pid v.uid absent);
}
