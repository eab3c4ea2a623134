-- a question about the parent of each family fits
use Rattle.std.proofs.Common.{◌≡◌, ◌≢◌, ◌≤◌, inl, inr, ℕ, true, List, [], ◌∷◌, refl, arith, Some}
use Rattle.unix_names.specs.declared.Pid.{Pid}
use Rattle.unix_names.specs.declared.Life.{Life}
use Rattle.unix_names.specs.declared.Life.TheVariants.{Runs, Stopped, Ended}
use Rattle.unix_names.specs.declared.WaitStatus.TheVariants.{Exited}
use Rattle.unix_names.specs.States.{is_living}
use Rattle.unix_names.proofs.SetLaws.{IsSignals-none}
use Rattle.signal_state.specs.declared.Own.{Own}
use Rattle.record_bag.specs.declared.bag.Bag.{Bag}
use Rattle.process_table.specs.declared.Row.{Row}
use Rattle.process_table.specs.Rows.{pid, row_of}
use Rattle.kernel_model.specs.Sound.{IsSound}
use Rattle.decide_law.specs.Agrees.{Agrees, VprocsAgree, GroupsAgree, IsGroupOf, VprocAgrees, GroupAgrees, IsRecordOf, uid_in, stopped_in}
use Rattle.kernel_laws.specs.Effects.{IsUnused}
use Rattle.decide_law.specs.Vector.{IsFitting}
use Rattle.group_record.specs.declared.Member.{Member}
use Rattle.group_record.specs.declared.Group.{Group}
use Rattle.group_record.specs.Members.{uid_of}
use Rattle.decide_tests.specs.Families.{fresh_own, row_for, vproc_for, member_for, group_for, parting_rows, parting, elder, ended_rows, two_ended}
use Rattle.decide_tests.proofs.FewRows.{every_all, few_fits, fitting, each_row, each_value, of_two, of_three, kept_stopped, few_sound}

parting_sound : (life : Life) → is_living life ≡ true → IsSound (parting_rows life)
parting_sound life lives = few_sound (parting_rows life) (pid 2) (refl, (refl, tt)) (omega arith) (refl, (refl, tt))
    (((omega arith), (omega arith), (omega arith)), (((omega arith), (omega arith), (omega arith)), tt))
    (inl refl, (inr refl, tt))
    (((λ _. refl), kept_stopped _, (λ _. refl)), (((λ _. refl), kept_stopped _, (λ _. refl)), tt))

-- the members by the table: each is found where it is, and nobody else has a row
first_member : (life : Life) (q : Pid) → uid_of (member_for 2 ∷ []) q ≡ uid_in (parting_rows life) (pid 2) q
first_member life = of_two (λ q. uid_of (member_for 2 ∷ []) q ≡ uid_in (parting_rows life) (pid 2) q) 2 3 refl refl (λ q a b. rw (a, b) refl)

second_member : (life : Life) (q : Pid) → uid_of (member_for 3 ∷ []) q ≡ uid_in (parting_rows life) (pid 3) q
second_member life = of_two (λ q. uid_of (member_for 3 ∷ []) q ≡ uid_in (parting_rows life) (pid 3) q) 2 3 refl refl (λ q a b. rw (a, b) refl)

-- the record tells what the row tells
parting_vprocs : (life : Life) (n : ℕ) → VprocsAgree (parting life n) (parting_rows life)
parting_vprocs life n = each_value (λ q h. VprocAgrees (parting_rows life) h (row_of (parting_rows life) q)) (parting life n).vprocs (parent, (child, tt))
  where
    parent : IsRecordOf (parting_rows life) (vproc_for 2 1 2 Runs (pid 3 ∷ [])) (row_for 2 1 2 Runs)
    parent = record { pid = refl; parent = refl; group = refl; session = refl; uid = refl; life = refl; change = refl; execed = refl; ignchld = refl; children = refl }

    child : IsRecordOf (parting_rows life) (vproc_for 3 2 3 life []) (row_for 3 2 3 life)
    child = record { pid = refl; parent = refl; group = refl; session = refl; uid = refl; life = refl; change = refl; execed = refl; ignchld = refl; children = refl }

-- each row is of the session
in_session : (life : Life) (q : Pid) (r : Row) → row_of (parting_rows life) q ≡ Some r → r.session ≡ pid 2
in_session life q r e = each_row (λ r. r.session ≡ pid 2) (parting_rows life) (refl, (refl, tt)) q r e

abbrev pub IsGroupIn : List Row → ℕ → Group → Type 0
IsGroupIn rows id g = (g.members ≢ []) × IsGroupOf rows (pid id) g

parting_groups : (life : Life) (n : ℕ) → is_living life ≡ true → n ≡ stopped_in (parting_rows life) (pid 3) → GroupsAgree (parting life n) (parting_rows life)
parting_groups life n lives count = each_value (λ id h. GroupAgrees (parting_rows life) id h) (parting life n).groups (first, (second, tt))
  where
    first : IsGroupIn (parting_rows life) 2 (group_for 2 (member_for 2 ∷ []) 0 0)
    first = ((λ e. cc e), record { id_is = refl; distinct = (refl, tt); members = first_member life; session = λ q r e _. in_session life q r e; from = every_all (λ (m : Member). m.from ≤ 0) (member_for 2 ∷ []) (omega arith, tt); links = refl; stopped = refl })

    second : IsGroupIn (parting_rows life) 3 (group_for 3 (member_for 3 ∷ []) 1 n)
    second = ((λ e. cc e), record { id_is = refl; distinct = (refl, tt); members = second_member life; session = λ q r e _. in_session life q r e; from = every_all (λ (m : Member). m.from ≤ 0) (member_for 3 ∷ []) (omega arith, tt); links = rw lives refl; stopped = count })

parting_agrees : (life : Life) (n : ℕ) → is_living life ≡ true → n ≡ stopped_in (parting_rows life) (pid 3) → Agrees (parting life n) (parting_rows life)
parting_agrees life n lives count = record { vprocs = parting_vprocs life n; groups = parting_groups life n lives count }

parting_unused : (life : Life) → IsUnused (parting_rows life) 4
parting_unused life = record {
  least = omega arith;
  somebody = omega arith;
  no_pid = λ c e. each_row (λ r. r.pid.0 ≢ 4) (parting_rows life) (omega arith, (omega arith, tt)) c.pid c e;
  no_group = λ c e. each_row (λ r. r.group.0 ≢ 4) (parting_rows life) (omega arith, (omega arith, tt)) c.pid c e;
  no_session = λ c e. each_row (λ r. r.session.0 ≢ 4) (parting_rows life) (omega arith, (omega arith, tt)) c.pid c e;
}

pub parting_fits : (life : Life) (n : ℕ) → is_living life ≡ true → n ≡ stopped_in (parting_rows life) (pid 3) → IsFitting (pid 2) fresh_own (parting life n)
parting_fits life n lives count = fitting (parting life n) (few_fits (parting_rows life) (parting life n) (vproc_for 2 1 2 Runs (pid 3 ∷ [])) (group_for 2 (member_for 2 ∷ []) 0 0) (row_for 2 1 2 Runs)
    (parting_sound life lives) (parting_agrees life n lives count) (omega arith) refl refl refl IsSignals-none refl refl (record { taken = omega arith; sig = refl }) (omega arith) (parting_unused life) refl refl
    (((omega arith), (omega arith), (omega arith), (omega arith)), (((omega arith), (omega arith), (omega arith), (omega arith)), tt)))

-- ---- two children that have ended
ended_sound : IsSound ended_rows
ended_sound = few_sound ended_rows (pid 2) (refl, (refl, (refl, tt))) (omega arith) (refl, (refl, (refl, tt)))
    (((omega arith), (omega arith), (omega arith)), (((omega arith), (omega arith), (omega arith)), (((omega arith), (omega arith), (omega arith)), tt)))
    (inl refl, (inr refl, (inr refl, tt)))
    (((λ _. refl), kept_stopped _, (λ _. refl)), (((λ _. refl), kept_stopped _, (λ _. refl)), (((λ _. refl), kept_stopped _, (λ _. refl)), tt)))

abbrev ended_members : List Member
ended_members = member_for 2 ∷ member_for elder ∷ member_for 3 ∷ []

member_of_three : (q : Pid) → uid_of ended_members q ≡ uid_in ended_rows (pid 2) q
member_of_three = of_three (λ q. uid_of ended_members q ≡ uid_in ended_rows (pid 2) q) 2 elder 3 refl refl refl (λ q a b c. rw (a, b, c) refl)

ended_agrees : Agrees two_ended ended_rows
ended_agrees = record {
  vprocs = each_value (λ q h. VprocAgrees ended_rows h (row_of ended_rows q)) two_ended.vprocs (parent, (younger, (first, tt)));
  groups = each_value (λ id h. GroupAgrees ended_rows id h) two_ended.groups (group, tt);
}
  where
    parent : IsRecordOf ended_rows (vproc_for 2 1 2 Runs (pid elder ∷ pid 3 ∷ [])) (row_for 2 1 2 Runs)
    parent = record { pid = refl; parent = refl; group = refl; session = refl; uid = refl; life = refl; change = refl; execed = refl; ignchld = refl; children = refl }

    younger : IsRecordOf ended_rows (vproc_for 3 2 2 (Ended (Exited 8)) []) (row_for 3 2 2 (Ended (Exited 8)))
    younger = record { pid = refl; parent = refl; group = refl; session = refl; uid = refl; life = refl; change = refl; execed = refl; ignchld = refl; children = refl }

    first : IsRecordOf ended_rows (vproc_for elder 2 2 (Ended (Exited 7)) []) (row_for elder 2 2 (Ended (Exited 7)))
    first = record { pid = refl; parent = refl; group = refl; session = refl; uid = refl; life = refl; change = refl; execed = refl; ignchld = refl; children = refl }

    group : IsGroupIn ended_rows 2 (group_for 2 ended_members 0 0)
    group = ((λ e. cc e), record { id_is = refl; distinct = (refl, (refl, (refl, tt))); members = member_of_three; session = λ q r e _. each_row (λ r. r.session ≡ pid 2) ended_rows (refl, (refl, (refl, tt))) q r e; from = every_all (λ (m : Member). m.from ≤ 0) ended_members (omega arith, (omega arith, (omega arith, tt))); links = refl; stopped = refl })

ended_unused : IsUnused ended_rows 4
ended_unused = record {
  least = omega arith;
  somebody = omega arith;
  no_pid = λ c e. each_row (λ r. r.pid.0 ≢ 4) ended_rows (omega arith, (omega arith, (omega arith, tt))) c.pid c e;
  no_group = λ c e. each_row (λ r. r.group.0 ≢ 4) ended_rows (omega arith, (omega arith, (omega arith, tt))) c.pid c e;
  no_session = λ c e. each_row (λ r. r.session.0 ≢ 4) ended_rows (omega arith, (omega arith, (omega arith, tt))) c.pid c e;
}

pub ended_fits : IsFitting (pid 2) fresh_own two_ended
ended_fits = fitting two_ended (few_fits ended_rows two_ended (vproc_for 2 1 2 Runs (pid elder ∷ pid 3 ∷ [])) (group_for 2 ended_members 0 0) (row_for 2 1 2 Runs)
    ended_sound ended_agrees (omega arith) refl refl refl IsSignals-none refl refl (record { taken = omega arith; sig = refl }) (omega arith) ended_unused refl refl
    (((omega arith), (omega arith), (omega arith), (omega arith)), (((omega arith), (omega arith), (omega arith), (omega arith)), (((omega arith), (omega arith), (omega arith), (omega arith)), tt))))

-- ---- as the tests come to them
pub stopped_fits : (own : Own) (bag : Bag) → own ≡ fresh_own → bag ≡ parting Stopped 1 → IsFitting (pid 2) own bag
stopped_fits own bag o b = rw (o, b) (parting_fits Stopped 1 refl refl)

pub running_fits : (own : Own) (bag : Bag) → own ≡ fresh_own → bag ≡ parting Runs 0 → IsFitting (pid 2) own bag
running_fits own bag o b = rw (o, b) (parting_fits Runs 0 refl refl)

pub waiting_fits : (own : Own) (bag : Bag) → own ≡ fresh_own → bag ≡ two_ended → IsFitting (pid 2) own bag
waiting_fits own bag o b = rw (o, b) ended_fits
