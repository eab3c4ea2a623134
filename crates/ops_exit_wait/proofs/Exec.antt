-- exec is a step
use Rattle.std.proofs.Common.{◌≡◌, ◌≢◌, ◌||◌, Bool, cond, List, refl, sym, ap, ◌∙◌, subst, Some}
use Rattle.std.specs.Prelude.{map}
use Rattle.std.proofs.lemmas.Bool.{ne_eqb}
use Rattle.list_laws.proofs.Finding.{same_number}
use Rattle.unix_names.specs.declared.Pid.{Pid}
use Rattle.unix_names.specs.declared.Signal.TheVariants.{Chld}
use Rattle.unix_names.specs.Sets.{has}
use Rattle.unix_calls.specs.declared.Call.TheVariants.{Exec}
use Rattle.unix_calls.specs.declared.Reply.TheVariants.{Fine}
use Rattle.unix_calls.specs.declared.Entry.TheVariants.{Called}
use Rattle.unix_calls.specs.declared.Job.TheVariants.{Ask}
use Rattle.signal_state.specs.Sig.{after_exec}
use Rattle.vproc_record.specs.declared.Vproc.{Vproc}
use Rattle.process_table.specs.declared.Row.{Row}
use Rattle.process_table.specs.Changes.{execed_at}
use Rattle.kernel_model.specs.Step.{after_at, sent_at}
use Rattle.decide_law.specs.Agrees.{IsRecordOf}
use Rattle.decide_law.specs.Law.{next, IsStep}
use Rattle.decide_law.specs.Effects.{decided_by, written}
use Rattle.decide_law.specs.Parts.{IsCallStep}
use Rattle.decide_law.proofs.Records.{row_pid}
use Rattle.decide_law.proofs.Plain.{KeepsPlace, children_map}
use Rattle.decide_law.proofs.OwnStep.{own_step}
use Rattle.decide_law.proofs.ReplyStep.{chosen_legal}
use Rattle.ops_exit_wait.specs.Exec.{execed_record, exec_effect}

executing : (p : Pid) → KeepsPlace (execed_at p)
executing p = record { pid = λ x. refl; parent = λ x. refl; group = λ x. refl; session = λ x. refl; uid = λ x. refl; life = λ x. refl }

executed_other : (p : Pid) (c : Row) → c.pid.0 ≢ p.0 → execed_at p c ≡ c
executed_other p c ne = ap (λ (b : Bool). record c { execed = b || c.execed; sig = cond b (after_exec c.sig) c.sig }) (ne_eqb c.pid.0 p.0 ne)

executed_record : (rows : List Row) (r : Row) (y : Vproc) → IsRecordOf rows y r → IsRecordOf (map (execed_at r.pid) rows) (execed_record y) (execed_at r.pid r)
executed_record rows r y of = record {
  pid = of.pid;
  parent = of.parent;
  group = of.group;
  session = of.session;
  uid = of.uid;
  life = of.life;
  change = of.change;
  execed = sym (ap (λ (b : Bool). b || r.execed) (same_number r.pid.0));
  ignchld = of.ignchld ∙ sym (ap (λ (b : Bool). has (cond b (after_exec r.sig) r.sig).ignored Chld) (same_number r.pid.0));
  children = of.children ∙ sym (children_map rows (execed_at r.pid) r.pid (executing r.pid));
}

pub exec_is_step : IsCallStep Exec (λ bag sig p v. exec_effect sig p)
exec_is_step rows p site at sig bag r v g a alive clear held =
    let table : next rows (Some (Called p Exec Fine)) ≡ map (execed_at r.pid) rows = ap (λ o. after_at rows o (Called p Exec Fine)) a.row in
    subst (λ (now : List Row). IsStep rows now p (Ask Exec at) site bag (decided_by (exec_effect sig p)) (written (exec_effect sig p) bag)) (sym table)
    (own_step rows p (Ask Exec at) site sig bag r v g (execed_at r.pid) execed_record (Some (Called p Exec Fine)) (after_exec sig) a alive record {
      legal = (chosen_legal rows p sig bag r v g Exec Fine a alive clear (λ f. cc) refl, refl);
      asked = refl;
      table = table;
      sends = λ c. ap (λ o. sent_at rows o (Called p Exec Fine) c) a.row;
      place = λ was here. refl;
      unplaced = refl;
      nobody = λ before left. refl;
      born = tt;
      keeps = executing r.pid;
      change = λ c. refl;
      others = λ c ne. executed_other r.pid c (λ e. ne (e ∙ ap (λ (q : Pid). q.0) (row_pid rows p r a.row)));
      own_record = λ y of. executed_record rows r y of;
      group = λ y. refl;
      stream = λ y h. refl;
      backlog = λ y. refl;
      loc = λ y. refl;
      sig_is = ap (λ (b : Bool). cond b (after_exec r.sig) r.sig) (same_number r.pid.0) ∙ ap after_exec a.sig_is;
    })
