-- the changes of rows that keep a table sound one row at a time
use Rattle.std.proofs.Common.{inr, ◌≡◌, ◌&&◌, ℕ, Bool, true, false, cond, not, List, [], refl, sym, ◌∙◌, None, Some}
use Rattle.std.specs.Prelude.{map, filter}
use Rattle.unix_names.specs.declared.Pid.{Pid}
use Rattle.unix_names.specs.declared.Act.{Act}
use Rattle.unix_names.specs.declared.Act.TheVariants.{Default, Ignore, Catch}
use Rattle.unix_names.specs.declared.Life.{Life}
use Rattle.unix_names.specs.declared.Life.TheVariants.{Runs, Stopped}
use Rattle.unix_names.specs.declared.WaitStatus.TheVariants as status
use Rattle.unix_names.specs.declared.Signal.{Signal}
use Rattle.unix_names.specs.declared.Signal.TheVariants.{Kill, Stop}
use Rattle.unix_names.specs.States.{is_living}
use Rattle.signal_state.specs.Signals.{Signals, IsKept}
use Rattle.signal_state.specs.Sig.{after_exec, with_action, with_mask, delivered, stopped_by, resumed}
use Rattle.signal_state.proofs.Folds.{kept-generated_all, stopped-generated_all}
use Rattle.process_table.specs.declared.Row.{Row}
use Rattle.process_table.specs.Rows.{is_pid, is_ended_at}
use Rattle.process_table.specs.Changes.{receives, received, delivered_at, stopped_at, continued_at, execed_at, reported_at, acting_at, masked_at}
use Rattle.kernel_model.specs.Sound.{IsSound}
use Rattle.kernel_laws.proofs.SignalFacts.{kept_choice, kept-after_exec, kept-with_mask, kept-delivered, kept-stopped_by, kept-resumed, kept-action}
use Rattle.kernel_laws.proofs.Plain.{IsRowKept, local_sound, plain_sound}

stopped_choice : (b : Bool) (x y : Signals) → x.stopped ≡ y.stopped → (cond b x y).stopped ≡ y.stopped
stopped_choice true x y e = e
stopped_choice false x y e = refl

-- signals
pub received_sound : (sent : Row → List Signal) (rows : List Row) → IsSound rows → IsSound (received sent rows)
received_sound sent rows sound = local_sound rows (receives sent) sound (record {
  pid = λ c. refl;
  parent = λ c. refl;
  group = λ c. refl;
  session = λ c. refl;
  lives = λ c a. a;
  row = λ c k. record {
    stopped_alike = λ a. k.stopped_alike a ∙ sym (stopped-generated_all c.sig (cond (is_living c.life) (sent c) []));
    signals_kept = kept-generated_all c.sig (cond (is_living c.life) (sent c) []) k.signals_kept;
    ended_unchanged = k.ended_unchanged;
  };
})

-- a change of one row's signals that leaves whether it is stopped
abbrev pub signals_at : Pid → (Signals → Signals) → Row → Row
signals_at p g c = record c { sig = cond (is_pid p c) (g c.sig) c.sig }

signals_row : (p : Pid) (g : Signals → Signals) → ((x : Signals) → IsKept x → IsKept (g x)) → ((x : Signals) → (g x).stopped ≡ x.stopped) → (c : Row) → IsRowKept c → IsRowKept (signals_at p g c)
signals_row p g kept stopped c k = record {
  stopped_alike = λ a. k.stopped_alike a ∙ sym (stopped_choice (is_pid p c) (g c.sig) c.sig (stopped c.sig));
  signals_kept = kept_choice (is_pid p c) (g c.sig) c.sig (kept c.sig k.signals_kept) k.signals_kept;
  ended_unchanged = k.ended_unchanged;
}

signals_sound : (p : Pid) (g : Signals → Signals) → ((x : Signals) → IsKept x → IsKept (g x)) → ((x : Signals) → (g x).stopped ≡ x.stopped) → (rows : List Row) → IsSound rows → IsSound (map (signals_at p g) rows)
signals_sound p g kept stopped rows sound = local_sound rows (signals_at p g) sound (record {
  pid = λ c. refl;
  parent = λ c. refl;
  group = λ c. refl;
  session = λ c. refl;
  lives = λ c a. a;
  row = signals_row p g kept stopped;
})

pub masked_sound : (p : Pid) (set : ℕ) (rows : List Row) → IsSound rows → IsSound (map (masked_at p set) rows)
masked_sound p set rows sound = signals_sound p (λ x. with_mask x set) (λ x k. kept-with_mask x set k) (λ x. refl) rows sound

stopped_action : (s : Signal) (act : Act) (x : Signals) → (with_action x s act).stopped ≡ x.stopped
stopped_action s Default x = refl
stopped_action s Ignore x = refl
stopped_action s Catch x = refl

pub acting_sound : (p : Pid) (s : Signal) (act : Act) → (s ≡ Kill → ⊥) → (s ≡ Stop → ⊥) → (rows : List Row) → IsSound rows → IsSound (map (acting_at p s act) rows)
acting_sound p s act nk ns rows sound = signals_sound p (λ x. with_action x s act) (λ x k. kept-action x s act nk ns k) (stopped_action s act) rows sound

pub delivered_sound : (p : Pid) (s : Signal) (rows : List Row) → IsSound rows → IsSound (map (delivered_at p s) rows)
delivered_sound p s rows sound = signals_sound p (λ x. delivered x s) (λ x k. kept-delivered x s k) (λ x. refl) rows sound

pub execed_sound : (p : Pid) (rows : List Row) → IsSound rows → IsSound (map (execed_at p) rows)
execed_sound p rows sound = local_sound rows (execed_at p) sound (record {
  pid = λ c. refl;
  parent = λ c. refl;
  group = λ c. refl;
  session = λ c. refl;
  lives = λ c a. a;
  row = λ c k. record {
    stopped_alike = λ a. k.stopped_alike a ∙ sym (stopped_choice (is_pid p c) (after_exec c.sig) c.sig refl);
    signals_kept = kept_choice (is_pid p c) (after_exec c.sig) c.sig (kept-after_exec c.sig k.signals_kept) k.signals_kept;
    ended_unchanged = k.ended_unchanged;
  };
})

-- ---- a stop, a continuing and a report
stopped_lives : (b : Bool) (l : Life) → is_living l ≡ true → is_living (cond b Stopped l) ≡ true
stopped_lives true l a = refl
stopped_lives false l a = a

stopped_row : (b : Bool) (s : Signal) (c : Row) → IsRowKept c →
    IsRowKept (record c { life = cond b Stopped c.life; change = cond b (Some (status.Stopped s)) c.change; sig = cond b (stopped_by c.sig s) c.sig })
stopped_row true s c k = record { stopped_alike = λ a. refl; signals_kept = kept-stopped_by c.sig s k.signals_kept; ended_unchanged = λ e. cc }
stopped_row false s c k = record { stopped_alike = k.stopped_alike; signals_kept = k.signals_kept; ended_unchanged = k.ended_unchanged }

pub stopped_sound : (p : Pid) (s : Signal) (rows : List Row) → IsSound rows → IsSound (map (stopped_at p s) rows)
stopped_sound p s rows sound = local_sound rows (stopped_at p s) sound (record {
  pid = λ c. refl;
  parent = λ c. refl;
  group = λ c. refl;
  session = λ c. refl;
  lives = λ c a. stopped_lives (is_pid p c) c.life a;
  row = λ c k. stopped_row (is_pid p c) s c k;
})

running_lives : (b : Bool) (l : Life) → is_living l ≡ true → is_living (cond b Runs l) ≡ true
running_lives true l a = refl
running_lives false l a = a

running_row : (b : Bool) (c : Row) → IsRowKept c → IsRowKept (record c { life = cond b Runs c.life; change = cond b (Some status.Continued) c.change; sig = cond b (resumed c.sig) c.sig })
running_row true c k = record { stopped_alike = λ a. refl; signals_kept = kept-resumed c.sig k.signals_kept; ended_unchanged = λ e. cc }
running_row false c k = record { stopped_alike = k.stopped_alike; signals_kept = k.signals_kept; ended_unchanged = k.ended_unchanged }

pub continued_sound : (p : Pid) (rows : List Row) → IsSound rows → IsSound (map (continued_at p) rows)
continued_sound p rows sound = local_sound rows (continued_at p) sound (record {
  pid = λ c. refl;
  parent = λ c. refl;
  group = λ c. refl;
  session = λ c. refl;
  lives = λ c a. running_lives (is_pid p c) c.life a;
  row = λ c k. running_row (is_pid p c) c k;
})

reported_none : (b : Bool) (c : Row) → c.change ≡ None → cond b None c.change ≡ None
reported_none true c e = refl
reported_none false c e = e

pub living_stays : (b : Bool) (l : Life) → is_living l ≡ true → not (b && not (is_living l)) ≡ true
living_stays true l a = rw a
living_stays false l a = refl

-- a report of a child's end or change
pub reported_sound : (p : Pid) (rows : List Row) → IsSound rows → IsSound (map (reported_at p) (filter (λ c. not (is_ended_at p c)) rows))
reported_sound p rows sound = plain_sound rows (λ c. not (is_ended_at p c)) (reported_at p) sound (record {
  pid = λ c. refl;
  group = λ c. refl;
  session = λ c. refl;
  parent = λ c here. inr (record { same = refl; stays = λ d e a. living_stays (is_pid p d) d.life a; lives = λ d e a. a });
  row = λ c k. record { stopped_alike = k.stopped_alike; signals_kept = k.signals_kept; ended_unchanged = λ e. reported_none (is_pid p c) c (k.ended_unchanged e) };
})
