-- a move nudges each process whose wait may answer otherwise: the one that moves, and its parent
use Rattle.std.proofs.Common.{◌≡◌, ◌≢◌, ◌==◌, ◌||◌, ◌++◌, Bool, true, false, cond, List, [], ◌∷◌, refl, sym, ap, ◌∙◌, Option, None, Some}
use Rattle.std.specs.Option.{option_map}
use Rattle.std.specs.List.{list_any}
use Rattle.std.proofs.lemmas.Bool.{eqb-true, eqb-false, ne_eqb, eq-eqb}
use Rattle.list_laws.specs.Keyed.{option_filter}
use Rattle.list_laws.proofs.Filters.{some_same}
use Rattle.list_laws.proofs.Finding.{found}
use Rattle.unix_names.specs.declared.Pid.{Pid}
use Rattle.vproc_record.specs.declared.Vproc.{Vproc}
use Rattle.group_record.specs.declared.Group.{Group}
use Rattle.record_bag.specs.declared.bag.Bag.{Bag}
use Rattle.process_table.specs.declared.Row.{Row}
use Rattle.process_table.specs.Rows.{row_of, is_parent}
use Rattle.kernel_model.specs.Sound.{IsSound}
use Rattle.decide_law.specs.Agrees.{Agrees, IsRecordOf}
use Rattle.decide_law.specs.Wakes.{report_in, seen_by, WakesOthers}
use Rattle.decide_law.proofs.Records.{number, pid_same, row_pid}
use Rattle.decide_law.proofs.Shell.{own_record}
use Rattle.ops_groups.specs.Move.{GroupInSession, moved_at}
use Rattle.ops_groups.specs.MoveLaw.{Moves}
use Rattle.ops_groups.proofs.Moved.{later, row_later, still}
use Rattle.decide_law.specs.Nudges.{but_system}

either : (a b : Bool) → (a || b) ≡ false → (a ≡ false) × (b ≡ false)
either true b e = cc
either false b e = (refl, e)

any_two : (m : Pid) (xs ys : List Pid) → list_any (λ (n : Pid). n.0 == m.0) (xs ++ ys) ≡ false → (list_any (λ (n : Pid). n.0 == m.0) xs ≡ false) × (list_any (λ (n : Pid). n.0 == m.0) ys ≡ false)
any_two m [] ys e = (refl, e)
any_two m (x ∷ xs) ys e = let s = either (x.0 == m.0) _ e in let t = any_two m xs ys s.1 in (ap (λ b. b || list_any (λ (n : Pid). n.0 == m.0) xs) s.0 ∙ t.0, t.1)

-- who is neither the caller nor the system process and is not nudged is another one
another : (p q m : Pid) → m.0 ≢ p.0 → m.0 ≢ 1 → list_any (λ (n : Pid). n.0 == m.0) (but_system p q) ≡ false → m.0 ≢ q.0
another p q m np ns e = λ s. go s (q.0 == p.0) (q.0 == 1) refl refl e
  where
    go : m.0 ≡ q.0 → (a b : Bool) → (q.0 == p.0) ≡ a → (q.0 == 1) ≡ b → list_any (λ (n : Pid). n.0 == m.0) (cond (a || b) [] (q ∷ [])) ≡ false → ⊥
    go s true b ea eb h = np (s ∙ eqb-true _ _ ea)
    go s false true ea eb h = ns (s ∙ eqb-true _ _ eb)
    go s false false ea eb h = let yes : (q.0 == m.0) ≡ true = eq-eqb _ _ (sym s) in let no : (q.0 == m.0) ≡ false = (either (q.0 == m.0) false h).0 in absurd cc

pub move_wakes : (rows : List Row) (p : Pid) (bag : Bag) (u : Vproc) (x : Row) (old : Group) (new : GroupInSession) → IsSound rows → Agrees bag rows → Moves rows bag u x old new → WakesOthers rows (later u.pid new rows) p (but_system p u.pid ++ but_system p u.parent)
move_wakes rows p bag u x old new k a w = λ m r r' np here here' living not_nudged. case m r r' np here here' (any_two m (but_system p u.pid) (but_system p u.parent) not_nudged)
  where
    of : IsRecordOf rows u x
    of = own_record rows u.pid bag x u a w.row w.held

    case : (m : Pid) (r r' : Row) → m.0 ≢ p.0 → row_of rows m ≡ Some r → row_of (later u.pid new rows) m ≡ Some r' →
        (list_any (λ (n : Pid). n.0 == m.0) (but_system p u.pid) ≡ false) × (list_any (λ (n : Pid). n.0 == m.0) (but_system p u.parent) ≡ false) → (r'.group ≡ r.group) × ((q : Pid) → seen_by m (later u.pid new rows) q ≡ seen_by m rows q)
    case m r r' np here here' none =
        let ns : m.0 ≢ 1 = λ s. (k.each m r here).not_system (ap (λ (i : Pid). i.0) (row_pid rows m r here) ∙ s) in
        let nu = another p u.pid m np ns none.0 in
        let nq = another p u.parent m np ns none.1 in (
          ap (λ (c : Row). c.group) (some_same _ _ (sym here' ∙ row_later rows u.pid new m ∙ ap (option_map (moved_at u.pid new)) here ∙ ap Some (still u.pid new r (λ s. nu (sym (found number m.0 rows r here) ∙ s))))),
          λ q. ap (λ (o : Option Row). option_map report_in (option_filter (is_parent m) o)) (row_later rows u.pid new q) ∙ go m nq q (row_of rows q) refl,
        )
      where
        go : (m : Pid) → m.0 ≢ u.parent.0 → (q : Pid) (o : Option Row) → row_of rows q ≡ o → option_map report_in (option_filter (is_parent m) (option_map (moved_at u.pid new) o)) ≡ option_map report_in (option_filter (is_parent m) o)
        go m nq q None e = refl
        go m nq q (Some c) e = pick (c.pid.0 == u.pid.0) refl
          where
            pick : (b : Bool) → (c.pid.0 == u.pid.0) ≡ b → option_map report_in (option_filter (is_parent m) (Some (moved_at u.pid new c))) ≡ option_map report_in (option_filter (is_parent m) (Some c))
            pick true s =
                let same : c ≡ x = some_same c x (sym e ∙ ap (row_of rows) (pid_same q u.pid (sym (found number q.0 rows c e) ∙ eqb-true _ _ s)) ∙ w.row) in
                let far : is_parent m c ≡ false = ne_eqb _ _ (λ h. nq (sym h ∙ ap (λ (y : Row). y.parent.0) same ∙ ap (λ (i : Pid). i.0) (sym of.parent))) in
                ap (λ (b : Bool). option_map report_in (cond b (Some (moved_at u.pid new c)) None)) far ∙ sym (ap (λ (b : Bool). option_map report_in (cond b (Some c) None)) far)
            pick false s = ap (λ (y : Row). option_map report_in (option_filter (is_parent m) (Some y))) (still u.pid new c (eqb-false _ _ s))
