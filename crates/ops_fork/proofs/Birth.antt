-- the birth clause is met by a fork that joins the child to its parent's group
use Rattle.std.proofs.Common.{◌≡◌, ◌≢◌, ◌⊎◌, inl, inr, ◌==◌, ◌++◌, ℕ, false, cond, List, [], ◌∷◌, refl, sym, ap, ◌∙◌, subst, arith, Option, None, Some}
use Rattle.std.specs.Prelude.{map, filter, is_some}
use Rattle.std.specs.Option.{option_map, option_or}
use Rattle.std.proofs.lemmas.Bool.{ne_eqb}
use Rattle.std.proofs.lemmas.List.Elements.{filter-append}
use Rattle.list_laws.specs.Keyed.{option_filter}
use Rattle.list_laws.proofs.Filters.{filter-none}
use Rattle.list_laws.proofs.Elements.{filter-same}
use Rattle.list_laws.proofs.Finding.{at-append, same_number}
use Rattle.unix_names.specs.declared.Pid.{Pid}
use Rattle.unix_calls.specs.declared.Call.TheVariants.{Fork}
use Rattle.unix_calls.specs.declared.Reply.TheVariants.{Number}
use Rattle.unix_calls.specs.declared.Entry.TheVariants.{Called}
use Rattle.signal_state.specs.Signals.{Signals}
use Rattle.vproc_record.specs.declared.Vproc.{Vproc}
use Rattle.group_record.specs.declared.Group.{Group}
use Rattle.group_record.specs.declared.Member.{Member}
use Rattle.group_record.specs.Members.{has_member, member_of}
use Rattle.group_record.specs.Groups.{joined}
use Rattle.group_record.proofs.LogLaws.{log_part-joined_own}
use Rattle.record_bag.specs.declared.bag.Bag.{Bag}
use Rattle.record_bag.specs.declared.vector.Site.{Site}
use Rattle.process_table.specs.declared.Row.{Row}
use Rattle.process_table.specs.Rows.{row_of, is_parent, in_group}
use Rattle.kernel_model.specs.Sound.{IsSound, IsAlive}
use Rattle.kernel_rules.specs.Fork.{newborn}
use Rattle.kernel_laws.specs.Effects.{IsUnused}
use Rattle.decide_law.specs.Agrees.{children_of, IsRecordOf, VprocAgrees, IsGroupOf}
use Rattle.decide_law.specs.Law.{Settled, BirthIs}
use Rattle.decide_law.specs.Effects.{only, written}
use Rattle.decide_law.proofs.Records.{number, distinct, row_pid}
use Rattle.decide_law.proofs.Shell.{own_record, group_is}
use Rattle.decide_law.proofs.Changes.{group_changed, only_at_same}
use Rattle.ops_fork.specs.Fork.{born_record, with_newborn, joins, fork_effect}

-- nobody is the child of a pid that is nobody's
pub not_child : (rows : List Row) (fresh : Pid) → IsSound rows → row_of rows fresh ≡ None → IsUnused rows fresh.0 → (c : Row) → row_of rows c.pid ≡ Some c → is_parent fresh c ≡ false
not_child rows fresh sound absent unused c here = ne_eqb c.parent.0 fresh.0 (λ same. by same ((sound.each c.pid c here).parent_lives))
  where
    by : c.parent.0 ≡ fresh.0 → (c.parent.0 ≡ 1) ⊎ IsAlive (row_of rows c.parent) → ⊥
    by same (inl one) = let least = unused.least in omega (arith, same, one, least)
    by same (inr alive) = subst IsAlive (ap (λ (k : ℕ). row_of rows (record { 0 = k })) same ∙ absent) alive

pub no_children : (rows : List Row) (r : Row) (fresh : Pid) → IsSound rows → row_of rows fresh ≡ None → IsUnused rows fresh.0 → r.pid.0 ≢ fresh.0 → children_of (rows ++ newborn r fresh.0 ∷ []) fresh ≡ []
no_children rows r fresh sound absent unused other =
    ap (map (λ (c : Row). c.pid)) (filter-append (is_parent fresh) rows (newborn r fresh.0 ∷ [])
    ∙ ap (λ l. l ++ filter (is_parent fresh) (newborn r fresh.0 ∷ [])) (filter-same number (is_parent fresh) (λ c. false) rows (distinct rows sound.distinct) (λ c here. not_child rows fresh sound absent unused c here) ∙ filter-none rows)
    ∙ ap (λ b. cond b (newborn r fresh.0 ∷ []) []) (ne_eqb r.pid.0 fresh.0 other))

pub fork_born : (rows : List Row) (p : Pid) (site : Site) (sig : Signals) (bag : Bag) (r : Row) (v : Vproc) (g : Group) → Settled rows p sig bag r v g → row_of rows site.fresh ≡ None → IsUnused rows site.fresh.0 →
    BirthIs (rows ++ newborn r site.fresh.0 ∷ []) p site (Some (Called p Fork (Number site.fresh.0))) (written (fork_effect sig p site v) bag) (Some (born_record v site))
fork_born rows p site sig bag r v g a absent unused = record {
  entry_is = refl;
  pid = refl;
  place = refl;
  agrees = subst (VprocAgrees (rows ++ newborn r site.fresh.0 ∷ []) (Some (born_record v site))) (sym found) is_record;
  group = joined g site.fresh v.uid;
  group_held = group_changed (only p (option_map (with_newborn site.fresh))) (only v.group (option_map (joins site.fresh v.uid))) bag v.group ∙ only_at_same v.group (option_map (joins site.fresh v.uid)) v.group _ refl ∙ ap (option_map (option_map (joins site.fresh v.uid))) a.group;
  stream_is = log_part-joined_own g site.fresh v.uid v.uid no_member;
}
  where
    of : IsRecordOf rows v r
    of = own_record rows p bag r v a.agrees a.row a.vproc

    k : IsGroupOf rows v.group g
    k = group_is rows bag v.group g a.agrees a.group

    other : r.pid.0 ≢ site.fresh.0
    other e =
        let there : row_of rows site.fresh ≡ Some r = ap (λ (i : ℕ). row_of rows (record { 0 = i })) (sym e ∙ ap (λ (q : Pid). q.0) (row_pid rows p r a.row)) ∙ a.row in
        let f : None ≡ Some r = sym absent ∙ there in cc

    found : row_of (rows ++ newborn r site.fresh.0 ∷ []) site.fresh ≡ Some (newborn r site.fresh.0)
    found = at-append number site.fresh.0 rows (newborn r site.fresh.0 ∷ []) ∙ ap (λ o. option_or o (cond (site.fresh.0 == site.fresh.0) (Some (newborn r site.fresh.0)) None)) absent ∙ ap (λ b. cond b (Some (newborn r site.fresh.0)) None) (same_number site.fresh.0)

    is_record : IsRecordOf (rows ++ newborn r site.fresh.0 ∷ []) (born_record v site) (newborn r site.fresh.0)
    is_record = record {
      pid = refl;
      parent = of.pid;
      group = of.group;
      session = of.session;
      uid = of.uid;
      life = refl;
      change = refl;
      execed = refl;
      ignchld = of.ignchld;
      children = sym (no_children rows r site.fresh a.sound absent unused other);
    }

    no_member : has_member g.members site.fresh ≡ false
    no_member = go (member_of g.members site.fresh) (k.members site.fresh ∙ ap (λ o. option_map (λ (c : Row). c.uid) (option_filter (in_group v.group) o)) absent)
      where
        go : (o : Option Member) → option_map (λ (m : Member). m.uid) o ≡ None → is_some o ≡ false
        go None e = refl
        go (Some m) e = cc
