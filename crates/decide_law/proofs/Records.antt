-- facts of records that agree with a table
use Rattle.std.proofs.Common.{◌≡◌, ◌≢◌, ◌==◌, ℕ, Bool, true, false, cond, List, [], ◌∷◌, length, refl, sym, ap, ◌∙◌, subst, Option, None, Some}
use Rattle.std.specs.Prelude.{map, is_some}
use Rattle.std.specs.Option.{option_map}
use Rattle.std.proofs.lemmas.Bool.{ne_eqb, eq-eqb}
use Rattle.list_laws.specs.Keyed.{Distinct, option_filter}
use Rattle.list_laws.proofs.Finding.{found, distinct-map}
use Rattle.unix_names.specs.declared.Pid.{Pid}
use Rattle.vproc_record.specs.declared.Vproc.{Vproc}
use Rattle.group_record.specs.declared.Member.{Member}
use Rattle.group_record.specs.declared.Group.{Group}
use Rattle.group_record.specs.Members.{member_number, member_of, has_member, lowered, begun_at}
use Rattle.group_record.specs.Groups.{spare, settled, trimmed}
use Rattle.group_record.proofs.LogLaws.{within-trimmed, within-settled}
use Rattle.process_table.specs.declared.Row.{Row}
use Rattle.process_table.specs.Rows.{row_of, in_group, AreDistinct}
use Rattle.unix_names.specs.declared.Signal.TheVariants.{Chld}
use Rattle.unix_names.specs.Sets.{has}
use Rattle.signal_state.specs.Signals.{Signals}
use Rattle.decide_law.specs.Agrees.{children_of, IsRecordOf, VprocAgrees, IsGroupOf, GroupAgrees}
use Rattle.decide_law.specs.Effects.{only, emptied, settled_for}
use Rattle.group_record.proofs.MemberLaws.{uid_of-kept, begun_at-number, begun_at-uid}

-- ---- rows
abbrev pub number : Row → ℕ
number r = r.pid.0

-- rows of distinct pids
pub distinct : (rows : List Row) → AreDistinct rows → Distinct number rows
distinct [] d = tt
distinct (r ∷ rows) d = (d.0, distinct rows d.1)

-- ids of one number are one
pub pid_same : (p q : Pid) → p.0 ≡ q.0 → p ≡ q
pid_same p q e = ap (λ (n : ℕ). record { 0 = n }) e

-- a row that is found has the pid
pub row_pid : (rows : List Row) (q : Pid) (r : Row) → row_of rows q ≡ Some r → r.pid ≡ q
row_pid rows q r e = pid_same r.pid q (found number q.0 rows r e)

-- and is found at its own
pub row_own : (rows : List Row) (q : Pid) (r : Row) → row_of rows q ≡ Some r → row_of rows r.pid ≡ Some r
row_own rows q r e = subst (λ (x : Pid). row_of rows x ≡ Some r) (sym (row_pid rows q r e)) e

-- ---- changes under one id
pub only_same : {T : Type 0} (p : Pid) (f : T → T) (q : Pid) (x : T) → q.0 ≡ p.0 → only p f q x ≡ f x
only_same p f q x e = rw (eq-eqb q.0 p.0 e)

pub only_other : {T : Type 0} (p : Pid) (f : T → T) (q : Pid) (x : T) → q.0 ≢ p.0 → only p f q x ≡ x
only_other p f q x e = rw (ne_eqb q.0 p.0 e)

-- ---- members
-- a filtered option that holds
pub pass_some : {X : Type 0} (t : X → Bool) (o : Option X) (x : X) → o ≡ Some x → t x ≡ true → option_filter t o ≡ Some x
pass_some t o x e p = ap (option_filter t) e ∙ ap (λ (b : Bool). cond b (Some x) None) p

-- a member by the table is listed
pub member_has : (rows : List Row) (id : Pid) (g : Group) (q : Pid) (r : Row) → IsGroupOf rows id g → row_of rows q ≡ Some r → in_group id r ≡ true → has_member g.members q ≡ true
member_has rows id g q r k here i = go (member_of g.members q) (k.members q ∙ ap (option_map (λ (c : Row). c.uid)) (pass_some (in_group id) (row_of rows q) r here i))
  where
    go : (o : Option Member) → option_map (λ (m : Member). m.uid) o ≡ Some r.uid → is_some o ≡ true
    go None e = cc
    go (Some m) e = refl

pub not_empty : (f : Member → Member) (ms : List Member) → ms ≢ [] → map f ms ≢ []
not_empty f [] n = n
not_empty f (m ∷ ms) n = λ e. cc

-- ---- trimming and settling keep agreement
pub trimmed_group : (rows : List Row) (id : Pid) (g : Group) → IsGroupOf rows id g → IsGroupOf rows id (trimmed g)
trimmed_group rows id g k = record {
  id_is = k.id_is;
  distinct = distinct-map member_number member_number (lowered (spare g)) (λ _. refl) g.members k.distinct;
  members = λ q. uid_of-kept (lowered (spare g)) (λ _. refl) (λ _. refl) g.members q ∙ k.members q;
  session = k.session;
  from = within-trimmed g k.from;
  links = k.links;
  stopped = k.stopped;
}

pub settled_group : (rows : List Row) (id p : Pid) (g : Group) → IsGroupOf rows id g → IsGroupOf rows id (settled g p)
settled_group rows id p g k = record {
  id_is = k.id_is;
  distinct = distinct-map member_number member_number (begun_at (length g.log) p) (begun_at-number (length g.log) p) g.members k.distinct;
  members = λ q. uid_of-kept (begun_at (length g.log) p) (begun_at-number (length g.log) p) (begun_at-uid (length g.log) p) g.members q ∙ k.members q;
  session = k.session;
  from = within-settled g p k.from;
  links = k.links;
  stopped = k.stopped;
}

pub trimmed_agrees : (rows : List Row) (id : Pid) (h : Option Group) → GroupAgrees rows id h → GroupAgrees rows id (option_map trimmed h)
trimmed_agrees rows id None a = a
trimmed_agrees rows id (Some g) a = (not_empty (lowered (spare g)) g.members a.0, trimmed_group rows id g a.1)

pub settled_agrees : (rows : List Row) (id p : Pid) (h : Option Group) → GroupAgrees rows id h → GroupAgrees rows id (option_map (settled_for p) h)
settled_agrees rows id p None a = a
settled_agrees rows id p (Some g) a = (not_empty (begun_at (length g.log) p) g.members a.0, settled_group rows id p g a.1)

-- a record is still that of a row, where the row's signals change, and its children
pub still_record : (rows now : List Row) (y : Vproc) (x : Row) (sig : Signals) (ignores : Bool) (children : List Pid) → ignores ≡ has sig.ignored Chld → children ≡ children_of now x.pid → IsRecordOf rows y x → IsRecordOf now (record y { ignchld = ignores; children = children }) (record x { sig = sig })
still_record rows now y x sig ignores children ignored kids of = record {
  pid = of.pid;
  parent = of.parent;
  group = of.group;
  session = of.session;
  uid = of.uid;
  life = of.life;
  change = of.change;
  execed = of.execed;
  ignchld = ignored;
  children = kids;
}

pub emptied_agrees : (rows : List Row) (h : Option Vproc) (o : Option Row) → VprocAgrees rows h o → VprocAgrees rows (option_map emptied h) o
emptied_agrees rows None None a = a
emptied_agrees rows None (Some r) a = a
emptied_agrees rows (Some v) None a = a
emptied_agrees rows (Some v) (Some r) a = record {
  pid = a.pid;
  parent = a.parent;
  group = a.group;
  session = a.session;
  uid = a.uid;
  life = a.life;
  change = a.change;
  execed = a.execed;
  ignchld = a.ignchld;
  children = a.children;
}

-- a change under one id that keeps agreement
pub only_keeps : {T : Type 0} (P : Pid → T → Type 0) (p : Pid) (f : T → T) (q : Pid) (x : T) → P q x → P q (f x) → P q (only p f q x)
only_keeps P p f q x a b = go (q.0 == p.0)
  where
    go : (c : Bool) → P q (cond c (f x) x)
    go true = b
    go false = a
