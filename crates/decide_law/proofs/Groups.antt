-- groups that may be empty
use Rattle.std.proofs.Common.{◌≡◌, ◌&&◌, ◌≤◌, Bool, true, false, List, [], ◌∷◌, length, refl, sym, ap, ◌∙◌, Option, None, Some}
use Rattle.std.specs.Prelude.{filter}
use Rattle.std.specs.Option.{option_map}
use Rattle.std.proofs.lemmas.List.Elements.{All-nil}
use Rattle.list_laws.proofs.Filters.{filter-none}
use Rattle.list_laws.proofs.Elements.{filter-same}
use Rattle.unix_names.specs.declared.Pid.{Pid}
use Rattle.group_record.specs.declared.Member.{Member}
use Rattle.group_record.specs.declared.Group.{Group}
use Rattle.group_record.specs.Members.{has_member, uid_of}
use Rattle.process_table.specs.declared.Row.{Row}
use Rattle.process_table.specs.Rows.{row_of, in_group, is_stopped}
use Rattle.process_table.specs.Orphans.{is_link}
use Rattle.kernel_model.specs.Sound.{IsSound}
use Rattle.decide_law.specs.Agrees.{uid_in, IsGroupOf, GroupAgrees}
use Rattle.decide_law.specs.Effects.{unless_empty_by, unless_empty, or_empty}
use Rattle.decide_law.proofs.Records.{number, distinct, pass_some}

-- nobody is in the group
abbrev pub NobodyIn : List Row → Pid → Type 0
NobodyIn rows id = (q : Pid) → uid_in rows id q ≡ None

pub nobody : (rows : List Row) (id q : Pid) (r : Row) → NobodyIn rows id → row_of rows q ≡ Some r → in_group id r ≡ false
nobody rows id q r n here = go (in_group id r) refl
  where
    go : (b : Bool) → in_group id r ≡ b → b ≡ false
    go true e = let h : Some r.uid ≡ None = sym (ap (option_map (λ (c : Row). c.uid)) (pass_some (in_group id) (row_of rows q) r here e)) ∙ n q in cc
    go false e = refl

none_count : (rows : List Row) (id : Pid) (t : Row → Bool) → IsSound rows → NobodyIn rows id → length (filter (λ c. in_group id c && t c) rows) ≡ 0
none_count rows id t k n = ap length (filter-same number (λ c. in_group id c && t c) (λ c. false) rows (distinct rows k.distinct) (λ c here. ap (λ b. b && t c) (nobody rows id c.pid c n here)) ∙ filter-none rows)

-- an empty record stands for a group that nobody is in
pub or_empty_is : (rows : List Row) (id session : Pid) (h : Option Group) → IsSound rows → GroupAgrees rows id h → IsGroupOf rows id (or_empty id session h)
or_empty_is rows id session None k n = record {
  id_is = refl;
  distinct = tt;
  members = λ q. sym (n q);
  session = λ q r here i. let no : in_group id r ≡ false = nobody rows id q r n here in cc;
  from = All-nil (λ m. m.from ≤ 0);
  links = sym (none_count rows id (is_link rows) k n);
  stopped = sym (none_count rows id (λ c. is_stopped c.life) k n);
}
or_empty_is rows id session (Some g) k a = a.1

-- and is absent
pub unless_empty_agrees : (rows : List Row) (id : Pid) (g : Group) → IsGroupOf rows id g → GroupAgrees rows id (unless_empty g)
unless_empty_agrees rows id g k = go g.members refl
  where
    go : (ms : List Member) → g.members ≡ ms → GroupAgrees rows id (unless_empty_by ms g)
    go [] e = λ q. sym (k.members q) ∙ ap (λ l. uid_of l q) e
    go (m ∷ ms) e = (λ n. let h : m ∷ ms ≡ [] = sym e ∙ n in cc, k)

-- a group with a member is there
pub unless_empty_some : (g : Group) (q : Pid) → has_member g.members q ≡ true → unless_empty g ≡ Some g
unless_empty_some g q h = go g.members h
  where
    go : (ms : List Member) → has_member ms q ≡ true → unless_empty_by ms g ≡ Some g
    go [] e = cc
    go (m ∷ ms) e = refl
