-- names that are asked for, held and known
use Rattle.std.proofs.Common.{◌≡◌, inl, inr, ◌<◌, ℕ, Bool, true, false, cond, List, [], ◌∷◌, ◌++◌, ◌||◌, length, refl, sym, ap, ◌∙◌, subst, arith, Option, None, Some, All}
use Rattle.std.proofs.lemmas.Bool.{or_left, or_right}
use Rattle.std.proofs.lemmas.List.Elements.{All-weaker, All-head, All-tail}
use Rattle.std.specs.Prelude.{is_some, map, not}
use Rattle.ordered_table.specs.declared.Entry.{Entry as TableEntry}
use Rattle.ordered_table.specs.Entries.{pids_of, IsRising}
use Rattle.record_bag.specs.Bags.{named_vproc, named_group, is_held, held_at, held_names}
use Rattle.cluster_moves.proofs.Returns.{listed, listed_all}
use Rattle.unix_names.specs.declared.Pid.{Pid}
use Rattle.unix_names.specs.declared.Name.{Name}
use Rattle.unix_names.specs.declared.Name.TheVariants as name
use Rattle.unix_names.specs.Names.{pid_of}
use Rattle.unix_calls.specs.declared.Call.{Call}
use Rattle.unix_calls.specs.declared.Call.TheVariants.{Fork}
use Rattle.unix_calls.specs.declared.Call.TheVariants as calls
use Rattle.unix_calls.specs.declared.Job.{Job}
use Rattle.unix_calls.specs.declared.Job.TheVariants.{Ask as AskJob, Look, Push}
use Rattle.proc_image.specs.Scripts.{Progress}
use Rattle.vproc_record.specs.declared.Vproc.{Vproc}
use Rattle.group_record.specs.declared.Group.{Group}
use Rattle.record_bag.specs.declared.Held.TheVariants as held
use Rattle.record_bag.specs.declared.Bag.{Bag}
use Rattle.courier_core.specs.declared.courier.Courier.{Courier}
use Rattle.courier_core.specs.Wants.{is_name, lists, lacking, NoneBefore}
use Rattle.unix_names.specs.Names.{is_before}
use Rattle.std.specs.List.{list_any}
use Rattle.courier_core.specs.Couriers.{asked as wanted_or, next_want, must_restart}
use Rattle.courier_core.proofs.Order.{is_name-same, is_name-true, IsLeast-least_of, none-least}
use Rattle.courier_core.proofs.Keeping.{lists-left}
use Rattle.courier_core.proofs.Lists.{lists-lacking}
use Rattle.process_table.specs.declared.Row.{Row}
use Rattle.node_core.specs.Advance.{wanted}
use Rattle.cluster_contents.specs.Placement.{WaitsFor}
use Rattle.cluster_contents.specs.Numbers.{RowNames, RowsName, CallNames, JobNames}
use Rattle.decide_law.specs.Needs.{IsOfCall, IsOfJob, IsOfRow, IsNamed, OfJob, OfRow, AreTold, Itself as NamesItself}
use Rattle.cluster_contents.specs.Standing.{ProgressNames}
use Rattle.cluster_contents.proofs.Signals.{HeldCase, held_case}

pub named_more : (Given Given' : ℕ → Type 0) (rows : List Row) → ((n : ℕ) → Given n → Given' n) → RowsName Given rows → RowsName Given' rows
named_more Given Given' rows more t q r e = let x = t q r e in (more r.pid.0 x.0, more r.parent.0 x.1, more r.group.0 x.2, more r.session.0 x.3)

pub progress_more : (Given Given' : ℕ → Type 0) (at : Progress) → ((n : ℕ) → Given n → Given' n) → ProgressNames Given at → ProgressNames Given' at
progress_more Given Given' at more p = record { maker = more at.maker.0 p.maker; vars = all_more at.vars p.vars }
  where
    all_more : (xs : List ℕ) → All Given xs → All Given' xs
    all_more xs a = All-weaker Given Given' (λ x g. more x g) xs a

pub names_listed : (vs : List (TableEntry (Option Vproc))) (gs : List (TableEntry (Option Group))) (n : Name) → lists (map name.V (pids_of vs) ++ map name.G (pids_of gs)) n ≡ is_some (listed (map named_vproc vs ++ map named_group gs) n)
names_listed [] [] n = refl
names_listed [] (g ∷ gs) n = go (is_name (name.G g.pid) n) (names_listed [] gs n)
  where
    go : (b : Bool) → lists (map name.G (pids_of gs)) n ≡ is_some (listed (map named_group gs) n) → (b || lists (map name.G (pids_of gs)) n) ≡ is_some (cond b (Some (held.G g.value)) (listed (map named_group gs) n))
    go true e = refl
    go false e = e
names_listed (v ∷ vs) gs n = go (is_name (name.V v.pid) n) (names_listed vs gs n)
  where
    go : (b : Bool) → lists (map name.V (pids_of vs) ++ map name.G (pids_of gs)) n ≡ is_some (listed (map named_vproc vs ++ map named_group gs) n) →
        (b || lists (map name.V (pids_of vs) ++ map name.G (pids_of gs)) n) ≡ is_some (cond b (Some (held.V v.value)) (listed (map named_vproc vs ++ map named_group gs) n))
    go true e = refl
    go false e = e

-- a name that is listed as held is held
pub names_held : (bag : Bag) → IsRising bag.vprocs → IsRising bag.groups → (n : Name) → lists (held_names bag) n ≡ true → is_held bag n ≡ true
names_held bag vs gs n e = go (held_case bag n)
  where
    go : HeldCase bag n → is_held bag n ≡ true
    go (inl h) = h.2
    go (inr h) = let x : true ≡ false = sym e ∙ names_listed bag.vprocs bag.groups n ∙ ap is_some (listed_all bag vs gs n ∙ h.0) in cc

pub held_listed : (bag : Bag) → IsRising bag.vprocs → IsRising bag.groups → (n : Name) → is_held bag n ≡ true → lists (held_names bag) n ≡ true
held_listed bag vs gs n e = names_listed bag.vprocs bag.groups n ∙ ap is_some (listed_all bag vs gs n) ∙ go (held_case bag n)
  where
    go : HeldCase bag n → is_some (held_at bag n) ≡ true
    go (inl h) = ap is_some h.1
    go (inr h) = let x : true ≡ false = sym e ∙ h.1 in cc

pub any_false : (f : Name → Bool) (xs : List Name) (n : Name) → list_any f xs ≡ false → lists xs n ≡ true → f n ≡ false
any_false f [] n none e = cc
any_false f (x ∷ xs) n none e = go (f x) refl (is_name x n) refl none e (any_false f xs n)
  where
    go : (a : Bool) → f x ≡ a → (b : Bool) → is_name x n ≡ b → (a || list_any f xs) ≡ false → (b || lists xs n) ≡ true → (list_any f xs ≡ false → lists xs n ≡ true → f n ≡ false) → f n ≡ false
    go true fx b same none e rest = cc
    go false fx true same none e rest = ap f (sym (is_name-true x n same)) ∙ fx
    go false fx false same none e rest = rest none e

pub none_before : (x : Name) (xs : List Name) (n : Name) → NoneBefore x xs → lists xs n ≡ true → is_before n x ≡ false
none_before x [] n none e = cc
none_before x (y ∷ ys) n none e = go (is_name y n) refl e (none_before x ys n none.1)
  where
    go : (b : Bool) → is_name y n ≡ b → (b || lists ys n) ≡ true → (lists ys n ≡ true → is_before n x ≡ false) → is_before n x ≡ false
    go true same e rest = ap (λ i. is_before i x) (sym (is_name-true y n same)) ∙ none.0
    go false same e rest = rest e

-- a listed name that a test passes
pub any_listed : (f : Name → Bool) (xs : List Name) → list_any f xs ≡ true → (n : Name) × (lists xs n ≡ true) × (f n ≡ true)
any_listed f [] e = cc
any_listed f (x ∷ xs) e = go (f x) refl e (any_listed f xs)
  where
    go : (b : Bool) → f x ≡ b → (b || list_any f xs) ≡ true → (list_any f xs ≡ true → (n : Name) × (lists xs n ≡ true) × (f n ≡ true)) → (n : Name) × (lists (x ∷ xs) n ≡ true) × (f n ≡ true)
    go true is e rest = (x, or_left (is_name x x) (lists xs x) (is_name-same x), is)
    go false is e rest = let r = rest e in (r.0, or_right (is_name x r.0) (lists xs r.0) r.1, r.2)

pub listed_lacking : (bag : Bag) (xs : List Name) (n : Name) → lists xs n ≡ true → is_held bag n ≡ false → lists (lacking bag xs) n ≡ true
listed_lacking bag [] n e none = cc
listed_lacking bag (x ∷ xs) n e none = go (is_name x n) refl (is_held bag x) refl e (λ t. listed_lacking bag xs n t none)
  where
    go : (b : Bool) → is_name x n ≡ b → (h : Bool) → is_held bag x ≡ h → (b || lists xs n) ≡ true → (lists xs n ≡ true → lists (lacking bag xs) n ≡ true) → lists (cond (not h) (x ∷ lacking bag xs) (lacking bag xs)) n ≡ true
    go true same true has e rest = let f : true ≡ false = sym has ∙ ap (is_held bag) (is_name-true x n same) ∙ none in cc
    go true same false has e rest = or_left (is_name x n) (lists (lacking bag xs) n) same
    go false same true has e rest = rest e
    go false same false has e rest = or_right (is_name x n) (lists (lacking bag xs) n) (rest e)

-- the next want of a courier that need not begin anew is what it may wait for
pub waits_for : (c : Courier) (names : List Name) → IsRising c.bag.vprocs → IsRising c.bag.groups → (x : Name) → next_want c names ≡ Some x → must_restart c x ≡ false → WaitsFor x c
waits_for c names vs gs x e free = record {
  lacks = (lists-lacking c.bag (wanted_or c names) x (IsLeast-least_of x (lacking c.bag (wanted_or c names)) e).among).1;
  highest = λ m has. any_false (λ n. is_before x n) (held_names c.bag) m free (held_listed c.bag vs gs m has);
  least = λ w wanted less. by w wanted less (held_case c.bag w);
}
  where
    by : (w : Name) → lists c.wants w ≡ true → is_before w x ≡ true → HeldCase c.bag w → is_held c.bag w ≡ true
    by w wanted less (inl h) = h.2
    by w wanted less (inr h) =
        let least = IsLeast-least_of x (lacking c.bag (wanted_or c names)) e in
        let f : true ≡ false = sym less ∙ none_before x (lacking c.bag (wanted_or c names)) w least.first (listed_lacking c.bag (c.wants ++ names) w (lists-left c.wants names w wanted) h.1) in
        cc

pub of_call : (Given : ℕ → Type 0) (call : Call) (n : ℕ) → CallNames Given call → IsOfCall call n → Given n
of_call Given (calls.Getpgid t) n g is = subst Given (sym is) g
of_call Given (calls.Getsid t) n g is = subst Given (sym is) g
of_call Given (calls.Waitpid sel stopped continued) n g is = subst Given (sym is) g
of_call Given (calls.Kill target sig) n g is = subst Given (sym is) g
of_call Given (calls.Setpgid t q) n g (inl is) = subst Given (sym is) g.0
of_call Given (calls.Setpgid t q) n g (inr is) = subst Given (sym is) g.1
of_call Given calls.Getpid n g is = absurd is
of_call Given calls.Getppid n g is = absurd is
of_call Given calls.Fork n g is = absurd is
of_call Given calls.Exec n g is = absurd is
of_call Given (calls.Exit status) n g is = absurd is
of_call Given calls.Setsid n g is = absurd is
of_call Given (calls.Action sig act) n g is = absurd is
of_call Given (calls.Mask set) n g is = absurd is
of_call Given calls.Pending n g is = absurd is
of_call Given calls.Migrate n g is = absurd is

pub of_row : (Given : ℕ → Type 0) (r : Row) (n : ℕ) → RowNames Given r → IsOfRow r n → Given n
of_row Given r n g (inl e) = subst Given (sym e) g.0
of_row Given r n g (inr (inl e)) = subst Given (sym e) g.1
of_row Given r n g (inr (inr (inl e))) = subst Given (sym e) g.2
of_row Given r n g (inr (inr (inr e))) = subst Given (sym e) g.3

pub of_job : (Given : ℕ → Type 0) (job : Job) (n : ℕ) → JobNames Given job → IsOfJob job n → Given n
of_job Given (AskJob call at) n g is = of_call Given call n g is
of_job Given Look n g is = absurd is
of_job Given (Push node) n g is = absurd is

pub named_known : (Given : ℕ → Type 0) (rows : List Row) (p : Pid) (job : Job) → Given p.0 → JobNames Given job → RowsName Given rows → (n : ℕ) → IsNamed rows p job n → Given n
named_known Given rows p job mine of table n (NamesItself e) = subst Given (sym e) mine
named_known Given rows p job mine of table n (OfJob e) = of_job Given job n of e
named_known Given rows p job mine of table n (OfRow q r there e) = of_row Given r n (table q r there) e

-- each name that is asked for is told
pub told_at : (rows : List Row) (p : Pid) (job : Job) (names : List Name) → AreTold rows p job names → (n : Name) → lists names n ≡ true → IsNamed rows p job (pid_of n)
told_at rows p job [] is n e = cc
told_at rows p job (x ∷ xs) is n e = go (is_name x n) refl e (told_at rows p job xs (All-tail (λ m. IsNamed rows p job (pid_of m)) x xs is) n)
  where
    go : (b : Bool) → is_name x n ≡ b → (b || lists xs n) ≡ true → (lists xs n ≡ true → IsNamed rows p job (pid_of n)) → IsNamed rows p job (pid_of n)
    go true same e rest = subst (λ (m : Name). IsNamed rows p job (pid_of m)) (is_name-true x n same) (All-head (λ m. IsNamed rows p job (pid_of m)) x xs is)
    go false same e rest = rest e

-- a need that names something that is lacking has a least name
pub never_none : (c : Courier) (names : List Name) → 0 < length names → All (λ n. is_held c.bag n ≡ false) names → next_want c names ≡ None → ⊥
never_none c [] some lack e = absurd (omega arith)
never_none c (n ∷ ns) some lack e =
    none-least (lacking c.bag (c.wants ++ n ∷ ns)) (not_empty (lacking c.bag (c.wants ++ n ∷ ns))
    (listed_lacking c.bag (c.wants ++ n ∷ ns) n (lists-right_end c.wants n ns) (All-head (λ n. is_held c.bag n ≡ false) n ns lack))) e
  where
    not_empty : (xs : List Name) → lists xs n ≡ true → 0 < length xs
    not_empty [] e = cc
    not_empty (x ∷ xs) e = omega arith

    lists-right_end : (xs : List Name) (n : Name) (ns : List Name) → lists (xs ++ n ∷ ns) n ≡ true
    lists-right_end [] n ns = or_left (is_name n n) (lists ns n) (is_name-same n)
    lists-right_end (x ∷ xs) n ns = or_right (is_name x n) (lists (xs ++ n ∷ ns) n) (lists-right_end xs n ns)
