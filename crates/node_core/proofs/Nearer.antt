-- a courier that goes on keeps its invariant and is nearer to its end
use Rattle.std.proofs.Common.{◌≡◌, ◌⊎◌, inl, inr, ◌<◌, ◌≤◌, ◌+◌, ◌*◌, ◌==◌, ◌^◌, ℕ, zero, suc, Bool, true, false, List, ◌++◌, length, refl, sym, ◌∙◌, subst, arith, Option, None, Some, if◌then◌else◌}
use Rattle.unix_names.specs.declared.Name.{Name}
use Rattle.unix_names.specs.Names.{home, pid_of}
use Rattle.unix_calls.specs.declared.World.{World}
use Rattle.record_bag.specs.declared.Held.{Held}
use Rattle.record_bag.specs.declared.Bag.{Bag}
use Rattle.record_bag.specs.declared.Outcome.{Outcome}
use Rattle.record_bag.specs.declared.Outcome.TheVariants.{Done, Need, Away}
use Rattle.record_bag.specs.Bags.{is_held, with_held, held_names}
use Rattle.record_bag.specs.Decisions.{IsLawful, IsLawfulFor}
use Rattle.record_bag.proofs.HeldLaws.{is_held-put, is_held-more, any-held_put}
use Rattle.record_table.specs.declared.Slot.{Slot}
use Rattle.record_table.specs.declared.Slot.TheVariants.{Home, Out}
use Rattle.record_table.specs.declared.Line.{Line}
use Rattle.record_table.specs.Slots.{slot_at}
use Rattle.courier_core.specs.declared.Courier.{Courier}
use Rattle.courier_core.specs.Wants.{is_name, lists, all_added}
use Rattle.courier_core.specs.Couriers.{next_want, must_restart}
use Rattle.courier_core.proofs.Order.{is_name-true}
use Rattle.courier_core.proofs.Keeping.{lists-left, lists-either, all_added-old, all_added-new, all_added-from, name_cases, next-is, taking-keeps, nothing-below, fresh-wanted, left_of, left-most, left-fewer}
use Rattle.node_state.specs.declared.State.{State}
use Rattle.node_core.specs.declared.step.Step.{Step}
use Rattle.node_core.specs.declared.step.Step.TheVariants.{Again, Over}
use Rattle.node_core.specs.Advance.{Ask, Stepped, asked, empty_bag, wanted_at, wanted, restarted, needed_least, needed, stepped_by, stepped}
use Rattle.node_core.specs.Conditions.{IsKept}
use Rattle.node_core.proofs.Universe.{IsUniverse, all-listed}

-- how far a courier is from its end, among so many names
pub left_for : List Name → Courier → ℕ
left_for U c = left_of (lists c.wants) U * suc (length U) + left_of (is_held c.bag) U

-- what a courier wants and holds is among these names
pub record IsWithin (U : List Name) (c : Courier) : Type 0 where
  pub wants : (n : Name) → lists c.wants n ≡ true → lists U n ≡ true
  pub holds : (n : Name) → lists (held_names c.bag) n ≡ true → lists U n ≡ true

-- a courier that came from another on its way
pub record IsNearer (world : World) (U : List Name) (c c' : Courier) : Type 0 where
  pub kept : IsKept world c'
  pub within : IsWithin U c'
  pub near : left_for U c' < left_for U c

abbrev pub Nearer : World → List Name → Courier → Step → Type 0
Nearer world U c (Again c') = IsNearer world U c c'
Nearer world U c (Over e) = Unit {0}

times : (a b s : ℕ) → a < b → a * s + s ≤ b * s
times a zero s h = absurd (omega arith)
times zero (suc b) s h = omega arith
times (suc a) (suc b) s h = let r = times a b s (omega arith) in omega arith

take-less : (U : List Name) (c : Courier) (x : Name) (h : Held) → lists U x ≡ true → is_held c.bag x ≡ false → left_for U (record c { bag = with_held c.bag x h }) < left_for U c
unfolding left_for
take-less U c x h there lacks =
    let r = left-fewer (is_held c.bag) (is_held (with_held c.bag x h)) (λ n e. is_held-more c.bag n x h (name_cases n x) e) U x there lacks (is_held-put c.bag x h) in
    omega arith

restart-less : (U : List Name) (c c' : Courier) (x : Name) → ((n : Name) → lists c.wants n ≡ true → lists c'.wants n ≡ true) → lists U x ≡ true → lists c.wants x ≡ false → lists c'.wants x ≡ true → left_for U c' < left_for U c
unfolding left_for
restart-less U c c' x keep there lacks has =
    let r = times (left_of (lists c'.wants) U) (left_of (lists c.wants) U) (suc (length U)) (left-fewer (lists c.wants) (lists c'.wants) keep U x there lacks has) in
    let m = left-most (is_held c'.bag) U in
    omega arith

module _ (world : World) (U : List Name) (whole : IsUniverse U) (s : State) (c : Courier) (names : List Name) (told : (n : Name) → lists names n ≡ true → lists U n ≡ true) (kept : IsKept world c) (within : IsWithin U c) where
  in_U : (x : Name) → (lists c.wants x ≡ true) ⊎ (lists names x ≡ true) → lists U x ≡ true
  in_U x (inl a) = within.wants x a
  in_U x (inr b) = told x b

  taken : (x : Name) (h : Held) → next_want c names ≡ Some x → IsNearer world U c (record c { bag = with_held c.bag x h })
  taken x h next =
      let is = next-is c names x next in
      let there = in_U x (lists-either c.wants names x is.among) in
      record {
        kept = record { image = kept.image; below = taking-keeps c names x h kept.below next };
        within = record {
          wants = within.wants;
          holds = λ n e. elim (any-held_put (λ m. is_name m n) c.bag x h e) [ inl a ↦ within.holds n a | inr b ↦ subst (λ m. lists U m ≡ true) (is_name-true x n b) there ];
        };
        near = take-less U c x h there is.lacks;
      }

  wanted-at : (x : Name) (a : Slot Held (Line Courier)) → next_want c names ≡ Some x → Nearer world U c (wanted_at s c x a).step
  wanted-at x (Home h) next = taken x h next
  wanted-at x (Out line) next = tt

  wanted-near : (x : Name) (b : Bool) (other : Stepped) → Nearer world U c other.step → next_want c names ≡ Some x → Nearer world U c (if b then wanted_at s c x (slot_at s.slots x) else other).step
  wanted-near x true other over next = wanted-at x (slot_at s.slots x) next
  wanted-near x false other over next = over

  restarted-near : (x : Name) → next_want c names ≡ Some x → must_restart c x ≡ true → Nearer world U c (restarted s c names).step
  restarted-near x next again =
      let is = next-is c names x next in
      let fresh = fresh-wanted c x kept.below is.lacks again in
      let asked_for = by fresh (lists-either c.wants names x is.among) in
      record {
        kept = record { image = kept.image; below = nothing-below (record c { wants = all_added c.wants (names ++ held_names c.bag); bag = empty_bag }) refl };
        within = record { wants = λ n e. from n (all_added-from c.wants (names ++ held_names c.bag) n e); holds = λ n e. cc };
        near = restart-less U c (record c { wants = all_added c.wants (names ++ held_names c.bag); bag = empty_bag }) x (λ n e. all_added-old c.wants (names ++ held_names c.bag) n e) (told x asked_for) fresh
            (all_added-new c.wants (names ++ held_names c.bag) x (lists-left names (held_names c.bag) x asked_for));
      }
    where
      by : lists c.wants x ≡ false → (lists c.wants x ≡ true) ⊎ (lists names x ≡ true) → lists names x ≡ true
      by fresh (inl a) = let f : true ≡ false = sym a ∙ fresh in cc
      by fresh (inr b) = b

      from : (n : Name) → (lists c.wants n ≡ true) ⊎ (lists (names ++ held_names c.bag) n ≡ true) → lists U n ≡ true
      from n (inl a) = within.wants n a
      from n (inr b) = elim (lists-either names (held_names c.bag) n b) [ inl a ↦ told n a | inr h ↦ within.holds n h ]

  least-near : (x : Name) (b : Bool) → next_want c names ≡ Some x → must_restart c x ≡ b → Nearer world U c (if b then restarted s c names else wanted s c x).step
  least-near x true next again = restarted-near x next again
  least-near x false next again = wanted-near x (home x s.nodes == s.id) _ tt next

  needed-least : (o : Option Name) → next_want c names ≡ o → Nearer world U c (needed_least s c names o).step
  needed-least None next = tt
  needed-least (Some x) next = least-near x (must_restart c x) next refl

  pub needed-near : Nearer world U c (needed s c names).step
  needed-near = needed-least (next_want c names) refl

-- each answer that keeps the law of vectors brings a courier nearer to its end
by-answer : (world : World) (U : List Name) → IsUniverse U → (s : State) (c : Courier) (bag : Bag) (o : Outcome) → IsLawfulFor c.bag bag o → IsKept world c → IsWithin U c → Nearer world U c (stepped_by world s c o bag).step
by-answer world U whole s c bag (Done d) law kept within = tt
by-answer world U whole s c bag (Away k) law kept within = tt
by-answer world U whole s c bag (Need names) law kept within =
    subst (λ b. Nearer world U c (needed s (record c { bag = b }) names).step) (sym law.1)
    (needed-near world U whole s c names (λ n e. whole.all n (all-listed (λ m. pid_of m < 2 ^ 32) names n law.0.in_range e)) kept within)

pub nearer : (world : World) (ask : Ask) (U : List Name) → IsUniverse U → (s : State) (c : Courier) → IsLawful c.bag (asked ask s c) → IsKept world c → IsWithin U c → Nearer world U c (stepped world ask s c).step
nearer world ask U whole s c law kept within = by-answer world U whole s c (asked ask s c).bag (asked ask s c).outcome law kept within
