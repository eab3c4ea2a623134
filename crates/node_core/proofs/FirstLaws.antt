-- lists of starts, one after another
use Rattle.std.proofs.Common.{◌≡◌, ◌+◌, ◌<◌, ℕ, zero, suc, Bool, true, false, List, [], ◌∷◌, ◌++◌, map, drop, slice_get, sym, ap, ◌∙◌, refl, append_assoc, add-one, arith, length, Option, Some, None, subst, cond, get_or}
use Rattle.std.specs.Prelude.{filter, is_some}
use Rattle.std.specs.Option.{option_map, option_map_or, option_or}
use Rattle.std.proofs.lemmas.Bool.{eq-eqb}
use Rattle.std.proofs.lemmas.List.{map-append}
use Rattle.std.proofs.lemmas.Option.{slice_get-get_or}
use Rattle.list_laws.specs.Keyed.{at, Distinct}
use Rattle.list_laws.proofs.Finding.{at-map, at-append, distinct-map, distinct-filter}
use Rattle.list_laws.proofs.Middles.{absent-without}
use Rattle.kernel_laws.proofs.Starts.{start_number, valid_pids}
use Rattle.unix_calls.specs.declared.Start.{Start}
use Rattle.unix_calls.specs.declared.World.{World}
use Rattle.unix_calls.specs.Valid.{IsValid}
use Rattle.unix_names.specs.declared.Pid.{Pid}
use Rattle.group_record.specs.declared.Member.{Member}
use Rattle.group_record.specs.Members.{member_number, has_member}
use Rattle.node_core.specs.declared.led.Led.{Led}
use Rattle.node_core.specs.First.{led_number, led_by, all_led, led_starts, has_leader, first_member}

drop-at_suc : {X : Type 0} (xs : List X) (k : ℕ) (x : X) → slice_get xs k ≡ Some x → drop k xs ≡ x ∷ drop (suc k) xs
drop-at_suc [] k x e = cc
drop-at_suc (y ∷ ys) zero x e = let same : y ≡ x = cc in ap (λ z. z ∷ ys) same
drop-at_suc (y ∷ ys) (suc k) x e = drop-at_suc ys k x e

pub drop-at : {X : Type 0} (xs : List X) (k : ℕ) (x : X) → slice_get xs k ≡ Some x → drop k xs ≡ x ∷ drop (k + 1) xs
drop-at xs k x e = drop-at_suc xs k x e ∙ ap (λ j. x ∷ drop j xs) (sym (add-one k))

more-by : {X Y : Type 0} (g : X → Y) (p : X → Bool) (x : X) (rest : List X) (b : Bool) → p x ≡ b → b ≡ true → map g (filter p (x ∷ rest)) ≡ g x ∷ map g (filter p rest)
more-by g p x rest true e is = rw e refl
more-by g p x rest false e is = cc

same-by : {X Y : Type 0} (g : X → Y) (p : X → Bool) (x : X) (rest : List X) → p x ≡ false → map g (filter p (x ∷ rest)) ≡ map g (filter p rest)
same-by g p x rest e = rw e refl

-- what was made of the item at a place
pub made-at : {X Y : Type 0} (f : X → Y) (xs : List X) (k : ℕ) (x : X) (y : Y) → slice_get xs k ≡ Some x → Some y ≡ option_map f (slice_get xs k) → y ≡ f x
made-at f xs k x y at made = let e : Some y ≡ Some (f x) = made ∙ ap (option_map f) at in cc

none-within : {X : Type 0} (xs : List X) (k : ℕ) → k < length xs → slice_get xs k ≡ None → ⊥
none-within [] k lt e = omega arith
none-within (x ∷ xs) zero lt e = cc
none-within (x ∷ xs) (suc k) lt e = none-within xs k (omega arith) e

pub at-place : {X : Type 0} (p : X → Bool) (xs : List X) (k : ℕ) (b : Bool) → k < length xs → b ≡ option_map_or p (slice_get xs k) false → (x : X) × (slice_get xs k ≡ Some x) × (p x ≡ b)
at-place {X} p xs k b within is = by (slice_get xs k) refl is
  where
    by : (o : Option X) → slice_get xs k ≡ o → b ≡ option_map_or p o false → (x : X) × (slice_get xs k ≡ Some x) × (p x ≡ b)
    by None at is = absurd (none-within xs k within at)
    by (Some x) at is = (x, at, sym is)

-- the item at a place, of which this was made, joins if it passes
pub place-more : {X Y Z : Type 0} (f : X → Z) (wrap : Z → Y) (p : X → Bool) (xs : List X) (k : ℕ) (z : Z) (made : List Y) → (x : X) × (slice_get xs k ≡ Some x) × (p x ≡ true) → Some z ≡ option_map f (slice_get xs k) →
    (made ++ wrap z ∷ []) ++ map (λ x. wrap (f x)) (filter p (drop (k + 1) xs)) ≡ made ++ map (λ x. wrap (f x)) (filter p (drop k xs))
place-more f wrap p xs k z made (x, at, passes) is =
    append_assoc made (wrap z ∷ []) (map (λ x. wrap (f x)) (filter p (drop (k + 1) xs)))
    ∙ (ap (λ v. made ++ wrap v ∷ map (λ x. wrap (f x)) (filter p (drop (k + 1) xs))) (made-at f xs k x z at is)
    ∙ ap (λ zs. made ++ zs) (sym (ap (λ zs. map (λ x. wrap (f x)) (filter p zs)) (drop-at xs k x at) ∙ more-by (λ x. wrap (f x)) p x (drop (k + 1) xs) (p x) refl passes)))

-- and is left out if not
pub place-same : {X Y : Type 0} (g : X → Y) (p : X → Bool) (xs : List X) (k : ℕ) (made : List Y) → (x : X) × (slice_get xs k ≡ Some x) × (p x ≡ false) → made ++ map g (filter p (drop (k + 1) xs)) ≡ made ++ map g (filter p (drop k xs))
place-same g p xs k made (x, at, fails) = ap (λ zs. made ++ zs) (sym (ap (λ zs. map g (filter p zs)) (drop-at xs k x at) ∙ same-by g p x (drop (k + 1) xs) fails))

-- ---- each start has a pid of its own
append-none : {X : Type 0} (xs : List X) → xs ++ [] ≡ xs
append-none [] = refl
append-none (x ∷ xs) = ap (λ l. x ∷ l) (append-none xs)

starts-led : (earlier : List Led) (starts : List Start) → map (λ (led : Led). led.start) (all_led earlier starts) ≡ map (λ (led : Led). led.start) earlier ++ starts
starts-led earlier [] = sym (append-none (map (λ (led : Led). led.start) earlier))
starts-led earlier (start ∷ starts) =
    starts-led (earlier ++ led_by earlier start ∷ []) starts
    ∙ ap (λ l. l ++ starts) (map-append (λ (led : Led). led.start) earlier (led_by earlier start ∷ []))
    ∙ append_assoc (map (λ (led : Led). led.start) earlier) (start ∷ []) starts

none-before : {X Y : Type 0} (f : X → Y) (o : Option X) → option_map f o ≡ None → o ≡ None
none-before f None e = refl
none-before f (Some x) e = cc

distinct-before : (leds : List Led) → Distinct start_number (map (λ (led : Led). led.start) leds) → Distinct led_number leds
distinct-before [] d = tt
distinct-before (led ∷ leds) d = (
  none-before (λ (x : Led). x.start) (at led_number (led_number led) leds) (sym (at-map led_number start_number (λ (x : Led). x.start) (λ x. refl) (led_number led) leds) ∙ d.0),
  distinct-before leds d.1,
)

pub led-pids : (world : World) → IsValid world → Distinct led_number (led_starts world)
led-pids world valid = distinct-before (led_starts world) (subst (Distinct start_number) (sym (starts-led [] world.starts)) (valid_pids world valid).differ)

-- who joins a first group is not yet a member
first-absent : (leader : Pid) (all : List Led) (members : List Member) (led : Led) (rest : List Led) → Distinct led_number all →
    members ++ map first_member (filter (has_leader leader) (led ∷ rest)) ≡ map first_member (filter (has_leader leader) all) → has_leader leader led ≡ true → has_member members led.start.pid ≡ false
first-absent leader all members led rest d e leads = absent (at member_number led.start.pid.0 members) (sym (at-append member_number led.start.pid.0 members more) ∙ absent-without member_number members (first_member led) more apart)
  where
    more : List Member
    more = map first_member (filter (has_leader leader) rest)

    joins : (b : Bool) → b ≡ true → map first_member (cond b (led ∷ filter (has_leader leader) rest) (filter (has_leader leader) rest)) ≡ first_member led ∷ more
    joins true is = refl
    joins false is = cc

    apart : Distinct member_number (members ++ first_member led ∷ more)
    apart = subst (Distinct member_number) (sym e ∙ ap (λ l. members ++ l) (joins (has_leader leader led) leads)) (distinct-map led_number member_number first_member (λ x. refl) (filter (has_leader leader) all) (distinct-filter led_number (has_leader leader) all d))

    absent : (o : Option Member) → option_or o (at member_number led.start.pid.0 more) ≡ None → is_some o ≡ false
    absent None is = refl
    absent (Some m) is = cc

pub first-absent-at : (leader : Pid) (all : List Led) (members : List Member) (k : ℕ) (d : Led) → Distinct led_number all → k < length all →
    members ++ map first_member (filter (has_leader leader) (drop k all)) ≡ map first_member (filter (has_leader leader) all) → (get_or all k d).leader.0 ≡ leader.0 → has_member members (get_or all k d).start.pid ≡ false
first-absent-at leader all members k d apart within e leads =
    first-absent leader all members (get_or all k d) (drop (k + 1) all) apart (ap (λ l. members ++ map first_member (filter (has_leader leader) l)) (sym (drop-at all k (get_or all k d) (slice_get-get_or all k d within))) ∙ e) (eq-eqb _ _ leads)
