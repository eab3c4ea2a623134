-- what generating, an action and a mask keep
use Rattle.std.proofs.Common.{◌≡◌, ◌==◌, ◌&&◌, inl, inr, not, ℕ, Bool, true, false, cond, refl, sym, ap, ◌∙◌}
use Rattle.std.proofs.lemmas.Bool.{cases_Bool, eq-eqb, and_parts, or_cases, or_parts, eqb-true}
use Rattle.unix_names.specs.declared.Signal.{Signal}
use Rattle.unix_names.specs.declared.Signal.TheVariants.{Kill, Cont, Stop, Tstp, Ttin, Ttou}
use Rattle.unix_names.specs.Signals.{number_of}
use Rattle.unix_names.specs.Sets.{has, added, removed}
use Rattle.unix_names.proofs.SetLaws.{has-added, has-removed}
use Rattle.signal_state.specs.Signals.{Signals, AreDisjoint, IsWithoutFixed, IsKept}
use Rattle.signal_state.specs.Sig.{generated, kept_pending, due_after, is_dropped, with_action, is_dropped_by_default}
use Rattle.unix_names.specs.declared.Act.{Act}
use Rattle.unix_names.specs.declared.Act.TheVariants.{Default, Ignore, Catch}

-- all that a has, b has
abbrev pub IsWithin : ℕ → ℕ → Type 0
IsWithin a b = (t : Signal) → has a t ≡ true → has b t ≡ true

pub within_removed : (n : ℕ) (s : Signal) → IsWithin (removed n s) n
within_removed n s t h = (and_parts _ _ (sym (has-removed n s t) ∙ h)).0

pub within_kept : (p : ℕ) (s : Signal) → IsWithin (kept_pending p s) p
within_kept p Cont t h = within_removed _ _ t (within_removed _ _ t (within_removed _ _ t (within_removed _ _ t h)))
within_kept p Stop t h = within_removed _ _ t h
within_kept p Tstp t h = within_removed _ _ t h
within_kept p Ttin t h = within_removed _ _ t h
within_kept p Ttou t h = within_removed _ _ t h
within_kept p _ t h = h

-- two signals of one number are in the same sets
has_same : (n : ℕ) (s t : Signal) → (number_of t == number_of s) ≡ true → has n t ≡ has n s
has_same n s t e = ap (λ k. Rattle.std.specs.Int.bit_at n k == 1) (eqb-true _ _ e)

disjoint_within : (a b c : ℕ) → IsWithin a b → AreDisjoint b c → AreDisjoint a c
disjoint_within a b c w d t h = d t (w t h)

disjoint_added : (a c : ℕ) (s : Signal) → AreDisjoint a c → has c s ≡ false → AreDisjoint (added a s) c
disjoint_added a c s d f t h =
    elim (or_cases _ _ (sym (has-added a s t) ∙ h)) [
      | inl there ↦ d t there
      | inr same ↦ has_same c s t same ∙ f
    ]

pending_kept : (p i : ℕ) (s : Signal) (drops : Bool) → AreDisjoint p i → (drops ≡ false → has i s ≡ false) → AreDisjoint (cond drops (kept_pending p s) (added (kept_pending p s) s)) i
pending_kept p i s true d f = disjoint_within _ _ _ (within_kept p s) d
pending_kept p i s false d f = disjoint_added _ _ s (disjoint_within _ _ _ (within_kept p s) d) (f refl)

due_kept : (x : Signals) (s : Signal) → (x.due ≡ true → x.stopped ≡ true) → due_after x s ≡ true → x.stopped ≡ true
due_kept x Cont h e = elim (or_cases _ _ e) [ inl d ↦ h d | inr st ↦ st ]
due_kept x _ h e = h e

pub kept-generated : (x : Signals) (s : Signal) → IsKept x → IsKept (generated x s)
unfolding generated
kept-generated x s k = record {
  not_ignored = pending_kept x.pending x.ignored s (is_dropped x s) k.not_ignored (λ f. (or_parts _ _ f).0);
  one_action = k.one_action;
  mask_allowed = k.mask_allowed;
  ignored_allowed = k.ignored_allowed;
  caught_allowed = k.caught_allowed;
  due_stopped = due_kept x s k.due_stopped;
}

-- the same, by the fields that change
pub kept_as : (x : Signals) (s : Signal) (p : ℕ) (d : Bool) → IsKept x → p ≡ (generated x s).pending → d ≡ (generated x s).due →
    IsKept (record { pending = p; mask = x.mask; ignored = x.ignored; caught = x.caught; stopped = x.stopped; due = d })
unfolding generated
kept_as x s p d k ep ed = rw (ep, ed) (kept-generated x s k)

and_true : (b : Bool) → (b && true) ≡ b
and_true true = refl
and_true false = refl

not_same : (s t : Signal) → (number_of t == number_of s) ≡ false → (n : ℕ) → has (removed n s) t ≡ has n t
not_same s t ne n = has-removed n s t ∙ rw ne (and_true (has n t))

and_false : (b : Bool) → (b && false) ≡ false
and_false true = refl
and_false false = refl

-- a set without s has no s
pub has_not : (n : ℕ) (s t : Signal) → (number_of t == number_of s) ≡ true → has (removed n s) t ≡ false
has_not n s t e = has-removed n s t ∙ rw e (and_false (has n t))

pub not_within : (a b : ℕ) (t : Signal) → IsWithin a b → has b t ≡ false → has a t ≡ false
not_within a b t w f = elim (cases_Bool (has a t)) [ inl h ↦ absurd (cc (w t h)) | inr h ↦ h ]

fixed_removed : (n : ℕ) (s : Signal) → IsWithoutFixed n → IsWithoutFixed (removed n s)
fixed_removed n s f = (not_within (removed n s) n Kill (within_removed n s) f.0, not_within (removed n s) n Stop (within_removed n s) f.1)

pub kept_mask : (x : Signals) (m n : ℕ) → IsKept x → n ≡ removed (removed m Kill) Stop →
    IsKept (record { pending = x.pending; mask = n; ignored = x.ignored; caught = x.caught; stopped = x.stopped; due = x.due })
kept_mask x m n k e = record {
  not_ignored = k.not_ignored;
  one_action = k.one_action;
  mask_allowed = rw e (not_within _ _ Kill (within_removed (removed m Kill) Stop) (has_not m Kill Kill refl), has_not (removed m Kill) Stop Stop refl);
  ignored_allowed = k.ignored_allowed;
  caught_allowed = k.caught_allowed;
  due_stopped = k.due_stopped;
}

fixed_added : (n : ℕ) (s : Signal) → (number_of Kill == number_of s) ≡ false → (number_of Stop == number_of s) ≡ false → IsWithoutFixed n → IsWithoutFixed (added n s)
fixed_added n s a b f = (has-added n s Kill ∙ rw (f.0, a), has-added n s Stop ∙ rw (f.1, b))

disjoint_right : (a b c : ℕ) → IsWithin b c → AreDisjoint a c → AreDisjoint a b
disjoint_right a b c w d t h = not_within b c t w (d t h)

pending_default : (p : ℕ) (s : Signal) (b : Bool) → IsWithin (cond b (removed p s) p) p
pending_default p s true = within_removed p s
pending_default p s false = λ t h. h

not_from : (b : Bool) → not b ≡ true → b ≡ false
not_from true e = cc
not_from false e = refl

disjoint_new : (a b : ℕ) (s : Signal) → AreDisjoint a b → AreDisjoint (removed a s) (added (removed b s) s)
disjoint_new a b s d t h =
    let parts = and_parts _ _ (sym (has-removed a s t) ∙ h) in
    has-added (removed b s) s t ∙ rw (not_within _ _ t (within_removed b s) (d t parts.0), not_from (number_of t == number_of s) parts.1)

pub kept-with_action : (x : Signals) (s : Signal) (act : Act) → (number_of Kill == number_of s) ≡ false → (number_of Stop == number_of s) ≡ false →
    IsKept x → IsKept (with_action x s act)
kept-with_action x s Default a b k = record {
  not_ignored = disjoint_within _ _ _ (pending_default x.pending s (is_dropped_by_default s)) (disjoint_right _ _ _ (within_removed _ _) k.not_ignored);
  one_action = disjoint_within _ _ _ (within_removed _ _) (disjoint_right _ _ _ (within_removed _ _) k.one_action);
  mask_allowed = k.mask_allowed;
  ignored_allowed = fixed_removed _ s k.ignored_allowed;
  caught_allowed = fixed_removed _ s k.caught_allowed;
  due_stopped = k.due_stopped;
}
kept-with_action x s Ignore a b k = record {
  not_ignored = disjoint_new _ _ s k.not_ignored;
  one_action = disjoint_added _ _ s (disjoint_within _ _ _ (within_removed _ _) (disjoint_right _ _ _ (within_removed _ _) k.one_action)) (has_not _ s s (eq-eqb _ _ refl));
  mask_allowed = k.mask_allowed;
  ignored_allowed = fixed_added _ s a b (fixed_removed _ s k.ignored_allowed);
  caught_allowed = fixed_removed _ s k.caught_allowed;
  due_stopped = k.due_stopped;
}
kept-with_action x s Catch a b k = record {
  not_ignored = disjoint_right _ _ _ (within_removed _ _) k.not_ignored;
  one_action = disjoint_new _ _ s k.one_action;
  mask_allowed = k.mask_allowed;
  ignored_allowed = fixed_removed _ s k.ignored_allowed;
  caught_allowed = fixed_added _ s a b (fixed_removed _ s k.caught_allowed);
  due_stopped = k.due_stopped;
}

pub kept_action : (x : Signals) (s : Signal) (act : Act) (p i c : ℕ) → IsKept x →
    ((number_of Kill == number_of s) ≡ false) × ((number_of Stop == number_of s) ≡ false) →
    p ≡ (with_action x s act).pending → i ≡ (with_action x s act).ignored → c ≡ (with_action x s act).caught →
    IsKept (record { pending = p; mask = x.mask; ignored = i; caught = c; stopped = x.stopped; due = x.due })
kept_action x s Default p i c k n ep ei ec = rw (ep, ei, ec) (kept-with_action x s Default n.0 n.1 k)
kept_action x s Ignore p i c k n ep ei ec = rw (ep, ei, ec) (kept-with_action x s Ignore n.0 n.1 k)
kept_action x s Catch p i c k n ep ei ec = rw (ep, ei, ec) (kept-with_action x s Catch n.0 n.1 k)

pub not_fixed : (s : Signal) → (s ≡ Kill → ⊥) → (s ≡ Stop → ⊥) → ((number_of Kill == number_of s) ≡ false) × ((number_of Stop == number_of s) ≡ false)
not_fixed Kill a b = absurd (a refl)
not_fixed Stop a b = absurd (b refl)
not_fixed _ a b = (refl, refl)

-- what taking a signal keeps
pub kept_delivered : (x : Signals) (s : Signal) (n : ℕ) → IsKept x → n ≡ removed x.pending s →
    IsKept (record { pending = n; mask = x.mask; ignored = x.ignored; caught = x.caught; stopped = x.stopped; due = x.due })
kept_delivered x s n k e = record {
  not_ignored = rw e (disjoint_within _ _ _ (within_removed x.pending s) k.not_ignored);
  one_action = k.one_action;
  mask_allowed = k.mask_allowed;
  ignored_allowed = k.ignored_allowed;
  caught_allowed = k.caught_allowed;
  due_stopped = k.due_stopped;
}

pub kept_stopped : (x : Signals) (s : Signal) (n : ℕ) → IsKept x → n ≡ removed x.pending s →
    IsKept (record { pending = n; mask = x.mask; ignored = x.ignored; caught = x.caught; stopped = true; due = x.due })
kept_stopped x s n k e = record {
  not_ignored = rw e (disjoint_within _ _ _ (within_removed x.pending s) k.not_ignored);
  one_action = k.one_action;
  mask_allowed = k.mask_allowed;
  ignored_allowed = k.ignored_allowed;
  caught_allowed = k.caught_allowed;
  due_stopped = λ _. refl;
}
