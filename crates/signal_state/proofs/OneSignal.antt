-- what generating one signal does
use Rattle.std.proofs.Common.{◌≡◌, ◌==◌, ◌&&◌, ◌||◌, not, ℕ, Bool, true, false, cond, refl, ◌∙◌}
use Rattle.unix_names.specs.declared.Signal.{Signal}
use Rattle.unix_names.specs.declared.Signal.TheVariants.{Kill, Cont, Stop, Tstp, Ttin, Ttou}
use Rattle.unix_names.specs.Signals.{number_of}
use Rattle.unix_names.specs.Sets.{has, added, removed}
use Rattle.unix_names.proofs.SetLaws.{has-added}
use Rattle.signal_state.specs.Sig.{generated, is_dropped}
use Rattle.signal_state.specs.Laws.{KillAlwaysPends, ContIsOneOrTheOther, ContMakesDue, MaskIsNotRead}
use Rattle.signal_state.proofs.Kept.{IsWithin, within_removed, not_within, has_not}

or_last : (a : Bool) → (a || true) ≡ true
or_last true = refl
or_last false = refl

and_last : (a : Bool) → (a && false) ≡ false
and_last true = refl
and_last false = refl

-- a signal that isn't dropped is pending
pends : (p : ℕ) (s : Signal) (drops : Bool) → drops ≡ false → (number_of s == number_of s) ≡ true → has (cond drops p (added p s)) s ≡ true
pends p s true e n = cc
pends p s false e n = has-added p s s ∙ rw n (or_last (has p s))

pub kill_pends : KillAlwaysPends
unfolding generated
kill_pends x k = (
  pends x.pending Kill (is_dropped x Kill) (rw k.ignored_allowed.0 (and_last (not (has x.caught Kill)))) refl,
  pends (removed x.pending Cont) Stop (is_dropped x Stop) (rw k.ignored_allowed.1 (and_last (not (has x.caught Stop)))) refl,
)

-- a signal that was taken out, and isn't the one that joins, isn't pending
gone : (p : ℕ) (s t : Signal) (drops : Bool) → has p t ≡ false → (number_of t == number_of s) ≡ false → has (cond drops p (added p s)) t ≡ false
gone p s t true h n = h
gone p s t false h n = has-added p s t ∙ rw (h, n)

pub cont_or_stop : ContIsOneOrTheOther
unfolding generated
cont_or_stop x =
    let a = removed x.pending Stop in
    let b = removed a Tstp in
    let c = removed b Ttin in
    let e = removed c Ttou in
    let within_b : IsWithin e b = λ t h. within_removed b Ttin t (within_removed c Ttou t h) in
    let within_a : IsWithin e a = λ t h. within_removed a Tstp t (within_b t h) in (
      gone e Cont Stop (is_dropped x Cont) (not_within e a Stop within_a (has_not x.pending Stop Stop refl)) refl,
      gone e Cont Tstp (is_dropped x Cont) (not_within e b Tstp within_b (has_not a Tstp Tstp refl)) refl,
      gone e Cont Ttin (is_dropped x Cont) (not_within e c Ttin (within_removed c Ttou) (has_not b Ttin Ttin refl)) refl,
      gone e Cont Ttou (is_dropped x Cont) (has_not c Ttou Ttou refl) refl,
      gone (removed x.pending Cont) Stop Cont (is_dropped x Stop) (has_not x.pending Cont Cont refl) refl,
    )

pub cont_due : ContMakesDue
unfolding generated
cont_due x e = rw e (or_last x.due)

pub mask_unread : MaskIsNotRead
unfolding generated
mask_unread x m Cont = refl
mask_unread x m _ = refl
