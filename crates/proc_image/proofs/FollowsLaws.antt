-- Histories that follow their scripts, entry by entry.
use Rattle.std.proofs.Common.{◌≡◌, ℕ, zero, suc, List, [], ◌∷◌, ◌++◌, take, Option, None, Some, slice_get, subst, sym, ap}
use Rattle.std.proofs.lemmas.List.Sums.{fold-append}
use Rattle.unix_calls.specs.declared.Entry.{Entry}
use Rattle.unix_calls.specs.declared.World.{World}
use Rattle.proc_image.specs.Follows.{Running, after_entry, after_entries, IsInOrder, FollowsFrom}

-- one more entry in order
pub FollowsFrom-push : (world : World) (running : Running) (h : List Entry) (e : Entry) → FollowsFrom world running h → IsInOrder world (after_entries world running h) e → FollowsFrom world running (h ++ e ∷ [])
FollowsFrom-push world running [] e follows order = (order, tt)
FollowsFrom-push world running (x ∷ h) e follows order = (follows.0, FollowsFrom-push world (after_entry world running x) h e follows.1 order)

pub after_entries-push : (world : World) (running : Running) (h : List Entry) (e : Entry) → after_entries world running (h ++ e ∷ []) ≡ after_entry world (after_entries world running h) e
after_entries-push world running h e = fold-append (after_entry world) running h (e ∷ [])

-- each entry is in order where it stands
pub FollowsFrom-at : (world : World) (running : Running) (h : List Entry) (i : ℕ) (e : Entry) → slice_get h i ≡ Some e → FollowsFrom world running h → IsInOrder world (after_entries world running (take i h)) e
FollowsFrom-at world running [] i e there follows = absurd (cc there)
FollowsFrom-at world running (x ∷ h) zero e there follows =
    let same : x ≡ e = cc in
    subst (λ (y : Entry). IsInOrder world running y) same follows.0
FollowsFrom-at world running (x ∷ h) (suc i) e there follows = FollowsFrom-at world (after_entry world running x) h i e there follows.1
