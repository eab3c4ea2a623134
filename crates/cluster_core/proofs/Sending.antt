-- messages that arrive at their places, one after another
use Rattle.std.proofs.Common.{◌≡◌, ◌≢◌, ◌==◌, ◌<◌, ℕ, Bool, true, false, cond, List, [], ◌∷◌, ◌++◌, length, refl, sym, ap, ◌∙◌, subst, Option, None, Some, append-nil, append_assoc}
use Rattle.std.specs.Prelude.{slice_get, slice_set, slice_index_or}
use Rattle.std.specs.Option.{option_map}
use borrow.Author.Tests.{eqb-true, eqb-false}
use Rattle.std.proofs.lemmas.List.{get_or-set_same, length-set, set-get_or, set-set}
use Rattle.std.proofs.lemmas.List.Elements.{filter-append}
use Rattle.std.proofs.lemmas.Option.{slice_get_within}
use Rattle.list_laws.proofs.Filters.{mapped_some}
use Rattle.node_state.specs.declared.Sent.{Sent}
use Rattle.cluster_state.specs.Cluster.{sends_to}
use Rattle.cluster_core.specs.declared.cluster.Place.{Place}
use Rattle.cluster_core.specs.MethodShows.{with_sends, AreDelivered}
use Rattle.cluster_core.proofs.Placing.{get_set_same, get_set_other}

module _ {O : Type 0} (from : ℕ) where
  -- there is a wire from the node to each place
  abbrev pub HasWire : List (Place O) → Type 0
  HasWire places = (k : ℕ) (place : Place O) → slice_get places k ≡ Some place → from < length place.arrivals

  none_arrive : (l : ℕ) (sends : List Sent) (place : Place O) → sends_to l sends ≡ [] → with_sends from sends l place ≡ place
  none_arrive l sends place e = ap (λ (w : List (List Sent)). record place { arrivals = w })
      (ap (λ (xs : List Sent). slice_set place.arrivals from xs) (ap (λ (xs : List Sent). slice_index_or place.arrivals from [] ++ xs) e ∙ append-nil (slice_index_or place.arrivals from []))
      ∙ set-get_or place.arrivals from [])

  more_arrive : (l : ℕ) (xs ys : List Sent) (place : Place O) → from < length place.arrivals → with_sends from ys l (with_sends from xs l place) ≡ with_sends from (xs ++ ys) l place
  more_arrive l xs ys place lt =
      let w = place.arrivals in
      let front = slice_index_or w from [] ++ sends_to l xs in
      ap (λ (z : List (List Sent)). record place { arrivals = z })
      (set-set w from front (slice_index_or (slice_set w from front) from [] ++ sends_to l ys)
      ∙ ap (λ (z : List Sent). slice_set w from z)
      (ap (λ (z : List Sent). z ++ sends_to l ys) (get_or-set_same w from front [] lt)
      ∙ append_assoc (slice_index_or w from []) (sends_to l xs) (sends_to l ys)
      ∙ ap (λ (z : List Sent). slice_index_or w from [] ++ z) (sym (filter-append (λ m. m.to == l) xs ys))))

  -- nothing was sent
  pub nothing_delivered : (places : List (Place O)) → AreDelivered from [] places places
  nothing_delivered places l = go (slice_get places l)
    where
      go : (o : Option (Place O)) → o ≡ option_map (with_sends from [] l) o
      go None = refl
      go (Some place) = ap Some (sym (none_arrive l [] place refl))

  pub both_delivered : (a b c : List (Place O)) (xs ys : List Sent) → HasWire a → AreDelivered from xs a b → AreDelivered from ys b c → AreDelivered from (xs ++ ys) a c
  both_delivered a b c xs ys has first next l = next l ∙ ap (option_map (with_sends from ys l)) (first l) ∙ go (slice_get a l) refl
    where
      go : (o : Option (Place O)) → slice_get a l ≡ o → option_map (with_sends from ys l) (option_map (with_sends from xs l) o) ≡ option_map (with_sends from (xs ++ ys) l) o
      go None e = refl
      go (Some place) e = ap Some (more_arrive l xs ys place (has l place e))

  -- the wires stay
  pub wires_stay : (a b : List (Place O)) (xs : List Sent) → HasWire a → AreDelivered from xs a b → HasWire b
  wires_stay a b xs has sent k place e = let it = mapped_some (with_sends from xs k) (slice_get a k) place (sym (sent k) ∙ e) in go it.0 it.1 (sym it.2)
    where
      go : (q : Place O) → slice_get a k ≡ Some q → with_sends from xs k q ≡ place → from < length place.arrivals
      go q here same =
          let z : length (slice_set q.arrivals from (slice_index_or q.arrivals from [] ++ sends_to k xs)) ≡ length q.arrivals = length-set q.arrivals from (slice_index_or q.arrivals from [] ++ sends_to k xs) in
          let y : from < length q.arrivals = has k q here in
          let w : from < length (slice_set q.arrivals from (slice_index_or q.arrivals from [] ++ sends_to k xs)) = subst (λ (n : ℕ). from < n) (sym z) y in
          subst (λ (p : Place O). from < length p.arrivals) same w

  -- one message at the place where it goes
  pub one_delivered : (places : List (Place O)) (m : Sent) (place : Place O) (wires : List (List Sent)) → slice_get places m.to ≡ Some place →
      wires ≡ slice_set place.arrivals from (slice_index_or place.arrivals from [] ++ m ∷ []) → AreDelivered from (m ∷ []) places (slice_set places m.to (record place { arrivals = wires }))
  one_delivered places m place wires here is l = go (l == m.to) refl
    where
      within : m.to < length places
      within = slice_get_within places m.to place here

      go : (b : Bool) → (l == m.to) ≡ b → slice_get (slice_set places m.to (record place { arrivals = wires })) l ≡ option_map (with_sends from (m ∷ []) l) (slice_get places l)
      go true t =
          let same : l ≡ m.to = eqb-true l m.to t in
          ap (slice_get (slice_set places m.to (record place { arrivals = wires }))) same
          ∙ get_set_same places m.to (record place { arrivals = wires }) within
          ∙ ap (λ (z : List (List Sent)). Some (record place { arrivals = z })) (is ∙ ap (λ (b : Bool). slice_set place.arrivals from (slice_index_or place.arrivals from [] ++ cond b (m ∷ []) [])) (sym to_own))
          ∙ ap (λ (n : ℕ). option_map (with_sends from (m ∷ []) n) (Some place)) (sym same)
          ∙ ap (option_map (with_sends from (m ∷ []) l)) (sym here ∙ ap (slice_get places) (sym same))
        where
          to_own : (m.to == m.to) ≡ true
          to_own = let same : l ≡ m.to = eqb-true l m.to t in ap (λ (n : ℕ). n == m.to) (sym same) ∙ t
      go false t =
          let other : l ≢ m.to = eqb-false l m.to t in
          get_set_other places m.to l (record place { arrivals = wires }) other ∙ stays (slice_get places l)
        where
          flipped : (m.to == l) ≡ false
          flipped = ne_flip (λ e. eqb-false l m.to t (sym e))
            where
              ne_flip : m.to ≢ l → (m.to == l) ≡ false
              ne_flip ne = go2 (m.to == l) refl
                where
                  go2 : (b : Bool) → (m.to == l) ≡ b → b ≡ false
                  go2 true e = absurd (ne (eqb-true m.to l e))
                  go2 false e = refl

          stays : (o : Option (Place O)) → o ≡ option_map (with_sends from (m ∷ []) l) o
          stays None = refl
          stays (Some p) = ap Some (sym (none_arrive l (m ∷ []) p (ap (λ (b : Bool). cond b (m ∷ []) []) flipped)))

  -- a message to no place is gone, and there is none such
  pub none_there : (places : List (Place O)) (m : Sent) → slice_get places m.to ≡ None → AreDelivered from (m ∷ []) places places
  none_there places m none l = go (slice_get places l) refl
    where
      go : (o : Option (Place O)) → slice_get places l ≡ o → o ≡ option_map (with_sends from (m ∷ []) l) o
      go None e = refl
      go (Some p) e = ap Some (sym (none_arrive l (m ∷ []) p (ap (λ (b : Bool). cond b (m ∷ []) []) (not_here (m.to == l) refl))))
        where
          not_here : (b : Bool) → (m.to == l) ≡ b → b ≡ false
          not_here true t = let z : None ≡ Some p = sym none ∙ ap (slice_get places) (eqb-true m.to l t) ∙ e in cc
          not_here false t = refl
