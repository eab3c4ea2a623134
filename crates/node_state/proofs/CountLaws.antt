-- the counts of a queue
use Rattle.std.proofs.Common.{◌≡◌, ◌+◌, ◌-◌, ◌==◌, ℕ, Bool, true, false, nat_lt, cond, List, [], ◌∷◌, ◌++◌, length, sym, ap, subst, ◌∙◌, refl, arith, append_assoc, Result, Ok, Err, OnOk, OnErr, Some, None, Option, ◌||◌}
use Rattle.std.specs.Prelude.{filter, unwrap_or}
use Rattle.std.proofs.lemmas.Bool.{eqb-true, eqb-false, lt-ltb}
use Rattle.unix_names.specs.declared.Pid.{Pid}
use Rattle.ordered_table.specs.declared.Entry.{Entry}
use Rattle.ordered_table.specs.Entries.{value_at, with_value}
use Rattle.ordered_table.proofs.MapLaws.{put-same, put-other}
use Rattle.node_state.specs.declared.ready.Waiting.{Waiting}
use Rattle.node_state.specs.declared.ready.Waiting.TheVariants as waiting
use Rattle.node_state.specs.Ready.{is_image_of, has_image}
use Rattle.node_state.specs.Counts.{images_of, count_at, counted, one_less, uncounted, IsCounted}

-- one, if it is so
abbrev one : Bool → ℕ
one true = 1
one false = 0

count-cons-by : (p : Pid) (w : Waiting) (ws : List Waiting) (b : Bool) → length (cond b (w ∷ filter (is_image_of p) ws) (filter (is_image_of p) ws)) ≡ one b + images_of p ws
count-cons-by p w ws true = omega arith
count-cons-by p w ws false = omega arith

pub count-cons : (p : Pid) (w : Waiting) (ws : List Waiting) → images_of p (w ∷ ws) ≡ one (is_image_of p w) + images_of p ws
count-cons p w ws = count-cons-by p w ws (is_image_of p w)

pub count-append : (p : Pid) (xs ys : List Waiting) → images_of p (xs ++ ys) ≡ images_of p xs + images_of p ys
count-append p [] ys = omega arith
count-append p (x ∷ xs) ys =
    let a = count-cons p x (xs ++ ys) in
    let b = count-cons p x xs in
    let c = count-append p xs ys in
    omega arith

-- in any place one counts alike
pub count-between : (p : Pid) (xs ys : List Waiting) (w : Waiting) → images_of p (xs ++ w ∷ ys) ≡ one (is_image_of p w) + images_of p (xs ++ ys)
count-between p xs ys w =
    let a = count-append p xs (w ∷ ys) in
    let b = count-cons p w ys in
    let c = count-append p xs ys in
    omega arith

any-counted-by : (b c : Bool) (n : ℕ) → c ≡ nat_lt 0 n → (b || c) ≡ nat_lt 0 (one b + n)
any-counted-by true c n e = sym (lt-ltb 0 (1 + n) (omega arith))
any-counted-by false c n e = e ∙ ap (λ k. nat_lt 0 k) (omega arith)

-- who is counted stands in the queue
pub any-counted : (p : Pid) (ws : List Waiting) → has_image p ws ≡ nat_lt 0 (images_of p ws)
any-counted p [] = refl
any-counted p (w ∷ ws) = any-counted-by (is_image_of p w) (has_image p ws) (images_of p ws) (any-counted p ws) ∙ ap (λ k. nat_lt 0 k) (sym (count-cons p w ws))

-- ---- one more
more-by : (cs : List (Entry ℕ)) (p q : Pid) (n : ℕ) (b : Bool) → (q.0 == p.0) ≡ b → count_at cs p ≡ n → count_at (with_value cs q (count_at cs q + 1)) p ≡ one b + n
more-by cs p q n true same was =
    let s : q ≡ p = ap (λ (k : ℕ). record { 0 = k }) (eqb-true q.0 p.0 same) in
    ap (λ x. count_at (with_value cs x (count_at cs x + 1)) p) s ∙ (ap (λ o. unwrap_or o 0) (put-same cs p (count_at cs p + 1)) ∙ (ap (λ k. k + 1) was ∙ omega arith))
more-by cs p q n false other was =
    ap (λ o. unwrap_or o 0) (put-other cs q p (count_at cs q + 1) (λ e. eqb-false q.0 p.0 other (sym e))) ∙ (was ∙ omega arith)

counted-by : (cs : List (Entry ℕ)) (w : Waiting) (p : Pid) (n : ℕ) → count_at cs p ≡ n → count_at (counted cs w) p ≡ one (is_image_of p w) + n
counted-by cs (waiting.Image image) p n was = more-by cs p image.pid n (image.pid.0 == p.0) refl was
counted-by cs (waiting.Courier c) p n was = was ∙ omega arith

pub IsCounted-more : (cs : List (Entry ℕ)) (ws : List Waiting) (w : Waiting) → IsCounted cs ws → IsCounted (counted cs w) (ws ++ w ∷ [])
IsCounted-more cs ws w is p =
    let a = counted-by cs w p (images_of p ws) (is p) in
    let b = count-append p ws (w ∷ []) in
    let c = count-cons p w [] in
    a ∙ omega arith

-- ---- one less
less-by : (cs : List (Entry ℕ)) (p q : Pid) (n : ℕ) (b : Bool) → (q.0 == p.0) ≡ b → count_at cs p ≡ one b + n → (o : Option ℕ) → value_at cs q ≡ o → count_at (one_less cs q o) p ≡ n
less-by cs p q n true same was None at =
    let s : q ≡ p = ap (λ (k : ℕ). record { 0 = k }) (eqb-true q.0 p.0 same) in
    let none : count_at cs p ≡ 0 = ap (λ x. count_at cs x) (sym s) ∙ ap (λ o. unwrap_or o 0) at in
    absurd (omega arith)
less-by cs p q n true same was (Some k) at =
    let s : q ≡ p = ap (λ (k : ℕ). record { 0 = k }) (eqb-true q.0 p.0 same) in
    let known : count_at cs p ≡ k = ap (λ x. count_at cs x) (sym s) ∙ ap (λ o. unwrap_or o 0) at in
    ap (λ x. count_at (with_value cs x (k - 1)) p) s ∙ (ap (λ o. unwrap_or o 0) (put-same cs p (k - 1)) ∙ omega arith)
less-by cs p q n false other was None at = was ∙ omega arith
less-by cs p q n false other was (Some k) at = ap (λ o. unwrap_or o 0) (put-other cs q p (k - 1) (λ e. eqb-false q.0 p.0 other (sym e))) ∙ (was ∙ omega arith)

uncounted-by : (cs : List (Entry ℕ)) (w : Waiting) (p : Pid) (n : ℕ) → count_at cs p ≡ one (is_image_of p w) + n → count_at (uncounted cs w) p ≡ n
uncounted-by cs (waiting.Image image) p n was = less-by cs p image.pid n (image.pid.0 == p.0) refl was (value_at cs image.pid) refl
uncounted-by cs (waiting.Courier c) p n was = was ∙ omega arith

-- one leaves from any place
pub IsCounted-less : (cs : List (Entry ℕ)) (xs ys : List Waiting) (w : Waiting) → IsCounted cs (xs ++ w ∷ ys) → IsCounted (uncounted cs w) (xs ++ ys)
IsCounted-less cs xs ys w is p = uncounted-by cs w p (images_of p (xs ++ ys)) (is p ∙ count-between p xs ys w)

-- who joined and found no memory counts as before
pub IsCounted-back : (cs : List (Entry ℕ)) (ws : List Waiting) (w : Waiting) → IsCounted cs ws → IsCounted (uncounted (counted cs w) w) ws
IsCounted-back cs ws w is p = uncounted-by (counted cs w) w p (images_of p ws) (counted-by cs w p (images_of p ws) (is p))

-- a table in which nobody is counted
pub IsCounted-nobody : IsCounted [] []
IsCounted-nobody p = refl

-- ---- in the terms of a queue in two parts
pub passed-counted : (passed others now queue : List Waiting) (cs cs' : List (Entry ℕ)) (w : Waiting) → queue ++ now ≡ passed ++ others → cs' ≡ cs → IsCounted cs (passed ++ others) → IsCounted cs' (queue ++ now)
passed-counted passed others now queue cs cs' w same counts is = subst (λ q. IsCounted cs' q) (sym same) (subst (λ k. IsCounted k (passed ++ others)) (sym counts) is)

pub lost-counted : (passed others now queue : List Waiting) (cs cs' : List (Entry ℕ)) (w : Waiting) → others ≡ w ∷ now → queue ≡ passed → cs' ≡ uncounted cs w → IsCounted cs (passed ++ others) → IsCounted cs' (queue ++ now)
lost-counted passed others now queue cs cs' w e same counts is =
    subst (λ q. IsCounted cs' (q ++ now)) (sym same) (subst (λ k. IsCounted k (passed ++ now)) (sym counts) (IsCounted-less cs passed now w (subst (λ q. IsCounted cs (passed ++ q)) e is)))

pub joined-counted : {A B : Type 0} (r : Result A B) (passed others queue : List Waiting) (cs mid cs' : List (Entry ℕ)) (w : Waiting) → mid ≡ counted cs w →
    OnOk r (queue ≡ others ++ w ∷ []) → OnErr r (queue ≡ others) → OnOk r (cs' ≡ mid) → OnErr r (cs' ≡ uncounted mid w) → IsCounted cs (passed ++ others) → IsCounted cs' (passed ++ queue)
joined-counted (Ok a) passed others queue cs mid cs' w more ok err counts lost is =
    subst (λ q. IsCounted cs' (passed ++ q)) (sym ok) (subst (λ q. IsCounted cs' q) (append_assoc passed others (w ∷ [])) (subst (λ k. IsCounted k ((passed ++ others) ++ w ∷ [])) (sym (counts ∙ more)) (IsCounted-more cs (passed ++ others) w is)))
joined-counted (Err b) passed others queue cs mid cs' w more ok err counts lost is =
    subst (λ q. IsCounted cs' (passed ++ q)) (sym err) (subst (λ k. IsCounted k (passed ++ others)) (sym (lost ∙ ap (λ k. uncounted k w) more)) (IsCounted-back cs (passed ++ others) w is))

pub left-counted : (queue now : List Waiting) (cs cs' : List (Entry ℕ)) (w : Waiting) → queue ≡ w ∷ now → cs' ≡ uncounted cs w → IsCounted cs queue → IsCounted cs' now
left-counted queue now cs cs' w e counts is = subst (λ k. IsCounted k now) (sym counts) (IsCounted-less cs [] now w (subst (λ q. IsCounted cs q) e is))
