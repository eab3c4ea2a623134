-- entries that rise as a map from ids to values
use Rattle.std.proofs.Common.{is_some, Result, Ok, Err, OnOk, OnErr, slice_get, ◌≡◌, ◌≢◌, ◌==◌, ◌<◌, ◌≤◌, ℕ, zero, suc, Bool, true, false, nat_lt, List, [], ◌∷◌, set, sym, ap, ◌∙◌, subst, refl, arith, Some, None, if◌then◌else◌}
use Rattle.std.specs.Option.{option_map}
use Rattle.std.proofs.lemmas.Bool.{eq-eqb, ne_eqb, ltb-true, ltb-false, eqb-true, eqb-false, le-ltb}
use Rattle.unix_names.specs.declared.Pid.{Pid}
use Rattle.ordered_table.specs.declared.entries.Entry.{Entry}
use Rattle.ordered_table.specs.Entries.{value_at, has_value, pids_of, with_value, without, with_each, AllAbove, IsRising, SameElsewhere}

-- a value with its id
abbrev entry : {T : Type 0} → Pid → T → Entry T
entry p v = record { pid = p; value = v }

put-same-by : {T : Type 0} (e : Entry T) (es : List (Entry T)) (p : Pid) (v : T) (b c : Bool) → nat_lt e.pid.0 p.0 ≡ b → value_at (with_value es p v) p ≡ Some v →
    value_at (if b then e ∷ with_value es p v else (if c then entry p v ∷ es else entry p v ∷ e ∷ es)) p ≡ Some v
put-same-by e es p v true c less rest = rw less rest
put-same-by e es p v false true less rest = rw (le-ltb p.0 p.0 (omega arith), eq-eqb p.0 p.0 refl) refl
put-same-by e es p v false false less rest = rw (le-ltb p.0 p.0 (omega arith), eq-eqb p.0 p.0 refl) refl

-- what was put is found
pub put-same : {T : Type 0} (es : List (Entry T)) (p : Pid) (v : T) → value_at (with_value es p v) p ≡ Some v
put-same [] p v = rw (le-ltb p.0 p.0 (omega arith), eq-eqb p.0 p.0 refl) refl
put-same (e ∷ es) p v = put-same-by e es p v (nat_lt e.pid.0 p.0) (e.pid.0 == p.0) refl (put-same es p v)

-- nothing is found below the first id
pub none-below : {T : Type 0} (es : List (Entry T)) (q : Pid) (p : Pid) → AllAbove p es → q.0 ≤ p.0 → value_at es q ≡ None
none-below [] q p a le = refl
none-below (e ∷ es) q p a le =
    let above = a.0 in rw (le-ltb e.pid.0 q.0 (omega arith), ne_eqb e.pid.0 q.0 (λ s. omega arith)) refl

put-other-by : {T : Type 0} (e : Entry T) (es : List (Entry T)) (p q : Pid) (v : T) (b c : Bool) → nat_lt e.pid.0 p.0 ≡ b → (e.pid.0 == p.0) ≡ c → q.0 ≢ p.0 → value_at (with_value es p v) q ≡ value_at es q →
    value_at (if b then e ∷ with_value es p v else (if c then entry p v ∷ es else entry p v ∷ e ∷ es)) q ≡ value_at (e ∷ es) q
put-other-by e es p q v true c less same ne rest = rw rest refl
put-other-by e es p q v false true less same ne rest =
    let s : e.pid.0 ≡ p.0 = eqb-true e.pid.0 p.0 same in
    rw (s, ne_eqb p.0 q.0 (λ h. ne (sym h))) refl
put-other-by e es p q v false false less same ne rest = put-other-before e es p q v (nat_lt p.0 q.0) refl (ltb-false e.pid.0 p.0 less) (eqb-false e.pid.0 p.0 same) ne
  where
    put-other-before : {T : Type 0} (e : Entry T) (es : List (Entry T)) (p q : Pid) (v : T) (d : Bool) → nat_lt p.0 q.0 ≡ d → p.0 ≤ e.pid.0 → e.pid.0 ≢ p.0 → q.0 ≢ p.0 →
        (if d then value_at (e ∷ es) q else (if p.0 == q.0 then Some v else None)) ≡ value_at (e ∷ es) q
    put-other-before e es p q v true before le other ne = refl
    put-other-before e es p q v false before le other ne =
        let ge = ltb-false p.0 q.0 before in
        rw (ne_eqb p.0 q.0 (λ h. ne (sym h)), le-ltb e.pid.0 q.0 (omega arith), ne_eqb e.pid.0 q.0 (λ h. omega arith)) refl

-- the other ids keep what they have
pub put-other : {T : Type 0} (es : List (Entry T)) (p q : Pid) (v : T) → q.0 ≢ p.0 → value_at (with_value es p v) q ≡ value_at es q
put-other [] p q v ne = put-alone p q v (nat_lt p.0 q.0) ne
  where
    put-alone : {T : Type 0} (p q : Pid) (v : T) (b : Bool) → q.0 ≢ p.0 → (if b then None else (if p.0 == q.0 then Some v else None)) ≡ None
    put-alone p q v true ne = refl
    put-alone p q v false ne = rw (ne_eqb p.0 q.0 (λ h. ne (sym h))) refl
put-other (e ∷ es) p q v ne = put-other-by e es p q v (nat_lt e.pid.0 p.0) (e.pid.0 == p.0) refl refl ne (put-other es p q v ne)

-- a lesser id is below them too
pub AllAbove-lesser : {T : Type 0} (es : List (Entry T)) (p q : Pid) → q.0 ≤ p.0 → AllAbove p es → AllAbove q es
AllAbove-lesser [] p q le a = tt
AllAbove-lesser (e ∷ es) p q le a = (let above = a.0 in omega arith, AllAbove-lesser es p q le a.1)

AllAbove-put-by : {T : Type 0} (q : Pid) (e : Entry T) (es : List (Entry T)) (p : Pid) (v : T) (b c : Bool) → q.0 < p.0 → AllAbove q (e ∷ es) → AllAbove q (with_value es p v) →
    AllAbove q (if b then e ∷ with_value es p v else (if c then entry p v ∷ es else entry p v ∷ e ∷ es))
AllAbove-put-by q e es p v true c lt a rest = (a.0, rest)
AllAbove-put-by q e es p v false true lt a rest = (lt, a.1)
AllAbove-put-by q e es p v false false lt a rest = (lt, a)

AllAbove-put : {T : Type 0} (q : Pid) (es : List (Entry T)) (p : Pid) (v : T) → q.0 < p.0 → AllAbove q es → AllAbove q (with_value es p v)
AllAbove-put q [] p v lt a = (lt, tt)
AllAbove-put q (e ∷ es) p v lt a = AllAbove-put-by q e es p v (nat_lt e.pid.0 p.0) (e.pid.0 == p.0) lt a (AllAbove-put q es p v lt a.1)

IsRising-put-by : {T : Type 0} (e : Entry T) (es : List (Entry T)) (p : Pid) (v : T) (b c : Bool) → nat_lt e.pid.0 p.0 ≡ b → (e.pid.0 == p.0) ≡ c → IsRising (e ∷ es) → IsRising (with_value es p v) →
    IsRising (if b then e ∷ with_value es p v else (if c then entry p v ∷ es else entry p v ∷ e ∷ es))
IsRising-put-by e es p v true c less same r rest = (AllAbove-put e.pid es p v (ltb-true e.pid.0 p.0 less) r.0, rest)
IsRising-put-by e es p v false true less same r rest = let s = eqb-true e.pid.0 p.0 same in (AllAbove-lesser es e.pid p (omega arith) r.0, r.1)
IsRising-put-by e es p v false false less same r rest =
    let ge = ltb-false e.pid.0 p.0 less in
    let ne = eqb-false e.pid.0 p.0 same in
    let lt : p.0 < e.pid.0 = omega arith in
    ((lt, AllAbove-lesser es e.pid p (omega arith) r.0), r)

-- the ids still rise after a put
pub IsRising-put : {T : Type 0} (es : List (Entry T)) (p : Pid) (v : T) → IsRising es → IsRising (with_value es p v)
IsRising-put [] p v r = (tt, tt)
IsRising-put (e ∷ es) p v r = IsRising-put-by e es p v (nat_lt e.pid.0 p.0) (e.pid.0 == p.0) refl refl r (IsRising-put es p v r.1)

AllAbove-without-by : {T : Type 0} (q : Pid) (e : Entry T) (es : List (Entry T)) (p : Pid) (b c : Bool) → AllAbove q (e ∷ es) → AllAbove q (without es p) →
    AllAbove q (if b then e ∷ without es p else (if c then es else e ∷ es))
AllAbove-without-by q e es p true c a rest = (a.0, rest)
AllAbove-without-by q e es p false true a rest = a.1
AllAbove-without-by q e es p false false a rest = a

AllAbove-without : {T : Type 0} (q : Pid) (es : List (Entry T)) (p : Pid) → AllAbove q es → AllAbove q (without es p)
AllAbove-without q [] p a = tt
AllAbove-without q (e ∷ es) p a = AllAbove-without-by q e es p (nat_lt e.pid.0 p.0) (e.pid.0 == p.0) a (AllAbove-without q es p a.1)

IsRising-without-by : {T : Type 0} (e : Entry T) (es : List (Entry T)) (p : Pid) (b c : Bool) → IsRising (e ∷ es) → AllAbove e.pid (without es p) → IsRising (without es p) →
    IsRising (if b then e ∷ without es p else (if c then es else e ∷ es))
IsRising-without-by e es p true c r above rest = (above, rest)
IsRising-without-by e es p false true r above rest = r.1
IsRising-without-by e es p false false r above rest = r

-- the ids still rise after one was taken out
pub IsRising-without : {T : Type 0} (es : List (Entry T)) (p : Pid) → IsRising es → IsRising (without es p)
IsRising-without [] p r = tt
IsRising-without (e ∷ es) p r = IsRising-without-by e es p (nat_lt e.pid.0 p.0) (e.pid.0 == p.0) r (AllAbove-without e.pid es p r.0) (IsRising-without es p r.1)

without-same-by : {T : Type 0} (e : Entry T) (es : List (Entry T)) (p : Pid) (b c : Bool) → nat_lt e.pid.0 p.0 ≡ b → (e.pid.0 == p.0) ≡ c → IsRising (e ∷ es) → value_at (without es p) p ≡ None →
    value_at (if b then e ∷ without es p else (if c then es else e ∷ es)) p ≡ None
without-same-by e es p true c less same r rest = rw less rest
without-same-by e es p false true less same r rest = let s = eqb-true e.pid.0 p.0 same in none-below es p e.pid r.0 (omega arith)
without-same-by e es p false false less same r rest = rw (less, same) refl

-- what was taken out is not found
pub without-same : {T : Type 0} (es : List (Entry T)) (p : Pid) → IsRising es → value_at (without es p) p ≡ None
without-same [] p r = refl
without-same (e ∷ es) p r = without-same-by e es p (nat_lt e.pid.0 p.0) (e.pid.0 == p.0) refl refl r (without-same es p r.1)

without-other-by : {T : Type 0} (e : Entry T) (es : List (Entry T)) (p q : Pid) (b c d : Bool) → (e.pid.0 == p.0) ≡ c → nat_lt e.pid.0 q.0 ≡ d → q.0 ≢ p.0 → IsRising (e ∷ es) → value_at (without es p) q ≡ value_at es q →
    value_at (if b then e ∷ without es p else (if c then es else e ∷ es)) q ≡ (if d then value_at es q else (if e.pid.0 == q.0 then Some e.value else None))
without-other-by e es p q true c d same before ne r rest = rw (rest, before) refl
without-other-by e es p q false true true same before ne r rest = refl
without-other-by e es p q false true false same before ne r rest =
    let s = eqb-true e.pid.0 p.0 same in
    let ge = ltb-false e.pid.0 q.0 before in
    rw (ne_eqb e.pid.0 q.0 (λ h. ne (sym h ∙ s))) (none-below es q e.pid r.0 (omega arith))
without-other-by e es p q false false d same before ne r rest = rw before refl

-- the other ids keep what they have
pub without-other : {T : Type 0} (es : List (Entry T)) (p q : Pid) → IsRising es → q.0 ≢ p.0 → value_at (without es p) q ≡ value_at es q
without-other [] p q r ne = refl
without-other (e ∷ es) p q r ne = without-other-by e es p q (nat_lt e.pid.0 p.0) (e.pid.0 == p.0) (nat_lt e.pid.0 q.0) refl refl ne r (without-other es p q r.1 ne)

with_each-at-by : {A B : Type 0} (f : Pid → A → B) (e : Entry A) (es : List (Entry A)) (q : Pid) (b c : Bool) → (e.pid.0 == q.0) ≡ c → value_at (with_each f es) q ≡ option_map (f q) (value_at es q) →
    (if b then value_at (with_each f es) q else (if c then Some (f e.pid e.value) else None)) ≡ option_map (f q) (if b then value_at es q else (if c then Some e.value else None))
with_each-at-by f e es q true c same rest = rest
with_each-at-by f e es q false true same rest = let s : e.pid ≡ q = ap (λ (n : ℕ). record { 0 = n }) (eqb-true e.pid.0 q.0 same) in ap (λ p. Some (f p e.value)) s
with_each-at-by f e es q false false same rest = refl

-- what a change of every value leaves at an id
pub with_each-at : {A B : Type 0} (f : Pid → A → B) (es : List (Entry A)) (q : Pid) → value_at (with_each f es) q ≡ option_map (f q) (value_at es q)
with_each-at f [] q = refl
with_each-at f (e ∷ es) q = with_each-at-by f e es q (nat_lt e.pid.0 q.0) (e.pid.0 == q.0) refl (with_each-at f es q)

-- after a put that may find no memory
pub IsRising-after_put : {T A B : Type 0} (r : Result A B) (old new : List (Entry T)) (p : Pid) (v : T) → OnOk r (new ≡ with_value old p v) → OnErr r (new ≡ old) → IsRising old → IsRising new
IsRising-after_put (Ok a) old new p v ok err rising = subst IsRising (sym ok) (IsRising-put old p v rising)
IsRising-after_put (Err b) old new p v ok err rising = subst IsRising (sym err) rising

pub found-after_put : {T A B : Type 0} (r : Result A B) (old new : List (Entry T)) (p : Pid) (v : T) → OnOk r (new ≡ with_value old p v) → OnOk r (value_at new p ≡ Some v)
found-after_put (Ok a) old new p v ok = ap (λ es. value_at es p) ok ∙ put-same old p v
found-after_put (Err b) old new p v ok = tt

pub others-after_put : {T A B : Type 0} (r : Result A B) (old new : List (Entry T)) (p : Pid) (v : T) → OnOk r (new ≡ with_value old p v) → OnOk r (SameElsewhere p old new)
others-after_put (Ok a) old new p v ok = λ q ne. ap (λ es. value_at es q) ok ∙ put-other old p q v ne
others-after_put (Err b) old new p v ok = tt

AllAbove-set : {T : Type 0} (p : Pid) (es : List (Entry T)) (i : ℕ) (e : Entry T) (v : T) → slice_get es i ≡ Some e → AllAbove p es → AllAbove p (set es i (record e { value = v }))
AllAbove-set p [] i e v there a = tt
AllAbove-set p (x ∷ es) zero e v there a = (let h : x ≡ e = cc in subst (λ (y : Entry _). p.0 < y.pid.0) h a.0, a.1)
AllAbove-set p (x ∷ es) (suc i) e v there a = (a.0, AllAbove-set p es i e v there a.1)

-- the ids still rise after one value has changed
pub IsRising-set : {T : Type 0} (es : List (Entry T)) (i : ℕ) (e : Entry T) (v : T) → slice_get es i ≡ Some e → IsRising es → IsRising (set es i (record e { value = v }))
IsRising-set [] i e v there r = tt
IsRising-set (x ∷ es) zero e v there r = (let h : x ≡ e = cc in subst (λ (y : Entry _). AllAbove y.pid es) h r.0, r.1)
IsRising-set (x ∷ es) (suc i) e v there r = (AllAbove-set x.pid es i e v there r.0, IsRising-set es i e v there r.1)

pids-put-by : {T : Type 0} (e : Entry T) (es : List (Entry T)) (p : Pid) (v : T) (b c : Bool) → (e.pid.0 == p.0) ≡ c → is_some (if b then value_at es p else (if c then Some e.value else None)) ≡ true → (has_value es p ≡ true → pids_of (with_value es p v) ≡ pids_of es) →
    pids_of (if b then e ∷ with_value es p v else (if c then entry p v ∷ es else entry p v ∷ e ∷ es)) ≡ e.pid ∷ pids_of es
pids-put-by e es p v true c same has rest = ap (λ ps. e.pid ∷ ps) (rest has)
pids-put-by e es p v false true same has rest = let s : p ≡ e.pid = ap (λ (n : ℕ). record { 0 = n }) (sym (eqb-true e.pid.0 p.0 same)) in ap (λ q. q ∷ pids_of es) s
pids-put-by e es p v false false same has rest = cc

-- a value in the place of another leaves the ids
pub pids-put : {T : Type 0} (es : List (Entry T)) (p : Pid) (v : T) → has_value es p ≡ true → pids_of (with_value es p v) ≡ pids_of es
pids-put [] p v has = cc
pids-put (e ∷ es) p v has = pids-put-by e es p v (nat_lt e.pid.0 p.0) (e.pid.0 == p.0) refl has (pids-put es p v)

-- a change of every value leaves the ids
pub pids-with_each : {A B : Type 0} (f : Pid → A → B) (es : List (Entry A)) → pids_of (with_each f es) ≡ pids_of es
pids-with_each f [] = refl
pids-with_each f (e ∷ es) = ap (λ ps. e.pid ∷ ps) (pids-with_each f es)

has_value-in : {T : Type 0} (e : Entry T) (es : List (Entry T)) (p : Pid) (b c : Bool) →
    is_some (if b then value_at es p else (if c then Some e.value else None)) ≡ (if b then has_value es p else c)
has_value-in e es p true c = refl
has_value-in e es p false true = refl
has_value-in e es p false false = refl

-- the ids alone tell which have a value
pub has_value-pids : {A B : Type 0} (es : List (Entry A)) (fs : List (Entry B)) (p : Pid) → pids_of es ≡ pids_of fs → has_value es p ≡ has_value fs p
has_value-pids [] [] p same = refl
has_value-pids [] (f ∷ fs) p same = cc
has_value-pids (e ∷ es) [] p same = cc
has_value-pids (e ∷ es) (f ∷ fs) p same =
    let first : e.pid ≡ f.pid = cc in
    let others : pids_of es ≡ pids_of fs = cc in
    has_value-in e es p (nat_lt e.pid.0 p.0) (e.pid.0 == p.0)
    ∙ (ap (λ (q : Pid). if nat_lt q.0 p.0 then has_value es p else (q.0 == p.0)) first
    ∙ (ap (λ b. if nat_lt f.pid.0 p.0 then b else (f.pid.0 == p.0)) (has_value-pids es fs p others)
    ∙ sym (has_value-in f fs p (nat_lt f.pid.0 p.0) (f.pid.0 == p.0))))

again_by : {T : Type 0} (e : Entry T) (es : List (Entry T)) (p : Pid) (v w : T) (b c : Bool) → nat_lt e.pid.0 p.0 ≡ b → (e.pid.0 == p.0) ≡ c → with_value (with_value es p v) p w ≡ with_value es p w →
    with_value (if b then e ∷ with_value es p v else (if c then entry p v ∷ es else entry p v ∷ e ∷ es)) p w ≡ (if b then e ∷ with_value es p w else (if c then entry p w ∷ es else entry p w ∷ e ∷ es))
again_by e es p v w true c less same rest = rw (less, rest) refl
again_by e es p v w false true less same rest = rw (le-ltb p.0 p.0 (omega arith), eq-eqb p.0 p.0 refl) refl
again_by e es p v w false false less same rest = rw (le-ltb p.0 p.0 (omega arith), eq-eqb p.0 p.0 refl) refl

-- the later value counts
pub with_value_again : {T : Type 0} (es : List (Entry T)) (p : Pid) (v w : T) → with_value (with_value es p v) p w ≡ with_value es p w
with_value_again [] p v w = rw (le-ltb p.0 p.0 (omega arith), eq-eqb p.0 p.0 refl) refl
with_value_again (e ∷ es) p v w = again_by e es p v w (nat_lt e.pid.0 p.0) (e.pid.0 == p.0) refl refl (with_value_again es p v w)
