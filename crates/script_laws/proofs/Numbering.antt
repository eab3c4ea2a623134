-- the names of a part of the grammar get the numbers of its naming
use Rattle.std.proofs.Common.{◌≡◌, ◌⊎◌, inl, inr, ◌++◌, ℕ, zero, suc, ◌+◌, ◌<◌, cond, List, [], ◌∷◌, length, take, refl, sym, ap, ◌∙◌, subst, arith, Option, Some, None}
use Rattle.std.specs.Prelude.{codes, slice_get, get_or, map, is_some}
use Rattle.std.proofs.lemmas.Option.{slice_get_within, get_or_from_slice_get}
use Rattle.std.proofs.lemmas.List.{get_or-take, length-take-le}
use Rattle.unix_calls.specs.declared.World.{World}
use Rattle.unix_calls.specs.declared.Start.{Start}
use Rattle.unix_calls.specs.Valid.{IsValid}
use Rattle.script_words.specs.Words.{Word, Row}
use Rattle.script_reader.specs.Names.{Table, number_in, noted}
use Rattle.script_reader.specs.Files.{words_behind, numbered, listed, gather}
use Rattle.script_laws.specs.Writable.{AreInOrder, variables_of}
use Rattle.script_laws.specs.Grammar.{IsName, Naming, IsCalled, AreNames}
use Rattle.script_laws.proofs.Tables.{noted_from, noted_length}
use Rattle.script_laws.proofs.Orders.{noted_still, noted_new, listed-append}
use Rattle.script_laws.proofs.Spoken.{HasNaming, HasStarts}
use Rattle.script_laws.proofs.Named.{AreCalled, called-append, GivesNames}

some_word : (a b : Word) → ◌≡◌ {A = Option Word} (Some a) (Some b) → a ≡ b
some_word a b e = cc

-- ---- words numbered one after the other
pub numbered_still : (t : Table) (k : ℕ) (words : List Word) (w : Word) (m : ℕ) → number_in t w ≡ Some m → number_in (numbered t k words) w ≡ Some m
unfolding numbered
numbered_still t k [] w m e = e
numbered_still t k (word ∷ words) w m e = numbered_still (noted t word k) (k + 1) words w m (noted_still t word k w m e)

noted_lacks : (t : Table) (word : Word) (k : ℕ) (w : Word) → number_in t w ≡ None → (w ≡ word → ⊥) → number_in (noted t word k) w ≡ None
noted_lacks t word k w none ne = go (number_in (noted t word k) w) refl
  where
    go : (o : Option ℕ) → number_in (noted t word k) w ≡ o → o ≡ None
    go None e = refl
    go (Some m) e = elim (noted_from t word k w m e) [ inl h ↦ absurd (cc) | inr h ↦ absurd (ne h.1) ]

-- the j-th word has the j-th number, where it stands there first
pub numbered_at : (t : Table) (k : ℕ) (words : List Word) (w : Word) (j : ℕ) → number_in t w ≡ None → slice_get words j ≡ Some w → ((i : ℕ) → slice_get words i ≡ Some w → i ≡ j) → number_in (numbered t k words) w ≡ Some (k + j)
unfolding numbered
numbered_at t k [] w j none e one = cc
numbered_at t k (word ∷ words) w zero none e one =
    let is : word ≡ w = some_word word w e in
    let z : k ≡ k + 0 = omega arith in
    let here : number_in (noted t word k) w ≡ Some k = subst (λ (x : Word). number_in (noted t word k) x ≡ Some k) is (noted_new t word k (subst (λ (x : Word). number_in t x ≡ None) (sym is) none)) in
    numbered_still (noted t word k) (k + 1) words w k here ∙ ap (λ (n : ℕ). Some n) z
numbered_at t k (word ∷ words) w (suc j) none e one =
    let z : k + 1 + j ≡ k + suc j = omega arith in
    let other : w ≡ word → ⊥ = λ s. zero_suc j (one zero (ap (λ (x : Word). Some x) (sym s))) in
    numbered_at (noted t word k) (k + 1) words w j (noted_lacks t word k w none other) e (λ i h. suc_same i j (one (suc i) h)) ∙ ap (λ (n : ℕ). Some n) z
  where
    zero_suc : (j : ℕ) → zero ≡ suc j → ⊥
    zero_suc j e = omega arith

    suc_same : (i j : ℕ) → suc i ≡ suc j → i ≡ j
    suc_same i j e = omega arith

-- ---- words listed
-- a table has the names below a number, and no others
pub record Fronts (names : List Word) (t : Table) (k : ℕ) : Type 0 where
  pub long : length t ≡ k
  pub to : (w : Word) (n : ℕ) → IsCalled names w n → n < k → number_in t w ≡ Some n
  pub from : (w : Word) (n : ℕ) → number_in t w ≡ Some n → IsCalled names w n × (n < k)

fronts_old : (names : List Word) (t : Table) (k : ℕ) (word : Word) (n : ℕ) → Fronts names t k → IsCalled names word n → n < k → noted t word (length t) ≡ t
fronts_old names t k word n f c lt = ap (λ (o : Option ℕ). cond (is_some o) t (t ++ (word, length t) ∷ [])) (f.to word n c lt)

fronts_new : (names : List Word) (t : Table) (k : ℕ) (word : Word) → AreNames names → Fronts names t k → IsCalled names word k → Fronts names (noted t word (length t)) (k + 1)
fronts_new names t k word are f c = record {
  long = noted_length t word lacks ∙ ap (λ n. n + 1) f.long;
  to = λ w n h lt. go w n h (split n lt);
  from = λ w n h. elim (noted_from t word (length t) w n h) [
    | inl o ↦ let p = f.from w n o in (p.0, omega (arith, p.1))
    | inr o ↦ (subst (λ (x : Word). IsCalled names x n) (sym o.1) (subst (λ m. IsCalled names word m) (sym f.long ∙ sym o.0) c), omega (arith, o.0, f.long))
  ];
}
  where
    lacks : number_in t word ≡ None
    lacks = none (number_in t word) refl
      where
        none : (o : Option ℕ) → number_in t word ≡ o → o ≡ None
        none None e = refl
        none (Some m) e = let p = f.from word m e in let is : m ≡ k = are.1 word m k p.0 c in absurd (omega (arith, p.1))

    split : (n : ℕ) → n < k + 1 → (n < k) ⊎ (n ≡ k)
    split n lt = grind arith

    go : (w : Word) (n : ℕ) → IsCalled names w n → (n < k) ⊎ (n ≡ k) → number_in (noted t word (length t)) w ≡ Some n
    go w n h (inl lt) = noted_still t word (length t) w n (f.to w n h lt)
    go w n h (inr e) =
        let same : word ≡ w = some_word word w (sym c ∙ ap (slice_get names) (sym e) ∙ h) in
        subst (λ (x : Word). number_in (noted t word (length t)) x ≡ Some n) same (noted_new t word (length t) lacks ∙ ap (λ (m : ℕ). Some m) (f.long ∙ sym e))

pub fronts_listed : (names : List Word) (t : Table) (k : ℕ) (words : List Word) (ns : List ℕ) (total : ℕ) → AreNames names → Fronts names t k → AreCalled names words ns → AreInOrder k ns total → Fronts names (listed t words) total
unfolding listed
fronts_listed names t k [] [] total are f c o = subst (Fronts names t) o f
fronts_listed names t k [] (n ∷ ns) total are f c o = absurd c
fronts_listed names t k (w ∷ ws) [] total are f c o = absurd c
fronts_listed names t k (w ∷ ws) (n ∷ ns) total are f c (inl o) = fronts_listed names (noted t w (length t)) k ws ns total are (subst (λ (x : Table). Fronts names x k) (sym (fronts_old names t k w n f c.0 o.0)) f) c.1 o.1
fronts_listed names t k (w ∷ ws) (n ∷ ns) total are f c (inr o) = fronts_listed names (noted t w (length t)) (k + 1) ws ns total are (fronts_new names t k w are f (subst (λ m. IsCalled names w m) o.0 c.0)) c.1 o.1

-- ---- starts
-- the i-th of the called words
called_at : (names words : List Word) (ns : List ℕ) (i n : ℕ) → AreCalled names words ns → slice_get ns i ≡ Some n → (w : Word) × (slice_get words i ≡ Some w) × IsCalled names w n
called_at names [] [] i n c e = cc
called_at names [] (m ∷ ns) i n c e = absurd c
called_at names (w ∷ ws) [] i n c e = absurd c
called_at names (w ∷ ws) (m ∷ ns) zero n c e = let is : m ≡ n = number_same m n e in (w, refl, subst (IsCalled names w) is c.0)
  where
    number_same : (a b : ℕ) → ◌≡◌ {A = Option ℕ} (Some a) (Some b) → a ≡ b
    number_same a b e = cc
called_at names (w ∷ ws) (m ∷ ns) (suc i) n c e = called_at names ws ns i n c.1 e

called_back : (names words : List Word) (ns : List ℕ) (i : ℕ) (w : Word) → AreCalled names words ns → slice_get words i ≡ Some w → (n : ℕ) × (slice_get ns i ≡ Some n) × IsCalled names w n
called_back names [] [] i w c e = cc
called_back names [] (m ∷ ns) i w c e = absurd c
called_back names (v ∷ ws) [] i w c e = absurd c
called_back names (v ∷ ws) (m ∷ ns) zero w c e = let is : v ≡ w = some_word v w e in (m, refl, subst (λ (x : Word). IsCalled names x m) is c.0)
called_back names (v ∷ ws) (m ∷ ns) (suc i) w c e = called_back names ws ns i w c.1 e

var_at : (starts : List Start) (i : ℕ) (s : Start) → slice_get starts i ≡ Some s → slice_get (map (λ s. s.var) starts) i ≡ Some s.var
var_at [] i s e = cc
var_at (x ∷ xs) zero s e = ap (λ (o : Option Start). unwrapped o) e
  where
    unwrapped : Option Start → Option ℕ
    unwrapped None = None
    unwrapped (Some s) = Some s.var
var_at (x ∷ xs) (suc i) s e = var_at xs i s e

start_of_var : (starts : List Start) (i n : ℕ) → slice_get (map (λ s. s.var) starts) i ≡ Some n → (s : Start) × (slice_get starts i ≡ Some s) × (s.var ≡ n)
start_of_var [] i n e = cc
start_of_var (x ∷ xs) zero n e = (x, refl, cc)
start_of_var (x ∷ xs) (suc i) n e = start_of_var xs i n e

-- two starts of one variable are one
module _ (world : World) (valid : IsValid world) where
  earlier_differs : (i j : ℕ) (s r : Start) → i < j → slice_get world.starts i ≡ Some s → slice_get world.starts j ≡ Some r → s.var ≡ r.var → ⊥
  earlier_differs i j s r lt es er e =
      let v = valid.starts j r er in
      let within : j < length world.starts = slice_get_within world.starts j r er in
      let short : length (take j world.starts) ≡ j = length-take-le j world.starts (omega arith) in
      let there : get_or (take j world.starts) i s ≡ s = get_or-take j world.starts i s lt ∙ get_or_from_slice_get world.starts i s s es in
      v.own_var i s (omega arith) (ap (λ (x : Start). x.var) there ∙ e)

  start_once : (i j : ℕ) (s r : Start) → slice_get world.starts i ≡ Some s → slice_get world.starts j ≡ Some r → s.var ≡ r.var → i ≡ j
  start_once i j s r es er e = go (order i j)
    where
      order : (i j : ℕ) → (i < j) ⊎ ((i ≡ j) ⊎ (j < i))
      order i j = grind arith

      go : (i < j) ⊎ ((i ≡ j) ⊎ (j < i)) → i ≡ j
      go (inl lt) = absurd (earlier_differs i j s r lt es er e)
      go (inr (inl is)) = is
      go (inr (inr lt)) = absurd (earlier_differs j i r s lt er es (sym e))

-- ---- a part
module _ (naming : Naming) (world : World) (rows : List Row) (given : GivesNames naming world rows) (scripts : AreNames naming.scripts) (variables : AreNames naming.variables) (total : length naming.variables ≡ world.vars) (ordered : AreInOrder 0 (variables_of world) world.vars) (valid : IsValid world) where
  named : (names : List Word) → AreNames names → (word : Word) (n : ℕ) → IsCalled names word n → IsName word
  named names are word n c = subst IsName (get_or_from_slice_get names n word word c) (are.0 n word (slice_get_within names n word c))

  fronts : Fronts naming.variables (gather rows).variables world.vars
  unfolding gather
  fronts =
      subst (λ (t : Table). Fronts naming.variables t world.vars) (sym (listed-append [] (words_behind (codes "fork") 1 rows) (words_behind (codes "start") 3 rows)))
      (fronts_listed naming.variables [] 0 (words_behind (codes "fork") 1 rows ++ words_behind (codes "start") 3 rows) (variables_of world) world.vars variables
      (record { long = refl; to = λ w n c lt. absurd (omega arith); from = λ w n e. cc })
      (called-append naming.variables (words_behind (codes "fork") 1 rows) (words_behind (codes "start") 3 rows) _ _ given.forks given.starts) ordered)

  pub has_naming : HasNaming (gather rows) naming
  unfolding gather
  has_naming = record {
    variables = record { each = λ w n c. fronts.to w n c (subst (λ m. n < m) total (slice_get_within naming.variables n w c)); name = named naming.variables variables };
    scripts = record {
      each = λ w n c. subst (λ (ws : List Word). number_in (numbered [] 0 ws) w ≡ Some n) (sym given.scripts) (numbered_at [] 0 naming.scripts w n refl c (λ i h. scripts.1 w i n h c) ∙ ap (λ (m : ℕ). Some m) (none_before n));
      name = named naming.scripts scripts;
    };
  }
    where
      none_before : (n : ℕ) → 0 + n ≡ n
      none_before n = omega arith

  pub has_starts : HasStarts (gather rows) naming world.starts
  unfolding gather
  has_starts = record { each = λ i s word e c. at i s word e c }
    where
      words : List Word
      words = words_behind (codes "start") 3 rows

      none_before : (n : ℕ) → 0 + n ≡ n
      none_before n = omega arith

      first : (i : ℕ) (s : Start) (word : Word) → slice_get world.starts i ≡ Some s → IsCalled naming.variables word s.var → (j : ℕ) → slice_get (words_behind (codes "start") 3 rows) j ≡ Some word → j ≡ i
      first i s word e c j h =
          let b = called_back naming.variables (words_behind (codes "start") 3 rows) (map (λ s. s.var) world.starts) j word given.starts h in
          let r = start_of_var world.starts j b.0 b.1 in
          let same : b.0 ≡ s.var = variables.1 word b.0 s.var b.2 c in
          start_once world valid j i r.0 s r.1 e (r.2 ∙ same)

      at : (i : ℕ) (s : Start) (word : Word) → slice_get world.starts i ≡ Some s → IsCalled naming.variables word s.var → number_in (numbered [] 0 (words_behind (codes "start") 3 rows)) word ≡ Some i
      at i s word e c =
          let a = called_at naming.variables (words_behind (codes "start") 3 rows) (map (λ s. s.var) world.starts) i s.var given.starts (var_at world.starts i s e) in
          let same : a.0 ≡ word = some_word a.0 word (sym a.2 ∙ c) in
          let there : slice_get (words_behind (codes "start") 3 rows) i ≡ Some word = a.1 ∙ ap (λ (x : Word). Some x) same in
          numbered_at [] 0 (words_behind (codes "start") 3 rows) word i refl there (first i s word e c) ∙ ap (λ (m : ℕ). Some m) (none_before i)

  pub vars_counted : length (gather rows).variables ≡ world.vars
  vars_counted = fronts.long
