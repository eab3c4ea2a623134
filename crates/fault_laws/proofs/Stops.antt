-- where the reader stops, and what it has read before
use Rattle.std.proofs.Common.{◌≡◌, ◌⊎◌, inl, inr, ℕ, zero, suc, ◌+◌, ◌<◌, ◌≤◌, Bool, true, false, cond, List, [], ◌∷◌, take, refl, sym, ap, ◌∙◌, subst, arith, Option, Some, Result, Ok, Err}
use Rattle.std.specs.Prelude.{slice_get, IsOk}
use Rattle.unix_calls.specs.declared.Start.{Start}
use Rattle.unix_calls.specs.declared.Work.{Work}
use Rattle.unix_calls.specs.Work.{total_work, is_little}
use Rattle.script_words.specs.declared.faults.Kind.{Kind}
use Rattle.script_words.specs.declared.faults.Kind.TheVariants.{TooMuchWork}
use Rattle.script_words.specs.declared.faults.Fault.{Fault}
use Rattle.script_words.specs.Words.{Row}
use Rattle.script_reader.specs.declared.lines.Item.{Item}
use Rattle.script_reader.specs.declared.lines.Item.TheVariants as item
use Rattle.script_reader.specs.declared.lines.StartLine.{StartLine}
use Rattle.script_words.specs.Kinds.{fault_at}
use Rattle.script_reader.specs.Files.{Told, with_start, judged}
use Rattle.script_laws.proofs.Walks.{starts_now, IsLittle, judged_next}
use Rattle.fault_laws.proofs.Counted.{starts_behind}

-- the lines before so many are read without a fault
abbrev pub AreReadBelow : List Told → ℕ → Type 0
AreReadBelow told k = (j : ℕ) (t : Told) → j < k → slice_get told j ≡ Some t → IsOk t.1

-- the starts of no more lines than so many make too much work
abbrev pub AreLittleTo : List Work → List Start → List Told → ℕ → Type 0
AreLittleTo works earlier told k = (j : ℕ) → j ≤ k → is_little (total_work works (starts_behind earlier (take j told))) ≡ true

-- why the reader stops at a line: its own fault, or the work of the starts up to it
abbrev pub Cause : List Work → List Start → List Told → ℕ → Told → Kind → Type 0
Cause works earlier told k t kind =
    (t.1 ≡ Err kind)
    ⊎ ((s : StartLine) × (t.1 ≡ Ok (item.Starts s)) × (kind ≡ TooMuchWork) × (is_little (total_work works (starts_behind earlier (take (suc k) told))) ≡ false))

-- the line at which the reader stops
pub record Stops (works : List Work) (earlier : List Start) (line : ℕ) (told : List Told) (fault : Fault) : Type 0 where
  pub k : ℕ
  pub t : Told
  pub at_line : fault.line ≡ line + k
  pub there : slice_get told k ≡ Some t
  pub before : AreReadBelow told k
  pub little : AreLittleTo works earlier told k
  pub cause : Cause works earlier told k t fault.kind

same_told : (a b : Told) → ◌≡◌ {A = Option Told} (Some a) (Some b) → a ≡ b
same_told a b e = cc

same_error : (a b : Fault) → ◌≡◌ {A = Result (List Start) Fault} (Err a) (Err b) → a ≡ b
same_error a b e = cc

-- behind a line without a fault
behind : (earlier : List Start) (row : Row) (i : Item) (rest : List Told) → starts_behind earlier ((row, Ok i) ∷ rest) ≡ starts_behind (starts_now earlier i) rest
behind earlier row (item.Starts s) rest = refl
behind earlier row item.Nothing rest = refl
behind earlier row (item.Nodes n) rest = refl
behind earlier row item.ScriptBegins rest = refl
behind earlier row item.ScriptEnds rest = refl
behind earlier row (item.Says s) rest = refl

read_next : (row : Row) (i : Item) (rest : List Told) (k : ℕ) → AreReadBelow rest k → AreReadBelow ((row, Ok i) ∷ rest) (suc k)
read_next row i rest k before zero t lt e = let is : (row, Ok i) ≡ t = same_told (row, Ok i) t e in subst (λ (x : Told). IsOk x.1) is refl
read_next row i rest k before (suc j) t lt e = before j t (omega arith) e

little_next : (works : List Work) (earlier : List Start) (row : Row) (i : Item) (rest : List Told) (k : ℕ) → is_little (total_work works earlier) ≡ true → AreLittleTo works (starts_now earlier i) rest k → AreLittleTo works earlier ((row, Ok i) ∷ rest) (suc k)
little_next works earlier row i rest k now little zero le = now
little_next works earlier row i rest k now little (suc j) le = ap (λ z. is_little (total_work works z)) (behind earlier row i (take j rest)) ∙ little j (omega arith)

cause_next : (works : List Work) (earlier : List Start) (row : Row) (i : Item) (rest : List Told) (k : ℕ) (t : Told) (kind : Kind) → Cause works (starts_now earlier i) rest k t kind → Cause works earlier ((row, Ok i) ∷ rest) (suc k) t kind
cause_next works earlier row i rest k t kind (inl e) = inl e
cause_next works earlier row i rest k t kind (inr (s, e, much, over)) = inr (s, e, much, ap (λ z. is_little (total_work works z)) (behind earlier row i (take (suc k) rest)) ∙ over)

later : (works : List Work) (earlier : List Start) (line : ℕ) (row : Row) (i : Item) (rest : List Told) (fault : Fault) → is_little (total_work works earlier) ≡ true → Stops works (starts_now earlier i) (line + 1) rest fault → Stops works earlier line ((row, Ok i) ∷ rest) fault
later works earlier line row i rest fault now s = record {
  k = suc s.k;
  t = s.t;
  at_line = omega (arith, s.at_line);
  there = s.there;
  before = read_next row i rest s.k s.before;
  little = little_next works earlier row i rest s.k now s.little;
  cause = cause_next works earlier row i rest s.k s.t fault.kind s.cause;
}

here : (works : List Work) (earlier : List Start) (line : ℕ) (kind : Kind) (t : Told) (rest : List Told) (fault : Fault) → fault_at line kind ≡ fault → is_little (total_work works earlier) ≡ true → Cause works earlier (t ∷ rest) 0 t kind → Stops works earlier line (t ∷ rest) fault
here works earlier line kind t rest fault e now cause =
    let is : line ≡ fault.line = ap (λ f. f.line) e in
    let same : kind ≡ fault.kind = ap (λ f. f.kind) e in
    record {
      k = 0;
      t = t;
      at_line = omega arith;
      there = refl;
      before = λ j u lt h. absurd (omega arith);
      little = λ j le. little j le;
      cause = subst (Cause works earlier (t ∷ rest) 0 t) same cause;
    }
  where
    little : (j : ℕ) → j ≤ 0 → is_little (total_work works (starts_behind earlier (take j (t ∷ rest)))) ≡ true
    little zero le = now
    little (suc j) le = absurd (omega arith)

started : (works : List Work) (earlier : List Start) (line : ℕ) (row : Row) (s : StartLine) (rest : List Told) (fault : Fault) → is_little (total_work works earlier) ≡ true
    → (is_little (total_work works (with_start earlier s)) ≡ true → judged works (with_start earlier s) (line + 1) rest ≡ Err fault → Stops works (with_start earlier s) (line + 1) rest fault)
    → cond (is_little (total_work works (with_start earlier s))) (judged works (with_start earlier s) (line + 1) rest) (Err (fault_at line TooMuchWork)) ≡ Err fault → Stops works earlier line ((row, Ok (item.Starts s)) ∷ rest) fault
started works earlier line row s rest fault now ih e = go (is_little (total_work works (with_start earlier s))) refl e
  where
    go : (b : Bool) → is_little (total_work works (with_start earlier s)) ≡ b → cond b (judged works (with_start earlier s) (line + 1) rest) (Err (fault_at line TooMuchWork)) ≡ Err fault → Stops works earlier line ((row, Ok (item.Starts s)) ∷ rest) fault
    go true b h = later works earlier line row (item.Starts s) rest fault now (ih b h)
    go false b h = here works earlier line TooMuchWork (row, Ok (item.Starts s)) rest fault (same_error (fault_at line TooMuchWork) fault h) now (inr (s, refl, refl, b))

-- the reader stops at the first line with a cause
pub stops : (works : List Work) (earlier : List Start) (line : ℕ) (told : List Told) (fault : Fault) → is_little (total_work works earlier) ≡ true → judged works earlier line told ≡ Err fault → Stops works earlier line told fault
unfolding judged
stops works earlier line [] fault now e = cc
stops works earlier line ((row, Err kind) ∷ rest) fault now e = here works earlier line kind (row, Err kind) rest fault (same_error (fault_at line kind) fault e) now (inl refl)
stops works earlier line ((row, Ok (item.Starts s)) ∷ rest) fault now e = started works earlier line row s rest fault now (stops works (with_start earlier s) (line + 1) rest fault) e
stops works earlier line ((row, Ok item.Nothing) ∷ rest) fault now e = later works earlier line row item.Nothing rest fault now (stops works earlier (line + 1) rest fault now e)
stops works earlier line ((row, Ok (item.Nodes n)) ∷ rest) fault now e = later works earlier line row (item.Nodes n) rest fault now (stops works earlier (line + 1) rest fault now e)
stops works earlier line ((row, Ok item.ScriptBegins) ∷ rest) fault now e = later works earlier line row item.ScriptBegins rest fault now (stops works earlier (line + 1) rest fault now e)
stops works earlier line ((row, Ok item.ScriptEnds) ∷ rest) fault now e = later works earlier line row item.ScriptEnds rest fault now (stops works earlier (line + 1) rest fault now e)
stops works earlier line ((row, Ok (item.Says s)) ∷ rest) fault now e = later works earlier line row (item.Says s) rest fault now (stops works earlier (line + 1) rest fault now e)

-- ---- no stop
-- all lines are read without a fault, and no starts make too much work
pub record Passes (works : List Work) (earlier : List Start) (told : List Told) : Type 0 where
  pub read : (k : ℕ) → AreReadBelow told k
  pub little : (k : ℕ) → AreLittleTo works earlier told k

little_now : (works : List Work) (earlier : List Start) (i : Item) → is_little (total_work works earlier) ≡ true → IsLittle works earlier i → is_little (total_work works (starts_now earlier i)) ≡ true
little_now works earlier (item.Starts s) now h = h
little_now works earlier item.Nothing now h = now
little_now works earlier (item.Nodes n) now h = now
little_now works earlier item.ScriptBegins now h = now
little_now works earlier item.ScriptEnds now h = now
little_now works earlier (item.Says s) now h = now

passed : (works : List Work) (earlier : List Start) (row : Row) (i : Item) (rest : List Told) → is_little (total_work works earlier) ≡ true → Passes works (starts_now earlier i) rest → Passes works earlier ((row, Ok i) ∷ rest)
passed works earlier row i rest now p = record {
  read = λ k j t lt e. read_next row i rest j (p.read j) j t (omega arith) e;
  little = λ k j le. little_next works earlier row i rest j now (p.little j) j (omega arith);
}

-- where the reader does not stop
pub passes : (works : List Work) (earlier : List Start) (line : ℕ) (told : List Told) (all : List Start) → is_little (total_work works earlier) ≡ true → judged works earlier line told ≡ Ok all → Passes works earlier told
passes works earlier line [] all now e = record { read = λ k j t lt h. cc; little = λ k j le. none j }
  where
    none : (j : ℕ) → is_little (total_work works (starts_behind earlier (take j []))) ≡ true
    none zero = now
    none (suc j) = now
passes works earlier line (t ∷ rest) all now e =
    let j = judged_next works earlier line t.0 t.1 rest all e in
    let p : Passes works earlier ((t.0, Ok j.i) ∷ rest) = passed works earlier t.0 j.i rest now (passes works (starts_now earlier j.i) (line + 1) rest all (little_now works earlier j.i now j.little) j.later) in
    subst (λ (r : Result Item Kind). Passes works earlier ((t.0, r) ∷ rest)) (sym j.read) p

-- no starts make little work
pub none_little : (works : List Work) → is_little (total_work works []) ≡ true
none_little works = refl
