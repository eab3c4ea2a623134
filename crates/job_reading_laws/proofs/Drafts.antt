-- What is read line by line, and where the reading stops.
use Rattle.std.proofs.Common.{◌≡◌, ◌⊎◌, inl, inr, ◌+◌, ℕ, Bool, true, false, cond, List, [], ◌∷◌, ◌++◌, map, length, refl, sym, ap, ◌∙◌, subst, arith, Result, Ok, Err, All, length-append, codes, append_assoc}
use Rattle.std.specs.Str.{is_utf8}
use Rattle.std.proofs.lemmas.List.{append-nil}
use Rattle.std.proofs.lemmas.List.Elements.{All-nil, All-cons, All-head, All-tail, All-push}
use Rattle.std.proofs.lemmas.Option.{slice_get_within}
use Rattle.byte_ends.specs.Text.{words}
use Rattle.script_words.specs.Words.{Word, Row, is_skipped, word_at}
use Rattle.script_laws.specs.Grammar.{IsFor, IsName, AreNames}
use Rattle.job_plans.specs.declared.Job.{Job}
use Rattle.job_plans.specs.declared.JobLine.{JobLine}
use Rattle.job_plans.specs.declared.JobFile.{JobFile}
use Rattle.job_plans.specs.Files.{all_idle, IsJob, job_of}
use Rattle.job_plans.specs.Plans.{IsAccepted, statuses, first_of}
use Rattle.job_files.specs.declared.faults.JobKind.{JobKind}
use Rattle.job_files.specs.declared.faults.JobKind.TheVariants.{NotUtf8}
use Rattle.job_files.specs.declared.faults.JobFault.{JobFault}
use Rattle.job_files.specs.declared.drafts.Item.{Item}
use Rattle.job_files.specs.declared.drafts.Item.TheVariants as item
use Rattle.job_files.specs.declared.drafts.Draft.{Draft}
use Rattle.job_files.specs.Kinds.{fault_at}
use Rattle.job_files.specs.MethodReading.{row_says, line_says, with_item, first_draft, file_of, read_next, read_from, step_count}
use Rattle.job_reading_laws.specs.Grammar.{Lines, ends, skips, adds, tells, Part, silent, opens}
use Rattle.job_reading_laws.specs.Faults.{IsTotal}
use Rattle.job_reading_laws.proofs.Words.{contained, names_push}
use Rattle.job_reading_laws.proofs.Phases.{lines_more, lines_wider}
use Rattle.job_reading_laws.proofs.Steps.{no_steps, steps_push, steps_wider, total_push, acts_many}
use Rattle.job_reading_laws.proofs.Rows.{IsSound, MaySay, row_told, FirstItem, first_told}

abbrev pub IsText : List ℕ → Type 0
IsText line = is_utf8 line ≡ true

-- behind these rows, none of which has a fault
abbrev pub After : Draft → List Row → Draft → Type 0
After d [] d' = d' ≡ d
After d (row ∷ rows) d' = (it : Item) × (row_says d row ≡ Ok it) × After (with_item d row it) rows d'

-- ---- the reading of lines
said : (d : Draft) (line : List ℕ) → IsText line → line_says d line ≡ row_says d (words line)
said d line t = ap (λ b. cond b (row_says d (words line)) (Err NotUtf8)) t

file_same : (x y : JobFile) → ◌≡◌ {A = Result JobFile JobFault} (Ok x) (Ok y) → x ≡ y
file_same x y e = cc

pub fault_same : (x y : JobFault) → ◌≡◌ {A = Result JobFile JobFault} (Err x) (Err y) → x ≡ y
fault_same x y e = cc

text_of : (d : Draft) (line : List ℕ) (it : Item) → line_says d line ≡ Ok it → IsText line × (row_says d (words line) ≡ Ok it)
text_of d line it h = go (is_utf8 line) refl h
  where
    go : (b : Bool) → is_utf8 line ≡ b → cond b (row_says d (words line)) (Err NotUtf8) ≡ Ok it → IsText line × (row_says d (words line) ≡ Ok it)
    go true e h = (e, h)
    go false e h = cc

-- all lines were read
pub record IsRead (d : Draft) (lines : List (List ℕ)) (file : JobFile) : Type 0 where
  pub draft : Draft
  pub texts : All IsText lines
  pub after : After d (map words lines) draft
  pub is : file ≡ file_of draft

pub read_ok : (lines : List (List ℕ)) (d : Draft) (number : ℕ) (file : JobFile) → read_from d number lines ≡ Ok file → IsRead d lines file
read_ok [] d number file e = record { draft = d; texts = All-nil IsText; after = refl; is = sym (file_same (file_of d) file e) }
read_ok (line ∷ lines) d number file e = go (line_says d line) refl e (λ it h. read_ok lines (with_item d (words line) it) (number + 1) file h)
  where
    go : (r : Result Item JobKind) → line_says d line ≡ r → read_next number (λ it. read_from (with_item d (words line) it) (number + 1) lines) r ≡ Ok file
        → ((it : Item) → read_from (with_item d (words line) it) (number + 1) lines ≡ Ok file → IsRead (with_item d (words line) it) lines file) → IsRead d (line ∷ lines) file
    go (Err kind) is h more = cc
    go (Ok it) is h more =
        let rest = more it h in
        let t = text_of d line it is in
        record { draft = rest.draft; texts = All-cons IsText line lines t.0 rest.texts; after = (it, t.1, rest.after); is = rest.is }

pub read_after : (lines : List (List ℕ)) (d d' : Draft) (number : ℕ) → All IsText lines → After d (map words lines) d' → read_from d number lines ≡ Ok (file_of d')
read_after [] d d' number t a = ap (λ x. Ok (file_of x)) (sym a)
read_after (line ∷ lines) d d' number t a =
    ap (read_next number (λ it. read_from (with_item d (words line) it) (number + 1) lines)) (said d line (All-head IsText line lines t) ∙ a.1)
    ∙ read_after lines (with_item d (words line) a.0) d' (number + 1) (All-tail IsText line lines t) a.2

-- the first line that has a fault
pub record Stops (d : Draft) (number : ℕ) (lines : List (List ℕ)) (fault : JobFault) : Type 0 where
  pub before : List (List ℕ)
  pub line : List ℕ
  pub later : List (List ℕ)
  pub draft : Draft
  pub kind : JobKind
  pub are : lines ≡ before ++ line ∷ later
  pub texts : All IsText before
  pub after : After d (map words before) draft
  pub says : line_says draft line ≡ Err kind
  pub is : fault ≡ fault_at (number + length before) kind

pub read_err : (lines : List (List ℕ)) (d : Draft) (number : ℕ) (fault : JobFault) → read_from d number lines ≡ Err fault → Stops d number lines fault
read_err [] d number fault e = cc
read_err (line ∷ lines) d number fault e = go (line_says d line) refl e (λ it h. read_err lines (with_item d (words line) it) (number + 1) fault h)
  where
    go : (r : Result Item JobKind) → line_says d line ≡ r → read_next number (λ it. read_from (with_item d (words line) it) (number + 1) lines) r ≡ Err fault
        → ((it : Item) → read_from (with_item d (words line) it) (number + 1) lines ≡ Err fault → Stops (with_item d (words line) it) (number + 1) lines fault) → Stops d number (line ∷ lines) fault
    go (Err kind) is h more = record {
      before = [];
      line = line;
      later = lines;
      draft = d;
      kind = kind;
      are = refl;
      texts = All-nil IsText;
      after = refl;
      says = is;
      is = sym (fault_same (fault_at number kind) fault h) ∙ (let z : number ≡ number + 0 = omega arith in ap (λ n. fault_at n kind) z);
    }
    go (Ok it) is h more =
        let s = more it h in
        let t = text_of d line it is in
        record {
          before = line ∷ s.before;
          line = s.line;
          later = s.later;
          draft = s.draft;
          kind = s.kind;
          are = ap (λ (ls : List (List ℕ)). line ∷ ls) s.are;
          texts = All-cons IsText line s.before t.0 s.texts;
          after = (it, t.1, s.after);
          says = s.says;
          is = s.is ∙ (let z : number + 1 + length s.before ≡ number + length (line ∷ s.before) = omega arith in ap (λ n. fault_at n s.kind) z);
        }

pub read_stops : (before later : List (List ℕ)) (line : List ℕ) (d d' : Draft) (number : ℕ) (kind : JobKind) → All IsText before → After d (map words before) d' → line_says d' line ≡ Err kind
    → read_from d number (before ++ line ∷ later) ≡ Err (fault_at (number + length before) kind)
read_stops [] later line d d' number kind t a s =
    let z : number ≡ number + 0 = omega arith in
    ap (read_next number (λ it. read_from (with_item d (words line) it) (number + 1) later)) (ap (λ (x : Draft). line_says x line) (sym a) ∙ s) ∙ ap (λ n. Err (fault_at n kind)) z
read_stops (x ∷ before) later line d d' number kind t a s =
    let z : number + 1 + length before ≡ number + length (x ∷ before) = omega arith in
    ap (read_next number (λ it. read_from (with_item d (words x) it) (number + 1) (before ++ line ∷ later))) (said d x (All-head IsText x before t) ∙ a.1)
    ∙ read_stops before later line (with_item d (words x) a.0) d' (number + 1) kind (All-tail IsText x before t) a.2 s
    ∙ ap (λ n. Err (fault_at n kind)) z

-- ---- behind a line more
pub second : (a b : Word) (rest row : Row) → row ≡ a ∷ b ∷ rest → word_at row 1 ≡ b
unfolding word_at
second a b rest row e = ap (λ (r : Row). word_at r 1) e

pub sound_after : (d : Draft) (row : Row) (it : Item) → IsSound d → MaySay d row it → IsSound (with_item d row it)
sound_after d row item.Nothing s m = s
sound_after d row (item.Nodes n) s m = absurd m
sound_after d row (item.Job job) s m = record {
  begun = s.begun;
  some_node = s.some_node;
  nodes = s.nodes;
  jobs = All-push (IsJob d.nodes) d.jobs job s.jobs m.fine;
  are_names = subst (λ (w : Word). AreNames (d.names ++ w ∷ [])) (sym (second (codes "job") m.name m.stages row m.is)) (names_push d.names m.name s.are_names m.named m.fresh);
  names = length-append d.names (word_at row 1 ∷ []) ∙ ap (λ n. n + 1) s.names ∙ sym (length-append d.jobs (job ∷ []));
  stages = let t = total_push d.jobs job in let u = s.stages in omega (arith, t, u);
  few = m.few;
  lines = lines_wider (length d.jobs) (length (d.jobs ++ job ∷ [])) d.lines all_idle (let l = length-append d.jobs (job ∷ []) in omega (arith, l)) s.lines;
  steps = s.steps ∙ sym (steps_wider d.jobs job d.lines all_idle s.lines);
  short = s.short;
}
sound_after d row (item.Tells line) s m = record {
  begun = s.begun;
  some_node = s.some_node;
  nodes = s.nodes;
  jobs = s.jobs;
  are_names = s.are_names;
  names = s.names;
  stages = s.stages;
  few = s.few;
  lines = lines_more (length d.jobs) d.lines line s.lines (let c = contained d.names m.name (job_of line) m.known in let k = slice_get_within d.names (job_of line) m.name m.known in let n = s.names in omega (arith, k, n)) m.timely;
  steps = ap (λ n. n + step_count d.jobs line) s.steps ∙ sym (steps_push d.jobs d.lines line);
  short = m.short;
}

pub sound_accepted : (d : Draft) → IsSound d → IsAccepted (file_of d)
sound_accepted d s = record {
  some_node = s.some_node;
  nodes = s.nodes;
  jobs = s.jobs;
  few = let f = s.few in let t = s.stages in omega (arith, f, t);
  lines = s.lines;
  short = let a = acts_many d.jobs (statuses (file_of d)) (first_of (file_of d)) d.lines in let b = s.steps in let c = s.short in omega (arith, a, b, c);
}

-- ---- rows that were read are of the grammar
pub record AreLines (d : Draft) (rows : List Row) (d' : Draft) : Type 0 where
  pub sound : IsSound d'
  pub jobs : List Job
  pub lines : List JobLine
  pub are : Lines d.names d'.names jobs lines rows
  pub all_jobs : d'.jobs ≡ d.jobs ++ jobs
  pub all_lines : d'.lines ≡ d.lines ++ lines
  pub nodes : d'.nodes ≡ d.nodes

pub sound_rows : (rows : List Row) (d d' : Draft) → IsSound d → After d rows d' → AreLines d rows d'
sound_rows [] d d' s a = subst (AreLines d []) (sym a) (record { sound = s; jobs = []; lines = []; are = ends d.names; all_jobs = sym (append-nil d.jobs); all_lines = sym (append-nil d.lines); nodes = refl })
sound_rows (row ∷ rows) d d' s a =
    let m = (row_told d s row).ok a.0 a.1 in
    go a.0 m (sound_rows rows (with_item d row a.0) d' (sound_after d row a.0 s m) a.2)
  where
    go : (it : Item) → MaySay d row it → AreLines (with_item d row it) rows d' → AreLines d (row ∷ rows) d'
    go item.Nothing m r = record { sound = r.sound; jobs = r.jobs; lines = r.lines; are = skips row m r.are; all_jobs = r.all_jobs; all_lines = r.all_lines; nodes = r.nodes }
    go (item.Nodes n) m r = absurd m
    go (item.Job job) m r = record {
      sound = r.sound;
      jobs = job ∷ r.jobs;
      lines = r.lines;
      are = subst (λ (x : Row). Lines d.names d'.names (job ∷ r.jobs) r.lines (x ∷ rows)) (sym m.is)
          (adds m.name m.stages job m.named m.fresh m.spelled (subst (λ (w : Word). Lines (d.names ++ w ∷ []) d'.names r.jobs r.lines rows) (second (codes "job") m.name m.stages row m.is) r.are));
      all_jobs = r.all_jobs ∙ append_assoc d.jobs (job ∷ []) r.jobs;
      all_lines = r.all_lines;
      nodes = r.nodes;
    }
    go (item.Tells line) m r = record {
      sound = r.sound;
      jobs = r.jobs;
      lines = line ∷ r.lines;
      are = subst (λ (x : Row). Lines d.names d'.names r.jobs (line ∷ r.lines) (x ∷ rows)) (sym m.is) (tells m.name line m.known r.are);
      all_jobs = r.all_jobs;
      all_lines = r.all_lines ∙ append_assoc d.lines (line ∷ []) r.lines;
      nodes = r.nodes;
    }

-- ---- the first line that says something
pub opened : (row : Row) (n : ℕ) → IsTotal n → IsSound (with_item first_draft row (item.Nodes n))
opened row n t = record {
  begun = refl;
  some_node = t.0;
  nodes = t.1;
  jobs = All-nil (IsJob n);
  are_names = (All-nil IsName, λ word a b x y. cc);
  names = refl;
  stages = refl;
  few = omega arith;
  lines = tt;
  steps = sym (no_steps []);
  short = omega arith;
}

abbrev pub IsSilent : Row → Type 0
IsSilent row = is_skipped row ≡ true

-- nothing was said, or a file was begun
pub first_rows : (rows : List Row) (d' : Draft) → After first_draft rows d' → (All IsSilent rows × (d' ≡ first_draft)) ⊎ (IsSound d' × Part d'.names (file_of d') rows)
first_rows [] d' a = inl (All-nil IsSilent, a)
first_rows (row ∷ rows) d' a = go a.0 ((first_told row).ok a.0 a.1) a.2 (λ b. first_rows rows d' b)
  where
    behind : (x : (All IsSilent rows × (d' ≡ first_draft)) ⊎ (IsSound d' × Part d'.names (file_of d') rows)) → IsSilent row
        → (All IsSilent (row ∷ rows) × (d' ≡ first_draft)) ⊎ (IsSound d' × Part d'.names (file_of d') (row ∷ rows))
    behind (inl h) s = inl (All-cons IsSilent row rows s h.0, h.1)
    behind (inr h) s = inr (h.0, silent row s h.1)

    go : (it : Item) → FirstItem row it → After (with_item first_draft row it) rows d' → (After first_draft rows d' → (All IsSilent rows × (d' ≡ first_draft)) ⊎ (IsSound d' × Part d'.names (file_of d') rows))
        → (All IsSilent (row ∷ rows) × (d' ≡ first_draft)) ⊎ (IsSound d' × Part d'.names (file_of d') (row ∷ rows))
    go it (inl h) b more = behind (more (subst (λ (x : Item). After (with_item first_draft row x) rows d') h.1 b)) h.0
    go it (inr h) b more =
        let r = sound_rows rows (with_item first_draft row (item.Nodes h.0)) d' (opened row h.0 h.4) (subst (λ (x : Item). After (with_item first_draft row x) rows d') h.5 b) in
        let l = subst (λ (js : List Job). Lines [] d'.names js r.lines rows) (sym r.all_jobs) r.are in
        let m = subst (λ (ls : List JobLine). Lines [] d'.names d'.jobs ls rows) (sym r.all_lines) l in
        inr (r.sound, subst (λ (x : Row). Part d'.names (file_of d') (x ∷ rows)) (sym h.2) (opens h.1 (subst (IsFor h.1) (sym r.nodes) h.3) m))
