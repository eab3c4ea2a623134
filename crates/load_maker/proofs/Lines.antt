-- The texts of some lines, as they are written, and those of one line more.
use Rattle.std.proofs.Common.{◌≡◌, ℕ, suc, ◌+◌, List, [], ◌∷◌, ◌++◌, codes, sym, ap, ◌∙◌, Result, Ok, Err, OnOk, arith}
use Rattle.std.proofs.lemmas.List.{append_assoc, append-nil}
use Rattle.std.proofs.lemmas.Grind.{flat_map-append}
use Rattle.std.specs.Fmt.{decimal}
use Rattle.std.specs.List.{flat_map}
use Rattle.load_maker.specs.Made.{Row, line_of, worker_head, worker_tail, worker_rows, all_workers, after_workers, after_statement, leader_head, leader_rows, all_leaders, after_leaders, child_count, fork_row, fork_rows, after_children, wait_rows, start_row, all_starts, stepped, drawn, child_name, worker_name}

pub leader_head_text : (j : ℕ) → codes "script lead" ++ (decimal j ++ codes "\naction USR1 catch\n") ≡ flat_map line_of (leader_head j)
leader_head_text j = ap (λ t. codes "script lead" ++ t) (sym (append_assoc (decimal j) (10 ∷ []) (codes "action USR1 catch\n")))

pub worker_head_text : (i : ℕ) → codes "script w" ++ (decimal i ++ codes "\nmask USR1\ngetpid\n") ≡ flat_map line_of (worker_head i)
worker_head_text i = ap (λ t. codes "script w" ++ t) (sym (append_assoc (decimal i) (10 ∷ []) (codes "mask USR1\ngetpid\n")))

pub worker_tail_text : (i : ℕ) → codes "pending\nmask\nexit " ++ (decimal i ++ codes "\nend\n") ≡ flat_map line_of (worker_tail i)
worker_tail_text i = ap (λ t. codes "pending\nmask\nexit " ++ t) (sym (append_assoc (decimal i) (10 ∷ []) (codes "end\n")))

one_more : (i : ℕ) → i + 1 ≡ suc i
one_more i = omega arith

-- the text of some lines and one more
one_line_more : (rows : List Row) (row : Row) → flat_map line_of (rows ++ row ∷ []) ≡ flat_map line_of rows ++ line_of row
one_line_more rows row = flat_map-append line_of rows (row ∷ []) ∙ ap (λ t. flat_map line_of rows ++ t) (append-nil (line_of row))

fork_more : (workers nodes i x : ℕ) → flat_map line_of (fork_rows workers nodes (i + 1) x)
    ≡ flat_map line_of (fork_rows workers nodes i x) ++ line_of (fork_row workers nodes i (after_children i x))
fork_more workers nodes i x = ap (λ n. flat_map line_of (fork_rows workers nodes n x)) (one_more i) ∙ one_line_more (fork_rows workers nodes i x) (fork_row workers nodes i (after_children i x))

-- what follows if it does, where there is a value
pub follows_ok : {T E : Type 0} (r : Result T E) (P Q : Type 0) → (P → Q) → OnOk r P → OnOk r Q
follows_ok (Ok x) P Q f p = f p
follows_ok (Err e) P Q f p = tt

-- a text and what is written behind it
pub appended : (front some more whole text text' : List ℕ) → text ≡ front ++ some → text' ≡ text ++ more → whole ≡ some ++ more → text' ≡ front ++ whole
appended front some more whole text text' a b e = b ∙ ap (λ t. t ++ more) a ∙ append_assoc front some more ∙ ap (λ t. front ++ t) (sym e)

-- one fork more, where these were drawn
pub fork_more_at : (workers nodes i x s s1 s2 worker node : ℕ) → s ≡ after_children i x → s1 ≡ stepped s → s2 ≡ stepped s1
    → worker ≡ drawn workers s1 → node ≡ drawn nodes s2
    → flat_map line_of (fork_rows workers nodes (i + 1) x)
    ≡ flat_map line_of (fork_rows workers nodes i x) ++ line_of (codes "fork" ∷ child_name i ∷ worker_name worker ∷ codes "at" ∷ decimal node ∷ [])
fork_more_at workers nodes i x s s1 s2 worker node e e1 e2 ew en =
    let first = e1 ∙ ap stepped e in
    let worker_is = ew ∙ ap (drawn workers) first in
    let node_is = en ∙ ap (drawn nodes) (e2 ∙ ap stepped first) in
    let forks = flat_map line_of (fork_rows workers nodes i x) in
    let drawn_node = drawn nodes (stepped (stepped (after_children i x))) in
    fork_more workers nodes i x
    ∙ ap (λ w. forks ++ line_of (codes "fork" ∷ child_name i ∷ worker_name w ∷ codes "at" ∷ decimal drawn_node ∷ [])) (sym worker_is)
    ∙ ap (λ n. forks ++ line_of (codes "fork" ∷ child_name i ∷ worker_name worker ∷ codes "at" ∷ decimal n ∷ [])) (sym node_is)

pub child_more : (i x s s1 s2 : ℕ) → s ≡ after_children i x → s1 ≡ stepped s → s2 ≡ stepped s1 → s2 ≡ after_children (i + 1) x
child_more i x s s1 s2 e e1 e2 = e2 ∙ ap stepped (e1 ∙ ap stepped e) ∙ sym (ap (λ n. after_children n x) (one_more i))

pub wait_more : (i : ℕ) → flat_map line_of (wait_rows (i + 1)) ≡ flat_map line_of (wait_rows i) ++ codes "wait any\n"
wait_more i = ap (λ n. flat_map line_of (wait_rows n)) (one_more i) ∙ one_line_more (wait_rows i) (codes "wait" ∷ codes "any" ∷ [])

pub start_more : (nodes i : ℕ) → flat_map line_of (all_starts nodes (i + 1)) ≡ flat_map line_of (all_starts nodes i) ++ line_of (start_row nodes i)
start_more nodes i = ap (λ n. flat_map line_of (all_starts nodes n)) (one_more i) ∙ one_line_more (all_starts nodes i) (start_row nodes i)

-- one worker more
pub worker_more : (nodes i x s : ℕ) → s ≡ after_workers i x
    → flat_map line_of (all_workers nodes (i + 1) x) ≡ flat_map line_of (all_workers nodes i x) ++ flat_map line_of (worker_rows nodes i s)
worker_more nodes i x s e = ap (λ n. flat_map line_of (all_workers nodes n x)) (one_more i)
    ∙ flat_map-append line_of (all_workers nodes i x) (worker_rows nodes i (after_workers i x))
    ∙ ap (λ t. flat_map line_of (all_workers nodes i x) ++ flat_map line_of (worker_rows nodes i t)) (sym e)

pub worker_state_more : (i x s : ℕ) → s ≡ after_workers i x → after_statement (after_statement s) ≡ after_workers (i + 1) x
worker_state_more i x s e = ap (λ t. after_statement (after_statement t)) e ∙ sym (ap (λ n. after_workers n x) (one_more i))

-- one leader more, with so many workers and children
pub leader_more : (workers nodes followers children j x s : ℕ) → children ≡ child_count followers j → s ≡ after_leaders followers j x
    → flat_map line_of (all_leaders workers nodes followers (j + 1) x)
    ≡ flat_map line_of (all_leaders workers nodes followers j x) ++ flat_map line_of (leader_rows workers nodes children j s)
leader_more workers nodes followers children j x s ec e =
    let before = flat_map line_of (all_leaders workers nodes followers j x) in
    ap (λ n. flat_map line_of (all_leaders workers nodes followers n x)) (one_more j)
    ∙ flat_map-append line_of (all_leaders workers nodes followers j x) (leader_rows workers nodes (child_count followers j) j (after_leaders followers j x))
    ∙ ap (λ t. before ++ flat_map line_of (leader_rows workers nodes (child_count followers j) j t)) (sym e)
    ∙ ap (λ n. before ++ flat_map line_of (leader_rows workers nodes n j s)) (sym ec)

pub leader_state_more : (followers children j x s : ℕ) → children ≡ child_count followers j → s ≡ after_leaders followers j x
    → after_children children s ≡ after_leaders followers (j + 1) x
leader_state_more followers children j x s ec e =
    ap (λ n. after_children n s) ec ∙ ap (after_children (child_count followers j)) e ∙ sym (ap (λ n. after_leaders followers n x) (one_more j))

-- four pieces behind a text, one after the other
pub four_pieces : (front a b c d t1 t2 t3 t4 whole : List ℕ) → t1 ≡ front ++ a → t2 ≡ t1 ++ b → t3 ≡ t2 ++ c → t4 ≡ t3 ++ d → whole ≡ a ++ (b ++ (c ++ d)) → t4 ≡ front ++ whole
four_pieces front a b c d t1 t2 t3 t4 whole e1 e2 e3 e4 e =
    e4 ∙ ap (λ t. t ++ d) (e3 ∙ ap (λ t. t ++ c) (e2 ∙ ap (λ t. t ++ b) e1))
    ∙ ap (λ t. t ++ d) (append_assoc (front ++ a) b c)
    ∙ append_assoc (front ++ a) (b ++ c) d
    ∙ append_assoc front a (b ++ c ++ d)
    ∙ ap (λ t. front ++ (a ++ t)) (append_assoc b c d)
    ∙ ap (λ t. front ++ t) (sym e)

-- the text of a worker, of its parts
pub worker_text : (i : ℕ) (first second : Row) → flat_map line_of (worker_head i ++ (first ∷ second ∷ worker_tail i))
    ≡ flat_map line_of (worker_head i) ++ (line_of first ++ (line_of second ++ flat_map line_of (worker_tail i)))
worker_text i first second = flat_map-append line_of (worker_head i) (first ∷ second ∷ worker_tail i)

-- the text of a leader, of its parts
pub leader_text : (j : ℕ) (forks waits : List Row) → flat_map line_of (leader_head j ++ (forks ++ (waits ++ (codes "end" ∷ []) ∷ [])))
    ≡ flat_map line_of (leader_head j) ++ (flat_map line_of forks ++ (flat_map line_of waits ++ codes "end\n"))
leader_text j forks waits =
    flat_map-append line_of (leader_head j) (forks ++ (waits ++ (codes "end" ∷ []) ∷ []))
    ∙ ap (λ t. flat_map line_of (leader_head j) ++ t) (flat_map-append line_of forks (waits ++ (codes "end" ∷ []) ∷ [])
    ∙ ap (λ t. flat_map line_of forks ++ t) (flat_map-append line_of waits ((codes "end" ∷ []) ∷ [])))
