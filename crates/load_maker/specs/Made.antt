-- made files: which lines a seed gives
use Rattle.std.specs.Prelude.{ℕ, zero, suc, ◌+◌, ◌-◌, ◌*◌, ◌/◌, ◌%◌, ◌^◌, min, ◌==◌, if◌then◌else◌, List, [], ◌∷◌, ◌++◌, codes}
use Rattle.std.specs.List.{flat_map}
use Rattle.std.specs.Fmt.{decimal}

-- ---- draws
-- the state behind a draw
abbrev pub stepped : ℕ → ℕ
stepped x = (1664525 * x + 1013904223) % 2 ^ 32

-- what a draw below n gives that leaves this state
abbrev pub drawn : ℕ → ℕ → ℕ
drawn n x = (x / 65536) % n

-- ---- lines
-- the words of a line
abbrev pub Row : Type 0
Row = List (List ℕ)

-- the rest of a line: each word behind a space, and a newline
abbrev pub rest_of : Row → List ℕ
rest_of [] = 10 ∷ []
rest_of (word ∷ words) = 32 ∷ word ++ rest_of words

-- a line: its words one space apart, and a newline
abbrev pub line_of : Row → List ℕ
line_of [] = 10 ∷ []
line_of (word ∷ words) = word ++ rest_of words

-- a name with its number
abbrev pub numbered : List ℕ → ℕ → List ℕ
numbered name n = name ++ decimal n

abbrev pub worker_name : ℕ → List ℕ
worker_name i = numbered (codes "w") i

abbrev pub leader_name : ℕ → List ℕ
leader_name j = numbered (codes "lead") j

abbrev pub child_name : ℕ → List ℕ
child_name i = numbered (codes "c") i

abbrev pub start_name : ℕ → List ℕ
start_name j = numbered (codes "p") j

-- ---- drawn statements
-- the statement of a drawn number; a migration draws its node too, from the state behind the number
abbrev pub statement_of : ℕ → ℕ → ℕ → Row
statement_of number nodes x =
    if number == 0 then codes "getppid" ∷ []
    else (if number == 1 then codes "getpgid" ∷ codes "0" ∷ []
    else (if number == 2 then codes "setpgid" ∷ codes "0" ∷ codes "0" ∷ []
    else (if number == 3 then codes "migrate" ∷ decimal (drawn nodes (stepped x)) ∷ []
    else (if number == 4 then codes "kill" ∷ codes "0" ∷ codes "USR1" ∷ []
    else codes "setsid" ∷ []))))

-- the statement that is drawn from a state
abbrev pub statement_row : ℕ → ℕ → Row
statement_row nodes x = statement_of (drawn 6 (stepped x)) nodes (stepped x)

-- the state behind it
abbrev pub after_statement : ℕ → ℕ
after_statement x = if drawn 6 (stepped x) == 3 then stepped (stepped x) else stepped x

-- ---- workers
abbrev pub worker_head : ℕ → List Row
worker_head i = (codes "script" ∷ worker_name i ∷ []) ∷ (codes "mask" ∷ codes "USR1" ∷ []) ∷ (codes "getpid" ∷ []) ∷ []

abbrev pub worker_tail : ℕ → List Row
worker_tail i = (codes "pending" ∷ []) ∷ (codes "mask" ∷ []) ∷ (codes "exit" ∷ decimal i ∷ []) ∷ (codes "end" ∷ []) ∷ []

-- a worker: a mask, some calls of which two are drawn, and an end with its number
abbrev pub worker_rows : ℕ → ℕ → ℕ → List Row
worker_rows nodes i x = worker_head i ++ (statement_row nodes x ∷ statement_row nodes (after_statement x) ∷ worker_tail i)

-- the state behind so many workers
abbrev pub after_workers : ℕ → ℕ → ℕ
after_workers zero x = x
after_workers (suc i) x = after_statement (after_statement (after_workers i x))

-- the first workers, each drawn from the state behind those before it
abbrev pub all_workers : ℕ → ℕ → ℕ → List Row
all_workers nodes zero x = []
all_workers nodes (suc i) x = all_workers nodes i x ++ worker_rows nodes i (after_workers i x)

-- ---- leaders
-- the state behind so many children
abbrev pub after_children : ℕ → ℕ → ℕ
after_children zero x = x
after_children (suc i) x = stepped (stepped (after_children i x))

-- a fork of a drawn worker at a drawn node
abbrev pub fork_row : ℕ → ℕ → ℕ → ℕ → Row
fork_row workers nodes i x =
    codes "fork" ∷ child_name i ∷ worker_name (drawn workers (stepped x)) ∷ codes "at" ∷ decimal (drawn nodes (stepped (stepped x))) ∷ []

-- the forks of the first children, each drawn from the state behind those before it
abbrev pub fork_rows : ℕ → ℕ → ℕ → ℕ → List Row
fork_rows workers nodes zero x = []
fork_rows workers nodes (suc i) x = fork_rows workers nodes i x ++ fork_row workers nodes i (after_children i x) ∷ []

-- a wait for each child
abbrev pub wait_rows : ℕ → List Row
wait_rows zero = []
wait_rows (suc i) = wait_rows i ++ (codes "wait" ∷ codes "any" ∷ []) ∷ []

-- how many children the j-th leader has: at most 8 of those that are left
abbrev pub child_count : ℕ → ℕ → ℕ
child_count followers j = min (followers - 8 * j) 8

abbrev pub leader_head : ℕ → List Row
leader_head j = (codes "script" ∷ leader_name j ∷ []) ∷ (codes "action" ∷ codes "USR1" ∷ codes "catch" ∷ []) ∷ []

-- a leader: it forks its children and waits as often
abbrev pub leader_rows : ℕ → ℕ → ℕ → ℕ → ℕ → List Row
leader_rows workers nodes children j x = leader_head j ++ (fork_rows workers nodes children x ++ (wait_rows children ++ (codes "end" ∷ []) ∷ []))

-- the state behind so many leaders
abbrev pub after_leaders : ℕ → ℕ → ℕ → ℕ
after_leaders followers zero x = x
after_leaders followers (suc j) x = after_children (child_count followers j) (after_leaders followers j x)

abbrev pub all_leaders : ℕ → ℕ → ℕ → ℕ → ℕ → List Row
all_leaders workers nodes followers zero x = []
all_leaders workers nodes followers (suc j) x =
    all_leaders workers nodes followers j x ++ leader_rows workers nodes (child_count followers j) j (after_leaders followers j x)

-- the start of the j-th leader, on one node after the other
abbrev pub start_row : ℕ → ℕ → Row
start_row nodes j = codes "start" ∷ decimal (j % nodes) ∷ leader_name j ∷ start_name j ∷ []

abbrev pub all_starts : ℕ → ℕ → List Row
all_starts nodes zero = []
all_starts nodes (suc j) = all_starts nodes j ++ start_row nodes j ∷ []

-- ---- a file
-- how many processes lead: one of nine
abbrev pub leader_count : ℕ → ℕ
leader_count size = (size + 8) / 9

-- how many follow
abbrev pub follower_count : ℕ → ℕ
follower_count size = size - leader_count size

-- how many scripts of followers there are: at most 8
abbrev pub worker_count : ℕ → ℕ
worker_count size = min (follower_count size) 8

-- the lines of the file that a seed gives, for so many nodes and processes
abbrev pub made_rows : ℕ → ℕ → ℕ → List Row
made_rows seed nodes size =
    (codes "cluster" ∷ decimal nodes ∷ [])
    ∷ all_workers nodes (worker_count size) seed
    ++ all_leaders (worker_count size) nodes (follower_count size) (leader_count size) (after_workers (worker_count size) seed)
    ++ all_starts nodes (leader_count size)

-- the file that a seed gives
abbrev pub made : ℕ → ℕ → ℕ → List ℕ
made seed nodes size = flat_map line_of (made_rows seed nodes size)
