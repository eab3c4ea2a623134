-- What is true of each made file.
use Rattle.std.specs.Prelude.{◌≡◌, ℕ, ◌+◌, ◌*◌, ◌≤◌, None, Ok, ◌++◌, length}
use Rattle.byte_ends.specs.Text.{lines}
use Rattle.byte_ends.specs.declared.limits.TheConstants.{LONGEST_INPUT}
use Rattle.unix_calls.specs.declared.limits.TheConstants.{MOST_NODES}
use Rattle.unix_calls.specs.Work.{work, works, total_work}
use Rattle.unix_calls.specs.Valid.{IsValid}
use Rattle.file_parts.specs.Parts.{world_lines, schedule_lines, history_lines}
use Rattle.script_reader.specs.Files.{read_part}
use Rattle.script_laws.specs.Grammar.{IsFile}
use Rattle.load_maker.specs.declared.limits.TheConstants.{LARGEST_LOAD}
use Rattle.load_maker.specs.Made.{made, child_count, leader_count, follower_count, worker_count}
use Rattle.load_laws.specs.Worlds.{firsts, made_world}

-- what holds for each seed, 1 to 64 nodes and 1 to 200 processes
abbrev pub ForEach : (ℕ → ℕ → ℕ → Type 0) → Type 0
ForEach P = (seed nodes size : ℕ) → 1 ≤ nodes → nodes ≤ MOST_NODES → 1 ≤ size → size ≤ LARGEST_LOAD → P seed nodes size

-- a made file is of the grammar, and means its world
abbrev pub MadeIsFile : Type 0
MadeIsFile = ForEach (λ seed nodes size. IsFile (lines (made seed nodes size)) (made_world seed nodes size))

-- it is read as its world, whatever number its first line has
abbrev pub MadeIsRead : Type 0
MadeIsRead = ForEach (λ seed nodes size. (first : ℕ) → read_part first (lines (made seed nodes size)) ≡ Ok (made_world seed nodes size))

-- its world can be run, and has these nodes
abbrev pub MadeIsValid : Type 0
MadeIsValid = ForEach (λ seed nodes size. IsValid (made_world seed nodes size) × ((made_world seed nodes size).nodes ≡ nodes))

-- a worker is one process and eight statements; a leader makes its children too, and each costs it a fork and a wait
abbrev pub MadeWorks : Type 0
MadeWorks = ForEach (λ seed nodes size. works (made_world seed nodes size).scripts
    ≡ firsts (λ _. work 1 8) (worker_count size) ++ firsts (λ j. work (1 + child_count (follower_count size) j) (2 + 10 * child_count (follower_count size) j)) (leader_count size))

-- all starts make as many processes as were asked for; each leader takes two statements, and each follower ten
abbrev pub MadeWork : Type 0
MadeWork = ForEach (λ seed nodes size. (total_work (works (made_world seed nodes size).scripts) (made_world seed nodes size).starts ≡ work size (2 * leader_count size + 10 * follower_count size))
    × (2 * leader_count size + 10 * follower_count size ≤ 1816))

-- no line divides it: it has neither a schedule nor a history
abbrev pub MadeIsOnePart : Type 0
MadeIsOnePart = ForEach (λ seed nodes size. (world_lines (lines (made seed nodes size)) ≡ lines (made seed nodes size))
    × (schedule_lines (lines (made seed nodes size)) ≡ None) × (history_lines (lines (made seed nodes size)) ≡ None))

-- it is no longer than an input may be
abbrev pub MadeIsShort : Type 0
MadeIsShort = ForEach (λ seed nodes size. length (made seed nodes size) ≤ LONGEST_INPUT)
