-- how many images of each process stand in a queue
use Rattle.std.specs.Prelude.{ℕ, ◌≡◌, ◌+◌, ◌-◌, List, filter, length, Option, None, Some, unwrap_or}
use Rattle.unix_names.specs.declared.Pid.{Pid}
use Rattle.ordered_table.specs.declared.Entry.{Entry}
use Rattle.ordered_table.specs.Entries.{value_at, with_value}
use Rattle.node_state.specs.declared.ready.Waiting.{Waiting}
use Rattle.node_state.specs.declared.ready.Waiting.TheVariants as waiting
use Rattle.node_state.specs.Ready.{is_image_of}

abbrev pub images_of : Pid → List Waiting → ℕ
images_of p queue = length (filter (is_image_of p) queue)

-- the count of a process; one that was never counted has none
abbrev pub count_at : List (Entry ℕ) → Pid → ℕ
count_at counts p = unwrap_or (value_at counts p) 0

-- the counts once one more stands in the queue
abbrev pub counted : List (Entry ℕ) → Waiting → List (Entry ℕ)
counted counts (waiting.Image image) = with_value counts image.pid (count_at counts image.pid + 1)
counted counts (waiting.Courier c) = counts

abbrev pub one_less : List (Entry ℕ) → Pid → Option ℕ → List (Entry ℕ)
one_less counts p None = counts
one_less counts p (Some n) = with_value counts p (n - 1)

-- the counts once one has left it
abbrev pub uncounted : List (Entry ℕ) → Waiting → List (Entry ℕ)
uncounted counts (waiting.Image image) = one_less counts image.pid (value_at counts image.pid)
uncounted counts (waiting.Courier c) = counts

-- each process has its count
abbrev pub IsCounted : List (Entry ℕ) → List Waiting → Type 0
IsCounted counts queue = (p : Pid) → count_at counts p ≡ images_of p queue
