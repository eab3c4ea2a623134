-- what is true of the runs of schedules, by whatever decisions
use Rattle.std.specs.Prelude.{ℕ, ◌≡◌, List, [], ◌∷◌, ◌++◌, replicate, Option, None}
use Rattle.unix_calls.specs.declared.Entry.{Entry}
use Rattle.unix_calls.specs.declared.Turn.{Turn}
use Rattle.unix_calls.specs.declared.Turn.TheVariants.{Auto}
use Rattle.unix_calls.specs.declared.World.{World}
use Rattle.node_core.specs.Advance.{Ask}
use Rattle.cluster_state.specs.Cluster.{Cluster, first_cluster, Turned}
use Rattle.cluster_state.specs.Possible.{Does, Ran}
use Rattle.cluster_state.specs.Quiet.{IsQuiet}
use Rattle.cluster_state.specs.Run.{ByRule, chosen, Plays, Run}

-- the turns that a schedule makes are possible, and give what the schedule gives
abbrev pub MadeArePossible : Type 0
MadeArePossible = (world : World) (ask : Ask) (schedule : List Turn) (C : Cluster) (made : List Turn) (entries : List (Option Entry)) → Run world ask schedule C made entries → Ran world ask (first_cluster world) made C entries

-- possible turns are all made
abbrev pub PossibleAreMade : Type 0
PossibleAreMade = (world : World) (ask : Ask) (turns : List Turn) (C : Cluster) (entries : List (Option Entry)) → Ran world ask (first_cluster world) turns C entries → Run world ask turns C turns entries

-- possible turns and then turns by the rule are the run of them all, whether the rule is asked for them or they are named
abbrev pub RunsOn : Type 0
RunsOn = (world : World) (ask : Ask) (steps : List Turn) (count : ℕ) (C D : Cluster) (autos : List Turn) (entries more : List (Option Entry)) → Ran world ask (first_cluster world) steps C entries → Plays world ask C (replicate count ByRule) D autos more →
    Run world ask (steps ++ Auto count ∷ []) D (steps ++ autos) (entries ++ more) × Run world ask (steps ++ autos) D (steps ++ autos) (entries ++ more)

-- where the rule finds no turn the cluster is quiet
abbrev pub RuleEnds : Type 0
RuleEnds = (nodes : ℕ) (C : Cluster) → chosen nodes C ByRule ≡ None → IsQuiet nodes C

-- and where it is quiet the rule finds no turn
abbrev pub QuietEndsRule : Type 0
QuietEndsRule = (nodes : ℕ) (C : Cluster) → IsQuiet nodes C → chosen nodes C ByRule ≡ None

-- a turn gives one cluster and one line, however many questions are allowed
abbrev pub OneTurn : Type 0
OneTurn = (world : World) (ask : Ask) (C : Cluster) (turn : Turn) (x y : Turned) → Does world ask C turn x → Does world ask C turn y → x ≡ y

-- a list of turns gives one cluster and one list of lines
abbrev pub OneRun : Type 0
OneRun = (world : World) (ask : Ask) (C A B : Cluster) (turns : List Turn) (es fs : List (Option Entry)) → Ran world ask C turns A es → Ran world ask C turns B fs → (A ≡ B) × (es ≡ fs)

-- a run of one list and then of another is the run of both
abbrev pub RunsJoin : Type 0
RunsJoin = (world : World) (ask : Ask) (C D E : Cluster) (xs ys : List Turn) (es more : List (Option Entry)) → Ran world ask C xs D es → Ran world ask D ys E more → Ran world ask C (xs ++ ys) E (es ++ more)

-- a schedule has one run: its cluster, the turns that it makes, and their lines
abbrev pub OneSchedule : Type 0
OneSchedule = (world : World) (ask : Ask) (schedule : List Turn) (C D : Cluster) (made others : List Turn) (es fs : List (Option Entry)) → Run world ask schedule C made es → Run world ask schedule D others fs → (C ≡ D) × (made ≡ others) × (es ≡ fs)
