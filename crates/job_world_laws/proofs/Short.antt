-- The text of a job file's world is no longer than an input may be.
use Rattle.std.proofs.Common.{◌≡◌, ◌<◌, ◌≤◌, ◌+◌, ◌*◌, ◌^◌, ℕ, suc, List, [], ◌∷◌, ◌++◌, map, length, length-append, refl, sym, subst, arith, Option, All, codes}
use Rattle.std.specs.Fmt.{decimal}
use Rattle.std.specs.List.{flat_map}
use Rattle.std.proofs.lemmas.List.{length-map}
use Rattle.std.proofs.lemmas.List.Elements.{All-nil, All-cons, All-head, All-tail, All-append}
use Rattle.unix_names.specs.declared.Signal.{Signal}
use Rattle.unix_names.specs.declared.Signal.TheVariants.{Hup, Stop}
use Rattle.unix_names.specs.Signals.{number_of, word_of}
use Rattle.unix_names.proofs.SignalLaws.{signal_of-number_of}
use Rattle.text_laws.proofs.Numbers.{IsNumber-decimal}
use Rattle.unix_calls.specs.declared.Script.{Script}
use Rattle.unix_calls.specs.declared.World.{World}
use Rattle.unix_calls.specs.declared.limits.TheConstants.{MOST_STATEMENTS}
use Rattle.script_words.specs.Words.{Row}
use Rattle.script_words.specs.Writing.{spaced, word_or_number, signal_word}
use Rattle.script_writer.specs.Written.{script_name, statement_words, script_rows, scripts_rows, start_row, file_rows, line_text, file_text}
use Rattle.job_plans.specs.Acts.{Act, Begin, Await, Join, Send, Reap, statement_of, stage_statements}
use Rattle.job_plans.specs.Plans.{Plan}
use Rattle.job_plans.specs.Worlds.{script_with, shell_start, world_with}
use Rattle.job_world_laws.proofs.Counts.{IsBelow}
use Rattle.job_world_laws.proofs.Places.{IsPlaced, IsScripted}

-- a byte behind each word, and a newline
abbrev room : Row → ℕ
room [] = 1
room (word ∷ words) = suc (length word) + room words

spaced_room : (words : Row) → length (spaced words) + 1 ≡ room words
spaced_room [] = refl
spaced_room (word ∷ words) = let l = length-append word (spaced words) in let r = spaced_room words in omega (arith, l, r)

line_room : (row : Row) → length (line_text row) ≤ room row
line_room [] = omega arith
line_room (word ∷ words) =
    let l = length-append (word ++ spaced words) (10 ∷ []) in
    let m = length-append word (spaced words) in
    let r = spaced_room words in
    omega (arith, l, m, r)

-- a row whose line has at most 64 bytes
abbrev IsShort : Row → Type 0
IsShort row = room row ≤ 64

text_room : (rows : List Row) → All IsShort rows → length (flat_map line_text rows) ≤ 64 * length rows
text_room [] all = omega arith
text_room (row ∷ rows) all =
    let l = length-append (line_text row) (flat_map line_text rows) in
    let here = line_room row in
    let short = All-head IsShort row rows all in
    let rest = text_room rows (All-tail IsShort row rows all) in
    omega (arith, l, here, short, rest)

few_digits : (n : ℕ) → n < 2 ^ 32 → length (decimal n) ≤ 10
few_digits n h = (IsNumber-decimal n h).few

short_word : (s : Signal) → length (word_of s) ≤ 10
short_word Hup = omega arith
short_word _ = omega arith

short_signal : (s : Signal) → length (signal_word (number_of s)) ≤ 10
short_signal s = subst (λ (o : Option Signal). length (word_or_number (number_of s) o) ≤ 10) (sym (signal_of-number_of s)) (short_word s)

-- ---- statements
act_short : (nodes count scripts : ℕ) → nodes < 2 ^ 31 → count < 2 ^ 31 → scripts < 2 ^ 31 → (a : Act) → IsBelow count a → IsPlaced nodes a → IsScripted scripts a → IsShort (statement_words (statement_of a))
act_short nodes count scripts x y z (Begin v script node) b p s =
    let d = few_digits v (omega (arith, b, y)) in let e = few_digits script (omega (arith, s, z)) in let f = few_digits node.0 (omega (arith, p, x)) in
    omega (arith, d, e, f)
act_short nodes count scripts x y z (Await v) b p s = let d = few_digits v (omega (arith, b, y)) in omega (arith, d)
act_short nodes count scripts x y z (Join v f) b p s = let d = few_digits v (omega (arith, b.0, y)) in let e = few_digits f (omega (arith, b.1, y)) in omega (arith, d, e)
act_short nodes count scripts x y z (Send f s') b p s = let d = few_digits f (omega (arith, b, y)) in let e = short_signal s' in omega (arith, d, e)
act_short nodes count scripts x y z (Reap v) b p s = let d = few_digits v (omega (arith, b, y)) in omega (arith, d)

acts_short : (nodes count scripts : ℕ) → nodes < 2 ^ 31 → count < 2 ^ 31 → scripts < 2 ^ 31 → (acts : List Act) → All (IsBelow count) acts → All (IsPlaced nodes) acts → All (IsScripted scripts) acts
    → All IsShort (map statement_words (map statement_of acts))
acts_short nodes count scripts x y z [] b p s = All-nil IsShort
acts_short nodes count scripts x y z (a ∷ acts) b p s =
    All-cons IsShort (statement_words (statement_of a)) (map statement_words (map statement_of acts))
    (act_short nodes count scripts x y z a (All-head (IsBelow count) a acts b) (All-head (IsPlaced nodes) a acts p) (All-head (IsScripted scripts) a acts s))
    (acts_short nodes count scripts x y z acts (All-tail (IsBelow count) a acts b) (All-tail (IsPlaced nodes) a acts p) (All-tail (IsScripted scripts) a acts s))

stage_short : (e : ℕ) → e < 256 → All IsShort (map statement_words (stage_statements e))
stage_short e small =
    let d = few_digits e (omega (arith, small)) in
    let stop = short_signal Stop in
    All-cons IsShort (codes "kill" ∷ codes "self" ∷ signal_word (number_of Stop) ∷ []) ((codes "getpid" ∷ []) ∷ (codes "exit" ∷ decimal e ∷ []) ∷ []) (omega (arith, stop))
    (All-cons IsShort (codes "getpid" ∷ []) ((codes "exit" ∷ decimal e ∷ []) ∷ []) (omega arith) (All-cons IsShort (codes "exit" ∷ decimal e ∷ []) [] (omega (arith, d)) (All-nil IsShort)))

-- ---- scripts
script_short : (n : ℕ) (script : Script) → n < 2 ^ 31 → All IsShort (map statement_words script.statements) → All IsShort (script_rows n script)
script_short n script few all =
    let d = few_digits n (omega (arith, few)) in
    All-cons IsShort (codes "script" ∷ script_name n ∷ []) (map statement_words script.statements ++ (codes "end" ∷ []) ∷ []) (omega (arith, d))
    (All-append IsShort (map statement_words script.statements) ((codes "end" ∷ []) ∷ []) all (All-cons IsShort (codes "end" ∷ []) [] (omega arith) (All-nil IsShort)))

-- rows of scripts from the n-th on: the stages', and then the shell's
rows_from : (n : ℕ) (es : List ℕ) (shell : Script) → n + length es < 2 ^ 31 → All (λ e. e < 256) es → All IsShort (map statement_words shell.statements)
    → All IsShort (scripts_rows n (map (λ e. script_with (stage_statements e)) es ++ shell ∷ [])) × (length (scripts_rows n (map (λ e. script_with (stage_statements e)) es ++ shell ∷ [])) ≡ 5 * length es + (length shell.statements + 2))
rows_from n [] shell few small all =
    let l = length-append (script_rows n shell) [] in
    let m = length-append (map statement_words shell.statements) ((codes "end" ∷ []) ∷ []) in
    let k = length-map shell.statements statement_words in
    (All-append IsShort (script_rows n shell) [] (script_short n shell (omega (arith, few)) all) (All-nil IsShort), omega (arith, l, m, k))
rows_from n (e ∷ es) shell few small all =
    let rest = rows_from (n + 1) es shell (omega (arith, few)) (All-tail (λ e. e < 256) e es small) all in
    let stage : Script = script_with (stage_statements e) in
    let later : List Row = scripts_rows (n + 1) (map (λ e. script_with (stage_statements e)) es ++ shell ∷ []) in
    let l = length-append (script_rows n stage) later in
    let r = rest.1 in
    (All-append IsShort (script_rows n stage) later (script_short n stage (omega (arith, few)) (stage_short e (All-head (λ e. e < 256) e es small))) rest.0, omega (arith, l, r))

module _ (nodes : ℕ) (es : List ℕ) (plan : Plan) (few_nodes : nodes ≤ 64) (few_scripts : length es ≤ 63) (small : All (λ e. e < 256) es) (few_stages : plan.count ≤ 63) (few : length plan.acts ≤ MOST_STATEMENTS)
    (below : All (IsBelow plan.count) plan.acts) (placed : All (IsPlaced nodes) plan.acts) (scripted : All (IsScripted (length es)) plan.acts) where
  abbrev W : World
  W = world_with nodes es plan

  abbrev shell : Script
  shell = script_with (map statement_of plan.acts)

  pub short_text : length (file_text W) ≤ 1048576
  short_text =
      let shell_rows = acts_short nodes plan.count (length es) (omega (arith, few_nodes)) (omega (arith, few_stages)) (omega (arith, few_scripts)) plan.acts below placed scripted in
      let rows = rows_from 0 es shell (omega (arith, few_scripts)) small shell_rows in
      let d = few_digits nodes (omega (arith, few_nodes)) in
      let e = few_digits (length es) (omega (arith, few_scripts)) in
      let f = few_digits plan.count (omega (arith, few_stages)) in
      let start = start_row W.starts (shell_start (length es) plan.count) in
      let zero = few_digits 0 (omega arith) in
      let all = All-cons IsShort (codes "cluster" ∷ decimal nodes ∷ []) (scripts_rows 0 W.scripts ++ start ∷ []) (omega (arith, d))
      (All-append IsShort (scripts_rows 0 W.scripts) (start ∷ []) rows.0 (All-cons IsShort start [] (omega (arith, zero, e, f)) (All-nil IsShort))) in
      let many = length-append (scripts_rows 0 W.scripts) (start ∷ []) in
      let count = rows.1 in
      let acts = length-map plan.acts statement_of in
      let room = text_room (file_rows W) all in
      omega (arith, room, many, count, acts, few, few_scripts)
