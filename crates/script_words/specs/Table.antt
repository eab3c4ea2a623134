-- The words of files and histories, as they are written, and what each is read as.
use Rattle.std.specs.Prelude.{Bool, true, false, ◌&&◌, if◌then◌else◌, List, [], ◌∷◌, codes, Option, Some, None, find}
use Rattle.unix_names.specs.declared.states.Act.{Act}
use Rattle.unix_names.specs.declared.states.Act.TheVariants.{Default, Ignore, Catch}
use Rattle.unix_names.specs.declared.states.Errno.{Errno}
use Rattle.unix_names.specs.declared.states.Errno.TheVariants.{EPERM, ESRCH, EACCES, EINVAL, ECHILD, EAGAIN}
use Rattle.script_words.specs.declared.table.Verb.{Verb}
use Rattle.script_words.specs.declared.table.Verb.TheVariants.{Getpid, Getppid, Getpgid, Getsid, Fork, Exec, Exit, Wait, Poll, Kill, Setpgid, Setsid, Action, Mask, Pending, Migrate}
use Rattle.script_words.specs.Words.{Word, Row, is_same}

-- the word of a verb
abbrev pub verb_word : Verb → Word
verb_word Getpid = codes "getpid"
verb_word Getppid = codes "getppid"
verb_word Getpgid = codes "getpgid"
verb_word Getsid = codes "getsid"
verb_word Fork = codes "fork"
verb_word Exec = codes "exec"
verb_word Exit = codes "exit"
verb_word Wait = codes "wait"
verb_word Poll = codes "poll"
verb_word Kill = codes "kill"
verb_word Setpgid = codes "setpgid"
verb_word Setsid = codes "setsid"
verb_word Action = codes "action"
verb_word Mask = codes "mask"
verb_word Pending = codes "pending"
verb_word Migrate = codes "migrate"

abbrev pub all_verbs : List Verb
all_verbs = Getpid ∷ Getppid ∷ Getpgid ∷ Getsid ∷ Fork ∷ Exec ∷ Exit ∷ Wait ∷ Poll ∷ Kill ∷ Setpgid ∷ Setsid ∷ Action ∷ Mask ∷ Pending ∷ Migrate ∷ []

-- the verb of a word, if one has it
unfoldable pub verb_named : Word → Option Verb
verb_named word = find (λ v. is_same word (verb_word v)) all_verbs

-- the word of an action
abbrev pub act_word : Act → Word
act_word Default = codes "default"
act_word Ignore = codes "ignore"
act_word Catch = codes "catch"

abbrev pub all_acts : List Act
all_acts = Default ∷ Ignore ∷ Catch ∷ []

-- the action of a word, if one has it
unfoldable pub act_named : Word → Option Act
act_named word = find (λ a. is_same word (act_word a)) all_acts

-- the word of an error
abbrev pub errno_word : Errno → Word
errno_word EPERM = codes "EPERM"
errno_word ESRCH = codes "ESRCH"
errno_word EACCES = codes "EACCES"
errno_word EINVAL = codes "EINVAL"
errno_word ECHILD = codes "ECHILD"
errno_word EAGAIN = codes "EAGAIN"

abbrev pub all_errnos : List Errno
all_errnos = EPERM ∷ ESRCH ∷ EACCES ∷ EINVAL ∷ ECHILD ∷ EAGAIN ∷ []

-- the error of a word, if one has it
unfoldable pub errno_named : Word → Option Errno
errno_named word = find (λ e. is_same word (errno_word e)) all_errnos

-- the words of the changes of a child that are asked for beside its end: stopped ones, continued ones
abbrev pub change_words : Bool → Bool → Row
change_words false false = []
change_words true false = codes "stopped" ∷ []
change_words false true = codes "continued" ∷ []
change_words true true = codes "stopped" ∷ codes "continued" ∷ []

-- the changes of these words, if they say some or none
unfoldable pub changes_in : Row → Option (Bool × Bool)
changes_in [] = Some (false, false)
changes_in (only ∷ []) =
    if is_same only (codes "stopped") then Some (true, false)
    else (if is_same only (codes "continued") then Some (false, true) else None)
changes_in (first ∷ second ∷ []) = if is_same first (codes "stopped") && is_same second (codes "continued") then Some (true, true) else None
changes_in (first ∷ second ∷ third ∷ more) = None
