-- Each word of the table is read as what it is written of.
use Rattle.std.proofs.Common.{◌≡◌, Bool, true, false, Some, refl}
use Rattle.unix_names.specs.declared.states.Act.{Act}
use Rattle.unix_names.specs.declared.states.Act.TheVariants.{Default, Ignore, Catch}
use Rattle.unix_names.specs.declared.states.Errno.{Errno}
use Rattle.unix_names.specs.declared.states.Errno.TheVariants.{EPERM, ESRCH, EACCES, EINVAL, ECHILD, EAGAIN}
use Rattle.script_words.specs.declared.table.Verb.{Verb}
use Rattle.script_words.specs.declared.table.Verb.TheVariants as verb
use Rattle.script_words.specs.Words.{is_same}
use Rattle.script_words.specs.Table.{verb_word, verb_named, act_word, act_named, errno_word, errno_named, change_words, changes_in}

pub verb_named-verb_word : (v : Verb) → verb_named (verb_word v) ≡ Some v
unfolding verb_named is_same
verb_named-verb_word verb.Getpid = refl
verb_named-verb_word verb.Getppid = refl
verb_named-verb_word verb.Getpgid = refl
verb_named-verb_word verb.Getsid = refl
verb_named-verb_word verb.Fork = refl
verb_named-verb_word verb.Exec = refl
verb_named-verb_word verb.Exit = refl
verb_named-verb_word verb.Wait = refl
verb_named-verb_word verb.Poll = refl
verb_named-verb_word verb.Kill = refl
verb_named-verb_word verb.Setpgid = refl
verb_named-verb_word verb.Setsid = refl
verb_named-verb_word verb.Action = refl
verb_named-verb_word verb.Mask = refl
verb_named-verb_word verb.Pending = refl
verb_named-verb_word verb.Migrate = refl

pub act_named-act_word : (a : Act) → act_named (act_word a) ≡ Some a
unfolding act_named is_same
act_named-act_word Default = refl
act_named-act_word Ignore = refl
act_named-act_word Catch = refl

pub errno_named-errno_word : (e : Errno) → errno_named (errno_word e) ≡ Some e
unfolding errno_named is_same
errno_named-errno_word EPERM = refl
errno_named-errno_word ESRCH = refl
errno_named-errno_word EACCES = refl
errno_named-errno_word EINVAL = refl
errno_named-errno_word ECHILD = refl
errno_named-errno_word EAGAIN = refl

pub changes_in-change_words : (stopped continued : Bool) → changes_in (change_words stopped continued) ≡ Some (stopped, continued)
unfolding changes_in is_same
changes_in-change_words false false = refl
changes_in-change_words true false = refl
changes_in-change_words false true = refl
changes_in-change_words true true = refl
