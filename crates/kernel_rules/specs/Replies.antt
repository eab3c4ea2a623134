-- the forms of replies, and a reply that tells a refusal
use Rattle.std.specs.Prelude.{◌==◌, Bool, None, Option, Some, false, true, ℕ}
use Rattle.unix_names.specs.declared.Errno.{Errno}
use Rattle.unix_names.specs.declared.Errno.TheVariants.{EACCES, EAGAIN, ECHILD, EINVAL, EPERM, ESRCH}
use Rattle.unix_calls.specs.declared.Reply.{Reply}
use Rattle.unix_calls.specs.declared.Reply.TheVariants.{Fine, NoReply, Number, Refused, Set}

abbrev pub is_fine : Reply → Bool
is_fine Fine = true
is_fine _ = false

abbrev pub is_no_reply : Reply → Bool
is_no_reply NoReply = true
is_no_reply _ = false

abbrev pub is_number : ℕ → Reply → Bool
is_number n (Number m) = m == n
is_number n _ = false

abbrev pub is_set : ℕ → Reply → Bool
is_set set (Set other) = other == set
is_set set _ = false

abbrev pub is_same_errno : Errno → Errno → Bool
is_same_errno EPERM EPERM = true
is_same_errno ESRCH ESRCH = true
is_same_errno EACCES EACCES = true
is_same_errno EINVAL EINVAL = true
is_same_errno ECHILD ECHILD = true
is_same_errno EAGAIN EAGAIN = true
is_same_errno _ _ = false

abbrev pub is_refused_with : Errno → Reply → Bool
is_refused_with e (Refused f) = is_same_errno e f
is_refused_with e _ = false

-- the first refusal, or where none holds the other reply
abbrev pub is_first : Option Errno → Reply → Bool → Bool
is_first (Some e) reply otherwise = is_refused_with e reply
is_first None reply otherwise = otherwise
