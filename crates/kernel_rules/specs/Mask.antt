-- mask, pending and migrate: they are never refused, and send nothing
use Rattle.std.specs.Prelude.{Bool, List, map, ℕ}
use Rattle.unix_calls.specs.declared.Reply.{Reply}
use Rattle.process_table.specs.Changes.{masked_at}
use Rattle.process_table.specs.declared.Row.{Row}
use Rattle.kernel_rules.specs.Replies.{is_set}

-- ---- mask is answered with the mask before it (POSIX.1-2017, XSH pthread_sigmask)
abbrev pub is_old_mask : Row → Reply → Bool
is_old_mask r reply = is_set r.sig.mask reply

-- the mask is set, without the signals that can't be blocked
abbrev pub after_mask : List Row → Row → ℕ → List Row
after_mask rows r set = map (masked_at r.pid set) rows

-- ---- pending changes nothing (POSIX.1-2017, XSH sigpending)
-- what is pending
abbrev pub is_pending_set : Row → Reply → Bool
is_pending_set r reply = is_set r.sig.pending reply

-- ---- migrate is answered with ok, and changes nothing
