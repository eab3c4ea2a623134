use Rattle.std.proofs.Common.{◌≤◌, length, arith}
use Rattle.group_record.proofs.PlaceLaws.{place-within}
use Rattle.group_record.proofs.member.place_of.Goals as goal

pub overflow_add-result : goal.overflow_add-result
overflow_add-result c = let h : c.place_among.result ≤ length c.loop-rest.rest.now = rw c.place_among.ensures (place-within c.args.p c.loop-rest.rest.now) in omega arith
