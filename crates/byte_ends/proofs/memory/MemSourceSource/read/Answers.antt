use Rattle.std.proofs.Common.{◌≡◌, ◌-◌, ◌≤◌, ◌<◌, ◌++◌, min, length, take, drop, rules, arith, ◌∙◌, sym, length-append, length-drop}
use Rattle.std.proofs.lemmas.Grind.{common_steps}
use Rattle.byte_ends.proofs.Pieces.{given-rest, none-left}
use Rattle.byte_ends.proofs.memory.MemSourceSource.read.Goals as goal

pub returns-clause-bytes : goal.returns-clause-bytes
returns-clause-bytes c =
    let bytes = c.self.inside.bytes.items in
    let at = c.self.inside.at in
    let n = c.min-count.result in
    let left : c.args.self.now.left ≡ drop at bytes = search rules in
    let front : c.copy_from_slice.new.self ≡ take n (drop at bytes) = grind (arith, common_steps, c.copy_from_slice.ensures.after) in
    let count : n ≡ min (length c.args.buf.now) (length bytes - at) = grind (arith, common_steps) in
    let size : length c.copy_from_slice.new.self ≡ n = grind (arith, common_steps, c.copy_from_slice.ensures.len) in (
      left ∙ given-rest c.copy_from_slice.new.self (drop n c.args.buf.now) bytes at n front (omega arith),
      λ none some. none-left bytes at n (length c.args.buf.now) count none (omega (arith, length-append c.copy_from_slice.new.self (drop n c.args.buf.now), length-drop n c.args.buf.now, size)),
    )
