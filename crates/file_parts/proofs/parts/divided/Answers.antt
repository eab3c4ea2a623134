use Rattle.std.proofs.Common.{◌≡◌, ◌<◌, ◌≤◌, ◌∷◌, false, drop, length, arith}
use Rattle.std.specs.Prelude.{slice_range}
use Rattle.byte_ends.specs.Text.{lines}
use Rattle.file_parts.specs.Parts.{is_only}
use Rattle.file_parts.proofs.Dividing.{reached-next}
use Rattle.file_parts.proofs.parts.divided.Goals as goal

pub loop-from-preserved : goal.loop-from-preserved
loop-from-preserved c =
    let text = c.args.text.now in
    let o = c.in-Some.ensures.order in
    let line = c.in-Some.ensures.line in
    let next = c.in-Some.ensures.next in
    let first : lines (drop c.loop-from.at text) ≡ slice_range text c.in-Some.from c.in-Some.to ∷ lines (drop c.in-Some.next text) = cc in
    let past : c.loop-from.at < c.in-Some.next = omega arith in
    let most : c.in-Some.next ≤ length text = omega arith in
    let fails : is_only c.args.word.now (slice_range text c.in-Some.from c.in-Some.to) ≡ false = cc in
    reached-next text c.loop-from.at c.loop-from.count (is_only c.args.word.now) c.loop-from.invariant
    (slice_range text c.in-Some.from c.in-Some.to) c.in-Some.next first past most next fails
