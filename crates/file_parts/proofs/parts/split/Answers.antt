use Rattle.std.proofs.Common.{take, codes, refl}
use Rattle.byte_ends.specs.Text.{lines}
use Rattle.file_parts.specs.Parts.{is_only, front_lines}
use Rattle.file_parts.proofs.Dividing.{part-of}
use Rattle.file_parts.proofs.parts.split.Goals as goal

pub returns-clause-schedule : goal.returns-clause-schedule
returns-clause-schedule c =
    let bytes = c.args.bytes.now in
    part-of bytes (take c.divided-front.result.0 bytes) c.divided-front.result.0 (front_lines (lines bytes)) (is_only (codes "schedule")) c.divided-world.result.1 refl c.divided-front.ensures.within c.divided-front.ensures.front
    c.divided-world.ensures.rest
