use Rattle.std.proofs.Common.{◌++◌, length-append, arith}
use Rattle.std.proofs.KnownBytes.{Consumes-trans}
use Rattle.byte_ends.proofs.Pieces.{on_err}
use Rattle.byte_ends.proofs.whole.read_all.Goals as goal

pub returns-in_err-read_piece-clause-gone : goal.returns-in_err-read_piece-clause-gone
returns-in_err-read_piece-clause-gone g c =
    let lost = c.in_err-read_piece.ensures.gone in
    let bytes = c.loop-buffer.bytes.items in
    on_err c.from_residual.result (
      bytes ++ lost.0,
      omega (arith, length-append bytes lost.0),
      Consumes-trans _ _ _ bytes lost.0 c.loop-buffer.invariant.0 lost.2,
    )
