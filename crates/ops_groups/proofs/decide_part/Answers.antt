use Rattle.ops_groups.proofs.MovedCode.{fits_counted}
use Rattle.ops_groups.proofs.decide_part.Goals as goal

pub decide_move-requires-clause-counted : goal.decide_move-requires-clause-counted
decide_move-requires-clause-counted c = fits_counted c.args.pid c.args.own.now c.args.bag.now c.requires.fits
