use Rattle.std.proofs.Common.{refl, sym, ◌∙◌}
use Rattle.unix_calls.proofs.world.World.is_valid.Goals as goal

pub returns-then-has_starts : goal.returns-then-has_starts
returns-then-has_starts c = (
  λ t. record {
    limits = c.if-not-has_limits.ensures.0 refl;
    scripts = c.if-not-has_scripts.ensures.0 refl;
    starts = c.if-has_starts.ensures.0 refl;
    work = sym c.has_little_work.ensures ∙ t;
  },
  λ v. c.has_little_work.ensures ∙ v.work,
)
