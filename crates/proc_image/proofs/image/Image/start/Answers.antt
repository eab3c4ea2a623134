use Rattle.std.proofs.Common.{List, length, get_or, ◌≡◌, ◌<◌, ℕ, subst, sym}
use Rattle.std.proofs.lemmas.Option.{slice_get-get_or}
use Rattle.unix_calls.specs.declared.Start.{Start}
use Rattle.unix_calls.specs.declared.World.{World}
use Rattle.unix_calls.specs.Valid.{IsValid}
use Rattle.proc_image.proofs.image.Image.start.Goals as goal

-- the script of a start is one of the world's
script_there : (world : World) (read : List Start) (k : ℕ) (d : Start) → read ≡ world.starts → IsValid world → k < length world.starts → (get_or read k d).script < length world.scripts
script_there world read k d same valid h =
    let P : List Start → Type 0 = λ starts. (get_or starts k d).script < length world.scripts in
    subst P (sym same) (valid.starts k (get_or world.starts k d) (slice_get-get_or world.starts k d h)).script

pub returns-clause-fits : goal.returns-clause-fits
returns-clause-fits c = record {
  script = script_there _ _ _ _ c.as_slice.ensures c.requires.valid c.requires.start;
  vars = c.in_ok-first_vars.ensures.len;
}
