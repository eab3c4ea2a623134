-- What is read of a job file's line after something else.
use Rattle.std.proofs.Common.{◌≡◌, refl, Result, Ok, Err}
use Rattle.job_files.specs.declared.faults.JobKind.{JobKind}
use Rattle.job_files.specs.MethodReading.{◌>>=◌}
use Rattle.fault_laws.proofs.Tells.{Tells, tells_err}

pub tells_next : {A B : Type 0} (r : Result A JobKind) (f : A → Result B JobKind) (P : A → Type 0) (Q : JobKind → Type 0) (P' : B → Type 0) (Q' : JobKind → Type 0)
    → Tells r P Q → ((x : A) → r ≡ Ok x → P x → Tells (f x) P' Q') → ((kind : JobKind) → Q kind → Q' kind) → Tells (r >>= f) P' Q'
tells_next (Ok x) f P Q P' Q' h g w = g x refl (h.ok x refl)
tells_next (Err kind) f P Q P' Q' h g w = tells_err kind P' Q' (w kind (h.err kind refl))
