-- what is read, and why something is not
use Rattle.std.proofs.Common.{◌≡◌, Bool, true, false, cond, refl, subst, Result, Ok, Err}
use Rattle.script_words.specs.declared.faults.Kind.{Kind}
use Rattle.script_words.specs.Words.{◌>>=◌}

-- what is read without a fault is as P says, and a fault is as Q says
pub record Tells {A E : Type 0} (r : Result A E) (P : A → Type 0) (Q : E → Type 0) : Type 0 where
  pub ok : (x : A) → r ≡ Ok x → P x
  pub err : (kind : E) → r ≡ Err kind → Q kind

ok_same : {A E : Type 0} (x y : A) → ◌≡◌ {A = Result A E} (Ok x) (Ok y) → x ≡ y
ok_same x y e = cc

err_same : {A E : Type 0} (x y : E) → ◌≡◌ {A = Result A E} (Err x) (Err y) → x ≡ y
err_same x y e = cc

pub tells_ok : {A E : Type 0} (x : A) (P : A → Type 0) (Q : E → Type 0) → P x → Tells (Ok x) P Q
tells_ok {A} {E} x P Q p = record { ok = λ y e. subst P (ok_same {E = E} x y e) p; err = λ kind e. cc }

pub tells_err : {A E : Type 0} (kind : E) (P : A → Type 0) (Q : E → Type 0) → Q kind → Tells (Err kind) P Q
tells_err {A} kind P Q q = record { ok = λ y e. cc; err = λ k e. subst Q (err_same {A = A} kind k e) q }

pub tells_next : {A B : Type 0} (r : Result A Kind) (f : A → Result B Kind) (P : A → Type 0) (Q : Kind → Type 0) (P' : B → Type 0) (Q' : Kind → Type 0)
    → Tells r P Q → ((x : A) → r ≡ Ok x → P x → Tells (f x) P' Q') → ((kind : Kind) → Q kind → Q' kind) → Tells (r >>= f) P' Q'
tells_next (Ok x) f P Q P' Q' h g w = g x refl (h.ok x refl)
tells_next (Err kind) f P Q P' Q' h g w = tells_err kind P' Q' (w kind (h.err kind refl))

pub tells_choice : {A E : Type 0} (b : Bool) (x y : Result A E) (P : A → Type 0) (Q : E → Type 0) → (b ≡ true → Tells x P Q) → (b ≡ false → Tells y P Q) → Tells (cond b x y) P Q
tells_choice true x y P Q f g = f refl
tells_choice false x y P Q f g = g refl

pub tells_weaker : {A E : Type 0} (r : Result A E) (P P' : A → Type 0) (Q Q' : E → Type 0) → Tells r P Q → ((x : A) → P x → P' x) → ((kind : E) → Q kind → Q' kind) → Tells r P' Q'
tells_weaker r P P' Q Q' h p q = record { ok = λ x e. p x (h.ok x e); err = λ kind e. q kind (h.err kind e) }
