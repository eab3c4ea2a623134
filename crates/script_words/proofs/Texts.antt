use Rattle.std.proofs.Common.{◌≡◌, ℕ, List, Result, Ok, Err, sym, is_ok, MatchResult}
use Rattle.std.specs.Str.{IsUtf8, is_utf8}
use Rattle.std.proofs.lemmas.Str.{IsUtf8-from_is_utf8, is_utf8-from_IsUtf8}
use Rattle.std.proofs.lemmas.Bool.{false_from_ne_true}

-- whether bytes were found to be a text
pub text_found : {A E : Type 0} (bytes : List ℕ) (r : Result A E) (P : A → Type 0) (Q : E → Type 0) → MatchResult r (λ s. P s × IsUtf8 bytes) (λ e. ¬ (IsUtf8 bytes) × Q e) → is_ok r ≡ is_utf8 bytes
text_found bytes (Ok x) P Q h = sym (is_utf8-from_IsUtf8 bytes h.1)
text_found bytes (Err e) P Q h = sym (false_from_ne_true (is_utf8 bytes) (λ yes. h.0 (IsUtf8-from_is_utf8 bytes yes)))
