-- A word that is shorter than each verb's is none of them.
use Rattle.std.proofs.Common.{◌≡◌, Bool, true, false, Option, Some, None, List, [], ◌∷◌, length, ◌<◌, ◌≤◌, refl, ap, ◌∙◌, arith}
use Rattle.std.specs.Prelude.{find, if◌then◌else◌}
use Rattle.std.proofs.lemmas.Slice.Eq.{bytes_eq-Decides}
use Rattle.script_words.specs.declared.table.Verb.{Verb}
use Rattle.script_words.specs.declared.table.Verb.TheVariants as verb
use Rattle.script_words.specs.Words.{Word, is_same}
use Rattle.script_words.specs.Table.{verb_word, all_verbs, verb_named}

other_length : (a b : Word) → length a < length b → is_same a b ≡ false
unfolding is_same
other_length a b less = go (is_same a b) refl
  where
    go : (same : Bool) → is_same a b ≡ same → same ≡ false
    go false e = refl
    go true e = absurd (omega (arith, less, ap length ((bytes_eq-Decides a b).0 e)))

four_letters : (v : Verb) → 4 ≤ length (verb_word v)
four_letters verb.Getpid = omega arith
four_letters verb.Getppid = omega arith
four_letters verb.Getpgid = omega arith
four_letters verb.Getsid = omega arith
four_letters verb.Fork = omega arith
four_letters verb.Exec = omega arith
four_letters verb.Exit = omega arith
four_letters verb.Wait = omega arith
four_letters verb.Poll = omega arith
four_letters verb.Kill = omega arith
four_letters verb.Setpgid = omega arith
four_letters verb.Setsid = omega arith
four_letters verb.Action = omega arith
four_letters verb.Mask = omega arith
four_letters verb.Pending = omega arith
four_letters verb.Migrate = omega arith

none_found : (test : Verb → Bool) (verbs : List Verb) → ((v : Verb) → test v ≡ false) → find test verbs ≡ None
none_found test [] fails = refl
none_found test (v ∷ verbs) fails = ap (λ (passes : Bool). if passes then Some v else find test verbs) (fails v) ∙ none_found test verbs fails

pub short_is_no_verb : (word : Word) → length word < 4 → verb_named word ≡ None
unfolding verb_named
short_is_no_verb word less = none_found (λ v. is_same word (verb_word v)) all_verbs (λ v. other_length word (verb_word v) (omega (arith, less, four_letters v)))
