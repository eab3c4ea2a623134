-- a map of words, and the table that contracts see
use Rattle.std.proofs.Common.{◌≡◌, ℕ, Bool, true, false, cond, List, [], ◌∷◌, ◌++◌, map, Option, Some, None, refl, ap, Bor}
use Rattle.std.specs.Str.{bytes_eq}
use Rattle.std.specs.Map.{lookup}
use Rattle.indexmap.specs.IndexMap.{insert_entry}
use Rattle.script_words.specs.Words.{Word, is_same}
use Rattle.script_reader.specs.Names.{Table, number_in}

abbrev pub Entries : Type 0
Entries = List (Bor (List ℕ) × ℕ)

abbrev pub seen : Entries → Table
seen es = map (λ e. (e.0.now, e.1)) es

pub lookup_seen : (word : Word) (es : Entries) → lookup (λ k. bytes_eq word k.now) es ≡ number_in (seen es) word
unfolding is_same
lookup_seen word [] = refl
lookup_seen word (e ∷ es) = ap (cond (bytes_eq word e.0.now) (Some e.1)) (lookup_seen word es)

on_miss : (b : Bool) (x : ℕ) (r : Option ℕ) → cond b (Some x) r ≡ None → (b ≡ false) × (r ≡ None)
on_miss true x r e = absurd cc
on_miss false x r e = (refl, e)

pub inserted_seen : (word : Bor (List ℕ)) (n : ℕ) (es : Entries) → number_in (seen es) word.now ≡ None
    → seen (insert_entry (λ a b. bytes_eq a.now b.now) es word n) ≡ seen es ++ (word.now, n) ∷ []
unfolding is_same
inserted_seen word n [] none = refl
inserted_seen word n (e ∷ es) none =
    let m = on_miss (bytes_eq word.now e.0.now) e.1 (number_in (seen es) word.now) none in
    rw m.0 (ap (λ (t : Table). (e.0.now, e.1) ∷ t) (inserted_seen word n es m.1))
