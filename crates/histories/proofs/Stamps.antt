-- the words of a line of a stamped entry
use Rattle.std.proofs.Common.{◌≡◌, ℕ, suc, ◌-◌, ◌^◌, ◌<◌, ◌≤◌, true, List, [], ◌∷◌, length, take, drop, map, get_or, Bor, ap, sym, subst, ◌∙◌, arith}
use Rattle.std.proofs.lemmas.Bool.{and_parts}
use Rattle.std.proofs.Math.Seq.{take-length}
use Rattle.unix_calls.specs.declared.Entry.{Entry}
use Rattle.std.specs.List.{list_all, flat_map}
use Rattle.std.specs.Fmt.{decimal}
use Rattle.script_words.specs.Words.{Word, Row}
use Rattle.histories.specs.declared.stamped.Stamped.{Stamped}
use Rattle.histories.specs.Reading.{AreWords, SpellsEntry}
use Rattle.histories.specs.Stamped.{SpellsStamped}
use Rattle.histories.proofs.Solid.{is_solid, solid-words, solid-read}

-- words behind the first two of a line are words of a line
pub rest_words : (a b : Word) (rest : Row) → AreWords (a ∷ b ∷ rest) → AreWords rest
rest_words a b rest (line, e) =
    let all : list_all is_solid (a ∷ b ∷ rest) ≡ true = ap (list_all is_solid) e ∙ solid-words line in
    let behind = (and_parts (is_solid b) (list_all is_solid rest) (and_parts (is_solid a) (list_all is_solid (b ∷ rest)) all).1).1 in
    (flat_map (λ w. 32 ∷ w) rest, sym (solid-read rest behind))

no_less : (n : ℕ) → suc (suc n) - 2 ≡ n
no_less n = omega arith

-- a row of two words at least: its first two, and the rest
pub two_parts : (ws : List (Bor Word)) (d : Bor Word) → 2 ≤ length ws
    → map (λ w. w.now) ws ≡ (get_or ws 0 d).now ∷ (get_or ws 1 d).now ∷ map (λ w. w.now) (take (length ws - 2) (drop 2 ws))
two_parts [] d h = absurd (omega arith)
two_parts (a ∷ []) d h = absurd (omega arith)
two_parts (a ∷ b ∷ ws) d h = ap (λ (vs : List (Bor Word)). a.now ∷ b.now ∷ map (λ w. w.now) vs) (sym (ap (λ n. take n ws) (no_less (length ws)) ∙ take-length ws))

-- what stands at the front of words that spell a stamped entry
record Front (a b : Word) (rest : Row) (s : Stamped) : Type 0 where
  pub first : a ≡ decimal s.place
  pub second : b ≡ decimal s.uid
  pub behind : SpellsEntry rest s.entry

front : (a b : Word) (rest : Row) (s : Stamped) → SpellsStamped (a ∷ b ∷ rest) s → Front a b rest s
front a b rest s m =
    let spelled = m.spelled in
    let one : a ≡ decimal s.place = cc in
    let two : b ≡ decimal s.uid = cc in
    let same : m.rest ≡ rest = cc in
    record { first = one; second = two; behind = subst (λ (r : Row). SpellsEntry r s.entry) same m.entry }

module _ (ws : List (Bor Word)) (d : Bor Word) (long : 2 ≤ length ws) where
  abbrev rest_of : Row
  rest_of = map (λ w. w.now) (take (length ws - 2) (drop 2 ws))

  front_of : (s : Stamped) → SpellsStamped (map (λ w. w.now) ws) s → Front (get_or ws 0 d).now (get_or ws 1 d).now rest_of s
  front_of s m = front (get_or ws 0 d).now (get_or ws 1 d).now rest_of s (subst (λ (r : Row). SpellsStamped r s) (two_parts ws d long) m)

  pub rest_are : AreWords (map (λ w. w.now) ws) → AreWords rest_of
  rest_are are = rest_words (get_or ws 0 d).now (get_or ws 1 d).now rest_of (subst AreWords (two_parts ws d long) are)

  pub stamped_found : (place uid : ℕ) (e : Entry) → ((get_or ws 0 d).now ≡ decimal place) × (place < 2 ^ 64) → ((get_or ws 1 d).now ≡ decimal uid) × (uid < 2 ^ 32) → SpellsEntry rest_of e
      → SpellsStamped (map (λ w. w.now) ws) (record { place = place; uid = uid; entry = e })
  stamped_found place uid e p u m = record {
    rest = rest_of;
    spelled = two_parts ws d long ∙ ap (λ (w : Word). w ∷ (get_or ws 1 d).now ∷ rest_of) p.0 ∙ ap (λ (w : Word). decimal place ∷ w ∷ rest_of) u.0;
    place = p.1;
    user = u.1;
    entry = m;
  }

  pub no_place : ((n : ℕ) → n < 2 ^ 64 → (get_or ws 0 d).now ≡ decimal n → ⊥) → (s : Stamped) → SpellsStamped (map (λ w. w.now) ws) s → ⊥
  no_place none s m = none s.place m.place (front_of s m).first

  pub no_user : ((n : ℕ) → n < 2 ^ 32 → (get_or ws 1 d).now ≡ decimal n → ⊥) → (s : Stamped) → SpellsStamped (map (λ w. w.now) ws) s → ⊥
  no_user none s m = none s.uid m.user (front_of s m).second

  pub no_entry : ((e : Entry) → SpellsEntry rest_of e → ⊥) → (s : Stamped) → SpellsStamped (map (λ w. w.now) ws) s → ⊥
  no_entry none s m = none s.entry (front_of s m).behind

pub no_words : (ws : List (Bor Word)) → length ws < 2 → (s : Stamped) → SpellsStamped (map (λ w. w.now) ws) s → ⊥
no_words [] h s m = let e = m.spelled in absurd (cc)
no_words (a ∷ []) h s m = let e = m.spelled in absurd (cc)
no_words (a ∷ b ∷ ws) h s m = absurd (omega arith)
