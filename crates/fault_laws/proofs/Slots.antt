-- what fits a place is not wrong there, and what is wrong there is so for one reason
use Rattle.std.proofs.Common.{◌≡◌, ◌⊎◌, inl, inr, ℕ, ◌<◌, ◌≤◌, List, length, sym, ◌∙◌, arith}
use Rattle.byte_ends.specs.Text.{IsNumber}
use Rattle.script_words.specs.declared.faults.Kind.{Kind}
use Rattle.script_words.specs.declared.faults.Kind.TheVariants.{BadNumber}
use Rattle.script_words.specs.Words.{Word, Row}
use Rattle.script_laws.specs.Grammar.{IsName}
use Rattle.fault_laws.specs.Slots.{Slot, total, number, node, new_script, any_script, earlier_script, variable, new_start, earlier_start, process, target, wanted, selector, signal_number, signal, action, IsNoName, IsNoTarget, IsNoSignal, Fits, Misfits}
use Rattle.script_words.specs.declared.limits.TheConstants.{LONGEST_NAME}

-- no number is both above and not above another
apart : (a b : ℕ) → a < b → b ≤ a → ⊥
apart a b lt le = omega arith

-- ---- words that name nothing
name_not : (word : Word) (kind : Kind) → IsName word → IsNoName word kind → ⊥
name_not word kind n (inl m) = m.1 n.form
name_not word kind n (inr m) = apart LONGEST_NAME (length word) m.2 n.few

target_not : (P : Word → Type 0) (word : Word) (kind : Kind) → P word → IsNoTarget P word kind → ⊥
target_not P word kind p (inl m) = m.2 p
target_not P word kind p (inr m) = m.2 p

signal_not : (P : Word → Type 0) (word : Word) (kind : Kind) → P word → IsNoSignal P word kind → ⊥
signal_not P word kind p (inl m) = m.2 p
signal_not P word kind p (inr m) = m.2 p

-- ---- what fits is not wrong
pub fits_not : (rows before : List Row) (slot : Slot) (word : Word) (kind : Kind) → Fits rows before slot word → Misfits rows before slot word kind → ⊥
fits_not rows before total word kind f (inl m) = m.1 f.0
fits_not rows before total word kind f (inr m) = m.2 f.1
fits_not rows before number word kind f m = m.1 f
fits_not rows before node word kind f (inl m) = m.1 f.0
fits_not rows before node word kind f (inr m) = apart _ _ f.1 m.2
fits_not rows before new_script word kind f (inl m) = name_not word kind f.0 m
fits_not rows before new_script word kind f (inr m) = f.1 m.2
fits_not rows before any_script word kind f (inl m) = name_not word kind f.0 m
fits_not rows before any_script word kind f (inr m) = m.2 f.1
fits_not rows before earlier_script word kind f (inl m) = name_not word kind f.0 m
fits_not rows before earlier_script word kind f (inr (inl m)) = m.2 f.1
fits_not rows before earlier_script word kind f (inr (inr m)) = m.3 f.2
fits_not rows before variable word kind f m = name_not word kind f m
fits_not rows before new_start word kind f (inl m) = name_not word kind f.0 m
fits_not rows before new_start word kind f (inr m) = f.1 m.2
fits_not rows before earlier_start word kind f (inl m) = name_not word kind f.0 m
fits_not rows before earlier_start word kind f (inr m) = m.2 f.1
fits_not rows before process word kind f m = m.1 f
fits_not rows before target word kind f m = target_not (Fits rows before target) word kind f m
fits_not rows before wanted word kind f m = target_not (Fits rows before wanted) word kind f m
fits_not rows before selector word kind f m = target_not (Fits rows before selector) word kind f m
fits_not rows before signal_number word kind f m = signal_not (Fits rows before signal_number) word kind f m
fits_not rows before signal word kind f m = signal_not (Fits rows before signal) word kind f m
fits_not rows before action word kind f m = m.1 f

-- ---- what is wrong is so for one reason
-- two kinds that are the same third one
both : (kind kind' other : Kind) → kind ≡ other → kind' ≡ other → kind ≡ kind'
both kind kind' other a b = a ∙ sym b

name_same : (word : Word) (kind kind' : Kind) → IsNoName word kind → IsNoName word kind' → kind ≡ kind'
name_same word kind kind' (inl a) (inl b) = both kind kind' _ a.0 b.0
name_same word kind kind' (inl a) (inr b) = absurd (a.1 b.1)
name_same word kind kind' (inr a) (inl b) = absurd (b.1 a.1)
name_same word kind kind' (inr a) (inr b) = both kind kind' _ a.0 b.0

target_same : (P : Word → Type 0) (word : Word) (kind kind' : Kind) → IsNoTarget P word kind → IsNoTarget P word kind' → kind ≡ kind'
target_same P word kind kind' (inl a) (inl b) = both kind kind' _ a.0 b.0
target_same P word kind kind' (inl a) (inr b) = cc (a.1, b.1)
target_same P word kind kind' (inr a) (inl b) = cc (a.1, b.1)
target_same P word kind kind' (inr a) (inr b) = both kind kind' _ a.0 b.0

signal_same : (P : Word → Type 0) (word : Word) (kind kind' : Kind) → IsNoSignal P word kind → IsNoSignal P word kind' → kind ≡ kind'
signal_same P word kind kind' (inl a) (inl b) = both kind kind' _ a.0 b.0
signal_same P word kind kind' (inl a) (inr b) = cc (a.1, b.1)
signal_same P word kind kind' (inr a) (inl b) = cc (a.1, b.1)
signal_same P word kind kind' (inr a) (inr b) = both kind kind' _ a.0 b.0

-- words at the place of a number, and at that of a name
number_same : (word : Word) (other : Kind) (Q : Type 0) (kind kind' : Kind) → ((kind ≡ BadNumber) × ¬ IsNumber word) ⊎ ((kind ≡ other) × IsNumber word × Q)
    → ((kind' ≡ BadNumber) × ¬ IsNumber word) ⊎ ((kind' ≡ other) × IsNumber word × Q) → kind ≡ kind'
number_same word other Q kind kind' (inl a) (inl b) = both kind kind' _ a.0 b.0
number_same word other Q kind kind' (inl a) (inr b) = absurd (a.1 b.1)
number_same word other Q kind kind' (inr a) (inl b) = absurd (b.1 a.1)
number_same word other Q kind kind' (inr a) (inr b) = both kind kind' _ a.0 b.0

named_same : (word : Word) (other : Kind) (Q : Type 0) (kind kind' : Kind) → IsNoName word kind ⊎ ((kind ≡ other) × IsName word × Q)
    → IsNoName word kind' ⊎ ((kind' ≡ other) × IsName word × Q) → kind ≡ kind'
named_same word other Q kind kind' (inl a) (inl b) = name_same word kind kind' a b
named_same word other Q kind kind' (inl a) (inr b) = absurd (name_not word kind b.1 a)
named_same word other Q kind kind' (inr a) (inl b) = absurd (name_not word kind' a.1 b)
named_same word other Q kind kind' (inr a) (inr b) = both kind kind' _ a.0 b.0

pub misfits_same : (rows before : List Row) (slot : Slot) (word : Word) (kind kind' : Kind) → Misfits rows before slot word kind → Misfits rows before slot word kind' → kind ≡ kind'
misfits_same rows before total word kind kind' a b = number_same word _ _ kind kind' a b
misfits_same rows before number word kind kind' a b = both kind kind' _ a.0 b.0
misfits_same rows before node word kind kind' a b = number_same word _ _ kind kind' a b
misfits_same rows before new_script word kind kind' a b = named_same word _ _ kind kind' a b
misfits_same rows before any_script word kind kind' a b = named_same word _ _ kind kind' a b
misfits_same rows before earlier_script word kind kind' (inl a) (inl b) = name_same word kind kind' a b
misfits_same rows before earlier_script word kind kind' (inl a) (inr (inl b)) = absurd (name_not word kind b.1 a)
misfits_same rows before earlier_script word kind kind' (inl a) (inr (inr b)) = absurd (name_not word kind b.1 a)
misfits_same rows before earlier_script word kind kind' (inr (inl a)) (inl b) = absurd (name_not word kind' a.1 b)
misfits_same rows before earlier_script word kind kind' (inr (inr a)) (inl b) = absurd (name_not word kind' a.1 b)
misfits_same rows before earlier_script word kind kind' (inr (inl a)) (inr (inl b)) = both kind kind' _ a.0 b.0
misfits_same rows before earlier_script word kind kind' (inr (inl a)) (inr (inr b)) = absurd (a.2 b.2)
misfits_same rows before earlier_script word kind kind' (inr (inr a)) (inr (inl b)) = absurd (b.2 a.2)
misfits_same rows before earlier_script word kind kind' (inr (inr a)) (inr (inr b)) = both kind kind' _ a.0 b.0
misfits_same rows before variable word kind kind' a b = name_same word kind kind' a b
misfits_same rows before new_start word kind kind' a b = named_same word _ _ kind kind' a b
misfits_same rows before earlier_start word kind kind' a b = named_same word _ _ kind kind' a b
misfits_same rows before process word kind kind' a b = both kind kind' _ a.0 b.0
misfits_same rows before target word kind kind' a b = target_same (Fits rows before target) word kind kind' a b
misfits_same rows before wanted word kind kind' a b = target_same (Fits rows before wanted) word kind kind' a b
misfits_same rows before selector word kind kind' a b = target_same (Fits rows before selector) word kind kind' a b
misfits_same rows before signal_number word kind kind' a b = signal_same (Fits rows before signal_number) word kind kind' a b
misfits_same rows before signal word kind kind' a b = signal_same (Fits rows before signal) word kind kind' a b
misfits_same rows before action word kind kind' a b = both kind kind' _ a.0 b.0
