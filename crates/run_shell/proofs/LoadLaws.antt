-- what is so of a made file that is run
use Rattle.std.proofs.Common.{◌≡◌, ◌-◌, ℕ, Bool, List, length, take, ap, sym, subst, ◌∙◌, arith, Option, Ok, Err}
use Rattle.std.proofs.Math.Seq.{take-length}
use Rattle.std.specs.Prelude.{◌<◌, ◌^◌, slice_range}
use Rattle.byte_ends.specs.Text.{lines}
use Rattle.unix_calls.specs.declared.Entry.{Entry}
use Rattle.unix_calls.specs.declared.World.{World}
use Rattle.unix_calls.specs.Valid.{IsValid}
use Rattle.script_words.specs.declared.Fault.{Fault}
use Rattle.script_reader.specs.Files.{read_part}
use Rattle.script_laws.proofs.Whole.{file_read}
use Rattle.cluster_state.specs.Possible.{history_of}
use Rattle.load_maker.specs.Made.{made}
use Rattle.load_laws.specs.Worlds.{made_world}
use Rattle.load_laws.proofs.Files.{made_file, made_valid}
use Rattle.load_laws.proofs.Meant.{made_read}
use Rattle.load_laws.proofs.Short.{made_short}
use Rattle.run_shell.specs.Load.{IsWithin, load_turns, counts, counts_text, CountsRun, Loads, LoadIsOne}
use Rattle.run_shell.proofs.Runs.{same_run}

-- a made file fits what is read
pub fits : (seed nodes size : ℕ) → IsWithin nodes size → length (made seed nodes size) < 2 ^ 31
fits seed nodes size w = let short = made_short seed nodes size w.some_node w.few_nodes w.some w.few in omega (arith, short)

-- it is read as its world
pub read_is : (seed nodes size : ℕ) (world : World) → IsWithin nodes size → read_part 1 (lines (made seed nodes size)) ≡ Ok world → world ≡ made_world seed nodes size
read_is seed nodes size world w e = same (made_read seed nodes size w.some_node w.few_nodes w.some w.few 1) e
  where
    same : read_part 1 (lines (made seed nodes size)) ≡ Ok (made_world seed nodes size) → read_part 1 (lines (made seed nodes size)) ≡ Ok world → world ≡ made_world seed nodes size
    same a b = cc

-- it has no fault
pub no_fault : (seed nodes size : ℕ) (fault : Fault) → IsWithin nodes size → read_part 1 (lines (made seed nodes size)) ≡ Err fault → ⊥
no_fault seed nodes size fault w e = both (made_read seed nodes size w.some_node w.few_nodes w.some w.few 1) e
  where
    both : read_part 1 (lines (made seed nodes size)) ≡ Ok (made_world seed nodes size) → read_part 1 (lines (made seed nodes size)) ≡ Err fault → ⊥
    both a b = cc

-- its world can be run
pub valid_load : (seed nodes size : ℕ) → IsWithin nodes size → IsValid (made_world seed nodes size)
valid_load seed nodes size w = (made_valid seed nodes size w.some_node w.few_nodes w.some w.few).0

-- what is said of the run of its world is what is said of the load
pub loads : (seed nodes size : ℕ) (text : List ℕ) → IsWithin nodes size → CountsRun (made_world seed nodes size) load_turns text → Loads seed nodes size text
loads seed nodes size text w c = record {
  world = made_world seed nodes size;
  reads = made_file seed nodes size w.some_node w.few_nodes w.some w.few;
  on = (made_valid seed nodes size w.some_node w.few_nodes w.some w.few).1;
  writes = c;
}

-- its text is one
pub load_one : LoadIsOne
load_one seed nodes size text text' a b = same_counts b.world text text' (subst (λ (w : World). CountsRun w load_turns text) same a.writes) b.writes
  where
    same_counts : (world : World) (text text' : List ℕ) → CountsRun world load_turns text → CountsRun world load_turns text' → text ≡ text'
    same_counts world text text' x y =
        let one = same_run world load_turns x.run y.run in
        x.writes
        ∙ ap (λ (ls : List (Option Entry)). counts_text (counts world (history_of ls) x.run.is_quiet)) one.lines
        ∙ ap (λ (q : Bool). counts_text (counts world (history_of y.run.lines) q)) one.is_quiet
        ∙ sym y.writes

    both : read_part 1 (lines (made seed nodes size)) ≡ Ok a.world → read_part 1 (lines (made seed nodes size)) ≡ Ok b.world → a.world ≡ b.world
    both e f = cc

    same : a.world ≡ b.world
    same = both (file_read 1 (lines (made seed nodes size)) a.world a.reads) (file_read 1 (lines (made seed nodes size)) b.world b.reads)

no_less : (n : ℕ) → n - 0 ≡ n
no_less n = omega arith

-- the whole of a text is its part from 0 to its length
pub whole_slice : (xs ys : List ℕ) (n : ℕ) → xs ≡ ys → n ≡ length ys → slice_range xs 0 n ≡ ys
whole_slice xs ys n e h = ap (λ zs. slice_range zs 0 n) e ∙ ap (λ k. take k ys) (no_less n ∙ h) ∙ take-length ys
