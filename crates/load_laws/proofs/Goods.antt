-- the rows of a made file can be written as lines
use Rattle.std.proofs.Common.{◌≡◌, ◌++◌, ◌&&◌, ℕ, zero, suc, ◌<◌, ◌≤◌, ◌^◌, ◌%◌, Bool, true, false, [], ◌∷◌, codes, refl, ap, ◌∙◌, arith, mod-lt}
use Rattle.std.specs.Fmt.{decimal}
use Rattle.unix_calls.specs.declared.Statement.{Statement}
use Rattle.file_parts.specs.Parts.{stands_alone}
use Rattle.load_maker.specs.Made.{Row, drawn, stepped, after_statement, after_workers, after_children, after_leaders, child_count, worker_name, leader_name, child_name, start_name, statement_row, worker_rows, all_workers, fork_row, fork_rows, wait_rows, leader_rows, all_leaders, start_row, all_starts}
use Rattle.load_laws.proofs.Rows.{is_fine, is_fine_row, IsGood, AreGood, good-append, printed-decimal, fine-decimal}
use Rattle.load_laws.proofs.Sizes.{AreSizes, drawn-less, few-children, few-workers, each-drawn}

and-true : (a b : Bool) → a ≡ true → b ≡ true → (a && b) ≡ true
and-true a b ea eb = ap (λ t. t && b) ea ∙ eb

fine-worker : (n : ℕ) → n < 2 ^ 32 → is_fine (worker_name n) ≡ true
fine-worker n h = printed-decimal n h

fine-leader : (n : ℕ) → n < 2 ^ 32 → is_fine (leader_name n) ≡ true
fine-leader n h = printed-decimal n h

fine-child : (n : ℕ) → n < 2 ^ 32 → is_fine (child_name n) ≡ true
fine-child n h = printed-decimal n h

fine-start : (n : ℕ) → n < 2 ^ 32 → is_fine (start_name n) ≡ true
fine-start n h = printed-decimal n h

-- a row whose words are known, and one with a word more
good-known : (row : Row) → is_fine_row row ≡ true → stands_alone (codes "schedule") row ≡ false → stands_alone (codes "history") row ≡ false → IsGood row
good-known row a b c = record { fine = a; schedule = b; history = c }

module _ (nodes leaders followers workers : ℕ) (s : AreSizes nodes leaders followers workers) where
  drawn-node : (x : ℕ) → is_fine (decimal (drawn nodes x)) ≡ true
  drawn-node x = let lt = drawn-less nodes x s.some_node in let few = s.few_nodes in fine-decimal (drawn nodes x) (omega arith)

  good-drawn : (x : ℕ) → IsGood (statement_row nodes x)
  good-drawn x = each-drawn (λ (row : Row) (s : Statement). IsGood row) (drawn 6 (stepped x)) nodes (stepped x)
      (good-known _ refl refl refl) (good-known _ refl refl refl) (good-known _ refl refl refl)
      (good-known _ (and-true _ true (drawn-node (stepped (stepped x))) refl) refl refl)
      (good-known _ refl refl refl) (good-known _ refl refl refl)

  good-worker : (i x : ℕ) → i < 2 ^ 32 → AreGood (worker_rows nodes i x)
  good-worker i x h = (
    good-known _ (and-true _ true (fine-worker i h) refl) refl refl,
    (
      good-known _ refl refl refl,
      (
        good-known _ refl refl refl,
        (
          good-drawn x,
          (
            good-drawn (after_statement x),
            (
              good-known _ refl refl refl,
              (
                good-known _ refl refl refl,
                (
                  good-known _ (and-true _ true (fine-decimal i h) refl) refl refl,
                  (good-known _ refl refl refl, tt),
                ),
              ),
            ),
          ),
        ),
      ),
    ),
  )

  pub good-workers : (n x : ℕ) → n ≤ workers → AreGood (all_workers nodes n x)
  good-workers zero x le = tt
  good-workers (suc n) x le =
      let few = few-workers nodes leaders followers workers s in
      good-append (all_workers nodes n x) (worker_rows nodes n (after_workers n x)) (good-workers n x (omega arith)) (good-worker n (after_workers n x) (omega arith))

  good-forks : (n x : ℕ) → n ≤ workers → AreGood (fork_rows workers nodes n x)
  good-forks zero x le = tt
  good-forks (suc n) x le =
      let few = few-workers nodes leaders followers workers s in
      let state = after_children n x in
      let which = drawn-less workers (stepped state) (omega arith) in
      good-append (fork_rows workers nodes n x) (fork_row workers nodes n state ∷ []) (good-forks n x (omega arith))
      (good-known _ (and-true _ _ (fine-child n (omega arith)) (and-true _ _ (fine-worker (drawn workers (stepped state)) (omega arith)) (and-true _ true (drawn-node (stepped (stepped state))) refl))) refl refl, tt)

  good-waits : (n : ℕ) → AreGood (wait_rows n)
  good-waits zero = tt
  good-waits (suc n) = good-append (wait_rows n) ((codes "wait" ∷ codes "any" ∷ []) ∷ []) (good-waits n) (good-known _ refl refl refl, tt)

  good-leader : (children j x : ℕ) → children ≤ workers → j < 2 ^ 32 → AreGood (leader_rows workers nodes children j x)
  good-leader children j x le h = (
    good-known _ (and-true _ true (fine-leader j h) refl) refl refl,
    (
      good-known _ refl refl refl,
      good-append (fork_rows workers nodes children x) (wait_rows children ++ (codes "end" ∷ []) ∷ []) (good-forks children x le)
          (good-append (wait_rows children) ((codes "end" ∷ []) ∷ []) (good-waits children) (good-known _ refl refl refl, tt)),
    ),
  )

  pub good-leaders : (n x : ℕ) → n ≤ leaders → AreGood (all_leaders workers nodes followers n x)
  good-leaders zero x le = tt
  good-leaders (suc n) x le =
      let few = s.few_leaders in
      good-append (all_leaders workers nodes followers n x) (leader_rows workers nodes (child_count followers n) n (after_leaders followers n x))
      (good-leaders n x (omega arith)) (good-leader (child_count followers n) n (after_leaders followers n x) (few-children nodes leaders followers workers n s) (omega arith))

  good-start : (j : ℕ) → j < 2 ^ 32 → IsGood (start_row nodes j)
  good-start j h =
      let lt = mod-lt j s.some_node in
      let few = s.few_nodes in
      good-known _ (and-true _ _ (fine-decimal (j % nodes) (omega arith)) (and-true _ _ (fine-leader j h) (and-true _ true (fine-start j h) refl))) refl refl

  pub good-starts : (n : ℕ) → n ≤ leaders → AreGood (all_starts nodes n)
  good-starts zero le = tt
  good-starts (suc n) le =
      let few = s.few_leaders in
      good-append (all_starts nodes n) (start_row nodes n ∷ []) (good-starts n (omega arith)) (good-start n (omega arith), tt)

  pub good-cluster : IsGood (codes "cluster" ∷ decimal nodes ∷ [])
  good-cluster = let few = s.few_nodes in good-known _ (and-true _ true (fine-decimal nodes (omega arith)) refl) refl refl
