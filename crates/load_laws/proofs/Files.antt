-- a made file means its world
use Rattle.std.proofs.Common.{◌≡◌, ◌++◌, ℕ, ◌+◌, ◌*◌, ◌≤◌, List, [], ◌∷◌, length, length-append, map, codes, refl, sym, ap, ◌∙◌, subst, arith, None}
use Rattle.std.specs.List.{flat_map}
use Rattle.std.specs.Fmt.{decimal}
use Rattle.byte_ends.specs.Text.{lines}
use Rattle.unix_calls.specs.declared.World.{World}
use Rattle.unix_calls.specs.declared.Start.{Start}
use Rattle.unix_calls.specs.Work.{work}
use Rattle.file_parts.specs.Parts.{world_lines, schedule_lines, history_lines}
use Rattle.script_laws.specs.Grammar.{Part, opens, IsFile}
use Rattle.script_laws.specs.Writable.{assigned_by, AreInOrder, variables_of}
use Rattle.load_maker.specs.Made.{Row, line_of, after_workers, child_name, start_name, all_workers, all_leaders, all_starts, leader_count, follower_count, worker_count}
use Rattle.load_laws.specs.Worlds.{firsts, start, world_of}
use Rattle.load_laws.specs.Laws.{MadeIsFile, MadeIsValid, MadeWorks, MadeWork, MadeIsOnePart}
use Rattle.load_laws.proofs.Lists.{length-firsts, map-firsts}
use Rattle.load_laws.proofs.Rows.{AreGood, good-append, written, text-lines, text-rows, text-utf8, one_part}
use Rattle.load_laws.proofs.Names.{script_names, variable_names}
use Rattle.load_laws.proofs.Sizes.{AreSizes, sizes, few-workers, naming}
use Rattle.load_laws.proofs.Goods.{good-workers, good-leaders, good-starts, good-cluster}
use Rattle.load_laws.proofs.Spelled.{number-for, all-lines}
use Rattle.load_laws.proofs.Orders.{scripts-order}
use Rattle.load_laws.proofs.Works.{all-works, whole-work}
use Rattle.load_laws.proofs.Sound.{world-valid}

module _ (seed nodes leaders followers workers : ℕ) (s : AreSizes nodes leaders followers workers) where
  abbrev W : World
  W = world_of seed nodes leaders followers workers

  abbrev Rows : List Row
  Rows = (codes "cluster" ∷ decimal nodes ∷ []) ∷ (all_workers nodes workers seed ++ all_leaders workers nodes followers leaders (after_workers workers seed) ++ all_starts nodes leaders)

  all-good : AreGood Rows
  all-good =
      let some = s.some_node in (
        good-cluster nodes leaders followers workers s,
        good-append (all_workers nodes workers seed ++ all_leaders workers nodes followers leaders (after_workers workers seed)) (all_starts nodes leaders)
            (good-append (all_workers nodes workers seed) (all_leaders workers nodes followers leaders (after_workers workers seed))
            (good-workers nodes leaders followers workers s workers seed (omega arith)) (good-leaders nodes leaders followers workers s leaders (after_workers workers seed) (omega arith)))
            (good-starts nodes leaders followers workers s leaders (omega arith)),
      )

  part : Part (naming workers leaders) W Rows
  part = let few = s.few_nodes in opens (decimal nodes) (number-for nodes (omega arith)) (all-lines nodes leaders followers workers W.starts s seed (after_workers workers seed))

  total : length (naming workers leaders).variables ≡ workers + leaders
  total =
      let both = length-append (firsts child_name workers) (firsts start_name leaders) in
      let first = length-firsts child_name workers in
      let second = length-firsts start_name leaders in
      omega arith

  ordered : AreInOrder 0 (variables_of W) W.vars
  ordered =
      subst (λ (ns : List ℕ). AreInOrder 0 (flat_map assigned_by W.scripts ++ ns) (workers + leaders)) (sym (map-firsts (λ (t : Start). t.var) (start nodes workers) leaders))
      (scripts-order nodes leaders followers workers s (after_workers workers seed) seed)

  file : IsFile (map written Rows) W
  file =
      let few = few-workers nodes leaders followers workers s in
      let few_led = s.few_leaders in
      record {
        naming = naming workers leaders;
        texts = text-utf8 Rows all-good;
        part = subst (Part (naming workers leaders) W) (sym (text-rows Rows all-good)) part;
        scripts = script_names workers leaders (omega arith) (omega arith);
        variables = variable_names workers leaders (omega arith) (omega arith);
        total = total;
        in_order = ordered;
        some_start = let some = s.some_leader in let long = length-firsts (start nodes workers) leaders in omega arith;
        valid = world-valid seed nodes leaders followers workers s;
      }

  pub text-file : IsFile (lines (flat_map line_of Rows)) W
  text-file = subst (λ (ls : List (List ℕ)). IsFile ls W) (sym (text-lines Rows all-good)) file

  pub text-part : (world_lines (lines (flat_map line_of Rows)) ≡ lines (flat_map line_of Rows)) × (schedule_lines (lines (flat_map line_of Rows)) ≡ None) × (history_lines (lines (flat_map line_of Rows)) ≡ None)
  text-part = subst (λ (ls : List (List ℕ)). (world_lines ls ≡ ls) × (schedule_lines ls ≡ None) × (history_lines ls ≡ None)) (sym (text-lines Rows all-good)) (one_part Rows all-good)

pub made_file : MadeIsFile
made_file seed nodes size a b c d = text-file seed nodes (leader_count size) (follower_count size) (worker_count size) (sizes nodes size a b c d)

pub made_valid : MadeIsValid
made_valid seed nodes size a b c d = (world-valid seed nodes (leader_count size) (follower_count size) (worker_count size) (sizes nodes size a b c d), refl)

pub made_part : MadeIsOnePart
made_part seed nodes size a b c d = text-part seed nodes (leader_count size) (follower_count size) (worker_count size) (sizes nodes size a b c d)

pub made_works : MadeWorks
made_works seed nodes size a b c d = all-works nodes (leader_count size) (follower_count size) (worker_count size) (sizes nodes size a b c d) seed (after_workers (worker_count size) seed)

all_of : (size : ℕ) → 1 ≤ size → leader_count size + follower_count size ≡ size
all_of size some = omega arith

few_statements : (size : ℕ) → 1 ≤ size → size ≤ 200 → 2 * leader_count size + 10 * follower_count size ≤ 1816
few_statements size some few = omega arith

pub made_work : MadeWork
made_work seed nodes size a b c d = (
  whole-work nodes (leader_count size) (follower_count size) (worker_count size) (sizes nodes size a b c d) seed (after_workers (worker_count size) seed)
      ∙ ap (λ n. work n (2 * leader_count size + 10 * follower_count size)) (all_of size c),
  few_statements size c d,
)
