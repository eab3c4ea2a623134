use Rattle.std.proofs.Common.{◌≡◌, drop, take, length, map}
use Rattle.unix_names.specs.declared.Name.TheVariants.{V}
use Rattle.ordered_table.specs.Entries.{pids_of}
use Rattle.courier_core.specs.Wants.{all_added}
use Rattle.courier_core.proofs.wants.add_vprocs.Given as goal

abbrev pub invariant-loop-entry : goal.invariant-loop-entry
invariant-loop-entry g l = record {
  rest : all_added l.wants (map V (pids_of (drop l.entry-index l.vprocs))) ≡ all_added l.initial.wants (map V (pids_of l.initial.vprocs));
  front : take (length l.initial.wants) l.wants ≡ l.initial.wants;
}
