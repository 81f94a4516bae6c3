use Rattle.std.proofs.Common.{◌≡◌, take, true}
use Rattle.std.specs.List.{list_all}
use Rattle.net_core.specs.Machine.{net_of}
use Rattle.net_checker.specs.FittingFires.{fits_reads}
use Rattle.script_blocks.specs.Expansion.{parts_expansion}
use Rattle.net_checker.proofs.fitting_fires.+fitting.Given as goal

abbrev pub invariant-parts_fit-loop-part : goal.invariant-parts_fit-loop-part
invariant-parts_fit-loop-part l =
    list_all (fits_reads l.nest (net_of l.network) l.process) (parts_expansion (take l.part-index l.parts)) ≡ true
