use Rattle.std.proofs.Common.{sym, subst}
use Rattle.script_blocks.specs.declared.blocks.Blocks.{Blocks}
use Rattle.script_blocks.specs.Scripts.{IsKept}
use Rattle.script_blocks.proofs.Depths.{nests_shallow}
use Rattle.script_blocks.proofs.script.Script.of_blocks.Goals as goal

pub invariant_of-result : goal.invariant_of-result
invariant_of-result g c =
    subst (λ (blocks : Blocks _). IsKept blocks c.in-Some.len) (sym c.in_ok-blocks.ensures.ok) (
    record {
      proper = c.requires.proper;
      shallow = nests_shallow c.args.blocks c.requires.proper c.requires.short;
      long = c.in-Some.ensures.1;
      few = c.requires.short;
    }
    )
