use Rattle.std.proofs.Common.{ap, ◌∙◌, length, min, arith}
use Rattle.script_blocks.specs.Expansion.{parts_expansion}
use Rattle.script_blocks.proofs.Counts.{capped_repeat}
use Rattle.script_blocks.proofs.blocks.+length.Goals as goal

pub capped_len_of_part-returns-in-Repeat : goal.capped_len_of_part-returns-in-Repeat
capped_len_of_part-returns-in-Repeat g t c =
    let inner =
    c.capped_len.ensures ∙ ap (λ ps. min (length (parts_expansion ps)) 4611686018427387905) c.as_slice.ensures in
    let law =
    capped_repeat c.in-Repeat.count c.in-Repeat.body c.args.part.now c.capped_len.result 18446744073709551615
    4611686018427387905 (omega arith) c.in-Repeat.is inner in
    cc
