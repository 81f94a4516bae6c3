use Rattle.std.proofs.Common.{◌≡◌, sym, ap, ◌∙◌}
use Rattle.std.specs.Prelude.{Some}
use Rattle.source_tree.specs.Systems.{array_writes, read_at, writes_from, Occurrence}
use Rattle.tree_cuts.proofs.ReadClass.{class_of, passes, read_is}
use Rattle.tree_cuts.proofs.class.in_stride_class.Goals as goal

pub returns : goal.returns
returns c =
    let n = c.args.nest.now in
    let s = c.in-Some.reader.now in
    let access = c.in-Some-get.access.now in
    let r : Occurrence = record { number = c.args.statement; statement = s; access = access } in
    let is : read_at n c.args.statement c.args.read ≡ Some r =
    read_is n c.args.statement c.args.read s access (sym c.in-Some.ensures.value) (sym c.in-Some-get.ensures.value) in
    let same : c.all_write_strides.result ≡ passes 6 (array_writes n r) = c.all_write_strides.ensures 0
    ∙ ap (λ statements. passes 6 (writes_from access.array 0 statements)) c.as_slice.ensures in
    let h = class_of n c.args.statement c.args.read r is in
    (λ t. h.0 (sym same ∙ t), λ k. same ∙ h.1 k)
