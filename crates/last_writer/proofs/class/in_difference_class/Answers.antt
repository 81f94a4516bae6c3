use Rattle.std.proofs.Common.{◌≡◌, ◌<◌, length, sym, ap, ◌∙◌, arith, refl}
use Rattle.std.specs.Prelude.{Some, slice_get}
use Rattle.std.specs.List.{list_all}
use Rattle.std.proofs.lemmas.Option.{slice_get_read}
use Rattle.tree_graphs.specs.Class.{writes_differences}
use Rattle.last_writer.proofs.ReadClass.{class_of}
use Rattle.sanlp.specs.declared.nest.Access.{Access}
use Rattle.sanlp.proofs.ReadCounts.{read_count-some}
use Rattle.source_tree.specs.Systems.{read_at, writes_from, Occurrence}
use Rattle.last_writer.proofs.class.in_difference_class.Goals as goal
use Rattle.tree_cuts.proofs.ReadClass.{read_is}

pub bounds-as_slice-read : goal.bounds-as_slice-read
bounds-as_slice-read c =
    omega (
      arith,
      c.requires.read,
      read_count-some c.args.nest.now c.args.statement c.statement-reader.result.now
          c.statement-reader.ensures.value,
      ap length c.as_slice.ensures,
    )

pub returns : goal.returns
returns c =
    let n = c.args.nest.now in
    let s = c.statement-reader.result.now in
    let access = c.index-as_slice-read.result in
    let inside : c.args.read < length c.as_slice.result.now =
    omega (
      arith,
      c.requires.read,
      read_count-some n c.args.statement s c.statement-reader.ensures.value,
      ap length c.as_slice.ensures,
    ) in
    let access_is : slice_get s.reads c.args.read ≡ Some access =
    ap (λ reads. slice_get reads c.args.read) (sym c.as_slice.ensures)
    ∙ slice_get_read c.as_slice.result.now (length c.as_slice.result.now) c.args.read access refl inside c.index-as_slice-read.is in
    let r : Occurrence = record { number = c.args.statement; statement = s; access = access } in
    let is : read_at n c.args.statement c.args.read ≡ Some r =
    read_is n c.args.statement c.args.read s access c.statement-reader.ensures.value access_is in
    let same = c.all_write_differences.ensures 0
    ∙ ap (λ (a : Access). list_all writes_differences (writes_from a.array 0 c.as_slice-2.result.now))
    (sym c.index-as_slice-read.is)
    ∙ ap (λ statements. list_all writes_differences (writes_from access.array 0 statements)) c.as_slice-2.ensures in
    let h = class_of n c.args.statement c.args.read r is in
    (λ t. h.0 (sym same ∙ t), λ k. same ∙ h.1 k)
