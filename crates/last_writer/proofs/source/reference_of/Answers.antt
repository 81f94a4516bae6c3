use Rattle.std.proofs.Common.{◌≡◌, ◌<◌, length, sym, ap, ◌∙◌, arith, refl}
use Rattle.std.specs.Prelude.{Some, slice_get}
use Rattle.std.proofs.lemmas.Option.{same_Some, slice_get_within, slice_get_read}
use Rattle.last_writer.proofs.ReadClass.{reader_there}
use Rattle.sanlp.specs.declared.nest.Statement.{Statement}
use Rattle.last_writer.proofs.source.reference_of.Goals as goal
use Rattle.tree_cuts.proofs.ReadClass.{read_is}

pub statement-reader-requires : goal.statement-reader-requires
statement-reader-requires c =
    let h = c.requires in
    slice_get_within c.args.nest.now.statements c.args.statement h.read.statement
    (reader_there c.args.nest.now c.args.statement c.args.read h.read h.is_read).statement

pub bounds-as_slice-read : goal.bounds-as_slice-read
bounds-as_slice-read c =
    let h = c.requires in
    let there = reader_there c.args.nest.now c.args.statement c.args.read h.read h.is_read in
    let same : h.read.statement ≡ c.statement-reader.result.now = same_Some h.read.statement c.statement-reader.result.now
    (sym there.statement ∙ c.statement-reader.ensures.value) in
    omega (
      arith,
      slice_get_within h.read.statement.reads c.args.read h.read.access there.access,
      ap (λ (s : Statement). length s.reads) same,
      ap length c.as_slice.ensures,
    )

pub returns-clause-read : goal.returns-clause-read
returns-clause-read c =
    let h = c.requires in
    let n = c.args.nest.now in
    let there = reader_there n c.args.statement c.args.read h.read h.is_read in
    let s = c.statement-reader.result.now in
    let access = c.index-as_slice-read.result in
    let same : h.read.statement ≡ s = same_Some h.read.statement s (sym there.statement ∙ c.statement-reader.ensures.value) in
    let inside : c.args.read < length c.as_slice.result.now =
    omega (
      arith,
      slice_get_within h.read.statement.reads c.args.read h.read.access there.access,
      ap (λ (s : Statement). length s.reads) same,
      ap length c.as_slice.ensures,
    ) in
    let access_is : slice_get s.reads c.args.read ≡ Some access =
    ap (λ reads. slice_get reads c.args.read) (sym c.as_slice.ensures)
    ∙ slice_get_read c.as_slice.result.now (length c.as_slice.result.now) c.args.read access refl inside c.index-as_slice-read.is in
    read_is n c.args.statement c.args.read s access c.statement-reader.ensures.value access_is
