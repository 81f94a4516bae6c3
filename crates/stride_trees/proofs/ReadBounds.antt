-- How large a read's statement is: as each statement of a nest it has at most six loops and 32 domain rows.
use Rattle.std.proofs.Common.{◌≤◌, length}
use Rattle.std.proofs.lemmas.Bool.{leb-true}
use Rattle.sanlp.proofs.Elements.{list_all_at}
use Rattle.sanlp.proofs.Roles.{Fits, fits_of}
use Rattle.sanlp.specs.WellFormed.{statement_fits}
use Rattle.sanlp.specs.declared.nest.Nest.{Nest}
use Rattle.source_tree.specs.declared.reference.Reference.{Reference}
use Rattle.stride_trees.specs.Writers.{IsReadOf}

pub reader_fits : (n : Nest) (r : Reference) → IsReadOf n r → Fits n.arrays r.statement.now
reader_fits n r h =
    fits_of n.arrays r.statement.now
    (list_all_at (statement_fits n.arrays) n.statements r.number r.statement.now n.well_formed.statements_fit h.statement)

pub few_loops : (n : Nest) (r : Reference) → IsReadOf n r → length r.statement.now.loops ≤ 6
few_loops n r h = leb-true (length r.statement.now.loops) 6 (reader_fits n r h).few_loops

pub few_rows : (n : Nest) (r : Reference) → IsReadOf n r → length r.statement.now.rows ≤ 32
few_rows n r h = leb-true (length r.statement.now.rows) 32 (reader_fits n r h).few_rows
