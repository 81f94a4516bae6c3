-- The write of one statement to the array of a read, from the statements that were looked up.
--
-- A read's numbers name one access, and the number of a writer names one write of its array, if there is one. So the
-- statements that were found at these numbers tell that there is such a read and such a write. Of levels of order, and
-- of the tree that is made, nothing is said here.
use Rattle.std.proofs.Common.{◌≡◌, ℕ, ap, ◌∙◌}
use Rattle.std.specs.Prelude.{Some, slice_get}
use Rattle.std.specs.Option.{option_and_then}
use Rattle.sanlp.specs.declared.nest.Access.{Access}
use Rattle.sanlp.specs.declared.nest.Nest.{Nest}
use Rattle.sanlp.specs.declared.nest.Statement.{Statement}
use Rattle.source_tree.specs.Systems.{Occurrence, write_to}
use Rattle.tree_graphs.specs.Asked.{WritesArrayOf}
use Rattle.tree_cuts.proofs.ReadClass.{read_is}

pub writes_array : (n : Nest) (s k u : ℕ) (reader writer : Statement) (access : Access) (w : Occurrence)
    → slice_get n.statements s ≡ Some reader → slice_get reader.reads k ≡ Some access
    → slice_get n.statements u ≡ Some writer → write_to access.array u writer ≡ Some w → WritesArrayOf n s k u
writes_array n s k u reader writer access w reader_is access_is writer_is write_is = (
  record { number = s; statement = reader; access = access },
  w,
  read_is n s k reader access reader_is access_is,
  ap (option_and_then (write_to access.array u)) writer_is ∙ write_is,
)
