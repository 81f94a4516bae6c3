-- The tests of a leaf's systems, in the context at the end of its path.
--
-- The code makes a system anew for each write and each map: the rows of the path, over as many variables as it has
-- there, and then those of the point. Here the places of the code are those of the systems: the reader's loops are the
-- first variables, and the point of a writer has the variables behind those of the context. So what was tested is what
-- the leaf asks, in order. It isn't said here that the proofs refute these systems: that is a matter of each test.
use Rattle.std.proofs.Common.{◌≡◌, ◌+◌, ℕ, List, ◌++◌, length, sym, ap, ◌∙◌, Bor}
use Rattle.std.specs.Prelude.{Option}
use Rattle.affine_core.specs.declared.form.Form.{Form}
use Rattle.int_polyhedra.specs.declared.system.System.{System}
use Rattle.source_check.specs.declared.reference.After.{After}
use Rattle.source_check.specs.declared.reference.After.TheVariants.{Nothing, Point}
use Rattle.source_check.specs.declared.reference.Order.{Order}
use Rattle.source_check.specs.declared.reference.Read.{Read}
use Rattle.source_tree.specs.declared.reference.Reference.{Reference}
use Rattle.source_check.specs.declared.tested.Leaf.{Leaf}
use Rattle.source_check.specs.declared.tested.Tested.{Tested}
use Rattle.source_check.specs.Making.{forms_of, system_with_all}
use Rattle.source_check.specs.Paths.{context_at, further_rows, map_systems, path_rows}
use Rattle.source_check.specs.Tests.{after_all, after_made, after_one, made_both, made_differ, made_order, made_outside}
use Rattle.source_check.specs.Verdict.{made_system}
use Rattle.source_check.proofs.LeafSystems.{IsBefore, map_other, map_same, write_alone, write_between}
use Rattle.source_tree.specs.Places.{cell_rows, domain_rows, same_rows, variables}
use Rattle.source_tree.specs.Rows.{RowExpr}
use Rattle.source_tree.specs.Systems.{Context, Occurrence, every, reader_place, with_write_at, write_systems}
use Rattle.source_tree.specs.Systems.{writer_place}
use Rattle.source_tree.specs.References.{occurrence_of}

module _ (leaf : Leaf) (read : Read) (place_is : read.place.now ≡ reader_place (occurrence_of read.reference))
    (writer : Reference) where
  abbrev pub the_read : Occurrence
  the_read = occurrence_of read.reference

  abbrev pub the_write : Occurrence
  the_write = occurrence_of writer

  abbrev pub the_context : Context
  the_context = context_at read leaf

  -- a write before the read
  module _ (point : List Form) (vars : ℕ) (system : Option System) (before : Order) (t end : Tested)
      (point_is : point ≡ variables leaf.vars (length writer.statement.now.loops))
      (vars_is : vars ≡ leaf.vars + length writer.statement.now.loops)
      (system_is : system ≡ made_system vars (path_rows read.reference.statement.now.rows leaf.path.now
      ++ (domain_rows writer.statement.now.rows point
      ++ cell_rows writer.access.now.subscripts read.reference.access.now.subscripts point)))
      (before_is : IsBefore before the_write point the_read read.place.now) where
    abbrev rows_at : List Form → List RowExpr
    rows_at point =
        path_rows read.reference.statement.now.rows leaf.path.now
        ++ (domain_rows writer.statement.now.rows point
        ++ cell_rows writer.access.now.subscripts read.reference.access.now.subscripts point)

    system_at : system
        ≡ made_system (leaf.vars + length writer.statement.now.loops)
        (with_write_at the_read the_context the_write).rows
    system_at =
        system_is ∙ ap (λ vars. made_system vars (rows_at point)) vars_is
        ∙ ap (λ point. made_system (leaf.vars + length writer.statement.now.loops) (rows_at point)) point_is

    before_at : IsBefore before the_write (writer_place the_context the_write) the_read (reader_place the_read)
    before_at =
        record {
          common = before_is.common;
          less_is = before_is.less_is;
          first = before_is.first ∙ point_is;
          second =
              before_is.second ∙ place_is;
        }

    pub alone_tested : (after : After) (c : Context) → after ≡ Nothing → c ≡ the_context
        → end ≡ after_all leaf t (made_order vars system before)
        → end ≡ after_made leaf t (write_systems the_read every c (further_rows c after) the_write)
    alone_tested after c after_is is end_is =
        end_is ∙ ap (after_all leaf t)
        (write_alone the_read the_context the_write vars system before vars_is system_at before_at)
        ∙ ap (λ after.
        after_made leaf t (write_systems the_read every the_context (further_rows the_context after) the_write))
        (sym after_is)
        ∙ ap (λ c. after_made leaf t (write_systems the_read every c (further_rows c after) the_write)) (sym is)

    pub between_tested : (named : Bor Reference) (map : Bor (List Form)) (further : Order) (after : After) (c : Context)
        → after ≡ Point named map → c ≡ the_context
        → IsBefore further (occurrence_of named.now) map.now the_write point
        → end ≡ after_all leaf t
        (made_both vars system before.common before.less before.first.now before.second.now further)
        → end ≡ after_made leaf t (write_systems the_read every c (further_rows c after) the_write)
    between_tested named map further after c after_is is further_is end_is =
        let further_at : IsBefore further (occurrence_of named.now) map.now the_write
        (writer_place the_context the_write)
        = record {
          common = further_is.common;
          less_is = further_is.less_is;
          first = further_is.first;
          second =
              further_is.second ∙ point_is;
        } in
        end_is ∙ ap (after_all leaf t)
        (write_between the_read the_context the_write
        (occurrence_of named.now) map.now vars system before further vars_is system_at before_at further_at)
        ∙ ap (λ after.
        after_made leaf t (write_systems the_read every the_context (further_rows the_context after) the_write))
        (sym after_is)
        ∙ ap (λ c. after_made leaf t (write_systems the_read every c (further_rows c after) the_write)) (sym is)

  -- the point of a Writer leaf
  module _ (place rows writes reads : List Form) (system copied : Option System) (after : Order)
      (t first second third : Tested)
      (system_is : system ≡ made_system leaf.vars (path_rows read.reference.statement.now.rows leaf.path.now))
      (copied_is : copied ≡ system)
      (rows_are : rows ≡ writer.statement.now.rows) (writes_are : writes ≡ writer.access.now.subscripts)
      (reads_are : reads ≡ read.reference.access.now.subscripts)
      (after_is : IsBefore after the_read read.place.now the_write place)
      (first_is : first ≡ after_all leaf t (made_outside leaf.vars system rows place))
      (second_is : second ≡ after_all leaf first (made_differ leaf.vars system writes reads place))
      (third_is : third ≡ after_all leaf second (made_order leaf.vars copied after)) where
    after_at : IsBefore after the_read (reader_place the_read) the_write place
    after_at =
        record {
          common = after_is.common;
          less_is = after_is.less_is;
          first = after_is.first ∙ place_is;
          second =
              after_is.second;
        }

    first_at : first ≡ after_all leaf t (made_outside leaf.vars system writer.statement.now.rows place)
    first_at = first_is ∙ ap (λ rows. after_all leaf t (made_outside leaf.vars system rows place)) rows_are

    second_at : second
        ≡ after_all leaf first
        (made_differ leaf.vars system writer.access.now.subscripts read.reference.access.now.subscripts place)
    second_at =
        second_is ∙ ap (λ writes. after_all leaf first (made_differ leaf.vars system writes reads place)) writes_are
        ∙ ap (λ reads.
        after_all leaf first (made_differ leaf.vars system writer.access.now.subscripts reads place)) reads_are

    third_at : third ≡ after_all leaf second (made_order leaf.vars system after)
    third_at = third_is ∙ ap (λ s. after_all leaf second (made_order leaf.vars s after)) copied_is

    pub other_tested : (c : Context) → c ≡ the_context → (writer.number ≡ read.reference.number → ⊥)
        → third ≡ after_made leaf t (map_systems the_read c the_write place)
    other_tested c is differ =
        map_other leaf the_read the_context the_write place system system_is after after_at t first second third
        first_at second_at third_at differ
        ∙ ap (λ c. after_made leaf t (map_systems the_read c the_write place)) (sym is)

    pub same_tested : (c : Context) (end : Tested) → c ≡ the_context → writer.number ≡ read.reference.number
        → end ≡ after_one leaf third (system_with_all system (forms_of leaf.vars (same_rows read.place.now place)))
        → end ≡ after_made leaf t (map_systems the_read c the_write place)
    same_tested c end is same end_is =
        map_same leaf the_read the_context the_write place system system_is after after_at t first second third first_at
        second_at third_at end same
        (end_is ∙ ap
        (λ a. after_one leaf third (system_with_all system (forms_of leaf.vars (same_rows a place)))) place_is)
        ∙ ap (λ c. after_made leaf t (map_systems the_read c the_write place)) (sym is)
