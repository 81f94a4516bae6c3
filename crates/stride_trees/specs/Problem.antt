-- What is left of a write before a read below its tests of divisibility: a problem of differences over the variables of a
-- context, of which the tests' quotients are the last.
use Rattle.std.specs.Prelude.{◌≡◌, ℕ, ◌+◌, negsuc, ◌-ℤ◌, ◌||◌, List, [], ◌∷◌, map, length, if◌then◌else◌}
use Rattle.affine_core.specs.declared.form.Form.{Form}
use Rattle.affine_core.specs.Affine.{form_product, variable_form, widened_form}
use Rattle.source_tree.specs.Systems.{Occurrence}
use Rattle.tree_cuts.specs.Class.{is_stride}
use Rattle.tree_graphs.specs.declared.writes.Problem.{Problem}
use Rattle.stride_trees.specs.declared.strides.Strides.{Strides}
use Rattle.tree_cuts.specs.Sources.{divided_form, falls, loop_of, next_place, places_behind}

-- A subscript of the write: its loop alone, where the loop's coefficient is neither 0 nor 1; else it stays.
abbrev pub problem_write : Form → Form
problem_write write =
    if is_stride write || falls write then variable_form (length write.coefs) (loop_of write.coefs)
    else write

-- The read's subscript, over so many variables: the quotient where the write's has a stride, `d - read` where the
-- write's is d less a loop, and else the read's own.
abbrev pub problem_read : ℕ → ℕ → Form → Form → Form
problem_read vars quotient write read =
    if is_stride write then variable_form vars quotient
    else (if falls write
    then widened_form vars
    (form_product (negsuc 0) (record read { constant = read.constant -ℤ write.constant }))
    else widened_form vars read)

-- the read's subscripts, where the tests of the write stand at these places behind so many loops
abbrev pub problem_reads : ℕ → ℕ → List ℕ → List Form → List Form → List Form
problem_reads vars depth places [] reads = []
problem_reads vars depth places (write ∷ writes) [] = []
problem_reads vars depth places (write ∷ writes) (read ∷ reads) =
    problem_read vars (depth + next_place places) write read
    ∷ problem_reads vars depth (places_behind write places) writes reads

-- the write's domain rows over quotients: one with a stride is divided by its size and rounded down, and others stay
abbrev pub problem_rows : List Form → List Form
problem_rows rows = map divided_form rows

-- the write's subscripts over the tests' quotients: a loop alone for one with a stride
abbrev pub problem_writes : List Form → List Form
problem_writes writes = map problem_write writes

-- the write and the read over quotients
abbrev pub told_write : Occurrence → Occurrence
told_write w = record w {
  statement = record w.statement { rows = problem_rows w.statement.rows };
  access = record w.access { subscripts = problem_writes w.access.subscripts };
}

-- the read over the tests' quotients
abbrev pub told_read : ℕ → List ℕ → Occurrence → Occurrence → Occurrence
told_read vars places r w = record r {
  access = record r.access {
    subscripts = problem_reads vars (length r.statement.loops) places w.access.subscripts
        r.access.subscripts;
  };
}

-- a problem is the write over quotients and the read's subscripts, where the tests stand at these places
pub record IsToldProblem (s : Strides) (vars : ℕ) (places : List ℕ) (p : Problem) : Type 0 where
  pub write : p.write ≡ s.write
  pub rows : p.rows ≡ problem_rows s.write.statement.now.rows
  pub write_forms : p.write_forms ≡ problem_writes s.write.access.now.subscripts
  pub read_forms : p.read_forms ≡ problem_reads vars (length s.read.statement.now.loops) places
      s.write.access.now.subscripts s.read.access.now.subscripts
