-- Binding: the nest of a tree with values for its parameters, or the least of the reasons why it has none.
use Rattle.std.specs.Prelude.{◌≡◌, ◌+◌, List, [], ◌++◌, length, Some, None, Result, Ok, Err}
use Rattle.sanlp.specs.WellFormed.{input_extents, output_extents, array_loops}
use Rattle.sanlp.specs.declared.nest.ArrayDecl.{ArrayDecl}
use Rattle.sanlp.specs.declared.nest.Nest.{Nest}
use Rattle.sanlp.specs.declared.nest.Node.{Node}
use Rattle.sanlp.specs.declared.nest.Statement.{Statement}
use Rattle.loop_grammar.specs.declared.tree.Tree.{Tree}
use Rattle.loop_bind.specs.declared.error.BindError.{BindError}
use Rattle.loop_bind.specs.declared.error.BindError.TheVariants.{Memory}
use Rattle.loop_bind.specs.Declarations.{Values, declared}
use Rattle.loop_bind.specs.Findings.{body_made, findings}
use Rattle.loop_bind.specs.Parts.{Made}
use Rattle.loop_bind.specs.Reasons.{least_from}
use Rattle.loop_bind.specs.Terminals.{sources_from, sinks_from}

-- the arrays, the statements and the body of a nest
pub record Parts : Type 0 where
  pub arrays : List ArrayDecl
  pub statements : List Statement
  pub body : List Node

-- sources before the assignments, and sinks after them
abbrev pub assembled : List ArrayDecl → Made → Parts
assembled arrays made =
    let inputs = input_extents arrays in
    let outputs = output_extents arrays in
    record {
      arrays = arrays;
      statements = sources_from 0 0 arrays
          ++ (made.statements ++ sinks_from 0 made.next_loop arrays);
      body = array_loops 0 0 inputs
          ++ (made.nodes
          ++ array_loops made.next_loop (length inputs + length made.statements) outputs);
    }

-- The nest of a tree. It counts only where no reason stands in the tree.
unfoldable pub nest_of : Tree → Values → Parts
nest_of tree params =
    let d = declared params tree.declarations in
    assembled d.arrays (body_made tree d)

-- a nest is that of a tree with these values of its parameters
pub record IsBound (tree : Tree) (params : Values) (n : Nest) : Type 0 where
  pub no_findings : findings tree params ≡ []
  pub arrays : n.arrays ≡ (nest_of tree params).arrays
  pub statements : n.statements ≡ (nest_of tree params).statements
  pub body : n.body ≡ (nest_of tree params).body

-- Binding gives the nest, or the least of the reasons. Want of memory is free.
abbrev pub Binds : Tree → Values → Result Nest BindError → Type 0
Binds tree params (Ok n) = IsBound tree params n
Binds tree params (Err Memory) = Unit {0}
Binds tree params (Err reason) = least_from None (findings tree params) ≡ Some reason
