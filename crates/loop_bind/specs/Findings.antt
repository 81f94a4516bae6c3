-- What a whole tree with values for its parameters gives, and the reasons that stand in it.
use Rattle.std.specs.Prelude.{List, [], ◌++◌, length}
use Rattle.sanlp.specs.WellFormed.{input_extents, output_extents}
use Rattle.loop_grammar.specs.declared.tree.Tree.{Tree}
use Rattle.loop_bind.specs.declared.context.Context.{Context}
use Rattle.loop_bind.specs.declared.error.BindError.{BindError}
use Rattle.loop_bind.specs.Declarations.{Values, Declared, declared}
use Rattle.loop_bind.specs.Parts.{Made, parts_made}
use Rattle.loop_bind.specs.Terminals.{loop_count}

-- the context of a whole source: no loops and no rows
abbrev pub outer_context : Declared → Context
outer_context d =
    record { scope = d.scope; loops = []; rows = []; sinks = length (output_extents d.arrays) }

-- The statements of a source after its declarations. The loops and the statements of the sources
-- are numbered first.
abbrev pub body_made : Tree → Declared → Made
body_made tree d =
    parts_made tree.parts (outer_context d) (loop_count (input_extents d.arrays))
    (length (input_extents d.arrays))

-- each reason that stands in a tree with these values of its parameters
unfoldable pub findings : Tree → Values → List BindError
findings tree params =
    let d = declared params tree.declarations in
    d.findings ++ (body_made tree d).findings
