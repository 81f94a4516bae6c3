-- What binding a part of a tree leaves: what it made comes to the end of what was there, and the
-- least reason is kept.
use Rattle.std.specs.Prelude.{◌≡◌, ℕ, ◌+◌, List, [], ◌++◌, length, Option, None}
use Rattle.wrap_expr.specs.declared.expr.Expr.{Expr}
use Rattle.sanlp.specs.declared.nest.Access.{Access}
use Rattle.sanlp.specs.declared.nest.Node.{Node}
use Rattle.loop_grammar.specs.declared.tree.Tree.{Tree}
use Rattle.loop_bind.specs.declared.reading.Reading.{Reading}
use Rattle.loop_bind.specs.declared.context.Context.{Context}
use Rattle.loop_bind.specs.declared.context.Progress.{Progress}
use Rattle.loop_bind.specs.declared.declare.Table.{Table}
use Rattle.loop_bind.specs.declared.error.BindError.{BindError}
use Rattle.loop_bind.specs.Findings.{body_made, findings}
use Rattle.loop_bind.specs.Declarations.{Values, Declared, declared}
use Rattle.loop_bind.specs.Parts.{Made}
use Rattle.loop_bind.specs.Reasons.{least_from}
use Rattle.loop_bind.specs.Values.{Valued}

pub record Reads (e : Expr) (reads_old reads_new : List Access)
    (least_old least_new : Option BindError) (wanted : Valued) : Type 0 where
  pub expr : e ≡ wanted.expr
  pub reads : reads_new ≡ reads_old ++ wanted.reads
  pub least : least_new ≡ least_from least_old wanted.findings

abbrev pub next_statement : Progress → ℕ
next_statement p = p.first + length p.statements

abbrev pub advanced : Progress → Made → Progress
advanced p made =
    record p {
      statements = p.statements ++ made.statements;
      next_loop = made.next_loop;
      least = least_from p.least made.findings;
    }

pub record Makes (context_old context_new : Context) (old new : Progress)
    (nodes_old nodes_new : List Node) (made : Made) : Type 0 where
  pub context : context_new ≡ context_old
  pub progress : new ≡ advanced old made
  pub nodes : nodes_new ≡ nodes_old ++ made.nodes

-- a table as declarations that were read without a reason
abbrev pub seen : Table → Declared
seen t = record { scope = t.scope; arrays = t.arrays; processes = t.processes; findings = [] }

pub record Declares (old new : Table) (d : Declared) : Type 0 where
  pub scope : new.scope ≡ d.scope
  pub arrays : new.arrays ≡ d.arrays
  pub processes : new.processes ≡ d.processes
  pub least : new.least ≡ least_from old.least d.findings

-- a table of these declarations
abbrev pub Stands : Table → Declared → Type 0
Stands t d = (t.scope ≡ d.scope) × (t.arrays ≡ d.arrays) × (t.least ≡ least_from None d.findings)

-- what was read of a tree
pub record IsReadingOf (r : Reading) (tree : Tree) (params : Values) : Type 0 where
  pub arrays : r.arrays ≡ (declared params tree.declarations).arrays
  pub statements : r.statements ≡ (body_made tree (declared params tree.declarations)).statements
  pub nodes : r.nodes ≡ (body_made tree (declared params tree.declarations)).nodes
  pub next_loop : r.next_loop ≡ (body_made tree (declared params tree.declarations)).next_loop
  pub least : r.least ≡ least_from None (findings tree params)
