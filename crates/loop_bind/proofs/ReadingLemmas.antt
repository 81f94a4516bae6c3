-- What was read of a tree: its parts are bound in the context of its declarations, from the numbers that the sources leave, so
-- what was made of them is that of the whole tree. The least reason is kept from the declarations on, and the least of two
-- lists one after the other is that of the second, begun with the least of the first. That a nest comes of it is not said here.
use Rattle.std.proofs.Common.{◌≡◌, ℕ, ◌+◌, List, [], ◌++◌, length, None, Result, sym, ap, ◌∙◌, arith}
use Rattle.std.specs.Prelude.{IfOk}
use Rattle.std.proofs.lemmas.Result.{IfOk-weaker}
use Rattle.sanlp.specs.declared.nest.ArrayDecl.{ArrayDecl}
use Rattle.sanlp.specs.declared.nest.Node.{Node}
use Rattle.sanlp.specs.WellFormed.{input_extents, output_extents}
use Rattle.loop_grammar.specs.declared.tree.Tree.{Tree}
use Rattle.loop_bind.specs.declared.context.Context.{Context}
use Rattle.loop_bind.specs.declared.context.Progress.{Progress}
use Rattle.loop_bind.specs.declared.declare.Table.{Table}
use Rattle.loop_bind.specs.declared.reading.Counts.{Counts}
use Rattle.loop_bind.specs.declared.reading.Reading.{Reading}
use Rattle.loop_bind.specs.Declarations.{Values, Declared, declared}
use Rattle.loop_bind.specs.Findings.{outer_context, body_made, findings}
use Rattle.loop_bind.specs.Following.{IsReadingOf, Makes, Stands, next_statement}
use Rattle.loop_bind.specs.Parts.{parts_made}
use Rattle.loop_bind.specs.Reasons.{least_from}
use Rattle.loop_bind.specs.Terminals.{loop_count}
use Rattle.loop_bind.proofs.JudgeLemmas.{least_append}

pub reading_is : (tree : Tree) (params : Values) (t : Table) (c0 c1 : Context) (p0 p1 : Progress) (n0 n1 : List Node)
    → Stands t (declared params tree.declarations)
    → c0 ≡ outer_context (declared params tree.declarations)
    → p0.first ≡ length (input_extents (declared params tree.declarations).arrays)
    → p0.next_loop ≡ loop_count (input_extents (declared params tree.declarations).arrays) → p0.statements ≡ []
    → p0.least ≡ t.least → n0 ≡ []
    → Makes c0 c1 p0 p1 n0 n1 (parts_made tree.parts c0 p0.next_loop (next_statement p0))
    → IsReadingOf
    (record { arrays = t.arrays; statements = p1.statements; nodes = n1; next_loop = p1.next_loop; least = p1.least })
    tree params
unfolding findings
reading_is tree params t c0 c1 p0 p1 n0 n1 stands context first loops none least nodes h =
    let d : Declared = declared params tree.declarations in
    let number : next_statement p0 ≡ length (input_extents d.arrays) =
    ap (λ s. p0.first + length s) none ∙ plus_zero p0.first ∙ first in
    let same : parts_made tree.parts c0 p0.next_loop (next_statement p0) ≡ body_made tree d =
    λ i. parts_made tree.parts (context i) (loops i) (number i) in
    record {
      arrays = stands.1;
      statements = ap (λ p. p.statements) h.progress ∙ (λ i. none i ++ (same i).statements);
      nodes = h.nodes ∙ (λ i. nodes i ++ (same i).nodes);
      next_loop = ap (λ p. p.next_loop) h.progress ∙ ap (λ m. m.next_loop) same;
      least = ap (λ p. p.least) h.progress ∙ (λ i. least_from (least i) (same i).findings)
          ∙ ap (λ l. least_from l (body_made tree d).findings) stands.2
          ∙ sym (least_append None d.findings (body_made tree d).findings);
    }
  where
    plus_zero : (n : ℕ) → n + 0 ≡ n
    plus_zero n = omega arith

-- what is known of a reading of the parts by the table and the counts that it began with
abbrev pub ReadFrom : Tree → Table → Counts → Reading → Type 0
ReadFrom tree t counts reading =
    (params : Values) → Stands t (declared params tree.declarations)
    → counts.sources ≡ length (input_extents t.arrays) → counts.sinks ≡ length (output_extents t.arrays)
    → counts.loops ≡ loop_count (input_extents t.arrays) → IsReadingOf reading tree params

-- a reading of the parts is one of the tree, where the counts are those of the table's arrays
pub counted_reading : {E : Type 0} (result : Result Reading E) (tree : Tree) (params : Values) (t : Table)
    (arrays : List ArrayDecl) (counts : Counts) → Stands t (declared params tree.declarations) → arrays ≡ t.arrays
    → counts
    ≡ record {
      sources = length (input_extents arrays);
      sinks = length (output_extents arrays);
      loops = loop_count (input_extents arrays);
    }
    → IfOk result (ReadFrom tree t counts) → IfOk result (λ reading. IsReadingOf reading tree params)
counted_reading result tree params t arrays counts stands same counted h =
    IfOk-weaker result (ReadFrom tree t counts) (λ reading. IsReadingOf reading tree params) (λ reading read.
    read params stands (ap (λ c. c.sources) counted ∙ ap (λ list. length (input_extents list)) same)
    (ap (λ c. c.sinks) counted ∙ ap (λ list. length (output_extents list)) same)
    (ap (λ c. c.loops) counted ∙ ap (λ list. loop_count (input_extents list)) same)) h
