-- The Zero leaf of a contradiction is the answer of its context.
--
-- The leaf's proof takes the terms of the context and, behind it, the rows of the cycle: in the one system that a Zero
-- leaf of one writer and one level has, these refute. So no point of the writer is left at any point of the reader
-- that meets the context, and zero is the greatest. A tree with fewer Tests than it may have is an answer as well.
use Rattle.std.proofs.Common.{◌≡◌, ◌+◌, ◌^◌, ◌≤◌, ◌<◌, ℕ, List, [], ◌∷◌, ◌++◌, length, refl, sym, ap, ◌∙◌, subst}
use Rattle.std.proofs.Common.{arith}
use Rattle.std.specs.Prelude.{All}
use Rattle.std.proofs.lemmas.List.Elements.{All-nil, All-cons, All-weaker}
use Rattle.int_polyhedra.specs.declared.system.Proof.{Proof}
use Rattle.int_polyhedra.specs.declared.system.Proof.TheVariants.{Sum}
use Rattle.int_polyhedra.specs.declared.system.System.{System}
use Rattle.int_polyhedra.specs.declared.system.Term.{Term}
use Rattle.int_polyhedra.specs.Systems.{AreOver}
use Rattle.lex_max.specs.Answer.{IsAnswer, IsContextOf}
use Rattle.tree_graphs.specs.Cycles.{IsContradiction}
use Rattle.tree_graphs.specs.Asked.{read_of, write_of}
use Rattle.tree_graphs.specs.Level.{IsGreatest}
use Rattle.tree_graphs.specs.Paths.{terms_from}
use Rattle.tree_graphs.specs.Rounds.{IsGraphOf}
use Rattle.tree_graphs.specs.Simple.{at_zero as simple_zero, IsLightSum}
use Rattle.tree_graphs.proofs.Nodes.{simple_wider}
use Rattle.tree_graphs.specs.Joint.{at_zero, none_systems, IsSum}
use Rattle.tree_graphs.specs.declared.edges.Edge.{Edge}
use Rattle.tree_graphs.specs.declared.writes.Writes.{Writes}
use Rattle.lex_max.proofs.RowMeaning.{none_where_refuted}
use Rattle.tree_graphs.proofs.ZeroSystems.{none_refuted}
use Rattle.tree_graphs.proofs.EdgeSums.{weight_from, IsBase}
use Rattle.tree_sums.specs.Parts.{weight}
use Rattle.tree_sums.proofs.Weights.{weight_sum}
use Rattle.source_tree.specs.Checked.{AreRefuted}
use Rattle.source_tree.specs.declared.tree.Tree.{Tree}
use Rattle.source_tree.specs.declared.tree.Tree.TheVariants.{Zero}
use Rattle.source_tree.proofs.Gives.{gives-Zero}

pub zero_answer : (w : Writes) (context : System) (edges : List Edge) (shown ts terms : List Term) (tree : Tree)
    → IsGraphOf w edges → IsContextOf w 0 context
    → IsContradiction context.vars context.rows edges shown ts → terms ≡ shown ++ terms_from (length context.rows) ts
    → tree ≡ Zero (Sum terms ∷ []) → (tests : ℕ) → IsAnswer w context tests tree
zero_answer w context edges shown ts terms tree graph of h terms_is is tests =
    let proof : Proof = Sum terms in
    let sums : All IsSum (proof ∷ []) = All-cons IsSum proof [] (terms, refl) (All-nil _) in
    let light : weight terms ≤ 2 ^ 48
    = omega (
      arith,
      ap weight terms_is,
      weight_sum shown (terms_from (length context.rows) ts),
      weight_from (length context.rows) ts,
      h.light,
    ) in
    record {
      checked = λ c vars_is rows_is.
          (let same : context.vars ≡ c.vars = of.vars ∙ sym vars_is in
          let base : IsBase c.vars context.rows =
          record { over = subst (λ v. AreOver v context.rows) same of.over; within = of.within } in
          at_zero c tree (proof ∷ []) is
          (subst (λ terms. AreRefuted (none_systems (read_of w) (write_of w) w.level c) (Sum terms ∷ []))
          (sym terms_is)
          (none_refuted w.vars (read_of w)
          (write_of w) w.level c context.rows edges shown ts w.problem vars_is rows_is base graph.edges_are
          (subst (λ v. IsContradiction v context.rows edges shown ts) same h))) sums);
      simple = simple_zero tests tree (proof ∷ []) is (All-cons IsLightSum proof [] (terms, refl, light) (All-nil _));
      greatest = λ x long meets.
          subst (IsGreatest (read_of w) (write_of w) w.level x) (sym (gives-Zero x tree (proof ∷ []) is))
          (λ j write. none_where_refuted w context edges shown ts graph of h x long meets j write);
    }

pub answer_wider : (w : Writes) (context : System) (m n : ℕ) (tree : Tree) → m ≤ n → IsAnswer w context m tree
    → IsAnswer w context n tree
answer_wider w context m n tree le h =
    record { checked = h.checked; simple = simple_wider m n tree le h.simple; greatest = h.greatest }

pub context_less : (w : Writes) (context : System) (m n : ℕ) → m ≤ n → IsContextOf w n context → IsContextOf w m context
context_less w context m n le h =
    record { vars = h.vars; over = h.over; within = h.within; few = omega (arith, h.few, le) }

-- the rows of a contradiction have numbers that can be counted from behind the context
pub rows_fit : (w : Writes) (context : System) (edges : List Edge) (shown ts : List Term) (first : ℕ)
    → IsGraphOf w edges → IsContextOf w 0 context
    → IsContradiction context.vars context.rows edges shown ts → first ≡ length context.rows
    → All (λ (t : Term). first + t.row < 2 ^ 32) ts
rows_fit w context edges shown ts first graph of h first_is =
    let few = graph.graph.few in
    let count = of.few in
    All-weaker (λ (t : Term). t.row < length edges) (λ (t : Term). first + t.row < 2 ^ 32)
    (λ t lt. omega (arith, lt, few, count, first_is)) ts h.cycle.name_edges
