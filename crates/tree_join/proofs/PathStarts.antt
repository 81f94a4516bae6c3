-- Where a path starts, and where a candidate does.
--
-- The root of the joined tree has the read's context, each candidate left and none seen. The root of a candidate's tree
-- has the same rows, so wherever it is taken up its rows are the first ones of the joined
-- context. A candidate whose absence is shown is a Zero leaf in the joined context itself.
use Rattle.std.proofs.Common.{◌≡◌, ◌+◌, ◌*◌, ◌^◌, ◌≤◌, ◌<◌, ℕ, inl, List, [], ◌∷◌, ◌++◌, length, map}
use Rattle.std.proofs.Common.{refl, sym, ap, ◌∙◌, subst, arith}
use Rattle.std.specs.Prelude.{None, All}
use Rattle.std.specs.List.{AllZip, range_with_len}
use Rattle.std.proofs.lemmas.List.{append-nil, append_assoc, length-append}
use Rattle.std.proofs.lemmas.List.Elements.{All-nil, All-cons, All-weaker}
use Rattle.std.proofs.lemmas.List.FromFn.{get_or-range_with_len, length-range_with_len}
use Rattle.std.proofs.lemmas.Option.{slice_get_within}
use Rattle.affine_core.specs.declared.form.Form.{Form}
use Rattle.int_polyhedra.specs.declared.system.Proof.TheVariants.{Sum}
use Rattle.int_polyhedra.specs.declared.system.System.{System}
use Rattle.int_polyhedra.specs.declared.system.Term.{Term}
use Rattle.tree_order.specs.Candidates.{AreCandidates, IsCandidate}
use Rattle.tree_order.specs.Reads.{pair_of, IsJoined}
use Rattle.tree_graphs.specs.Contexts.{IsMadeAs}
use Rattle.tree_order.specs.Contexts.{IsPathContext}
use Rattle.tree_join.specs.Joining.{IsPathOf}
use Rattle.tree_order.specs.Refutations.{RefutesWrites}
use Rattle.tree_order.specs.Positions.{own_sums, IsNode}
use Rattle.tree_order.specs.declared.candidates.Candidate.{Candidate}
use Rattle.tree_order.specs.declared.candidates.Read.{Read}
use Rattle.tree_order.proofs.PointSystems.{system}
use Rattle.tree_graphs.specs.Asked.{read_of, write_of}
use Rattle.tree_graphs.specs.Facts.{form_parts, IsFact}
use Rattle.tree_graphs.specs.Paths.{term_of}
use Rattle.tree_graphs.specs.Simple.{IsLightSum, at_zero as simple_zero}
use Rattle.tree_graphs.specs.Joint.{at_zero, IsSum}
use Rattle.tree_graphs.proofs.FactSums.{fact_same}
use Rattle.tree_graphs.proofs.Just.{none_system}
use Rattle.tree_graphs.proofs.MadeRows.{taken_all}
use Rattle.tree_graphs.proofs.ZeroSystems.{IsPlaced}
use Rattle.tree_sums.specs.Parts.{Part, row_part, weight, IsWithin}
use Rattle.tree_sums.proofs.SumAlgebra.{combines}
use Rattle.tree_sums.proofs.Within.{IsWithin-weaker}
use Rattle.sanlp.proofs.Lists.{slice_get-range_with_len}
use Rattle.source_tree.specs.Checked.{AreRefuted}
use Rattle.source_tree.specs.Rows.{Take}
use Rattle.source_tree.specs.Systems.{Context, Occurrence}
use Rattle.source_tree.specs.declared.tree.Tree.{Tree}
use Rattle.source_tree.specs.declared.tree.Tree.TheVariants.{Zero}

numbers_within : (n : ℕ) → All (λ i. i < n) (range_with_len 0 n)
numbers_within n = λ k d lt. omega (
  arith,
  get_or-range_with_len 0 n k d (omega (arith, lt, length-range_with_len 0 n)),
  lt,
  length-range_with_len 0 n,
)

-- The root of the joined tree

pub root_path : (r : Read) (candidates : List Candidate) (left : List ℕ) → IsJoined r
    → AreCandidates r candidates → left ≡ range_with_len 0 (length candidates)
    → IsPathOf r candidates r.context.now None [] left (70000 * length left) None
root_path r candidates left h are left_is =
    subst (λ left. IsPathOf r candidates r.context.now None [] left (70000 * length left) None) (sym left_is)
    (record {
      read = h;
      candidates_are = are;
      context_is = record {
        vars_are = refl;
        over = h.over;
        within = All-weaker (IsWithin (2 ^ 41)) (IsWithin (2 ^ 50))
            (λ f k. IsWithin-weaker (2 ^ 41) (2 ^ 50) f (omega arith) k) r.context.now.rows h.within;
        few = omega (arith, h.few_rows, are.few, length-range_with_len 0 (length candidates));
      };
      starts = ([], sym (append-nil r.context.now.rows));
      best_is = tt;
      seen = tt;
      left_are = numbers_within (length candidates);
      few = omega (arith, are.few, length-range_with_len 0 (length candidates));
      every = λ i c found. inl (inl (
        i,
        slice_get-range_with_len 0 (length candidates) i i (slice_get_within candidates i c found) (omega arith),
      ));
    })

-- Rows that stand in the context

row_is : (before rest : List Form) (f : Form) (part : Part) → row_part (before ++ (f ∷ rest)) part (length before)
    ≡ form_parts f part
row_is [] rest f part = refl
row_is (g ∷ before) rest f part = row_is before rest f part

shown_own : (context : System) (before rows more : List Form) → context.rows ≡ before ++ (rows ++ more)
    → AllZip (λ row ts. IsFact context 65536 (form_parts row) ts) rows (own_sums (length before) (length rows))
shown_own context before [] more is = tt
shown_own context before (f ∷ rows) more is =
    let here : length before < length context.rows =
    omega (arith, ap length is, length-append before (f ∷ (rows ++ more))) in
    let ts : List Term = term_of (length before) ∷ [] in
    let one : IsFact context 65536 (λ part. row_part context.rows part (length before)) ts
    = record { shows = (combines context.vars context.rows).own (length before) here; light = omega arith } in
    let next : length (before ++ f ∷ []) ≡ length before + 1 = omega (arith, length-append before (f ∷ [])) in (
      fact_same context 65536 (λ part. row_part context.rows part (length before)) (form_parts f) ts
          (λ part. ap (λ rows. row_part rows part (length before)) is ∙ row_is before (rows ++ more) f part) one,
      subst (λ n. AllZip (λ row ts. IsFact context 65536 (form_parts row) ts) rows (own_sums n (length rows))) next
          (shown_own context (before ++ f ∷ []) rows more (is ∙ sym (append_assoc before (f ∷ []) (rows ++ more)))),
    )

-- The root of a candidate's tree

pub start_is : (r : Read) (context : System) (more : List Form) (c : Candidate) → IsJoined r → IsCandidate r c
    → context.vars ≡ r.context.now.vars → context.rows ≡ r.context.now.rows ++ more
    → IsNode context c c.tree (own_sums 0 (length r.context.now.rows))
start_is r context more c h k vars_is rows_are =
    let own : Context = record { vars = r.context.now.vars; rows = map Take r.context.now.rows } in
    let made : IsMadeAs r.context.now own
    = record { vars = refl; rows = taken_all r.context.now.vars r.context.now.rows h.over } in
    record {
      own = own;
      made = r.context.now.rows;
      vars = sym vars_is;
      are_made = made.rows;
      checked = k.checked own made;
      shown = shown_own context [] r.context.now.rows more rows_are;
      tests = 65536;
      simple = k.simple;
      few = omega arith;
    }

-- A candidate without a point

pub absent_is : (r : Read) (context : System) (c : Candidate) (node : Tree) (ts : List Term) → IsCandidate r c
    → IsPathContext r.context.now.vars 0 context → node ≡ Zero (Sum ts ∷ [])
    → weight ts ≤ 2 ^ 48 → RefutesWrites (pair_of c.writes) context c.writes.level (Sum ts)
    → IsNode context c node (own_sums 0 (length context.rows))
absent_is r context c node ts h path is light refutes =
    let own : Context = record { vars = context.vars; rows = map Take context.rows } in
    let read : Occurrence = read_of c.writes in
    let u : Occurrence = write_of c.writes in
    let made : IsMadeAs context own = record { vars = refl; rows = taken_all context.vars context.rows path.over } in
    let sys : IsPlaced read u c.writes.level own context.rows c.edges =
    system r context 0 path c h own made.vars made.rows in
    record {
      own = own;
      made = context.rows;
      vars = refl;
      are_made = made.rows;
      checked = at_zero own node (Sum ts ∷ []) is
          (subst (λ xs. AreRefuted xs (Sum ts ∷ []))
          (sym (none_system read u c.writes.level own sys.level sys.level_is))
          (refutes own sys.level made sys.level_is, tt)) (All-cons IsSum (Sum ts) [] (ts, refl) (All-nil _));
      shown = shown_own context [] context.rows [] (sym (append-nil context.rows));
      tests = 0;
      simple = simple_zero 0 node (Sum ts ∷ []) is (All-cons IsLightSum (Sum ts) [] (ts, refl, light) (All-nil _));
      few = omega arith;
    }
