-- From what was read of a tree to its nest.
--
-- The code keeps one reason, the least. The least of some reasons is one as soon as there are any, so where there is
-- none, none stands in the tree (`none_found`). Then what was read of the tree, put together between the sources with
-- their loops and the sinks with theirs, is part by part the nest of the tree, and has what a nest must have, since
-- `Nests` shows it of the tree's own nest.
use Rattle.std.proofs.Common.{◌≡◌, ℕ, ◌+◌, Bool, true, false, List, [], ◌∷◌, ◌++◌, length, Some, None}
use Rattle.std.proofs.Common.{if◌then◌else◌, refl, sym, ap, subst, ◌∙◌, append_assoc, length-append}
use Rattle.std.specs.Prelude.{IsTrue}
use Rattle.std.specs.List.{list_all}
use Rattle.std.specs.Cmp.Derive.{both_true}
use Rattle.std.proofs.lemmas.Bool.{le-leb}
use Rattle.sanlp.specs.declared.nest.ArrayDecl.{ArrayDecl}
use Rattle.sanlp.specs.declared.nest.Node.{Node}
use Rattle.sanlp.specs.declared.nest.Statement.{Statement}
use Rattle.sanlp.specs.WellFormed.{IsWellFormed, input_extents, output_extents, array_loops}
use Rattle.sanlp.proofs.Each.{Each}
use Rattle.loop_grammar.specs.declared.tree.Tree.{Tree}
use Rattle.loop_bind.specs.declared.reading.Reading.{Reading}
use Rattle.loop_bind.specs.declared.error.BindError.{BindError}
use Rattle.loop_bind.specs.Findings.{body_made, findings}
use Rattle.loop_class.specs.Binding.{nest_of}
use Rattle.loop_bind.specs.Declarations.{Values, Declared, declared}
use Rattle.loop_bind.specs.Following.{IsReadingOf}
use Rattle.loop_bind.specs.Ranges.{has_small_extents}
use Rattle.loop_bind.specs.Reasons.{comes_first, least_from}
use Rattle.loop_bind.specs.Terminals.{sources_from, sinks_from}
use Rattle.loop_class.proofs.Nests.{bound_nest_well_formed}
use Rattle.loop_class.proofs.NestsArrays.{FewExtents, declarations_sound}
use Rattle.loop_class.proofs.NestsTerminals.{sources_length}
use Rattle.loop_class.proofs.NestsValues.{none_left}

pick : (b : Bool) (x y : BindError) (fs : List BindError) → ((z : BindError) → least_from (Some z) fs ≡ None → ⊥)
    → least_from (if b then Some x else Some y) fs ≡ None → ⊥
pick true x y fs stays e = stays x e
pick false x y fs stays e = stays y e

some_stays : (fs : List BindError) (found : BindError) → least_from (Some found) fs ≡ None → ⊥
some_stays [] found e = cc
some_stays (f ∷ fs) found e = pick (comes_first f found) f found fs (some_stays fs) e

-- where no reason is the least, there is none
pub none_found : (fs : List BindError) → least_from None fs ≡ None → fs ≡ []
none_found [] e = refl
none_found (f ∷ fs) e = absurd (some_stays fs f e)

pub whole_body : (arrays : List ArrayDecl) (next_loop first : ℕ) (assignments s0 s1 s2 : List Statement)
    (nodes b0 b1 b2 b3 : List Node)
    → s0 ≡ [] → b0 ≡ [] → s1 ≡ s0 ++ sources_from 0 0 arrays → b1 ≡ b0 ++ array_loops 0 0 (input_extents arrays)
    → s2 ≡ s1 ++ assignments → b2 ≡ b1 ++ nodes → first ≡ length s2
    → b3 ≡ b2 ++ array_loops next_loop first (output_extents arrays)
    → b3 ≡ array_loops 0 0 (input_extents arrays)
    ++ (nodes ++ array_loops next_loop (length (input_extents arrays) + length assignments) (output_extents arrays))
whole_body arrays next_loop first assignments s0 s1 s2 nodes b0 b1 b2 b3 es eb hs hb ms mb count last =
    let sources : s1 ≡ sources_from 0 0 arrays = hs ∙ ap (λ s. s ++ sources_from 0 0 arrays) es in
    let loops : b1 ≡ array_loops 0 0 (input_extents arrays) =
    hb ∙ ap (λ b. b ++ array_loops 0 0 (input_extents arrays)) eb in
    let number : first ≡ length (input_extents arrays) + length assignments =
    count ∙ ap length ms ∙ length-append s1 assignments ∙ ap (λ s. length s + length assignments) sources
    ∙ ap (λ n. n + length assignments) (sources_length 0 0 arrays) in
    last ∙ (λ i. (mb ∙ ap (λ b. b ++ nodes) loops) i ++ array_loops next_loop (number i) (output_extents arrays))
    ∙ append_assoc (array_loops 0 0 (input_extents arrays)) nodes
    (array_loops next_loop (length (input_extents arrays) + length assignments) (output_extents arrays))

small_extents : (arrays : List ArrayDecl) → Each FewExtents arrays → IsTrue (list_all has_small_extents arrays)
small_extents [] h = refl
small_extents (array ∷ arrays) h =
    both_true (both_true (le-leb (length array.extents) 6 h.0.few) h.0.limited) (small_extents arrays h.1)

module _ (tree : Tree) (params : Values) (r : Reading) (is : IsReadingOf r tree params) (none : r.least ≡ None) where
  pub no_findings : findings tree params ≡ []
  no_findings = none_found (findings tree params) (sym is.least ∙ none)

  pub reading_small : IsTrue (list_all has_small_extents r.arrays)
  unfolding findings
  reading_small =
      let d : Declared = declared params tree.declarations in
      subst (λ arrays. IsTrue (list_all has_small_extents arrays)) (sym is.arrays)
      (small_extents d.arrays
      (declarations_sound params tree.declarations
      (none_left d.findings (body_made tree d).findings no_findings)).extents)

  module _ (statements : List Statement) (body : List Node)
      (first : statements ≡ sources_from 0 0 r.arrays ++ (r.statements ++ sinks_from 0 r.next_loop r.arrays))
      (second : body
      ≡ array_loops 0 0 (input_extents r.arrays)
      ++ (r.nodes ++ array_loops r.next_loop (length (input_extents r.arrays) + length r.statements)
      (output_extents r.arrays))) where
    pub arrays_bound : r.arrays ≡ (nest_of tree params).arrays
    unfolding nest_of
    arrays_bound = is.arrays

    pub statements_bound : statements ≡ (nest_of tree params).statements
    unfolding nest_of
    statements_bound =
        first ∙ (λ i.
        sources_from 0 0 (is.arrays i) ++ (is.statements i ++ sinks_from 0 (is.next_loop i) (is.arrays i)))

    pub body_bound : body ≡ (nest_of tree params).body
    unfolding nest_of
    body_bound =
        second ∙ (λ i. array_loops 0 0 (input_extents (is.arrays i))
        ++ (is.nodes i
        ++ array_loops (is.next_loop i) (length (input_extents (is.arrays i)) + length (is.statements i))
        (output_extents (is.arrays i))))

    pub reading_well_formed : IsWellFormed r.arrays statements body
    reading_well_formed =
        subst (λ arrays. IsWellFormed arrays statements body) (sym arrays_bound)
        (subst (λ s. IsWellFormed (nest_of tree params).arrays s body) (sym statements_bound)
        (subst (λ b. IsWellFormed (nest_of tree params).arrays (nest_of tree params).statements b) (sym body_bound)
        (bound_nest_well_formed tree params no_findings)))
