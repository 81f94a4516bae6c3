-- The points of a source or a sink are its array's cells in row-major order.
use Rattle.std.proofs.Common.{◌≡◌, ◌+◌, ℕ, zero, suc, ℤ, pos, ◌+ℤ◌, ◌-ℤ◌, ◌*ℤ◌, List, [], ◌∷◌, ◌++◌, map}
use Rattle.std.proofs.Common.{refl, sym, ap, ◌∙◌, arith, append_assoc}
use Rattle.std.specs.Prelude.{replicate}
use Rattle.std.specs.List.{flat_map}
use Rattle.std.proofs.lemmas.Int.{ints}
use Rattle.std.proofs.lemmas.List.{append-nil, map-append}
use Rattle.affine_core.specs.Affine.{combined, constant_form}
use Rattle.affine_core.specs.declared.form.Form.{Form}
use Rattle.affine_core.proofs.Integers.{zero-times}
use Rattle.sanlp.specs.declared.nest.Node.{Node}
use Rattle.sanlp.specs.declared.nest.Node.TheOpen as open_
use Rattle.sanlp.specs.declared.nest.Node.TheViews.{rolls-Loop, rolls-Assign}
use Rattle.sanlp.specs.declared.nest.Node.TheFolds.{fold-roll-Node}
use Rattle.sanlp.specs.declared.nest.Point.{Point}
use Rattle.sanlp.specs.Around.{loops_round}
use Rattle.sanlp.specs.Cells.{natural, counted, all_subscripts}
use Rattle.sanlp.specs.Loops.{interval, loop_values}
use Rattle.sanlp.specs.Trace.{PointsAt, trace_step, trace_node}

constant_stays : (k : ℕ) (c : ℤ) (at : List ℤ) → combined c (replicate k (pos 0)) at ≡ c
constant_stays zero c at = refl
constant_stays (suc k) c [] = refl
constant_stays (suc k) c (v ∷ at) =
    (let e : c +ℤ (pos 0 *ℤ v) ≡ c = ap (λ z. c +ℤ z) (zero-times v) ∙ omega (arith, ints) in
    ap (λ s. combined s (replicate k (pos 0)) at) e)
    ∙ constant_stays k c at

values_round : (k n : ℕ) (at : List ℤ)
    → loop_values (constant_form k (pos 0) ∷ []) (constant_form k (pos n -ℤ pos 1) ∷ []) (pos 1) at ≡ counted (pos 0) n
values_round k n at =
    ap (λ first. interval first (combined (pos n -ℤ pos 1) (replicate k (pos 0)) at)) (constant_stays k (pos 0) at)
    ∙ ap (interval (pos 0)) (constant_stays k (pos n -ℤ pos 1) at)
    ∙ (let e : pos n -ℤ pos 1 +ℤ pos 1 -ℤ pos 0
    ≡ pos n = omega (arith, ints) in ap (λ z. counted (pos 0) (natural z)) e)

abbrev sink_point : ℕ → List ℤ → Point
sink_point s at = record { statement = s; at = at }

-- what each value gives, given at the values
spread : (s : ℕ) (at : List ℤ) (g : List ℤ → List Point) (inner : List (List ℤ))
    → ((v : ℤ) → g (at ++ v ∷ []) ≡ map (λ sub. sink_point s ((at ++ v ∷ []) ++ sub)) inner)
    → (vs : List ℤ)
    → flat_map (λ v. g (at ++ v ∷ []) ++ []) vs
    ≡ map (λ sub. sink_point s (at ++ sub)) (flat_map (λ v. map (λ sub. v ∷ sub) inner) vs)
spread s at g inner each [] = refl
spread s at g inner each (v ∷ vs) =
    ap (λ ps. ps ++ flat_map (λ v. g (at ++ v ∷ []) ++ []) vs) (append-nil (g (at ++ v ∷ [])) ∙ each v ∙ shifted inner)
    ∙ ap (λ ps. map (λ sub. sink_point s (at ++ sub)) (map (λ sub. v ∷ sub) inner) ++ ps) (spread s at g inner each vs)
    ∙ sym (map-append (λ sub. sink_point s (at ++ sub)) (map (λ sub. v ∷ sub) inner)
    (flat_map (λ v. map (λ sub. v ∷ sub) inner) vs)) where
      shifted : (subs : List (List ℤ))
          → map (λ sub. sink_point s ((at ++ v ∷ []) ++ sub)) subs
          ≡ map (λ sub. sink_point s (at ++ sub)) (map (λ sub. v ∷ sub) subs)
      shifted [] = refl
      shifted (sub ∷ subs) =
          ap (λ l. sink_point s l ∷ map (λ sub. sink_point s ((at ++ v ∷ []) ++ sub)) subs)
          (append_assoc at (v ∷ []) sub)
          ∙ ap (λ ps. sink_point s (at ++ v ∷ sub) ∷ ps) (shifted subs)

pub trace_round : (id k : ℕ) (extents : List ℤ) (s : ℕ) (at : List ℤ)
    → trace_node (loops_round id k extents s) at ≡ map (λ sub. sink_point s (at ++ sub)) (all_subscripts extents)
trace_round id k [] s at =
    ap (λ node. trace_node node at) (sym (rolls-Assign s))
    ∙ ap (λ ps. ps at) (fold-roll-Node PointsAt trace_step (open_.Assign s))
    ∙ ap (λ l. sink_point s l ∷ []) (sym (append-nil at))
trace_round id k (e ∷ extents) s at =
    let lower : List Form = constant_form k (pos 0) ∷ [] in
    let upper : List Form = constant_form k (pos (natural e) -ℤ pos 1) ∷ [] in
    let inner : Node = loops_round (id + 1) (k + 1) extents s in
    ap (λ node. trace_node node at) (sym (rolls-Loop id lower upper (pos 1) (inner ∷ [])))
    ∙ ap (λ ps. ps at) (fold-roll-Node PointsAt trace_step (open_.Loop id lower upper (pos 1) (inner ∷ [])))
    ∙ ap (λ vs. flat_map (λ v. trace_node inner (at ++ v ∷ []) ++ []) vs) (values_round k (natural e) at)
    ∙ spread s at (trace_node inner) (all_subscripts extents)
    (λ v. trace_round (id + 1) (k + 1) extents s (at ++ v ∷ [])) (counted (pos 0) (natural e))
