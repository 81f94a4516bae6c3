-- One number more where the write is of the reader's statement.
use Rattle.std.proofs.Common.{◌≡◌, ◌∷◌, ◌++◌, ◌*◌, [], ℕ, List, cond, length, sym, ap, ◌∙◌, arith}
use Rattle.std.proofs.lemmas.Bool.{eq-eqb, ne_eqb}
use Rattle.std.proofs.lemmas.List.{append-nil}
use Rattle.stride_trees.specs.Leaves.{order_counts}
use Rattle.source_tree.specs.References.{occurrence_of}
use Rattle.stride_trees.proofs.leaves.after_counts.Goals as goal

pub returns-then-write-w : goal.returns-then-write-w
returns-then-write-w c =
    let r = occurrence_of c.args.w.now.read in
    let u = occurrence_of c.args.write.now in
    let same : List ℕ = (2 * length r.statement.loops) ∷ [] in
    let value : 2 * c.len-loops.result ≡ 2 * length r.statement.loops = omega (arith, c.len-loops.ensures) in
    c.in_ok-push.ensures.ok ∙ ap (λ ns. ns ++ (2 * c.len-loops.result) ∷ []) c.in_ok-counts.ensures
    ∙ ap (λ n. order_counts r u ++ n ∷ []) value
    ∙ ap (λ b. order_counts r u ++ cond b same []) (sym (eq-eqb u.number r.number c.if-write-w.true))

pub returns : goal.returns
returns c =
    let r = occurrence_of c.args.w.now.read in
    let u = occurrence_of c.args.write.now in
    let same : List ℕ = (2 * length r.statement.loops) ∷ [] in
    c.in_ok-counts.ensures ∙ sym (append-nil (order_counts r u))
    ∙ ap (λ b. order_counts r u ++ cond b same []) (sym (ne_eqb u.number r.number c.if-write-w.false))
