use Rattle.std.proofs.Common.{◌∷◌, [], map, sym, subst}
use Rattle.std.proofs.lemmas.Result.{on_ok_weaker}
use Rattle.tree_graphs.specs.Asked.{read_of}
use Rattle.lex_max.specs.Leaves.{after_levels, AddsProofs}
use Rattle.lex_max.proofs.LevelProofs.{after_other, after_same}
use Rattle.lex_max.proofs.LeafProofs.{level_same}
use Rattle.lex_max.proofs.LeafParts.{adds_more_proofs, adds_no_proofs, adds_one_proof}
use Rattle.source_tree.specs.Places.{same_rows}
use Rattle.source_tree.specs.Systems.{reader_place, with_rows}
use Rattle.lex_max.proofs.leaf.push_after.Goals as goal

pub same_proof-requires-clause-level : goal.same_proof-requires-clause-level
same_proof-requires-clause-level c = level_same c.args.w.now c.if-w.true

pub returns-then-w : goal.returns-then-w
returns-then-w c =
    let w = c.args.w.now in
    on_ok_weaker c.push.result
    (λ is cx context place k.
    let p = c.in_ok-same_proof.ensures cx context place k in
    let last = with_rows cx (same_rows (reader_place (read_of w)) place) in
    subst (λ systems. AddsProofs systems c.args.proofs.now c.push.new.self) (sym (after_same w cx place c.if-w.true))
    (adds_more_proofs (map (with_rows cx) (after_levels w place)) (last ∷ []) c.args.proofs.now c.push_levels.new.proofs
    c.push.new.self (c.in_ok-push_levels.ensures cx context place k)
    (adds_one_proof last c.in_ok-same_proof.field-0 c.push_levels.new.proofs c.push.new.self is p.0 p.1)))
    c.push.ensures.ok

pub returns : goal.returns
returns c cx context place k =
    let w = c.args.w.now in
    subst (λ systems. AddsProofs systems c.args.proofs.now c.push_levels.new.proofs)
    (sym (after_other w cx place c.if-w.false))
    (adds_more_proofs (map (with_rows cx) (after_levels w place)) [] c.args.proofs.now c.push_levels.new.proofs
    c.push_levels.new.proofs (c.in_ok-push_levels.ensures cx context place k)
    (adds_no_proofs c.push_levels.new.proofs))
