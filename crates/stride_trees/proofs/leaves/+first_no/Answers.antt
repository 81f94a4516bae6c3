use Rattle.std.proofs.Common.{◌≡◌, ◌∷◌, ◌&&◌, ◌∙◌, true, sym, ap, subst, rules}
use Rattle.std.specs.List.{list_all}
use Rattle.std.proofs.iter.SplitParts.{each_way}
use Rattle.stride_trees.specs.Leaves.{answer_at, IsRefusalAmong}
use Rattle.stride_trees.proofs.WriterTests.{refusal_behind}
use Rattle.stride_trees.proofs.leaves.+first_no.Goals as goal

pub returns : goal.returns
returns t c =
    let answers = c.args.answers.now in
    let d = c.in_ok-division.division.now in
    let ds = c.in_ok-division.divisions.now in
    let p = c.in_ok-place.place.now in
    let ps = c.in_ok-place.places.now in
    let divisions : c.args.divisions.now ≡ d ∷ ds = search rules in
    let places : c.args.places.now ≡ p ∷ ps = search rules in
    let says : answer_at answers p ≡ true = sym c.answer_at.ensures ∙ (search rules) in
    each_way c.first_no.result _ _ _ _
    (λ h. ap (list_all (answer_at answers)) places ∙ ap (λ b. b && list_all (answer_at answers) ps) says ∙ h)
    (λ refusal h. subst (λ ds. IsRefusalAmong answers ds c.args.places.now refusal) (sym divisions)
    (subst (λ ps. IsRefusalAmong answers (d ∷ ds) ps refusal) (sym places) (refusal_behind answers d p ds ps refusal h)))
    c.first_no.ensures
