use Rattle.std.proofs.Common.{[], ◌++◌, ◌≤◌, length, sym, ap, ◌∙◌}
use Rattle.std.specs.Option.{option_map_or}
use Rattle.std.proofs.lemmas.Bool.{ltb-false}
use Rattle.std.proofs.lemmas.List.{append-nil}
use Rattle.std.proofs.lemmas.Option.{slice_get_past}
use Rattle.tree_sums.specs.Parts.{term_products}
use Rattle.tree_sums.proofs.replace.append_place.Goals as goal

-- there is no sum for a row past the end
pub returns-in-None : goal.returns-in-None
returns-in-None c =
    let past : length c.args.sums.now ≤ c.args.row =
    ltb-false c.args.row (length c.args.sums.now) (sym c.in-None.ensures.lookup.0) in
    sym (ap (λ o. c.args.out.now ++ term_products c.args.by (option_map_or (λ ts. ts) o []))
    (slice_get_past c.args.sums.now c.args.row past) ∙ append-nil c.args.out.now)
