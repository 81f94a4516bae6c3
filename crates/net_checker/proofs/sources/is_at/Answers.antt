use Rattle.std.proofs.Common.{◌≡◌, Some, length, refl, sym, ap, ◌∙◌}
use Rattle.std.proofs.lemmas.Bool.{ltb-true}
use Rattle.std.proofs.lemmas.Bool.Decides.{Decides-int_eq}
use Rattle.std.proofs.lemmas.Option.{slice_get_read}
use Rattle.std.proofs.lemmas.Slice.Eq.{slice_eq-Decides}
use Rattle.net_checker.proofs.sources.is_at.Goals as goal

pub returns-in-Some : goal.returns-in-Some
returns-in-Some c equal =
    let vectors = c.args.vectors.now in
    let lookup = c.in-Some.ensures.lookup in
    let same : c.as_slice.result.now ≡ c.as_slice-in-Some.result.now =
    (slice_eq-Decides Decides-int_eq _ _ c.eq.result c.eq.ensures).0 equal in
    slice_get_read vectors (length vectors) c.args.place c.in-Some.there.now refl
    (ltb-true c.args.place (length vectors) (sym lookup.0)) lookup.1
    ∙ ap Some (sym c.as_slice.ensures.value ∙ same ∙ c.as_slice-in-Some.ensures.value)
