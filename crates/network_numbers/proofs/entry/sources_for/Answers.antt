use Rattle.std.proofs.Common.{◌∙◌, [], ap, sym, refl, length}
use Rattle.std.specs.Prelude.{slice_index_or}
use Rattle.std.proofs.lemmas.Bool.{ltb-true}
use Rattle.std.proofs.lemmas.Option.{get_or_from_slice_get, slice_get_read}
use Rattle.network_numbers.proofs.entry.sources_for.Goals as goal

pub returns-in-Some : goal.returns-in-Some
returns-in-Some c =
    let table = c.args.table.now in
    let sources = c.in-Some.sources.now in
    let lookup = c.in-Some.ensures.lookup in
    let list = c.list_at.result in
    let there = slice_get_read table (length table) list sources refl
    (ltb-true list (length table) (sym lookup.0)) lookup.1 in
    c.as_slice.ensures
    ∙ sym (get_or_from_slice_get table list sources [] there)
    ∙ ap (λ i. slice_index_or table i []) c.list_at.ensures
