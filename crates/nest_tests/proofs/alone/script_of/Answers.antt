use Rattle.std.proofs.Common.{[], length, sym, ap, ◌∙◌, arith}
use Rattle.std.specs.Option.{option_map_or}
use Rattle.net_core.specs.declared.network.Process.{Process}
use Rattle.nest_tests.proofs.alone.script_of.Goals as goal
use Rattle.plain_data.proofs.Lists.{slice_get_read_same}

pub returns : goal.returns
returns c =
    let processes = c.args.network.now.processes in
    let p = c.args.process in
    let found =
    slice_get_read_same processes c.as_slice.result.now p c.index-as_slice-process.result c.as_slice.ensures
    (omega (arith, ap length c.as_slice.ensures, c.requires)) c.index-as_slice-process.is in
    ap (λ (process : Process). process.script) (sym c.index-as_slice-process.is)
    ∙ sym (ap (λ o. option_map_or (λ (process : Process). process.script) o []) found)
