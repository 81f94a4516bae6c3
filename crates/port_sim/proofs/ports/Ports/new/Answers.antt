use Rattle.std.proofs.Common.{◌≡◌, ℕ, false, [], Some, List, length, replicate, slice_get, ap, sym, subst, ◌∙◌}
use Rattle.std.proofs.Common.{refl, arith}
use Rattle.std.specs.Option.{option_map_or}
use Rattle.std.proofs.lemmas.List.{get_or-replicate, length-replicate}
use Rattle.std.proofs.lemmas.Option.{slice_get_read, slice_get_within}
use Rattle.net_core.specs.declared.network.Event.{Event}
use Rattle.net_core.specs.declared.network.Process.{Process}
use Rattle.net_core.specs.Machine.{net_of}
use Rattle.net_core.proofs.Ready.{script_short}
use Rattle.port_sim.specs.Windows.{IsWindow}
use Rattle.port_sim.proofs.ports.Ports.new.Goals as goal
use Rattle.plain_data.proofs.Lists.{slice_get-some}

-- the script of a process that is read
script_is : (processes read : List Process) (p : ℕ) (process : Process) → read ≡ processes
    → slice_get read p ≡ Some process
    → option_map_or (λ (q : Process). q.script) (slice_get processes p) [] ≡ process.script
script_is processes read p process same found =
    ap (λ o. option_map_or (λ (q : Process). q.script) o [])
    (ap (λ (l : List Process). slice_get l p) (sym same) ∙ found)

pub first_windows-requires : goal.first_windows-requires
first_windows-requires c =
    λ p process found.
    let n = net_of c.args.wired.now.network.now in
    let script = script_is c.args.wired.now.network.now.processes c.as_slice.result.now p process c.as_slice.ensures found in
    omega (arith, ap length script, script_short n c.args.wired.now.wired c.args.wired.now.numbers p)

pub returns : goal.returns
returns c =
    let network = c.args.wired.now.network.now in
    let read = c.as_slice.result.now in
    let many = c.in_ok-first_windows.ensures.0 in
    let queued = c.in_ok-vec.ensures.items_if_clones_equal (λ y h. h) ∙ ap (λ k. replicate k 0) c.len.ensures in
    let channels = length network.channels in
    record {
      wired = c.args.wired.now.wired;
      numbers = c.args.wired.now.numbers;
      reached = ([], tt, refl);
      number = many ∙ ap length c.as_slice.ensures;
      windows = λ p w found.
          let inside = slice_get_within c.in_ok-first_windows.field-0.items p w found in
          let process = slice_get-some read p (omega (arith, inside, many)) in
          let script = script_is network.processes read p process.0 c.as_slice.ensures process.1 in
          subst (λ (l : List Event). IsWindow l (λ k. false) w) (sym script)
          (c.in_ok-first_windows.ensures.1 p w process.0 found process.1);
      queues = record {
        number = ap length queued ∙ length-replicate channels 0;
        lengths = λ ch there.
            ap (λ (l : List ℕ). slice_get l ch) queued
            ∙ slice_get_read (replicate channels 0) channels ch 0 (sym (length-replicate channels 0)) there
            (sym (get_or-replicate channels ch 0 0 there));
      };
    }
