use Rattle.std.proofs.Common.{◌≡◌, ℕ, false, Some, length, slice_get}
use Rattle.net_core.specs.declared.network.Process.{Process}
use Rattle.port_sim.specs.declared.window.Window.{Window}
use Rattle.port_sim.specs.Windows.{IsWindow}
use Rattle.port_sim.proofs.ports.first_windows.Given as goal

abbrev pub invariant-loop-process : goal.invariant-loop-process
invariant-loop-process l =
    record {
      number : length l.windows.items ≡ l.process-index;
      each : (p : ℕ) (w : Window) (process : Process) → slice_get l.windows.items p ≡ Some w
          → slice_get l.processes p ≡ Some process → IsWindow process.script (λ k. false) w;
    }
