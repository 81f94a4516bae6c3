-- Ends that wrap others.
use Rattle.std.proofs.Common.{List, ap, sym, ◌∙◌}
use Rattle.std.specs.Prelude.{map}
use Rattle.std.specs.Option.{option_map}
use Rattle.std.proofs.lemmas.List.{length-map}
use Rattle.std.proofs.lemmas.Option.{slice_get-map}
use Rattle.sanlp.specs.declared.nest.Inputs.{Inputs}
use Rattle.sanlp.specs.declared.nest.Nest.{Nest}
use Rattle.net_core.specs.declared.network.Network.{Network}
use Rattle.node_runner.specs.Nodes.{Ports}
use Rattle.thread_runner.specs.Runs.{AreEndsOf}

pub wrapped_ends : {E F : Type 0} (f : E → F) (from to : F → Ports) (nest : Nest) (network : Network) (d : Inputs)
    (all : List E)
    → AreEndsOf from to nest network d (map f all) → AreEndsOf (λ e. from (f e)) (λ e. to (f e)) nest network d all
wrapped_ends f from to nest network d all are = record {
  number = sym (length-map all f) ∙ are.number;
  each = λ p e is. are.each p (f e) (slice_get-map f all p ∙ ap (option_map f) is);
}
