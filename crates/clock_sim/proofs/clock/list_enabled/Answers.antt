use Rattle.std.proofs.Common.{◌≡◌, ◌∙◌, ◌++◌, ◌∷◌, [], ℕ, List, Some, filter, length, slice_get, vec_capacity, ap, sym}
use Rattle.std.proofs.Common.{refl, arith}
use Rattle.std.specs.List.{range_with_len}
use Rattle.std.specs.declared.vec.Vec.{Vec}
use Rattle.std.specs.Global.{Global}
use Rattle.std.proofs.lemmas.Option.{slice_get_read}
use Rattle.net_core.specs.Held.{run_of}
use Rattle.net_core.specs.Machine.{net_of, enabled}
use Rattle.clock_sim.proofs.NumberFilters.{passing_short}
use Rattle.clock_sim.proofs.clock.list_enabled.Goals.{then-enabled, else-enabled}
use Rattle.clock_sim.proofs.clock.list_enabled.Goals as goal
use Rattle.node_automata.proofs.NumberFilters.{passing_more, passing_same}

pub push_reserved-requires : goal.push_reserved-requires
push_reserved-requires g c =
    let test = enabled (net_of c.args.network.now) (run_of c.args.state.now) in
    omega (
      arith,
      ap length c.loop-auto.invariant.listed,
      passing_short test c.loop-auto.auto-index,
      c.loop-auto.list.ok.0,
    )

pub loop-auto-preserved : goal.loop-auto-preserved
loop-auto-preserved g c =
    let autos = c.args.autos.now in
    let i = c.loop-auto.auto-index in
    let auto = c.auto-item.result in
    let test = enabled (net_of c.args.network.now) (run_of c.args.state.now) in
    let found : slice_get autos i ≡ Some auto =
    slice_get_read autos (length autos) i auto refl c.loop-auto-test.true c.auto-item.is in
    let number : auto.process ≡ i = c.requires.nodes.process i auto found in
    let is : test i ≡ c.enabled.result = ap test (sym number) ∙ sym c.enabled.ensures in
    elim c.if-enabled.branch [
      | then-enabled w ↦
          record {
            listed = ap (λ (v : Vec ℕ Global). v.items) w.list-is ∙ w.push_reserved.ensures.items
                ∙ ap (λ (l : List ℕ). l ++ auto.process ∷ []) c.loop-auto.invariant.listed
                ∙ ap (λ p. filter test (range_with_len 0 i) ++ p ∷ []) number
                ∙ sym (passing_more test i (is ∙ w.if-enabled.true));
            room = ap (λ (v : Vec ℕ Global). vec_capacity v) w.list-is ∙ w.push_reserved.ensures.capacity
                ∙ c.loop-auto.invariant.room;
          }
      | else-enabled w ↦
          record {
            listed =
                ap (λ (v : Vec ℕ Global). v.items) w.list-is ∙ c.loop-auto.invariant.listed
                ∙ sym (passing_same test i (is ∙ w.if-enabled.false));
            room = ap (λ (v : Vec ℕ Global). vec_capacity v) w.list-is ∙ c.loop-auto.invariant.room;
          }
    ]
