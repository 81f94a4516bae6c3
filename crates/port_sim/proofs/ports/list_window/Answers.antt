use Rattle.std.proofs.Common.{◌≡◌, ◌+◌, [], ◌∷◌, ◌++◌, cond, List, length, map, ap, sym, subst, ◌∙◌, refl}
use Rattle.std.proofs.Common.{arith, add-zero, append-nil, append_assoc}
use Rattle.std.specs.Global.{Global}
use Rattle.std.specs.declared.vec.Vec.{Vec}
use Rattle.std.proofs.lemmas.List.{map-append}
use Rattle.std.proofs.lemmas.Option.{slice_get_read}
use Rattle.net_core.specs.Machine.{net_of}
use Rattle.port_runs.specs.Ports.{EventPlace}
use Rattle.port_clocks.specs.PortClocks.{comes}
use Rattle.port_sim.specs.declared.ports.EventIndex.{EventIndex}
use Rattle.port_sim.specs.Windows.{HasQueues, is_of_kind, place_of}
use Rattle.port_sim.proofs.PartLists.{first_more, none_before, none_behind, passing_first}
use Rattle.port_sim.proofs.PortsHeld.{channel_of, window_small}
use Rattle.port_sim.proofs.Rounds.{event_here}
use Rattle.port_sim.proofs.ports.list_window.Goals.{then-comes+in_ok-push, else-comes}
use Rattle.port_sim.proofs.ports.list_window.Goals as goal

pub loop-at-init : goal.loop-at-init
loop-at-init c =
    λ clock s q at.
    let n = net_of c.args.network.now in
    let kind = is_of_kind c.args.kind in
    let p = c.args.process in
    let windows = c.args.ports.now.windows.items in
    let w = c.index-window.result.now in
    let held = slice_get_read windows (length windows) p w refl c.requires.process c.index-window.ensures in
    let old = map place_of c.args.list.now.items in
    sym (append-nil old)
    ∙ ap (λ (l : List EventPlace). old ++ l)
    (sym (none_before n kind clock s p w (at.windows p w held))
    ∙ ap (passing_first (comes n kind clock s) p) (sym (add-zero w.first)))

pub comes-requires-clause-channel : goal.comes-requires-clause-channel
comes-requires-clause-channel c =
    λ x read.
    let n = net_of c.args.network.now in
    let ports = c.args.ports.now in
    let p = c.args.process in
    let w = c.index-window.result.now in
    let held =
    slice_get_read ports.windows.items (length ports.windows.items) p w refl c.requires.process
    c.index-window.ensures in
    let s = c.requires.reached.0 in
    let at = c.requires.reached.1 in
    channel_of n s ports at p (w.first + c.loop-at.at) x.event
    (event_here (n.script p) (s.has_come p) w (at.windows p w held) c.loop-at.at x read)

pub overflow_cast-at : goal.overflow_cast-at
overflow_cast-at c =
    let ports = c.args.ports.now in
    let p = c.args.process in
    let w = c.index-window.result.now in
    let held =
    slice_get_read ports.windows.items (length ports.windows.items) p w refl c.requires.process
    c.index-window.ensures in
    let small =
    window_small (net_of c.args.network.now) c.requires.reached.0 ports c.requires.reached.1 p w held in
    omega (arith, small, c.loop-at-test.true, c.len-at-end.ensures, w.events.ok.0)

pub overflow_add-window : goal.overflow_add-window
overflow_add-window c =
    let ports = c.args.ports.now in
    let p = c.args.process in
    let w = c.index-window.result.now in
    let held =
    slice_get_read ports.windows.items (length ports.windows.items) p w refl c.requires.process
    c.index-window.ensures in
    let small =
    window_small (net_of c.args.network.now) c.requires.reached.0 ports c.requires.reached.1 p w held in
    omega (arith, small, c.loop-at-test.true, c.len-at-end.ensures, w.events.ok.0)

pub loop-at-preserved : goal.loop-at-preserved
loop-at-preserved c =
    λ clock s q at.
    let n = net_of c.args.network.now in
    let kind = is_of_kind c.args.kind in
    let test = comes n kind clock s in
    let p = c.args.process in
    let windows = c.args.ports.now.windows.items in
    let w = c.index-window.result.now in
    let held = slice_get_read windows (length windows) p w refl c.requires.process c.index-window.ensures in
    let i = c.loop-at.at in
    let here = w.first + i in
    let old = map place_of c.args.list.now.items in
    let queues : HasQueues n s c.deref.result.now =
    subst (HasQueues n s) (sym c.deref.ensures.value) at.queues in
    let is : test (p, here) ≡ c.comes.result = sym (c.comes.ensures clock s p q queues (at.windows p w held)) in
    let before = c.loop-at.invariant clock s q at in
    let next : here + 1 ≡ w.first + (i + 1) = omega arith in
    let more = first_more test p here in
    elim c.if-comes.branch [
      | then-comes+in_ok-push v ↦
          ap (λ (l : Vec EventIndex Global). map place_of l.items) v.list-is
          ∙ ap (map place_of) v.in_ok-push.ensures.items
          ∙ map-append place_of c.loop-at.list.items (record { process = p; place = here } ∷ [])
          ∙ ap (λ (l : List EventPlace). l ++ (p, here) ∷ []) before
          ∙ append_assoc old (passing_first test p here) ((p, here) ∷ [])
          ∙ ap (λ (l : List EventPlace). old ++ l)
          (sym (more ∙ ap (λ b. passing_first test p here ++ cond b ((p, here) ∷ []) []) (is ∙ v.if-comes.true))
          ∙ ap (passing_first test p) next)
      | else-comes v ↦
          ap (λ (l : Vec EventIndex Global). map place_of l.items) v.list-is
          ∙ before
          ∙ ap (λ (l : List EventPlace). old ++ l)
          (sym (more ∙ ap (λ b. passing_first test p here ++ cond b ((p, here) ∷ []) []) (is ∙ v.if-comes.false)
          ∙ append-nil (passing_first test p here))
          ∙ ap (passing_first test p) next)
    ]

pub returns : goal.returns
returns c =
    λ clock s q at.
    let n = net_of c.args.network.now in
    let kind = is_of_kind c.args.kind in
    let p = c.args.process in
    let windows = c.args.ports.now.windows.items in
    let w = c.index-window.result.now in
    let held = slice_get_read windows (length windows) p w refl c.requires.process c.index-window.ensures in
    let old = map place_of c.args.list.now.items in
    let last : w.first + c.loop-at.at ≡ w.first + length w.events.items =
    omega (arith, c.loop-at-test.false, c.loop-at.auto.at-end, c.len-at-end.ensures, w.events.ok.0) in
    c.loop-at.invariant clock s q at
    ∙ ap (λ m. old ++ passing_first (comes n kind clock s) p m) last
    ∙ ap (λ (l : List EventPlace). old ++ l) (none_behind n kind clock s p w (at.windows p w held))
