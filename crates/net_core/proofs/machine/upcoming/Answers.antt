use Rattle.std.proofs.Common.{◌≡◌, ◌∙◌, [], Some, length, refl, ap, sym, inl, inr, arith, ltb-true, lt-ltb}
use Rattle.std.specs.Prelude.{slice_get}
use Rattle.std.specs.Option.{option_map_or}
use Rattle.std.proofs.lemmas.Bool.{cases_lt, false≢true}
use Rattle.std.proofs.lemmas.Option.{slice_get_read}
use Rattle.net_core.specs.declared.machine.Local.{Local}
use Rattle.net_core.specs.Machine.{net_of}
use Rattle.net_core.specs.Held.{run_of}
use Rattle.net_core.proofs.machine.upcoming.Goals as goal
use Rattle.plain_data.proofs.Lists.{slice_get-drop}

pub returns-in-Some : goal.returns-in-Some
returns-in-Some g c =
    let p = c.args.process in
    let n = net_of c.args.network.now in
    let look = c.in-Some.ensures.lookup in
    let found : slice_get c.deref.result.now p ≡ Some c.in-Some.local.now =
    slice_get_read c.deref.result.now (length c.deref.result.now) p c.in-Some.local.now refl
    (ltb-true _ _ (sym look.0)) look.1 in
    let here = ap (λ locals. slice_get locals p) (sym c.deref.ensures.value) ∙ found in
    let left = ap (λ o. option_map_or (λ (l : Local g.row.T.Denot). l.room.left) o []) here in
    c.upcoming.ensures ∙ ap (λ events. slice_get events 0) (sym left ∙ c.requires.left p)
    ∙ slice_get-drop ((run_of c.args.state.now).local p).position (n.script p)

pub returns-in-None : goal.returns-in-None
returns-in-None g c =
    let p = c.args.process in
    let n = net_of c.args.network.now in
    let look = c.in-None.ensures.lookup in
    let long = ap length c.deref.ensures.value in
    elim (cases_lt p (length c.deref.result.now)) [
      | inl lt ↦ absurd (false≢true (look.0 ∙ lt-ltb _ _ lt))
      | inr past ↦ sym
          (ap (λ events. slice_get events ((run_of c.args.state.now).local p).position)
          (c.requires.wired.bounded p (omega (arith, past, long, c.requires.processes))))
    ]
