-- What a Put port offers is there.
--
-- Where a Put port waits the next event that it sees is a Put, before which its process has a Fire. All Fires
-- before it have come, so the process has kept a value, and the last of these is what it fired last.
use Rattle.std.proofs.Common.{◌≡◌, ℕ, suc, ◌<◌, ◌≤◌, true, false, Some, length, drop}
use Rattle.std.proofs.Common.{ap, sym, ◌∙◌, inl, inr, arith}
use Rattle.std.proofs.lemmas.Bool.{or_cases}
use Rattle.std.proofs.lemmas.Option.{slice_get_within}
use Rattle.net_core.specs.Machine.{Net}
use Rattle.net_core.specs.Shape.{is_fire, is_put, IsWired}
use Rattle.net_core.proofs.BlockCounts.{put_is}
use Rattle.design_clocks.proofs.Clocked.{some_last}
use Rattle.port_items.specs.Items.{begins_with_put, put_items}
use Rattle.port_runs.specs.Ports.{PortState}
use Rattle.port_runs.proofs.ComeCounts.{count_least}
use Rattle.port_runs.proofs.PortCounts.{PortCounted}
use Rattle.port_design.specs.Registers.{Controls, Design, token_for}
use Rattle.port_design.specs.Clocked.{StandsFor, is_put_or_fire, puts_from}
use Rattle.port_design.proofs.Ahead.{at_next, at_none, puts_skip}
use Rattle.port_design.proofs.Fronts.{fire_front}
use Rattle.port_design.proofs.Next.{fire_at_putter}
use Rattle.port_design.proofs.Places.{find_next}

pub offered_is_there : {T : Type 0} (n : Net) (controls : Controls) → IsWired n → (s : PortState T) (d : Design T)
    → StandsFor n controls s d → PortCounted n s → (c : ℕ) → (d.putter c).waits ≡ true
    → (x : T) × (token_for n d c ≡ Some x)
offered_is_there n controls wired s d stands counted c on =
    let w = n.writer c in
    let script = n.script w in
    let at = stands.putters c in
    let begins : begins_with_put (puts_from n c at.place) ≡ true = sym at.waits ∙ on in
    elim (find_next (is_put_or_fire c) script (s.has_come w) at.place at.passed) [
      | inl x ↦
          let ahead =
          at_next (put_items c) (is_put_or_fire c) (puts_skip c) script (s.has_come w) at.place x.0 x.1 at.passed x.2 in
          elim (or_cases (is_put c x.1) (is_fire x.1) x.2.on) [
            | inl put ↦
                let inside = slice_get_within script x.0 x.1 x.2.is in
                let fired = wired.put_fired w x.0 c (x.2.is ∙ ap Some (put_is c x.1 put)) in
                let low : x.0 ≤ length script = omega arith in
                let come =
                count_least is_fire (s.has_come w) script x.0 low
                (λ j f lt is fire. x.2.before j f lt is (fire_at_putter c f fire)) in
                let some : 0 < length (s.run.local w).kept = omega (arith, fired, come, counted.kept w) in
                let last = some_last (s.run.local w).kept some in
                (last.0, (stands.nodes w).fired ∙ last.1)
            | inr fire ↦
                let wrong : false ≡ true =
                sym (ap begins_with_put (ahead ∙ fire_front c x.1 (drop (suc x.0) script) fire)) ∙ begins in
                absurd (cc)
          ]
      | inr none ↦
          let wrong : false ≡ true =
          sym (ap begins_with_put (at_none (put_items c) (is_put_or_fire c) (puts_skip c) script at.place none))
          ∙ begins in
          absurd (cc)
    ]
