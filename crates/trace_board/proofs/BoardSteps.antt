-- A board before its first event, and after one event more.
--
-- The invariant is IsBoard: the history is a run of the network from the start and the state is where it leads. An
-- event of an enabled process keeps both, since a run with an enabled process behind it is a run (`run_more`) that
-- leads one step further (`after_more`). No run has more events than the scripts, so there is room for the event's
-- number (`room_left`). Nothing is said of which process steps: that is the lane's matter.
use Rattle.std.proofs.Common.{◌≡◌, ℕ, ◌<◌, ◌≤◌, true, List, [], ◌∷◌, ◌++◌, length, ap, sym, subst, ◌∙◌, refl, arith}
use Rattle.std.proofs.Common.{length-append}
use Rattle.std.specs.Prelude.{◌↔◌}
use Rattle.sanlp.specs.declared.nest.Tag.{Tag}
use Rattle.net_core.specs.declared.network.Network.{Network}
use Rattle.net_core.specs.Held.{Held, IsFor}
use Rattle.net_core.specs.Machine.{Net, State, Rule, net_of, start, enabled, step, after, IsRun}
use Rattle.net_core.specs.Orders.{reached}
use Rattle.net_core.specs.Rules.{tags}
use Rattle.net_core.specs.Shape.{events_below}
use Rattle.net_core.proofs.EveryOrder.{run_short}
use Rattle.trace_board.specs.declared.lanes.Advance.{Advance}
use Rattle.trace_board.specs.declared.lanes.Advance.TheVariants.{Stepped, Idle, Done}
use Rattle.trace_board.specs.Advances.{Tells, history_after}
use Rattle.trace_board.specs.Boards.{IsBoard}
use Rattle.trace_board.specs.Lanes.{IsLeastEnabled, IsLaneIdle, HasLaneEnded}
use Rattle.trace_board.proofs.LaneAnswers.{stepped_is_least, idle_exactly, done_exactly}

run_more : {T : Type 0} (n : Net) (rule : Rule T) (run : List ℕ) (p : ℕ) (s : State T) → IsRun n rule s run
    → enabled n (after n rule s run) p ≡ true → IsRun n rule s (run ++ p ∷ [])
run_more n rule [] p s is on = (on, tt)
run_more n rule (q ∷ run) p s is on = (is.0, run_more n rule run p (step n rule s q) is.1 on)

after_more : {T : Type 0} (n : Net) (rule : Rule T) (run : List ℕ) (p : ℕ) (s : State T)
    → after n rule s (run ++ p ∷ []) ≡ step n rule (after n rule s run) p
after_more n rule [] p s = refl
after_more n rule (q ∷ run) p s = after_more n rule run p (step n rule s q)

pub board_none : (network : Network) (held : Held Tag) (history : List ℕ) (room : ℕ) → held.run ≡ start (net_of network)
    → IsFor (net_of network) held → history ≡ [] → events_below (net_of network) (net_of network).processes ≤ room
    → IsBoard network held history room
board_none network held history room opening holds none events =
    let n = net_of network in
    record {
      run = subst (λ (h : List ℕ). IsRun n tags (start n) h) (sym none) tt;
      state = opening ∙ ap (λ (h : List ℕ). reached n tags h) (sym none);
      holds = holds;
      events = events;
    }

module _ (network : Network) (held : Held Tag) (history : List ℕ) (room : ℕ)
    (board : IsBoard network held history room) where
  module _ (p : ℕ) (on : enabled (net_of network) held.run p ≡ true) where
    one_more : IsRun (net_of network) tags (start (net_of network)) (history ++ p ∷ [])
    one_more =
        run_more (net_of network) tags history p (start (net_of network)) board.run
        (subst (λ (s : State Tag). enabled (net_of network) s p ≡ true) board.state on)

    pub room_left : length history < room
    room_left =
        omega (
          arith,
          run_short (net_of network) tags board.holds.wired (history ++ p ∷ []) one_more,
          length-append history (p ∷ []),
          board.events,
        )

    pub board_more : (held' : Held Tag) (history' : List ℕ) (room' : ℕ) → IsFor (net_of network) held'
        → held'.run ≡ step (net_of network) tags held.run p → history' ≡ history ++ p ∷ [] → room' ≡ room
        → IsBoard network held' history' room'
    board_more held' history' room' holds stepped grown same =
        let n = net_of network in
        record {
          run = subst (λ (h : List ℕ). IsRun n tags (start n) h) (sym grown) one_more;
          state = stepped ∙ ap (λ (s : State Tag). step n tags s p) board.state
              ∙ sym (after_more n tags history p (start n)) ∙ ap (λ (h : List ℕ). reached n tags h) (sym grown);
          holds = holds;
          events = omega (arith, board.events, same);
        }

  -- what was told of the state is so of where the history leads
  module _ (lane lanes : ℕ) (a : Advance) (told : Tells (net_of network) held.run lane lanes a) where
    told_there : Tells (net_of network) (reached (net_of network) tags history) lane lanes a
    told_there = subst (λ (s : State Tag). Tells (net_of network) s lane lanes a) board.state told

    pub told_stepped : (p : ℕ) → a ≡ Stepped p
        → IsLeastEnabled (net_of network) (reached (net_of network) tags history) lane lanes p
    told_stepped = stepped_is_least (net_of network) (reached (net_of network) tags history) lane lanes a told_there

    pub told_idle : (a ≡ Idle) ↔ IsLaneIdle (net_of network) (reached (net_of network) tags history) lane lanes
    told_idle = idle_exactly (net_of network) (reached (net_of network) tags history) lane lanes a told_there

    pub told_done : (a ≡ Done) ↔ HasLaneEnded (net_of network) (reached (net_of network) tags history) lane lanes
    told_done =
        subst (λ (s : State Tag). (a ≡ Done) ↔ HasLaneEnded (net_of network) s lane lanes) board.state
        (done_exactly (net_of network) held.run board.holds.counted lane lanes a told)

-- an advance that steps no process leaves the history
pub history_left : (history : List ℕ) (a : Advance) → ((p : ℕ) → a ≡ Stepped p → ⊥) → history_after history a ≡ history
history_left history (Stepped p) other = absurd (other p refl)
history_left history Idle other = refl
history_left history Done other = refl
