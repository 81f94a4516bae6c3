-- The downward schedule as it is made: what is made so far, and one event more.
--
-- The invariant (`IsDescent`) is that what is made so far, with the downward schedule from there on, is the whole
-- downward schedule, and that no process from some bound on is ready. So the highest ready process below the bound
-- is the highest of all, and is the next entry. After its event no process past it is ready, or, at a Put, none
-- past it and past the channel's reader (`quiet_after`), which gives the next bound; and one event less is left.
-- Where no process below the bound is ready, all is made. That all scripts are at their ends then isn't said here.
use Rattle.std.proofs.Common.{◌≡◌, ℕ, suc, ◌<◌, ◌≤◌, false, Some, None, List, [], ◌∷◌, ◌++◌, length, sym, ap, ◌∙◌}
use Rattle.std.proofs.Common.{subst, arith, append_assoc, append-nil}
use Rattle.net_core.specs.declared.network.Event.{Event}
use Rattle.net_core.specs.Cuts.{cut_after, opening}
use Rattle.net_core.specs.Machine.{Net}
use Rattle.net_core.specs.Shape.{IsWired}
use Rattle.std.specs.Prelude.{slice_get}
use Rattle.witness_plan.specs.Records.{bound_after}
use Rattle.witness_plan.specs.Schedules.{downward_from, downward_schedule, highest_ready, is_ready}
use Rattle.witness_plan.proofs.AlongCuts.{cut_after-push}
use Rattle.witness_plan.proofs.Downward.{events_left, from_none, from_some, highest_above, highest_from, highest_is}
use Rattle.witness_plan.proofs.Downward.{left_first, left_less, past_bound, quiet_after, ready_inside}

-- what is made so far goes on to the downward schedule, and no process from the bound on is ready
pub record IsDescent (n : Net) (made : List ℕ) (below : ℕ) : Type 0 where
  pub whole : made ++ downward_from n (events_left n (cut_after opening made) n.processes) (cut_after opening made)
      ≡ downward_schedule n
  pub within : below ≤ n.processes
  pub quiet : (q : ℕ) → below ≤ q → q < n.processes → is_ready n (cut_after opening made) q ≡ false

pub descent_none : (n : Net) (made : List ℕ) (below : ℕ) → made ≡ [] → below ≡ n.processes → IsDescent n made below
unfolding downward_schedule
descent_none n made below is top =
    subst (λ s. IsDescent n s below) (sym is)
    (record {
      whole = ap (λ many. downward_from n many opening) (sym (left_first n n.processes));
      within = omega arith;
      quiet = λ q past lt. absurd (omega arith);
    })

-- the highest ready process below the bound is the highest of all
highest_of_all : (n : Net) (made : List ℕ) (below : ℕ) → IsDescent n made below
    → highest_ready n (cut_after opening made) n.processes ≡ highest_ready n (cut_after opening made) below
highest_of_all n made below descent =
    highest_from n (cut_after opening made) below n.processes descent.within descent.quiet

module _ (n : Net) (made : List ℕ) (below p : ℕ) (descent : IsDescent n made below)
    (found : highest_ready n (cut_after opening made) below ≡ Some p) where
  at_top : highest_ready n (cut_after opening made) n.processes ≡ Some p
  at_top = highest_of_all n made below descent ∙ found

  pub found_there : p < n.processes
  found_there = (highest_is n (cut_after opening made) n.processes p at_top).0

  pub found_inside : cut_after opening made p < length (n.script p)
  found_inside =
      ready_inside n (cut_after opening made) p (highest_is n (cut_after opening made) n.processes p at_top).1

  -- one event more
  module _ (more : List ℕ) (grown : more ≡ made ++ p ∷ []) where
    pub fewer_left : events_left n (cut_after opening made) n.processes
        ≡ suc (events_left n (cut_after opening more) n.processes)
    fewer_left =
        left_less n (cut_after opening made) p n.processes found_there found_inside
        ∙ ap (λ k. suc (events_left n k n.processes)) (sym (cut_after-push made more p grown))

    pub descent_more : (wired : IsWired n) (e : Event) (bound : ℕ)
        → slice_get (n.script p) (cut_after opening made p) ≡ Some e → bound ≡ bound_after n p e → bound ≤ n.processes
        → IsDescent n more bound
    descent_more wired e bound is value within =
        record {
          whole = ap (λ s.
              s ++ downward_from n (events_left n (cut_after opening more) n.processes) (cut_after opening more)) grown
              ∙ append_assoc made (p ∷ [])
              (downward_from n (events_left n (cut_after opening more) n.processes) (cut_after opening more))
              ∙ ap (λ c. made ++ p ∷ downward_from n (events_left n (cut_after opening more) n.processes) c)
              (cut_after-push made more p grown)
              ∙ ap (λ s. made ++ s)
              (sym (from_some n (events_left n (cut_after opening more) n.processes)
              (cut_after opening made) p at_top))
              ∙ ap (λ many. made ++ downward_from n many (cut_after opening made)) (sym fewer_left)
              ∙ descent.whole;
          within = within;
          quiet = λ q past lt.
              (let past' : bound_after n p e ≤ q = omega (arith, value) in
              subst (λ c. is_ready n c q ≡ false) (sym (cut_after-push made more p grown))
              (quiet_after n wired (cut_after opening made) p e is q past'
              (highest_above n (cut_after opening made) n.processes p q at_top
              (omega (arith, past_bound n p e)) lt)));
        }

-- where no process is ready, all is made
pub descent_all : (n : Net) (made : List ℕ) (below : ℕ) → IsDescent n made below
    → highest_ready n (cut_after opening made) below ≡ None → made ≡ downward_schedule n
descent_all n made below descent none =
    sym (append-nil made)
    ∙ ap (λ s. made ++ s)
    (sym (from_none n (events_left n (cut_after opening made) n.processes) (cut_after opening made)
    (highest_of_all n made below descent ∙ none)))
    ∙ descent.whole
