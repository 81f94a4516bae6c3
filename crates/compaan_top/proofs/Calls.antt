-- What one can rely on of a call follows of how it ended.
--
-- Each of the promises is shown of all ends in a file of its own: the statuses in `OwnStatuses`, that acceptance vouches for
-- a sound certificate in `Acceptance`, what a call comes to whose source tells its bytes in `SourceBytes`, and that `deps`
-- passes no limit in `NoLimit`. Here they are put together. What is said of outcomes alone are the laws, which are hypotheses.
use Rattle.std.proofs.Common.{◌≡◌, ℕ, List, Option, Some, refl, sym, subst}
use Rattle.command_answers.specs.Statuses.{status_number}
use Rattle.command_answers.specs.declared.status.Status.{Status}
use Rattle.command_line.specs.declared.words.Order.{Order}
use Rattle.call_endings.specs.Changes.{Change}
use Rattle.compaan_top.specs.Answers.{Ends}
use Rattle.compaan_top.specs.Calls.{IsCallOf}
use Rattle.compaan_top.specs.Headline.{AcceptsWhatFits}
use Rattle.compaan_top.specs.Laws.{Succeeds}
use Rattle.compaan_top.proofs.OwnStatuses.{calls_own}
use Rattle.compaan_top.proofs.SourceBytes.{call_accepted, comes_done, comes_to}
use Rattle.compaan_top.proofs.NoLimit.{call_unlimited}
use Rattle.compaan_top.proofs.Acceptance.{VouchesFor, WhatFitsIsSound, ends_vouched}

pub what_ends : VouchesFor → WhatFitsIsSound
    → ((wanted : Option Order) (bundle : List ℕ) → AcceptsWhatFits wanted bundle)
    → ((wanted : Option Order) (bundle : List ℕ) → Succeeds wanted bundle)
    → (wanted : Option Order) (input output complaint : Change) (status : Status)
    → Ends wanted input output complaint status → IsCallOf wanted input output complaint (status_number status)
what_ends vouches sound accepts succeeds wanted input output complaint status ends = record {
  status = status;
  is_number = refl;
  ends = ends;
  statuses = calls_own wanted input output complaint ends;
  accepts = λ order. ends_vouched vouches sound wanted input output complaint order ends;
  comes = λ bundle. comes_to wanted input output complaint bundle ends;
  completes = λ bundle told valid answered. comes_done succeeds wanted output complaint bundle status valid
      (comes_to wanted input output complaint bundle ends told answered);
  accepted = call_accepted vouches sound accepts wanted input output complaint status ends;
  unlimited = call_unlimited succeeds wanted input output complaint status ends;
}

-- a call for the words is one for the order that they give
pub call_ordered : (wanted : Option Order) (order : Order) (input output complaint : Change) (number : ℕ)
    → wanted ≡ Some order → IsCallOf (Some order) input output complaint number
    → IsCallOf wanted input output complaint number
call_ordered wanted order input output complaint number ordered call =
    subst (λ (w : Option Order). IsCallOf w input output complaint number) (sym ordered) call
