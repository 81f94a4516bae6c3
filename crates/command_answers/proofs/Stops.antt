-- A step that stops, and the whole that it is a step of.
--
-- A step stops at a refusal or for want of memory. Want of memory is free in what is judged of both, and no step reads
-- anything, so a fault of reading is contradictory in both. What is left is a refusal, which the whole has by a case of
-- its own; that case is the premise here. The nest of a bundle's source within the limit on its size is the step that
-- nearly every command begins with (`without_nest`).
use Rattle.std.proofs.Common.{◌≡◌, ℕ, ℤ, List, Result, Err, subst}
use Rattle.bundle.specs.Parts.{source_part}
use Rattle.sanlp.specs.declared.nest.Nest.{Nest}
use Rattle.command_answers.specs.Judging.{Judges}
use Rattle.command_answers.specs.Source.{GivesWithinSize}
use Rattle.command_answers.specs.Steps.{HasSizedNest}
use Rattle.command_answers.specs.declared.refusal.Refusal.{Refusal}
use Rattle.command_answers.specs.declared.refusal.Stop.{Stop}
use Rattle.command_answers.specs.declared.refusal.Stop.TheVariants.{Refused, ReadFault, Memory}

pub Judges-Err : {A B : Type 0} (Step : Result A Refusal → Type 0) (Whole : Result B Refusal → Type 0) (stop : Stop)
    → ((refusal : Refusal) → Step (Err refusal) → Whole (Err refusal))
    → Judges Step (Err stop) → Judges Whole (Err stop)
Judges-Err Step Whole (Refused refusal) refuses step = refuses refusal step
Judges-Err Step Whole ReadFault refuses step = step
Judges-Err Step Whole Memory refuses step = tt

-- the source is the bundle's
pub nest_is : (params : List (List ℕ × ℤ)) (bundle source : List ℕ) (answer : Result Nest Refusal)
    → source ≡ source_part bundle
    → GivesWithinSize source params answer → GivesWithinSize (source_part bundle) params answer
nest_is params bundle source answer is gives = subst (λ (s : List ℕ). GivesWithinSize s params answer) is gives

pub without_nest : {A : Type 0} (Whole : Result A Refusal → Type 0) (params : List (List ℕ × ℤ))
    (bundle source : List ℕ) (stop : Stop)
    → ((refusal : Refusal) → GivesWithinSize (source_part bundle) params (Err refusal) → Whole (Err refusal))
    → source ≡ source_part bundle → Judges (HasSizedNest source params) (Err stop) → Judges Whole (Err stop)
without_nest Whole params bundle source stop refuses is =
    Judges-Err (HasSizedNest source params) Whole stop
    (λ refusal step. refuses refusal (nest_is params bundle source (Err refusal) is step))
