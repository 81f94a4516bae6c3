-- What the command `deps` comes to, from what its steps come to.
use Rattle.std.proofs.Common.{◌≡◌, ℕ, ℤ, List, Option, Some, None, Result, Ok, Err, refl, sym, subst}
use Rattle.bundle.specs.Parts.{source_part}
use Rattle.deps_text.specs.Dependences.{AreDependences}
use Rattle.deps_text.specs.DepsText.{deps_text}
use Rattle.deps_text.specs.declared.dependence.Dependence.{Dependence}
use Rattle.deps_text.specs.declared.swept.Swept.{Swept}
use Rattle.sanlp.specs.declared.nest.Nest.{Nest}
use Rattle.command_answers.specs.Judging.{Judges}
use Rattle.command_answers.specs.Replying.{as_reply}
use Rattle.command_answers.specs.Replies.{done}
use Rattle.command_answers.specs.Source.{Gives}
use Rattle.compaan_top.specs.DepsOutcomes.{HasSwept, TellsSources, source_refused, size_refused, told}
use Rattle.command_answers.specs.declared.answer.Answer.{Answer}
use Rattle.command_answers.specs.declared.refusal.Refusal.{Refusal}
use Rattle.command_answers.specs.declared.refusal.Stop.{Stop}
use Rattle.command_answers.proofs.Stops.{Judges-Err}

abbrev pub JudgesDeps : List (List ℕ × ℤ) → List ℕ → Result Answer Stop → Type 0
JudgesDeps params bundle result = Judges (λ answer. TellsSources params bundle (as_reply answer)) result

-- the source is the bundle's
of_bundle : (params : List (List ℕ × ℤ)) (bundle source : List ℕ) (result : Result Nest Refusal)
    → source ≡ source_part bundle
    → Gives source params result → Gives (source_part bundle) params result
of_bundle params bundle source result is gives = subst (λ (s : List ℕ). Gives s params result) is gives

pub told_without_nest : (params : List (List ℕ × ℤ)) (bundle source : List ℕ) (stop : Stop)
    → source ≡ source_part bundle
    → Judges (Gives source params) (Err stop) → JudgesDeps params bundle (Err stop)
told_without_nest params bundle source stop is =
    Judges-Err (Gives source params) (λ answer. TellsSources params bundle (as_reply answer)) stop
    (λ refusal step. source_refused refusal (of_bundle params bundle source (Err refusal) is step))

pub told_without_size : (params : List (List ℕ × ℤ)) (bundle source : List ℕ) (nest : Nest) (stop : Stop)
    → source ≡ source_part bundle → Gives source params (Ok nest)
    → Judges (HasSwept nest) (Err stop) → JudgesDeps params bundle (Err stop)
told_without_size params bundle source nest stop is gives =
    Judges-Err (HasSwept nest) (λ answer. TellsSources params bundle (as_reply answer)) stop
    (λ refusal step.
    subst (λ (r : Refusal). TellsSources params bundle (Err r)) (sym step.3)
    (size_refused nest step.1 (of_bundle params bundle source (Ok nest) is gives) step.0 step.2))

pub told_nest : (params : List (List ℕ × ℤ)) (bundle source : List ℕ) (nest : Nest) (swept : Option Swept)
    (list : List Dependence)
    → source ≡ source_part bundle → Gives source params (Ok nest) → HasSwept nest (Ok swept) → AreDependences nest list
    → TellsSources params bundle (Ok (done (deps_text nest list)))
told_nest params bundle source nest None list is gives has are =
    told nest 0 (deps_text nest list) (of_bundle params bundle source (Ok nest) is gives) (λ some. absurd (some has))
    (list, are, refl)
told_nest params bundle source nest (Some swept) list is gives has are =
    told nest has.1 (deps_text nest list) (of_bundle params bundle source (Ok nest) is gives) (λ some. has.2)
    (list, are, refl)
