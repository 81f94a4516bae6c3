-- What was read, without its place.
use Rattle.std.proofs.Common.{◌≡◌, ◌≢◌, Result, Ok, Err, refl, sym, ◌∙◌}
use Rattle.std.specs.Prelude.{IfOk, MatchResult}
use Rattle.cert_lines.specs.declared.error.CertError.{CertError}
use Rattle.cert_lines.specs.declared.error.CertError.TheVariants.{Line, Number, Truncated, Deep, Long, Memory}
use Rattle.plain_data.specs.Answers.{IsUnlessMemory}

-- What an answer tells of the texts

-- the only refusal of a text that is read is want of memory
only_memory : (refusal : CertError) → (refusal ≢ Memory → ⊥) → refusal ≡ Memory
only_memory (Line n) known = absurd (known (λ e. cc))
only_memory (Number n) known = absurd (known (λ e. cc))
only_memory Truncated known = absurd (known (λ e. cc))
only_memory (Deep n) known = absurd (known (λ e. cc))
only_memory (Long process) known = absurd (known (λ e. cc))
only_memory Memory known = refl

pub answer_of_text : {A : Type 0} (answer wanted : Result A CertError) (x : A) → IsUnlessMemory Memory answer wanted
    → wanted ≡ Ok x → MatchResult answer (λ y. y ≡ x) (λ error. error ≡ Memory)
answer_of_text (Ok y) wanted x gives read =
    let same : ◌≡◌ {A = Result _ CertError} (Ok y) (Ok x) = sym gives ∙ read in cc
answer_of_text (Err refusal) wanted x gives read = only_memory refusal (λ known. refused (sym (gives known) ∙ read))
  where
    refused : ◌≡◌ {A = Result _ CertError} (Err refusal) (Ok x) → ⊥
    refused e = cc

pub if_answered : {A : Type 0} (P : A → Type 0) (answer wanted : Result A CertError)
    → IsUnlessMemory Memory answer wanted → ((x : A) → wanted ≡ Ok x → P x) → IfOk answer P
if_answered P (Ok x) wanted gives holds = holds x gives
if_answered P (Err refusal) wanted gives holds = tt
