use Rattle.std.proofs.Common.{◌≡◌, ℕ, Option, Some, None, List, Result, Ok, Err, sym, ap, ◌∙◌}
use Rattle.std.proofs.lemmas.Result.{err_from_is_err_and}
use Rattle.cert_lines.specs.declared.error.CertError.{CertError}
use Rattle.cert_lines.specs.Reading.{Place, found}
use Rattle.cert_text.specs.declared.kept.Kept.{Kept}
use Rattle.cert_text.specs.Kept.{cert_of_kept, network_of_kept, whole_kept}
use Rattle.cert_text.specs.Reading.{pair_unless, reading}
use Rattle.cert_text.proofs.TextContents.{pair_of_kept, reading_kept}
use Rattle.cert_text.proofs.reading.read_pair.Goals as goal

-- what a text comes to by what its reading kept
by_kept : (text : List ℕ) (at : Place) (read : Result (Kept × Place) CertError) → at ≡ record { line = 1; text = text }
    → whole_kept at ≡ read → reading text ≡ pair_of_kept (found read)
by_kept text at read is e =
    reading_kept text
    ∙ ap (λ (place : Place). pair_of_kept (found (whole_kept place))) (sym is)
    ∙ ap (λ (r : Result (Kept × Place) CertError). pair_of_kept (found r)) e

unless : (long : Option ℕ) (answer : Option ℕ) (kept : Kept) → answer ≡ long
    → pair_unless answer (network_of_kept kept) (cert_of_kept kept)
    ≡ pair_unless long (network_of_kept kept) (cert_of_kept kept)
unless long answer kept e = ap (λ (o : Option ℕ). pair_unless o (network_of_kept kept) (cert_of_kept kept)) e

pub returns-in_err-kept : goal.returns-in_err-kept
returns-in_err-kept c =
    let told = err_from_is_err_and c.from_residual.result c.from_residual.ensures.1 in
    rw (told.1, told.2)
    (λ known. by_kept c.args.bytes.now c.new-lines.result (Err c.in_err-kept.field-0.0) c.new-lines.ensures
    (c.in_err-kept.ensures.reads known))

pub returns-in-Some : goal.returns-in-Some
returns-in-Some c = λ known.
    by_kept c.args.bytes.now c.new-lines.result
    (Ok (c.in_ok-kept.kept, c.read_whole.new.lines)) c.new-lines.ensures c.in_ok-kept.ensures.reads
    ∙ unless (Some c.in-Some.process) _ c.in_ok-kept.kept (sym c.too_long.ensures ∙ c.in-Some.is)

pub returns-in_ok-pair_of-in-None : goal.returns-in_ok-pair_of-in-None
returns-in_ok-pair_of-in-None c =
    by_kept c.args.bytes.now c.new-lines.result
    (Ok (c.in_ok-kept.kept, c.read_whole.new.lines)) c.new-lines.ensures c.in_ok-kept.ensures.reads
    ∙ unless None _ c.in_ok-kept.kept (sym c.too_long.ensures ∙ c.in-None.is)
    ∙ (λ i. Ok (sym c.in_ok-pair_of-in-None.ensures.network i, sym c.in_ok-pair_of-in-None.ensures.cert i))
