use Rattle.cert_text.specs.FoldedCerts.{whole_answer}
use Rattle.cert_text.proofs.TextAnswers.{answers_few, answers_of_text, answers_text}
use Rattle.cert_text.proofs.reading.read_folded.Goals as goal

pub returns : goal.returns
returns c =
    let bytes = c.args.bytes.now in
    let answer = whole_answer c.read_pair.result in
    let exact = c.read_pair.ensures in
    record {
      exact = exact;
      is_text = answers_text bytes answer exact;
      reads_text = answers_of_text bytes answer exact;
      few = answers_few bytes answer exact;
    }
