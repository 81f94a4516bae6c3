use Rattle.text_out.proofs.SinkParts.{handed_on}
use Rattle.text_out.proofs.writer.Writer.flush.Goals as goal

pub invariant_of-self : goal.invariant_of-self
invariant_of-self g c =
    let now = c.hand_over-self.ensures in
    record {
      reaches = rw (c.and-self.ensures, ← c.as_slice.ensures)
          (handed_on g.K.Sink.held g.K.Sink.faults _ _ _ _ _ _ _ c.args.self.now.reaches now.stopped now.going);
    }
