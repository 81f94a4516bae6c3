use Rattle.rtl_answers.proofs.answer.write_answer.Goals as goal

pub returns-in-Design : goal.returns-in-Design
returns-in-Design g c =
    rw c.in-Design.is
    (record {
      ok = rw c.as_slice.ensures at c.write_rtl.ensures.text;
      quiet = c.write_rtl.ensures.quiet;
      front = rw c.as_slice.ensures at c.write_rtl.ensures.front;
      cause = c.write_rtl.ensures.cause;
    })

pub returns-in-PortDesign : goal.returns-in-PortDesign
returns-in-PortDesign g c =
    rw c.in-PortDesign.is
    (record {
      ok = rw c.as_slice-in-PortDesign.ensures at c.write_port_rtl.ensures.text;
      quiet = c.write_port_rtl.ensures.quiet;
      front = rw c.as_slice-in-PortDesign.ensures at c.write_port_rtl.ensures.front;
      cause = c.write_port_rtl.ensures.cause;
    })
