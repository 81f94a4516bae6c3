use Rattle.rtl_text.proofs.network.write_role_joins.Goals as goal

pub returns-in-Source : goal.returns-in-Source
returns-in-Source g c = rw c.in-Source.is (rw (c.source_names.ensures.nest, c.source_names.ensures.array, c.source_names.ensures.way) at c.write_array_joins.ensures)

pub returns-in-Sink : goal.returns-in-Sink
returns-in-Sink g c =
    rw c.in-Sink.is (rw (c.sink_names.ensures.nest, c.sink_names.ensures.array, c.sink_names.ensures.way) at c.write_array_joins-in-Sink.ensures)
