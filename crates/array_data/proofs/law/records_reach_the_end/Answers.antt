use Rattle.array_data.proofs.Records.{data_records}
use Rattle.array_data.proofs.law.records_reach_the_end.Goals as goal

pub returns : goal.returns
returns c = data_records c.args.bytes.now
