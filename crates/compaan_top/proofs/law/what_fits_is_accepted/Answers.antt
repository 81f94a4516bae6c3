use Rattle.compaan_top.proofs.Acceptance.{accepts_fitting, accepts_surely}
use Rattle.compaan_top.proofs.law.what_fits_is_accepted.Goals as goal

pub returns : goal.returns
returns c =
    let reads = c.reads_what_is_written.ensures in
    record {
      exact = λ words bundle. accepts_fitting c.one_tree.ensures c.accepts_what_fits.ensures reads.forth reads.back words
          bundle;
      fitting = accepts_surely c.one_tree.ensures c.accepts_what_fits.ensures reads.back;
    }
