use Rattle.cert_places.proofs.ExactPlaces.{deep_is_too_deep, line_is_wrong, number_is_out_of_range, no_want_of_memory}
use Rattle.cert_places.proofs.ExactPlaces.{out_of_range_is_refused, pair_has_text, text_is_read, too_deep_is_refused}
use Rattle.cert_places.proofs.ExactPlaces.{truncated_is_cut_short, cut_short_is_refused, wrong_is_refused}
use Rattle.cert_places.proofs.ExactPlaces.{wrong_words_are_refused, long_is_too_long, too_long_is_refused}
use Rattle.cert_places.proofs.exact.refusals_are_exact.Goals as goal

pub returns : goal.returns
returns c = record {
  line = line_is_wrong;
  wrong_words = wrong_words_are_refused;
  number = number_is_out_of_range;
  out_of_range = out_of_range_is_refused;
  wrong = wrong_is_refused;
  deep = deep_is_too_deep;
  too_deep = too_deep_is_refused;
  truncated = truncated_is_cut_short;
  cut_short = cut_short_is_refused;
  long = long_is_too_long;
  too_long = too_long_is_refused;
  stands = pair_has_text c.reads_what_is_written.ensures.back;
  read = text_is_read;
  caused = no_want_of_memory;
}
