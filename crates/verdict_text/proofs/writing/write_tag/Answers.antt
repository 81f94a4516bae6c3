use Rattle.std.proofs.Common.{◌∙◌}
use Rattle.verdict_text.proofs.Words.{reference_told}
use Rattle.verdict_text.proofs.writing.write_tag.Goals as goal

pub returns : goal.returns
returns g c = (
  c.put-4.ensures.0 ∙ c.write_wanted.ensures.0 ∙ c.put-3.ensures.0 ∙ c.write_seen.ensures.0 ∙ c.put-2.ensures.0
      ∙ c.write_number.ensures.0 ∙ c.put.ensures.0,
  reference_told _ _ _ _ _ _ _ _ _ _ _ c.put.ensures.1 c.write_number.ensures.1 c.put-2.ensures.1
      c.write_seen.ensures.1 c.put-3.ensures.1 c.write_wanted.ensures.1 c.put-4.ensures.1,
)
