use Rattle.rtl_text.proofs.ShortScripts.{none_is_long}
use Rattle.rtl_text.proofs.laws.short_scripts_have_short_sequencers.Goals as goal

pub returns : goal.returns
returns c = none_is_long
