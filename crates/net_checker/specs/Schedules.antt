-- The entries of a schedule, wherever they stand, and where they lead.
use Rattle.std.specs.Prelude.{◌≡◌, ℕ, None, List}
use Rattle.sanlp.specs.declared.nest.Nest.{Nest}
use Rattle.net_core.specs.Cuts.{cut_after}
use Rattle.net_core.specs.Machine.{Net}
use Rattle.net_checker.specs.declared.schedule.Schedule.{Schedule}
use Rattle.net_checker.specs.declared.schedule.Schedule.TheVariants.{Folded, Listed}
use Rattle.net_checker.specs.declared.tag_state.TagState.{TagState}
use Rattle.net_checker.specs.Entries.{entries_refusal}
use Rattle.net_checker.specs.TagStates.{cut_in}

-- in the list, or in the script
abbrev pub entries_in : Schedule → List ℕ
entries_in (Listed entries) = entries.now
entries_in (Folded script) = script.now

-- from the first state on none of these entries is refused, whatever its number is, and all together
-- lead to the second
pub record LeadsTo (n : Nest) (net : Net) (entries : List ℕ) (before after : TagState)
    : Type 0 where
  pub fine : (i : ℕ) → entries_refusal n net (cut_in before) i entries ≡ None
  pub cut : cut_in after ≡ cut_after (cut_in before) entries
