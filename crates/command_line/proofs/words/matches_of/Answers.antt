use Rattle.std.proofs.Common.{rules, ◌≡◌, ap, ap₂, subst, codes, map, ◌∙◌, IfOk, string_bytes}
use Rattle.clap.specs.Words.{App, app_of, rule_of, with_rule, new_app, fault_of, is_simple_and_free}
use Rattle.clap.specs.Simple.{HasMatchesOf, on_top, app_of_fields}
use Rattle.clap.specs.Kinds.{FailsBy}
use Rattle.command_line.proofs.ClapCommand.{app, settings, policy_rule, items_rule}
use Rattle.command_line.proofs.ClapWords.{free, ordered, refused}
use Rattle.command_line.proofs.words.matches_of.Goals as goal

app_is : (c : goal.After-try_get_matches_from) → app_of c.in_ok-command.command ≡ app
app_is c =
    let policy_is : rule_of c.action-policy.result ≡ policy_rule = search rules in
    let items_is : rule_of c.action-items.result ≡ items_rule = search rules in
    let fields = rw (c.disable_help_flag.ensures, c.no_binary_name.ensures) at c.disable_version_flag.ensures in
    let base_is : app_of c.disable_version_flag.result ≡ on_top settings (new_app (codes "compaan")) =
    ap app_of_fields fields ∙ ap (on_top settings) c.new-3.ensures.app in
    c.in_ok-command.ensures.shape (search rules)
    ∙ ap₂ with_rule (c.in_ok-arg.ensures.shape (search rules) ∙ ap₂ with_rule base_is policy_is) items_is

fails : (c : goal.After-try_get_matches_from)
    → FailsBy (fault_of app (map string_bytes c.args.words.now)) c.try_get_matches_from.result
fails c =
    subst (λ (a : App). FailsBy (fault_of a (map string_bytes c.args.words.now)) c.try_get_matches_from.result)
    (app_is c) (c.try_get_matches_from.ensures.kinds (ap is_simple_and_free (app_is c) ∙ free))

pub returns-clause-ok : goal.returns-clause-ok
returns-clause-ok c = ordered (map string_bytes c.args.words.now) c.try_get_matches_from.result (fails c)
    (subst (λ (a : App). IfOk c.try_get_matches_from.result (HasMatchesOf a (map string_bytes c.args.words.now)))
    (app_is c) c.try_get_matches_from.ensures.matches)

pub returns-clause-refused : goal.returns-clause-refused
returns-clause-refused c = refused (map string_bytes c.args.words.now) c.try_get_matches_from.result (fails c)
