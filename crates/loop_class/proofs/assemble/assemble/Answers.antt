use Rattle.std.proofs.Common.{◌≡◌, length, rules}
use Rattle.loop_class.proofs.AssembleLemmas.{whole_body}
use Rattle.loop_class.proofs.assemble.assemble.Goals as goal

pub returns-clause-body : goal.returns-clause-body
returns-clause-body c =
    let count : c.in_ok-first_sink.first_sink ≡ length c.append.new.list = search rules in
    whole_body c.args.arrays.now c.args.next_loop c.in_ok-first_sink.first_sink c.args.assignments
    c.new-statements.result c.push_sources.new.statements c.append.new.list
    c.args.nodes c.new-body.result c.push_sources.new.body c.append-2.new.list c.push_sinks.new.body
    c.new-statements.ensures c.new-body.ensures c.in_ok-push_sources.ensures.statements
    c.in_ok-push_sources.ensures.body
    c.in_ok-append.ensures c.in_ok-append-2.ensures count c.in_ok-push_sinks.ensures.body
