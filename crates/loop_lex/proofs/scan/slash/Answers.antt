use Rattle.std.proofs.Common.{◌≡◌, ◌≤◌, refl, length, not, nat_eq, false, rules}
use Rattle.loop_lex.specs.Lexical.{is_line_feed}
use Rattle.loop_lex.proofs.Longest.{line_found, block_found, block_open, slash_apart, prefix_within}
use Rattle.loop_lex.proofs.scan.slash.Goals as goal

pub overflow_add-result : goal.overflow_add-result
overflow_add-result c =
    let within : c.line_length.result ≤ length c.args.rest.now =
    rw c.line_length.ensures (prefix_within (λ b. not (is_line_feed b)) c.args.rest.now) in
    search rules

pub returns-in-47 : goal.returns-in-47
returns-in-47 c = rw (c.in-47.is, c.line_length.ensures) (line_found c.args.rest.now)

pub returns-in-Some : goal.returns-in-Some
returns-in-Some c = rw c.in-42.is (block_found c.args.rest.now c.in-Some.end c.in-Some.ensures)

pub returns-in-None : goal.returns-in-None
returns-in-None c = rw c.in-42.is (block_open c.args.rest.now c.in-None.ensures, refl)

pub returns-in_default : goal.returns-in_default
returns-in_default c =
    let no_line : nat_eq c.args.second 47 ≡ false = search rules in
    let no_block : nat_eq c.args.second 42 ≡ false = search rules in
    slash_apart c.args.second c.args.rest.now no_line no_block
