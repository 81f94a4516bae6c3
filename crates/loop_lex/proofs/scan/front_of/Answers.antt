use Rattle.std.proofs.Common.{◌≡◌, ℕ, length, sym, ◌∙◌, arith, length-drop}
use Rattle.std.proofs.lemmas.List.{length-take}
use Rattle.loop_lex.proofs.Longest.{nothing_in_front, space_in_front, slash_in_front}
use Rattle.loop_lex.proofs.scan.front_of.Goals as goal

pub returns-in-empty : goal.returns-in-empty
returns-in-empty c = nothing_in_front c.args.bytes.now c.in-empty.len_below

pub returns-then-is_space : goal.returns-then-is_space
returns-then-is_space c =
    space_in_front c.args.bytes.now c.in-len1-up.len_at_least (sym c.is_space.ensures ∙ c.if-is_space.true)

pub returns-in-empty-rest : goal.returns-in-empty-rest
returns-in-empty-rest c =
    let one : length c.args.bytes.now ≡ 1 =
    omega (arith, c.in-empty-rest.len_below, c.in-len1-up.len_at_least, length-take {A = ℕ}, length-drop {A = ℕ}) in
    slash_in_front c.args.bytes.now c.if-first-eq47.true one
