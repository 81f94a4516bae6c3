use Rattle.std.proofs.Common.{◌≡◌, ℕ, suc, ◌-◌, false, List, [], ◌∷◌, ◌++◌, length, take, drop, refl, sym, ap, ◌∙◌}
use Rattle.std.proofs.Common.{arith}
use Rattle.std.proofs.lemmas.List.{length-take, length-append}
use Rattle.loop_lex.specs.Lexical.{is_large}
use Rattle.loop_lex.specs.Front.{IsLongest}
use Rattle.loop_lex.specs.Tokens.{token_limit, tokens, kind_of, token_at}
use Rattle.loop_lex.proofs.Loop.{goes_past, is_large_there, is_full_there, takes_token, is_refused, is_done}
use Rattle.loop_lex.proofs.lexer.lex.Goals as goal

pub loop-at-preserved-in-Separator : goal.loop-at-preserved-in-Separator
loop-at-preserved-in-Separator c =
    goes_past c.loop-at.found.items _ c.loop-at.at c.in-Separator.length c.args.bytes.now
    (tokens c.args.bytes.now) c.loop-at.invariant (rw c.split_at.ensures.back at c.in-Separator.ensures)

pub returns-then-is_large_number : goal.returns-then-is_large_number
returns-then-is_large_number c =
    λ known. is_large_there c.loop-at.found.items
    (token_limit - length c.loop-at.found.items) c.loop-at.at c.in-Token.length c.args.bytes.now
    (tokens c.args.bytes.now) c.loop-at.invariant (rw c.split_at.ensures.back at c.in-Token.ensures).0
    (rw (c.split_at-in-Token.ensures.front, c.split_at.ensures.back) at
    (sym c.is_large_number.ensures ∙ c.if-is_large_number.true))

pub returns-then-len-ge-MAX_TOKENS : goal.returns-then-len-ge-MAX_TOKENS
returns-then-len-ge-MAX_TOKENS c =
    λ known. is_full_there c.loop-at.found.items
    (token_limit - length c.loop-at.found.items) c.loop-at.at c.in-Token.length c.args.bytes.now
    (tokens c.args.bytes.now) c.loop-at.invariant (rw c.split_at.ensures.back at c.in-Token.ensures).0
    (rw (c.split_at-in-Token.ensures.front, c.split_at.ensures.back) at
    (sym c.is_large_number.ensures ∙ c.if-is_large_number.false)) (omega arith)

pub loop-at-preserved : goal.loop-at-preserved
loop-at-preserved c =
    let n : ℕ = c.in-Token.length in
    let at : ℕ = c.loop-at.at in
    let bytes : List ℕ = c.args.bytes.now in
    let long : IsLongest (drop at bytes) n false = (rw c.split_at.ensures.back at c.in-Token.ensures).0 in
    let text : c.split_at-in-Token.result.0.now ≡ take n (drop at bytes) =
    c.split_at-in-Token.ensures.front ∙ ap (take n) c.split_at.ensures.back in
    let small : is_large (take n (drop at bytes)) ≡ false =
    rw text at (sym c.is_large_number.ensures ∙ c.if-is_large_number.false) in
    let kind : kind_of (take n (drop at bytes)) ≡ c.in-Token.kind =
    (rw c.split_at.ensures.back at c.in-Token.ensures).1 in
    let len : length (take n (drop at bytes)) ≡ n = omega (arith, length-take n (drop at bytes), long.within) in
    let items : c.push.new.self.items ≡ c.loop-at.found.items ++ token_at at (take n (drop at bytes)) ∷ [] =
    c.in_ok-push-in-Token.ensures.items ∙ rw (len, kind) refl in
    let room : suc (token_limit - length c.push.new.self.items) ≡ token_limit - length c.loop-at.found.items =
    omega (arith, ap length items, length-append c.loop-at.found.items (token_at at (take n (drop at bytes)) ∷ [])) in
    rw items (takes_token c.loop-at.found.items (token_limit - length c.loop-at.found.items) at n bytes
    (tokens bytes) c.loop-at.invariant
    (token_limit - length (c.loop-at.found.items ++ token_at at (take n (drop at bytes)) ∷ []))
    (rw items at room) long small)

pub returns-in-OpenComment : goal.returns-in-OpenComment
returns-in-OpenComment c =
    λ known. is_refused c.loop-at.found.items (token_limit - length c.loop-at.found.items) c.loop-at.at c.args.bytes.now
    (tokens c.args.bytes.now) c.loop-at.invariant c.loop-at-test.true
    (rw c.split_at.ensures.back at c.in-OpenComment.ensures).0
    ∙ rw (rw c.split_at.ensures.back at c.in-OpenComment.ensures).1 refl

pub returns-in-Unknown : goal.returns-in-Unknown
returns-in-Unknown c =
    λ known. is_refused c.loop-at.found.items (token_limit - length c.loop-at.found.items) c.loop-at.at c.args.bytes.now
    (tokens c.args.bytes.now) c.loop-at.invariant c.loop-at-test.true
    (rw c.split_at.ensures.back at c.in-Unknown.ensures).0
    ∙ rw (rw c.split_at.ensures.back at c.in-Unknown.ensures).1 refl

pub returns : goal.returns
returns c =
    is_done c.loop-at.found.items (token_limit - length c.loop-at.found.items) c.loop-at.at c.args.bytes.now
    (tokens c.args.bytes.now) c.loop-at.invariant c.loop-at-test.false
