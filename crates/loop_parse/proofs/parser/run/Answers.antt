use Rattle.std.proofs.Common.{◌∙◌, sym, ap, Some, arith}
use Rattle.loop_lex.specs.declared.token.Token.{Token}
use Rattle.loop_lex.specs.declared.token.TokenKind.TheVariants.{Name}
use Rattle.loop_parse.specs.SourceMachine.{State, state_of}
use Rattle.loop_parse.proofs.Runs.{begins, turns, stops, stuck_at_end, ran_all}
use Rattle.loop_parse.proofs.parser.run.Goals as goal

no_token : Token
no_token = record { kind = Name; start = 0; end = 0 }

pub loop-i-init : goal.loop-i-init
loop-i-init c = begins ∙ ap (λ (s : State). Some s) (sym c.start.ensures ∙ ap state_of (sym c.in_ok-reader.ensures))

pub loop-i-preserved : goal.loop-i-preserved
unfolding no_token
loop-i-preserved c = turns c.args.bytes.now c.args.tokens.now c.loop-i.i no_token c.in_ok-word.word
    (state_of c.loop-i.reader) c.in_ok-after.field-0 c.in-Some.after c.loop-i-test.true c.loop-i.invariant
    c.in_ok-word.ensures c.in_ok-after.ensures c.in-Some.is

pub returns-in-None : goal.returns-in-None
unfolding no_token
returns-in-None c = stops c.args.bytes.now c.args.tokens.now c.loop-i.i no_token c.in_ok-word.word
    (state_of c.loop-i.reader) c.in_ok-after.field-0 c.loop-i-test.true c.loop-i.invariant c.in_ok-word.ensures
    c.in_ok-after.ensures c.in-None.is

pub returns-in-Some-2 : goal.returns-in-Some-2
returns-in-Some-2 c = (
  state_of c.loop-i.reader,
  ran_all c.args.bytes.now c.args.tokens.now c.loop-i.i (state_of c.loop-i.reader)
      (omega arith) c.loop-i.invariant,
  c.in_ok-tree.ensures ∙ c.in-Some-2.is,
)

pub returns-in-None-2 : goal.returns-in-None-2
returns-in-None-2 c = stuck_at_end c.args.bytes.now c.args.tokens.now c.loop-i.i (state_of c.loop-i.reader)
    (omega arith) c.loop-i.invariant (c.in_ok-tree.ensures ∙ c.in-None-2.is)
