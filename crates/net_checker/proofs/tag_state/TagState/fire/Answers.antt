use Rattle.std.proofs.Common.{◌+◌, ℕ, set, ap, arith}
use Rattle.std.proofs.lemmas.List.{get_or_read}
use Rattle.net_checker.proofs.tag_state.TagState.fire.Goals as goal

pub overflow_add-index_mut : goal.overflow_add-index_mut
overflow_add-index_mut c =
    omega (
      arith,
      get_or_read c.args.self.now.fires.items c.args.process c.index_mut.result.now c.requires.process
          c.index_mut.ensures.value 0,
      c.requires.few,
    )

pub returns-clause-fires : goal.returns-clause-fires
returns-clause-fires c =
    ap (λ (value : ℕ). set c.args.self.now.fires.items c.args.process (value + 1))
    (get_or_read c.args.self.now.fires.items c.args.process c.index_mut.result.now c.requires.process
    c.index_mut.ensures.value 0)
