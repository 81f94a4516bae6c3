use Rattle.std.proofs.Common.{◌∙◌, sym, true, refl}
use Rattle.std.specs.Str.{bytes_eq}
use Rattle.indexmap.proofs.CallerLemmas.{insert_entry-new}
use Rattle.loop_bind.proofs.NameLemmas.{is_there, is_new, key_is_new, shown_insert}
use Rattle.loop_bind.proofs.names.Names.add.Goals as goal

pub returns-then-is_some-clause-ok : goal.returns-then-is_some-clause-ok
returns-then-is_some-clause-ok g c = (
  is_there c.args.name.now c.self.inside.entries.entries c.args.self.now c.get.result c.self.view_is
      c.get.ensures.value true (sym c.if-is_some.ensures),
  refl,
)

pub returns-clause-ok : goal.returns-clause-ok
returns-clause-ok g c =
    let es = c.self.inside.entries.entries in
    let none =
    is_new c.args.name.now es c.args.self.now c.get.result c.self.view_is c.get.ensures.value
    (sym c.if-is_some.ensures) in
    let absent =
    key_is_new c.in_ok-key.key es c.args.self.now c.args.name.now c.self.view_is c.in_ok-key.ensures.items none in (
      none,
      shown_insert c.in_ok-key.key c.args.value es c.insert.new.self.entries c.args.self.now c.args.name.now
          c.self.view_is c.in_ok-key.ensures.items
          (c.in_ok-insert.ensures.entries
          ∙ insert_entry-new
          (λ a b. bytes_eq a.items b.items) c.self.inside.entries c.in_ok-key.key c.args.value absent),
    )
