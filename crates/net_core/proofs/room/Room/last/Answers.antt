use Rattle.std.proofs.Common.{◌≡◌, ◌-◌, length, get_or, ap, ◌∙◌}
use Rattle.net_core.proofs.LastOf.{last_read}
use Rattle.net_core.specs.Rooms.{Store}
use Rattle.net_core.proofs.room.Room.last.Goals as goal

pub returns : goal.returns
returns g c =
    let kept = c.args.self.now.kept in
    let x = c.index.result.now in
    let same = ap (λ (s : Store _). s.kept) c.self.view_is in
    let n : c.len.result ≡ length kept = c.len.ensures ∙ c.self.inside.kept.ok.0 ∙ ap length same in
    last_read kept x c.requires
    (c.index.ensures ∙ ap (λ i. get_or c.self.inside.kept.items (i - 1) x) n
    ∙ ap (λ xs. get_or xs (length kept - 1) x) same)
