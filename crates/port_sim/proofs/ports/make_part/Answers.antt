use Rattle.std.proofs.Common.{◌≡◌, List, not, eqb, length, map, ap, sym, subst, ◌∙◌, arith}
use Rattle.std.proofs.lemmas.List.{length-map}
use Rattle.net_core.specs.Machine.{net_of}
use Rattle.net_core.specs.Rules.{tags}
use Rattle.port_runs.specs.Ports.{IsPortRun, EventPlace, port_after}
use Rattle.port_clocks.specs.PortClocks.{part_of_clock}
use Rattle.port_clocks.proofs.OneClock.{the_part}
use Rattle.port_sim.specs.Windows.{IsAt, is_of_kind, place_of}
use Rattle.port_sim.proofs.ports.make_part.Goals as goal

pub make_all-requires : goal.make_all-requires
make_all-requires c =
    let n = net_of c.args.network.now in
    let kind = is_of_kind c.args.kind in
    let s = c.requires.reached.0 in
    let at = c.requires.reached.1 in
    let clock = c.requires.before.0 in
    let listed : map place_of c.deref.result.now ≡ part_of_clock n kind clock s =
    ap (map place_of) c.deref.ensures.value ∙ c.in_ok-list_part.ensures clock s c.requires.before.1 at in
    (s, at, subst (IsPortRun n tags s) (sym listed) (the_part n tags at.wired clock kind s).is)

pub returns : goal.returns
returns c =
    λ clock s q at.
    let n = net_of c.args.network.now in
    let kind = is_of_kind c.args.kind in
    let listed : map place_of c.deref.result.now ≡ part_of_clock n kind clock s =
    ap (map place_of) c.deref.ensures.value ∙ c.in_ok-list_part.ensures clock s q at in
    let run : IsPortRun n tags s (map place_of c.deref.result.now) =
    subst (IsPortRun n tags s) (sym listed) (the_part n tags at.wired clock kind s).is in
    let list = c.list_part.new.list in
    let many : c.is_empty.result ≡ eqb (length (part_of_clock n kind clock s)) 0 =
    c.is_empty.ensures
    ∙ ap (λ m. eqb m 0)
    (let same : list.len ≡ length (part_of_clock n kind clock s) =
    omega (
      arith,
      list.ok.0,
      length-map list.items place_of,
      ap length (c.in_ok-list_part.ensures clock s q at),
    ) in same) in (
      subst (λ (l : List EventPlace). IsAt n (port_after n tags s l) c.make_all.new.ports) listed
          (c.in_ok-make_all.ensures s at run),
      ap not many,
    )
