use Rattle.std.proofs.Common.{◌≡◌, ◌^◌, ◌∷◌, ◌<◌, length, ap, sym, subst, arith, rules}
use Rattle.std.specs.Prelude.{All}
use Rattle.std.proofs.lemmas.List.Elements.{All-tail}
use Rattle.tree_sums.specs.Parts.{IsWithin}
use Rattle.tree_cuts.proofs.Places.{behind_kept}
use Rattle.tree_cuts.proofs.sources.+push_subscripts.Goals as goal

pub push_subscripts-requires : goal.push_subscripts-requires
push_subscripts-requires t c =
    let write = c.in-Some.write.now in
    let writes = c.in-Some.writes.now in
    let first : c.args.writes.now ≡ write ∷ writes = search rules in (
      omega (arith, ap length first),
      (
        omega (arith, c.requires.count, ap length first),
        (
          c.requires.root,
          (
            subst (All (λ i. i < 6)) (sym c.places_behind-behind.ensures)
                (behind_kept (λ i. i < 6) write c.args.places.now c.requires.places),
            All-tail (IsWithin (2 ^ 32)) write writes (subst (All (IsWithin (2 ^ 32))) first c.requires.writes),
          ),
        ),
      ),
    )
