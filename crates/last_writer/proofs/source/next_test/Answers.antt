use Rattle.std.proofs.Common.{◌≡◌, ◌≤◌, ℕ, List, length, sym, ap, ◌∙◌, Bor}
use Rattle.std.specs.Prelude.{Option, Some, None, MatchOption, slice_get}
use Rattle.std.specs.Slice.{IsItemAt}
use Rattle.std.proofs.lemmas.Option.{slice_get-get_or}
use Rattle.last_writer.proofs.source.next_test.Goals as goal

next_is : {X : Type 0} (xs : List X) (i : ℕ) (r : Option (Bor X)) → IsItemAt xs i r
    → MatchOption r (length xs ≤ i) (λ x. slice_get xs i ≡ Some x.now)
next_is xs i None h = h.3
next_is xs i (Some x) h = slice_get-get_or xs i x.now h.3.0 ∙ ap Some (sym h.1)

pub returns : goal.returns
returns c = next_is c.args.w.now.tests.now (length c.args.w.now.answers.now) c.get.result c.get.ensures.lookup
