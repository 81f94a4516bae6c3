-- A list of events that is gone through one by one, and whether a clock has any.
--
-- The first so many events of a list lead to a state (`after_first`). Where the list is a run of the ports the
-- next event may come in that state (`may_next`), and leads to the state for one more (`after_more`): both by
-- induction over the list, from any state on. A clock has events where one of its three parts has (`any_of`). That
-- the list is a run is a premise.
use Rattle.std.proofs.Common.{◌≡◌, ℕ, zero, suc, ◌+◌, Bool, true, not, ◌||◌, eqb, Some, List, [], ◌∷◌, ◌++◌, length}
use Rattle.std.proofs.Common.{map, take, slice_get, ap, sym, ◌∙◌, refl, arith, add-one, ne_eqb}
use Rattle.sanlp.specs.declared.nest.Tag.{Tag}
use Rattle.net_core.specs.Machine.{Net}
use Rattle.net_core.specs.Rules.{tags}
use Rattle.port_runs.specs.Ports.{IsPortRun, EventPlace, PortState, may_come_at, port_after, port_step}
use Rattle.port_sim.specs.declared.ports.EventIndex.{EventIndex}
use Rattle.port_sim.specs.Windows.{place_of}

-- the state after the first so many events of a list
abbrev pub after_first : Net → PortState Tag → List EventIndex → ℕ → PortState Tag
after_first n s list i = port_after n tags s (map place_of (take i list))

pub may_next : (n : Net) (list : List EventIndex) (i : ℕ) (s : PortState Tag) (at : EventIndex)
    → IsPortRun n tags s (map place_of list) → slice_get list i ≡ Some at
    → may_come_at n (after_first n s list i) (place_of at) ≡ true
may_next n [] i s at is read = absurd (cc)
may_next n (x ∷ list) zero s at is read =
    let same : x ≡ at = cc in
    ap (λ y. may_come_at n s (place_of y)) (sym same) ∙ is.0
may_next n (x ∷ list) (suc i) s at is read = may_next n list i (port_step n tags s (place_of x)) at is.1 read

after_suc : (n : Net) (list : List EventIndex) (i : ℕ) (s : PortState Tag) (at : EventIndex)
    → slice_get list i ≡ Some at
    → after_first n s list (suc i) ≡ port_step n tags (after_first n s list i) (place_of at)
after_suc n [] i s at read = absurd (cc)
after_suc n (x ∷ list) zero s at read =
    let same : x ≡ at = cc in
    ap (λ y. port_step n tags s (place_of y)) same
after_suc n (x ∷ list) (suc i) s at read = after_suc n list i (port_step n tags s (place_of x)) at read

pub after_more : (n : Net) (list : List EventIndex) (i : ℕ) (s : PortState Tag) (at : EventIndex)
    → slice_get list i ≡ Some at
    → after_first n s list (i + 1) ≡ port_step n tags (after_first n s list i) (place_of at)
after_more n list i s at read = ap (after_first n s list) (add-one i) ∙ after_suc n list i s at read

-- whether there are any
abbrev pub are_some : List EventPlace → Bool
are_some places = not (eqb (length places) 0)

one_is : (x : EventPlace) (xs : List EventPlace) → are_some (x ∷ xs) ≡ true
one_is x xs = ap not (ne_eqb (length (x ∷ xs)) 0 (λ e. omega arith))

pub any_of : (xs ys zs : List EventPlace)
    → (are_some xs || (are_some ys || are_some zs)) ≡ are_some (xs ++ (ys ++ zs))
any_of [] [] zs = refl
any_of [] (y ∷ ys) zs = ap (λ b. b || are_some zs) (one_is y ys) ∙ sym (one_is y (ys ++ zs))
any_of (x ∷ xs) ys zs =
    ap (λ b. b || (are_some ys || are_some zs)) (one_is x xs) ∙ sym (one_is x (xs ++ (ys ++ zs)))
