-- The uses of the channels, as a walk over each process's script collects them.
--
-- There are two invariants. Before a place of one script (`IsCollected`) the slots have their latest Gets, the counts
-- how many Gets of each channel came, and each channel's list has got the uses up to there. The number of a Get is the
-- count of its channel, which was 0 when the script began. After the first p scripts (`AreUsesBelow`) the channels that
-- these processes read have all their uses, and the others have no Get and no use. It holds again after one script
-- more, since in a wired network a process gets from the channels that it reads alone, so it uses no other (`no_uses`).
use Rattle.std.proofs.Common.{◌≡◌, ℕ, zero, suc, ◌+◌, ◌<◌, ◌≤◌, ◌^◌, false, cond, eqb, Option, Some, None, List}
use Rattle.std.proofs.Common.{[], ◌∷◌, ◌++◌, length, take, slice_get, get_or, count_by, refl, sym, ap, ap₂, ◌∙◌, inl}
use Rattle.std.proofs.Common.{inr, ◌⊎◌, arith, add-one, append-nil, append_assoc, eq-eqb, ne_eqb}
use Rattle.std.specs.Prelude.{slice_set, replicate}
use Rattle.std.specs.List.{flat_map}
use Rattle.std.proofs.lemmas.Bool.{cases_eq, cases_lt, cond-true, cond-false}
use Rattle.std.proofs.lemmas.List.{length-set, get_or-set_same, get_or-set_other}
use Rattle.std.proofs.lemmas.List.Sums.{count_by-le-length, sum_by-take-le}
use Rattle.std.proofs.lemmas.Option.{slice_get_within}
use Rattle.std.proofs.Math.Seq.{take-length}
use Rattle.net_core.specs.declared.network.Event.{Event}
use Rattle.net_core.specs.declared.network.Event.TheVariants.{Get, Fire, Put}
use Rattle.net_core.specs.declared.refs.Ref.{Ref}
use Rattle.net_core.specs.declared.refs.Ref.TheVariants.{Zero, Slot}
use Rattle.net_core.specs.Machine.{Net}
use Rattle.net_core.specs.Names.{with_get, latest_gets}
use Rattle.net_core.specs.Shape.{is_get, FitsNumbers, IsWired}
use Rattle.net_core.specs.Uses.{use_in, use_of, uses_of, uses_before, uses}
use Rattle.net_core.proofs.EventCounts.{count_next}
use Rattle.net_core.proofs.PutCounts.{count_by-none}
use Rattle.net_checker.specs.Collected.{IsCollected}
use Rattle.net_checker.proofs.FirstFault.{script_short}

-- Lists

set_cases : {X : Type 0} (xs : List X) (i j : ℕ) (v x : X) → slice_get (slice_set xs i v) j ≡ Some x
    → (v ≡ x) ⊎ (slice_get xs j ≡ Some x)
set_cases [] i j v x h = inr h
set_cases (y ∷ ys) zero zero v x h = inl cc
set_cases (y ∷ ys) zero (suc j) v x h = inr h
set_cases (y ∷ ys) (suc i) zero v x h = inr h
set_cases (y ∷ ys) (suc i) (suc j) v x h = set_cases ys i j v x h

replicate_none : {X : Type 0} (many j : ℕ) (x : X) → slice_get (replicate many None) j ≡ Some (Some x) → ⊥
replicate_none zero j x h = cc
replicate_none (suc many) zero x h = cc
replicate_none (suc many) (suc j) x h = replicate_none many j x h

flat_map_none : {X A : Type 0} (f : X → List A) (xs : List X) → ((x : X) → f x ≡ []) → flat_map f xs ≡ []
flat_map_none f [] none = refl
flat_map_none f (x ∷ xs) none = ap₂ (λ a b. a ++ b) (none x) (flat_map_none f xs none)

-- What the slots name

module _ (net : Net) (wired : IsWired net) (p : ℕ) where
  -- a channel that a slot names is there, and is got from by this process
  abbrev IsGot : ℕ × ℕ → Type 0
  IsGot got = (got.0 < net.channels) × (net.reader got.0 ≡ p)

  got_after : (k : ℕ) (o : Option Event) (slots : List (Option (ℕ × ℕ))) → slice_get (net.script p) k ≡ o
      → ((j : ℕ) (got : ℕ × ℕ) → slice_get slots j ≡ Some (Some got) → IsGot got)
      → (j : ℕ) (got : ℕ × ℕ) → slice_get (with_get net p k o slots) j ≡ Some (Some got) → IsGot got
  got_after k None slots is before j got h = before j got h
  got_after k (Some (Fire refs)) slots is before j got h = before j got h
  got_after k (Some (Put c)) slots is before j got h = before j got h
  got_after k (Some (Get c slot)) slots is before j got h =
      let v : ℕ × ℕ = (c, count_by (is_get c) (take k (net.script p))) in
      elim (set_cases slots slot j (Some v) (Some got) h) [
        | inl new ↦
            let same : c ≡ got.0 = (let pair : v ≡ got = cc in ap (λ (g : ℕ × ℕ). g.0) pair) in
            rw (← same) (wired.get_channel p k c slot is, wired.get_reader p k c slot is)
        | inr old ↦ before j got old
      ]

  pub slots_got : (k j : ℕ) (got : ℕ × ℕ) → slice_get (latest_gets net p k) j ≡ Some (Some got) → IsGot got
  slots_got zero j got h = absurd (replicate_none (net.slots p) j got h)
  slots_got (suc k) j got h = got_after k (slice_get (net.script p) k) (latest_gets net p k) refl (slots_got k) j got h

  -- a process doesn't use a channel that another reads
  no_use_in : (c : ℕ) (slots : List (Option (ℕ × ℕ)))
      → ((j : ℕ) (got : ℕ × ℕ) → slice_get slots j ≡ Some (Some got) → IsGot got) → (net.reader c ≡ p → ⊥)
      → (k : ℕ) (o : Option (Option (ℕ × ℕ))) → slice_get slots k ≡ o → use_in c o ≡ []
  no_use_in c slots got other k None is = refl
  no_use_in c slots got other k (Some None) is = refl
  no_use_in c slots got other k (Some (Some g)) is =
      let differs : eqb g.0 c ≡ false = ne_eqb g.0 c (λ e. other (ap net.reader (sym e) ∙ (got k g is).1)) in
      rw differs refl

  no_use : (c : ℕ) (slots : List (Option (ℕ × ℕ)))
      → ((j : ℕ) (got : ℕ × ℕ) → slice_get slots j ≡ Some (Some got) → IsGot got) → (net.reader c ≡ p → ⊥) → (r : Ref)
      → use_of c slots r ≡ []
  no_use c slots got other Zero = refl
  no_use c slots got other (Slot k) = no_use_in c slots got other k (slice_get slots k) refl

  no_uses_of : (c : ℕ) (slots : List (Option (ℕ × ℕ)))
      → ((j : ℕ) (got : ℕ × ℕ) → slice_get slots j ≡ Some (Some got) → IsGot got) → (net.reader c ≡ p → ⊥)
      → (o : Option Event) → uses_of c slots o ≡ []
  no_uses_of c slots got other None = refl
  no_uses_of c slots got other (Some (Get d slot)) = refl
  no_uses_of c slots got other (Some (Fire refs)) = flat_map_none (use_of c slots) refs (no_use c slots got other)
  no_uses_of c slots got other (Some (Put d)) = refl

  pub no_uses : (c : ℕ) → (net.reader c ≡ p → ⊥) → (k : ℕ) → uses_before net c p k ≡ []
  no_uses c other zero = refl
  no_uses c other (suc k) =
      ap₂ (λ a b. a ++ b) (no_uses c other k)
      (no_uses_of c (latest_gets net p k) (slots_got k) other (slice_get (net.script p) k))

  is_other_get : (c k : ℕ) (e : Event) → (net.reader c ≡ p → ⊥) → slice_get (net.script p) k ≡ Some e
      → is_get c e ≡ false
  is_other_get c k (Fire refs) other is = refl
  is_other_get c k (Put d) other is = refl
  is_other_get c k (Get d slot) other is = ne_eqb c d (λ e. other (ap net.reader e ∙ wired.get_reader p k d slot is))

  pub no_gets : (c : ℕ) → (net.reader c ≡ p → ⊥) → count_by (is_get c) (net.script p) ≡ 0
  no_gets c other = count_by-none (is_get c) (net.script p) (λ k e is. is_other_get c k e other is)

-- One script

pub collected_none : (net : Net) (p : ℕ) (gets : List ℕ) (lists : List (List ℕ)) (slots : List (Option (ℕ × ℕ)))
    → length gets ≡ net.channels → length lists ≡ net.channels → slots ≡ replicate (net.slots p) None
    → IsCollected net p gets lists gets lists slots 0
collected_none net p gets lists slots many_gets many_lists fresh = record {
  gets_length = many_gets;
  uses_length = many_lists;
  slots_are = fresh;
  gets_are = λ c lt. omega arith;
  uses_are = λ c lt. sym (append-nil (get_or lists c []));
}

module _ (net : Net) (p : ℕ) (first_gets : List ℕ) (first_uses : List (List ℕ)) (gets : List ℕ) (lists : List (List ℕ))
    (slots : List (Option (ℕ × ℕ))) (k : ℕ) (h : IsCollected net p first_gets first_uses gets lists slots k) where
  -- how many Gets of a channel came before
  pub get_number : (c slot : ℕ) → IsWired net → ((d : ℕ) → net.reader d ≡ p → get_or first_gets d 0 ≡ 0)
      → slice_get (net.script p) k ≡ Some (Get c slot) → get_or gets c 0 ≡ count_by (is_get c) (take k (net.script p))
  get_number c slot wired fresh is =
      omega (arith, h.gets_are c (wired.get_channel p k c slot is), fresh c (wired.get_reader p k c slot is))

  -- no new uses
  same_uses : (e : Event) → slice_get (net.script p) k ≡ Some e
      → ((c : ℕ) → uses_of c (latest_gets net p k) (Some e) ≡ []) → (c : ℕ) → c < net.channels
      → get_or lists c [] ≡ get_or first_uses c [] ++ uses_before net c p (suc k)
  same_uses e is none c lt =
      let nothing : uses_before net c p (suc k) ≡ uses_before net c p k =
      ap (λ o. uses_before net c p k ++ uses_of c (latest_gets net p k) o) is
      ∙ ap (λ list. uses_before net c p k ++ list) (none c) ∙ append-nil (uses_before net c p k) in
      h.uses_are c lt ∙ ap (λ list. get_or first_uses c [] ++ list) (sym nothing)

  pub collected_get : (c slot get : ℕ) → IsWired net → ((d : ℕ) → net.reader d ≡ p → get_or first_gets d 0 ≡ 0)
      → slice_get (net.script p) k ≡ Some (Get c slot) → get ≡ get_or gets c 0
      → IsCollected net p first_gets first_uses (slice_set gets c (get + 1)) lists
      (slice_set slots slot (Some (c, get))) (suc k)
  collected_get c slot get wired fresh is get_is =
      let number : get ≡ count_by (is_get c) (take k (net.script p)) = get_is ∙ get_number c slot wired fresh is in
      let there = wired.get_channel p k c slot is in
      record {
        gets_length = length-set gets c (get + 1) ∙ h.gets_length;
        uses_length = h.uses_length;
        slots_are =
            ap₂ (λ (xs : List (Option (ℕ × ℕ))) m. slice_set xs slot (Some (c, m))) h.slots_are number
            ∙ sym (ap (λ o. with_get net p k o (latest_gets net p k)) is);
        gets_are = λ d lt. counted d lt get_is there;
        uses_are = same_uses (Get c slot) is (λ d. refl);
      }
    where
      counted : (d : ℕ) → d < net.channels → get ≡ get_or gets c 0 → c < net.channels
          → get_or (slice_set gets c (get + 1)) d 0
          ≡ get_or first_gets d 0 + count_by (is_get d) (take (suc k) (net.script p))
      counted d lt get_is there =
          let before = h.gets_are d lt in
          let more = count_next (is_get d) (net.script p) k (Get c slot) is in
          elim (cases_eq d c) [
            | inl same ↦
                let one : cond {A = ℕ} (eqb d c) 1 0 ≡ 1 = cond-true (eqb d c) 1 0 (eq-eqb d c same) in
                let new : get_or (slice_set gets c (get + 1)) d 0 ≡ get + 1 =
                ap (λ i. get_or (slice_set gets c (get + 1)) i 0) same
                ∙ get_or-set_same gets c (get + 1) 0 (omega (arith, h.gets_length)) in
                let old : get ≡ get_or gets d 0 = get_is ∙ ap (λ i. get_or gets i 0) (sym same) in
                omega arith
            | inr other ↦
                let none : cond {A = ℕ} (eqb d c) 1 0 ≡ 0 = cond-false (eqb d c) 1 0 (ne_eqb d c other) in
                let old : get_or (slice_set gets c (get + 1)) d 0 ≡ get_or gets d 0 =
                get_or-set_other gets c d (get + 1) 0 other in
                omega arith
          ]

  -- gets that stay as they were
  same_gets : (e : Event) → slice_get (net.script p) k ≡ Some e → ((c : ℕ) → is_get c e ≡ false) → (c : ℕ)
      → c < net.channels → get_or gets c 0 ≡ get_or first_gets c 0 + count_by (is_get c) (take (suc k) (net.script p))
  same_gets e is none c lt =
      let zero_more : cond {A = ℕ} (is_get c e) 1 0 ≡ 0 = cond-false (is_get c e) 1 0 (none c) in
      omega (arith, h.gets_are c lt, count_next (is_get c) (net.script p) k e is)

  pub collected_put : (c : ℕ) → slice_get (net.script p) k ≡ Some (Put c)
      → IsCollected net p first_gets first_uses gets lists slots (suc k)
  collected_put c is = record {
    gets_length = h.gets_length;
    uses_length = h.uses_length;
    slots_are = h.slots_are ∙ sym (ap (λ o. with_get net p k o (latest_gets net p k)) is);
    gets_are = same_gets (Put c) is (λ d. refl);
    uses_are = same_uses (Put c) is (λ d. refl);
  }

  pub collected_fire : (refs : List Ref) (lists' : List (List ℕ)) → slice_get (net.script p) k ≡ Some (Fire refs)
      → length lists' ≡ length lists
      → ((c : ℕ) → c < length lists → get_or lists' c [] ≡ get_or lists c [] ++ flat_map (use_of c slots) refs)
      → IsCollected net p first_gets first_uses gets lists' slots (suc k)
  collected_fire refs lists' is many added = record {
    gets_length = h.gets_length;
    uses_length = many ∙ h.uses_length;
    slots_are = h.slots_are ∙ sym (ap (λ o. with_get net p k o (latest_gets net p k)) is);
    gets_are = same_gets (Fire refs) is (λ d. refl);
    uses_are = λ c lt.
        added c (omega (arith, h.uses_length))
        ∙ ap₂ (λ list (xs : List (Option (ℕ × ℕ))). list ++ flat_map (use_of c xs) refs) (h.uses_are c lt) h.slots_are
        ∙ append_assoc (get_or first_uses c []) (uses_before net c p k) (flat_map (use_of c (latest_gets net p k)) refs)
        ∙ sym (ap (λ o. get_or first_uses c [] ++ (uses_before net c p k ++ uses_of c (latest_gets net p k) o)) is);
  }

-- there is room for one more Get
pub get_short : (net : Net) (p k c slot : ℕ) → IsWired net → FitsNumbers net
    → slice_get (net.script p) k ≡ Some (Get c slot) → count_by (is_get c) (take k (net.script p)) + 1 < 2 ^ 32
get_short net p k c slot wired numbers is =
    let one : cond {A = ℕ} (eqb c c) 1 0 ≡ 1 = cond-true (eqb c c) 1 0 (eq-eqb c c refl) in
    let there : p < net.processes =
    elim (cases_lt p net.processes) [
      | inl lt ↦ lt
      | inr past ↦
          let lt = slice_get_within (net.script p) k (Get c slot) is in
          absurd (omega (arith, ap length (wired.bounded p past)))
    ] in
    omega (
      arith,
      count_next (is_get c) (net.script p) k (Get c slot) is,
      sum_by-take-le (λ e. cond {A = ℕ} (is_get c e) 1 0) (net.script p) (suc k),
      count_by-le-length (is_get c) (net.script p),
      script_short net p numbers there,
    )

-- the same with another name for the place
pub collected_as : (net : Net) (p : ℕ) (first_gets : List ℕ) (first_uses : List (List ℕ)) (gets : List ℕ)
    (lists : List (List ℕ)) (slots : List (Option (ℕ × ℕ))) (k j : ℕ)
    → j ≡ suc k → IsCollected net p first_gets first_uses gets lists slots (suc k)
    → IsCollected net p first_gets first_uses gets lists slots j
collected_as net p first_gets first_uses gets lists slots k j e h = rw e h

-- at the script's end
module _ (net : Net) (p : ℕ) (first_gets : List ℕ) (first_uses : List (List ℕ)) (gets : List ℕ) (lists : List (List ℕ))
    (slots : List (Option (ℕ × ℕ))) (had : List Event)
    (h : IsCollected net p first_gets first_uses gets lists slots (length had)) (all : had ≡ net.script p) where
  pub collected_gets : (c : ℕ) → c < net.channels
      → get_or gets c 0 ≡ get_or first_gets c 0 + count_by (is_get c) (net.script p)
  collected_gets c lt =
      h.gets_are c lt
      ∙ ap (λ k. get_or first_gets c 0 + count_by (is_get c) (take k (net.script p))) (ap length all)
      ∙ ap (λ es. get_or first_gets c 0 + count_by (is_get c) es) (take-length (net.script p))

  pub collected_uses : (c : ℕ) → c < net.channels
      → get_or lists c [] ≡ get_or first_uses c [] ++ uses_before net c p (length (net.script p))
  collected_uses c lt = h.uses_are c lt ∙ ap (λ k. get_or first_uses c [] ++ uses_before net c p k) (ap length all)

-- All scripts

-- the uses of the channels that the first p processes read
pub record AreUsesBelow (net : Net) (p : ℕ) (gets : List ℕ) (lists : List (List ℕ)) : Type 0 where
  pub gets_length : length gets ≡ net.channels
  pub uses_length : length lists ≡ net.channels
  pub fresh : (c : ℕ) → c < net.channels → p ≤ net.reader c → get_or gets c 0 ≡ 0
  pub done : (c : ℕ) → c < net.channels → net.reader c < p → get_or lists c [] ≡ uses net c
  pub rest : (c : ℕ) → c < net.channels → p ≤ net.reader c → get_or lists c [] ≡ []

pub below_more : (net : Net) (p : ℕ) (gets gets' : List ℕ) (lists lists' : List (List ℕ)) → IsWired net
    → AreUsesBelow net p gets lists → length gets' ≡ length gets → length lists' ≡ length lists
    → ((c : ℕ) → c < net.channels → get_or gets' c 0 ≡ get_or gets c 0 + count_by (is_get c) (net.script p))
    → ((c : ℕ) → c < net.channels
    → get_or lists' c [] ≡ get_or lists c [] ++ uses_before net c p (length (net.script p)))
    → AreUsesBelow net (suc p) gets' lists'
below_more net p gets gets' lists lists' wired h many_gets many_lists more_gets more_uses = record {
  gets_length = many_gets ∙ h.gets_length;
  uses_length = many_lists ∙ h.uses_length;
  fresh = λ c lt le. omega
      (arith, more_gets c lt, h.fresh c lt (omega arith), no_gets net wired p c (λ e. omega arith));
  done = λ c lt low. elim (cases_eq (net.reader c) p) [
    | inl same ↦
        more_uses c lt
        ∙ ap (λ list. list ++ uses_before net c p (length (net.script p))) (h.rest c lt (omega arith))
        ∙ ap (λ r. uses_before net c r (length (net.script r))) (sym same)
    | inr other ↦
        more_uses c lt
        ∙ ap₂ (λ a b. a ++ b) (h.done c lt (less (net.reader c) p low other))
        (no_uses net wired p c other (length (net.script p)))
        ∙ append-nil (uses net c)
  ];
  rest = λ c lt le. more_uses c lt
      ∙ ap₂ (λ a b. a ++ b) (h.rest c lt (omega arith))
      (no_uses net wired p c (λ e. omega arith) (length (net.script p)));
}
  where
    less : (r p : ℕ) → r < suc p → (r ≡ p → ⊥) → r < p
    less r p lt d = elim (cases_lt r p) [ inl l ↦ l | inr g ↦ absurd (d (omega arith)) ]

pub below_as : (net : Net) (p : ℕ) (gets' gets : List ℕ) (lists' lists : List (List ℕ)) → gets' ≡ gets → lists' ≡ lists
    → AreUsesBelow net (suc p) gets lists → AreUsesBelow net (p + 1) gets' lists'
below_as net p gets' gets lists' lists a b h = rw (a, b, add-one) h
