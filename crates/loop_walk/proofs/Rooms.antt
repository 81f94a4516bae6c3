-- Frames that are enough stay so as more are made.
use Rattle.std.proofs.Common.{◌≡◌, ◌<◌, ◌≤◌, ◌+◌, ℕ, zero, suc, List, [], ◌∷◌, map, take, length, get_or, refl, sym, ap}
use Rattle.std.proofs.Common.{◌∙◌, subst, arith, add-one}
use Rattle.std.specs.Prelude.{Bool, true, IsTrue}
use Rattle.std.specs.List.{list_all}
use Rattle.std.proofs.lemmas.Bool.{and_parts, and_from, false≢true}
use Rattle.sanlp.specs.declared.nest.Node.{Node}
use Rattle.sanlp.specs.declared.nest.Node.TheOpen.{Node-F, Loop, Guard, Assign}
use Rattle.sanlp.specs.declared.nest.Node.TheFolds.{map-Node, fold-roll-Node, ind-Node}
use Rattle.sanlp.specs.declared.nest.Node.TheViews.{roll-Node}
use Rattle.loop_walk.specs.Walking.{body_room, node_room, room_step}

abbrev Grows : Node → Type 0
Grows node = (j k : ℕ) → j ≤ k → node_room node j ≡ true → node_room node k ≡ true

module _ (X : Type 0) (node : X → Node)
    (grows : (x : X) (j k : ℕ) → j ≤ k → node_room (node x) j ≡ true → node_room (node x) k ≡ true) where
  all_grow : (parts : List X) (j k : ℕ) → j ≤ k → list_all (λ room. room j) (map node_room (map node parts)) ≡ true
      → list_all (λ room. room k) (map node_room (map node parts)) ≡ true
  all_grow [] j k le h = refl
  all_grow (x ∷ parts) j k le h =
      let tests = and_parts (node_room (node x) j) (list_all (λ room. room j) (map node_room (map node parts))) h in
      and_from _ _ (grows x j k le tests.0) (all_grow parts j k le tests.1)

  body_grows : (parts : List X) (j k : ℕ) → j ≤ k → body_room (map node_room (map node parts)) j ≡ true
      → body_room (map node_room (map node parts)) k ≡ true
  body_grows parts zero k le h = absurd (false≢true h)
  body_grows parts (suc j) zero le h = absurd (omega arith)
  body_grows parts (suc j) (suc k) le h = all_grow parts j k (omega arith) h

  layer_grows : (y : Node-F X) (j k : ℕ) → j ≤ k → node_room (roll-Node (map-Node X Node node y)) j ≡ true
      → node_room (roll-Node (map-Node X Node node y)) k ≡ true
  layer_grows (Loop id lower upper step body) j k le h =
      let is = fold-roll-Node (ℕ → Bool) room_step (Loop id lower upper step (map node body)) in
      ap (λ f. f k) is ∙ body_grows body j k le (sym (ap (λ f. f j) is) ∙ h)
  layer_grows (Guard rows body) j k le h =
      let is = fold-roll-Node (ℕ → Bool) room_step (Guard rows (map node body)) in
      ap (λ f. f k) is ∙ body_grows body j k le (sym (ap (λ f. f j) is) ∙ h)
  layer_grows (Assign s) j k le h = ap (λ f. f k) (fold-roll-Node (ℕ → Bool) room_step (Assign s))

node_grows : (node : Node) → Grows node
node_grows =
    ind-Node Grows
    (λ x y is. subst (λ z. Grows (roll-Node z)) is
    (layer_grows ((node : Node) × Grows node) (λ e. e.0) (λ e. e.1) y))

-- one part more
pub room_more : (parts : List Node) (i : ℕ) (part : Node) (j k : ℕ) → i < length parts → part ≡ get_or parts i part
    → j ≤ k
    → IsTrue (list_all (λ room. room j) (map node_room (take i parts))) → IsTrue (node_room part k)
    → IsTrue (list_all (λ room. room k) (map node_room (take (i + 1) parts)))
room_more parts i part j k lt e le before here =
    ap (λ n. list_all (λ room. room k) (map node_room (take n parts))) (add-one i) ∙ more parts i lt e before where
      more : (parts : List Node) (i : ℕ) → i < length parts → part ≡ get_or parts i part
          → IsTrue (list_all (λ room. room j) (map node_room (take i parts)))
          → IsTrue (list_all (λ room. room k) (map node_room (take (suc i) parts)))
      more [] i lt e before = absurd (omega arith)
      more (p ∷ parts) zero lt e before = and_from _ _ (ap (λ x. node_room x k) (sym e) ∙ here) refl
      more (p ∷ parts) (suc i) lt e before =
          let tests = and_parts (node_room p j) (list_all (λ room. room j) (map node_room (take i parts))) before in
          and_from _ _ (node_grows p j k le tests.0) (more parts i (omega arith) e tests.1)
