-- What is known of a node of a tree that is checked or simple, by its kind.
--
-- Both kinds of evidence have a case for each kind of node, and each case holds the tree's node as an equality. A tree
-- has one node (`node_unique`), so of a Test the cases of the leaves contradict, and in the case of a Test its form and
-- its trees are those of the node; and so for the leaves. This only reads the evidence of one node: it is no induction,
-- and the nodes below are reached by whoever goes down to them.
use Rattle.std.proofs.Common.{◌≡◌, ◌+◌, ◌-◌, ◌^◌, ◌≤◌, ℕ, zero, suc, List, [], ◌∷◌, length, refl, sym, ap, ◌∙◌, subst, arith}
use Rattle.std.specs.Prelude.{All, Contains}
use Rattle.std.proofs.lemmas.List.Elements.{All-weaker}
use Rattle.affine_core.specs.declared.form.Form.{Form}
use Rattle.int_polyhedra.specs.declared.system.Proof.{Proof}
use Rattle.tree_graphs.specs.Simple.{IsLightSum, IsSimple, at_test as simple_test, at_writer as simple_writer}
use Rattle.tree_graphs.specs.Simple.{at_zero as simple_zero}
use Rattle.tree_graphs.specs.Joint.{at_dead, at_test, at_writer, at_zero, no_orders, place_systems, point_systems, read_and_write}
use Rattle.tree_graphs.specs.Joint.{write_systems_of, IsCheckedFor, IsCheckedForAll, IsPointFor, IsSum, ReadAndWrite}
use Rattle.tree_sums.specs.Parts.{IsWithin}
use Rattle.source_tree.specs.Checked.{AreRefuted, HaveVariables}
use Rattle.source_tree.specs.Systems.{Context, Occurrence, Which, dead_systems, just, test_no, test_yes}
use Rattle.source_tree.specs.declared.tree.Tree.{Tree}
use Rattle.source_tree.specs.declared.tree.Tree.TheOpen as open_
use Rattle.source_tree.specs.declared.tree.Tree.TheVariants.{Dead, Writer, Zero}
use Rattle.source_tree.specs.declared.tree.Tree.TheViews.{Test}
use Rattle.source_tree.proofs.Views.{node-Dead, node-Test, node-Writer, node-Zero, node_unique}

-- Checked nodes

pub record AreBothChecked (P : Context → Tree → Type 0) (c : Context) (form : Form) (a b : Tree) : Type 0 where
  pub over : length form.coefs ≡ c.vars
  pub within : IsWithin (2 ^ 49 + 1) form
  pub above : P (test_yes c form) a
  pub below : P (test_no c form) b

module _ {which : Which} {pairs : List ReadAndWrite} where
  pub checked_test : (c : Context) (tree : Tree) (form : Form) (a b : Tree) → IsCheckedForAll which pairs c tree
      → tree ≡ Test form a b → AreBothChecked (IsCheckedForAll which pairs) c form a b
  checked_test _ _ form a b (at_test c tree f x y is over within first second) e =
      let same : open_.Test f x y ≡ open_.Test form a b = node_unique tree (open_.Test f x y) (open_.Test form a b)
      (node-Test tree f x y is) (node-Test tree form a b e) in
      let forms : f ≡ form = cc in
      let above : x ≡ a = cc in
      let below : y ≡ b = cc in
      record {
        over = ap (λ (f : Form). length f.coefs) (sym forms) ∙ over;
        within = subst (IsWithin (2 ^ 49 + 1)) forms within;
        above = subst (λ f. IsCheckedForAll which pairs (test_yes c f) a) forms
            (subst (IsCheckedForAll which pairs (test_yes c f)) above first);
        below = subst (λ f. IsCheckedForAll which pairs (test_no c f) b) forms
            (subst (IsCheckedForAll which pairs (test_no c f)) below second);
      }
  checked_test _ _ form a b (at_writer c tree s place proofs is point) e =
      absurd (let k : open_.Writer s place proofs ≡ open_.Test form a b =
      node_unique tree (open_.Writer s place proofs) (open_.Test form a b)
      (node-Writer tree s place proofs is) (node-Test tree form a b e) in cc)
  checked_test _ _ form a b (at_zero c tree proofs is refuted sums) e =
      absurd (let k : open_.Zero proofs ≡ open_.Test form a b = node_unique tree (open_.Zero proofs) (open_.Test form a b)
      (node-Zero tree proofs is) (node-Test tree form a b e) in cc)
  checked_test _ _ form a b (at_dead c tree proof is refuted) e =
      absurd (let k : open_.Dead proof ≡ open_.Test form a b = node_unique tree (open_.Dead proof) (open_.Test form a b)
      (node-Dead tree proof is) (node-Test tree form a b e) in cc)

  pub point_for : (c : Context) (tree : Tree) (s : ℕ) (place : List Form) (proofs : List Proof)
      → IsCheckedForAll which pairs c tree → tree ≡ Writer s place proofs → IsPointFor which pairs c s place proofs
  point_for _ _ s place proofs (at_test c tree f x y is over within first second) e =
      absurd (let k : open_.Test f x y ≡ open_.Writer s place proofs = node_unique tree (open_.Test f x y)
      (open_.Writer s place proofs) (node-Test tree f x y is) (node-Writer tree s place proofs e) in cc)
  point_for _ _ s place proofs (at_writer c tree s' place' proofs' is point) e =
      let k : open_.Writer s' place' proofs' ≡ open_.Writer s place proofs =
      node_unique tree (open_.Writer s' place' proofs') (open_.Writer s place proofs)
      (node-Writer tree s' place' proofs' is) (node-Writer tree s place proofs e) in
      let number : s' ≡ s = cc in
      let forms : place' ≡ place = cc in
      let own : proofs' ≡ proofs = cc in
      subst (IsPointFor which pairs c s place) own
      (subst (λ place. IsPointFor which pairs c s place proofs') forms
      (subst (λ s. IsPointFor which pairs c s place' proofs') number point))
  point_for _ _ s place proofs (at_zero c tree own is refuted sums) e =
      absurd (let k : open_.Zero own ≡ open_.Writer s place proofs = node_unique tree (open_.Zero own)
      (open_.Writer s place proofs) (node-Zero tree own is) (node-Writer tree s place proofs e) in cc)
  point_for _ _ s place proofs (at_dead c tree own is refuted) e =
      absurd (let k : open_.Dead own ≡ open_.Writer s place proofs = node_unique tree (open_.Dead own)
      (open_.Writer s place proofs) (node-Dead tree own is) (node-Writer tree s place proofs e) in cc)

  pub checked_zero : (c : Context) (tree : Tree) (proofs : List Proof) → IsCheckedForAll which pairs c tree
      → tree ≡ Zero proofs → AreRefuted (write_systems_of which pairs c no_orders) proofs × All IsSum proofs
  checked_zero _ _ proofs (at_test c tree f x y is over within first second) e =
      absurd (let k : open_.Test f x y ≡ open_.Zero proofs = node_unique tree (open_.Test f x y) (open_.Zero proofs)
      (node-Test tree f x y is) (node-Zero tree proofs e) in cc)
  checked_zero _ _ proofs (at_writer c tree s place own is point) e =
      absurd (let k : open_.Writer s place own ≡ open_.Zero proofs =
      node_unique tree (open_.Writer s place own) (open_.Zero proofs)
      (node-Writer tree s place own is) (node-Zero tree proofs e) in cc)
  checked_zero _ _ proofs (at_zero c tree own is refuted sums) e =
      let k : open_.Zero own ≡ open_.Zero proofs =
      node_unique tree (open_.Zero own) (open_.Zero proofs) (node-Zero tree own is) (node-Zero tree proofs e) in
      let same : own ≡ proofs = cc in
      (subst (AreRefuted (write_systems_of which pairs c no_orders)) same refuted, subst (All IsSum) same sums)
  checked_zero _ _ proofs (at_dead c tree proof is refuted) e =
      absurd (let k : open_.Dead proof ≡ open_.Zero proofs = node_unique tree (open_.Dead proof) (open_.Zero proofs)
      (node-Dead tree proof is) (node-Zero tree proofs e) in cc)

  pub checked_dead : (c : Context) (tree : Tree) (proof : Proof) → IsCheckedForAll which pairs c tree
      → tree ≡ Dead proof → AreRefuted (dead_systems c) (proof ∷ [])
  checked_dead _ _ proof (at_test c tree f x y is over within first second) e =
      absurd (let k : open_.Test f x y ≡ open_.Dead proof = node_unique tree (open_.Test f x y) (open_.Dead proof)
      (node-Test tree f x y is) (node-Dead tree proof e) in cc)
  checked_dead _ _ proof (at_writer c tree s place own is point) e =
      absurd (let k : open_.Writer s place own ≡ open_.Dead proof =
      node_unique tree (open_.Writer s place own) (open_.Dead proof)
      (node-Writer tree s place own is) (node-Dead tree proof e) in cc)
  checked_dead _ _ proof (at_zero c tree own is refuted sums) e =
      absurd (let k : open_.Zero own ≡ open_.Dead proof = node_unique tree (open_.Zero own) (open_.Dead proof)
      (node-Zero tree own is) (node-Dead tree proof e) in cc)
  checked_dead _ _ proof (at_dead c tree own is refuted) e =
      let k : open_.Dead own ≡ open_.Dead proof =
      node_unique tree (open_.Dead own) (open_.Dead proof) (node-Dead tree own is) (node-Dead tree proof e) in
      let same : own ≡ proof = cc in
      subst (λ p. AreRefuted (dead_systems c) (p ∷ [])) same refuted

-- of one write at one level
pub record IsCheckedPoint (r w : Occurrence) (p : ℕ) (c : Context) (s : ℕ) (place : List Form) (proofs : List Proof)
    : Type 0 where
  pub number : s ≡ w.number
  pub deep : length place ≡ length w.statement.loops
  pub over : HaveVariables c.vars place
  pub refuted : AreRefuted (point_systems r w p c place) proofs

pub checked_point : (r w : Occurrence) (p : ℕ) (c : Context) (tree : Tree) (s : ℕ) (place : List Form)
    (proofs : List Proof) → IsCheckedFor r w p c tree → tree ≡ Writer s place proofs
    → IsCheckedPoint r w p c s place proofs
checked_point r w p c tree s place proofs h e =
    let k : IsPointFor (just w.number p) (read_and_write r w ∷ []) c s place proofs =
    point_for c tree s place proofs h e in
    let same : read_and_write r w ≡ k.pair = the_one (read_and_write r w) k.pair k.among in
    record {
      number = k.number_is ∙ ap (λ (o : ReadAndWrite). o.write.number) (sym same);
      deep = k.deep ∙ ap (λ (o : ReadAndWrite). length o.write.statement.loops) (sym same);
      over = k.over;
      refuted = subst (λ o. AreRefuted (place_systems (just w.number p) (read_and_write r w ∷ []) o place c) proofs)
          (sym same) k.refuted;
    } where
      the_one : (o x : ReadAndWrite) → Contains (o ∷ []) x → o ≡ x
      the_one o x (zero, lt, is) = is
      the_one o x (suc k, lt, is) = absurd (omega (arith, lt))

-- Simple nodes

pub record AreBothSimple (tests : ℕ) (form : Form) (a b : Tree) : Type 0 where
  pub fewer : ℕ
  pub less : tests ≡ fewer + 1
  pub within : IsWithin (2 ^ 48) form
  pub above : IsSimple fewer a
  pub below : IsSimple fewer b

pub simple_both : (m : ℕ) (tree : Tree) (form : Form) (a b : Tree) → IsSimple m tree → tree ≡ Test form a b
    → AreBothSimple m form a b
simple_both _ _ form a b (simple_test tests tree f x y is within upper lower) e =
    let same : open_.Test f x y ≡ open_.Test form a b = node_unique tree (open_.Test f x y) (open_.Test form a b)
    (node-Test tree f x y is) (node-Test tree form a b e) in
    let forms : f ≡ form = cc in
    let above : x ≡ a = cc in
    let below : y ≡ b = cc in
    record {
      fewer = tests;
      less = refl;
      within = subst (IsWithin (2 ^ 48)) forms within;
      above = subst (IsSimple tests) above upper;
      below = subst (IsSimple tests) below lower;
    }
simple_both _ _ form a b (simple_writer tests tree s place proofs is within light) e =
    absurd (let k : open_.Writer s place proofs ≡ open_.Test form a b = node_unique tree (open_.Writer s place proofs)
    (open_.Test form a b) (node-Writer tree s place proofs is) (node-Test tree form a b e) in cc)
simple_both _ _ form a b (simple_zero tests tree proofs is light) e =
    absurd (let k : open_.Zero proofs ≡ open_.Test form a b = node_unique tree (open_.Zero proofs) (open_.Test form a b)
    (node-Zero tree proofs is) (node-Test tree form a b e) in cc)

pub record IsSimplePoint (place : List Form) (proofs : List Proof) : Type 0 where
  pub within : All (IsWithin (2 ^ 40)) place
  pub light : All IsLightSum proofs

pub simple_point : (m : ℕ) (tree : Tree) (s : ℕ) (place : List Form) (proofs : List Proof) → IsSimple m tree → tree
    ≡ Writer s place proofs → IsSimplePoint place proofs
simple_point m tree s place proofs (simple_test tests tree' f a b is within upper lower) e =
    absurd (let k : open_.Test f a b ≡ open_.Writer s place proofs = node_unique tree (open_.Test f a b)
    (open_.Writer s place proofs) (node-Test tree f a b is) (node-Writer tree s place proofs e) in cc)
simple_point m tree s place proofs (simple_writer m' tree' s' place' proofs' is within light) e =
    let k : open_.Writer s' place' proofs' ≡ open_.Writer s place proofs
    = node_unique tree (open_.Writer s' place' proofs') (open_.Writer s place proofs) (node-Writer tree s' place' proofs' is)
    (node-Writer tree s place proofs e) in
    let forms : place' ≡ place = cc in
    let own : proofs' ≡ proofs = cc in
    record { within = subst (All (IsWithin (2 ^ 40))) forms within; light = subst (All IsLightSum) own light }
simple_point m tree s place proofs (simple_zero m' tree' own is light) e =
    absurd (let k : open_.Zero own ≡ open_.Writer s place proofs = node_unique tree (open_.Zero own)
    (open_.Writer s place proofs) (node-Zero tree own is) (node-Writer tree s place proofs e) in cc)

pub simple_none : (m : ℕ) (tree : Tree) (proofs : List Proof) → IsSimple m tree → tree ≡ Zero proofs
    → All IsLightSum proofs
simple_none _ _ proofs (simple_test tests tree f x y is within upper lower) e =
    absurd (let k : open_.Test f x y ≡ open_.Zero proofs = node_unique tree (open_.Test f x y) (open_.Zero proofs)
    (node-Test tree f x y is) (node-Zero tree proofs e) in cc)
simple_none _ _ proofs (simple_writer tests tree s place own is within light) e =
    absurd (let k : open_.Writer s place own ≡ open_.Zero proofs = node_unique tree (open_.Writer s place own)
    (open_.Zero proofs) (node-Writer tree s place own is) (node-Zero tree proofs e) in cc)
simple_none _ _ proofs (simple_zero tests tree own is light) e =
    let k : open_.Zero own ≡ open_.Zero proofs =
    node_unique tree (open_.Zero own) (open_.Zero proofs) (node-Zero tree own is) (node-Zero tree proofs e) in
    let same : own ≡ proofs = cc in
    subst (All IsLightSum) same light

pub light_sums : (proofs : List Proof) → All IsLightSum proofs → All IsSum proofs
light_sums proofs light = All-weaker IsLightSum IsSum (λ p l. (l.0, l.1)) proofs light

-- fewer Tests than may be
pub simple_wider : (m n : ℕ) (tree : Tree) → m ≤ n → IsSimple m tree → IsSimple n tree
simple_wider m n tree le (simple_writer m' tree' s place proofs is within light) =
    simple_writer n tree s place proofs is within light
simple_wider m n tree le (simple_zero m' tree' proofs is light) = simple_zero n tree proofs is light
simple_wider m n tree le (simple_test tests tree' form above below is within upper lower) =
    let k : ℕ = n - 1 in
    let e : k + 1 ≡ n = omega (arith, le) in
    subst (λ n. IsSimple n tree) e (simple_test k tree form above below is within
    (simple_wider tests k above (omega (arith, le)) upper) (simple_wider tests k below (omega (arith, le)) lower))

-- a simple tree is a Test, a Writer leaf or a Zero leaf
pub simple_kinds : (m : ℕ) (tree : Tree) → IsSimple m tree
    → ((form : Form) (above below : Tree) → tree ≡ Test form above below → ⊥)
    → ((s : ℕ) (place : List Form) (proofs : List Proof) → tree ≡ Writer s place proofs → ⊥)
    → ((proofs : List Proof) → tree ≡ Zero proofs → ⊥) → ⊥
simple_kinds m tree (simple_test tests tree' f a b is within upper lower) test writer zero_leaf = test f a b is
simple_kinds m tree (simple_writer m' tree' s place proofs is within light) test writer zero_leaf =
    writer s place proofs is
simple_kinds m tree (simple_zero m' tree' proofs is light) test writer zero_leaf = zero_leaf proofs is

-- one point of a node
pub same_place : (tree : Tree) (s u : ℕ) (y z : List Form) (ps qs : List Proof) → tree ≡ Writer s y ps → tree
    ≡ Writer u z qs → y ≡ z
same_place tree s u y z ps qs e h =
    let k : open_.Writer s y ps ≡ open_.Writer u z qs = node_unique tree (open_.Writer s y ps) (open_.Writer u z qs)
    (node-Writer tree s y ps e) (node-Writer tree u z qs h) in cc

pub same_proofs : (tree : Tree) (s u : ℕ) (y z : List Form) (ps qs : List Proof) → tree ≡ Writer s y ps → tree
    ≡ Writer u z qs → ps ≡ qs
same_proofs tree s u y z ps qs e h =
    let k : open_.Writer s y ps ≡ open_.Writer u z qs = node_unique tree (open_.Writer s y ps) (open_.Writer u z qs)
    (node-Writer tree s y ps e) (node-Writer tree u z qs h) in cc

pub same_writer : (tree : Tree) (s u : ℕ) (y z : List Form) (ps qs : List Proof) → tree ≡ Writer s y ps → tree
    ≡ Writer u z qs → s ≡ u
same_writer tree s u y z ps qs e h =
    let k : open_.Writer s y ps ≡ open_.Writer u z qs = node_unique tree (open_.Writer s y ps) (open_.Writer u z qs)
    (node-Writer tree s y ps e) (node-Writer tree u z qs h) in cc
