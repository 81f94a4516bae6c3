-- Rooms and lists of a bench, and the lists that are gathered.
--
-- It has the steps of three loops. The rooms made so far are fresh, each for the process of its number.
-- The empty lists are made from the last process down, each with room for the values of its process
-- (`space_more`), so that the list at the end is the one that is wanted next, and the others stay as
-- they are when it is taken (`space_less`). As the declared arrays are passed, the lists gathered so
-- far and those to come are together always the same: an output adds what its sink has kept, any other
-- array an empty list (`lists_out`, `lists_other`). What the sinks keep doesn't matter here.
use Rattle.std.proofs.Common.{◌≡◌, ◌<◌, ◌≤◌, ◌+◌, ◌-◌, ⊎_elim, ℕ, ℤ, List, [], ◌∷◌, ◌++◌}
use Rattle.std.proofs.Common.{length, map, replicate, slice_get, get_or, Some, vec_capacity, sym, ap, ◌∙◌, subst}
use Rattle.std.proofs.Common.{arith, length-append}
use Rattle.std.specs.declared.vec.Vec.{Vec}
use Rattle.std.specs.Global.{Global}
use Rattle.std.proofs.lemmas.List.{length-map}
use Rattle.sanlp.specs.declared.nest.Nest.{Nest}
use Rattle.sanlp.specs.declared.nest.Role.TheVariants as role
use Rattle.sanlp.specs.declared.nest.Statement.{Statement}
use Rattle.sanlp.specs.WellFormed.{input_numbers, output_numbers}
use Rattle.net_core.specs.declared.network.Network.{Network}
use Rattle.net_core.specs.Machine.{net_of}
use Rattle.net_core.specs.Shape.{turns}
use Rattle.std.proofs.lemmas.Option.{get_or_from_slice_get}
use Rattle.net_core.specs.Rooms.{Store, fresh_store}
use Rattle.plain_data.proofs.Lists.{slice_get-append_some, slice_get_read_same, slice_get_push-cases}
use Rattle.thread_runner.specs.Benches.{AreFreshRooms, HaveSpace}

pub fresh_more : (network : Network) (k : ℕ) (rooms rooms' : List (Store ℤ)) (room : Store ℤ)
    → AreFreshRooms network k rooms → rooms' ≡ rooms ++ room ∷ [] → room ≡ fresh_store (net_of network) k
    → AreFreshRooms network (k + 1) rooms'
fresh_more network k rooms rooms' room fresh grown is =
    let more : AreFreshRooms network (k + 1) (rooms ++ room ∷ []) = record {
      number = omega (arith, fresh.number, length-append rooms (room ∷ []));
      each = λ p r h. ⊎_elim (λ (a : slice_get rooms p ≡ Some r). fresh.each p r a)
          (λ (b : (p ≡ length rooms) × (room ≡ r)). sym b.1 ∙ is
          ∙ ap (fresh_store (net_of network)) (sym (b.0 ∙ fresh.number)))
          (slice_get_push-cases rooms room p r h);
    } in
    subst (AreFreshRooms network (k + 1)) (sym grown) more

-- there are no more printed arrays than statements
pub few_outputs : (n : Nest) → length (output_numbers n.arrays) ≤ length n.statements
few_outputs n =
    let ins = input_numbers n.arrays in
    let outs = output_numbers n.arrays in
    let k = length n.statements - (length ins + length outs) in
    let whole : length n.statements ≡ length (map role.Source ins ++ (replicate k role.Assign ++ map role.Sink outs)) =
    sym (length-map n.statements (λ (s : Statement). s.role)) ∙ ap length n.well_formed.roles_in_order in
    omega (
      arith,
      whole,
      length-append (map role.Source ins) (replicate k role.Assign ++ map role.Sink outs),
      length-append (replicate k role.Assign) (map role.Sink outs),
      length-map outs role.Sink,
    )

pub space_more : (values : ℕ → ℕ) (past k p : ℕ) (lists lists' : List (Vec ℤ Global)) (list : Vec ℤ Global)
    → HaveSpace values past lists → lists' ≡ lists ++ list ∷ [] → length lists ≡ k → p + k + 1 ≡ past → list.items ≡ []
    → values p ≤ vec_capacity list
    → HaveSpace values past lists'
space_more values past k p lists lists' list before grown many is empty space =
    subst (HaveSpace values past) (sym grown)
    (λ i x h. ⊎_elim (λ (a : slice_get lists i ≡ Some x). before i x a)
    (λ (b : (i ≡ length lists) × (list ≡ x)). (
      ap (λ (v : Vec ℤ Global). v.items) (sym b.1) ∙ empty,
      λ q e.
          let same : q ≡ p = omega (arith, e, is, b.0, many) in
          subst (λ (v : Vec ℤ Global). values q ≤ vec_capacity v) b.1
          (subst (λ n. values n ≤ vec_capacity list) (sym same) space),
    ))
    (slice_get_push-cases lists list i x h))

pub space_less : (values : ℕ → ℕ) (past : ℕ) (lists lists' : List (Vec ℤ Global)) (list : Vec ℤ Global)
    → HaveSpace values past lists → lists ≡ lists' ++ list ∷ [] → HaveSpace values past lists'
space_less values past lists lists' list before shrunk i x h =
    before i x (ap (λ l. slice_get l i) shrunk ∙ slice_get-append_some lists' (list ∷ []) i x h)

-- the room that was reserved for a process's points
pub turns_read : (points items : List (List (List ℤ))) (p : ℕ) (list : List (List ℤ)) (count space : ℕ) → items ≡ points
    → p < length items → list ≡ get_or items p list → count ≡ length list → space ≡ count → turns points p ≤ space
turns_read points items p list count space same lt is counted reserved =
    let found : slice_get points p ≡ Some list = slice_get_read_same points items p list same lt is in
    let turns_are : turns points p ≡ length list = ap length (get_or_from_slice_get points p list [] found) in
    omega arith
