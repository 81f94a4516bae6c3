-- The definitions at some words.
use Rattle.std.proofs.Common.{◌≡◌, refl, codes, [], ◌∷◌, Some, None, pos, neg_ℤ}
use Rattle.witness_plan.specs.declared.schedules.Policy.TheVariants as policy
use Rattle.command_line.specs.declared.words.Command.TheVariants.{Run, Cert, Load}
use Rattle.command_line.specs.Words.{order_of, split_words}

splits_off_items_and_policies : split_words (codes "cert" ∷ codes "--policy" ∷ codes "down" ∷ codes "N=-2" ∷ [])
    ≡ Some (record { items = codes "cert" ∷ codes "N=-2" ∷ []; policies = codes "down" ∷ [] })
splits_off_items_and_policies = refl

words_behind_dashes_are_items : split_words (codes "--policy=seq" ∷ codes "--" ∷ codes "--policy" ∷ [])
    ≡ Some (record { items = codes "--policy" ∷ []; policies = codes "seq" ∷ [] })
words_behind_dashes_are_items = refl

dashes_are_a_value_behind_the_policy : split_words (codes "--policy" ∷ codes "--" ∷ codes "run" ∷ [])
    ≡ Some (record { items = codes "run" ∷ []; policies = codes "--" ∷ [] })
dashes_are_a_value_behind_the_policy = refl

an_order : order_of (codes "--policy=down" ∷ codes "run" ∷ codes "--" ∷ codes "N=3" ∷ [])
    ≡ Some (record { command = Run; policy = policy.Down; params = (codes "N", pos 3) ∷ []; load = 0 })
an_order = refl

the_sequential_schedule_is_meant : order_of (codes "cert" ∷ codes "N=-2" ∷ [])
    ≡ Some (record { command = Cert; policy = policy.Seq; params = (codes "N", neg_ℤ (pos 2)) ∷ []; load = 0 })
the_sequential_schedule_is_meant = refl

a_policy_stands_once : order_of (codes "run" ∷ codes "--policy=seq" ∷ codes "--policy=seq" ∷ []) ≡ None
a_policy_stands_once = refl

an_option_is_refused : order_of (codes "run" ∷ codes "--help" ∷ []) ≡ None
an_option_is_refused = refl

a_load : order_of (codes "load" ∷ codes "007" ∷ codes "--policy" ∷ codes "down" ∷ [])
    ≡ Some (record { command = Load; policy = policy.Down; params = []; load = 7 })
a_load = refl

a_load_has_one_number : order_of (codes "load" ∷ codes "2" ∷ codes "3" ∷ []) ≡ None
a_load_has_one_number = refl

a_load_has_no_parameter : order_of (codes "load" ∷ codes "N=3" ∷ []) ≡ None
a_load_has_no_parameter = refl
