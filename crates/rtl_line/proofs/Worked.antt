-- The definitions at some words.
--
-- Examples that are computed: beside the words of a command line stands the order that `order_of` reads from them, or
-- that there is none. The flag may stand twice, and a policy or the ports may not; what stands behind `--` is no flag,
-- and a command is no word of this program. They say nothing of other words, and no proof rests on them: they show
-- that the definitions mean what the program's page says.
use Rattle.std.proofs.Common.{◌≡◌, refl, codes, true, false, [], ◌∷◌, Some, None, pos}
use Rattle.rtl_line.specs.declared.words.Policy.TheVariants as policy
use Rattle.rtl_line.specs.declared.words.Ports.TheVariants.{One, All}
use Rattle.rtl_line.specs.Words.{order_of}

an_order_of_clocks : order_of (codes "--clocks" ∷ codes "N=3" ∷ codes "--policy" ∷ codes "least" ∷ [])
    ≡ Some (record { policy = policy.Least; ports = One; clocks = true; params = (codes "N", pos 3) ∷ [] })
an_order_of_clocks = refl

no_words_are_an_order : order_of []
    ≡ Some (record { policy = policy.Seq; ports = One; clocks = false; params = [] })
no_words_are_an_order = refl

the_flag_may_stand_twice : order_of (codes "--clocks" ∷ codes "--clocks" ∷ codes "--policy=down" ∷ [])
    ≡ Some (record { policy = policy.Down; ports = One; clocks = true; params = [] })
the_flag_may_stand_twice = refl

a_flag_behind_dashes_is_an_item : order_of (codes "--" ∷ codes "--clocks" ∷ []) ≡ None
a_flag_behind_dashes_is_an_item = refl

a_policy_stands_once : order_of (codes "--policy=least" ∷ codes "--policy=least" ∷ []) ≡ None
a_policy_stands_once = refl

-- the value of the ports may be the next word or stand behind `=`, and the flag may come later
the_clocks_of_all_ports : order_of (codes "--ports" ∷ codes "all" ∷ codes "N=3" ∷ codes "--clocks" ∷ [])
    ≡ Some (record { policy = policy.Seq; ports = All; clocks = true; params = (codes "N", pos 3) ∷ [] })
the_clocks_of_all_ports = refl

one_port_is_what_is_taken_else : order_of (codes "--ports=one" ∷ [])
    ≡ Some (record { policy = policy.Seq; ports = One; clocks = false; params = [] })
one_port_is_what_is_taken_else = refl

a_design_of_all_ports : order_of (codes "--ports=all" ∷ [])
    ≡ Some (record { policy = policy.Seq; ports = All; clocks = false; params = [] })
a_design_of_all_ports = refl

ports_stand_once : order_of (codes "--clocks" ∷ codes "--ports=all" ∷ codes "--ports=all" ∷ []) ≡ None
ports_stand_once = refl

other_ports_are_refused : order_of (codes "--clocks" ∷ codes "--ports" ∷ codes "two" ∷ []) ≡ None
other_ports_are_refused = refl

ports_have_a_value : order_of (codes "--clocks" ∷ codes "--ports" ∷ []) ≡ None
ports_have_a_value = refl

a_command_is_refused : order_of (codes "vhdl" ∷ codes "N=3" ∷ []) ≡ None
a_command_is_refused = refl
