-- No port of the network is named as one of the network's signals and parts, whose names end in a number.
--
-- The last byte tells it: that of a text with something behind it is that of what is behind it. A number in decimal has digits
-- alone, and each ending of a port has a letter last or, between backslashes, a backslash; so has each fixed name. What stands
-- before the number doesn't matter, so this is said of names that the network has not, too.
use Rattle.std.proofs.Common.{◌≡◌, ◌≢◌, ◌<◌, ◌≤◌, ◌^◌, ◌∙◌, ℕ, zero, suc, Bool, true, false, cond, List, [], ◌∷◌, ◌++◌}
use Rattle.std.proofs.Common.{All, codes, decimal, eqb, get_or, length, map, slice_index_or, refl, sym, ap, subst, arith}
use Rattle.std.specs.Char.{digit_value}
use Rattle.std.specs.Str.Parse.{AllDigits}
use Rattle.std.proofs.lemmas.Fmt.{decimal_is_IsNumeral}
use Rattle.sanlp.specs.declared.nest.Nest.{Nest}
use Rattle.net_core.specs.declared.network.Network.{Network}
use Rattle.unit_text.specs.declared.unit.Unit.{Unit}
use Rattle.rtl_text.specs.Designs.{AreUnitsOf}
use Rattle.rtl_text.specs.Names.{as_read}
use Rattle.rtl_text.specs.Ports.{network_ports}
use Rattle.rtl_text.proofs.Differences.{Each, each_append, each_of_map}
use Rattle.rtl_text.proofs.NetworkPorts.{Key, key_name, keys, ports_have_keys, with_fixed}
use Rattle.rtl_text.proofs.PortNames.{Ending, ready, ready_out, text, valid, valid_out, value, value_out}

last : List ℕ → ℕ
last [] = 0
last (x ∷ []) = x
last (x ∷ (y ∷ xs)) = last (y ∷ xs)

last_behind : (xs : List ℕ) (y : ℕ) (ys : List ℕ) → last (xs ++ y ∷ ys) ≡ last (y ∷ ys)
unfolding last
last_behind [] y ys = refl
last_behind (x ∷ []) y ys = refl
last_behind (x ∷ (z ∷ xs)) y ys = last_behind (z ∷ xs) y ys

-- a digit, or none

last_digit : (xs : List ℕ) → 0 < length xs → AllDigits 10 xs → digit_value (last xs) < 10
unfolding last
last_digit [] some all = absurd (omega arith)
last_digit (x ∷ []) some all = all.0
last_digit (x ∷ (y ∷ xs)) some all = last_digit (y ∷ xs) (omega arith) all.1

behind_digits : (word xs : List ℕ) → 0 < length xs → AllDigits 10 xs → digit_value (last (word ++ xs)) < 10
behind_digits word [] some all = absurd (omega arith)
behind_digits word (x ∷ xs) some all =
    subst (λ (d : ℕ). d < 10) (sym (ap digit_value (last_behind word x xs))) (last_digit (x ∷ xs) some all)

number_end : (word : List ℕ) (n : ℕ) → n < 2 ^ 64 → digit_value (last (word ++ decimal n)) < 10
number_end word n small =
    let is = decimal_is_IsNumeral n small in
    behind_digits word (decimal n) is.0.0 is.0.1

no_digit : (xs : List ℕ) (y : ℕ) (ys : List ℕ) (k : ℕ) → digit_value (last (y ∷ ys)) ≡ k → 10 ≤ k
    → 10 ≤ digit_value (last (xs ++ y ∷ ys))
no_digit xs y ys k is le = subst (λ (d : ℕ). 10 ≤ d) (sym (ap digit_value (last_behind xs y ys) ∙ is)) le

ends_by : (p : List ℕ) (s : Ending) (b : Bool)
    → 10 ≤ digit_value (last (cond b (p ++ (text s ++ 92 ∷ [])) (p ++ text s)))
unfolding last
ends_by p value true = no_digit p 95 (codes "data\\") 36 refl (omega arith)
ends_by p valid true = no_digit p 95 (codes "valid\\") 36 refl (omega arith)
ends_by p ready true = no_digit p 95 (codes "ready\\") 36 refl (omega arith)
ends_by p value_out true = no_digit p 95 (codes "data_out\\") 36 refl (omega arith)
ends_by p valid_out true = no_digit p 95 (codes "valid_out\\") 36 refl (omega arith)
ends_by p ready_out true = no_digit p 95 (codes "ready_out\\") 36 refl (omega arith)
ends_by p value false = no_digit p 95 (codes "data") 10 refl (omega arith)
ends_by p valid false = no_digit p 95 (codes "valid") 13 refl (omega arith)
ends_by p ready false = no_digit p 95 (codes "ready") 34 refl (omega arith)
ends_by p value_out false = no_digit p 95 (codes "data_out") 29 refl (omega arith)
ends_by p valid_out false = no_digit p 95 (codes "valid_out") 29 refl (omega arith)
ends_by p ready_out false = no_digit p 95 (codes "ready_out") 29 refl (omega arith)

-- The ports

module _ (word : List ℕ) (n : ℕ) (small : n < 2 ^ 64) where
  abbrev Other : List ℕ → Type 0
  Other name = name ≢ word ++ decimal n

  other : (name : List ℕ) → 10 ≤ digit_value (last name) → Other name
  other name ends = λ e. absurd (omega (arith, ends, number_end word n small, ap (λ (x : List ℕ). digit_value (last x)) e))

  keys_other : (ks : List Key) → Each Other (map key_name ks)
  keys_other [] = tt
  keys_other (k ∷ ks) = (other (key_name k) (ends_by k.0 k.1 (eqb (get_or k.0 0 0) 92)), keys_other ks)

  fixed_other : (ks : List Key) → Each Other (with_fixed (map key_name ks))
  unfolding last
  fixed_other ks = (
    other (codes "clk") (omega arith),
    (
      other (codes "rst") (omega arith),
      (
        other (codes "again") (omega arith),
        each_append Other (map key_name ks) (codes "done" ∷ []) (keys_other ks) (other (codes "done") (omega arith), tt),
      ),
    ),
  )

at_each : {X : Type 0} (P : X → Type 0) (xs : List X) → Each P xs → (k : ℕ) (d : X) → k < length xs
    → P (slice_index_or xs k d)
at_each P [] each k d lt = absurd (omega arith)
at_each P (x ∷ xs) each zero d lt = each.0
at_each P (x ∷ xs) each (suc k) d lt = at_each P xs each.1 k d (omega arith)

pub no_port_is_numbered : (nest : Nest) (network : Network) (units : List Unit) → AreUnitsOf nest network units
    → (word : List ℕ) (n : ℕ) → n < 2 ^ 64
    → All (λ (port : List ℕ × List ℕ). as_read port.0 ≢ word ++ decimal n) (network_ports nest units)
no_port_is_numbered nest network units are word n small =
    at_each (λ (port : List ℕ × List ℕ). as_read port.0 ≢ word ++ decimal n) (network_ports nest units)
    (each_of_map (λ (port : List ℕ × List ℕ). as_read port.0) (λ (name : List ℕ). name ≢ word ++ decimal n)
    (network_ports nest units)
    (subst (λ (names : List (List ℕ)). Each (λ (name : List ℕ). name ≢ word ++ decimal n) names)
    (sym (ports_have_keys nest network units are)) (fixed_other word n small (keys nest))))
