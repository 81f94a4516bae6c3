-- Runs of the network of two processes.
use Rattle.std.proofs.Common.{◌≡◌, [], ◌∷◌, refl, sym, ap, ◌∙◌, subst}
use Rattle.net_core.specs.declared.network.Network.{Network}
use Rattle.net_core.specs.Machine.{IsRun, State, after, net_of, start}
use Rattle.net_core.specs.Rules.{tags}
use Rattle.sanlp.specs.declared.nest.Tag.{Tag}
use Rattle.network_tests.specs.Examples.{hand_on}

-- the writer fires and puts its value
pub writer_runs : (network : Network) (s : State Tag) → network ≡ hand_on → s ≡ start (net_of network)
    → IsRun (net_of network) tags s (0 ∷ 0 ∷ [])
writer_runs network s e f =
    subst (λ x. IsRun (net_of network) tags x (0 ∷ 0 ∷ [])) (sym f)
    (subst (λ (n : Network). IsRun (net_of n) tags (start (net_of n)) (0 ∷ 0 ∷ [])) (sym e) (refl, (refl, tt)))

-- then the reader gets it and fires
pub reader_runs : (network : Network) (s s' : State Tag) → network ≡ hand_on → s ≡ start (net_of network)
    → s' ≡ after (net_of network) tags s (0 ∷ 0 ∷ [])
    → IsRun (net_of network) tags s' (1 ∷ 1 ∷ [])
reader_runs network s s' e f g =
    subst (λ x. IsRun (net_of network) tags x (1 ∷ 1 ∷ []))
    (sym (g ∙ ap (λ x. after (net_of network) tags x (0 ∷ 0 ∷ [])) f))
    (subst (λ (n : Network). IsRun (net_of n) tags (after (net_of n) tags (start (net_of n)) (0 ∷ 0 ∷ [])) (1 ∷ 1 ∷ []))
    (sym e) (refl, (refl, tt)))
