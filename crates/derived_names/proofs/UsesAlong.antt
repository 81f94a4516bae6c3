-- The uses of a channel along a script.
use Rattle.std.proofs.Common.{◌≡◌, ℕ, suc, ◌+◌, List, [], ◌∷◌, ◌++◌, length, drop, ap, ◌∙◌, arith}
use Rattle.std.specs.List.{flat_map}
use Rattle.std.proofs.lemmas.List.{append-nil}
use Rattle.plain_data.proofs.Lists.{drop_parts}
use Rattle.net_core.specs.declared.network.Event.{Event}
use Rattle.net_core.specs.declared.network.Event.TheVariants.{Fire}
use Rattle.net_core.specs.declared.refs.Ref.{Ref}
use Rattle.net_core.specs.Machine.{Net}
use Rattle.net_core.specs.Names.{latest_gets}
use Rattle.net_core.specs.Uses.{use_of, uses_before, uses_of}
use Rattle.sanlp.proofs.Each.{Each}
use Rattle.derived_names.proofs.Fires.{IsNoFire}

-- Gets and Puts use nothing
pub passed : (n : Net) (c p k : ℕ) (es rest : List Event) → drop k (n.script p) ≡ es ++ rest → Each IsNoFire es
    → uses_before n c p (k + length es) ≡ uses_before n c p k
passed n c p k [] rest e h = let same : k + 0 ≡ k = omega arith in ap (uses_before n c p) same
passed n c p k (Fire refs ∷ es) rest e h = absurd h.0
passed n c p k (x ∷ es) rest e h =
    let next : k + suc (length es) ≡ suc k + length es = omega arith in
    ap (uses_before n c p) next
    ∙ passed n c p (suc k) es rest (drop_parts (n.script p) k x (es ++ rest) e).1 h.1
    ∙ ap (λ o. uses_before n c p k ++ uses_of c (latest_gets n p k) o) (drop_parts (n.script p) k x (es ++ rest) e).0
    ∙ append-nil (uses_before n c p k)

pub fire_adds : (n : Net) (c p k : ℕ) (refs : List Ref) (rest : List Event) → drop k (n.script p) ≡ Fire refs ∷ rest
    → uses_before n c p (suc k) ≡ uses_before n c p k ++ flat_map (use_of c (latest_gets n p k)) refs
fire_adds n c p k refs rest e =
    ap (λ o. uses_before n c p k ++ uses_of c (latest_gets n p k) o) (drop_parts (n.script p) k (Fire refs) rest e).0
