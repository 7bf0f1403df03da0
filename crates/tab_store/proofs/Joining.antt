-- Two chains of which one begins where the other ends are one chain.
use Rattle.std.proofs.Common.{List, [], ◌∷◌, ◌++◌, subst}
use Rattle.tab_history.specs.Histories.{Entry}
use Rattle.tab_history.specs.Chains.{IsChain}

pub chain_join : {Core : Type 0} (goes : Core → Entry → Core → Type 0) (first middle last : Core) (es fs : List Entry) → IsChain goes first es middle → IsChain goes middle fs last → IsChain goes first (fs ++ es) last
chain_join goes first middle last es [] c d = subst (λ h. IsChain goes first es h) d c
chain_join goes first middle last es (f ∷ fs) c d = (d.0, chain_join goes first middle d.0 es fs c d.1, d.2)
