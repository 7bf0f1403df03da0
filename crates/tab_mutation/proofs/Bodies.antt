-- Updates in a body that grows.
use Rattle.std.proofs.Common.{◌≡◌, ℕ, ◌≤◌, List, [], ◌∷◌, ◌++◌, length, take, arith}
use Rattle.std.specs.Prelude.{map}
use Rattle.std.specs.List.{AllByRecursion}
use Rattle.tab_key.proofs.Bodies.{same_part, no_shorter, all_same, all_pushed, reads_pushed}
use Rattle.tab_mutation.specs.UpdateSpans.{update_in, IsWithin}
use Rattle.tab_mutation.specs.Mutations.{Update, IsBare}
use Rattle.tab_mutation.specs.declared.update_span.UpdateSpan.{UpdateSpan}

same_update : (old new : List ℕ) (p : UpdateSpan) → take (length old) new ≡ old → IsWithin old p → update_in new p ≡ update_in old p
same_update old new p front w =
    let family = same_part old new front p.start p.family_end w.family (omega arith) in
    let qualifier = same_part old new front p.family_end p.qualifier_end w.qualifier (omega arith) in
    let label = same_part old new front p.qualifier_end p.label_end w.label (omega arith) in
    let value = same_part old new front p.label_end p.end w.value w.whole in
    λ i. record { kind = p.kind; family = family i; qualifier = qualifier i; label = label i; timestamp = p.timestamp; value = value i }

update_within : (old new : List ℕ) (p : UpdateSpan) → take (length old) new ≡ old → IsWithin old p → IsWithin new p
update_within old new p front w =
    let longer : length old ≤ length new = no_shorter old new front in
    record { family = w.family; qualifier = w.qualifier; label = w.label; value = w.value; whole = omega (arith, w.whole) }

-- updates in the front are what they were
pub same_updates : (old new : List ℕ) (ps : List UpdateSpan) → take (length old) new ≡ old → AllByRecursion (IsWithin old) ps → map (update_in new) ps ≡ map (update_in old) ps
same_updates = all_same IsWithin update_in same_update update_within

-- one more update: in the grown body all lie within, and the updates are those from before and the new one
pub pushed_within : (old new : List ℕ) (ps now : List UpdateSpan) (p : UpdateSpan) → now ≡ ps ++ p ∷ [] → take (length old) new ≡ old → AllByRecursion (IsWithin old) ps → IsWithin new p → AllByRecursion (IsWithin new) now
pushed_within = all_pushed IsWithin update_in same_update update_within

pub pushed_updates : (old new : List ℕ) (ps now : List UpdateSpan) (p : UpdateSpan) (u : Update) → now ≡ ps ++ p ∷ [] → take (length old) new ≡ old → AllByRecursion (IsWithin old) ps → update_in new p ≡ u → map (update_in new) now ≡ map (update_in old) ps ++ u ∷ []
pushed_updates = reads_pushed IsWithin update_in same_update update_within

-- what holds of each update holds of one more
pub bare_pushed : (us : List Update) (u : Update) → AllByRecursion IsBare us → IsBare u → AllByRecursion IsBare (us ++ u ∷ [])
bare_pushed [] u a b = (b, tt)
bare_pushed (x ∷ us) u a b = (a.0, bare_pushed us u a.1 b)

-- updates in the front lie in a body that grew
pub all_within : (old new : List ℕ) (ps : List UpdateSpan) → take (length old) new ≡ old → AllByRecursion (IsWithin old) ps → AllByRecursion (IsWithin new) ps
all_within old new [] front w = tt
all_within old new (p ∷ ps) front w = (update_within old new p front w.0, all_within old new ps front w.1)
