-- Parts read from an input one after another.
use Rattle.std.proofs.Common.{◌≡◌, ℕ, ◌<◌, List, refl, sym, ap, subst, ◌∙◌, Option, Some, None, inl, inr}
use Rattle.tab_io.specs.declared.reading.Input.{Ghosts}
use Rattle.tab_codec.specs.Reading.{Reader}
use Rattle.tab_codec.proofs.Exact.{some_inj, bind_some}
use Rattle.tab_image.specs.declared.unread.Unread.{Unread}
use Rattle.tab_image.specs.declared.unread.Unread.TheVariants as unread
use Rattle.tab_image.specs.Reading.{◌>>=◌, made, picked_by}
use Rattle.tab_image.specs.Streams.{Leaves, Lacks, ReadFailed, HasRead, Stops}

-- ---- over known bytes
pub none_some : {X : Type 0} (x : X) → None ≡ Some x → ⊥
none_some x e = absurd cc

leaves_then : {A B : Type 0} (a b c : Option (List ℕ)) (r : Reader A) (q : A → Reader B) (x : A) (y : B) → Leaves a b r x → Leaves b c (q x) y → Leaves a c (r >>= q) y
unfolding ◌>>=◌
leaves_then None b c r q x y p s = tt
leaves_then (Some bytes) None c r q x y p s = absurd (none_some p.0 p.2)
leaves_then (Some bytes) (Some mid) c r q x y p s =
    (s.0, bind_some (r bytes) (x, p.0) (λ z. q z.0 z.1) (Some (y, s.0)) p.1 (ap (q x) (sym (some_inj mid p.0 p.2)) ∙ s.1), s.2)

lacks_then : {A B : Type 0} (a b : Option (List ℕ)) (r : Reader A) (q : A → Reader B) (x : A) → Leaves a b r x → Lacks b (q x) → Lacks a (r >>= q)
unfolding ◌>>=◌
lacks_then None b r q x p s = tt
lacks_then (Some bytes) None r q x p s = absurd (none_some p.0 p.2)
lacks_then (Some bytes) (Some mid) r q x p s = bind_some (r bytes) (x, p.0) (λ z. q z.0 z.1) None p.1 (ap (q x) (sym (some_inj mid p.0 p.2)) ∙ s)

lacks_first : {A B : Type 0} (a : Option (List ℕ)) (r : Reader A) (q : A → Reader B) → Lacks a r → Lacks a (r >>= q)
unfolding ◌>>=◌
lacks_first None r q s = tt
lacks_first (Some bytes) r q s = rw s refl

leaves_made : {A : Type 0} (a : Option (List ℕ)) (x : A) → Leaves a a (made x) x
unfolding made
leaves_made None x = tt
leaves_made (Some bytes) x = (bytes, refl, refl)

leaves_pick : {A B : Type 0} (a b : Option (List ℕ)) (pick : A → Option B) (r : Reader A) (x : A) (y : B) → Leaves a b r x → pick x ≡ Some y → Leaves a b (picked_by pick r) y
unfolding picked_by
leaves_pick None b pick r x y p e = tt
leaves_pick (Some bytes) b pick r x y p e = (p.0, rw p.1 (rw e refl), p.2)

lacks_pick : {A B : Type 0} (a b : Option (List ℕ)) (pick : A → Option B) (r : Reader A) (x : A) → Leaves a b r x → pick x ≡ None → Lacks a (picked_by pick r)
unfolding picked_by
lacks_pick None b pick r x p e = tt
lacks_pick (Some bytes) b pick r x p e = rw p.1 (rw e refl)

lacks_picked : {A B : Type 0} (a : Option (List ℕ)) (pick : A → Option B) (r : Reader A) → Lacks a r → Lacks a (picked_by pick r)
unfolding picked_by
lacks_picked None pick r s = tt
lacks_picked (Some bytes) pick r s = rw s refl

-- a fault that is counted, after calls that counted none
pub later_failed : {R : Type 0} (g : Ghosts R) (a b c : R) → g.faults b ≡ g.faults a → ReadFailed g b c → ReadFailed g a c
later_failed g a b c same (inl spent) = inl spent
later_failed g a b c same (inr counted) = inr (subst (λ (n : ℕ). n < g.faults c) same counted)

-- ---- one part, and what it leads to
module _ {R A B : Type 0} (g : Ghosts R) where
  pub read_then : (a b c : R) (r : Reader A) (q : A → Reader B) (x : A) (y : B) → HasRead g a b r x → HasRead g b c (q x) y → HasRead g a c (r >>= q) y
  read_then a b c r q x y p s = record { bytes = leaves_then (g.remaining a) (g.remaining b) (g.remaining c) r q x y p.bytes s.bytes; faults = s.faults ∙ p.faults }

  pub stops_first : (a b : R) (r : Reader A) (q : A → Reader B) (e : Unread) → Stops g a b r e → Stops g a b (r >>= q) e
  stops_first a b r q unread.Bad s = record { why = lacks_first (g.remaining a) r q s.why }
  stops_first a b r q unread.Io s = record { why = s.why }
  stops_first a b r q unread.NoMemory s = record { why = tt }

  pub stops_later : (a b c : R) (r : Reader A) (q : A → Reader B) (x : A) (e : Unread) → HasRead g a b r x → Stops g b c (q x) e → Stops g a c (r >>= q) e
  stops_later a b c r q x unread.Bad p s = record { why = lacks_then (g.remaining a) (g.remaining b) r q x p.bytes s.why }
  stops_later a b c r q x unread.Io p s = record { why = later_failed g a b c p.faults s.why }
  stops_later a b c r q x unread.NoMemory p s = record { why = tt }

  -- where something is picked
  pub read_pick : (a b : R) (pick : A → Option B) (r : Reader A) (x : A) (y : B) → HasRead g a b r x → pick x ≡ Some y → HasRead g a b (picked_by pick r) y
  read_pick a b pick r x y p e = record { bytes = leaves_pick (g.remaining a) (g.remaining b) pick r x y p.bytes e; faults = p.faults }

  pub stops_pick : (a b : R) (pick : A → Option B) (r : Reader A) (x : A) → HasRead g a b r x → pick x ≡ None → Stops g a b (picked_by pick r) unread.Bad
  stops_pick a b pick r x p e = record { why = lacks_pick (g.remaining a) (g.remaining b) pick r x p.bytes e }

  pub stops_picked : (a b : R) (pick : A → Option B) (r : Reader A) (e : Unread) → Stops g a b r e → Stops g a b (picked_by pick r) e
  stops_picked a b pick r unread.Bad s = record { why = lacks_picked (g.remaining a) pick r s.why }
  stops_picked a b pick r unread.Io s = record { why = s.why }
  stops_picked a b pick r unread.NoMemory s = record { why = tt }

-- nothing is left to be read
pub read_made : {R A : Type 0} (g : Ghosts R) (a : R) (x : A) → HasRead g a a (made x) x
read_made g a x = record { bytes = leaves_made (g.remaining a) x; faults = refl }

-- want of memory says nothing
pub no_memory : {R A : Type 0} (g : Ghosts R) (a b : R) (r : Reader A) → Stops g a b r unread.NoMemory
no_memory g a b r = record { why = tt }

-- a read that failed
pub failed : {R A : Type 0} (g : Ghosts R) (a b : R) (r : Reader A) → ReadFailed g a b → Stops g a b r unread.Io
failed g a b r h = record { why = h }

-- what closes the clauses of a function that reads several parts
pub ruleset reading = (read_then, stops_first, stops_later, read_pick, stops_pick, stops_picked, read_made, no_memory, failed)
